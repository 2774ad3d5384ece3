-- Decoding and encoding one instruction undo each other.
use Rattle.std.proofs.Common.{◌≡◌, ℕ, ◌<◌, ◌≤◌, Bool, true, cond, eqb, ltb, ℤ, pos, negsuc, Some, None, sym, refl, ap, ◌∙◌, subst, arith}
use Rattle.book.proofs.Outcomes.{some_same, none_some, by_test}
use Rattle.book.specs.Codes.{code_of, argument_of, bounded, alone, decoded}
use Rattle.book.specs.declared.instruction.Instruction.{Instruction}
use Rattle.book.specs.declared.instruction.Instruction.TheVariants.{Stop, Number, Figure, Clock, Operate, Store, If, Repeat, Wait, Else, End}
use Rattle.book.specs.declared.instruction.Operation.TheVariants.{Add, Subtract, Multiply, Divide, Less, Equal}
use Rattle.std.proofs.lemmas.Bool.{eqb-true, ltb-true, lt-ltb}

-- the argument of an instruction is in its range, in a book of nv figures
abbrev pub Valid : ℕ → Instruction → Type 0
Valid nv (Figure v) = v < nv
Valid nv (Store v) = v < nv
Valid nv (Repeat n) = n ≤ 1000
Valid nv (Wait n) = n ≤ 1000
Valid nv _ = Unit {0}

-- i is what this code and argument stand for
pub record Decoded (nv c : ℕ) (z : ℤ) (i : Instruction) : Type 0 where
  pub code_is : code_of i ≡ c
  pub argument_is : argument_of i ≡ z
  pub valid : Valid nv i

-- an argument below a limit, for an instruction whose code is k
bounded_is : (nv c k limit : ℕ) (make : ℕ → Instruction) (z : ℤ) (i : Instruction) → ((n : ℕ) → code_of (make n) ≡ k) → ((n : ℕ) → n < limit → (argument_of (make n) ≡ pos n) × Valid nv (make n)) → eqb c k ≡ true → bounded limit make z ≡ Some i → Decoded nv c z i
bounded_is nv c k limit make (pos n) i codes rest b e =
    by_test (ltb n limit) (Some (make n)) None (Some i)
    (λ t s.
    let fits = rest n (ltb-true n limit t) in
    subst (Decoded nv c (pos n)) (some_same (make n) i s) (record { code_is = codes n ∙ sym (eqb-true c k b); argument_is = fits.0; valid = fits.1 }))
    (λ t s. absurd (none_some i s))
    e
bounded_is nv c k limit make (negsuc n) i codes rest b e = absurd (none_some i e)

-- an instruction without an argument, whose code is k
alone_is : (nv c k : ℕ) (j : Instruction) (z : ℤ) (i : Instruction) → code_of j ≡ k → argument_of j ≡ pos 0 → Valid nv j → eqb c k ≡ true → alone j z ≡ Some i → Decoded nv c z i
alone_is nv c k j z i code zero' valid b e = bounded_is nv c k 1 (λ _. j) z i (λ n. code) (λ n l. (zero' ∙ ap pos (omega arith), valid)) b e

-- By the chain of codes: each test either decides the instruction or hands on to the next.
pub decoded_is : (nv c : ℕ) (z : ℤ) (i : Instruction) → decoded nv c z ≡ Some i → Decoded nv c z i
decoded_is nv c z i =
    by_test (eqb c 1) _ _ (Some i) (λ b e. subst (Decoded nv c z) (some_same (Number z) i e) (record { code_is = sym (eqb-true c 1 b); argument_is = refl; valid = tt }))
    (λ _. by_test (eqb c 2) _ _ (Some i) (bounded_is nv c 2 nv Figure z i (λ n. refl) (λ n l. (refl, l)))
    (λ _. by_test (eqb c 3) _ _ (Some i) (alone_is nv c 3 Clock z i refl refl tt)
    (λ _. by_test (eqb c 4) _ _ (Some i) (alone_is nv c 4 (Operate Add) z i refl refl tt)
    (λ _. by_test (eqb c 5) _ _ (Some i) (alone_is nv c 5 (Operate Subtract) z i refl refl tt)
    (λ _. by_test (eqb c 6) _ _ (Some i) (alone_is nv c 6 (Operate Multiply) z i refl refl tt)
    (λ _. by_test (eqb c 7) _ _ (Some i) (alone_is nv c 7 (Operate Divide) z i refl refl tt)
    (λ _. by_test (eqb c 8) _ _ (Some i) (alone_is nv c 8 (Operate Less) z i refl refl tt)
    (λ _. by_test (eqb c 9) _ _ (Some i) (alone_is nv c 9 (Operate Equal) z i refl refl tt)
    (λ _. by_test (eqb c 10) _ _ (Some i) (bounded_is nv c 10 nv Store z i (λ n. refl) (λ n l. (refl, l)))
    (λ _. by_test (eqb c 11) _ _ (Some i) (alone_is nv c 11 If z i refl refl tt)
    (λ _. by_test (eqb c 12) _ _ (Some i) (bounded_is nv c 12 1001 Repeat z i (λ n. refl) (λ n l. (refl, omega arith)))
    (λ _. by_test (eqb c 13) _ _ (Some i) (bounded_is nv c 13 1001 Wait z i (λ n. refl) (λ n l. (refl, omega arith)))
    (λ _. by_test (eqb c 14) _ _ (Some i) (alone_is nv c 14 Else z i refl refl tt)
    (λ _. by_test (eqb c 15) _ _ (Some i) (alone_is nv c 15 End z i refl refl tt)
    (λ _. by_test (eqb c 16) _ _ (Some i) (alone_is nv c 16 Stop z i refl refl tt)
    (λ _ e. absurd (none_some i e)))))))))))))))))

-- a valid instruction is what its own code and argument stand for
pub decoded_valid : (nv : ℕ) (i : Instruction) → Valid nv i → decoded nv (code_of i) (argument_of i) ≡ Some i
decoded_valid nv (Number z) h = refl
decoded_valid nv (Figure v) h = rw (lt-ltb v nv h)
decoded_valid nv Clock h = refl
decoded_valid nv (Operate Add) h = refl
decoded_valid nv (Operate Subtract) h = refl
decoded_valid nv (Operate Multiply) h = refl
decoded_valid nv (Operate Divide) h = refl
decoded_valid nv (Operate Less) h = refl
decoded_valid nv (Operate Equal) h = refl
decoded_valid nv (Store v) h = rw (lt-ltb v nv h)
decoded_valid nv If h = refl
decoded_valid nv (Repeat n) h = let below : n < 1001 = omega arith in rw (lt-ltb n 1001 below)
decoded_valid nv (Wait n) h = let below : n < 1001 = omega arith in rw (lt-ltb n 1001 below)
decoded_valid nv Else h = refl
decoded_valid nv End h = refl
decoded_valid nv Stop h = refl

-- a test that lets one instruction pass or none
only : (b : Bool) (i j : Instruction) → cond b (Some i) None ≡ Some j → i ≡ j
only b i j e = by_test b (Some i) None (Some j) (λ _ s. some_same i j s) (λ _ s. absurd (none_some j s)) e

-- an instruction's code and argument stand for no other instruction
pub decoded_same : (nv : ℕ) (i j : Instruction) → decoded nv (code_of i) (argument_of i) ≡ Some j → i ≡ j
decoded_same nv (Number z) j e = some_same (Number z) j e
decoded_same nv (Figure v) j e = only (ltb v nv) (Figure v) j e
decoded_same nv Clock j e = some_same Clock j e
decoded_same nv (Operate Add) j e = some_same (Operate Add) j e
decoded_same nv (Operate Subtract) j e = some_same (Operate Subtract) j e
decoded_same nv (Operate Multiply) j e = some_same (Operate Multiply) j e
decoded_same nv (Operate Divide) j e = some_same (Operate Divide) j e
decoded_same nv (Operate Less) j e = some_same (Operate Less) j e
decoded_same nv (Operate Equal) j e = some_same (Operate Equal) j e
decoded_same nv (Store v) j e = only (ltb v nv) (Store v) j e
decoded_same nv If j e = some_same If j e
decoded_same nv (Repeat n) j e = only (ltb n 1001) (Repeat n) j e
decoded_same nv (Wait n) j e = only (ltb n 1001) (Wait n) j e
decoded_same nv Else j e = some_same Else j e
decoded_same nv End j e = some_same End j e
decoded_same nv Stop j e = some_same Stop j e
