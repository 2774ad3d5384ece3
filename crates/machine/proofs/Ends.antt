-- Looking for an end passes over a formed stretch, so that the end of a block is found right behind its inside.
use Rattle.std.proofs.Common.{◌≡◌, ℕ, suc, ◌+◌, ◌-◌, eqb, List, ◌∷◌, ◌++◌, length, ap, ◌∙◌, arith}
use Rattle.book.specs.declared.instruction.Instruction.{Instruction}
use Rattle.book.specs.declared.instruction.Instruction.TheVariants.{Else, End}
use Rattle.book.specs.Forms.{Formed, ends, number, figure, clock, operate, store, wait, one_part, two_parts, turns}
use Rattle.book.specs.Trees.{Code, flat}
use Rattle.machine.specs.Jumps.{end_from}
use Rattle.std.proofs.lemmas.List.{append_assoc, length-append}
use Rattle.std.proofs.lemmas.Bool.{cond-false, ne_eqb}

-- the same search from places that are the same
moved : (e p q : ℕ) (is : List Instruction) → p ≡ q → end_from e p is ≡ end_from e q is
moved e p q is same = ap (λ x. end_from e x is) same

-- the end of an inner block closes it
pass_end : (e p : ℕ) (is : List Instruction) → end_from (e + 1) p (End ∷ is) ≡ end_from e (p + 1) is
pass_end e p is =
    let outside : e + 1 - 1 ≡ e = omega arith in
    cond-false (eqb (e + 1) 0) p (end_from (e + 1 - 1) (p + 1) is) (ne_eqb (e + 1) 0 (λ z. omega arith)) ∙ ap (λ x. end_from x (p + 1) is) outside

-- By induction on how the stretch is formed: a plain instruction moves on by one place, and a block is open just as long
-- as its parts last.
pub end_flat : {nv d h : ℕ} {c : Code} → Formed nv d h c → (e p : ℕ) (is : List Instruction) → end_from e p (flat c ++ is) ≡ end_from e (p + length (flat c)) is
end_flat ends e p is = moved e p (p + 0) is (omega arith)
end_flat (number {c} r f) e p is = end_flat f e (p + 1) is ∙ moved e (p + 1 + length (flat c)) (p + suc (length (flat c))) is (omega arith)
end_flat (figure {c} b r f) e p is = end_flat f e (p + 1) is ∙ moved e (p + 1 + length (flat c)) (p + suc (length (flat c))) is (omega arith)
end_flat (clock {c} r f) e p is = end_flat f e (p + 1) is ∙ moved e (p + 1 + length (flat c)) (p + suc (length (flat c))) is (omega arith)
end_flat (operate {c} f) e p is = end_flat f e (p + 1) is ∙ moved e (p + 1 + length (flat c)) (p + suc (length (flat c))) is (omega arith)
end_flat (store {c} b f) e p is = end_flat f e (p + 1) is ∙ moved e (p + 1 + length (flat c)) (p + suc (length (flat c))) is (omega arith)
end_flat (wait {c} b f) e p is = end_flat f e (p + 1) is ∙ moved e (p + 1 + length (flat c)) (p + suc (length (flat c))) is (omega arith)
end_flat (one_part {f} {c} q r) e p is =
    let F = length (flat f) in
    ap (λ l. end_from (e + 1) (p + 1) l) (append_assoc (flat f) (End ∷ flat c) is)
    ∙ end_flat q (e + 1) (p + 1) (End ∷ (flat c ++ is))
    ∙ pass_end e (p + 1 + F) (flat c ++ is)
    ∙ end_flat r e (p + 1 + F + 1) is
    ∙ moved e (p + 1 + F + 1 + length (flat c)) (p + suc (length (flat f ++ (End ∷ flat c)))) is (omega (arith, length-append (flat f) (End ∷ flat c)))
end_flat (two_parts {f} {s} {c} q t r) e p is =
    let F = length (flat f) in
    let S = length (flat s) in
    ap (λ l. end_from (e + 1) (p + 1) l) (append_assoc (flat f) (Else ∷ (flat s ++ (End ∷ flat c))) is)
    ∙ ap (λ l. end_from (e + 1) (p + 1) (flat f ++ (Else ∷ l))) (append_assoc (flat s) (End ∷ flat c) is)
    ∙ end_flat q (e + 1) (p + 1) (Else ∷ (flat s ++ (End ∷ (flat c ++ is))))
    ∙ end_flat t (e + 1) (p + 1 + F + 1) (End ∷ (flat c ++ is))
    ∙ pass_end e (p + 1 + F + 1 + S) (flat c ++ is)
    ∙ end_flat r e (p + 1 + F + 1 + S + 1) is
    ∙ moved e (p + 1 + F + 1 + S + 1 + length (flat c)) (p + suc (length (flat f ++ (Else ∷ (flat s ++ (End ∷ flat c)))))) is (omega (arith, length-append (flat f) (Else ∷ (flat s ++ (End ∷ flat c))), length-append (flat s) (End ∷ flat c)))
end_flat (turns {f} {c} b q r) e p is =
    let F = length (flat f) in
    ap (λ l. end_from (e + 1) (p + 1) l) (append_assoc (flat f) (End ∷ flat c) is)
    ∙ end_flat q (e + 1) (p + 1) (End ∷ (flat c ++ is))
    ∙ pass_end e (p + 1 + F) (flat c ++ is)
    ∙ end_flat r e (p + 1 + F + 1) is
    ∙ moved e (p + 1 + F + 1 + length (flat c)) (p + suc (length (flat f ++ (End ∷ flat c)))) is (omega (arith, length-append (flat f) (End ∷ flat c)))

-- the end behind a formed stretch
pub end_behind_lem : {nv d h : ℕ} {f : Code} → Formed nv d h f → (p : ℕ) (after : List Instruction) → end_from 0 p (flat f ++ (End ∷ after)) ≡ p + length (flat f)
end_behind_lem q p after = end_flat q 0 p (End ∷ after)
