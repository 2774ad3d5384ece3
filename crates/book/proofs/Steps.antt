-- A scan succeeds exactly if each instruction fits where it stands, and then answers the instructions that it was given.
use Rattle.std.proofs.Common.{◌≡◌, ℕ, ◌+◌, true, cond, List, [], ◌∷◌, map, Some, None, Ok, Err, Option, Result, refl, ap, ◌∙◌, subst, ap₂}
use Rattle.book.proofs.Decodes.{Valid, decoded_is, decoded_valid}
use Rattle.book.proofs.Outcomes.{ok_same, err_ok, by_test}
use Rattle.book.specs.Codes.{code_of, argument_of, decoded}
use Rattle.refusal.specs.declared.reader.ReaderFault.{ReaderFault}
use Rattle.refusal.specs.declared.reader.ReaderFault.TheVariants.{Argument, Height, Nesting}
use Rattle.book.specs.declared.instruction.Instruction.{Instruction}
use Rattle.book.specs.declared.block.Block.{Block}
use Rattle.book.specs.Reads.{Raw, raw, fits_height, height_after, fits_nesting, blocks_after, onto, placed, scan}

-- each instruction may stand where it stands, from h amounts and the blocks bs on
abbrev pub Fitting : ℕ → ℕ → List Block → List Instruction → Type 0
Fitting nv h bs [] = Unit {0}
Fitting nv h bs (i ∷ is) = Valid nv i × (fits_height i h ≡ true) × (fits_nesting i bs ≡ true) × Fitting nv (height_after i h) (blocks_after i bs) is

-- what a step that succeeds has met: the instruction, that it fits, and what the rest answers
pub record Taken (h : ℕ) (bs : List Block) (o : Option Instruction) (next : Instruction → Result (List Instruction) ReaderFault) (is : List Instruction) : Type 0 where
  pub first : Instruction
  pub rest : List Instruction
  pub decodes : o ≡ Some first
  pub height : fits_height first h ≡ true
  pub nesting : fits_nesting first bs ≡ true
  pub goes_on : next first ≡ Ok rest
  pub splits : first ∷ rest ≡ is

-- what a scan of the rest answered, if one instruction in front of it is an answer
onto_ok : (i : Instruction) (r : Result (List Instruction) ReaderFault) (is : List Instruction) → onto i r ≡ Ok is → (js : List Instruction) × (r ≡ Ok js) × (i ∷ js ≡ is)
onto_ok i (Ok js) is e = (js, refl, ok_same (i ∷ js) is e)
onto_ok i (Err f) is e = absurd (err_ok f is e)

-- By the tests of a step, each of which would have answered a fault.
pub placed_ok : (p h : ℕ) (bs : List Block) (o : Option Instruction) (next : Instruction → Result (List Instruction) ReaderFault) (is : List Instruction) → placed p h bs o next ≡ Ok is → Taken h bs o next is
placed_ok p h bs None next is e = absurd (err_ok (Argument p) is e)
placed_ok p h bs (Some i) next is e =
    by_test (fits_height i h) (cond (fits_nesting i bs) (onto i (next i)) (Err (Nesting p))) (Err (Height p)) (Ok is)
    (λ t. by_test (fits_nesting i bs) (onto i (next i)) (Err (Nesting p)) (Ok is)
    (λ u s.
    let r = onto_ok i (next i) is s in
    record { first = i; rest = r.0; decodes = refl; height = t; nesting = u; goes_on = r.1; splits = r.2 })
    (λ u s. absurd (err_ok (Nesting p) is s)))
    (λ t s. absurd (err_ok (Height p) is s))
    e

-- By induction on what is scanned, each step taken apart by `placed_ok`.
pub scan_back : (nv p h : ℕ) (bs : List Block) (rs : List Raw) (is : List Instruction) → scan nv p h bs rs ≡ Ok is → (map raw is ≡ rs) × Fitting nv h bs is
scan_back nv p h bs [] is e =
    let same = ok_same [] is e in
    subst (λ js. (map raw js ≡ []) × Fitting nv h bs js) same (refl, tt)
scan_back nv p h bs (r ∷ rs) is e =
    let s = placed_ok p h bs (decoded nv r.code r.argument) (λ i. scan nv (p + 1) (height_after i h) (blocks_after i bs) rs) is e in
    let i = s.first in
    let d = decoded_is nv r.code r.argument i s.decodes in
    let more = scan_back nv (p + 1) (height_after i h) (blocks_after i bs) rs s.rest s.goes_on in
    let here : raw i ≡ r = λ k. record { code = d.code_is k; argument = d.argument_is k } in
    subst (λ js. (map raw js ≡ r ∷ rs) × Fitting nv h bs js) s.splits (ap₂ (λ x xs. x ∷ xs) here more.0, (d.valid, s.height, s.nesting, more.1))

-- a step at an instruction that fits
pub placed_fits : (p h : ℕ) (bs : List Block) (o : Option Instruction) (i : Instruction) (next : Instruction → Result (List Instruction) ReaderFault) → o ≡ Some i → fits_height i h ≡ true → fits_nesting i bs ≡ true → placed p h bs o next ≡ onto i (next i)
placed_fits p h bs o i next e t u = rw (e, t, u)

-- instructions that fit, as bytes, are scanned to themselves
pub scan_fits : (nv p h : ℕ) (bs : List Block) (is : List Instruction) → Fitting nv h bs is → scan nv p h bs (map raw is) ≡ Ok is
scan_fits nv p h bs [] f = refl
scan_fits nv p h bs (i ∷ is) f =
    placed_fits p h bs (decoded nv (code_of i) (argument_of i)) i (λ j. scan nv (p + 1) (height_after j h) (blocks_after j bs) (map raw is)) (decoded_valid nv i f.0) f.1 f.2
    ∙ ap (onto i) (scan_fits nv (p + 1) (height_after i h) (blocks_after i bs) is f.3)

-- what a scan answered, written as bytes once more, is scanned to the same
pub scan_again : (nv p h : ℕ) (bs : List Block) (rs : List Raw) (is : List Instruction) → scan nv p h bs rs ≡ Ok is → scan nv p h bs (map raw is) ≡ Ok is
scan_again nv p h bs rs is e = scan_fits nv p h bs is (scan_back nv p h bs rs is e).1
