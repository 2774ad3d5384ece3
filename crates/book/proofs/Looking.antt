-- Looking ahead passes over a formed stretch, so that the else of an if is found right behind its first part.
use Rattle.std.proofs.Common.{◌≡◌, ℕ, suc, ◌+◌, ◌<◌, ltb, List, ◌∷◌, ◌++◌, length, get_or, drop, Some, None, refl, ap, ◌∙◌, arith}
use lib.Seq.{drop-append-add}
use Rattle.book.specs.declared.instruction.Instruction.{Instruction}
use Rattle.book.specs.declared.instruction.Instruction.TheVariants.{Stop, If, Else, End}
use Rattle.book.specs.Forms.{Formed, ends, number, figure, clock, operate, store, wait, one_part, two_parts, turns}
use Rattle.book.specs.Looks.{seek, is_if, matching_else, ElseLaw}
use Rattle.book.specs.Trees.{Code, flat}
use Rattle.std.proofs.lemmas.List.{append_assoc, length-append, get_or_at}
use Rattle.std.proofs.lemmas.Bool.{and_right, lt-ltb}

-- the same look ahead from places that are the same
moved : (e p q : ℕ) (is : List Instruction) → p ≡ q → seek e p is ≡ seek e q is
moved e p q is same = ap (λ x. seek e x is) same

-- behind a plain instruction and n more
one_on : (e p n : ℕ) (is : List Instruction) → seek e (p + 1 + n) is ≡ seek e (p + suc n) is
one_on e p n is = moved e (p + 1 + n) (p + suc n) is (omega arith)

-- an else of an inner block is passed over
pass_else : (e p : ℕ) (is : List Instruction) → seek (e + 1) p (Else ∷ is) ≡ seek (e + 1) (p + 1) is
pass_else e p is = grind arith

-- the end of an inner block closes it
pass_end : (e p : ℕ) (is : List Instruction) → seek (e + 1) p (End ∷ is) ≡ seek e (p + 1) is
pass_end e p is = grind arith

-- By induction on how the stretch is formed: a plain instruction moves on by one place, and a block is open just as long
-- as its parts last.
pub seek_flat : {nv d h : ℕ} {c : Code} → Formed nv d h c → (e p : ℕ) (is : List Instruction) → seek e p (flat c ++ is) ≡ seek e (p + length (flat c)) is
seek_flat ends e p is = moved e p (p + 0) is (omega arith)
seek_flat (number {c} r f) e p is = seek_flat f e (p + 1) is ∙ one_on e p (length (flat c)) is
seek_flat (figure {c} b r f) e p is = seek_flat f e (p + 1) is ∙ one_on e p (length (flat c)) is
seek_flat (clock {c} r f) e p is = seek_flat f e (p + 1) is ∙ one_on e p (length (flat c)) is
seek_flat (operate {c} f) e p is = seek_flat f e (p + 1) is ∙ one_on e p (length (flat c)) is
seek_flat (store {c} b f) e p is = seek_flat f e (p + 1) is ∙ one_on e p (length (flat c)) is
seek_flat (wait {c} b f) e p is = seek_flat f e (p + 1) is ∙ one_on e p (length (flat c)) is
seek_flat (one_part {f} {c} q r) e p is =
    let F = length (flat f) in
    ap (λ l. seek (e + 1) (p + 1) l) (append_assoc (flat f) (End ∷ flat c) is)
    ∙ seek_flat q (e + 1) (p + 1) (End ∷ (flat c ++ is))
    ∙ pass_end e (p + 1 + F) (flat c ++ is)
    ∙ seek_flat r e (p + 1 + F + 1) is
    ∙ moved e (p + 1 + F + 1 + length (flat c)) (p + suc (length (flat f ++ (End ∷ flat c)))) is (omega (arith, length-append (flat f) (End ∷ flat c)))
seek_flat (two_parts {f} {s} {c} q t r) e p is =
    let F = length (flat f) in
    let S = length (flat s) in
    ap (λ l. seek (e + 1) (p + 1) l) (append_assoc (flat f) (Else ∷ (flat s ++ (End ∷ flat c))) is)
    ∙ ap (λ l. seek (e + 1) (p + 1) (flat f ++ (Else ∷ l))) (append_assoc (flat s) (End ∷ flat c) is)
    ∙ seek_flat q (e + 1) (p + 1) (Else ∷ (flat s ++ (End ∷ (flat c ++ is))))
    ∙ pass_else e (p + 1 + F) (flat s ++ (End ∷ (flat c ++ is)))
    ∙ seek_flat t (e + 1) (p + 1 + F + 1) (End ∷ (flat c ++ is))
    ∙ pass_end e (p + 1 + F + 1 + S) (flat c ++ is)
    ∙ seek_flat r e (p + 1 + F + 1 + S + 1) is
    ∙ moved e (p + 1 + F + 1 + S + 1 + length (flat c)) (p + suc (length (flat f ++ (Else ∷ (flat s ++ (End ∷ flat c)))))) is (omega (arith, length-append (flat f) (Else ∷ (flat s ++ (End ∷ flat c))), length-append (flat s) (End ∷ flat c)))
seek_flat (turns {f} {c} b q r) e p is =
    let F = length (flat f) in
    ap (λ l. seek (e + 1) (p + 1) l) (append_assoc (flat f) (End ∷ flat c) is)
    ∙ seek_flat q (e + 1) (p + 1) (End ∷ (flat c ++ is))
    ∙ pass_end e (p + 1 + F) (flat c ++ is)
    ∙ seek_flat r e (p + 1 + F + 1) is
    ∙ moved e (p + 1 + F + 1 + length (flat c)) (p + suc (length (flat f ++ (End ∷ flat c)))) is (omega (arith, length-append (flat f) (End ∷ flat c)))

-- a first part that an else closes: its place
pub seek_else : {nv d h : ℕ} {f : Code} → Formed nv d h f → (p : ℕ) (r : List Instruction) → seek 0 p (flat f ++ (Else ∷ r)) ≡ Some (p + length (flat f))
seek_else q p r = seek_flat q 0 p (Else ∷ r)

-- a first part that an end closes: there is no else
pub seek_end : {nv d h : ℕ} {f : Code} → Formed nv d h f → (p : ℕ) (r : List Instruction) → seek 0 p (flat f ++ (End ∷ r)) ≡ None
seek_end q p r = seek_flat q 0 p (End ∷ r)

-- where an if stands, the look ahead goes on right behind it
pub at_if : (is : List Instruction) (p : ℕ) → p < length is → get_or is p Stop ≡ If → matching_else is p ≡ seek 0 (p + 1) (drop (p + 1) is)
at_if is p within e = rw (lt-ltb p (length is) within, e)

-- the same, with what stands before the if
pub from_if : (front back : List Instruction) → matching_else (front ++ (If ∷ back)) (length front) ≡ seek 0 (length front + 1) back
from_if front back =
    let is = front ++ (If ∷ back) in
    let p = length front in
    let within : p < length is = omega (arith, length-append front (If ∷ back)) in
    at_if is p within (get_or_at front If back Stop p refl)
    ∙ ap (λ l. seek 0 (p + 1) l) (drop-append-add front (If ∷ back) 1)

-- The law of looking ahead.
pub else_law : ElseLaw
else_law = record {
  with_else = λ front back f q. from_if front (flat f ++ (Else ∷ back)) ∙ seek_else q (length front + 1) back;
  without = λ front back f q. from_if front (flat f ++ (End ∷ back)) ∙ seek_end q (length front + 1) back;
  no_if = λ is p t. rw (and_right (ltb p (length is)) (is_if (get_or is p Stop)) t);
}
