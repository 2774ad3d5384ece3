-- A look ahead for an else answers a place of the code.
use Rattle.std.proofs.Common.{◌≡◌, ℕ, ◌+◌, ◌-◌, ◌<◌, eqb, List, [], ◌∷◌, length, drop, Some, None, arith}
use Rattle.book.proofs.Outcomes.{by_test, none_some, some_same}
use Rattle.book.specs.declared.instruction.Instruction.{Instruction}
use Rattle.book.specs.declared.instruction.Instruction.TheVariants.{Stop, Number, Figure, Clock, Operate, Store, If, Repeat, Wait, Else, End}
use Rattle.book.specs.Looks.{matching_else, seek}
use Rattle.std.proofs.lemmas.List.{length-drop}

-- by induction on the list: each step goes one place on
pub seek_within : (d p : ℕ) (is : List Instruction) (e : ℕ) → seek d p is ≡ Some e → e < p + length is
seek_within d p [] e h = absurd (none_some e h)
seek_within d p (Number z ∷ is) e h = omega (arith, seek_within d (p + 1) is e h)
seek_within d p (Figure v ∷ is) e h = omega (arith, seek_within d (p + 1) is e h)
seek_within d p (Clock ∷ is) e h = omega (arith, seek_within d (p + 1) is e h)
seek_within d p (Operate o ∷ is) e h = omega (arith, seek_within d (p + 1) is e h)
seek_within d p (Store v ∷ is) e h = omega (arith, seek_within d (p + 1) is e h)
seek_within d p (If ∷ is) e h = omega (arith, seek_within (d + 1) (p + 1) is e h)
seek_within d p (Repeat n ∷ is) e h = omega (arith, seek_within (d + 1) (p + 1) is e h)
seek_within d p (Wait n ∷ is) e h = omega (arith, seek_within d (p + 1) is e h)
seek_within d p (Else ∷ is) e h =
    by_test (eqb d 0) (Some p) (seek d (p + 1) is) (Some e)
    (λ b s. omega (arith, some_same p e s))
    (λ b s. omega (arith, seek_within d (p + 1) is e s))
    h
seek_within d p (End ∷ is) e h =
    by_test (eqb d 0) None (seek (d - 1) (p + 1) is) (Some e)
    (λ b s. absurd (none_some e s))
    (λ b s. omega (arith, seek_within (d - 1) (p + 1) is e s))
    h
seek_within d p (Stop ∷ is) e h = absurd (none_some e h)

pub matching_within : (is : List Instruction) (p e : ℕ) → p < length is → matching_else is p ≡ Some e → e < length is
matching_within is p e l h =
    by_test _ (seek 0 (p + 1) (drop (p + 1) is)) None (Some e)
    (λ b s. omega (arith, seek_within 0 (p + 1) (drop (p + 1) is) e s, length-drop (p + 1) is))
    (λ b s. absurd (none_some e s))
    h
