-- Where an event starts.
use Rattle.std.specs.Prelude.{ℕ, zero, suc, ◌+◌, cond, List, [], ◌∷◌, Some, None, Option}
use Rattle.book.specs.declared.instruction.Instruction.{Instruction}
use Rattle.book.specs.Reads.{is_stop}

-- the place of the first instruction of event n, counted from place p on
abbrev pub event_at : ℕ → ℕ → List Instruction → Option ℕ
event_at n p [] = None
event_at zero p (i ∷ is) = Some p
event_at (suc n) p (i ∷ is) = cond (is_stop i) (event_at n (p + 1) is) (event_at (suc n) (p + 1) is)
