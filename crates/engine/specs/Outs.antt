-- How many slips are out.
use Rattle.std.specs.Prelude.{ℕ, Some, None, Option}

-- 1 if a slip is still out
abbrev pub still_out : {A : Type 0} → Option A → ℕ
still_out None = 0
still_out (Some x) = 1
