-- What one instruction means to a look ahead for an end.
use Rattle.std.specs.Prelude.{◌≡◌, ℕ, ◌+◌, ◌≤◌, Some, None, Option}
use Rattle.book.specs.declared.instruction.Instruction.{Instruction}
use Rattle.machine.specs.Jumps.{closes_at, opened}

-- None: the end is here; else how many blocks are open behind it
abbrev pub Behind : Instruction → ℕ → Option ℕ → Type 0
Behind i d None = (p next : ℕ) → closes_at i d p next ≡ p
Behind i d (Some e) = (e ≡ opened i d) × (e ≤ d + 1) × ((p next : ℕ) → closes_at i d p next ≡ next)
