-- What one step of a look ahead answers.
use Rattle.std.specs.Prelude.{◌≡◌, ℕ, ◌+◌, ◌≤◌, Bool, true, false, cond, Some, None, Option}
use Rattle.book.specs.declared.instruction.Instruction.{Instruction}
use Rattle.book.specs.declared.instruction.Instruction.TheVariants.{Else}
use Rattle.book.specs.Looks.{met}

-- whether an instruction is an else
abbrev pub is_else : Instruction → Bool
is_else Else = true
is_else _ = false

-- how many blocks are open behind the instruction i with d blocks open, whatever comes behind it; with none, the look
-- ahead ends at i, which is the else that is looked for if it is an else
abbrev pub Sees : Instruction → ℕ → Option ℕ → Type 0
Sees i d None = (p : ℕ) (next : ℕ → Option ℕ) → met i d p next ≡ cond (is_else i) (Some p) None
Sees i d (Some e) = (e ≤ d + 1) × ((p : ℕ) (next : ℕ → Option ℕ) → met i d p next ≡ next e)
