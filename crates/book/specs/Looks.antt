-- Looking ahead from an if for the else that belongs to it.
use Rattle.std.specs.Prelude.{◌≡◌, ℕ, ◌+◌, ◌-◌, Bool, true, false, cond, ◌&&◌, List, [], ◌∷◌, ◌++◌, length, drop, Some, None, Option, ◌==◌, nat_lt, slice_index_or}
use Rattle.book.specs.declared.instruction.Instruction.{Instruction}
use Rattle.book.specs.declared.instruction.Instruction.TheVariants.{Stop, Number, Figure, Clock, Operate, Store, If, Repeat, Wait, Else, End}
use Rattle.book.specs.Forms.{Formed}
use Rattle.book.specs.Trees.{Code, flat}

-- what an instruction at place p means to a look ahead that has d blocks open: the answer, or how to go on
abbrev pub met : Instruction → ℕ → ℕ → (ℕ → Option ℕ) → Option ℕ
met (Number z) d p next = next d
met (Figure v) d p next = next d
met Clock d p next = next d
met (Operate o) d p next = next d
met (Store v) d p next = next d
met If d p next = next (d + 1)
met (Repeat n) d p next = next (d + 1)
met (Wait n) d p next = next d
met Else d p next = cond (d == 0) (Some p) (next d)
met End d p next = cond (d == 0) None (next (d - 1))
met Stop d p next = None

-- the first else outside the blocks that open on the way, from place p on; none where the block or the event ends first
abbrev pub seek : ℕ → ℕ → List Instruction → Option ℕ
seek d p [] = None
seek d p (i ∷ is) = met i d p (λ e. seek e (p + 1) is)

-- whether an instruction is an if
abbrev pub is_if : Instruction → Bool
is_if (Number z) = false
is_if (Figure v) = false
is_if Clock = false
is_if (Operate o) = false
is_if (Store v) = false
is_if If = true
is_if (Repeat n) = false
is_if (Wait n) = false
is_if Else = false
is_if End = false
is_if Stop = false

-- the place of the else that belongs to the if at place p; none where no if stands
abbrev pub matching_else : List Instruction → ℕ → Option ℕ
matching_else is p = cond (nat_lt p (length is) && is_if (slice_index_or is p Stop)) (seek 0 (p + 1) (drop (p + 1) is)) None

-- The else of an if stands right behind its first part, and an if without an else has none.
pub record ElseLaw : Type 0 where
  pub with_else : {nv d : ℕ} (before after : List Instruction) (f : Code) → Formed nv d 0 f → matching_else (before ++ (If ∷ (flat f ++ (Else ∷ after)))) (length before) ≡ Some (length before + 1 + length (flat f))
  pub without : {nv d : ℕ} (before after : List Instruction) (f : Code) → Formed nv d 0 f → matching_else (before ++ (If ∷ (flat f ++ (End ∷ after)))) (length before) ≡ None
  pub no_if : (is : List Instruction) (p : ℕ) → is_if (slice_index_or is p Stop) ≡ false → matching_else is p ≡ None
