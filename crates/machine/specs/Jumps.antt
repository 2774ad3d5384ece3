-- Where a run goes on when it leaves out a part: behind the else or at the end.
use Rattle.std.specs.Prelude.{ℕ, zero, suc, ◌+◌, ◌-◌, cond, List, [], ◌∷◌, drop, Some, None, Option, ◌==◌, slice_index_or}
use Rattle.book.specs.declared.instruction.Instruction.{Instruction}
use Rattle.book.specs.declared.instruction.Instruction.TheVariants.{Stop, Number, Figure, Clock, Operate, Store, If, Repeat, Wait, Else, End}
use Rattle.book.specs.Looks.{matching_else}
use Rattle.std.specs.Option.{unwrap_or}

-- how many blocks are open behind an instruction, where d were before it
abbrev pub opened : Instruction → ℕ → ℕ
opened (Number z) d = d
opened (Figure v) d = d
opened Clock d = d
opened (Operate o) d = d
opened (Store v) d = d
opened If d = d + 1
opened (Repeat n) d = d + 1
opened (Wait n) d = d
opened Else d = d
opened End d = d - 1
opened Stop d = d

-- the place p if the instruction is the end that is looked for, else what is answered further on
abbrev pub closes_at : Instruction → ℕ → ℕ → ℕ → ℕ
closes_at (Number z) d p next = next
closes_at (Figure v) d p next = next
closes_at Clock d p next = next
closes_at (Operate o) d p next = next
closes_at (Store v) d p next = next
closes_at If d p next = next
closes_at (Repeat n) d p next = next
closes_at (Wait n) d p next = next
closes_at Else d p next = next
closes_at End d p next = cond (d == 0) p next
closes_at Stop d p next = next

-- the place of the first end outside the blocks that open on the way, from place p on; the place behind all where there is none
abbrev pub end_from : ℕ → ℕ → List Instruction → ℕ
end_from d p [] = p
end_from d p (i ∷ is) = closes_at i d p (end_from (opened i d) (p + 1) is)

-- the end of the block that the instruction at place p opens or goes on with
abbrev pub end_behind : List Instruction → ℕ → ℕ
end_behind is p = end_from 0 (p + 1) (drop (p + 1) is)

-- where an if goes on whose first part is left out: behind its else, or at its end
abbrev pub leaves_out : Option ℕ → ℕ → ℕ
leaves_out (Some e) end = e + 1
leaves_out None end = end

-- where a run goes on from the instruction i at place p when it leaves out what follows; None where nothing jumps
abbrev pub target : List Instruction → ℕ → Instruction → Option ℕ
target is p (Number z) = None
target is p (Figure v) = None
target is p Clock = None
target is p (Operate o) = None
target is p (Store v) = None
target is p If = Some (leaves_out (matching_else is p) (end_behind is p))
target is p (Repeat n) = Some (end_behind is p)
target is p (Wait n) = None
target is p Else = Some (end_behind is p)
target is p End = None
target is p Stop = None

-- the jump from a place, 0 where nothing jumps
abbrev pub jump_from : List Instruction → ℕ → ℕ
jump_from is p = unwrap_or (target is p (slice_index_or is p Stop)) 0

-- the jumps of n places from place p on
abbrev pub jumps_from : List Instruction → ℕ → ℕ → List ℕ
jumps_from is zero p = []
jumps_from is (suc n) p = jump_from is p ∷ jumps_from is n (p + 1)
