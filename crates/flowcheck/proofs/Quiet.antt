-- Instructions on which no rule is broken: the walk finds no fault exactly in such.
use Rattle.std.proofs.Common.{◌≡◌, ℕ, List, None, subst}
use Rattle.book.specs.declared.instruction.Instruction.{Instruction}
use Rattle.flowcheck.proofs.Breaking.{BreaksFrom, walk_named}
use Rattle.flowcheck.proofs.Firsts.{Named, named_none}
use Rattle.flowcheck.specs.Walks.{Setting, walk}

-- no rule is broken on any of these
abbrev pub Quiet : Setting → List ℕ → List ℕ → List Instruction → Type 0
Quiet g cs ls is = (n q : ℕ) → BreaksFrom g cs ls is n q → ⊥

-- where the walk finds no fault no rule is broken
pub walk_quiet : (g : Setting) (p : ℕ) (cs ls : List ℕ) (is : List Instruction) → walk g p cs ls is ≡ None → Quiet g cs ls is
walk_quiet g p cs ls is e = subst (Named (BreaksFrom g cs ls is) p) e (walk_named g p cs ls is)

-- where no rule is broken the walk finds no fault
pub quiet_walk : (g : Setting) (p : ℕ) (cs ls : List ℕ) (is : List Instruction) → Quiet g cs ls is → walk g p cs ls is ≡ None
quiet_walk g p cs ls is q = named_none (BreaksFrom g cs ls is) p (walk g p cs ls is) q (walk_named g p cs ls is)
