-- That running an event is exactly what the rules of running allow.
use Rattle.std.specs.Prelude.{◌≡◌, ℕ, ◌≤◌, length}
use Rattle.book.specs.Encodings.{EventFormed}
use Rattle.book.specs.Trees.{Code}
use Rattle.steps.specs.Machines.{Machine}
use Rattle.machine.specs.Rules.{Goes}
use Rattle.steps.specs.Runs.{State, started, exec}
use Rattle.meter.specs.Meters.{MeterModel}

-- what the definition of running and the rules have to do with each other, for one meter
pub record RunLaw (m : MeterModel) : Type 0 where
  -- a run of a formed event goes by the rules from start to end, so it never meets an amount that is made up: what it takes
  -- off the stack is there, what it pushes has room, and the figures that it names are figures of the book
  pub by_rules : {nv : ℕ} (e : Code) (s : State) → EventFormed nv e → length s.figures ≡ nv → Goes m e (started s) (exec m e (started s))
  -- the rules lead to one machine at most, and it is the one that the definition gives; for a start with more than the eight
  -- amounts that a stack holds they say nothing of the definition
  pub only_one : (e : Code) (s r : Machine) → length s.stack ≤ 8 → Goes m e s r → r ≡ exec m e s
