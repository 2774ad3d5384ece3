-- What a run does, by recursion over the tree of an event.
use Rattle.std.specs.Prelude.{ℕ, zero, suc, cond, List, [], ℤ}
use Rattle.book.specs.declared.instruction.Instruction.TheVariants.{If, Repeat}
use Rattle.book.specs.Reads.{BookModel}
use Rattle.book.specs.Trees.{Code, done, plain, branch, loop}
use Rattle.steps.specs.Amounts.{is_zero}
use Rattle.steps.specs.Machines.{Machine, amount_at, emptied, perform}
use Rattle.meter.specs.Meters.{MeterModel}

-- a step done n times
abbrev pub times : ℕ → (Machine → Machine) → Machine → Machine
times zero step s = s
times (suc n) step s = times n step (step s)

-- a stretch of code: an if is charged, then its first part runs if the amount tested is not 0, else its second;
-- a repeat is charged before each turn
abbrev pub exec : MeterModel → Code → Machine → Machine
exec m done s = s
exec m (plain i c) s = exec m c (perform m i s)
exec m (branch b f g c) s =
    exec m c (emptied (cond (is_zero (amount_at s.stack 0)) (exec m g (perform m If s)) (exec m f (perform m If s))))
exec m (loop n f c) s = exec m c (emptied (times n (λ t. exec m f (perform m (Repeat n) t)) s))

-- the state between runs: the figures' amounts and the clock
pub record State : Type 0 where
  pub figures : List ℤ
  pub clock : ℕ

-- the state of a book that was just loaded: start amounts, and the clock at 0
abbrev pub start_state : BookModel → State
start_state b = record { figures = b.starts; clock = 0 }

-- a machine at an event's start
abbrev pub started : State → Machine
started s = record { stack = []; figures = s.figures; clock = s.clock }

-- what a machine leaves
abbrev pub left : Machine → State
left s = record { figures = s.figures; clock = s.clock }

-- the state after a run of an event
abbrev pub run_event : MeterModel → Code → State → State
run_event m e s = left (exec m e (started s))
