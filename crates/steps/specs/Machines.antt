-- The machine that runs an event: the amounts on the stack, the figures' amounts and the clock. Every definition is
-- total: a missing amount is 0 and a ninth one is not pushed. That a book that was read never comes to such a case is proved.
use Rattle.std.specs.Prelude.{ℕ, ◌+◌, min, List, [], ℤ, pos, slice_index_or, slice_set}
use Rattle.book.specs.Codes.{code_of}
use Rattle.book.specs.declared.instruction.Instruction.{Instruction}
use Rattle.book.specs.declared.instruction.Instruction.TheVariants.{Stop, Number, Figure, Clock, Operate, Store, If, Repeat, Wait, Else, End}
use Rattle.steps.specs.Amounts.{operate}
use Rattle.meter.specs.Meters.{MeterModel}
use Rattle.stack.specs.Stacks.{pushed, rest}

-- amounts on the stack, the top first; the figures' amounts; the clock in ticks
pub record Machine : Type 0 where
  pub stack : List ℤ
  pub figures : List ℤ
  pub clock : ℕ

-- the clock stops here
abbrev pub latest : ℕ
latest = 1000000000000

-- the clock some ticks later
abbrev pub later : ℕ → ℕ → ℕ
later t n = min (t + n) latest

-- the amount that stands n below the top of the stack
abbrev pub amount_at : List ℤ → ℕ → ℤ
amount_at st n = slice_index_or st n (pos 0)

-- the amount that a clock reading gives
abbrev pub reading : ℕ → ℤ
reading t = pos (min t 2147483647)

-- the stack after an instruction
abbrev pub stack_after : Instruction → Machine → List ℤ
stack_after (Number z) s = pushed z s.stack
stack_after (Figure v) s = pushed (slice_index_or s.figures v (pos 0)) s.stack
stack_after Clock s = pushed (reading s.clock) s.stack
stack_after (Operate o) s = pushed (operate o (amount_at s.stack 1) (amount_at s.stack 0)) (rest (rest s.stack))
stack_after (Store v) s = []
stack_after If s = []
stack_after (Repeat n) s = []
stack_after (Wait n) s = []
stack_after Else s = []
stack_after End s = []
stack_after Stop s = []

-- the figures' amounts after an instruction
abbrev pub figures_after : Instruction → Machine → List ℤ
figures_after (Number z) s = s.figures
figures_after (Figure v) s = s.figures
figures_after Clock s = s.figures
figures_after (Operate o) s = s.figures
figures_after (Store v) s = slice_set s.figures v (amount_at s.stack 0)
figures_after If s = s.figures
figures_after (Repeat n) s = s.figures
figures_after (Wait n) s = s.figures
figures_after Else s = s.figures
figures_after End s = s.figures
figures_after Stop s = s.figures

-- the first and the second operand of an instruction: the amounts that it takes off the stack, a single one first, 0 for a missing one
abbrev pub first_operand : Instruction → List ℤ → ℤ
first_operand (Number z) st = pos 0
first_operand (Figure v) st = pos 0
first_operand Clock st = pos 0
first_operand (Operate o) st = amount_at st 1
first_operand (Store v) st = amount_at st 0
first_operand If st = amount_at st 0
first_operand (Repeat n) st = pos 0
first_operand (Wait n) st = pos 0
first_operand Else st = pos 0
first_operand End st = pos 0
first_operand Stop st = pos 0

abbrev pub second_operand : Instruction → List ℤ → ℤ
second_operand (Number z) st = pos 0
second_operand (Figure v) st = pos 0
second_operand Clock st = pos 0
second_operand (Operate o) st = amount_at st 0
second_operand (Store v) st = pos 0
second_operand If st = pos 0
second_operand (Repeat n) st = pos 0
second_operand (Wait n) st = pos 0
second_operand Else st = pos 0
second_operand End st = pos 0
second_operand Stop st = pos 0

-- the ticks that an instruction takes: codes 1 to 12 by the meter, a wait its argument, and else, end and stop are free
abbrev pub ticks : MeterModel → Instruction → List ℤ → ℕ
ticks m (Number z) st = m.charge (code_of (Number z)) (first_operand (Number z) st) (second_operand (Number z) st)
ticks m (Figure v) st = m.charge (code_of (Figure v)) (first_operand (Figure v) st) (second_operand (Figure v) st)
ticks m Clock st = m.charge (code_of Clock) (first_operand Clock st) (second_operand Clock st)
ticks m (Operate o) st = m.charge (code_of (Operate o)) (first_operand (Operate o) st) (second_operand (Operate o) st)
ticks m (Store v) st = m.charge (code_of (Store v)) (first_operand (Store v) st) (second_operand (Store v) st)
ticks m If st = m.charge (code_of If) (first_operand If st) (second_operand If st)
ticks m (Repeat n) st = m.charge (code_of (Repeat n)) (first_operand (Repeat n) st) (second_operand (Repeat n) st)
ticks m (Wait n) st = n
ticks m Else st = 0
ticks m End st = 0
ticks m Stop st = 0

-- one instruction: its effect, and after it the clock moves
abbrev pub perform : MeterModel → Instruction → Machine → Machine
perform m i s = record { stack = stack_after i s; figures = figures_after i s; clock = later s.clock (ticks m i s.stack) }

-- the machine with nothing on its stack
abbrev pub emptied : Machine → Machine
emptied s = record { stack = []; figures = s.figures; clock = s.clock }
