-- How many ticks a run of an event can take.
use Rattle.std.specs.Prelude.{ℕ, ◌+◌, ◌*◌, ◌≤◌, max}
use Rattle.book.specs.declared.instruction.Instruction.{Instruction}
use Rattle.book.specs.declared.instruction.Instruction.TheVariants.{Stop, Number, Figure, Clock, Operate, Store, If, Repeat, Wait, Else, End}
use Rattle.book.specs.Encodings.{EventFormed}
use Rattle.book.specs.Trees.{Code, done, plain, branch, loop, event_weight}
use Rattle.steps.specs.Runs.{State, run_event}
use Rattle.meter.specs.Meters.{MeterModel}

-- the ticks of an instruction if it is a wait
abbrev pub waits : Instruction → ℕ
waits (Number z) = 0
waits (Figure v) = 0
waits Clock = 0
waits (Operate o) = 0
waits (Store v) = 0
waits If = 0
waits (Repeat n) = 0
waits (Wait n) = n
waits Else = 0
waits End = 0
waits Stop = 0

-- the longest wait of a stretch
abbrev pub longest : Code → ℕ
longest done = 0
longest (plain i c) = max (waits i) (longest c)
longest (branch b f g c) = max (longest f) (max (longest g) (longest c))
longest (loop n f c) = max (longest f) (longest c)

-- A run of an event moves the clock by at most its weight times the larger of the meter's largest charge and its longest
-- wait, so by at most 1,000 ticks for each unit of weight and by at most 100,000,000.
pub record TickBound (m : MeterModel) : Type 0 where
  pub by_weight : (e : Code) (s : State) → (run_event m e s).clock ≤ s.clock + event_weight e * max m.largest (longest e)
  pub thousand : {nv : ℕ} (e : Code) (s : State) → EventFormed nv e → (run_event m e s).clock ≤ s.clock + event_weight e * 1000
  pub at_most : {nv : ℕ} (e : Code) (s : State) → EventFormed nv e → (run_event m e s).clock ≤ s.clock + 100000000
