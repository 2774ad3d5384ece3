-- What an engine in memory is, and what its calls answered.
use Rattle.std.specs.Option.{option_map}
use Rattle.std.specs.Prelude.{◌≡◌, ℕ, ℤ, Some, None, Ok, Err, Option, Result}
use Rattle.reader.specs.Books.{said}
use Rattle.book.specs.Reads.{BookModel}
use Rattle.engine.specs.declared.engine.Engine.{Engine}
use Rattle.refusal.specs.declared.engine.EngineFault.{EngineFault}
use Rattle.engine.specs.declared.slip.Numbers.{Numbers}
use Rattle.refusal.specs.declared.engine.EngineFault.TheVariants.{NotTheSlip}
use Rattle.engine.specs.declared.slip.Refused.{Refused}
use Rattle.engine.specs.declared.slip.Slip.{Slip}
use Rattle.engine.specs.declared.slip.Tally.{Tally}
use Rattle.engine.specs.Calls.{answer, next}
use Rattle.engine.specs.Models.{Answer, refused, loaded, accepted, amount, time, slip, counts, Call, EngineModel, Paper, ask_slip}
use Rattle.machine.specs.declared.program.Program.{Program}
use Rattle.meter.specs.Meters.{MeterModel}
use Rattle.scale.specs.Scales.{ScaleModel}
use Rattle.steps.specs.Seen.{state_of}

-- the numbers on a slip
abbrev pub paper_of : Numbers → Paper
paper_of n = record { holder = n.holder; from = n.from; to = n.to; number = n.number }

-- the loaded book
abbrev pub book_of : Option Program → Option BookModel
book_of o = option_map (λ p. said p.book) o

-- the slip that is out
abbrev pub out_of : Option Numbers → Option Paper
out_of o = option_map paper_of o

-- what an engine holds
abbrev pub engine_of : {S M : Type 0} → Engine S M → EngineModel
engine_of e = record {
  shared = record { book = book_of e.program; out = out_of e.out; openings = e.tally.openings; carries = e.tally.carries; withdrawals = e.tally.withdrawals };
  state = state_of e.state;
}

-- what was answered: what a value says, or the refusal
abbrev pub answered : {A : Type 0} → (A → Answer) → Result A EngineFault → Answer
answered says (Ok x) = says x
answered says (Err f) = refused f

-- what was answered to a load, a put or a run, a show, a clock reading and an opening
abbrev pub load_answer : Result ℕ EngineFault → Answer
load_answer r = answered loaded r

abbrev pub plain_answer : {A : Type 0} → Result A EngineFault → Answer
plain_answer r = answered (λ _. accepted) r

abbrev pub show_answer : Result ℤ EngineFault → Answer
show_answer r = answered amount r

abbrev pub clock_answer : Result ℕ EngineFault → Answer
clock_answer r = answered time r

abbrev pub open_answer : Result Slip EngineFault → Answer
open_answer r = answered (λ x. slip (paper_of x.numbers)) r

-- what was answered to a carry or a withdrawal, and to a tally
abbrev pub slip_answer : {A : Type 0} → Result A Refused → Answer
slip_answer (Ok x) = accepted
slip_answer (Err x) = refused x.fault

abbrev pub tally_answer : Tally → Answer
tally_answer t = counts t.openings t.carries t.withdrawals

-- A call is one step of the model: what is answered, what the engine then holds, and the scale and the meter as they were.
pub record IsStep {S M : Type 0} (scale : S → ScaleModel) (meter : M → MeterModel) (old new : Engine S M) (call : Call) (given : Answer) : Type 0 where
  pub answer : given ≡ answer (scale old.scale) (meter old.meter) (engine_of old) call
  pub after : engine_of new ≡ next (scale old.scale) (meter old.meter) (engine_of old) call
  pub kept : (new.scale ≡ old.scale) × (new.meter ≡ old.meter)

-- a slip ends only if it is the one that is out, and its numbers are left; any other one comes back the same
abbrev pub Ended : Option Paper → Slip → Result Numbers Refused → Type 0
Ended out x (Ok n) = (ask_slip out (paper_of x.numbers) ≡ None) × (n ≡ x.numbers)
Ended out x (Err y) = (ask_slip out (paper_of x.numbers) ≡ Some y.fault) × (y.slip.numbers ≡ x.numbers)

-- a refused slip comes back the same
abbrev pub Back : {A : Type 0} → Slip → Result A Refused → Type 0
Back x (Ok y) = Unit {0}
Back x (Err y) = y.slip.numbers ≡ x.numbers

-- a slip is destroyed only if it is not the one that is out; that one comes back the same
abbrev pub Voided : {A : Type 0} → Option Paper → Slip → Result A Slip → Type 0
Voided out x (Ok y) = ask_slip out (paper_of x.numbers) ≡ Some NotTheSlip
Voided out x (Err y) = (ask_slip out (paper_of x.numbers) ≡ None) × (y.numbers ≡ x.numbers)
