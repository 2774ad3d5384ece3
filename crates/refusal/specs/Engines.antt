-- The number, layer and place of the engine's faults.
use Rattle.std.specs.Prelude.{ℕ}
use Rattle.refusal.specs.Checks.{check_refusal}
use Rattle.refusal.specs.declared.engine.EngineFault.{EngineFault}
use Rattle.refusal.specs.declared.engine.EngineFault.TheVariants.{Check, NoBook, NoSuch, UnknownLevel, Hidden, HiddenClock, SlipOut, NotTheSlip, TooManyOpenings, SameFigure}
use Rattle.refusal.specs.declared.Layer.TheVariants.{Engine}
use Rattle.refusal.specs.declared.Refusal.{Refusal}

-- a refusal by the engine
abbrev pub engine : ℕ → ℕ → Refusal
engine n p = record { number = n; layer = Engine; place = p }

-- a check's or a reader's fault whole; 12 no book, 13 no such figure or event, 14 unknown level, 15 not for this level
-- (the clock stands at place 32), 16 a slip is out, 17 not the slip that is out, 18 too many openings, 19 the same figure twice
abbrev pub engine_refusal : EngineFault → Refusal
engine_refusal (Check f) = check_refusal f
engine_refusal NoBook = engine 12 0
engine_refusal (NoSuch n) = engine 13 n
engine_refusal (UnknownLevel l) = engine 14 l
engine_refusal (Hidden v) = engine 15 v
engine_refusal HiddenClock = engine 15 32
engine_refusal SlipOut = engine 16 0
engine_refusal NotTheSlip = engine 17 0
engine_refusal TooManyOpenings = engine 18 0
engine_refusal (SameFigure v) = engine 19 v
