-- What checking a book, or bytes, answers.
use Rattle.std.specs.Prelude.{ℕ, zero, suc, ◌+◌, cond, List, [], ◌∷◌, Some, None, Ok, Err, Option, Result}
use Rattle.refusal.specs.declared.reader.ReaderFault.{ReaderFault}
use Rattle.book.specs.Reads.{BookModel, reading}
use Rattle.refusal.specs.declared.check.CheckFault.{CheckFault}
use Rattle.refusal.specs.declared.check.CheckFault.TheVariants.{Reader, ClockLevel, FigureLevel}
use Rattle.flowcheck.specs.Walks.{Setting, or_else, walk}
use Rattle.meter.specs.Meters.{MeterModel}
use Rattle.scale.specs.Scales.{ScaleModel}

-- the fault of a level that the scale does not know: at place 0 the clock's, at 1 + v that of figure v
abbrev pub level_fault : ℕ → CheckFault
level_fault zero = ClockLevel
level_fault (suc v) = FigureLevel (suc v)

-- the first level that the scale does not know, from place p on
abbrev pub unknown : ScaleModel → ℕ → List ℕ → Option CheckFault
unknown s p [] = None
unknown s p (l ∷ ls) = cond (s.known l) (unknown s (p + 1) ls) (Some (level_fault p))

-- a book under a scale and a meter
abbrev pub setting : ScaleModel → MeterModel → BookModel → Setting
setting s m b = record { scale = s; meter = m; clock = b.clock; levels = b.levels }

-- the first fault of a book: first the clock's level and the figures', then the instructions
abbrev pub checking : ScaleModel → MeterModel → BookModel → Option CheckFault
checking s m b = or_else (unknown s 0 (b.clock ∷ b.levels)) (walk (setting s m b) 0 [] [] b.code)

-- a book that was read, or its fault
abbrev pub judged : BookModel → Option CheckFault → Result BookModel CheckFault
judged b None = Ok b
judged b (Some f) = Err f

-- a book that was read is checked; a reader's fault is passed on whole
abbrev pub after_reading : ScaleModel → MeterModel → Result BookModel ReaderFault → Result BookModel CheckFault
after_reading s m (Ok b) = judged b (checking s m b)
after_reading s m (Err f) = Err (Reader f)

-- what checking bytes answers
abbrev pub checking_bytes : ScaleModel → MeterModel → List ℕ → Result BookModel CheckFault
checking_bytes s m bs = after_reading s m (reading bs)
