-- The verdict on bytes, as the line says it.
use Rattle.std.specs.Prelude.{ℕ, List, length, Ok, Err, Result}
use Rattle.book.specs.Reads.{BookModel}
use Rattle.book.specs.Trees.{events}
use Rattle.flowcheck.specs.Checks.{checking_bytes}
use Rattle.refusal.specs.declared.check.CheckFault.{CheckFault}
use Rattle.refusal.specs.Checks.{check_refusal}
use Rattle.refusal.specs.declared.Refusal.{Refusal}
use Rattle.meter.specs.Meters.{MeterModel}
use Rattle.scale.specs.Scales.{ScaleModel}

-- a book that passed is accepted with its number of events; a fault is a refusal
abbrev pub verdict_on : Result BookModel CheckFault → Result ℕ Refusal
verdict_on (Ok b) = Ok (length (events b.code))
verdict_on (Err f) = Err (check_refusal f)

-- the verdict on bytes under a scale and a meter
abbrev pub verdict_of : ScaleModel → MeterModel → List ℕ → Result ℕ Refusal
verdict_of s m bs = verdict_on (checking_bytes s m bs)
