-- What the scale and the meter of a script mean.
use Rattle.std.specs.Prelude.{◌≡◌, ℕ, zero, suc, ◌<◌, ◌≤◌, Bool, true, cond, ◌&&◌, ◌⊎◌, List, Some, None, Ok, Err, Option, Result, nat_le, slice_index}
use Rattle.script.specs.declared.command.MeterChoice.TheVariants.{Card as CardChoice, Digit as DigitChoice}
use Rattle.script.specs.declared.command.MeterChoice.{MeterChoice}
use Rattle.script.specs.declared.command.ScaleChoice.TheVariants.{Ladder as LadderChoice, Departments as DepartmentsChoice}
use Rattle.script.specs.declared.command.ScaleChoice.{ScaleChoice}
use Rattle.script.specs.declared.chosen.ChosenMeter.TheVariants.{Card, Digit}
use Rattle.script.specs.declared.chosen.ChosenMeter.{ChosenMeter}
use Rattle.script.specs.declared.chosen.ChosenScale.TheVariants.{Ladder, Departments}
use Rattle.script.specs.declared.chosen.ChosenScale.{ChosenScale}
use Rattle.meter.specs.Cards.{card}
use Rattle.meter.specs.Digits.{digit}
use Rattle.meter.specs.MadeCards.{Fillable, card_of}
use Rattle.meter.specs.Meters.{MeterModel}
use Rattle.refusal.specs.declared.MakerFault.TheVariants.{Charge, Ranks, Departments as DepartmentsFault}
use Rattle.refusal.specs.declared.MakerFault.{MakerFault}
use Rattle.scale.specs.Ladders.{ladder}
use Rattle.scale.specs.MadeLadders.{ladder_of}
use Rattle.scale.specs.MadeSets.{departments_of}
use Rattle.scale.specs.Scales.{ScaleModel}
use Rattle.scale.specs.Sets.{departments}

-- the scale of the kind that was chosen
abbrev pub scale_of : ChosenScale → ScaleModel
scale_of (Ladder l) = ladder_of l
scale_of (Departments d) = departments_of d

-- the meter of the kind that was chosen
abbrev pub meter_of : ChosenMeter → MeterModel
meter_of (Card c) = card_of c
meter_of (Digit d) = digit

-- The scale of a choice: 1 to 256 ranks, or 0 to 8 departments.
abbrev pub scale_made : ScaleChoice → Option ScaleModel
scale_made (LadderChoice n) = cond (nat_le 1 n && nat_le n 256) (Some (ladder n)) None
scale_made (DepartmentsChoice d) = cond (nat_le d 8) (Some (departments d)) None

-- none of the first charges, so many of them, is above 1000
abbrev pub low : ℕ → List ℕ → Bool
low zero charges = true
low (suc k) charges = nat_le (slice_index charges k) 1000 && low k charges

-- The meter of a choice: a card with no charge above 1000, or the digit meter.
abbrev pub meter_made : MeterChoice → Option MeterModel
meter_made (CardChoice charges) = cond (low 12 charges) (Some (card charges)) None
meter_made DigitChoice = Some digit

-- A making of the scale of a choice: 1 to 256 ranks or 0 to 8 departments, and otherwise the maker's fault.
abbrev pub ScaleMade : ScaleChoice → Result ChosenScale MakerFault → Type 0
ScaleMade (LadderChoice n) (Ok s) = (1 ≤ n) × (n ≤ 256) × (scale_of s ≡ ladder n)
ScaleMade (LadderChoice n) (Err e) = ((n < 1) ⊎ (256 < n)) × (e ≡ Ranks)
ScaleMade (DepartmentsChoice d) (Ok s) = (d ≤ 8) × (scale_of s ≡ departments d)
ScaleMade (DepartmentsChoice d) (Err e) = (8 < d) × (e ≡ DepartmentsFault)

-- A making of the meter of a choice: a card with no charge above 1000, and otherwise the maker's fault; or the digit meter.
abbrev pub MeterMade : MeterChoice → Result ChosenMeter MakerFault → Type 0
MeterMade (CardChoice charges) (Ok m) = Fillable charges × (meter_of m ≡ card charges)
MeterMade (CardChoice charges) (Err e) = ((k : ℕ) × (k < 12) × (1000 < slice_index charges k)) × (e ≡ Charge)
MeterMade DigitChoice (Ok m) = meter_of m ≡ digit
MeterMade DigitChoice (Err e) = ⊥
