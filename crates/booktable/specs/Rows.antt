-- The verdict on a row of the table.
use Rattle.std.specs.Prelude.{◌≡◌, ℕ, ◌<◌, ◌&&◌, List, ◌⊎◌, Err, MatchBool, Result, nat_le, slice_index}
use Rattle.booktable.specs.declared.choice.MeterChoice.TheVariants.{Card, Digit, Uneven}
use Rattle.booktable.specs.declared.choice.MeterChoice.{MeterChoice}
use Rattle.booktable.specs.declared.choice.ScaleChoice.TheVariants.{Ladder, Departments, Diamond}
use Rattle.booktable.specs.declared.choice.ScaleChoice.{ScaleChoice}
use Rattle.flowcheck.specs.Verdicts.{verdict_of}
use Rattle.meter.specs.Cards.{card}
use Rattle.meter.specs.Digits.{digit}
use Rattle.meter.specs.MadeCards.{Fillable}
use Rattle.refusal.specs.declared.MakerFault.TheVariants.{Charge, Ranks, Departments as DepartmentsFault}
use Rattle.refusal.specs.declared.MakerFault.{MakerFault}
use Rattle.refusal.specs.declared.Refusal.{Refusal}
use Rattle.refusal.specs.Makers.{maker_refusal}
use Rattle.scale.specs.Ladders.{ladder}
use Rattle.scale.specs.Scales.{ScaleModel}
use Rattle.scale.specs.Sets.{departments}
use Rattle.trial.specs.Diamonds.{diamond}
use Rattle.trial.specs.Unevens.{uneven}

-- The verdict that a fault of the maker is.
abbrev pub unmade : MakerFault → Result ℕ Refusal
unmade f = Err (maker_refusal f)

-- The verdict under a card: the check's if no charge is above 1000, and otherwise the fault of charges.
abbrev pub Carded : ScaleModel → List ℕ → List ℕ → Result ℕ Refusal → Type 0
Carded s charges bytes v =
    (Fillable charges × (v ≡ verdict_of s (card charges) bytes)) ⊎ (((k : ℕ) × (k < 12) × (1000 < slice_index charges k)) × (v ≡ unmade Charge))

-- The verdict under a scale and a chosen meter.
abbrev pub Metered : ScaleModel → MeterChoice → List ℕ → Result ℕ Refusal → Type 0
Metered s (Card charges) bytes v = Carded s charges bytes v
Metered s Digit bytes v = v ≡ verdict_of s digit bytes
Metered s (Uneven code) bytes v = v ≡ verdict_of s (uneven code) bytes

-- The verdict under a chosen scale and a chosen meter; a scale outside its limits is its fault, whatever the meter.
abbrev pub Ruled : ScaleChoice → MeterChoice → List ℕ → Result ℕ Refusal → Type 0
Ruled (Ladder n) m bytes v = MatchBool (nat_le 1 n && nat_le n 256) (Metered (ladder n) m bytes v) (v ≡ unmade Ranks)
Ruled (Departments d) m bytes v = MatchBool (nat_le d 8) (Metered (departments d) m bytes v) (v ≡ unmade DepartmentsFault)
Ruled Diamond m bytes v = Metered diamond m bytes v
