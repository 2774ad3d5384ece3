-- The setting that a scale, a meter and a book in memory make.
use Rattle.flowcheck.specs.Checks.{setting}
use Rattle.flowcheck.specs.Walks.{Setting}
use Rattle.flowcheck.specs.declared.grounds.Grounds.{Grounds}
use Rattle.meter.specs.Meters.{MeterModel}
use Rattle.reader.specs.Books.{said}
use Rattle.scale.specs.Scales.{ScaleModel}

-- the setting, by what the scale's type and the meter's type say of their values
abbrev pub setting_of : {S M : Type 0} → (S → ScaleModel) → (M → MeterModel) → Grounds S M → Setting
setting_of scale meter g = setting (scale g.scale.now) (meter g.meter.now) (said g.book.now)
