-- The card: one charge for each instruction code.
use Rattle.std.specs.Prelude.{ℕ, ◌-◌, true, cond, List, replicate, slice_index}
use Rattle.meter.specs.Meters.{MeterModel, instruction}

-- A card with these charges for the codes 1 to 12, in their order: every code is steady.
abbrev pub card : List ℕ → MeterModel
card charges =
    record {
      charge = λ code _ _. cond (instruction code) (slice_index charges (code - 1)) 0;
      steady = λ _. true;
      largest = 1000;
    }

-- The charges of a card that was never filled.
abbrev pub blank : List ℕ
blank = replicate 12 0
