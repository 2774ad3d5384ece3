-- What the calls on a card leave and answer.
use Rattle.std.specs.Prelude.{◌≡◌, ℕ, ◌<◌, ◌≤◌, List, Ok, Err, Result, slice_index}
use Rattle.refusal.specs.declared.MakerFault.{MakerFault}
use Rattle.refusal.specs.declared.MakerFault.TheVariants.{Charge}
use Rattle.meter.specs.declared.card.Card.{Card}
use Rattle.meter.specs.Meters.{MeterModel}
use Rattle.meter.specs.Cards.{card}

-- What a card means: the meter of its charges.
abbrev pub card_of : Card → MeterModel
card_of c = card c.charges

-- Each of the twelve charges is at most 1000.
abbrev pub Fillable : List ℕ → Type 0
Fillable charges = (k : ℕ) → k < 12 → slice_index charges k ≤ 1000

-- A filling puts all twelve charges in if each is at most 1000; otherwise one is above, and the card is as it was.
abbrev pub Filled : List ℕ → Card → Card → Result Unit MakerFault → Type 0
Filled charges before after (Ok _) = Fillable charges × (card_of after ≡ card charges)
Filled charges before after (Err e) =
    ((k : ℕ) × (k < 12) × (1000 < slice_index charges k)) × (after ≡ before) × (e ≡ Charge)
