-- What the maker of ladders answers.
use Rattle.std.specs.Prelude.{◌≡◌, ℕ, ◌<◌, ◌≤◌, ◌⊎◌, Ok, Err, Result}
use Rattle.refusal.specs.declared.MakerFault.{MakerFault}
use Rattle.refusal.specs.declared.MakerFault.TheVariants.{Ranks}
use Rattle.scale.specs.declared.ladder.Ladder.{Ladder}
use Rattle.scale.specs.Scales.{ScaleModel}
use Rattle.scale.specs.Ladders.{ladder}

-- What a ladder means: the scale of as many ranks as it has.
abbrev pub ladder_of : Ladder → ScaleModel
ladder_of l = ladder l.ranks

-- Asked for n ranks: the ladder of n ranks if n is 1 to 256, and the fault of ranks otherwise.
abbrev pub LadderMade : ℕ → Result Ladder MakerFault → Type 0
LadderMade n (Ok l) = (1 ≤ n) × (n ≤ 256) × (ladder_of l ≡ ladder n)
LadderMade n (Err e) = ((n < 1) ⊎ (256 < n)) × (e ≡ Ranks)
