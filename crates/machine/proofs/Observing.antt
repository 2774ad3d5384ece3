-- What an observer at a level sees: what has that level or one below it.
use Rattle.std.proofs.Common.{◌≡◌, ℕ, zero, suc, true, List, [], ◌∷◌, get_or}
use Rattle.flowcheck.specs.Walks.{Setting}
use Rattle.meter.specs.Meters.{Lawful as MeterLaws}
use Rattle.scale.specs.Scales.{ScaleModel, Lawful as ScaleLaws}
use Rattle.std.specs.List.{AllByRecursion}

-- an observer at level L sees level l
abbrev pub Sees : ScaleModel → ℕ → ℕ → Type 0
Sees s L l = s.below l L ≡ true

-- level l is hidden from an observer at level L
abbrev pub Hidden : ScaleModel → ℕ → ℕ → Type 0
Hidden s L l = Sees s L l → ⊥

-- the scale knows these levels
abbrev pub Known : ScaleModel → List ℕ → Type 0
Known s ls = AllByRecursion (λ l. s.known l ≡ true) ls

-- the scale and the meter of a setting keep their laws, and its levels are known
pub record Sound (g : Setting) : Type 0 where
  pub scale : ScaleLaws g.scale
  pub meter : MeterLaws g.meter
  pub clock : g.scale.known g.clock ≡ true
  pub levels : Known g.scale g.levels

module _ (s : ScaleModel) (law : ScaleLaws s) where
  -- one of some known levels, or the floor
  pub known_at : (ls : List ℕ) (v : ℕ) → Known s ls → s.known (get_or ls v s.floor) ≡ true
  known_at [] v k = law.floor_known
  known_at (l ∷ ls) zero k = k.0
  known_at (l ∷ ls) (suc v) k = known_at ls v k.1

  module _ (L : ℕ) (a b : ℕ) (ka : s.known a ≡ true) (kb : s.known b ≡ true) where
    -- who sees a join sees both levels
    pub first_seen : Sees s L (s.join a b) → Sees s L a
    first_seen e = law.transitive a (s.join a b) L (law.join_first a b ka kb) e

    pub second_seen : Sees s L (s.join a b) → Sees s L b
    second_seen e = law.transitive b (s.join a b) L (law.join_second a b ka kb) e
