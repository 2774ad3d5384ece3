-- The promise: what an observer cannot tell apart, over every list of calls, and how slips add up.
use Rattle.std.specs.Prelude.{◌≡◌, ℕ, ◌+◌, ◌<◌, true, cond, List, [], ◌∷◌, length, ℤ, pos, Some, None, Option, slice_index_or}
use Rattle.book.specs.Reads.{BookModel}
use Rattle.engine.specs.Calls.{after_all, answer, next}
use Rattle.engine.specs.Models.{Answer, refused, loaded, accepted, amount, time, slip, counts, Call, load, put, run, show, clock, open_slip, carry, withdraw, tally, EngineModel, Paper, fresh, level_of, refusal}
use Rattle.engine.specs.Outs.{still_out}
use Rattle.meter.specs.Meters.{MeterModel}
use Rattle.scale.specs.Scales.{ScaleModel}
use Rattle.std.specs.List.{AllByRecursion}

-- the loaded book holds figure v at L or below
abbrev pub HeldLow : ScaleModel → ℕ → Option BookModel → ℕ → Type 0
HeldLow s L None v = ⊥
HeldLow s L (Some b) v = (v < length b.levels) × (s.below (level_of b v) L ≡ true)

-- the amount that a slip moves when it is carried: what its first figure then has
abbrev pub moved : EngineModel → Paper → ℤ
moved e p = slice_index_or e.state.figures p.from (pos 0)

-- if the call is a carry that is accepted, into a figure at L or below, it moves equal amounts on both engines
abbrev pub MovesEqually : ScaleModel → MeterModel → ℕ → EngineModel → EngineModel → Call → Type 0
MovesEqually s m L p q (load bytes) = Unit {0}
MovesEqually s m L p q (put v a) = Unit {0}
MovesEqually s m L p q (run n) = Unit {0}
MovesEqually s m L p q (show l v) = Unit {0}
MovesEqually s m L p q (clock l) = Unit {0}
MovesEqually s m L p q (open_slip h from to) = Unit {0}
MovesEqually s m L p q (carry x) = refusal s m p.shared (carry x) ≡ None → HeldLow s L p.shared.book x.to → moved p x ≡ moved q x
MovesEqually s m L p q (withdraw x) = Unit {0}
MovesEqually s m L p q tally = Unit {0}

-- Pairs s m L p q cs ds: applied to the engines p and q, the calls of the two lists pair off equal, but for the amounts of
-- two puts into a figure that the loaded book does not hold at L or below; and slips carried into figures at L or below
-- move equal amounts
pub data Pairs (s : ScaleModel) (m : MeterModel) (L : ℕ) : EngineModel → EngineModel → List Call → List Call → Type 0 where
  none : {p q : EngineModel} → Pairs s m L p q [] []
  same : {p q : EngineModel} {cs ds : List Call} (c : Call) → MovesEqually s m L p q c → Pairs s m L (next s m p c) (next s m q c) cs ds → Pairs s m L p q (c ∷ cs) (c ∷ ds)
  puts : {p q : EngineModel} {cs ds : List Call} (v : ℕ) (a b : ℤ) → (HeldLow s L p.shared.book v → a ≡ b) → Pairs s m L (next s m p (put v a)) (next s m q (put v b)) cs ds → Pairs s m L p q (put v a ∷ cs) (put v b ∷ ds)

-- of an answer only whether the call was accepted, or why not
abbrev pub covered : Answer → Answer
covered (refused f) = refused f
covered (loaded n) = accepted
covered accepted = accepted
covered (amount a) = accepted
covered (time t) = accepted
covered (slip x) = accepted
covered (counts a b c) = accepted

-- what whoever sees L and below learns of the answer to a call: all of it, but of an amount or a clock reading that is
-- shown to a level not at or below L only that it was shown
abbrev pub learns : ScaleModel → ℕ → Call → Answer → Answer
learns s L (load bytes) r = r
learns s L (put v a) r = r
learns s L (run n) r = r
learns s L (show l v) r = cond (s.below l L) r (covered r)
learns s L (clock l) r = cond (s.below l L) r (covered r)
learns s L (open_slip h from to) r = r
learns s L (carry x) r = r
learns s L (withdraw x) r = r
learns s L tally r = r

-- what whoever sees L and below learns of a list of calls, call by call
abbrev pub transcript : ScaleModel → MeterModel → ℕ → EngineModel → List Call → List Answer
transcript s m L e [] = []
transcript s m L e (c ∷ cs) = learns s L c (answer s m e c) ∷ transcript s m L (next s m e c) cs

-- 1 if the call was accepted
abbrev pub once : Answer → ℕ
once (refused f) = 0
once (loaded n) = 1
once accepted = 1
once (amount a) = 1
once (time t) = 1
once (slip x) = 1
once (counts a b c) = 1

-- 1 for an accepted opening, an accepted carry, an accepted withdrawal
abbrev pub opening : Call → Answer → ℕ
opening (load bytes) r = 0
opening (put v a) r = 0
opening (run n) r = 0
opening (show l v) r = 0
opening (clock l) r = 0
opening (open_slip h from to) r = once r
opening (carry x) r = 0
opening (withdraw x) r = 0
opening tally r = 0

abbrev pub carrying : Call → Answer → ℕ
carrying (load bytes) r = 0
carrying (put v a) r = 0
carrying (run n) r = 0
carrying (show l v) r = 0
carrying (clock l) r = 0
carrying (open_slip h from to) r = 0
carrying (carry x) r = once r
carrying (withdraw x) r = 0
carrying tally r = 0

abbrev pub withdrawing : Call → Answer → ℕ
withdrawing (load bytes) r = 0
withdrawing (put v a) r = 0
withdrawing (run n) r = 0
withdrawing (show l v) r = 0
withdrawing (clock l) r = 0
withdrawing (open_slip h from to) r = 0
withdrawing (carry x) r = 0
withdrawing (withdraw x) r = once r
withdrawing tally r = 0

-- how many calls of a list count
abbrev pub counted : (Call → Answer → ℕ) → ScaleModel → MeterModel → EngineModel → List Call → ℕ
counted f s m e [] = 0
counted f s m e (c ∷ cs) = f c (answer s m e c) + counted f s m (next s m e c) cs

-- a call that can be made: what is loaded are bytes
abbrev pub Possible : Call → Type 0
Possible (load bytes) = AllByRecursion (λ x. x < 256) bytes
Possible (put v a) = Unit {0}
Possible (run n) = Unit {0}
Possible (show l v) = Unit {0}
Possible (clock l) = Unit {0}
Possible (open_slip h from to) = Unit {0}
Possible (carry x) = Unit {0}
Possible (withdraw x) = Unit {0}
Possible tally = Unit {0}

-- The promise of engines under one scale and one meter, over every list of calls from a fresh engine.
pub record Promise (s : ScaleModel) (m : MeterModel) : Type 0 where
  -- whoever sees a level L and below cannot tell apart two engines whose lists of calls differ in private puts alone
  pub private : (L : ℕ) → s.known L ≡ true → (cs ds : List Call) → AllByRecursion Possible cs → Pairs s m L fresh fresh cs ds → transcript s m L fresh cs ≡ transcript s m L fresh ds
  -- slips opened are slips carried, withdrawn and still out
  pub slips : (cs : List Call) → counted opening s m fresh cs ≡ counted carrying s m fresh cs + counted withdrawing s m fresh cs + still_out (after_all s m fresh cs).shared.out
  -- a tally answers those counts
  pub tallies : (cs : List Call) → answer s m (after_all s m fresh cs) tally ≡ counts (counted opening s m fresh cs) (counted carrying s m fresh cs) (counted withdrawing s m fresh cs)
