-- One call on each of two engines that an observer cannot tell apart: the same is learned, and they stay so.
use Rattle.std.proofs.Common.{◌≡◌, ℕ, true, ℤ, Some, None, Option, refl, subst}
use Rattle.engine.proofs.Learned.{shows_same, reads_same}
use Rattle.engine.proofs.Twins.{Kept, Twins, keeps_stored, keeps_loaded, keeps_run}
use Rattle.refusal.specs.declared.engine.EngineFault.{EngineFault}
use Rattle.engine.specs.Calls.{after, answer, answering, answer_to, next, public_after, state_after}
use Rattle.engine.specs.Models.{Call, load, put, run, show, clock, open_slip, carry, withdraw, tally, EngineModel, Public, refusal}
use Rattle.engine.specs.Promises.{HeldLow, MovesEqually, Possible, learns, moved}
use Rattle.steps.specs.Runs.{State}
use Rattle.meter.specs.Meters.{MeterModel, Lawful as MeterLaws}
use Rattle.scale.specs.Scales.{ScaleModel, Lawful as ScaleLaws}

-- an engine by its parts
abbrev pub engine_of : Public → State → EngineModel
engine_of e p = record { shared = e; state = p }

-- after the call c on one engine and d on the other they are twins, and an observer at L learned the same
pub record Stepped (s : ScaleModel) (m : MeterModel) (L : ℕ) (p q : EngineModel) (c d : Call) : Type 0 where
  pub twins : Twins s m L (next s m p c) (next s m q d)
  pub learned : learns s L c (answer s m p c) ≡ learns s L d (answer s m q d)

module _ (s : ScaleModel) (m : MeterModel) (L : ℕ) where
  -- two puts, of equal amounts if the figure is held low
  puts_twins : (e : Public) (p q : State) (v : ℕ) (x y : ℤ) → (HeldLow s L e.book v → x ≡ y) → Kept s m L e.book p q → (r : Option EngineFault) → Twins s m L (after s m r (engine_of e p) (put v x)) (after s m r (engine_of e q) (put v y))
  puts_twins e p q v x y h k None = record { one = refl; kept = keeps_stored s m L e.book p q v x y h k }
  puts_twins e p q v x y h k (Some f) = record { one = refl; kept = k }

  puts_same : (e : Public) (p q : State) (v : ℕ) (x y : ℤ) (r : Option EngineFault) → answering s m r (engine_of e p) (put v x) ≡ answering s m r (engine_of e q) (put v y)
  puts_same e p q v x y None = refl
  puts_same e p q v x y (Some f) = refl

  -- Two puts on twins: proved for one public part, and taken along the equation of the two.
  pub puts_step : (p q : EngineModel) (v : ℕ) (x y : ℤ) → (HeldLow s L p.shared.book v → x ≡ y) → Twins s m L p q → Stepped s m L p q (put v x) (put v y)
  puts_step p q v x y h t =
      let at_one : Stepped s m L p (engine_of p.shared q.state) (put v x) (put v y) =
      record {
        twins = puts_twins p.shared p.state q.state v x y h t.kept (refusal s m p.shared (put v x));
        learned = puts_same p.shared p.state q.state v x y (refusal s m p.shared (put v x));
      } in
      subst (λ e. Stepped s m L p (engine_of e q.state) (put v x) (put v y)) t.one at_one

module _ (s : ScaleModel) (m : MeterModel) (sl : ScaleLaws s) (ml : MeterLaws m) (L : ℕ) (known : s.known L ≡ true) where
  -- an accepted call keeps the states as they were to the observer
  keeps : (e : Public) (p q : State) (c : Call) → Possible c → MovesEqually s m L (engine_of e p) (engine_of e q) c → refusal s m e c ≡ None → Kept s m L e.book p q → Kept s m L (public_after s m e c).book (state_after s m (engine_of e p) c) (state_after s m (engine_of e q) c)
  keeps e p q (load bs) h w a k = keeps_loaded s m L e p q bs h k
  keeps e p q (put v x) h w a k = keeps_stored s m L e.book p q v x x (λ l. refl) k
  keeps e p q (run n) h w a k = keeps_run s m L sl ml known e.book p q n a k
  keeps e p q (show l v) h w a k = k
  keeps e p q (clock l) h w a k = k
  keeps e p q (open_slip f from to) h w a k = k
  keeps e p q (carry x) h w a k = keeps_stored s m L e.book p q x.to (moved (engine_of e p) x) (moved (engine_of e q) x) (w a) k
  keeps e p q (withdraw x) h w a k = k
  keeps e p q tally h w a k = k

  -- the observer learns the same of an accepted call
  teaches : (e : Public) (p q : State) (c : Call) → refusal s m e c ≡ None → Kept s m L e.book p q → learns s L c (answer_to s m (engine_of e p) c) ≡ learns s L c (answer_to s m (engine_of e q) c)
  teaches e p q (load bs) a k = refl
  teaches e p q (put v x) a k = refl
  teaches e p q (run n) a k = refl
  teaches e p q (show l v) a k = shows_same s m sl L e.book p q l v a k
  teaches e p q (clock l) a k = reads_same s m sl L e.book p q l a k
  teaches e p q (open_slip f from to) a k = refl
  teaches e p q (carry x) a k = refl
  teaches e p q (withdraw x) a k = refl
  teaches e p q tally a k = refl

  -- the same call on both, by its refusal, which hangs on the public part alone
  leaves_twins : (e : Public) (p q : State) (c : Call) → Possible c → MovesEqually s m L (engine_of e p) (engine_of e q) c → Kept s m L e.book p q → (r : Option EngineFault) → refusal s m e c ≡ r → Twins s m L (after s m r (engine_of e p) c) (after s m r (engine_of e q) c)
  leaves_twins e p q c h w k None a = record { one = refl; kept = keeps e p q c h w a k }
  leaves_twins e p q c h w k (Some f) a = record { one = refl; kept = k }

  tells_same : (e : Public) (p q : State) (c : Call) → Kept s m L e.book p q → (r : Option EngineFault) → refusal s m e c ≡ r → learns s L c (answering s m r (engine_of e p) c) ≡ learns s L c (answering s m r (engine_of e q) c)
  tells_same e p q c k None a = teaches e p q c a k
  tells_same e p q c k (Some f) a = refl

  -- The same call on twins, likewise.
  pub steps : (p q : EngineModel) (c : Call) → Possible c → MovesEqually s m L p q c → Twins s m L p q → Stepped s m L p q c c
  steps p q c h w t =
      let at_one : MovesEqually s m L p (engine_of p.shared q.state) c → Stepped s m L p (engine_of p.shared q.state) c c =
      λ u. record {
        twins = leaves_twins p.shared p.state q.state c h u t.kept (refusal s m p.shared c) refl;
        learned = tells_same p.shared p.state q.state c t.kept (refusal s m p.shared c) refl;
      } in
      subst (λ e. MovesEqually s m L p (engine_of e q.state) c → Stepped s m L p (engine_of e q.state) c c) t.one at_one w
