-- The promise of an engine under every lawful scale and every lawful meter.
use Rattle.std.proofs.Common.{◌≡◌, ℕ, ◌+◌, true, List, ◌∷◌, refl, ap₂, arith}
use Rattle.engine.proofs.Counting.{Balanced, counts_all, balances_all}
use Rattle.engine.proofs.Steps.{steps, puts_step}
use Rattle.engine.proofs.Twins.{Twins}
use Rattle.engine.specs.Calls.{after_all, answer}
use Rattle.engine.specs.Models.{counts, Call, tally, EngineModel, Public, fresh}
use Rattle.engine.specs.Outs.{still_out}
use Rattle.engine.specs.Promises.{Pairs, none, same, puts, Possible, Promise, transcript, opening, carrying, withdrawing, counted}
use Rattle.meter.specs.Meters.{MeterModel, Lawful as MeterLaws}
use Rattle.scale.specs.Scales.{ScaleModel, Lawful as ScaleLaws}
use Rattle.std.specs.List.{AllByRecursion}

module _ (s : ScaleModel) (m : MeterModel) (sl : ScaleLaws s) (ml : MeterLaws m) (L : ℕ) (known : s.known L ≡ true) where
  -- From twins on, by induction on how the calls pair off: each pair teaches the same and leaves twins.
  private_from : {p q : EngineModel} {cs ds : List Call} → Pairs s m L p q cs ds → AllByRecursion Possible cs → Twins s m L p q → transcript s m L p cs ≡ transcript s m L q ds
  private_from none h t = refl
  private_from (same {p = p} {q = q} c w r) h t =
      let step = steps s m sl ml L known p q c h.0 w t in
      ap₂ ◌∷◌ step.learned (private_from r h.1 step.twins)
  private_from (puts {p = p} {q = q} v a b w r) h t =
      let step = puts_step s m L p q v a b w t in
      ap₂ ◌∷◌ step.learned (private_from r h.1 step.twins)

-- a fresh engine balances
start : Balanced fresh.shared
start = record { balance = refl }

module _ (s : ScaleModel) (m : MeterModel) (cs : List Call) where
  slips_add : counted opening s m fresh cs ≡ counted carrying s m fresh cs + counted withdrawing s m fresh cs + still_out (after_all s m fresh cs).shared.out
  slips_add = omega (arith, counts_all s m fresh cs, balances_all s m fresh cs start)

  tally_answers : answer s m (after_all s m fresh cs) tally ≡ counts (counted opening s m fresh cs) (counted carrying s m fresh cs) (counted withdrawing s m fresh cs)
  tally_answers =
      let c = counts_all s m fresh cs in
      let e : Public = (after_all s m fresh cs).shared in
      let opened : e.openings ≡ counted opening s m fresh cs = omega arith in
      let carried : e.carries ≡ counted carrying s m fresh cs = omega arith in
      let withdrawn : e.withdrawals ≡ counted withdrawing s m fresh cs = omega arith in
      λ i. counts (opened i) (carried i) (withdrawn i)

-- engines keep the promise: the two engines of its first part start as twins, with no book
pub promise : (s : ScaleModel) (m : MeterModel) → ScaleLaws s → MeterLaws m → Promise s m
promise s m sl ml = record {
  private = λ L known cs ds h r. private_from s m sl ml L known r h (record { one = refl; kept = tt });
  slips = slips_add s m;
  tallies = tally_answers s m;
}
