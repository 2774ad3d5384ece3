-- How slips add up over a list of calls.
use Rattle.std.proofs.Common.{◌≡◌, ℕ, ◌+◌, List, [], ◌∷◌, Some, None, Ok, Err, Option, Result, refl, arith}
use Rattle.book.specs.Reads.{BookModel}
use Rattle.flowcheck.specs.Checks.{checking_bytes}
use Rattle.refusal.specs.declared.check.CheckFault.{CheckFault}
use Rattle.engine.proofs.Asked.{neither}
use Rattle.refusal.specs.declared.engine.EngineFault.{EngineFault}
use Rattle.engine.specs.Calls.{after, after_all, answering, next, public_loaded}
use Rattle.engine.specs.Models.{Call, load, put, run, show, clock, open_slip, carry, withdraw, tally, EngineModel, Paper, Public, or_else, ask_apart, ask_figure, ask_level, ask_no_slip, ask_openings, ask_sight, ask_slip, refusal, with_book}
use Rattle.engine.specs.Outs.{still_out}
use Rattle.engine.specs.Promises.{opening, carrying, withdrawing, counted}
use Rattle.meter.specs.Meters.{MeterModel}
use Rattle.scale.specs.Scales.{ScaleModel}

-- from one public part to another so many openings, carries and withdrawals were accepted
pub record Counts (e f : Public) (openings carries withdrawals : ℕ) : Type 0 where
  pub opened : f.openings ≡ e.openings + openings
  pub carried : f.carries ≡ e.carries + carries
  pub withdrawn : f.withdrawals ≡ e.withdrawals + withdrawals

-- openings are carries, withdrawals and the slip that is out
pub record Balanced (e : Public) : Type 0 where
  pub balance : e.openings ≡ e.carries + e.withdrawals + still_out e.out

-- a load leaves the slip and the counts as they are
load_counts : (e : Public) (r : Result BookModel CheckFault) → Counts e (public_loaded e r) 0 0 0
load_counts e (Ok b) = omega arith
load_counts e (Err f) = omega arith

load_balances : (e : Public) (r : Result BookModel CheckFault) → Balanced e → Balanced (public_loaded e r)
load_balances e (Ok b) h = record { balance = h.balance }
load_balances e (Err f) h = h

-- no slip is out where that was asked and not refused, and one is where it had to be
none_out : (o : Option Paper) → ask_no_slip o ≡ None → still_out o ≡ 0
none_out None a = refl
none_out (Some x) a = cc

one_out : (o : Option Paper) (x : Paper) → ask_slip o x ≡ None → still_out o ≡ 1
one_out None x a = cc
one_out (Some y) x a = refl

module _ (s : ScaleModel) (m : MeterModel) where
  -- an opening is accepted only with no slip out
  opens_alone : (e : Public) (o : Option BookModel) (h from to : ℕ) → with_book o (λ b. or_else (ask_level s h) (or_else (ask_figure b from) (or_else (ask_figure b to) (or_else (ask_apart from to) (or_else (ask_sight s b h from) (or_else (ask_no_slip e.out) (ask_openings e.openings))))))) ≡ None → still_out e.out ≡ 0
  opens_alone e None h from to a = cc
  opens_alone e (Some b) h from to a =
      none_out e.out (neither _ _ (neither (ask_sight s b h from) _ (neither (ask_apart from to) _ (neither (ask_figure b to) _ (neither (ask_figure b from) _ (neither (ask_level s h) _ a).1).1).1).1).1).0

  -- one call, refused or accepted
  call_counts : (e : EngineModel) (r : Option EngineFault) (c : Call) → Counts e.shared (after s m r e c).shared (opening c (answering s m r e c)) (carrying c (answering s m r e c)) (withdrawing c (answering s m r e c))
  call_counts e None (load bs) = load_counts e.shared (checking_bytes s m bs)
  call_counts e None (put v a) = omega arith
  call_counts e None (run n) = omega arith
  call_counts e None (show l v) = omega arith
  call_counts e None (clock l) = omega arith
  call_counts e None (open_slip h from to) = omega arith
  call_counts e None (carry x) = omega arith
  call_counts e None (withdraw x) = omega arith
  call_counts e None tally = omega arith
  call_counts e (Some f) (load bs) = omega arith
  call_counts e (Some f) (put v a) = omega arith
  call_counts e (Some f) (run n) = omega arith
  call_counts e (Some f) (show l v) = omega arith
  call_counts e (Some f) (clock l) = omega arith
  call_counts e (Some f) (open_slip h from to) = omega arith
  call_counts e (Some f) (carry x) = omega arith
  call_counts e (Some f) (withdraw x) = omega arith
  call_counts e (Some f) tally = omega arith

  call_balances : (e : EngineModel) (r : Option EngineFault) (c : Call) → refusal s m e.shared c ≡ r → Balanced e.shared → Balanced (after s m r e c).shared
  call_balances e None (load bs) a h = load_balances e.shared (checking_bytes s m bs) h
  call_balances e None (put v x) a h = h
  call_balances e None (run n) a h = h
  call_balances e None (show l v) a h = h
  call_balances e None (clock l) a h = h
  call_balances e None (open_slip f from to) a h = omega (arith, opens_alone e.shared e.shared.book f from to a)
  call_balances e None (carry x) a h = omega (arith, one_out e.shared.out x a)
  call_balances e None (withdraw x) a h = omega (arith, one_out e.shared.out x a)
  call_balances e None tally a h = h
  call_balances e (Some f) c a h = h

  -- a list of calls
  pub counts_all : (e : EngineModel) (cs : List Call) → Counts e.shared (after_all s m e cs).shared (counted opening s m e cs) (counted carrying s m e cs) (counted withdrawing s m e cs)
  counts_all e [] = omega arith
  counts_all e (c ∷ cs) =
      let here = call_counts e (refusal s m e.shared c) c in
      let rest = counts_all (next s m e c) cs in
      omega (arith, here, rest)

  pub balances_all : (e : EngineModel) (cs : List Call) → Balanced e.shared → Balanced (after_all s m e cs).shared
  balances_all e [] h = h
  balances_all e (c ∷ cs) h = balances_all (next s m e c) cs (call_balances e (refusal s m e.shared c) c refl h)
