-- A run takes at most as many ticks as its weight times the most that one charge or wait takes.
use Rattle.std.proofs.Common.{ℕ, zero, suc, ◌+◌, ◌*◌, ◌≤◌, max, Bool, true, false, cond, List, ℤ, ap, mul-le-mul_right, mul_assoc, suc-mul, add-mul, mul-add, arith}
use Rattle.book.proofs.Factors.{weight_times}
use Rattle.book.specs.declared.instruction.Instruction.{Instruction}
use Rattle.book.specs.declared.instruction.Instruction.TheVariants.{Stop, Number, Figure, Clock, Operate, Store, If, Repeat, Wait, Else, End}
use Rattle.book.specs.Encodings.{EventFormed}
use Rattle.book.specs.Forms.{Formed, ends, number, figure, clock, operate, store, wait, one_part, two_parts, turns}
use Rattle.book.specs.Trees.{Code, done, plain, branch, loop, weight, event_weight}
use Rattle.steps.specs.Amounts.{is_zero}
use Rattle.machine.specs.Bounds.{waits, longest, TickBound}
use Rattle.steps.specs.Machines.{Machine, amount_at, emptied, perform, ticks}
use Rattle.steps.specs.Runs.{State, started, exec, run_event, times}
use Rattle.meter.specs.Meters.{MeterModel, Lawful}

-- a step that adds at most k, done n times, adds at most n times k
pub times_bound : (n k : ℕ) (step : Machine → Machine) → ((s : Machine) → (step s).clock ≤ s.clock + k) → (s : Machine) → (times n step s).clock ≤ s.clock + n * k
times_bound zero k step each s = omega arith
times_bound (suc n) k step each s = omega (arith, suc-mul n k, each s, times_bound n k step each (step s))

-- n turns of an inside of weight u, each charged once more, against the weight of r turns and their ends
turns_bound : (n r u k : ℕ) → n ≤ r → n * (k + u * k) ≤ r * u * k + r * k
turns_bound n r u k l =
    let more : n * (k + u * k) ≤ r * (k + u * k) = mul-le-mul_right (k + u * k) l in
    omega (arith, mul-add r k (u * k), mul_assoc r u k)

-- the one of two parts that is chosen
either_bound : (z : Bool) (p q : Machine) (n a b : ℕ) → p.clock ≤ n + a → q.clock ≤ n + b → (cond z p q).clock ≤ n + (a + b)
either_bound true p q n a b l r = omega arith
either_bound false p q n a b l r = omega arith

-- of a formed stretch no wait is longer than 1,000 ticks
pub formed_waits : {nv d h : ℕ} {c : Code} → Formed nv d h c → longest c ≤ 1000
formed_waits ends = omega arith
formed_waits (number l p) = omega (arith, formed_waits p)
formed_waits (figure v l p) = omega (arith, formed_waits p)
formed_waits (clock l p) = omega (arith, formed_waits p)
formed_waits (operate p) = omega (arith, formed_waits p)
formed_waits (store v p) = omega (arith, formed_waits p)
formed_waits (wait l p) = omega (arith, formed_waits p)
formed_waits (one_part p q) = omega (arith, formed_waits p, formed_waits q)
formed_waits (two_parts p o q) = omega (arith, formed_waits p, formed_waits o, formed_waits q)
formed_waits (turns l p q) = omega (arith, formed_waits p, formed_waits q)

-- for a meter none of whose charges is above k
module _ (m : MeterModel) (k : ℕ) (charges : (code : ℕ) (a b : ℤ) → m.charge code a b ≤ k) where
  ticks_bound : (i : Instruction) (st : List ℤ) → waits i ≤ k → ticks m i st ≤ k
  ticks_bound (Number z) st w = charges _ _ _
  ticks_bound (Figure v) st w = charges _ _ _
  ticks_bound Clock st w = charges _ _ _
  ticks_bound (Operate o) st w = charges _ _ _
  ticks_bound (Store v) st w = charges _ _ _
  ticks_bound If st w = charges _ _ _
  ticks_bound (Repeat n) st w = charges _ _ _
  ticks_bound (Wait n) st w = w
  ticks_bound Else st w = omega arith
  ticks_bound End st w = omega arith
  ticks_bound Stop st w = omega arith

  -- one instruction
  step_bound : (i : Instruction) (s : Machine) → waits i ≤ k → (perform m i s).clock ≤ s.clock + k
  step_bound i s w = omega (arith, ticks_bound i s.stack w)

  -- By induction on the stretch. A repeat of n turns weighs as if its count were max 1 n, so at least what its turns do.
  pub run_bound : (c : Code) → longest c ≤ k → (s : Machine) → (exec m c s).clock ≤ s.clock + weight 1 c * k
  run_bound done w s = omega arith
  run_bound (plain i c) w s =
      omega (arith, add-mul 1 (weight 1 c) k, step_bound i s (omega arith), run_bound c (omega arith) (perform m i s))
  run_bound (branch b f g c) w s =
      let u = weight 1 f in
      let v = weight 1 g in
      let x : ℕ = cond b 1 0 in
      let y = weight 1 c in
      let p = perform m If s in
      let q : Machine = cond (is_zero (amount_at s.stack 0)) (exec m g p) (exec m f p) in
      omega (
        arith,
        add-mul 1 (u + (x + (v + (1 + y)))) k,
        add-mul u (x + (v + (1 + y))) k,
        add-mul x (v + (1 + y)) k,
        add-mul v (1 + y) k,
        add-mul 1 y k,
        step_bound If s (omega arith),
        either_bound (is_zero (amount_at s.stack 0)) (exec m g p) (exec m f p) p.clock (v * k) (u * k) (run_bound g (omega arith) p) (run_bound f (omega arith) p),
        run_bound c (omega arith) (emptied q),
      )
  run_bound (loop n f c) w s =
      let r = 1 * max 1 n in
      let u = weight 1 f in
      let x = weight r f in
      let y = weight 1 c in
      let step : Machine → Machine = λ q. exec m f (perform m (Repeat n) q) in
      let each : (q : Machine) → (step q).clock ≤ q.clock + (k + u * k) = λ q. omega (arith, step_bound (Repeat n) q (omega arith), run_bound f (omega arith) (perform m (Repeat n) q)) in
      omega (
        arith,
        add-mul 1 (x + (r + y)) k,
        add-mul x (r + y) k,
        add-mul r y k,
        ap (λ z. z * k) (weight_times r f),
        turns_bound n r u k (omega arith),
        times_bound n (k + u * k) step each s,
        run_bound c (omega arith) (emptied (times n step s)),
      )

-- A run's charges are at most the meter's largest, and that and the waits of a formed event are at most 1,000 ticks.
pub tick_bound : (m : MeterModel) → Lawful m → TickBound m
tick_bound m law =
    record {
      by_weight = λ e s.
          let k = max m.largest (longest e) in
          omega (arith, add-mul (weight 1 e) 1 k, run_bound m k (λ code a b. omega (arith, law.within_largest code a b)) e (omega arith) (started s));
      thousand = thousand;
      at_most = λ e s p. omega (arith, thousand e s p, p.light);
    }
  where
    thousand : {nv : ℕ} (e : Code) (s : State) → EventFormed nv e → (run_event m e s).clock ≤ s.clock + event_weight e * 1000
    thousand e s p =
        omega (arith, run_bound m 1000 (λ code a b. omega (arith, law.within_largest code a b, law.largest_bound)) e (formed_waits p.formed) (started s))
