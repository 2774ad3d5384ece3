-- Stretches of which an observer sees nothing but the time they take, and how they follow one another.
use Rattle.std.proofs.Common.{◌≡◌, ℕ, zero, suc, ◌+◌, ◌*◌, ◌≤◌, Bool, true, false, cond, List, ℤ, ap, ◌∙◌, suc-mul, arith}
use Rattle.book.specs.declared.instruction.Instruction.{Instruction}
use Rattle.flowcheck.specs.Tolls.{price}
use Rattle.flowcheck.specs.Walks.{Setting}
use Rattle.machine.proofs.Agreeing.{Agree}
use Rattle.machine.proofs.Observing.{Sees}
use Rattle.steps.specs.Machines.{Machine, emptied, figures_after, later, latest, perform, ticks}
use Rattle.steps.specs.Runs.{times}

-- what agrees with the first figures agrees with the second, for an observer at L
abbrev pub Kept : Setting → ℕ → List ℤ → List ℤ → Type 0
Kept g L xs ys = (fs : List ℤ) → Agree g.scale L g.levels fs xs → Agree g.scale L g.levels fs ys

-- Confined g L n p q: from machine p to machine q an observer at L sees nothing but a clock n ticks later, and this only if the
-- clock is seen. A clock beyond the latest time would go back to it at the first charge, so nothing is said of that one.
pub record Confined (g : Setting) (L n : ℕ) (p q : Machine) : Type 0 where
  pub kept : Kept g L p.figures q.figures
  pub moved : Sees g.scale L g.clock → p.clock ≤ latest → q.clock ≡ later p.clock n

module _ (g : Setting) (L : ℕ) where
  pub stays : (p : Machine) → Confined g L 0 p p
  stays p = record { kept = λ fs a. a; moved = λ o h. omega arith }

  -- One after another: the clock is within its range behind the first, so the ticks add up.
  pub follows : {a b : ℕ} {p q r : Machine} → Confined g L a p q → Confined g L b q r → Confined g L (a + b) p r
  follows {a} {b} {p} {q} {r} s t = record { kept = λ fs h. t.kept fs (s.kept fs h); moved = on }
    where
      on : Sees g.scale L g.clock → p.clock ≤ latest → r.clock ≡ later p.clock (a + b)
      on o h =
          let x : q.clock ≡ later p.clock a = s.moved o h in
          let y : r.clock ≡ later q.clock b = t.moved o (omega arith) in
          omega arith

  -- the same number of ticks, if the clock is seen
  pub recount : {a b : ℕ} {p q : Machine} → (Sees g.scale L g.clock → a ≡ b) → Confined g L a p q → Confined g L b p q
  recount {p} e s = record { kept = s.kept; moved = λ o h. s.moved o h ∙ ap (later p.clock) (e o) }

  -- whatever is left on the stack
  pub empties : {n : ℕ} {p q : Machine} → Confined g L n p q → Confined g L n p (emptied q)
  empties s = record { kept = s.kept; moved = s.moved }

  -- one of two ways
  pub either_way : {n : ℕ} {p q r : Machine} (b : Bool) → Confined g L n p q → Confined g L n p r → Confined g L n p (cond b q r)
  either_way true s t = s
  either_way false s t = t

  -- one instruction that takes its price
  pub performs : (i : Instruction) (p : Machine) → Kept g L p.figures (figures_after i p) → (Sees g.scale L g.clock → ticks g.meter i p.stack ≡ price g.meter i) → Confined g L (price g.meter i) p (perform g.meter i p)
  performs i p k t = record { kept = k; moved = λ o h. ap (later p.clock) (t o) }

  -- a step of a ticks, n times
  pub again : {a : ℕ} (step : Machine → Machine) → ((p : Machine) → Confined g L a p (step p)) → (n : ℕ) (p : Machine) → Confined g L (n * a) p (times n step p)
  again step s zero p = recount (λ o. omega arith) (stays p)
  again {a} step s (suc n) p = recount (λ o. omega (arith, suc-mul n a)) (follows (s p) (again step s n (step p)))
