-- Confinement: in a context that is hidden from an observer, a stretch that keeps the flow rules changes no figure that is
-- seen, and moves a clock that is seen by just its toll.
use Rattle.std.proofs.Common.{◌≡◌, ℕ, Bool, true, cond, List, ℤ, pos, sym, refl, inl, inr}
use Rattle.book.specs.Codes.{code_of}
use Rattle.book.specs.declared.instruction.Instruction.{Instruction}
use Rattle.book.specs.declared.instruction.Instruction.TheVariants.{Number, Figure, Clock, Operate, Store, If, Repeat, Wait}
use Rattle.book.specs.Trees.{Code}
use Rattle.flowcheck.specs.Flows.{Flows, Paced, Even, ends, number, figure, clock, operate, store, wait, parts, turns}
use Rattle.flowcheck.specs.Tolls.{base, toll}
use Rattle.flowcheck.specs.Walks.{Setting, figure_level}
use Rattle.machine.proofs.Agreeing.{agree_aside}
use Rattle.machine.proofs.Confined.{Confined, Kept, stays, follows, recount, empties, either_way, performs, again}
use Rattle.machine.proofs.Observing.{Sees, Hidden, Known, Sound, known_at, first_seen}
use Rattle.steps.specs.Amounts.{is_zero}
use Rattle.steps.specs.Machines.{Machine, amount_at, perform}
use Rattle.steps.specs.Runs.{exec}

module _ (g : Setting) (s : Sound g) (L : ℕ) where
  -- a context above a hidden one is hidden
  hidden_join : (k a : ℕ) → g.scale.known k ≡ true → g.scale.known a ≡ true → Hidden g.scale L k → Hidden g.scale L (g.scale.join k a)
  hidden_join k a kk ka u e = u (first_seen g.scale s.scale L k a kk ka e)

  -- a clock that is seen may not show a hidden level, so that a charge is steady, and as at operands 0
  steadily : (l : ℕ) (i : Instruction) → Hidden g.scale L l → Paced g l i → (a b : ℤ) → Sees g.scale L g.clock → g.meter.charge (code_of i) a b ≡ base g.meter i
  steadily l i u (inl t) a b o = s.meter.steady_same (code_of i) t a b (pos 0) (pos 0)
  steadily l i u (inr t) a b o = absurd (u (s.scale.transitive l g.clock L t o))

  -- and the parts of an if have the same toll
  evenly : (l : ℕ) (f h : Code) → Hidden g.scale L l → Even g l f h → Sees g.scale L g.clock → toll g.meter h ≡ toll g.meter f
  evenly l f h u (inl t) o = absurd (u (s.scale.transitive l g.clock L t o))
  evenly l f h u (inr t) o = sym t

  -- whichever part of an if is taken, in a hidden context it is confined, and the toll is that of the first
  pub part_confined : (l : ℕ) (f h : Code) (b : Bool) (p : Machine) → Hidden g.scale L l → Even g l f h → Confined g L (toll g.meter f) p (exec g.meter f p) → Confined g L (toll g.meter h) p (exec g.meter h p) → Confined g L (toll g.meter f) p (cond b (exec g.meter h p) (exec g.meter f p))
  part_confined l f h b p u e x y = either_way g L b (recount g L (evenly l f h u e) y) x

  -- By induction on the flow rules. A store is in a figure above the context, which is hidden too; the parts of an if have
  -- a context above this one, and the turns of a repeat have this one.
  pub confined : {k : ℕ} {ls : List ℕ} {c : Code} → Flows g k ls c → g.scale.known k ≡ true → Known g.scale ls → Hidden g.scale L k → (p : Machine) → Confined g L (toll g.meter c) p (exec g.meter c p)
  confined ends kk kl u p = stays g L p
  confined (number {z} x f) kk kl u p =
      let now = performs g L (Number z) p (λ fs a. a) (λ o. refl) in
      follows g L now (confined f kk (s.scale.floor_known, kl) u (perform g.meter (Number z) p))
  confined (figure {v} x f) kk kl u p =
      let now = performs g L (Figure v) p (λ fs a. a) (λ o. refl) in
      let kv = known_at g.scale s.scale g.levels v s.levels in
      follows g L now (confined f kk (kv, kl) u (perform g.meter (Figure v) p))
  confined (clock x f) kk kl u p =
      let now = performs g L Clock p (λ fs a. a) (λ o. refl) in
      follows g L now (confined f kk (s.clock, kl) u (perform g.meter Clock p))
  confined (operate {k} {a} {b} {o} x f) kk kl u p =
      let j = g.scale.join k a in
      let kj = s.scale.join_known k a kk kl.1.0 in
      let stake = hidden_join j b kj kl.0 (hidden_join k a kk kl.1.0 u) in
      let now = performs g L (Operate o) p (λ fs h. h) (steadily (g.scale.join j b) (Operate o) stake x (amount_at p.stack 1) (amount_at p.stack 0)) in
      follows g L now (confined f kk (s.scale.join_known a b kl.1.0 kl.0, kl.1.1) u (perform g.meter (Operate o) p))
  confined (store {k} {a} {v} x y z f) kk kl u p =
      let hidden : Hidden g.scale L (figure_level g v) = λ e. u (s.scale.transitive k (figure_level g v) L z e) in
      let aside : Kept g L p.figures _ = λ fs h. agree_aside h v g.scale.floor (amount_at p.stack 0) hidden in
      let now = performs g L (Store v) p aside (steadily (g.scale.join k a) (Store v) (hidden_join k a kk kl.0 u) x (amount_at p.stack 0) (pos 0)) in
      follows g L now (confined f kk tt u (perform g.meter (Store v) p))
  confined (wait {n} f) kk kl u p =
      let now = performs g L (Wait n) p (λ fs a. a) (λ o. refl) in
      follows g L now (confined f kk tt u (perform g.meter (Wait n) p))
  confined (parts {k} {a} {f} {s = h} x y z w r) kk kl u p =
      let j = g.scale.join k a in
      let kj = s.scale.join_known k a kk kl.0 in
      let inside = hidden_join k a kk kl.0 u in
      let q = perform g.meter If p in
      let now = performs g L If p (λ fs d. d) (steadily j If inside x (amount_at p.stack 0) (pos 0)) in
      let part = part_confined j f h (is_zero (amount_at p.stack 0)) q inside y (confined z kj tt inside q) (confined w kj tt inside q) in
      follows g L now (follows g L (empties g L part) (confined r kk tt u _))
  confined (turns {n} {f} x y z) kk kl u p =
      let charge = λ (q : Machine). performs g L (Repeat n) q (λ fs a. a) (λ o. refl) in
      let turn = λ (q : Machine). follows g L (charge q) (confined y kk tt u (perform g.meter (Repeat n) q)) in
      let all = again g L (λ q. exec g.meter f (perform g.meter (Repeat n) q)) turn n p in
      follows g L (empties g L all) (confined z kk tt u _)
