-- A formed stretch runs by the rules: no amount is made up on the way, and no amount is left out.
use Rattle.std.proofs.Common.{◌≡◌, ℕ, zero, suc, ◌<◌, ◌≤◌, Bool, true, false, cond, List, [], ◌∷◌, length, get_or, set, ℤ, pos, sym, refl, ap, ◌∙◌, subst, arith, length-set}
use Rattle.book.specs.Codes.{code_of}
use Rattle.book.specs.declared.instruction.Instruction.TheVariants.{Operate, Store, Wait, Repeat}
use Rattle.book.specs.declared.instruction.Operation.{Operation}
use Rattle.book.specs.Forms
use Rattle.book.specs.Forms.{Formed}
use Rattle.book.specs.Trees.{Code, done, plain, branch, loop}
use Rattle.machine.proofs.RuleRuns.{room, emptied_same, leaves_empty, turns_empty, keeps_figures, turns_keep}
use Rattle.steps.specs.Amounts.{is_zero, operate}
use Rattle.steps.specs.Machines.{Machine, later, reading, emptied, perform}
use Rattle.machine.specs.Rules.{at, Goes, Turns, ends, number, figure, clock, operation, store, wait, first, second, turns, none, turn}
use Rattle.steps.specs.Runs.{times, exec}
use Rattle.meter.specs.Meters.{MeterModel}
use Rattle.stack.specs.Stacks.{pushed}

-- c goes by the rules from every machine with h amounts on its stack and nv figures
abbrev Follows : MeterModel → ℕ → ℕ → Code → Type 0
Follows m nv h c = (st fs : List ℤ) (t : ℕ) → length st ≡ h → length fs ≡ nv → Goes m c (at st fs t) (exec m c (at st fs t))

-- each form of code goes by the rules if its parts do; a stack of another height never stands before it
module _ (m : MeterModel) (nv : ℕ) where
  -- from behind a push with room
  pushes : {h : ℕ} (c : Code) → Follows m nv (suc h) c → (x : ℤ) (st fs : List ℤ) (t : ℕ) → length st ≡ h → h < 8 → length fs ≡ nv → Goes m c (at (x ∷ st) fs t) (exec m c (at (pushed x st) fs t))
  pushes c k x st fs t e l f =
      subst (λ y. Goes m c (at (x ∷ st) fs t) (exec m c (at y fs t))) (sym (room x st (omega arith))) (k (x ∷ st) fs t (ap suc e) f)

  operates : {h : ℕ} (o : Operation) (c : Code) → suc (suc h) ≤ 8 → Follows m nv (suc h) c → Follows m nv (suc (suc h)) (plain (Operate o) c)
  operates o c l k [] fs t e f = absurd (omega arith)
  operates o c l k (b ∷ []) fs t e f = absurd (omega arith)
  operates o c l k (b ∷ a ∷ st) fs t e f =
      operation (pushes c k (operate o a b) st fs (later t (m.charge (code_of (Operate o)) a b)) (omega arith) (omega arith) f)

  stores : (v : ℕ) (c : Code) → v < nv → Follows m nv 0 c → Follows m nv 1 (plain (Store v) c)
  stores v c l k [] fs t e f = absurd (omega arith)
  stores v c l k (a ∷ []) fs t e f = store (omega arith) (k [] (set fs v a) (later t (m.charge 10 a (pos 0))) refl (length-set fs v a ∙ f))
  stores v c l k (a ∷ b ∷ st) fs t e f = absurd (omega arith)

  waits : (n : ℕ) (c : Code) → Follows m nv 0 c → Follows m nv 0 (plain (Wait n) c)
  waits n c k [] fs t e f = wait (k [] fs (later t n) refl f)
  waits n c k (a ∷ st) fs t e f = absurd (omega arith)

  -- from what a part has left
  after : (c : Code) → Follows m nv 0 c → (q : Machine) → q.stack ≡ [] → length q.figures ≡ nv → Goes m c q (exec m c (emptied q))
  after c k q e f = subst (λ s. Goes m c q (exec m c s)) (emptied_same q e) (k q.stack q.figures q.clock (ap length e) f)

  -- by the part that the amount tested chooses
  chooses : (b : Bool) (f g c : Code) → Follows m nv 0 f → Follows m nv 0 g → Follows m nv 0 c → (a : ℤ) (fs : List ℤ) (t : ℕ) → length fs ≡ nv → (z : Bool) → is_zero a ≡ z → Goes m (branch b f g c) (at (a ∷ []) fs t) (exec m c (emptied (cond z (exec m g (at [] fs (later t (m.charge 11 a (pos 0))))) (exec m f (at [] fs (later t (m.charge 11 a (pos 0))))))))
  chooses b f g c kf kg kc a fs t e true z =
      let p = kg [] fs (later t (m.charge 11 a (pos 0))) refl e in
      second z p (after c kc _ (leaves_empty m p) (keeps_figures m p ∙ e))
  chooses b f g c kf kg kc a fs t e false z =
      let p = kf [] fs (later t (m.charge 11 a (pos 0))) refl e in
      first z p (after c kc _ (leaves_empty m p) (keeps_figures m p ∙ e))

  branches : (b : Bool) (f g c : Code) → Follows m nv 0 f → Follows m nv 0 g → Follows m nv 0 c → Follows m nv 1 (branch b f g c)
  branches b f g c kf kg kc [] fs t e l = absurd (omega arith)
  branches b f g c kf kg kc (a ∷ []) fs t e l = chooses b f g c kf kg kc a fs t l (is_zero a) refl
  branches b f g c kf kg kc (a ∷ x ∷ st) fs t e l = absurd (omega arith)

  -- n turns of a repeat, whatever its count
  takes_turns : (k n : ℕ) (f : Code) → Follows m nv 0 f → (q : Machine) → q.stack ≡ [] → length q.figures ≡ nv → Turns m n f q (times n (λ s. exec m f (perform m (Repeat k) s)) q)
  takes_turns k zero f kf q e l = subst (λ st. Turns m 0 f (at st q.figures q.clock) (at st q.figures q.clock)) (sym e) none
  takes_turns k (suc n) f kf q e l =
      let p = kf [] q.figures (later q.clock (m.charge 12 (pos 0) (pos 0))) refl l in
      let end : Machine = times (suc n) (λ s. exec m f (perform m (Repeat k) s)) q in
      subst (λ st. Turns m (suc n) f (at st q.figures q.clock) end) (sym e)
      (turn p (takes_turns k n f kf _ (leaves_empty m p) (keeps_figures m p ∙ l)))

  loops : (n : ℕ) (f c : Code) → Follows m nv 0 f → Follows m nv 0 c → Follows m nv 0 (loop n f c)
  loops n f c kf kc [] fs t e l =
      let p = takes_turns n n f kf (at [] fs t) refl l in
      turns p (after c kc _ (turns_empty m p) (turns_keep m p ∙ l))
  loops n f c kf kc (a ∷ st) fs t e l = absurd (omega arith)

  finishes : Follows m nv 0 done
  finishes [] fs t e f = ends
  finishes (a ∷ st) fs t e f = absurd (omega arith)

  -- By induction on how the stretch is formed, one line for each form.
  follows : {d h : ℕ} {c : Code} → Formed nv d h c → h ≤ 8 → Follows m nv h c
  follows Forms.ends l = finishes
  follows (Forms.number {z = z} {c = c} r p) l = λ st fs t e f. number (omega arith) (pushes c (follows p r) z st fs _ e r f)
  follows (Forms.figure {v = v} {c = c} i r p) l = λ st fs t e f. figure (omega arith) (omega arith) (pushes c (follows p r) (get_or fs v (pos 0)) st fs _ e r f)
  follows (Forms.clock {c = c} r p) l = λ st fs t e f. clock (omega arith) (pushes c (follows p r) (reading t) st fs _ e r f)
  follows (Forms.operate {o = o} {c = c} p) l = operates o c l (follows p (omega arith))
  follows (Forms.store {v = v} {c = c} i p) l = stores v c i (follows p (omega arith))
  follows (Forms.wait {n = n} {c = c} r p) l = waits n c (follows p (omega arith))
  follows (Forms.one_part {f = f} {c = c} p q) l = branches false f done c (follows p (omega arith)) finishes (follows q (omega arith))
  follows (Forms.two_parts {f = f} {s = s} {c = c} p o q) l = branches true f s c (follows p (omega arith)) (follows o (omega arith)) (follows q (omega arith))
  follows (Forms.turns {n = n} {f = f} {c = c} r p q) l = loops n f c (follows p (omega arith)) (follows q (omega arith))

-- a formed stretch goes by the rules where the machine has the amounts and the figures that it is formed for
pub goes : {nv d h : ℕ} {c : Code} (m : MeterModel) → Formed nv d h c → (s : Machine) → length s.stack ≡ h → h ≤ 8 → length s.figures ≡ nv → Goes m c s (exec m c s)
goes {nv} m p s e l f = follows m nv p l s.stack s.figures s.clock e f

-- and as many figures as there were
pub run_keeps : {nv d h : ℕ} {c : Code} (m : MeterModel) → Formed nv d h c → (s : Machine) → length s.stack ≡ h → h ≤ 8 → length s.figures ≡ nv → length (exec m c s).figures ≡ length s.figures
run_keeps m p s e l f = keeps_figures m (goes m p s e l f)
