-- A stretch that keeps the flow rules keeps two machines close for every observer.
use Rattle.std.proofs.Common.{◌≡◌, ℕ, suc, ◌<◌, ◌≤◌, true, false, cond, ◌⊎◌, List, [], ◌∷◌, length, ℤ, refl, ap, subst, ap₂, inl, inr, arith}
use Rattle.book.specs.declared.instruction.Instruction.TheVariants.{Number, Figure, Clock, Operate, Store, If, Repeat, Wait}
use Rattle.book.specs.declared.instruction.Operation.{Operation}
use Rattle.book.specs.Forms.{Formed}
use Rattle.book.specs.Forms.{ends as formed-ends, number as formed-number, figure as formed-figure, clock as formed-clock, operate as formed-operate, store as formed-store, wait as formed-wait, one_part, two_parts, turns as formed-turns}
use Rattle.book.specs.Trees.{Code}
use Rattle.flowcheck.specs.Flows.{Flows, Paced, Even, ends, number, figure, clock, operate, store, wait, parts, turns}
use Rattle.flowcheck.specs.Walks.{Setting, figure_level}
use Rattle.machine.proofs.Agreeing.{none, agree_at, agree_rest, agree_set, agree_push}
use Rattle.machine.proofs.Close.{Close, steps, charged, emptied_close, same_way, apart, turns_close}
use Rattle.machine.proofs.Secrets.{confined, part_confined}
use Rattle.machine.proofs.Observing.{Sees, Hidden, Known, Sound, known_at, first_seen, second_seen}
use Rattle.steps.specs.Amounts.{is_zero, operate as result}
use Rattle.steps.specs.Machines.{Machine, amount_at, emptied, perform, reading}
use Rattle.steps.specs.Runs.{exec}
use Rattle.meter.specs.Meters.{MeterModel}
use Rattle.std.proofs.lemmas.Bool.{both_ways, cases_Bool}

-- the charge of an if, and the one of its two parts that an amount chooses
abbrev taken : MeterModel → Code → Code → ℤ → Machine → Machine
taken m f h a p = cond (is_zero a) (exec m h (perform m If p)) (exec m f (perform m If p))

-- what an if does before what follows it
abbrev choice : MeterModel → Code → Code → Machine → Machine
choice m f h p = emptied (taken m f h (amount_at p.stack 0) p)

-- a stretch keeps machines with empty stacks close
abbrev Closely : Setting → ℕ → Code → Type 0
Closely g L c = (p q : Machine) → Close g L [] p q → Close g L [] (exec g.meter c p) (exec g.meter c q)

module _ (g : Setting) (s : Sound g) (L : ℕ) where
  -- An operation: who sees its result sees both operands, and who sees what its charge tells of does too.
  operated : {k a b : ℕ} {ls : List ℕ} {p q : Machine} (o : Operation) → g.scale.known k ≡ true → Known g.scale (b ∷ a ∷ ls) → length ls < 8 → Paced g (g.scale.join (g.scale.join k a) b) (Operate o) → Close g L (b ∷ a ∷ ls) p q → Close g L (g.scale.join a b ∷ ls) (perform g.meter (Operate o) p) (perform g.meter (Operate o) q)
  operated {k} {a} {b} o kk kl room x c =
      let j = g.scale.join k a in
      let kj = s.scale.join_known k a kk kl.1.0 in
      let first = agree_at c.stacks 1 g.scale.floor in
      let second = agree_at c.stacks 0 g.scale.floor in
      steps g L (Operate o) c
      (agree_push (agree_rest (agree_rest c.stacks)) (g.scale.join a b) _ _ room
      (λ e. ap₂ (result o) (first (first_seen g.scale s.scale L a b kl.1.0 kl.0 e)) (second (second_seen g.scale s.scale L a b kl.1.0 kl.0 e))))
      c.figures
      (charged g L s (g.scale.join j b) (Operate o) x _ _ _ _
      (λ e. first (second_seen g.scale s.scale L k a kk kl.1.0 (first_seen g.scale s.scale L j b kj kl.0 e)))
      (λ e. second (second_seen g.scale s.scale L j b kj kl.0 e)))

  -- A store: who sees the figure sees the amount, since that is at or below it.
  stored : {k a : ℕ} {p q : Machine} (v : ℕ) → g.scale.known k ≡ true → g.scale.known a ≡ true → Paced g (g.scale.join k a) (Store v) → g.scale.below a (figure_level g v) ≡ true → Close g L (a ∷ []) p q → Close g L [] (perform g.meter (Store v) p) (perform g.meter (Store v) q)
  stored {k} {a} v kk ka x y c =
      let same = agree_at c.stacks 0 g.scale.floor in
      steps g L (Store v) c none
      (agree_set c.figures v g.scale.floor _ _ (λ e. same (s.scale.transitive a (figure_level g v) L y e)))
      (charged g L s (g.scale.join k a) (Store v) x _ _ _ _ (λ e. same (second_seen g.scale s.scale L k a kk ka e)) (λ e. refl))

  -- An if in context k that tests an amount of level a.
  module _ {k a : ℕ} (kk : g.scale.known k ≡ true) (ka : g.scale.known a ≡ true) (x : Paced g (g.scale.join k a) If) {p q : Machine} (c : Close g L (a ∷ []) p q) where
    -- its charge
    tested : Close g L [] (perform g.meter If p) (perform g.meter If q)
    tested =
        let same = agree_at c.stacks 0 g.scale.floor in
        steps g L If c none c.figures (charged g L s (g.scale.join k a) If x _ _ _ _ (λ e. same (second_seen g.scale s.scale L k a kk ka e)) (λ e. refl))

    -- Where the context inside is seen, so is the amount tested, and both machines take the same part.
    same_part : (f h : Code) → Sees g.scale L (g.scale.join k a) → Closely g L f → Closely g L h → Close g L [] (choice g.meter f h p) (choice g.meter f h q)
    same_part f h e first second =
        let same = agree_at c.stacks 0 g.scale.floor (second_seen g.scale s.scale L k a kk ka e) in
        let both = same_way g L (is_zero (amount_at p.stack 0)) (second _ _ tested) (first _ _ tested) in
        emptied_close g L (subst (λ z. Close g L [] (taken g.meter f h (amount_at p.stack 0) p) (taken g.meter f h z q)) same both)

    -- Where it is hidden, each part is confined, and they take as long.
    own_parts : {f h : Code} → Hidden g.scale L (g.scale.join k a) → Even g (g.scale.join k a) f h → Flows g (g.scale.join k a) [] f → Flows g (g.scale.join k a) [] h → Close g L [] (choice g.meter f h p) (choice g.meter f h q)
    own_parts {f} {h} u y z w =
        let kj = s.scale.join_known k a kk ka in
        let first = λ (r : Machine). confined g s L z kj tt u (perform g.meter If r) in
        let second = λ (r : Machine). confined g s L w kj tt u (perform g.meter If r) in
        let way = λ (r : Machine). part_confined g s L (g.scale.join k a) f h (is_zero (amount_at r.stack 0)) (perform g.meter If r) u y (first r) (second r) in
        apart g L tested (omega arith) (omega arith) (way p) (way q)

    -- one or the other
    chosen : {f h : Code} → Even g (g.scale.join k a) f h → Flows g (g.scale.join k a) [] f → Flows g (g.scale.join k a) [] h → Closely g L f → Closely g L h → Close g L [] (choice g.meter f h p) (choice g.meter f h q)
    chosen {f} {h} y z w first second = go (cases_Bool (g.scale.below (g.scale.join k a) L))
      where
        go : Sees g.scale L (g.scale.join k a) ⊎ (g.scale.below (g.scale.join k a) L ≡ false) → Close g L [] (choice g.meter f h p) (choice g.meter f h q)
        go (inl e) = same_part f h e first second
        go (inr e) = own_parts (both_ways (g.scale.below (g.scale.join k a) L) e) y z w

  -- By induction on how the stretch is formed and on its flow rules together: the former says that there is room on the stack.
  pub together : {nv d h : ℕ} {c : Code} → Formed nv d h c → (k : ℕ) (ls : List ℕ) → length ls ≡ h → h ≤ 8 → Flows g k ls c → g.scale.known k ≡ true → Known g.scale ls → (p q : Machine) → Close g L ls p q → Close g L [] (exec g.meter c p) (exec g.meter c q)
  together formed-ends k ls l m ends kk kl p q c = c
  together (formed-number {z} r t) k ls l m (number x f) kk kl p q c =
      let now = steps g L (Number z) c (agree_push c.stacks g.scale.floor z z (omega arith) (λ e. refl)) c.figures (λ o. refl) in
      together t k (g.scale.floor ∷ ls) (ap suc l) (omega arith) f kk (s.scale.floor_known, kl) _ _ now
  together (formed-figure {v} i r t) k ls l m (figure x f) kk kl p q c =
      let now = steps g L (Figure v) c (agree_push c.stacks (figure_level g v) _ _ (omega arith) (agree_at c.figures v g.scale.floor)) c.figures (λ o. refl) in
      together t k (figure_level g v ∷ ls) (ap suc l) (omega arith) f kk (known_at g.scale s.scale g.levels v s.levels, kl) _ _ now
  together (formed-clock r t) k ls l m (clock x f) kk kl p q c =
      let now = steps g L Clock c (agree_push c.stacks g.clock _ _ (omega arith) (λ o. ap reading (c.clocks o))) c.figures (λ o. refl) in
      together t k (g.clock ∷ ls) (ap suc l) (omega arith) f kk (s.clock, kl) _ _ now
  together (formed-operate {o} t) k ls l m (operate {a} {b} {ls = ks} x f) kk kl p q c =
      let now = operated o kk kl (omega arith) x c in
      together t k (g.scale.join a b ∷ ks) (omega arith) (omega arith) f kk (s.scale.join_known a b kl.1.0 kl.0, kl.1.1) _ _ now
  together (formed-store {v} i t) k ls l m (store x y z f) kk kl p q c = together t k [] refl (omega arith) f kk tt _ _ (stored v kk kl.0 x y c)
  together (formed-wait {n} r t) k ls l m (wait f) kk kl p q c =
      together t k [] refl (omega arith) f kk tt _ _ (steps g L (Wait n) c none c.figures (λ o. refl))
  together (one_part t u) k ls l m (parts {a} x y z w f) kk kl p q c =
      let inside = together t (g.scale.join k a) [] refl (omega arith) z (s.scale.join_known k a kk kl.0) tt in
      together u k [] refl (omega arith) f kk tt _ _ (chosen kk kl.0 x c y z w inside (λ p q d. d))
  together (two_parts t r u) k ls l m (parts {a} x y z w f) kk kl p q c =
      let kj = s.scale.join_known k a kk kl.0 in
      let first = together t (g.scale.join k a) [] refl (omega arith) z kj tt in
      let second = together r (g.scale.join k a) [] refl (omega arith) w kj tt in
      together u k [] refl (omega arith) f kk tt _ _ (chosen kk kl.0 x c y z w first second)
  together (formed-turns {n} {f} i t u) k ls l m (turns x y z) kk kl p q c =
      let charge = λ (p q : Machine) (d : Close g L [] p q). steps g L (Repeat n) d none d.figures (λ o. refl) in
      let turn = λ (p q : Machine) (d : Close g L [] p q). together t k [] refl (omega arith) y kk tt _ _ (charge p q d) in
      let all = turns_close g L (λ r. exec g.meter f (perform g.meter (Repeat n) r)) turn n p q c in
      together u k [] refl (omega arith) z kk tt _ _ (emptied_close g L all)
