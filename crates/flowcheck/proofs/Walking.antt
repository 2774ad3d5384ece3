-- On the instructions of a formed stretch the walk is an audit of the tree: where no rule is broken the stretch flows.
use Rattle.std.proofs.Common.{◌≡◌, ℕ, suc, ◌+◌, ◌≤◌, List, [], ◌∷◌, ◌++◌, length, refl, ap, ◌∙◌, subst, subst₂, inl, inr, arith}
use Rattle.book.proofs.Parses.{parse_flat}
use Rattle.book.specs.declared.instruction.Instruction.{Instruction}
use Rattle.book.specs.declared.instruction.Instruction.TheVariants.{Number, Figure, Clock, Operate, Store, If, Repeat, Else, End}
use Rattle.book.specs.Forms.{Formed}
use Rattle.book.specs.Forms.{ends as formed-ends, number as formed-number, figure as formed-figure, clock as formed-clock, operate as formed-operate, store as formed-store, wait as formed-wait, one_part, two_parts, turns as formed-turns}
use Rattle.book.specs.Trees.{Code, done, flat, ending, elsing, closed, here, parse}
use Rattle.flowcheck.proofs.Quiet.{Quiet}
use Rattle.flowcheck.proofs.Room.{push}
use Rattle.flowcheck.proofs.Rules.{holds, charge_paced, parts_even}
use Rattle.flowcheck.specs.Flows.{Flows, ends, number, figure, clock, operate, store, wait, parts, turns}
use Rattle.flowcheck.specs.Tolls.{second_ahead}
use Rattle.flowcheck.specs.Walks.{Setting, context, figure_level, stake}
use Rattle.std.proofs.lemmas.List.{append_assoc}

-- what stands behind a block with one part, and with two
pub behind_one : (fs cs is : List Instruction) → (fs ++ (End ∷ cs)) ++ is ≡ fs ++ (End ∷ (cs ++ is))
behind_one fs cs is = append_assoc fs (End ∷ cs) is

pub behind_two : (fs ss cs is : List Instruction) → (fs ++ (Else ∷ (ss ++ (End ∷ cs)))) ++ is ≡ fs ++ (Else ∷ (ss ++ (End ∷ (cs ++ is))))
behind_two fs ss cs is = append_assoc fs (Else ∷ (ss ++ (End ∷ cs))) is ∙ ap (λ l. fs ++ (Else ∷ l)) (append_assoc ss (End ∷ cs) is)

-- what the if of a formed stretch has ahead: its one part, or its two
pub one_ahead : {nv d : ℕ} {f : Code} → Formed nv d 0 f → (cs is : List Instruction) → parse ((flat f ++ (End ∷ cs)) ++ is) ≡ closed ending f (parse (cs ++ is))
one_ahead {f} p cs is = ap parse (behind_one (flat f) cs is) ∙ parse_flat p ending (cs ++ is)

pub two_ahead : {nv d : ℕ} {f s : Code} → Formed nv d 0 f → Formed nv d 0 s → (cs is : List Instruction) → parse ((flat f ++ (Else ∷ (flat s ++ (End ∷ cs)))) ++ is) ≡ closed elsing f (closed ending s (parse (cs ++ is)))
two_ahead {f} {s} p t cs is =
    ap parse (behind_two (flat f) (flat s) cs is)
    ∙ parse_flat p elsing (flat s ++ (End ∷ (cs ++ is)))
    ∙ ap (closed elsing f) (parse_flat t ending (cs ++ is))

-- By induction on how the stretch is formed. A plain instruction keeps its own rules; an if or a repeat opens a block, whose
-- parts go by induction under one context more, and its end takes that context off again.
pub quiet_flows : (g : Setting) {nv d h : ℕ} {c : Code} → Formed nv d h c → (cs ls : List ℕ) (is : List Instruction) → length cs + d ≡ 8 → length ls ≡ h → h ≤ 8 → Quiet g cs ls (flat c ++ is) → Flows g (context g cs) ls c × Quiet g cs [] is
quiet_flows g formed-ends cs [] is e l r q = (ends, q)
quiet_flows g formed-ends cs (a ∷ ls) is e l r q = absurd (omega arith)
quiet_flows g (formed-number {z} {c} t f) cs ls is e l r q =
    let on : Quiet g cs (g.scale.floor ∷ ls) (flat c ++ is) = subst (λ x. Quiet g cs x (flat c ++ is)) (push g.scale.floor ls (omega arith)) (λ n p. q n (suc p)) in
    let w = quiet_flows g f cs (g.scale.floor ∷ ls) is e (ap suc l) (omega arith) on in
    (number (charge_paced g cs ls (Number z) (λ b. q 8 0 (inl (refl, b)))) w.0, w.1)
quiet_flows g (formed-figure {v} {c} b t f) cs ls is e l r q =
    let on : Quiet g cs (figure_level g v ∷ ls) (flat c ++ is) = subst (λ x. Quiet g cs x (flat c ++ is)) (push (figure_level g v) ls (omega arith)) (λ n p. q n (suc p)) in
    let w = quiet_flows g f cs (figure_level g v ∷ ls) is e (ap suc l) (omega arith) on in
    (figure (charge_paced g cs ls (Figure v) (λ b. q 8 0 (inl (refl, b)))) w.0, w.1)
quiet_flows g (formed-clock {c} t f) cs ls is e l r q =
    let on : Quiet g cs (g.clock ∷ ls) (flat c ++ is) = subst (λ x. Quiet g cs x (flat c ++ is)) (push g.clock ls (omega arith)) (λ n p. q n (suc p)) in
    let w = quiet_flows g f cs (g.clock ∷ ls) is e (ap suc l) (omega arith) on in
    (clock (charge_paced g cs ls Clock (λ b. q 8 0 (inl (refl, b)))) w.0, w.1)
quiet_flows g (formed-operate f) cs [] is e l r q = absurd (omega arith)
quiet_flows g (formed-operate f) cs (b ∷ []) is e l r q = absurd (omega arith)
quiet_flows g (formed-operate {o} {c} f) cs (b ∷ a ∷ ls) is e l r q =
    let k = g.scale.join a b in
    let on : Quiet g cs (k ∷ ls) (flat c ++ is) = subst (λ x. Quiet g cs x (flat c ++ is)) (push k ls (omega arith)) (λ n p. q n (suc p)) in
    let w = quiet_flows g f cs (k ∷ ls) is e (omega arith) (omega arith) on in
    (operate (charge_paced g cs (b ∷ a ∷ ls) (Operate o) (λ b. q 8 0 (inl (refl, b)))) w.0, w.1)
quiet_flows g (formed-store b f) cs [] is e l r q = absurd (omega arith)
quiet_flows g (formed-store {v} b f) cs (a ∷ []) is e l r q =
    let w = quiet_flows g f cs [] is e refl (omega arith) (λ n p. q n (suc p)) in
    let direct = holds (g.scale.below a (figure_level g v)) (λ b. q 9 0 (inr (inl (refl, b)))) in
    let implicit = holds (g.scale.below (context g cs) (figure_level g v)) (λ b. q 10 0 (inr (inr (refl, b)))) in
    (store (charge_paced g cs (a ∷ []) (Store v) (λ b. q 8 0 (inl (refl, b)))) direct implicit w.0, w.1)
quiet_flows g (formed-store b f) cs (a ∷ k ∷ ls) is e l r q = absurd (omega arith)
quiet_flows g (formed-wait b f) cs [] is e l r q =
    let w = quiet_flows g f cs [] is e refl (omega arith) (λ n p. q n (suc p)) in
    (wait w.0, w.1)
quiet_flows g (formed-wait b f) cs (a ∷ ls) is e l r q = absurd (omega arith)
quiet_flows g (one_part p t) cs [] is e l r q = absurd (omega arith)
quiet_flows g (one_part {f} {c} p t) cs (a ∷ []) is e l r q =
    let k = stake g cs (a ∷ []) If in
    let sees = one_ahead p (flat c) is in
    let even = parts_even g cs (a ∷ []) ((flat f ++ (End ∷ flat c)) ++ is) f done (ap here sees) (ap second_ahead sees) (λ b. q 11 0 (inr (refl, b))) in
    let inside : Quiet g (k ∷ cs) [] (flat f ++ (End ∷ (flat c ++ is))) = subst₂ (λ x y. Quiet g x [] y) (push k cs (omega arith)) (behind_one (flat f) (flat c) is) (λ n p. q n (suc p)) in
    let u = quiet_flows g p (k ∷ cs) [] (End ∷ (flat c ++ is)) (omega arith) refl (omega arith) inside in
    let w = quiet_flows g t cs [] is e refl (omega arith) (λ n p. u.1 n (suc p)) in
    (parts (charge_paced g cs (a ∷ []) If (λ b. q 8 0 (inl (refl, b)))) even u.0 ends w.0, w.1)
quiet_flows g (one_part p t) cs (a ∷ k ∷ ls) is e l r q = absurd (omega arith)
quiet_flows g (two_parts p t u) cs [] is e l r q = absurd (omega arith)
quiet_flows g (two_parts {f} {s} {c} p t u) cs (a ∷ []) is e l r q =
    let k = stake g cs (a ∷ []) If in
    let sees = two_ahead p t (flat c) is in
    let even = parts_even g cs (a ∷ []) ((flat f ++ (Else ∷ (flat s ++ (End ∷ flat c)))) ++ is) f s (ap here sees) (ap second_ahead sees) (λ b. q 11 0 (inr (refl, b))) in
    let inside : Quiet g (k ∷ cs) [] (flat f ++ (Else ∷ (flat s ++ (End ∷ (flat c ++ is))))) = subst₂ (λ x y. Quiet g x [] y) (push k cs (omega arith)) (behind_two (flat f) (flat s) (flat c) is) (λ n p. q n (suc p)) in
    let v = quiet_flows g p (k ∷ cs) [] (Else ∷ (flat s ++ (End ∷ (flat c ++ is)))) (omega arith) refl (omega arith) inside in
    let w = quiet_flows g t (k ∷ cs) [] (End ∷ (flat c ++ is)) (omega arith) refl (omega arith) (λ n p. v.1 n (suc p)) in
    let x = quiet_flows g u cs [] is e refl (omega arith) (λ n p. w.1 n (suc p)) in
    (parts (charge_paced g cs (a ∷ []) If (λ b. q 8 0 (inl (refl, b)))) even v.0 w.0 x.0, x.1)
quiet_flows g (two_parts p t u) cs (a ∷ k ∷ ls) is e l r q = absurd (omega arith)
quiet_flows g (formed-turns {n} {f} {c} b p t) cs [] is e l r q =
    let k = context g cs in
    let inside : Quiet g (k ∷ cs) [] (flat f ++ (End ∷ (flat c ++ is))) = subst₂ (λ x y. Quiet g x [] y) (push k cs (omega arith)) (behind_one (flat f) (flat c) is) (λ n p. q n (suc p)) in
    let u = quiet_flows g p (k ∷ cs) [] (End ∷ (flat c ++ is)) (omega arith) refl (omega arith) inside in
    let w = quiet_flows g t cs [] is e refl (omega arith) (λ n p. u.1 n (suc p)) in
    (turns (charge_paced g cs [] (Repeat n) (λ b. q 8 0 (inl (refl, b)))) u.0 w.0, w.1)
quiet_flows g (formed-turns b p t) cs (a ∷ ls) is e l r q = absurd (omega arith)
