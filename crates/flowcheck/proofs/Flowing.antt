-- The other way round: on the instructions of a formed stretch that flows no rule is broken.
use Rattle.std.proofs.Common.{◌≡◌, ℕ, zero, suc, ◌+◌, ◌≤◌, List, [], ◌∷◌, ◌++◌, true, false, length, sym, refl, ap, subst, subst₂, inl, inr, arith}
use Rattle.book.specs.Codes.{code_of}
use Rattle.book.specs.declared.instruction.Instruction.{Instruction}
use Rattle.book.specs.declared.instruction.Instruction.TheVariants.{Number, Figure, Clock, Operate, Store, If, Repeat, Wait, Else, End}
use Rattle.book.specs.Forms.{Formed}
use Rattle.book.specs.Forms.{ends as formed-ends, number as formed-number, figure as formed-figure, clock as formed-clock, operate as formed-operate, store as formed-store, wait as formed-wait, one_part, two_parts, turns as formed-turns}
use Rattle.book.specs.Trees.{Code, done, flat, here}
use Rattle.flowcheck.proofs.Breaking.{BreaksOwn}
use Rattle.flowcheck.proofs.Quiet.{Quiet}
use Rattle.flowcheck.proofs.Rules.{not_fails, paced_charge, even_parts}
use Rattle.flowcheck.proofs.Room.{push}
use Rattle.flowcheck.proofs.Walking.{behind_one, behind_two, one_ahead, two_ahead}
use Rattle.flowcheck.specs.Flows.{Flows, Paced, ends, number, figure, clock, operate, store, wait, parts, turns}
use Rattle.flowcheck.specs.Tolls.{second_ahead}
use Rattle.flowcheck.specs.Walks.{Setting, breaks_direct, breaks_implicit, context, contexts_after, levels_after, figure_level, stake}
use Rattle.meter.specs.Meters.{Lawful, instruction}

-- an instruction that keeps the pace and its own rules, in front of others on which no rule is broken
follow : (g : Setting) (cs ls : List ℕ) (i : Instruction) (is : List Instruction) → Paced g (stake g cs ls i) i → ((n : ℕ) → BreaksOwn g cs ls i is n → ⊥) → Quiet g (contexts_after g cs ls i) (levels_after g ls i) is → Quiet g cs ls (i ∷ is)
follow g cs ls i is paced own q n zero (inl b) = paced_charge g cs ls i paced b.1
follow g cs ls i is paced own q n zero (inr b) = own n b
follow g cs ls i is paced own q n (suc p) b = q n p b

-- a wait, an else, an end and a stop are steady
pub free : (g : Setting) → Lawful g.meter → (cs ls : List ℕ) (i : Instruction) (is : List Instruction) → instruction (code_of i) ≡ false → ((n : ℕ) → BreaksOwn g cs ls i is n → ⊥) → Quiet g (contexts_after g cs ls i) (levels_after g ls i) is → Quiet g cs ls (i ∷ is)
free g m cs ls i is outside own q = follow g cs ls i is (inl (m.outside_steady (code_of i) outside)) own q

-- a store to a figure that is at or above the amount and the context keeps its own rules
store_own : (g : Setting) (cs ls : List ℕ) (v : ℕ) (is : List Instruction) → (breaks_direct g ls v ≡ true → ⊥) → (breaks_implicit g cs v ≡ true → ⊥) → (n : ℕ) → BreaksOwn g cs ls (Store v) is n → ⊥
store_own g cs ls v is direct implicit n (inl b) = direct b.1
store_own g cs ls v is direct implicit n (inr b) = implicit b.1

-- By induction on how the stretch is formed, each rule of the flow giving what is asked of its instruction.
pub flows_quiet : (g : Setting) → Lawful g.meter → {nv d h : ℕ} {c : Code} → Formed nv d h c → (cs ls : List ℕ) (is : List Instruction) → length cs + d ≡ 8 → length ls ≡ h → h ≤ 8 → Flows g (context g cs) ls c → Quiet g cs [] is → Quiet g cs ls (flat c ++ is)
flows_quiet g m formed-ends cs ls is e l r ends q = q
flows_quiet g m (formed-number {z} {c} t f) cs ls is e l r (number x y) q =
    let on = flows_quiet g m f cs (g.scale.floor ∷ ls) is e (ap suc l) (omega arith) y q in
    follow g cs ls (Number z) (flat c ++ is) x (λ n b. b) (subst (λ k. Quiet g cs k (flat c ++ is)) (sym (push g.scale.floor ls (omega arith))) on)
flows_quiet g m (formed-figure {v} {c} b t f) cs ls is e l r (figure x y) q =
    let on = flows_quiet g m f cs (figure_level g v ∷ ls) is e (ap suc l) (omega arith) y q in
    follow g cs ls (Figure v) (flat c ++ is) x (λ n b. b) (subst (λ k. Quiet g cs k (flat c ++ is)) (sym (push (figure_level g v) ls (omega arith))) on)
flows_quiet g m (formed-clock {c} t f) cs ls is e l r (clock x y) q =
    let on = flows_quiet g m f cs (g.clock ∷ ls) is e (ap suc l) (omega arith) y q in
    follow g cs ls Clock (flat c ++ is) x (λ n b. b) (subst (λ k. Quiet g cs k (flat c ++ is)) (sym (push g.clock ls (omega arith))) on)
flows_quiet g m (formed-operate {o} {c} f) cs ls is e l r (operate {a} {b} {ls = ks} x y) q =
    let on = flows_quiet g m f cs (g.scale.join a b ∷ ks) is e (omega arith) (omega arith) y q in
    follow g cs (b ∷ a ∷ ks) (Operate o) (flat c ++ is) x (λ n b. b) (subst (λ k. Quiet g cs k (flat c ++ is)) (sym (push (g.scale.join a b) ks (omega arith))) on)
flows_quiet g m (formed-store {v} {c} b f) cs ls is e l r (store {a} x y z w) q =
    let own = store_own g cs (a ∷ []) v (flat c ++ is) (not_fails (g.scale.below a (figure_level g v)) y) (not_fails (g.scale.below (context g cs) (figure_level g v)) z) in
    follow g cs (a ∷ []) (Store v) (flat c ++ is) x own (flows_quiet g m f cs [] is e refl (omega arith) w q)
flows_quiet g m (formed-wait {n} {c} b f) cs ls is e l r (wait x) q = free g m cs [] (Wait n) (flat c ++ is) refl (λ k b. b) (flows_quiet g m f cs [] is e refl (omega arith) x q)
flows_quiet g m (one_part {f} {c} p t) cs ls is e l r (parts {a} x y z u v) q =
    let k = stake g cs (a ∷ []) If in
    let sees = one_ahead p (flat c) is in
    let even = even_parts g cs (a ∷ []) ((flat f ++ (End ∷ flat c)) ++ is) f done (ap here sees) (ap second_ahead sees) y in
    let on = flows_quiet g m t cs [] is e refl (omega arith) v q in
    let inside = flows_quiet g m p (k ∷ cs) [] (End ∷ (flat c ++ is)) (omega arith) refl (omega arith) z (free g m (k ∷ cs) [] End (flat c ++ is) refl (λ n b. b) on) in
    follow g cs (a ∷ []) If ((flat f ++ (End ∷ flat c)) ++ is) x (λ n b. even b.1)
    (subst₂ (λ ks js. Quiet g ks [] js) (sym (push k cs (omega arith))) (sym (behind_one (flat f) (flat c) is)) inside)
flows_quiet g m (two_parts {f} {s} {c} p t u) cs ls is e l r (parts {a} x y z v w) q =
    let k = stake g cs (a ∷ []) If in
    let sees = two_ahead p t (flat c) is in
    let even = even_parts g cs (a ∷ []) ((flat f ++ (Else ∷ (flat s ++ (End ∷ flat c)))) ++ is) f s (ap here sees) (ap second_ahead sees) y in
    let on = flows_quiet g m u cs [] is e refl (omega arith) w q in
    let second = flows_quiet g m t (k ∷ cs) [] (End ∷ (flat c ++ is)) (omega arith) refl (omega arith) v (free g m (k ∷ cs) [] End (flat c ++ is) refl (λ n b. b) on) in
    let inside = flows_quiet g m p (k ∷ cs) [] (Else ∷ (flat s ++ (End ∷ (flat c ++ is)))) (omega arith) refl (omega arith) z (free g m (k ∷ cs) [] Else (flat s ++ (End ∷ (flat c ++ is))) refl (λ n b. b) second) in
    follow g cs (a ∷ []) If ((flat f ++ (Else ∷ (flat s ++ (End ∷ flat c)))) ++ is) x (λ n b. even b.1)
    (subst₂ (λ ks js. Quiet g ks [] js) (sym (push k cs (omega arith))) (sym (behind_two (flat f) (flat s) (flat c) is)) inside)
flows_quiet g m (formed-turns {n} {f} {c} b p t) cs ls is e l r (turns x y z) q =
    let k = context g cs in
    let on = flows_quiet g m t cs [] is e refl (omega arith) z q in
    let inside = flows_quiet g m p (k ∷ cs) [] (End ∷ (flat c ++ is)) (omega arith) refl (omega arith) y (free g m (k ∷ cs) [] End (flat c ++ is) refl (λ n b. b) on) in
    follow g cs [] (Repeat n) ((flat f ++ (End ∷ flat c)) ++ is) x (λ n b. b)
    (subst₂ (λ ks js. Quiet g ks [] js) (sym (push k cs (omega arith))) (sym (behind_one (flat f) (flat c) is)) inside)
