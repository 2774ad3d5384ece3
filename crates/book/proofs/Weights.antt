-- Weighing a stretch one instruction after the other comes to its weight, up to the first weight above the limit.
use Rattle.std.proofs.Common.{◌≡◌, ℕ, suc, ◌+◌, ◌*◌, ◌<◌, ◌≤◌, max, ltb, List, [], ◌∷◌, ◌++◌, length, refl, ap, ◌∙◌, ⊎_elim, mul-le-mul_left, mul-one, arith}
use Rattle.book.specs.declared.instruction.Instruction.{Instruction}
use Rattle.book.specs.declared.instruction.Instruction.TheVariants.{Stop, Else, End}
use Rattle.book.specs.Forms.{Formed, ends, number, figure, clock, operate, store, wait, one_part, two_parts, turns}
use Rattle.book.specs.Reads.{heavy}
use Rattle.book.specs.Trees.{Code, flat, whole, weight}
use Rattle.book.specs.Weighs.{capped, factor, heaviest}
use Rattle.stack.specs.Stacks.{pushed}
use Rattle.std.proofs.lemmas.List.{append_assoc, length-append}
use Rattle.std.proofs.lemmas.Bool.{lt-ltb, cases_lt}
use Rattle.std.proofs.lemmas.Bool.Decides.{nat_tests}
use Rattle.std.specs.List.{AllByRecursion}

-- the same search from places and weights that are the same
same : (s : ℕ) (ks : List ℕ) (is : List Instruction) (p p' T T' : ℕ) → p ≡ p' → T ≡ T' → heaviest p s (capped T) ks is ≡ heaviest p' s (capped T') ks is
same s ks is p p' T T' e f = λ i. heaviest (e i) s (capped (f i)) ks is

-- one instruction that weighs K more
more : (T K k : ℕ) → k ≡ capped K → capped (capped T + k) ≡ capped (T + K)
more T K k e = omega arith

-- a repeat's inside
inside : (K n : ℕ) → capped (capped K * max n 1) ≡ capped (K * max 1 n)
inside K n = ⊎_elim (λ h. small h) (λ h. large h) (cases_lt K 100001)
  where
    turned : max n 1 ≡ max 1 n
    turned = omega arith

    small : K < 100001 → capped (capped K * max n 1) ≡ capped (K * max 1 n)
    small h = let e : capped K ≡ K = omega arith in (λ i. capped (e i * turned i))

    over : (a m : ℕ) → 100001 ≤ a → 1 ≤ m → 100001 ≤ a * m
    over a m h k = let g : a * 1 ≤ a * m = mul-le-mul_left a k in omega (arith, mul-one a)

    large : 100001 ≤ K → capped (capped K * max n 1) ≡ capped (K * max 1 n)
    large h = omega (arith, over (capped K) (max n 1) (omega arith) (omega arith), over K (max 1 n) h (omega arith))

push : (k : ℕ) (ks : List ℕ) (d : ℕ) → length ks + suc d ≡ 8 → pushed k ks ≡ k ∷ ks
push k ks d e = let room : length ks < 8 = omega arith in rw (lt-ltb (length ks) 8 room)

-- a plain instruction in front of a stretch of L instructions that weighs w
plain_more : (s p T K L w : ℕ) (ks : List ℕ) (fs is : List Instruction) → factor ks ≡ capped K → heaviest (p + 1) s (capped (T + K)) ks (fs ++ is) ≡ heaviest (p + 1 + L) s (capped (T + K + w)) ks is → heaviest (p + 1) s (capped (capped T + factor ks)) ks (fs ++ is) ≡ heaviest (p + suc L) s (capped (T + (K + w))) ks is
plain_more s p T K L w ks fs is k e =
    ap (λ t. heaviest (p + 1) s t ks (fs ++ is)) (more T K (factor ks) k) ∙ e ∙ same s ks is (p + 1 + L) (p + suc L) (T + K + w) (T + (K + w)) (omega arith) (omega arith)

-- the start of a block: its factor goes on top
opened : (s p T K d : ℕ) (ks : List ℕ) (k : ℕ) (is is' : List Instruction) → length ks + suc d ≡ 8 → factor ks ≡ capped K → is ≡ is' → heaviest p s (capped (capped T + factor ks)) (pushed k ks) is ≡ heaviest p s (capped (T + K)) (k ∷ ks) is'
opened s p T K d ks k is is' e f g =
    ap (λ xs. heaviest p s (capped (capped T + factor ks)) xs is) (push k ks d e) ∙ (λ i. heaviest p s (more T K (factor ks) f i) (k ∷ ks) (g i))

-- an else or an end, which weighs as what is before it
closes : (s p T K k : ℕ) (ks : List ℕ) (is : List Instruction) → k ≡ capped K → heaviest p s (capped (capped T + k)) ks is ≡ heaviest p s (capped (T + K)) ks is
closes s p T K k ks is e = ap (λ t. heaviest p s t ks is) (more T K k e)

-- By induction on how the stretch is formed. A plain instruction adds its weight; an if or a repeat opens a block, its
-- parts go by induction under one factor more, and its end takes that factor off again.
pub weigh_flat : {nv d h : ℕ} {c : Code} → Formed nv d h c → (s p T K : ℕ) (ks : List ℕ) (is : List Instruction) → length ks + d ≡ 8 → factor ks ≡ capped K → heaviest p s (capped T) ks (flat c ++ is) ≡ heaviest (p + length (flat c)) s (capped (T + weight K c)) ks is
weigh_flat ends s p T K ks is e k = same s ks is p (p + 0) T (T + 0) (omega arith) (omega arith)
weigh_flat (number {c} r f) s p T K ks is e k = plain_more s p T K (length (flat c)) (weight K c) ks (flat c) is k (weigh_flat f s (p + 1) (T + K) K ks is e k)
weigh_flat (figure {c} b r f) s p T K ks is e k = plain_more s p T K (length (flat c)) (weight K c) ks (flat c) is k (weigh_flat f s (p + 1) (T + K) K ks is e k)
weigh_flat (clock {c} r f) s p T K ks is e k = plain_more s p T K (length (flat c)) (weight K c) ks (flat c) is k (weigh_flat f s (p + 1) (T + K) K ks is e k)
weigh_flat (operate {c} f) s p T K ks is e k = plain_more s p T K (length (flat c)) (weight K c) ks (flat c) is k (weigh_flat f s (p + 1) (T + K) K ks is e k)
weigh_flat (store {c} b f) s p T K ks is e k = plain_more s p T K (length (flat c)) (weight K c) ks (flat c) is k (weigh_flat f s (p + 1) (T + K) K ks is e k)
weigh_flat (wait {c} b f) s p T K ks is e k = plain_more s p T K (length (flat c)) (weight K c) ks (flat c) is k (weigh_flat f s (p + 1) (T + K) K ks is e k)
weigh_flat (one_part {d} {f} {c} q r) s p T K ks is e k =
    let after = flat c ++ is in
    let F = length (flat f) in
    let w = weight K f in
    let t : length (flat f ++ (End ∷ flat c)) ≡ F + suc (length (flat c)) = length-append (flat f) (End ∷ flat c) in
    opened s (p + 1) T K d ks (factor ks) ((flat f ++ (End ∷ flat c)) ++ is) (flat f ++ (End ∷ after)) e k (append_assoc (flat f) (End ∷ flat c) is)
    ∙ weigh_flat q s (p + 1) (T + K) K (factor ks ∷ ks) (End ∷ after) (omega arith) k
    ∙ closes s (p + 1 + F + 1) (T + K + w) K (factor ks) ks after k
    ∙ weigh_flat r s (p + 1 + F + 1) (T + K + w + K) K ks is e k
    ∙ same s ks is (p + 1 + F + 1 + length (flat c)) (p + suc (length (flat f ++ (End ∷ flat c)))) (T + K + w + K + weight K c) (T + (K + (w + (0 + (0 + (K + weight K c)))))) (omega arith) (omega arith)
weigh_flat (two_parts {d} {f} {s = g} {c} q r v) s p T K ks is e k =
    let after = flat c ++ is in
    let F = length (flat f) in
    let G = length (flat g) in
    let w = weight K f in
    let x = weight K g in
    let t : length (flat f ++ (Else ∷ (flat g ++ (End ∷ flat c)))) ≡ F + suc (length (flat g ++ (End ∷ flat c))) = length-append (flat f) (Else ∷ (flat g ++ (End ∷ flat c))) in
    let u : length (flat g ++ (End ∷ flat c)) ≡ G + suc (length (flat c)) = length-append (flat g) (End ∷ flat c) in
    opened s (p + 1) T K d ks (factor ks) ((flat f ++ (Else ∷ (flat g ++ (End ∷ flat c)))) ++ is) (flat f ++ (Else ∷ (flat g ++ (End ∷ after)))) e k (append_assoc (flat f) (Else ∷ (flat g ++ (End ∷ flat c))) is ∙ ap (λ l. flat f ++ (Else ∷ l)) (append_assoc (flat g) (End ∷ flat c) is))
    ∙ weigh_flat q s (p + 1) (T + K) K (factor ks ∷ ks) (Else ∷ (flat g ++ (End ∷ after))) (omega arith) k
    ∙ closes s (p + 1 + F + 1) (T + K + w) K (factor ks) (factor ks ∷ ks) (flat g ++ (End ∷ after)) k
    ∙ weigh_flat r s (p + 1 + F + 1) (T + K + w + K) K (factor ks ∷ ks) (End ∷ after) (omega arith) k
    ∙ closes s (p + 1 + F + 1 + G + 1) (T + K + w + K + x) K (factor ks) ks after k
    ∙ weigh_flat v s (p + 1 + F + 1 + G + 1) (T + K + w + K + x + K) K ks is e k
    ∙ same s ks is (p + 1 + F + 1 + G + 1 + length (flat c)) (p + suc (length (flat f ++ (Else ∷ (flat g ++ (End ∷ flat c)))))) (T + K + w + K + x + K + weight K c) (T + (K + (w + (K + (x + (K + weight K c)))))) (omega arith) (omega arith)
weigh_flat (turns {d} {n} {f} {c} b q r) s p T K ks is e k =
    let after = flat c ++ is in
    let F = length (flat f) in
    let I = K * max 1 n in
    let w = weight I f in
    let j = capped (factor ks * max n 1) in
    let m : j ≡ capped I = ap (λ y. capped (y * max n 1)) k ∙ inside K n in
    let t : length (flat f ++ (End ∷ flat c)) ≡ F + suc (length (flat c)) = length-append (flat f) (End ∷ flat c) in
    opened s (p + 1) T K d ks j ((flat f ++ (End ∷ flat c)) ++ is) (flat f ++ (End ∷ after)) e k (append_assoc (flat f) (End ∷ flat c) is)
    ∙ weigh_flat q s (p + 1) (T + K) I (j ∷ ks) (End ∷ after) (omega arith) m
    ∙ closes s (p + 1 + F + 1) (T + K + w) I j ks after m
    ∙ weigh_flat r s (p + 1 + F + 1) (T + K + w + I) K ks is e k
    ∙ same s ks is (p + 1 + F + 1 + length (flat c)) (p + suc (length (flat f ++ (End ∷ flat c)))) (T + K + w + I + weight K c) (T + (K + (w + (I + weight K c)))) (omega arith) (omega arith)

-- the search for a heavy event finds the first one
pub heaviest_heavy : (nv : ℕ) (es : List Code) → AllByRecursion (λ e. Formed nv 8 0 e) es → (p : ℕ) → heaviest p p 0 [] (whole es) ≡ heavy p es
heaviest_heavy nv [] a p = refl
heaviest_heavy nv (e ∷ es) a p =
    let q = p + length (flat e) in
    let w = weight 1 e in
    let next : q + 1 ≡ p + (length (flat e) + 1) = omega arith in
    let test : ltb 100000 (capped (capped (0 + w) + 1)) ≡ ltb 100000 (w + 1) = grind (arith, nat_tests) in
    weigh_flat a.0 p p 0 1 [] (Stop ∷ whole es) refl refl
    ∙ rw (next, test, heaviest_heavy nv es a.1 (p + (length (flat e) + 1)))
