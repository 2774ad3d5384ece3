-- The toll of a stretch, taken one instruction after the other, is the toll of its tree, as long as that has 64 bits;
-- and the toll of a light stretch has far fewer.
use Rattle.std.proofs.Common.{◌≡◌, ℕ, suc, ◌+◌, ◌*◌, ◌<◌, ◌≤◌, max, eqb, List, [], ◌∷◌, ◌++◌, length, pos, refl, ap, ◌∙◌, subst, ⊎_elim, mul_assoc, mul-le-mul, mul-le-mul_left, mul-one, mul-add, mul_left_comm, arith}
use Rattle.book.proofs.Factors.{weight_times}
use Rattle.book.proofs.Parses.{instr}
use Rattle.book.specs.Codes.{code_of}
use Rattle.book.specs.declared.instruction.Instruction.{Instruction}
use Rattle.book.specs.declared.instruction.Instruction.TheVariants.{Number, Figure, Clock, Operate, Store, If, Repeat, Else, End}
use Rattle.book.specs.Forms.{Formed, ends, number, figure, clock, operate, store, wait, one_part, two_parts, turns}
use Rattle.book.specs.Trees.{Closer, Code, ending, elsing, stopping, flat, weight}
use Rattle.flowcheck.proofs.Room.{push}
use Rattle.flowcheck.specs.Tolls.{base, price, toll, fit, turns_of, tolled}
use Rattle.meter.specs.Meters.{MeterModel, Lawful}
use Rattle.stack.specs.Stacks.{pushed}
use Rattle.std.proofs.lemmas.List.{append_assoc}
use Rattle.std.proofs.lemmas.Bool.{cases_lt, cond-false, ne_eqb}

-- a factor that is cut to 64 bits gives the same product, cut to 64 bits
fit_times : (K x : ℕ) → fit (fit K * x) ≡ fit (K * x)
fit_times K x = ⊎_elim (λ h. none h) (λ h. ⊎_elim (λ l. small l) (λ l. large l h) (cases_lt K 18446744073709551616)) (cases_lt x 1)
  where
    none : x < 1 → fit (fit K * x) ≡ fit (K * x)
    none h =
        let z : 0 ≡ x = omega arith in
        let l : fit (fit K * 0) ≡ fit (K * 0) = omega arith in
        subst (λ y. fit (fit K * y) ≡ fit (K * y)) z l

    small : K < 18446744073709551616 → fit (fit K * x) ≡ fit (K * x)
    small l = let e : fit K ≡ K = omega arith in ap (λ y. fit (y * x)) e

    over : (a : ℕ) → 18446744073709551615 ≤ a → 1 ≤ x → 18446744073709551615 ≤ a * x
    over a h k = let g : a * 1 ≤ a * x = mul-le-mul_left a k in omega (arith, mul-one a)

    large : 18446744073709551616 ≤ K → 1 ≤ x → fit (fit K * x) ≡ fit (K * x)
    large l h = omega (arith, over (fit K) (omega arith) h, over K (omega arith) h)

-- x more for each of K turns
more : (T K x k : ℕ) → k ≡ fit K → fit (fit T + fit (k * x)) ≡ fit (T + K * x)
more T K x k e =
    let same : fit (k * x) ≡ fit (K * x) = ap (λ y. fit (y * x)) e ∙ fit_times K x in
    omega arith

-- what each instruction does to a toll, and what each stretch does, for one meter
module _ (m : MeterModel) where
  -- the same tolls from sums that are the same
  same : (T S : ℕ) (ks : List ℕ) (is : List Instruction) → T ≡ S → tolled m (fit T) ks is ≡ tolled m (fit S) ks is
  same T S ks is e = ap (λ t. tolled m (fit t) ks is) e

  -- a plain instruction of x ticks in front of a stretch whose toll is w
  plain_more : (T K x w : ℕ) (ks : List ℕ) (fs is : List Instruction) → turns_of ks ≡ fit K → tolled m (fit (T + K * x)) ks (fs ++ is) ≡ tolled m (fit (T + K * x + K * w)) ks is → tolled m (fit (fit T + fit (turns_of ks * x))) ks (fs ++ is) ≡ tolled m (fit (T + K * (x + w))) ks is
  plain_more T K x w ks fs is k e =
      ap (λ t. tolled m t ks (fs ++ is)) (more T K x (turns_of ks) k) ∙ e ∙ same (T + K * x + K * w) (T + K * (x + w)) ks is (omega (arith, mul-add K x w))

  -- the start of a block, of x ticks: its factor goes on top
  opened : (T K x d : ℕ) (ks : List ℕ) (k : ℕ) (is is' : List Instruction) → length ks + suc d ≤ 8 → turns_of ks ≡ fit K → is ≡ is' → tolled m (fit (fit T + fit (turns_of ks * x))) (pushed k ks) is ≡ tolled m (fit (T + K * x)) (k ∷ ks) is'
  opened T K x d ks k is is' e f g =
      ap (λ xs. tolled m (fit (fit T + fit (turns_of ks * x))) xs is) (push k ks (omega arith)) ∙ (λ i. tolled m (more T K x (turns_of ks) f i) (k ∷ ks) (g i))

  -- the end of a block takes no ticks, and takes the block's factor off
  ended : (T k : ℕ) (ks : List ℕ) (is : List Instruction) → tolled m (fit T) (k ∷ ks) (End ∷ is) ≡ tolled m (fit T) ks is
  ended T k ks is =
      let none : fit (fit T + fit (k * 0)) ≡ fit T = omega arith in
      cond-false (eqb (length (k ∷ ks)) 0) (fit T) (tolled m (fit (fit T + fit (k * 0))) ks is) (ne_eqb (length (k ∷ ks)) 0 (λ z. omega arith)) ∙ ap (λ t. tolled m t ks is) none

  -- an else takes no ticks either, and what follows it counts for nothing
  elsed : (T d k : ℕ) (ks : List ℕ) (is : List Instruction) → length ks + suc d ≤ 8 → tolled m (fit T) (k ∷ ks) (Else ∷ is) ≡ tolled m (fit T) (0 ∷ ks) is
  elsed T d k ks is e =
      let none : fit (fit T + fit (k * 0)) ≡ fit T = omega arith in
      cond-false (eqb (length (k ∷ ks)) 0) (fit T) (tolled m (fit (fit T + fit (k * 0))) (pushed 0 ks) is) (ne_eqb (length (k ∷ ks)) 0 (λ z. omega arith)) ∙ (λ i. tolled m (none i) (push 0 ks (omega arith) i) is)

  -- By induction on how the stretch is formed. A plain instruction adds its ticks; an if or a repeat opens a block, its
  -- parts go by induction, a first part under the factor outside, a second part under 0, the inside of a repeat under the
  -- product; and the end takes that factor off again.
  pub toll_flat : {nv d h : ℕ} {c : Code} → Formed nv d h c → (T K : ℕ) (ks : List ℕ) (is : List Instruction) → length ks + d ≤ 8 → turns_of ks ≡ fit K → tolled m (fit T) ks (flat c ++ is) ≡ tolled m (fit (T + K * toll m c)) ks is
  toll_flat ends T K ks is e k = same T (T + K * 0) ks is (omega arith)
  toll_flat (number {z} {c} r f) T K ks is e k = plain_more T K (price m (Number z)) (toll m c) ks (flat c) is k (toll_flat f (T + K * price m (Number z)) K ks is e k)
  toll_flat (figure {v} {c} b r f) T K ks is e k = plain_more T K (price m (Figure v)) (toll m c) ks (flat c) is k (toll_flat f (T + K * price m (Figure v)) K ks is e k)
  toll_flat (clock {c} r f) T K ks is e k = plain_more T K (price m Clock) (toll m c) ks (flat c) is k (toll_flat f (T + K * price m Clock) K ks is e k)
  toll_flat (operate {o} {c} f) T K ks is e k = plain_more T K (price m (Operate o)) (toll m c) ks (flat c) is k (toll_flat f (T + K * price m (Operate o)) K ks is e k)
  toll_flat (store {v} {c} b f) T K ks is e k = plain_more T K (price m (Store v)) (toll m c) ks (flat c) is k (toll_flat f (T + K * price m (Store v)) K ks is e k)
  toll_flat (wait {n} {c} b f) T K ks is e k = plain_more T K n (toll m c) ks (flat c) is k (toll_flat f (T + K * n) K ks is e k)
  toll_flat (one_part {d} {f} {c} q r) T K ks is e k =
      let after = flat c ++ is in
      let x = base m If in
      let u = toll m f in
      let w = toll m c in
      opened T K x d ks (turns_of ks) ((flat f ++ (End ∷ flat c)) ++ is) (flat f ++ (End ∷ after)) e k (append_assoc (flat f) (End ∷ flat c) is)
      ∙ toll_flat q (T + K * x) K (turns_of ks ∷ ks) (End ∷ after) (omega arith) k
      ∙ ended (T + K * x + K * u) (turns_of ks) ks after
      ∙ toll_flat r (T + K * x + K * u) K ks is e k
      ∙ same (T + K * x + K * u + K * w) (T + K * (x + (u + w))) ks is (omega (arith, mul-add K x (u + w), mul-add K u w))
  toll_flat (two_parts {d} {f} {s} {c} q v r) T K ks is e k =
      let after = flat c ++ is in
      let x = base m If in
      let u = toll m f in
      let w = toll m c in
      let first = T + K * x + K * u in
      let both = first + 0 * toll m s in
      opened T K x d ks (turns_of ks) ((flat f ++ (Else ∷ (flat s ++ (End ∷ flat c)))) ++ is) (flat f ++ (Else ∷ (flat s ++ (End ∷ after)))) e k (append_assoc (flat f) (Else ∷ (flat s ++ (End ∷ flat c))) is ∙ ap (λ l. flat f ++ (Else ∷ l)) (append_assoc (flat s) (End ∷ flat c) is))
      ∙ toll_flat q (T + K * x) K (turns_of ks ∷ ks) (Else ∷ (flat s ++ (End ∷ after))) (omega arith) k
      ∙ elsed first d (turns_of ks) ks (flat s ++ (End ∷ after)) e
      ∙ toll_flat v first 0 (0 ∷ ks) (End ∷ after) (omega arith) refl
      ∙ ended both 0 ks after
      ∙ toll_flat r both K ks is e k
      ∙ same (both + K * w) (T + K * (x + (u + w))) ks is (omega (arith, mul-add K x (u + w), mul-add K u w))
  toll_flat (turns {d} {n} {f} {c} b q r) T K ks is e k =
      let after = flat c ++ is in
      let x = base m (Repeat n) in
      let u = toll m f in
      let w = toll m c in
      let j = fit (turns_of ks * n) in
      let inside : j ≡ fit (K * n) = ap (λ y. fit (y * n)) k ∙ fit_times K n in
      let S = T + K * (n * x) + K * n * u in
      opened T K (n * x) d ks j ((flat f ++ (End ∷ flat c)) ++ is) (flat f ++ (End ∷ after)) e k (append_assoc (flat f) (End ∷ flat c) is)
      ∙ toll_flat q (T + K * (n * x)) (K * n) (j ∷ ks) (End ∷ after) (omega arith) inside
      ∙ ended S j ks after
      ∙ toll_flat r S K ks is e k
      ∙ same (S + K * w) (T + K * (n * (x + u) + w)) ks is (omega (arith, mul-add K (n * (x + u)) w, ap (λ y. K * y) (mul-add n x u), mul-add K (n * x) (n * u), mul_assoc K n u))

  -- what closes a stretch takes no ticks
  closer : (t : ℕ) (k : Closer) (is : List Instruction) → tolled m t [] (instr k ∷ is) ≡ t
  closer t ending is = refl
  closer t elsing is = refl
  closer t stopping is = refl

  -- the toll of a stretch up to what closes it
  pub tolled_closed : {nv d h : ℕ} {f : Code} → Formed nv d h f → d ≤ 8 → (k : Closer) (is : List Instruction) → tolled m 0 [] (flat f ++ (instr k ∷ is)) ≡ fit (toll m f)
  tolled_closed {f} q l k is =
      let sum : 0 + 1 * toll m f ≡ toll m f = omega arith in
      toll_flat q 0 1 [] (instr k ∷ is) (omega arith) refl ∙ closer (fit (0 + 1 * toll m f)) k is ∙ ap fit sum

-- one instruction is charged at most 1000 ticks
base_bound : (m : MeterModel) → Lawful m → (i : Instruction) → base m i ≤ 1000
base_bound m law i = omega (arith, law.within_largest (code_of i) (pos 0) (pos 0), law.largest_bound)

-- a repeat of n turns, each of b ticks and the toll t of an inside that weighs w, beside its weight
repeat_bound : (n b t w : ℕ) → b ≤ 1000 → t ≤ 1000 * w → n * (b + t) ≤ 1000 * (max 1 n * w + max 1 n)
repeat_bound n b t w l k =
    let M = max 1 n in
    let each : b + t ≤ 1000 * (w + 1) = omega arith in
    let all : n * (b + t) ≤ M * (1000 * (w + 1)) = mul-le-mul (omega arith) each in
    omega (arith, mul_left_comm M 1000 (w + 1), mul-add M w 1)

-- By induction on how the stretch is formed: an instruction takes at most 1000 ticks and weighs at least 1, and the inside
-- of a repeat weighs its weight times the count, 0 taken as 1.
pub toll_bound : {nv d h : ℕ} {c : Code} (m : MeterModel) → Lawful m → Formed nv d h c → toll m c ≤ 1000 * weight 1 c
toll_bound m law ends = omega arith
toll_bound m law (number {z} r f) = omega (arith, base_bound m law (Number z), toll_bound m law f)
toll_bound m law (figure {v} b r f) = omega (arith, base_bound m law (Figure v), toll_bound m law f)
toll_bound m law (clock r f) = omega (arith, base_bound m law Clock, toll_bound m law f)
toll_bound m law (operate {o} f) = omega (arith, base_bound m law (Operate o), toll_bound m law f)
toll_bound m law (store {v} b f) = omega (arith, base_bound m law (Store v), toll_bound m law f)
toll_bound m law (wait b f) = omega (arith, toll_bound m law f)
toll_bound m law (one_part p q) = omega (arith, base_bound m law If, toll_bound m law p, toll_bound m law q)
toll_bound m law (two_parts p s q) = omega (arith, base_bound m law If, toll_bound m law p, toll_bound m law q)
toll_bound m law (turns {n} {f} {c} b p q) =
    let M = max 1 n in
    let u = weight 1 f in
    let once : 1 * M ≡ M = omega arith in
    let inside : weight (1 * M) f ≡ M * u = weight_times (1 * M) f ∙ ap (λ x. x * u) once in
    omega (arith, repeat_bound n (base m (Repeat n)) (toll m f) u (base_bound m law (Repeat n)) (toll_bound m law p), toll_bound m law q)

-- the toll of a stretch of at most 100,000 in weight is no more than 100,000,000
pub toll_small : {nv d h : ℕ} {c : Code} (m : MeterModel) → Lawful m → Formed nv d h c → weight 1 c ≤ 100000 → toll m c ≤ 100000000
toll_small m law p w = omega (arith, toll_bound m law p)

-- and has 64 bits
pub toll_fits : {nv d h : ℕ} {c : Code} (m : MeterModel) → Lawful m → Formed nv d h c → weight 1 c ≤ 100000 → fit (toll m c) ≡ toll m c
toll_fits m law p w = omega (arith, toll_small m law p w)
