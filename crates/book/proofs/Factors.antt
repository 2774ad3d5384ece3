-- A stretch weighs, inside repeats, as many times what it weighs alone as the counts around it multiply to.
use Rattle.std.proofs.Common.{◌≡◌, ℕ, ◌+◌, ◌*◌, ◌≤◌, max, Bool, true, false, cond, sym, ap, ◌∙◌, mul-le-mul_right, mul_assoc, mul-add, arith}
use Rattle.book.specs.Trees.{Code, done, plain, branch, loop, weight}

-- an else weighs as the instructions beside it
else_times : (k : ℕ) (b : Bool) → cond b k 0 ≡ k * cond b 1 0
else_times k true = omega arith
else_times k false = omega arith

-- By induction on the stretch, each product over a sum written out; inside a repeat the factors come together.
pub weight_times : (k : ℕ) (c : Code) → weight k c ≡ k * weight 1 c
weight_times k done = omega arith
weight_times k (plain i c) = omega (arith, mul-add k 1 (weight 1 c), weight_times k c)
weight_times k (branch b f s c) =
    let u = weight 1 f in
    let v = weight 1 s in
    let w = weight 1 c in
    let x : ℕ = cond b 1 0 in
    omega (
      arith,
      weight_times k f,
      weight_times k s,
      weight_times k c,
      else_times k b,
      mul-add k 1 (u + (x + (v + (1 + w)))),
      mul-add k u (x + (v + (1 + w))),
      mul-add k x (v + (1 + w)),
      mul-add k v (1 + w),
      mul-add k 1 w,
    )
weight_times k (loop n f c) =
    let m = max 1 n in
    let u = weight 1 f in
    let w = weight 1 c in
    let i = weight (1 * m) f in
    let once : 1 * m ≡ m = omega arith in
    let inner : i ≡ m * u = weight_times (1 * m) f ∙ ap (λ x. x * u) once in
    let factors : k * i ≡ k * m * u = ap (λ x. k * x) inner ∙ sym (mul_assoc k m u) in
    omega (
      arith,
      weight_times (k * m) f,
      weight_times k c,
      factors,
      ap (λ x. k * x) once,
      mul-add k 1 (i + (1 * m + w)),
      mul-add k i (1 * m + w),
      mul-add k (1 * m) w,
    )

-- and so no less inside than alone
pub weight_inside : (k : ℕ) (c : Code) → 1 ≤ k → weight 1 c ≤ weight k c
weight_inside k c l =
    let more : 1 * weight 1 c ≤ k * weight 1 c = mul-le-mul_right (weight 1 c) l in
    omega (arith, weight_times k c)
