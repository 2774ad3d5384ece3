-- Sets of departments as codes: inclusion department by department, and its laws.
use Rattle.std.proofs.Common.{◌≡◌, ℕ, zero, suc, ◌*◌, ◌/◌, ◌%◌, ◌^◌, ◌<◌, max, Bool, true, false, not, ◌&&◌, ◌||◌, eqb, ltb, Decides, sym, refl, ap, ◌∙◌, ⊎_elim, pow-suc, div-one, arith}
use native.Mathlib.Nat.{zero-div}
use lib.Bits.{bit_or, or_step}
use Rattle.std.proofs.lemmas.Nat.{or_lt, or_shr, shr-shr, pow_pos}
use Rattle.std.proofs.lemmas.Bool.{cond-true, cond-false, and_parts, and_from, and_left, and_right, or_left, or_right, or_cases, ltb-true, lt-ltb, eqb-true, eq-eqb}
use Rattle.std.proofs.lemmas.Bool.Decides.{Decides-below_and, nat_tests}
use Rattle.scale.specs.Scales.{Lawful}
use Rattle.scale.specs.Sets.{has, within, departments}

-- one department: if it is in the first set it is in the second
passes : (a b : Bool) → Decides (not a || b) (a ≡ true → b ≡ true)
passes true true = (λ _ _. refl, λ _. refl)
passes true false = (λ e _. e, λ h. h refl)
passes false true = (λ _ _. refl, λ _. refl)
passes false false = (λ _ e. e, λ _. refl)

-- inclusion decides that each department of the first set is in the second
pub within_decides : (d a b : ℕ) → Decides (within d a b) ((k : ℕ) → k < d → has k a ≡ true → has k b ≡ true)
within_decides d a b =
    Decides-below_and (λ k. not (has k a) || has k b) (λ k. has k a ≡ true → has k b ≡ true) (λ k. within k a b)
    (λ k. passes (has k a) (has k b)) refl (λ _. refl) d

-- ---- sets with the same departments are one

-- the departments of half a code are those of the code, one place up
has_half : (k a : ℕ) → has k (a / 2) ≡ has (suc k) a
has_half k a = ap (λ x. eqb (x % 2) 1) (shr-shr a 1 k ∙ ap (λ n. a / 2 ^ n) (omega arith))

-- the lowest bit is department 0
low_bit : (a b : ℕ) → has 0 a ≡ has 0 b → a % 2 ≡ b % 2
low_bit a b e = let p : has 0 a ≡ eqb (a % 2) 1 = ap (λ x. eqb (x % 2) 1) (div-one a) in
    let q : has 0 b ≡ eqb (b % 2) 1 = ap (λ x. eqb (x % 2) 1) (div-one b) in
    grind (arith, nat_tests)

pub same_set : (d a b : ℕ) → a < 2 ^ d → b < 2 ^ d → ((k : ℕ) → k < d → has k a ≡ has k b) → a ≡ b
same_set zero a b p q h = omega arith
same_set (suc d) a b p q h =
    let low : a % 2 ≡ b % 2 = low_bit a b (h 0 (omega arith)) in
    let doubled : 2 ^ suc d ≡ 2 ^ d * 2 = pow-suc 2 d in
    let high : a / 2 ≡ b / 2 =
    same_set d (a / 2) (b / 2) (omega arith) (omega arith)
    (λ k lt. has_half k a ∙ h (suc k) (omega arith) ∙ sym (has_half k b)) in
    omega arith

-- ---- the union

-- a department is in the union if it is in either set
has_or : (k a b : ℕ) → has k (bit_or a b) ≡ (has k a || has k b)
has_or k a b =
    let shifted : bit_or a b / 2 ^ k ≡ bit_or (a / 2 ^ k) (b / 2 ^ k) = or_shr a b k in
    let step = or_step (a / 2 ^ k) (b / 2 ^ k) in
    let bit : bit_or a b / 2 ^ k % 2 ≡ max (a / 2 ^ k % 2) (b / 2 ^ k % 2) = omega arith in
    grind (arith, nat_tests)

-- ---- the laws

-- what the test of the order says
below_parts : (d a b : ℕ) → (departments d).below a b ≡ true
    → (a < 2 ^ d) × (b < 2 ^ d) × ((k : ℕ) → k < d → has k a ≡ true → has k b ≡ true)
below_parts d a b e =
    let both = and_parts (ltb a (2 ^ d) && ltb b (2 ^ d)) (within d a b) e in
    let known = and_parts (ltb a (2 ^ d)) (ltb b (2 ^ d)) both.0 in
    (ltb-true a (2 ^ d) known.0, ltb-true b (2 ^ d) known.1, (within_decides d a b).0 both.1)

-- and what it takes
below_from : (d a b : ℕ) → a < 2 ^ d → b < 2 ^ d → ((k : ℕ) → k < d → has k a ≡ true → has k b ≡ true)
    → (departments d).below a b ≡ true
below_from d a b p q h =
    and_from (ltb a (2 ^ d) && ltb b (2 ^ d)) (within d a b)
    (and_from (ltb a (2 ^ d)) (ltb b (2 ^ d)) (lt-ltb a (2 ^ d) p) (lt-ltb b (2 ^ d) q))
    ((within_decides d a b).1 h)

-- the join of two levels is their union
join_union : (d a b : ℕ) → a < 2 ^ d → b < 2 ^ d → (departments d).join a b ≡ bit_or a b
join_union d a b p q =
    cond-true (ltb a (2 ^ d) && ltb b (2 ^ d)) (bit_or a b) 0
    (and_from (ltb a (2 ^ d)) (ltb b (2 ^ d)) (lt-ltb a (2 ^ d) p) (lt-ltb b (2 ^ d) q))

-- a test that follows from another both ways is equal to it
same_test : (x y : Bool) → (x ≡ true → y ≡ true) → (y ≡ true → x ≡ true) → x ≡ y
same_test true y f g = sym (f refl)
same_test false true f g = g refl
same_test false false f g = refl

-- what is in the second set where it is in the first adds nothing to it
absorbed : (x y : Bool) → (x ≡ true → y ≡ true) → (x || y) ≡ y
absorbed true y f = sym (f refl)
absorbed false y f = refl

-- a set is within another exactly if the union of both is the other
pub union_decides : (d a b : ℕ) → a < 2 ^ d → b < 2 ^ d → eqb (bit_or a b) b ≡ within d a b
union_decides d a b p q =
    same_test (eqb (bit_or a b) b) (within d a b)
    (λ e. (within_decides d a b).1 (λ k _ h. sym (ap (has k) (eqb-true (bit_or a b) b e)) ∙ has_or k a b ∙ or_left (has k a) (has k b) h))
    (λ e. let inside = (within_decides d a b).0 e in
    eq-eqb (bit_or a b) b (same_set d (bit_or a b) b (or_lt d a b p q) q (λ k lt. has_or k a b ∙ absorbed (has k a) (has k b) (inside k lt))))

-- no department is in the empty set
none_has : (k : ℕ) → has k 0 ≡ true → ⊥
none_has k e = let z : 0 / 2 ^ k ≡ 0 = zero-div (2 ^ k) in
    let bit = eqb-true (0 / 2 ^ k % 2) 1 e in
    let low : 0 / 2 ^ k % 2 ≡ 0 = ap (λ x. x % 2) z in omega arith

pub departments_lawful : (d : ℕ) → Lawful (departments d)
departments_lawful d =
    record {
      reflexive = λ a e. let p = ltb-true a (2 ^ d) e in below_from d a a p p (λ k _ h. h);
      transitive = λ a b c e f. let p = below_parts d a b e in let q = below_parts d b c f in
          below_from d a c p.0 q.1 (λ k lt h. q.2 k lt (p.2 k lt h));
      antisymmetric = λ a b e f. let p = below_parts d a b e in let q = below_parts d b a f in
          same_set d a b p.0 q.0 (λ k lt. same_test (has k a) (has k b) (p.2 k lt) (q.2 k lt));
      floor_known = lt-ltb 0 (2 ^ d) (pow_pos d);
      floor_least = λ a e. below_from d 0 a (pow_pos d) (ltb-true a (2 ^ d) e) (λ k _ h. absurd (none_has k h));
      join_known = λ a b e f. let p = ltb-true a (2 ^ d) e in let q = ltb-true b (2 ^ d) f in
          rw (join_union d a b p q) (lt-ltb (bit_or a b) (2 ^ d) (or_lt d a b p q));
      join_first = λ a b e f. let p = ltb-true a (2 ^ d) e in let q = ltb-true b (2 ^ d) f in
          rw (join_union d a b p q) (below_from d a (bit_or a b) p (or_lt d a b p q)
          (λ k _ h. has_or k a b ∙ or_left (has k a) (has k b) h));
      join_second = λ a b e f. let p = ltb-true a (2 ^ d) e in let q = ltb-true b (2 ^ d) f in
          rw (join_union d a b p q) (below_from d b (bit_or a b) q (or_lt d a b p q)
          (λ k _ h. has_or k a b ∙ or_right (has k a) (has k b) h));
      join_least = λ a b c e f. let p = below_parts d a c e in let q = below_parts d b c f in
          rw (join_union d a b p.0 q.0) (below_from d (bit_or a b) c (or_lt d a b p.0 q.0) p.1
          (λ k lt h. ⊎_elim (p.2 k lt) (q.2 k lt) (or_cases (has k a) (has k b) (sym (has_or k a b) ∙ h))));
      lower_known = λ a b e. lt-ltb a (2 ^ d) (below_parts d a b e).0;
      upper_known = λ a b e. lt-ltb b (2 ^ d) (below_parts d a b e).1;
      join_unknown_first = λ a b e. cond-false (ltb a (2 ^ d) && ltb b (2 ^ d)) (bit_or a b) 0 (and_left (ltb a (2 ^ d)) (ltb b (2 ^ d)) e);
      join_unknown_second = λ a b e. cond-false (ltb a (2 ^ d) && ltb b (2 ^ d)) (bit_or a b) 0 (and_right (ltb a (2 ^ d)) (ltb b (2 ^ d)) e);
    }
