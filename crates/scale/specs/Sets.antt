-- The scale of departments: its levels are sets of departments, ordered by inclusion.
use Rattle.std.specs.Prelude.{ℕ, zero, suc, ◌/◌, ◌%◌, ◌^◌, Bool, true, cond, not, ◌&&◌, ◌||◌, ◌==◌, bit_or, nat_lt}
use Rattle.scale.specs.Scales.{ScaleModel}

-- Department k is in a set: bit k of the set's code is one.
abbrev pub has : ℕ → ℕ → Bool
has k set = (set / 2 ^ k % 2) == 1

-- Each of the first d departments that is in the one set is in the other.
abbrev pub within : ℕ → ℕ → ℕ → Bool
within zero low high = true
within (suc k) low high = (not (has k low) || has k high) && within k low high

-- The scale of d departments: the codes below 2 ^ d, a bit for each department; the join is the union.
abbrev pub departments : ℕ → ScaleModel
departments d =
    record {
      known = λ code. nat_lt code (2 ^ d);
      below = λ low high. (nat_lt low (2 ^ d) && nat_lt high (2 ^ d)) && within d low high;
      join = λ one other. cond (nat_lt one (2 ^ d) && nat_lt other (2 ^ d)) (bit_or one other) 0;
      floor = 0;
    }
