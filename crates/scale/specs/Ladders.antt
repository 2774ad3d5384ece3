-- The ladder of ranks.
use Rattle.std.specs.Prelude.{ℕ, max, cond, ◌&&◌, nat_le, nat_lt}
use Rattle.scale.specs.Scales.{ScaleModel}

-- The ladder of n ranks: the codes below n, ordered as numbers.
abbrev pub ladder : ℕ → ScaleModel
ladder n =
    record {
      known = λ code. nat_lt code n;
      below = λ low high. nat_le low high && nat_lt high n;
      join = λ one other. cond (nat_lt one n && nat_lt other n) (max one other) 0;
      floor = 0;
    }
