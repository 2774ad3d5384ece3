-- The diamond: a floor, two levels above it that cannot be compared, and a top.
use Rattle.std.specs.Prelude.{Bool, ◌&&◌, ◌||◌, cond, ℕ, eqb, leb}
use Rattle.scale.specs.Scales.{ScaleModel}

-- The four levels have the codes 10 to 13.
abbrev pub corner : ℕ → Bool
corner code = leb 10 code && leb code 13

-- The diamond with the floor 10, the sides 11 and 12 and the top 13.
abbrev pub diamond : ScaleModel
diamond =
    record {
      known = corner;
      below = λ low high. (corner low && corner high) && (eqb low 10 || (eqb high 13 || eqb low high));
      join = λ one other.
          cond (corner one && corner other)
          (cond (eqb one other) one (cond (eqb one 10) other (cond (eqb other 10) one 13)))
          10;
      floor = 10;
    }
