-- Which lines of a script are passed over.
use Rattle.std.specs.List.{list_all}
use Rattle.std.specs.Prelude.{ℕ, Bool, ◌||◌, List, ◌==◌, slice_index}

-- nothing but spaces (byte 32)
abbrev pub blank : List ℕ → Bool
blank bs = list_all (λ b. b == 32) bs

-- a `#` (byte 35) in front
abbrev pub marked : List ℕ → Bool
marked bs = slice_index bs 0 == 35

-- what is passed over
abbrev pub remark : List ℕ → Bool
remark bs = marked bs || blank bs
