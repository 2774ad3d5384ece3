-- The numbers that words spell.
use Rattle.spelling.specs.Hex.{in_front}
use Rattle.std.specs.Borrow.{Bor}
use Rattle.std.specs.Prelude.{ℕ, ◌+◌, ◌^◌, cond, ◌&&◌, List, [], ◌∷◌, map, length, drop, ℤ, pos, neg_ℤ, Some, None, Option, ◌==◌, nat_lt, slice_index}
use Rattle.std.specs.Option.{option_map}
use Rattle.std.specs.Str.Parse.{digits_value}
use Rattle.std.specs.Str.{all_ascii_digits}

-- A number below a limit in decimal digits, one at least.
abbrev pub numeral : ℕ → List ℕ → Option ℕ
numeral limit w = cond (nat_lt 0 (length w) && (all_ascii_digits w && nat_lt (digits_value 10 w) limit)) (Some (digits_value 10 w)) None

-- A number of so many bits.
abbrev pub natural : ℕ → List ℕ → Option ℕ
natural bits w = numeral (2 ^ bits) w

-- A number of 32 bits that may have a minus (byte 45) in front.
abbrev pub integer : List ℕ → Option ℤ
integer w = cond (slice_index w 0 == 45) (option_map (λ n. neg_ℤ (pos n)) (numeral (2 ^ 31 + 1) (drop 1 w))) (option_map pos (numeral (2 ^ 31) w))

-- the words that a slice refers to
abbrev pub texts : List (Bor (List ℕ)) → List (List ℕ)
texts words = map (λ x. x.now) words

-- the numbers of 32 bits that words spell, one each
abbrev pub each_natural : List (List ℕ) → Option (List ℕ)
each_natural [] = Some []
each_natural (w ∷ ws) = in_front (natural 32 w) (each_natural ws)

-- So many numbers of 32 bits.
abbrev pub naturals : ℕ → List (List ℕ) → Option (List ℕ)
naturals count ws = cond (length ws == count) (each_natural ws) None
