-- Bytes as hexadecimal digits.
use Rattle.std.specs.Prelude.{ℕ, ◌+◌, ◌-◌, ◌*◌, cond, ◌&&◌, List, [], ◌∷◌, length, Some, None, codes, Option, ◌==◌, nat_le}
use Rattle.std.specs.Str.{bytes_eq}

-- The value of a character: 0 to 9, a to f or A to F.
abbrev pub digit_value : ℕ → Option ℕ
digit_value c =
    cond (nat_le 48 c && nat_le c 57) (Some (c - 48))
    (cond (nat_le 97 c && nat_le c 102) (Some (c - 87))
    (cond (nat_le 65 c && nat_le c 70) (Some (c - 55)) None))

-- the byte of two digits, if both have values
abbrev pub joined : Option ℕ → Option ℕ → Option ℕ
joined None low = None
joined (Some x) None = None
joined (Some x) (Some y) = Some (x * 16 + y)

-- a byte in front of others, if there are both
abbrev pub in_front : Option ℕ → Option (List ℕ) → Option (List ℕ)
in_front None more = None
in_front (Some b) None = None
in_front (Some b) (Some more) = Some (b ∷ more)

-- the bytes of two digits each
abbrev pub bytes_value : List ℕ → Option (List ℕ)
bytes_value [] = Some []
bytes_value (x ∷ []) = None
bytes_value (x ∷ y ∷ more) = in_front (joined (digit_value x) (digit_value y)) (bytes_value more)

-- What a word for bytes spells: `-` none, and any other one at least.
abbrev pub bytes : List ℕ → Option (List ℕ)
bytes w = cond (bytes_eq w (codes "-")) (Some []) (cond (length w == 0) None (bytes_value w))
