-- Amounts are signed 32-bit numbers; operations on them stay at the nearer end of that range.
use Rattle.std.specs.Prelude.{zero, suc, min, Bool, true, false, not, ◌&&◌, ℤ, pos, negsuc, ◌+ℤ◌, ◌-ℤ◌, ◌*ℤ◌, int_div, int_lt}
use Rattle.book.specs.declared.instruction.Operation.{Operation}
use Rattle.book.specs.declared.instruction.Operation.TheVariants.{Add, Subtract, Multiply, Divide, Less, Equal}

-- the amount nearest to a number: from −2147483648, which is negsuc 2147483647, to 2147483647
abbrev pub nearest : ℤ → ℤ
nearest (pos n) = pos (min n 2147483647)
nearest (negsuc n) = negsuc (min n 2147483647)

-- a quotient without its fraction, toward zero; 0 for divisor 0
abbrev pub divided : ℤ → ℤ → ℤ
divided a (pos zero) = pos 0
divided a (pos (suc n)) = nearest (int_div a (pos (suc n)))
divided a (negsuc n) = nearest (int_div a (negsuc n))

-- 1 for yes and 0 for no
abbrev pub flag : Bool → ℤ
flag true = pos 1
flag false = pos 0

-- an operation on a first and a second amount
abbrev pub operate : Operation → ℤ → ℤ → ℤ
operate Add a b = nearest (a +ℤ b)
operate Subtract a b = nearest (a -ℤ b)
operate Multiply a b = nearest (a *ℤ b)
operate Divide a b = divided a b
operate Less a b = flag (int_lt a b)
operate Equal a b = flag (not (int_lt a b) && not (int_lt b a))

-- whether an amount is 0
abbrev pub is_zero : ℤ → Bool
is_zero (pos zero) = true
is_zero (pos (suc n)) = false
is_zero (negsuc n) = false
