-- The digit meter: multiplying takes longer the more one bits the second operand has, dividing the longer the first operand is.
use Rattle.std.specs.Prelude.{ℕ, ◌+◌, ◌-◌, ◌%◌, ◌^◌, cond, not, ◌||◌, ℤ, ◌==◌, count_ones}
use Rattle.std.specs.Int.Count.{count_leading_zeros}
use Rattle.std.specs.Int.{w32}
use Rattle.std.proofs.Common.{of_z}
use Rattle.meter.specs.Meters.{MeterModel, instruction}

-- The pattern of a number: its 32 bits in two's complement.
abbrev pub pattern : ℤ → ℕ
pattern x = of_z w32 x % 2 ^ 32

-- How many bits a pattern has, from its highest one bit down.
abbrev pub significant : ℕ → ℕ
significant n = 32 - count_leading_zeros 32 n

-- One tick for each instruction, and more for the codes 6 and 7 by their operands.
abbrev pub digit_charge : ℕ → ℤ → ℤ → ℕ
digit_charge code first second =
    cond (code == 6) (1 + count_ones (pattern second))
    (cond (code == 7) (1 + significant (pattern first)) (cond (instruction code) 1 0))

-- The digit meter.
abbrev pub digit : MeterModel
digit =
    record {
      charge = digit_charge;
      steady = λ code. not (code == 6 || code == 7);
      largest = 33;
    }
