-- The digit meter's laws: a pattern has at most 32 one bits and at most 32 significant bits.
use Rattle.std.proofs.Common.{◌≡◌, ℕ, ◌^◌, ◌≤◌, true, false, ℤ, arith, w32, of_z}
use lib.Count.{ones}
use Rattle.std.proofs.lemmas.Nat.{ones-le, mod_below}
use Rattle.std.proofs.lemmas.Bool.Decides.{nat_tests}
use Rattle.meter.specs.Meters.{Lawful, instruction}
use Rattle.meter.specs.Digits.{digit, digit_charge, pattern}

few_ones : (x : ℤ) → ones (pattern x) ≤ 32
few_ones x = ones-le 32 (pattern x) (mod_below (of_z w32 x) (2 ^ 32) (omega arith))

same : (code : ℕ) → digit.steady code ≡ true → (a b c d : ℤ) → digit_charge code a b ≡ digit_charge code c d
same code e a b c d = grind (arith, nat_tests)

bounded : (code : ℕ) (a b : ℤ) → digit_charge code a b ≤ 33
bounded code a b = let h = few_ones b in grind (arith, nat_tests)

outside : (code : ℕ) → instruction code ≡ false → (a b : ℤ) → digit_charge code a b ≡ 0
outside code h a b = grind (arith, nat_tests)

pub digit_lawful : Lawful digit
digit_lawful =
    record {
      steady_same = same;
      within_largest = bounded;
      largest_bound = omega arith;
      outside_steady = λ code h. grind (arith, nat_tests);
      outside_free = outside;
    }
