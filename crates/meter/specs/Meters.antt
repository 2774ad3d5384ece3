-- What a meter is, and the laws that every meter shows.
use Rattle.std.specs.Prelude.{◌≡◌, ℕ, ◌≤◌, Bool, true, false, ◌&&◌, ℤ, nat_le}

-- A meter is its answers: the ticks that a code with two operands takes, which codes are steady, and the most ticks one charge has.
pub record MeterModel : Type 0 where
  pub charge : ℕ → ℤ → ℤ → ℕ
  pub steady : ℕ → Bool
  pub largest : ℕ

-- A code is an instruction's: 1 to 12.
abbrev pub instruction : ℕ → Bool
instruction code = nat_le 1 code && nat_le code 12

-- The laws of a meter.
pub record Lawful (m : MeterModel) : Type 0 where
  -- the charge of a steady code does not depend on the operands
  pub steady_same : (code : ℕ) → m.steady code ≡ true → (a b c d : ℤ) → m.charge code a b ≡ m.charge code c d
  -- no charge is above the largest
  pub within_largest : (code : ℕ) (a b : ℤ) → m.charge code a b ≤ m.largest
  -- the largest charge is at most 1000 ticks
  pub largest_bound : m.largest ≤ 1000
  -- what is no instruction's code is steady
  pub outside_steady : (code : ℕ) → instruction code ≡ false → m.steady code ≡ true
  -- what is no instruction's code takes no ticks
  pub outside_free : (code : ℕ) → instruction code ≡ false → (a b : ℤ) → m.charge code a b ≡ 0
