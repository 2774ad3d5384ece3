-- What a scale of security levels is, and the laws that every scale shows: a join-semilattice with a least element.
use Rattle.std.specs.Prelude.{◌≡◌, ℕ, Bool, true, false}

-- A scale is its answers: which codes are levels, which level is at or below which, their join, and the least one.
pub record ScaleModel : Type 0 where
  pub known : ℕ → Bool
  pub below : ℕ → ℕ → Bool
  pub join : ℕ → ℕ → ℕ
  pub floor : ℕ

-- The laws of a scale. Only levels are at or below one another, so a law that starts from that need not ask that they are known.
pub record Lawful (s : ScaleModel) : Type 0 where
  -- a level is at or below itself
  pub reflexive : (a : ℕ) → s.known a ≡ true → s.below a a ≡ true
  -- what is at or below a level is at or below all above that
  pub transitive : (a b c : ℕ) → s.below a b ≡ true → s.below b c ≡ true → s.below a c ≡ true
  -- two levels at or below one another are one
  pub antisymmetric : (a b : ℕ) → s.below a b ≡ true → s.below b a ≡ true → a ≡ b
  -- the floor is a level
  pub floor_known : s.known s.floor ≡ true
  -- the floor is at or below each level
  pub floor_least : (a : ℕ) → s.known a ≡ true → s.below s.floor a ≡ true
  -- the join of two levels is a level
  pub join_known : (a b : ℕ) → s.known a ≡ true → s.known b ≡ true → s.known (s.join a b) ≡ true
  -- the join is at or above the first
  pub join_first : (a b : ℕ) → s.known a ≡ true → s.known b ≡ true → s.below a (s.join a b) ≡ true
  -- the join is at or above the second
  pub join_second : (a b : ℕ) → s.known a ≡ true → s.known b ≡ true → s.below b (s.join a b) ≡ true
  -- the join is at or below each level at or above both
  pub join_least : (a b c : ℕ) → s.below a c ≡ true → s.below b c ≡ true → s.below (s.join a b) c ≡ true
  -- what is at or below something is a level
  pub lower_known : (a b : ℕ) → s.below a b ≡ true → s.known a ≡ true
  -- what is at or above something is a level
  pub upper_known : (a b : ℕ) → s.below a b ≡ true → s.known b ≡ true
  -- a join with what is no level on the left is the floor
  pub join_unknown_first : (a b : ℕ) → s.known a ≡ false → s.join a b ≡ s.floor
  -- a join with what is no level on the right is the floor
  pub join_unknown_second : (a b : ℕ) → s.known b ≡ false → s.join a b ≡ s.floor
