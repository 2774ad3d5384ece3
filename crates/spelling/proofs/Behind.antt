-- Numbers with more behind them.
use Rattle.std.proofs.Common.{ℕ, List, ◌++◌, Some, None, Option}

-- what is in front, and more behind it, if there is that
abbrev pub behind : List ℕ → Option (List ℕ) → Option (List ℕ)
behind front None = None
behind front (Some more) = Some (front ++ more)
