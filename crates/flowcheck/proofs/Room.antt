-- A stack with room takes one item more.
use Rattle.std.proofs.Common.{◌≡◌, ℕ, ◌<◌, ltb, List, ◌∷◌, length}
use Rattle.stack.specs.Stacks.{pushed}
use Rattle.std.proofs.lemmas.Bool.{cond-true, lt-ltb}

pub push : (x : ℕ) (xs : List ℕ) → length xs < 8 → pushed x xs ≡ x ∷ xs
push x xs h = cond-true (ltb (length xs) 8) (x ∷ xs) xs (lt-ltb (length xs) 8 h)
