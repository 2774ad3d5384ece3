-- Lines whose bytes are text.
use Rattle.std.proofs.Common.{◌≡◌, ℕ, zero, suc, ◌≤◌, true, false, ltb, List, [], ◌∷◌, get_or, is_ok, Ok, Err, IsAscii, Result, refl, arith, MatchResult}
use Rattle.script.specs.Asked.{ascii}
use Rattle.std.proofs.lemmas.Bool.{and_from, and_left, and_right, le-ltb, lt-ltb}

-- a line of bytes below 128, and one with another byte
pub ascii_all : (bs : List ℕ) → IsAscii bs → ascii bs ≡ true
ascii_all [] low = refl
ascii_all (b ∷ bs) low = and_from (ltb b 128) (ascii bs) (lt-ltb b 128 (low 0)) (ascii_all bs (λ i. low (suc i)))

pub ascii_not : (bs : List ℕ) (i : ℕ) → 128 ≤ get_or bs i 0 → ascii bs ≡ false
ascii_not [] i high = absurd (omega arith)
ascii_not (b ∷ bs) zero high = and_left (ltb b 128) (ascii bs) (le-ltb b 128 high)
ascii_not (b ∷ bs) (suc i) high = and_right (ltb b 128) (ascii bs) (ascii_not bs i high)

-- what cannot fail has not failed
pub surely : {T E : Type 0} (r : Result T E) (P : T → Type 0) (Q : E → Type 0) → MatchResult r P Q → ((e : E) → Q e → ⊥) → is_ok r ≡ true
surely (Ok x) P Q h never = refl
surely (Err e) P Q h never = absurd (never e h)
