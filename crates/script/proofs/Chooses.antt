-- The cards that a script chooses.
use Rattle.std.proofs.Common.{◌≡◌, ℕ, zero, suc, ◌<◌, false, leb, List, get_or, IsErrAnd, None, Ok, Err, Result, refl, ap, inl, inr, arith}
use Rattle.script.specs.Chosen.{low}
use Rattle.std.proofs.lemmas.Bool.{and_left, and_right, cases_eq, lt-leb}
use Rattle.std.specs.Result.{result_ok}

-- one charge is above 1000
pub low_not : (charges : List ℕ) (n k : ℕ) → k < n → 1000 < get_or charges k 0 → low n charges ≡ false
low_not charges zero k less high = absurd (omega arith)
low_not charges (suc n) k less high =
    elim (cases_eq k n) [
      | inl e ↦ let last : 1000 < get_or charges n 0 = omega (arith, ap (λ (i : ℕ). get_or charges i 0) e) in and_left (leb (get_or charges n 0) 1000) (low n charges) (lt-leb (get_or charges n 0) 1000 last)
      | inr other ↦ and_right (leb (get_or charges n 0) 1000) (low n charges) (low_not charges n k (omega arith) high)
    ]

-- a fault is passed on
pub no_part : {T E : Type 0} (r : Result T E) (Q : E → Type 0) → IsErrAnd r Q → result_ok r ≡ None
no_part (Ok x) Q e = absurd e
no_part (Err y) Q e = refl
