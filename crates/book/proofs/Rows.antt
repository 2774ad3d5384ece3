-- A row of an array filled from places of a list, one after the other.
use Rattle.std.proofs.Common.{◌≡◌, ℕ, suc, ◌+◌, ◌-◌, ◌<◌, List, [], ◌∷◌, ◌++◌, length, take, set, sym, ap, ◌∙◌, arith}
use Rattle.std.proofs.lemmas.List.{take_more_set, append_assoc}

-- F n p lists n items from place p on, each step further than the one before
module _ {X : Type 0} (F : ℕ → ℕ → List X) (f : ℕ → X) (step : ℕ) (more : (n p : ℕ) → F (suc n) p ≡ f p ∷ F n (p + step)) where
  pub ahead_more : (n i p q : ℕ) → i < n → q ≡ p + step → F (n - i) p ≡ f p ∷ F (n - (i + 1)) q
  ahead_more n i p q h e =
      let fewer : n - i ≡ suc (n - (i + 1)) = omega arith in
      rw (fewer, more (n - (i + 1)) p, e)

  pub row_more : (row all : List X) (n i p q : ℕ) (x : X) → i < n → i < length row → q ≡ p + step → x ≡ f p → take i row ++ F (n - i) p ≡ all → take (i + 1) (set row i x) ++ F (n - (i + 1)) q ≡ all
  row_more row all n i p q x h l e is inv =
      rw (take_more_set row i x l, append_assoc (take i row) (x ∷ []) (F (n - (i + 1)) q), is)
      (ap (λ xs. take i row ++ xs) (sym (ahead_more n i p q h e)) ∙ inv)
