-- What the words of a line spell, word by word.
use Rattle.std.proofs.Common.{◌≡◌, ℕ, zero, suc, ◌<◌, cond, ◌&&◌, eqb, ◌⊎◌, List, [], ◌∷◌, length, get_or, Some, None, codes, refl, ap, ◌∙◌, inl, inr, arith, Bor}
use Rattle.script.specs.Asked.{call, call_spelled, is, meter_spelled, spelled}
use Rattle.script.specs.declared.command.MeterChoice.TheVariants.{Digit}
use Rattle.spelling.proofs.Decoded.{other_text}
use Rattle.spelling.specs.Numerals.{texts}
use Rattle.std.proofs.lemmas.Bool.{and_left, and_right, cond-false, ne_eqb}
use Rattle.std.specs.Option.{option_map}

-- a word of a slice, by its place
abbrev pub at : List (Bor (List ℕ)) → ℕ → List ℕ
at ws k = (get_or ws k record { ref_ptr = (0, 0); now = [] }).now

-- so many words, one by one
abbrev pub first : ℕ → (ℕ → List ℕ) → List (List ℕ)
first zero word = []
first (suc n) word = word 0 ∷ first n (λ k. word (suc k))

texts_first : (ws : List (Bor (List ℕ))) → texts ws ≡ first (length ws) (at ws)
texts_first [] = refl
texts_first (v ∷ ws) = ap (λ (l : List (List ℕ)). v.now ∷ l) (texts_first ws)

pub texts_are : (ws : List (Bor (List ℕ))) (n : ℕ) → length ws ≡ n → texts ws ≡ first n (at ws)
texts_are ws n e = texts_first ws ∙ ap (λ (k : ℕ). first k (at ws)) e

-- a test of a word that is another
pub unlike : {X : Type 0} (v word : List ℕ) (x y : X) → (v ≡ word → ⊥) → cond (is v word) x y ≡ y
unlike v word x y other = cond-false (is v word) x y (other_text v word other)

-- words that no meter has
pub meter_other : (ws : List (Bor (List ℕ))) → 0 < length ws → (at ws 0 ≡ codes "card" → ⊥) → (at ws 0 ≡ codes "digit" → ⊥) ⊎ (1 < length ws) → meter_spelled (texts ws) ≡ None
meter_other [] some card digit = absurd (omega arith)
meter_other (v ∷ ws) some card (inl digit) =
    unlike v.now (codes "card") _ _ card ∙ cond-false (is v.now (codes "digit") && eqb (length (texts ws)) 0) (Some Digit) None (and_left _ _ (other_text v.now (codes "digit") digit))
meter_other (v ∷ []) some card (inr more) = absurd (omega arith)
meter_other (v ∷ w ∷ ws) some card (inr more) =
    unlike v.now (codes "card") _ _ card ∙ cond-false (is v.now (codes "digit") && eqb (length (texts (w ∷ ws))) 0) (Some Digit) None (and_right _ _ (ne_eqb (length (texts (w ∷ ws))) 0 (λ e. omega arith)))

-- a call, whose first word is neither of the other two
pub ask_call : (ws : List (Bor (List ℕ))) → (length ws < 1) ⊎ ((at ws 0 ≡ codes "scale" → ⊥) × (at ws 0 ≡ codes "meter" → ⊥)) → spelled (texts ws) ≡ option_map call (call_spelled (texts ws))
ask_call [] h = refl
ask_call (v ∷ ws) (inl none) = absurd (omega arith)
ask_call (v ∷ ws) (inr (no-scale, no-meter)) = unlike v.now (codes "scale") _ _ no-scale ∙ unlike v.now (codes "meter") _ _ no-meter

-- more words than any call has
pub call_many : (ws : List (Bor (List ℕ))) → 5 < length ws → call_spelled (texts ws) ≡ None
call_many (v ∷ w ∷ x ∷ y ∷ z ∷ a ∷ ws) h = refl
call_many ws h = absurd (omega arith)
