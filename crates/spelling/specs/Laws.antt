-- Parsing by `parse` reads the numbers that words spell.
use Rattle.std.proofs.Common.{◌≡◌, ℕ, ◌+◌, ◌^◌, ◌<◌, ◌≤◌, true, ◌&&◌, eqb, ltb, ◌⊎◌, List, length, get_or, drop, ℤ, pos, neg_ℤ, Some, None, Ok, Err, Result, sym, ap, ◌∙◌, inl, inr, arith, w32}
use Rattle.spelling.specs.declared.fault.SpellingFault.{SpellingFault}
use Rattle.spelling.specs.declared.fault.SpellingFault.TheVariants.{Malformed, Memory}
use Rattle.spelling.specs.Numerals.{integer, natural, numeral}
use Rattle.spelling.specs.Reads.{Numbered, Reads}
use Rattle.std.proofs.lemmas.Str.Parse.{IsNumeralModel, not_in_digits, numerals_by_value, parse_digits, parse_plain, parse_signed_digits, parse_signed_minus, parse_signed_plain, tells_all_ascii_digits}
use Rattle.std.proofs.lemmas.Bool.{and_from, and_parts, cases_Bool, cases_eq, cond-false, cond-true, eq-eqb, lt-ltb, ltb-true, ne_eqb}
use Rattle.std.specs.Option.{option_map}
use Rattle.std.specs.Str.Parse.{ParsesSigned, ParsesUnsigned, digits_value}
use Rattle.std.specs.Str.{all_ascii_digits}
use Rattle.std.specs.Int.{IsInRange}

own : IsNumeralModel (λ ds. all_ascii_digits ds ≡ true) (digits_value 10)
own = numerals_by_value (λ ds. all_ascii_digits ds ≡ true) tells_all_ascii_digits

module _ (limit : ℕ) (w : List ℕ) where
  numeral_is : all_ascii_digits w ≡ true → 0 < length w → digits_value 10 w < limit → numeral limit w ≡ Some (digits_value 10 w)
  numeral_is digits some small =
      cond-true (ltb 0 (length w) && (all_ascii_digits w && ltb (digits_value 10 w) limit)) (Some (digits_value 10 w)) None
      (and_from _ _ (lt-ltb 0 (length w) some) (and_from _ _ digits (lt-ltb (digits_value 10 w) limit small)))

  numeral_none : (all_ascii_digits w ≡ true → 0 < length w → digits_value 10 w < limit → ⊥) → numeral limit w ≡ None
  numeral_none never =
      let test = ltb 0 (length w) && (all_ascii_digits w && ltb (digits_value 10 w) limit) in
      let failed : test ≡ true → ⊥ = λ t.
      let a = and_parts _ _ t in
      let b = and_parts _ _ a.1 in
      never b.0 (ltb-true 0 (length w) a.0) (ltb-true (digits_value 10 w) limit b.1) in
      cond-false test (Some (digits_value 10 w)) None (elim (cases_Bool test) [ inl t ↦ absurd (failed t) | inr f ↦ f ])

-- digits begin with a digit
first_digit : (w : List ℕ) (c : ℕ) → all_ascii_digits w ≡ true → 0 < length w → (IsInRange 48 57 c → ⊥) → get_or w 0 0 ≡ c → ⊥
first_digit w c digits some other e = not_in_digits own w c digits other 0 some e

-- what `parse` says of a text; its value alone is used here
module _ {E : Type 0} (bits : ℕ) (w : List ℕ) (Blamed Spelled : List ℕ → Result ℕ E → Type 0) where
  abbrev parses : List ℕ → Result ℕ E → Type 0
  parses bs r = ParsesUnsigned bits 10 bs r × Blamed bs r × Spelled bs r

  pub natural_reads : (r : Result ℕ SpellingFault) → Numbered parses w r → Reads (λ n. n) (natural bits w) r
  natural_reads (Ok n) (plain, h) =
      let u = parse_plain own {E = E} bits w (Ok n) h.0 plain in
      numeral_is (2 ^ bits) w u.0.0 u.0.1 u.0.2 ∙ ap Some (sym u.1)
  natural_reads (Err Malformed) (inl plus) = numeral_none (2 ^ bits) w (λ digits some small. first_digit w 43 digits some (λ i. omega arith) plus)
  natural_reads (Err Malformed) (inr (e, h)) =
      numeral_none (2 ^ bits) w (λ digits some small. parse_digits own {E = E} bits w (Err e) h.0 digits (some, small))
  natural_reads (Err (Memory error)) h = absurd h

module _ {E : Type 0} (w : List ℕ) (Blamed Spelled : List ℕ → Result ℤ E → Type 0) where
  abbrev parses_signed : List ℕ → Result ℤ E → Type 0
  parses_signed bs r = ParsesSigned w32 10 bs r × Blamed bs r × Spelled bs r

  -- the two ways to spell an integer
  below : get_or w 0 0 ≡ 45 → integer w ≡ option_map (λ n. neg_ℤ (pos n)) (numeral (2 ^ 31 + 1) (drop 1 w))
  below minus = cond-true (eqb (get_or w 0 0) 45) (option_map (λ n. neg_ℤ (pos n)) (numeral (2 ^ 31 + 1) (drop 1 w))) (option_map pos (numeral (2 ^ 31) w)) (eq-eqb (get_or w 0 0) 45 minus)

  above : (get_or w 0 0 ≡ 45 → ⊥) → integer w ≡ option_map pos (numeral (2 ^ 31) w)
  above other = cond-false (eqb (get_or w 0 0) 45) (option_map (λ n. neg_ℤ (pos n)) (numeral (2 ^ 31 + 1) (drop 1 w))) (option_map pos (numeral (2 ^ 31) w)) (ne_eqb (get_or w 0 0) 45 other)

  integer_ok : (a : ℤ) → (get_or w 0 0 ≡ 43 → ⊥) → parses_signed w (Ok a) → (get_or w 0 0 ≡ 45) ⊎ (get_or w 0 0 ≡ 45 → ⊥) → integer w ≡ Some a
  integer_ok a plain h (inl minus) =
      let u = parse_signed_minus own {E = E} w32 w (Ok a) h.0 minus in
      let small : digits_value 10 (drop 1 w) < 2 ^ 31 + 1 = omega (arith, u.0.2) in
      below minus ∙ ap (option_map (λ n. neg_ℤ (pos n))) (numeral_is (2 ^ 31 + 1) (drop 1 w) u.0.0 u.0.1 small) ∙ ap Some (sym u.1)
  integer_ok a plain h (inr other) =
      let u = parse_signed_plain own {E = E} w32 w (Ok a) h.0 plain other in
      above other ∙ ap (option_map pos) (numeral_is (2 ^ 31) w u.0.0 u.0.1 u.0.2) ∙ ap Some (sym u.1)

  integer_err : (e : E) → parses_signed w (Err e) → (get_or w 0 0 ≡ 45) ⊎ (get_or w 0 0 ≡ 45 → ⊥) → integer w ≡ None
  integer_err e h (inl minus) =
      below minus ∙ ap (option_map (λ n. neg_ℤ (pos n))) (numeral_none (2 ^ 31 + 1) (drop 1 w) (λ digits some small.
      let most : digits_value 10 (drop 1 w) ≤ 2 ^ 31 = omega arith in
      parse_signed_minus own {E = E} w32 w (Err e) h.0 minus (digits, some, most)))
  integer_err e h (inr other) =
      above other ∙ ap (option_map pos) (numeral_none (2 ^ 31) w (λ digits some small. parse_signed_digits own {E = E} w32 w (Err e) h.0 digits (some, small)))

  pub integer_reads : (r : Result ℤ SpellingFault) → Numbered parses_signed w r → Reads (λ a. a) (integer w) r
  integer_reads (Ok a) (plain, h) = integer_ok a plain h (cases_eq (get_or w 0 0) 45)
  integer_reads (Err Malformed) (inl plus) =
      above (λ minus. omega arith) ∙ ap (option_map pos) (numeral_none (2 ^ 31) w (λ digits some small. first_digit w 43 digits some (λ i. omega arith) plus))
  integer_reads (Err Malformed) (inr (e, h)) = integer_err e h (cases_eq (get_or w 0 0) 45)
  integer_reads (Err (Memory error)) h = absurd h
