-- The bytes of hexadecimal digits, as the decoder reads them.
use Rattle.hex.proofs.HexLemmas.{decode_of-even, decode_of-odd}
use Rattle.hex.specs.Hex.{decode_of, decode_pairs, hex_digit_value, ◌>>=◌, digit_or_error}
use Rattle.hex.specs.declared.error.FromHexError.{FromHexError}
use Rattle.hex.specs.declared.error.FromHexError.TheVariants.{OutOfMemory}
use Rattle.spelling.specs.Faults.{fault_of}
use Rattle.spelling.specs.Hex.{bytes, bytes_value, digit_value, in_front, joined}
use Rattle.spelling.specs.Reads.{Reads}
use Rattle.spelling.specs.declared.fault.SpellingFault.{SpellingFault}
use Rattle.spelling.specs.declared.fault.SpellingFault.TheVariants.{Malformed, Memory}
use Rattle.std.proofs.Common.{◌≡◌, ℕ, ◌+◌, ◌%◌, ◌*◌, ◌⊎◌, List, [], ◌∷◌, Bool, ◌&&◌, Some, None, Ok, Err, Option, Result, IsErrAnd, codes, length, cond, eqb, false, refl, ap, sym, ◌∙◌, arith, inl, inr}
use Rattle.std.proofs.lemmas.Bool.{cases_Bool, cases_eq, cond-false, false_from_ne_true, ne_eqb}
use Rattle.std.proofs.lemmas.Bool.Decides.{nat_tests}
use Rattle.std.proofs.lemmas.List.{nil_from_length}
use Rattle.std.proofs.lemmas.Slice.Eq.{bytes_eq-Decides}
use Rattle.std.specs.Char.{is_ascii_hexdigit}
use Rattle.std.specs.List.{list_all}
use Rattle.std.specs.Result.{result_ok}
use Rattle.std.specs.Str.{bytes_eq}

-- a test of two texts that failed
pub other_text : (xs ys : List ℕ) → (xs ≡ ys → ⊥) → bytes_eq xs ys ≡ false
other_text xs ys other = false_from_ne_true (bytes_eq xs ys) (λ same. other ((bytes_eq-Decides xs ys).0 same))

-- a digit has one value, in whatever order it is looked for
digit_same : (c : ℕ) → digit_value c ≡ hex_digit_value c
digit_same c = grind (arith, nat_tests)

-- two digits and what is behind them
pair_same : (x y at : ℕ) (a b : Option ℕ) (more : Result (List ℕ) FromHexError) →
    in_front (joined a b) (result_ok more)
    ≡ result_ok ((digit_or_error x at a >>= (λ h. digit_or_error y (at + 1) b >>= (λ l. Ok (h * 16 + l)))) >>= (λ byte. more >>= (λ bytes. Ok (byte ∷ bytes))))
pair_same x y at None b more = refl
pair_same x y at (Some h) None more = refl
pair_same x y at (Some h) (Some l) (Ok bytes) = refl
pair_same x y at (Some h) (Some l) (Err e) = refl

pairs_same : (at : ℕ) (digits : List ℕ) → bytes_value digits ≡ result_ok (decode_pairs at digits)
unfolding decode_pairs
pairs_same at [] = refl
pairs_same at (x ∷ []) = refl
pairs_same at (x ∷ y ∷ more) =
    rw (digit_same x, digit_same y, pairs_same (at + 2) more) (pair_same x y at (hex_digit_value x) (hex_digit_value y) (decode_pairs (at + 2) more))

-- one digit is too few or too many
front_none : (o : Option ℕ) → in_front o None ≡ None
front_none None = refl
front_none (Some b) = refl

odd_none : (digits : List ℕ) → length digits % 2 ≡ 1 → bytes_value digits ≡ None
odd_none [] odd = absurd (omega (arith, odd))
odd_none (x ∷ []) odd = refl
odd_none (x ∷ y ∷ more) odd =
    ap (in_front (joined (digit_value x) (digit_value y))) (odd_none more (omega arith)) ∙ front_none (joined (digit_value x) (digit_value y))

decoded_same : (digits : List ℕ) → bytes_value digits ≡ result_ok (decode_of digits)
decoded_same digits = elim (cases_eq (length digits % 2) 1) [
  | inl odd ↦ odd_none digits odd ∙ sym (ap result_ok (decode_of-odd digits odd))
  | inr even ↦ pairs_same 0 digits ∙ sym (ap result_ok (decode_of-even digits (omega arith)))
]

-- a word that is neither of the two that stand for themselves
digits_spelled : (w : List ℕ) → (w ≡ codes "-" → ⊥) → (w ≡ [] → ⊥) → bytes w ≡ bytes_value w
digits_spelled w dash empty =
    cond-false (bytes_eq w (codes "-")) (Some []) (cond (eqb (length w) 0) None (bytes_value w)) (other_text w (codes "-") dash)
    ∙ cond-false (eqb (length w) 0) None (bytes_value w) (ne_eqb (length w) 0 (λ none. empty (nil_from_length w none)))

pub digits_read : (w : List ℕ) → (w ≡ codes "-" → ⊥) → (w ≡ [] → ⊥) → bytes w ≡ result_ok (decode_of w)
digits_read w dash empty = digits_spelled w dash empty ∙ decoded_same w

-- what is no digit has no value
other_none : (c : ℕ) → is_ascii_hexdigit c ≡ false → digit_value c ≡ None
other_none c other = grind (arith, nat_tests)

joined_none : (o : Option ℕ) → joined o None ≡ None
joined_none None = refl
joined_none (Some x) = refl

-- two characters of which one is no digit, or more behind them that spell nothing
front_other : (x y : ℕ) (more : Option (List ℕ)) (test : Bool) → (test ≡ false → more ≡ None) →
    (is_ascii_hexdigit x && (is_ascii_hexdigit y && test)) ≡ false → in_front (joined (digit_value x) (digit_value y)) more ≡ None
front_other x y more test behind other = elim (cases_Bool (is_ascii_hexdigit x)) [
  | inr lacks ↦ ap (λ o. in_front (joined o (digit_value y)) more) (other_none x lacks)
  | inl first ↦ elim (cases_Bool (is_ascii_hexdigit y)) [
    | inr misses ↦ ap (λ o. in_front o more) (ap (joined (digit_value x)) (other_none y misses) ∙ joined_none (digit_value x))
    | inl second ↦
        ap (in_front (joined (digit_value x) (digit_value y))) (behind (sym (ap (λ b. b && (is_ascii_hexdigit y && test)) first ∙ ap (λ b. b && test) second) ∙ other))
        ∙ front_none (joined (digit_value x) (digit_value y))
  ]
]

-- a word with a character that is no digit spells nothing
others_none : (w : List ℕ) → list_all is_ascii_hexdigit w ≡ false → bytes_value w ≡ None
others_none [] other = absurd (cc other)
others_none (x ∷ []) other = refl
others_none (x ∷ y ∷ more) other = front_other x y (bytes_value more) (list_all is_ascii_hexdigit more) (others_none more) other

pub others_read : (w : List ℕ) → (w ≡ codes "-" → ⊥) → (w ≡ [] → ⊥) → list_all is_ascii_hexdigit w ≡ false → bytes w ≡ None
others_read w dash empty other = digits_spelled w dash empty ∙ others_none w other

-- a fault of the decoder is passed on
pub fault_reads : {X Y : Type 0} (f : X → Y) (spelled : Option Y) (e : FromHexError) (r : Result X SpellingFault) →
    IsErrAnd r (λ fault. fault ≡ fault_of e) → (e ≡ OutOfMemory) ⊎ (spelled ≡ None) → Reads f spelled r
fault_reads f spelled e (Ok x) passed why = absurd passed
fault_reads f spelled e (Err Malformed) passed (inl memory) = absurd (cc (ap fault_of memory))
fault_reads f spelled e (Err Malformed) passed (inr none) = none
fault_reads f spelled e (Err (Memory error)) passed why = tt
