-- The three kinds of fields in a book's bytes: a number in two bytes, a signed one in four, and a code in one.
use borrow.Author.Gap.{read_sfits}
use Rattle.std.proofs.Common.{◌≡◌, ℕ, zero, suc, ◌+◌, ◌*◌, ◌/◌, ◌%◌, ◌<◌, ◌≤◌, List, [], ◌∷◌, ◌++◌, map, length, get_or, drop, pos, sym, refl, ap, ◌∙◌, ap₂, arith, w32, SFits, to_z, of_z}
use mathlib.Core.List.{tail}
use Rattle.book.proofs.FieldLaws.{Bytes, Field}
use Rattle.book.specs.Codes.{code_of, argument_of}
use Rattle.book.specs.declared.instruction.Instruction.{Instruction}
use Rattle.book.specs.Encodings.{two, four, argument_bytes}
use Rattle.book.specs.Reads.{fields, word, long, Raw, raw, raws}
use Rattle.std.proofs.lemmas.List.{get_or-drop}
use Rattle.std.proofs.lemmas.Int.{to_z-of_z, of_z-to_z}
use Rattle.std.specs.List.{flat_map}

-- the byte at a place, 0 past the end
abbrev pub code_at : List ℕ → ℕ → ℕ
code_at bs at = get_or bs at 0

-- a code in its one byte
abbrev pub one : ℕ → List ℕ
one c = c ∷ []

-- a byte is below 256
pub byte_at : (bs : List ℕ) (at : ℕ) → Bytes bs → code_at bs at < 256
byte_at [] at b = omega arith
byte_at (x ∷ xs) zero b = b.0
byte_at (x ∷ xs) (suc at) b = byte_at xs at b.1

-- a byte some places on, seen from the first
further : (bs : List ℕ) (at k : ℕ) → code_at bs (at + k) ≡ code_at (drop at bs) k
further bs at k = sym (get_or-drop at bs k 0)

-- the byte at a place itself
first : (bs : List ℕ) (at : ℕ) → code_at bs at ≡ code_at (drop at bs) 0
first bs at = ap (code_at bs) (omega arith) ∙ further bs at 0

-- the laws of a code
pub code_field : Field 1 code_at one (λ c. Unit {0})
code_field = record {
  sized = λ c. refl;
  within = first;
  read_written = λ c f post. refl;
  written_read = written;
  fit = λ bs at b. tt;
}
  where
    written : (bs : List ℕ) → Bytes bs → 1 ≤ length bs → one (code_at bs 0) ++ drop 1 bs ≡ bs
    written [] b l = absurd (omega arith)
    written (x ∷ xs) b l = refl

-- the laws of a number in two bytes
pub word_field : Field 2 word two (λ n. n < 65536)
word_field = record {
  sized = λ n. refl;
  within = λ bs at. ap₂ (λ x y. x * 256 + y) (first bs at) (further bs at 1);
  read_written = λ n f post. omega arith;
  written_read = written;
  fit = λ bs at b. fits (byte_at bs at b) (byte_at bs (at + 1) b);
}
  where
    fits : {x y : ℕ} → x < 256 → y < 256 → x * 256 + y < 65536
    fits p q = omega arith

    written : (bs : List ℕ) → Bytes bs → 2 ≤ length bs → two (word bs 0) ++ drop 2 bs ≡ bs
    written [] b l = absurd (omega arith)
    written (x ∷ []) b l = absurd (omega arith)
    written (x ∷ y ∷ xs) b l =
        let p : x < 256 = b.0 in
        let q : y < 256 = b.1.0 in
        let high : (x * 256 + y) / 256 ≡ x = omega arith in
        let low : (x * 256 + y) % 256 ≡ y = omega arith in
        ap₂ (λ m n. m ∷ n ∷ xs) high low

-- the laws of a signed number in four bytes
pub long_field : Field 4 long four (λ z. SFits w32 z)
long_field = record {
  sized = λ z. refl;
  within = λ bs at. λ i. to_z w32 (first bs at i * 16777216 + further bs at 1 i * 65536 + further bs at 2 i * 256 + further bs at 3 i);
  read_written = λ z f post. ap (to_z w32) (together (of_z w32 z)) ∙ to_z-of_z w32 z f;
  written_read = written;
  fit = λ bs at b. read_sfits w32 _;
}
  where
    together : (n : ℕ) → n / 16777216 * 16777216 + n / 65536 % 256 * 65536 + n / 256 % 256 * 256 + n % 256 ≡ n
    together n = omega arith

    written : (bs : List ℕ) → Bytes bs → 4 ≤ length bs → four (long bs 0) ++ drop 4 bs ≡ bs
    written [] b l = absurd (omega arith)
    written (x ∷ []) b l = absurd (omega arith)
    written (x ∷ y ∷ []) b l = absurd (omega arith)
    written (x ∷ y ∷ z ∷ []) b l = absurd (omega arith)
    written (x ∷ y ∷ z ∷ w ∷ xs) b l =
        let p : x < 256 = b.0 in
        let q : y < 256 = b.1.0 in
        let r : z < 256 = b.1.1.0 in
        let s : w < 256 = b.1.1.1.0 in
        let n : ℕ = x * 16777216 + y * 65536 + z * 256 + w in
        let back : of_z w32 (to_z w32 n) ≡ n = of_z-to_z w32 n (omega arith) in
        let b3 : n / 16777216 ≡ x = omega arith in
        let b2 : n / 65536 % 256 ≡ y = omega arith in
        let b1 : n / 256 % 256 ≡ z = omega arith in
        let b0 : n % 256 ≡ w = omega arith in
        ap (λ m. m / 16777216 ∷ m / 65536 % 256 ∷ m / 256 % 256 ∷ m % 256 ∷ xs) back
        ∙ λ i. b3 i ∷ b2 i ∷ b1 i ∷ b0 i ∷ xs

-- the codes and the arguments of the raw instructions are fields
pub raws_codes : (n at from : ℕ) (bs : List ℕ) → map (λ r. r.code) (raws n at from bs) ≡ fields 1 code_at n at bs
raws_codes zero at from bs = refl
raws_codes (suc n) at from bs = ap (λ l. code_at bs at ∷ l) (raws_codes n (at + 1) (from + 4) bs)

pub raws_arguments : (n at from : ℕ) (bs : List ℕ) → map (λ r. r.argument) (raws n at from bs) ≡ fields 4 long n from bs
raws_arguments zero at from bs = refl
raws_arguments (suc n) at from bs = ap (λ l. long bs from ∷ l) (raws_arguments n (at + 1) (from + 4) bs)

-- there are as many as were asked for
pub length-raws : (n at from : ℕ) (bs : List ℕ) → length (raws n at from bs) ≡ n
length-raws zero at from bs = refl
length-raws (suc n) at from bs = ap suc (length-raws n (at + 1) (from + 4) bs)

-- two lists of raw instructions with the same codes and the same arguments
pub raws_same : (rs ts : List Raw) → map (λ r. r.code) rs ≡ map (λ r. r.code) ts → map (λ r. r.argument) rs ≡ map (λ r. r.argument) ts → rs ≡ ts
raws_same [] [] c a = refl
raws_same [] (t ∷ ts) c a =
    let lengths = ap length c in
    absurd (omega arith)
raws_same (r ∷ rs) [] c a =
    let lengths = ap length c in
    absurd (omega arith)
raws_same (r ∷ rs) (t ∷ ts) c a =
    let here : r ≡ t = λ i. record { code = get_or (c i) 0 0; argument = get_or (a i) 0 (pos 0) } in
    ap₂ (λ x xs. x ∷ xs) here (raws_same rs ts (ap tail c) (ap tail a))

-- the codes and the arguments of instructions as bytes
pub raw_codes : (is : List Instruction) → map (λ r. r.code) (map raw is) ≡ map code_of is
raw_codes [] = refl
raw_codes (i ∷ is) = ap (λ l. code_of i ∷ l) (raw_codes is)

pub raw_arguments : (is : List Instruction) → map (λ r. r.argument) (map raw is) ≡ map argument_of is
raw_arguments [] = refl
raw_arguments (i ∷ is) = ap (λ l. argument_of i ∷ l) (raw_arguments is)

-- the bytes of instructions are the fields of their codes and of their arguments
pub codes_joined : (is : List Instruction) → map code_of is ≡ flat_map one (map code_of is)
codes_joined [] = refl
codes_joined (i ∷ is) = ap (λ l. code_of i ∷ l) (codes_joined is)

pub arguments_joined : (is : List Instruction) → flat_map argument_bytes is ≡ flat_map four (map argument_of is)
arguments_joined [] = refl
arguments_joined (i ∷ is) = ap (λ l. argument_bytes i ++ l) (arguments_joined is)
