-- Fields of one size in a row of bytes: what was written is read back, and what was read is written back.
use Rattle.std.proofs.Common.{◌≡◌, ℕ, zero, suc, ◌+◌, ◌*◌, ◌<◌, ◌≤◌, List, [], ◌∷◌, ◌++◌, length, drop, sym, refl, ap, ◌∙◌, ap₂, mul-suc, arith}
use Rattle.std.proofs.ByRecursion.{All-drop}
use Rattle.std.proofs.lemmas.List.{append_assoc, length-append, length-drop, drop_at, drop-drop}
use Rattle.book.specs.Reads.{fields}
use Rattle.std.specs.List.{flat_map, AllByRecursion}

-- bytes are numbers below 256
abbrev pub Bytes : List ℕ → Type 0
Bytes bs = AllByRecursion (λ x. x < 256) bs

module _ {X : Type 0} (size : ℕ) (read : List ℕ → ℕ → X) where
  -- as many as were asked for
  pub length_fields : (n at : ℕ) (bs : List ℕ) → length (fields size read n at bs) ≡ n
  length_fields zero at bs = refl
  length_fields (suc n) at bs = ap suc (length_fields n (at + size) bs)

  -- what holds of every read holds of each field
  pub all_fields : (P : X → Type 0) (bs : List ℕ) → ((at : ℕ) → P (read bs at)) → (n at : ℕ) → AllByRecursion P (fields size read n at bs)
  all_fields P bs h zero at = tt
  all_fields P bs h (suc n) at = (h at, all_fields P bs h n (at + size))

-- the laws of a field of this size that is read and written so, for the values that fit it
pub record Field {X : Type 0} (size : ℕ) (read : List ℕ → ℕ → X) (write : X → List ℕ) (Fit : X → Type 0) : Type 0 where
  pub sized : (x : X) → length (write x) ≡ size
  -- a read sees only what stands from its place on
  pub within : (bs : List ℕ) (at : ℕ) → read bs at ≡ read (drop at bs) 0
  pub read_written : (x : X) → Fit x → (post : List ℕ) → read (write x ++ post) 0 ≡ x
  pub written_read : (bs : List ℕ) → Bytes bs → size ≤ length bs → write (read bs 0) ++ drop size bs ≡ bs
  pub fit : (bs : List ℕ) (at : ℕ) → Bytes bs → Fit (read bs at)

module _ {X : Type 0} {size : ℕ} {read : List ℕ → ℕ → X} {write : X → List ℕ} {Fit : X → Type 0} (law : Field size read write Fit) where
  -- values take their size each
  pub length-joined : (xs : List X) → length (flat_map write xs) ≡ size * length xs
  length-joined [] = omega arith
  length-joined (x ∷ xs) =
      let here = law.sized x in
      let more = length-joined xs in
      length-append (write x) (flat_map write xs) ∙ omega (arith, mul-suc size (length xs))

  -- one field behind other bytes
  pub read_behind : (x : X) → Fit x → (pre post : List ℕ) → read (pre ++ (write x ++ post)) (length pre) ≡ x
  read_behind x f pre post =
      law.within (pre ++ (write x ++ post)) (length pre)
      ∙ ap (λ l. read l 0) (drop_at pre (write x ++ post) (length pre) refl)
      ∙ law.read_written x f post

  -- one field of bytes, and what follows it
  pub written_at : (bs : List ℕ) (at : ℕ) → Bytes bs → at + size ≤ length bs → write (read bs at) ++ drop (at + size) bs ≡ drop at bs
  written_at bs at b l =
      let left = length-drop at bs in
      ap₂ (λ x l. write x ++ l) (law.within bs at) (sym (drop-drop size at bs))
      ∙ law.written_read (drop at bs) (All-drop (λ x. x < 256) at bs b) (omega arith)

  -- By induction on the values, each one read behind those before it.
  pub fields_written : (xs : List X) → AllByRecursion Fit xs → (pre post : List ℕ) (at : ℕ) → length pre ≡ at → fields size read (length xs) at (pre ++ (flat_map write xs ++ post)) ≡ xs
  fields_written [] a pre post at e = refl
  fields_written (x ∷ xs) a pre post at e =
      let apart : pre ++ ((write x ++ flat_map write xs) ++ post) ≡ pre ++ (write x ++ (flat_map write xs ++ post)) = ap (λ l. pre ++ l) (append_assoc (write x) (flat_map write xs) post) in
      let shifted = sym (append_assoc pre (write x) (flat_map write xs ++ post)) in
      let further : length (pre ++ write x) ≡ at + size = length-append pre (write x) ∙ ap₂ (λ m n. m + n) e (law.sized x) in
      ap₂ (λ y ys. y ∷ ys)
      (ap₂ read apart (sym e) ∙ read_behind x a.0 pre (flat_map write xs ++ post))
      (ap (fields size read (length xs) (at + size)) (apart ∙ shifted) ∙ fields_written xs a.1 (pre ++ write x) post (at + size) further)

  -- By induction on how many fields are read.
  pub written_fields : (n at : ℕ) (bs : List ℕ) → Bytes bs → at + size * n ≤ length bs → flat_map write (fields size read n at bs) ++ drop (at + size * n) bs ≡ drop at bs
  written_fields zero at bs b l = ap (λ k. drop k bs) (omega arith)
  written_fields (suc n) at bs b l =
      let step = mul-suc size n in
      let next : at + size * suc n ≡ at + size + size * n = omega arith in
      append_assoc (write (read bs at)) (flat_map write (fields size read n (at + size) bs)) (drop (at + size * suc n) bs)
      ∙ ap (λ k. write (read bs at) ++ (flat_map write (fields size read n (at + size) bs) ++ drop k bs)) next
      ∙ ap (λ l. write (read bs at) ++ l) (written_fields n (at + size) bs b (omega arith))
      ∙ written_at bs at b (omega arith)
