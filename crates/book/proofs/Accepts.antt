-- Bytes that are read as a book are the encoding of that book, which is well formed.
use Rattle.std.proofs.Common.{◌≡◌, ℕ, ◌+◌, ◌*◌, ◌<◌, ◌≤◌, cond, eqb, ltb, List, [], ◌∷◌, ◌++◌, map, length, drop, ℤ, Ok, Err, Result, sym, refl, ap, ◌∙◌, subst, ap₂, arith, w32, SFits}
use Rattle.book.proofs.Bytes.{code_at, one, code_field, word_field, long_field, raws_codes, raws_arguments, length-raws, raw_codes, raw_arguments, codes_joined, arguments_joined}
use Rattle.book.proofs.FieldLaws.{Bytes, length_fields, all_fields, written_at, written_fields}
use Rattle.book.proofs.Outcomes.{ok_same, err_ok, by_test}
use Rattle.book.proofs.Sounds.{finished_ok, finished_spoken}
use Rattle.book.proofs.Steps.{scan_back}
use Rattle.book.specs.Codes.{code_of, argument_of}
use Rattle.refusal.specs.declared.reader.ReaderFault.{ReaderFault}
use Rattle.refusal.specs.declared.reader.ReaderFault.TheVariants.{Length, TooManyFigures, TooManyInstructions}
use Rattle.book.specs.declared.instruction.Instruction.{Instruction}
use Rattle.book.specs.Encodings.{two, four, argument_bytes, encode, EventFormed, WellFormed}
use Rattle.book.specs.Forms.{Formed}
use Rattle.book.specs.Reads.{BookModel, fields, word, long, words, longs, raw, raws, scan, read_code, bound, read_body, read_sized, reading}
use Rattle.book.specs.Trees.{Code, events, event_weight}
use Rattle.std.proofs.lemmas.List.{append-nil, length-map, drop_all}
use Rattle.std.proofs.lemmas.Bool.{ltb-false, eqb-true}
use Rattle.std.specs.List.{flat_map, AllByRecursion}

-- What was asked of bytes that were read as a book.
pub record Read (bs : List ℕ) (b : BookModel) : Type 0 where
  pub figures_few : word bs 0 ≤ 32
  pub instructions_few : word bs 2 ≤ 256
  pub as_long : length bs ≡ 6 + 6 * word bs 0 + 5 * word bs 2
  pub instructions_of : List Instruction
  pub code_read : read_code (word bs 0) (word bs 2) (6 + 6 * word bs 0) bs ≡ Ok instructions_of
  pub book_is : record { clock = word bs 4; levels = words (word bs 0) 6 bs; starts = longs (word bs 0) (6 + 2 * word bs 0) bs; code = instructions_of } ≡ b

-- the code of a book that was bound, and the book
bound_ok : (c : ℕ) (ls : List ℕ) (ss : List ℤ) (r : Result (List Instruction) ReaderFault) (b : BookModel) → bound c ls ss r ≡ Ok b → (is : List Instruction) × (r ≡ Ok is) × (record { clock = c; levels = ls; starts = ss; code = is } ≡ b)
bound_ok c ls ss (Ok is) b e = (is, refl, ok_same _ b e)
bound_ok c ls ss (Err f) b e = absurd (err_ok f b e)

-- By the chain of tests, each of which would have answered a fault.
pub reading_ok : (bs : List ℕ) (b : BookModel) → reading bs ≡ Ok b → Read bs b
reading_ok bs b =
    by_test (ltb (length bs) 6) (Err Length) (read_sized nv nc bs) (Ok b) (λ _ e. absurd (err_ok Length b e))
    (λ _. by_test (ltb 32 nv) (Err TooManyFigures) (cond (ltb 256 nc) (Err TooManyInstructions) (cond (eqb (length bs) (6 + 6 * nv + 5 * nc)) (read_body nv nc bs) (Err Length))) (Ok b) (λ _ e. absurd (err_ok TooManyFigures b e))
    (λ few. by_test (ltb 256 nc) (Err TooManyInstructions) (cond (eqb (length bs) (6 + 6 * nv + 5 * nc)) (read_body nv nc bs) (Err Length)) (Ok b) (λ _ e. absurd (err_ok TooManyInstructions b e))
    (λ short. by_test (eqb (length bs) (6 + 6 * nv + 5 * nc)) (read_body nv nc bs) (Err Length) (Ok b)
    (λ same e.
    let r = bound_ok (word bs 4) (words nv 6 bs) (longs nv (6 + 2 * nv) bs) (read_code nv nc (6 + 6 * nv) bs) b e in
    record {
      figures_few = ltb-false 32 nv few;
      instructions_few = ltb-false 256 nc short;
      as_long = eqb-true (length bs) (6 + 6 * nv + 5 * nc) same;
      instructions_of = r.0;
      code_read = r.1;
      book_is = r.2;
    })
    (λ _ e. absurd (err_ok Length b e)))))
  where
    nv : ℕ
    nv = word bs 0

    nc : ℕ
    nc = word bs 2

-- what holds of each image holds of each element by its image
all_unmap : {X Y : Type 0} (P : Y → Type 0) (f : X → Y) (xs : List X) → AllByRecursion P (map f xs) → AllByRecursion (λ x. P (f x)) xs
all_unmap P f [] a = tt
all_unmap P f (x ∷ xs) a = (a.0, all_unmap P f xs a.1)

-- formed and light events
both_formed : (nv : ℕ) (es : List Code) → AllByRecursion (λ e. Formed nv 8 0 e) es → AllByRecursion (λ e. event_weight e ≤ 100000) es → AllByRecursion (λ e. EventFormed nv e) es
both_formed nv [] f l = tt
both_formed nv (e ∷ es) f l = (record { formed = f.0; light = l.0 }, both_formed nv es f.1 l.1)

-- Bytes of the right length are the fields that are read from them, one behind the other.
module _ (bs : List ℕ) (bytes : Bytes bs) (nv nc : ℕ) (is : List Instruction) (as_long : length bs ≡ 6 + 6 * nv + 5 * nc) (raw-is : map raw is ≡ raws nc (6 + 6 * nv) (6 + 6 * nv + nc) bs) where
  levels_written : drop 6 bs ≡ flat_map two (words nv 6 bs) ++ drop (6 + 2 * nv) bs
  levels_written = sym (written_fields word_field nv 6 bs bytes (omega arith))

  starts_written : drop (6 + 2 * nv) bs ≡ flat_map four (longs nv (6 + 2 * nv) bs) ++ drop (6 + 6 * nv) bs
  starts_written =
      let next : 6 + 6 * nv ≡ 6 + 2 * nv + 4 * nv = omega arith in
      sym (ap (λ k. flat_map four (longs nv (6 + 2 * nv) bs) ++ drop k bs) next ∙ written_fields long_field nv (6 + 2 * nv) bs bytes (omega arith))

  codes_read : map code_of is ≡ fields 1 code_at nc (6 + 6 * nv) bs
  codes_read = sym (raw_codes is) ∙ ap (map (λ r. r.code)) raw-is ∙ raws_codes nc (6 + 6 * nv) (6 + 6 * nv + nc) bs

  codes_written : drop (6 + 6 * nv) bs ≡ map code_of is ++ drop (6 + 6 * nv + nc) bs
  codes_written =
      let next : 6 + 6 * nv + nc ≡ 6 + 6 * nv + 1 * nc = omega arith in
      sym (ap₂ (λ l k. l ++ drop k bs) (codes_joined is ∙ ap (flat_map one) codes_read) next ∙ written_fields code_field nc (6 + 6 * nv) bs bytes (omega arith))

  arguments_read : map argument_of is ≡ fields 4 long nc (6 + 6 * nv + nc) bs
  arguments_read = sym (raw_arguments is) ∙ ap (map (λ r. r.argument)) raw-is ∙ raws_arguments nc (6 + 6 * nv) (6 + 6 * nv + nc) bs

  arguments_written : drop (6 + 6 * nv + nc) bs ≡ flat_map argument_bytes is
  arguments_written =
      let at : ℕ = 6 + 6 * nv + nc in
      let nothing : drop (at + 4 * nc) bs ≡ [] = drop_all (at + 4 * nc) bs (omega arith) in
      sym (written_fields long_field nc at bs bytes (omega arith))
      ∙ ap₂ (λ l m. l ++ m) (sym (arguments_joined is ∙ ap (flat_map four) arguments_read)) nothing
      ∙ append-nil (flat_map argument_bytes is)

  -- all but the sizes and the clock's level
  body_written : drop 6 bs ≡ flat_map two (words nv 6 bs) ++ (flat_map four (longs nv (6 + 2 * nv) bs) ++ (map code_of is ++ flat_map argument_bytes is))
  body_written = rw (levels_written, starts_written, codes_written, arguments_written)

  levels_many : length (words nv 6 bs) ≡ nv
  levels_many = length_fields 2 word nv 6 bs

  starts_many : length (longs nv (6 + 2 * nv) bs) ≡ nv
  starts_many = length_fields 4 long nv (6 + 2 * nv) bs

  code_many : length is ≡ nc
  code_many = sym (length-map is raw) ∙ ap length raw-is ∙ length-raws nc (6 + 6 * nv) (6 + 6 * nv + nc) bs

  arguments_fit_read : AllByRecursion (λ i. SFits w32 (argument_of i)) is
  arguments_fit_read = all_unmap (SFits w32) argument_of is (subst (AllByRecursion (SFits w32)) (sym arguments_read) (all_fields 4 long (SFits w32) bs (λ at. long_field.fit bs at bytes) nc (6 + 6 * nv + nc)))

-- the sizes and the clock's level, and what follows them
front_written : (bs : List ℕ) → Bytes bs → 6 ≤ length bs → bs ≡ two (word bs 0) ++ (two (word bs 2) ++ (two (word bs 4) ++ drop 6 bs))
front_written bs bytes l =
    sym (written_at word_field bs 0 bytes (omega arith))
    ∙ ap (λ m. two (word bs 0) ++ m) (sym (written_at word_field bs 2 bytes (omega arith))
    ∙ ap (λ m. two (word bs 2) ++ m) (sym (written_at word_field bs 4 bytes (omega arith))))

-- Bytes that are read as a book are its encoding, and the book is well formed: the fields that were read, written one behind
-- the other, are the bytes, and the code that was scanned is the code of formed and light events.
pub accepts : (bs : List ℕ) (b : BookModel) → Bytes bs → Read bs b → (bs ≡ encode b) × WellFormed b
accepts bs b bytes r =
    let nv = word bs 0 in
    let nc = word bs 2 in
    let is = r.instructions_of in
    let at = 6 + 6 * nv in
    let rs = raws nc at (at + nc) bs in
    let passed = finished_ok (scan nv 0 0 [] rs) is r.code_read in
    let spoken = finished_spoken nv rs is r.code_read in
    let raw-is = (scan_back nv 0 0 [] rs is passed.scanned).0 in
    let figures-are = levels_many bs bytes nv nc is r.as_long raw-is in
    let instructions-are = code_many bs bytes nv nc is r.as_long raw-is in
    let long-enough = r.as_long in
    subst (λ m. (bs ≡ encode m) × WellFormed m) r.book_is (
      front_written bs bytes (omega arith)
          ∙ ap₂ (λ x y. two x ++ (two y ++ (two (word bs 4) ++ drop 6 bs))) (sym figures-are) (sym instructions-are)
          ∙ ap (λ l. two (length (words nv 6 bs)) ++ (two (length is) ++ (two (word bs 4) ++ l))) (body_written bs bytes nv nc is r.as_long raw-is),
      record {
        figures = subst (λ k. k ≤ 32) (sym figures-are) r.figures_few;
        starts_too = starts_many bs bytes nv nc is r.as_long raw-is ∙ sym figures-are;
        instructions = subst (λ k. k ≤ 256) (sym instructions-are) r.instructions_few;
        clock_fits = word_field.fit bs 4 bytes;
        levels_fit = all_fields 2 word (λ l. l < 65536) bs (λ k. word_field.fit bs k bytes) nv 6;
        starts_fit = all_fields 4 long (λ z. SFits w32 z) bs (λ k. long_field.fit bs k bytes) nv (6 + 2 * nv);
        arguments_fit = arguments_fit_read bs bytes nv nc is r.as_long raw-is;
        program = events is;
        code_is = sym spoken.code_is;
        events_formed = subst (λ k. AllByRecursion (λ e. EventFormed k e) (events is)) (sym figures-are) (both_formed nv (events is) spoken.formed spoken.light);
      },
    )
