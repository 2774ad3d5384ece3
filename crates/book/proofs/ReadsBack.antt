-- The encoding of a well-formed book is read as that book.
use Rattle.std.proofs.Common.{◌≡◌, ℕ, ◌+◌, ◌*◌, ◌/◌, ◌%◌, ◌≤◌, List, [], ◌∷◌, ◌++◌, map, length, Ok, sym, refl, ap, ◌∙◌, subst, ap₂, arith, w32, SFits}
use Rattle.book.proofs.Bytes.{code_at, code_field, word_field, long_field, raws_codes, raws_arguments, raws_same, raw_codes, raw_arguments, codes_joined, arguments_joined}
use Rattle.book.proofs.FieldLaws.{length-joined, fields_written}
use Rattle.book.proofs.Parses.{all_formed}
use Rattle.book.proofs.Sounds.{whole_passes}
use Rattle.book.specs.Codes.{code_of, argument_of}
use Rattle.book.specs.Encodings.{two, four, argument_bytes, encode, EventFormed, WellFormed}
use Rattle.book.specs.Reads.{BookModel, fields, long, words, longs, raw, raws, scan, finished, read_code, bound, reading}
use Rattle.book.specs.Trees.{event_weight}
use Rattle.std.proofs.ByRecursion.{All-weaker, All-map}
use Rattle.std.proofs.lemmas.List.{append_assoc, append-nil, length-append, length-map}
use Rattle.std.proofs.lemmas.Bool.{le-ltb, eq-eqb}
use Rattle.std.specs.List.{flat_map, AllByRecursion}

-- a code always fits its field
all_codes : (cs : List ℕ) → AllByRecursion (λ c. Unit {0}) cs
all_codes [] = tt
all_codes (c ∷ cs) = (tt, all_codes cs)

-- the two bytes of a number, together
halves : (n : ℕ) → n / 256 * 256 + n % 256 ≡ n
halves n = omega arith

-- The encoding of a well-formed book, field by field, each behind what stands before it.
module _ (b : BookModel) (w : WellFormed b) where
  -- the parts of the encoding
  abbrev front : List ℕ
  front = two (length b.levels) ++ (two (length b.code) ++ two b.clock)

  abbrev levels_part : List ℕ
  levels_part = flat_map two b.levels

  abbrev starts_part : List ℕ
  starts_part = flat_map four b.starts

  abbrev codes_part : List ℕ
  codes_part = map code_of b.code

  abbrev arguments_part : List ℕ
  arguments_part = flat_map argument_bytes b.code

  -- how long they are
  length-levels : length levels_part ≡ 2 * length b.levels
  length-levels = length-joined word_field b.levels

  length-starts : length starts_part ≡ 4 * length b.levels
  length-starts = length-joined long_field b.starts ∙ ap (λ k. 4 * k) w.starts_too

  length-codes : length codes_part ≡ length b.code
  length-codes = length-map b.code code_of

  length-arguments : length arguments_part ≡ 4 * length b.code
  length-arguments =
      ap length (arguments_joined b.code)
      ∙ length-joined long_field (map argument_of b.code)
      ∙ ap (λ k. 4 * k) (length-map b.code argument_of)

  -- and the whole is as long as its sizes ask for
  length-encode : length (encode b) ≡ 6 + 6 * length b.levels + 5 * length b.code
  length-encode =
      let l₁ = length-append levels_part (starts_part ++ (codes_part ++ arguments_part)) in
      let l₂ = length-append starts_part (codes_part ++ arguments_part) in
      let l₃ = length-append codes_part arguments_part in
      let k₁ = length-levels in
      let k₂ = length-starts in
      let k₃ = length-codes in
      let k₄ = length-arguments in
      omega arith

  -- the encoding, split in front of the starts, of the codes and of the arguments
  at_starts : encode b ≡ (front ++ levels_part) ++ (starts_part ++ (codes_part ++ arguments_part))
  at_starts = sym (append_assoc front levels_part (starts_part ++ (codes_part ++ arguments_part)))

  at_codes : encode b ≡ ((front ++ levels_part) ++ starts_part) ++ (codes_part ++ arguments_part)
  at_codes = at_starts ∙ sym (append_assoc (front ++ levels_part) starts_part (codes_part ++ arguments_part))

  at_arguments : encode b ≡ (((front ++ levels_part) ++ starts_part) ++ codes_part) ++ arguments_part
  at_arguments = at_codes ∙ sym (append_assoc ((front ++ levels_part) ++ starts_part) codes_part arguments_part)

  -- the places where these begin
  place_starts : length (front ++ levels_part) ≡ 6 + 2 * length b.levels
  place_starts = length-append front levels_part ∙ ap (λ k. 6 + k) length-levels

  place_codes : length ((front ++ levels_part) ++ starts_part) ≡ 6 + 6 * length b.levels
  place_codes =
      let k₁ = place_starts in
      let k₂ = length-starts in
      length-append (front ++ levels_part) starts_part ∙ omega arith

  place_arguments : length (((front ++ levels_part) ++ starts_part) ++ codes_part) ≡ 6 + 6 * length b.levels + length b.code
  place_arguments = length-append ((front ++ levels_part) ++ starts_part) codes_part ∙ ap₂ (λ x y. x + y) place_codes length-codes

  -- each part is read back
  levels_back : words (length b.levels) 6 (encode b) ≡ b.levels
  levels_back = fields_written word_field b.levels w.levels_fit front (starts_part ++ (codes_part ++ arguments_part)) 6 refl

  starts_back : longs (length b.levels) (6 + 2 * length b.levels) (encode b) ≡ b.starts
  starts_back =
      ap₂ (λ n bs. fields 4 long n (6 + 2 * length b.levels) bs) (sym w.starts_too) at_starts
      ∙ fields_written long_field b.starts w.starts_fit (front ++ levels_part) (codes_part ++ arguments_part) (6 + 2 * length b.levels) place_starts

  codes_back : fields 1 code_at (length b.code) (6 + 6 * length b.levels) (encode b) ≡ map code_of b.code
  codes_back =
      ap₂ (λ n bs. fields 1 code_at n (6 + 6 * length b.levels) bs) (sym length-codes)
      (at_codes ∙ ap (λ l. ((front ++ levels_part) ++ starts_part) ++ (l ++ arguments_part)) (codes_joined b.code))
      ∙ fields_written code_field codes_part (all_codes codes_part) ((front ++ levels_part) ++ starts_part) arguments_part (6 + 6 * length b.levels) place_codes

  arguments_back : fields 4 long (length b.code) (6 + 6 * length b.levels + length b.code) (encode b) ≡ map argument_of b.code
  arguments_back =
      let pre = ((front ++ levels_part) ++ starts_part) ++ codes_part in
      ap₂ (λ n bs. fields 4 long n (6 + 6 * length b.levels + length b.code) bs) (sym (length-map b.code argument_of))
      (at_arguments ∙ ap (λ l. pre ++ l) (arguments_joined b.code ∙ sym (append-nil (flat_map four (map argument_of b.code)))))
      ∙ fields_written long_field (map argument_of b.code) (All-map (SFits w32) argument_of b.code w.arguments_fit) pre [] (6 + 6 * length b.levels + length b.code) place_arguments

  raws_back : raws (length b.code) (6 + 6 * length b.levels) (6 + 6 * length b.levels + length b.code) (encode b) ≡ map raw b.code
  raws_back =
      let nc = length b.code in
      let at = 6 + 6 * length b.levels in
      raws_same (raws nc at (at + nc) (encode b)) (map raw b.code)
      (raws_codes nc at (at + nc) (encode b) ∙ codes_back ∙ sym (raw_codes b.code))
      (raws_arguments nc at (at + nc) (encode b) ∙ arguments_back ∙ sym (raw_arguments b.code))

  -- and the code passes, since its events are formed and light
  code_back : read_code (length b.levels) (length b.code) (6 + 6 * length b.levels) (encode b) ≡ Ok b.code
  code_back =
      let nv = length b.levels in
      let es = w.program in
      let formed = all_formed nv es w.events_formed in
      let lights = All-weaker (λ e. EventFormed nv e) (λ e. event_weight e ≤ 100000) (λ e f. f.light) es w.events_formed in
      ap (λ rs. finished (scan nv 0 0 [] rs)) raws_back
      ∙ subst (λ is. finished (scan nv 0 0 [] (map raw is)) ≡ Ok is) (sym w.code_is) (whole_passes nv es formed lights)

  -- each test passes, and each field is read back
  pub reads_back : reading (encode b) ≡ Ok b
  reads_back =
      let bs = encode b in
      let nv = length b.levels in
      let nc = length b.code in
      let size = length-encode in
      let long_enough : 6 ≤ length bs = omega arith in
      rw (
        le-ltb (length bs) 6 long_enough,
        halves nv,
        halves nc,
        le-ltb 32 nv w.figures,
        le-ltb 256 nc w.instructions,
        eq-eqb (length bs) (6 + 6 * nv + 5 * nc) size,
      )
      (λ i. bound (halves b.clock i) (levels_back i) (starts_back i) (code_back i))
