-- Bytes beyond the longest book change no verdict: the reader refuses all that are longer by their sizes alone.
use Rattle.std.proofs.Common.{◌≡◌, ℕ, ◌+◌, ◌*◌, ◌<◌, cond, eqb, ltb, List, ◌++◌, length, get_or, Err, Result, sym, ap, ◌∙◌, arith}
use Rattle.refusal.specs.declared.reader.ReaderFault.TheVariants.{Length, TooManyFigures, TooManyInstructions}
use Rattle.refusal.specs.declared.reader.ReaderFault.{ReaderFault}
use Rattle.book.specs.Reads.{BookModel, read_body, read_sized, reading, word}
use Rattle.house.specs.Rulings.{ones, Settling}
use Rattle.flowcheck.specs.Checks.{after_reading}
use Rattle.flowcheck.specs.Verdicts.{verdict_on}
use Rattle.meter.specs.Cards.{card}
use Rattle.scale.specs.Ladders.{ladder}
use Rattle.std.proofs.lemmas.List.{get_or_append_left, length-append}
use Rattle.std.proofs.lemmas.Bool.{cond-false, le-ltb}
use Rattle.std.proofs.lemmas.Bool.Decides.{nat_tests}

-- sizes within their limits call for no more than 1478 bytes
no_length : {X : Type 0} (nv nc n : ℕ) (a b c d : X) → 1478 < n → cond (ltb 32 nv) a (cond (ltb 256 nc) b (cond (eqb n (6 + 6 * nv + 5 * nc)) c d)) ≡ cond (ltb 32 nv) a (cond (ltb 256 nc) b d)
no_length nv nc n a b c d h = grind (arith, nat_tests)

-- the refusal that the sizes call for where there are too many bytes
abbrev too_long : ℕ → ℕ → Result BookModel ReaderFault
too_long nv nc = cond (ltb 32 nv) (Err TooManyFigures) (cond (ltb 256 nc) (Err TooManyInstructions) (Err Length))

reading_long : (bs : List ℕ) → 1478 < length bs → reading bs ≡ too_long (word bs 0) (word bs 2)
reading_long bs h =
    cond-false (ltb (length bs) 6) (Err Length) (read_sized (word bs 0) (word bs 2) bs) (le-ltb (length bs) 6 (omega arith))
    ∙ no_length (word bs 0) (word bs 2) (length bs) (Err TooManyFigures) (Err TooManyInstructions) (read_body (word bs 0) (word bs 2) bs) (Err Length) h

-- the first bytes are the same with more behind them
word_before : (bs more : List ℕ) (at : ℕ) → at + 1 < length bs → word (bs ++ more) at ≡ word bs at
word_before bs more at h =
    ap (λ x. x * 256 + get_or (bs ++ more) (at + 1) 0) (get_or_append_left bs more 0 at (omega arith))
    ∙ ap (λ y. get_or bs at 0 * 256 + y) (get_or_append_left bs more 0 (at + 1) h)

pub settles : (count : ℕ) → 1478 < count → Settling count
settles count over bs more most =
    let h : 1478 < length bs = omega arith in
    ap (λ r. verdict_on (after_reading (ladder 2) (card ones) r))
    (reading_long (bs ++ more) (omega (arith, length-append bs more))
    ∙ ap (λ nv. too_long nv (word (bs ++ more) 2)) (word_before bs more 0 (omega arith))
    ∙ ap (λ nc. too_long (word bs 0) nc) (word_before bs more 2 (omega arith))
    ∙ sym (reading_long bs h))
