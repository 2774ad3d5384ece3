use Rattle.std.proofs.Common.{◌≡◌, true, None, Option, sym, ap, ◌∙◌, subst}
use Rattle.script.proofs.command.Command.parse.Goals as goal
use Rattle.script.proofs.Splits.{ascii_all, ascii_not, surely}
use Rattle.script.specs.Asked.{Ask, ascii, asked, spelled}
use Rattle.script.specs.Calls.{ask_of}
use Rattle.script.specs.Words.{words_of}
use Rattle.spelling.specs.Numerals.{texts}
use Rattle.spelling.specs.Reads.{Reads}
use Rattle.std.proofs.lemmas.Result.{MatchResult-at_ok}
use Rattle.std.proofs.lemmas.Bool.{cond-false, cond-true}
use Rattle.std.proofs.lemmas.Str.{IsUtf8-from_ascii}

-- a byte above 127 stands in no word of a script
pub returns-then-not-is_ascii : goal.returns-then-not-is_ascii
returns-then-not-is_ascii c =
    let line = c.args.line.now in
    let high = c.if-not-is_ascii.ensures.cases in
    cond-false (ascii line) (spelled (words_of line)) None (ascii_not line high.0 high.1)

-- bytes below 128 are text
pub unwrap-requires : goal.unwrap-requires
unwrap-requires c = surely c.from_utf8.result _ _ c.from_utf8.ensures.cases (λ e h. h.0 (IsUtf8-from_ascii c.args.line.now c.if-not-is_ascii.ensures.cases))

pub returns : goal.returns
returns c =
    let line = c.args.line.now in
    let low : ascii line ≡ true = ascii_all line c.if-not-is_ascii.ensures.cases in
    let text = MatchResult-at_ok _ _ c.unwrap.result c.unwrap.ensures c.from_utf8.ensures.cases in
    let words : texts c.as_slice.result.now ≡ words_of line = ap texts c.as_slice.ensures.value ∙ c.in_ok-words.ensures ∙ ap words_of text.0 in
    let same : spelled (texts c.as_slice.result.now) ≡ asked line = ap spelled words ∙ sym (cond-true (ascii line) (spelled (words_of line)) None low) in
    subst (λ (o : Option Ask). Reads ask_of o c.read_command.result) same c.read_command.ensures
