use Rattle.std.proofs.Common.{◌≡◌, ◌<◌, ◌⊎◌, length, codes, ap, ◌∙◌, inl, inr, arith, rules, ltb-false, ltb-true}
use Rattle.script.proofs.command.read_command.Goals as goal
use Rattle.script.proofs.command.read_command.Goals.{in_default-via-then-words-lt1, in_default-via-else-words-lt1+in_default}
use Rattle.script.proofs.Spellings.{ask_call, at}
use Rattle.script.specs.Asked.{call, call_spelled, spelled}
use Rattle.script.specs.Calls.{ask_of, call_of}
use Rattle.spelling.proofs.Readings.{reads_part}
use Rattle.spelling.specs.Numerals.{texts}
use Rattle.std.specs.Option.{option_map}

pub returns-in_err-read_call-in_default : goal.returns-in_err-read_call-in_default
returns-in_err-read_call-in_default c =
    let ws = c.args.words.now in
    let which : (length ws < 1) ⊎ ((at ws 0 ≡ codes "scale" → ⊥) × (at ws 0 ≡ codes "meter" → ⊥)) = elim c.in_default-1.branch [ in_default-via-then-words-lt1 w ↦ inl (omega (arith, ltb-true, ltb-false)) | in_default-via-else-words-lt1+in_default w ↦ inr (search rules, search rules) ] in
    reads_part ask_of (spelled (texts ws)) call_of (call_spelled (texts ws)) c.in_err-read_call-in_default.field-0.0 c.from_residual-in_err-read_call-in_default.result c.from_residual-in_err-read_call-in_default.ensures.1 c.in_err-read_call-in_default.ensures
    (λ none. ask_call ws which ∙ ap (option_map call) none)

pub returns-in_ok-read_call-in_default : goal.returns-in_ok-read_call-in_default
returns-in_ok-read_call-in_default c =
    let ws = c.args.words.now in
    let which : (length ws < 1) ⊎ ((at ws 0 ≡ codes "scale" → ⊥) × (at ws 0 ≡ codes "meter" → ⊥)) = elim c.in_default-1.branch [ in_default-via-then-words-lt1 w ↦ inl (omega (arith, ltb-true, ltb-false)) | in_default-via-else-words-lt1+in_default w ↦ inr (search rules, search rules) ] in
    ask_call ws which ∙ ap (option_map call) c.in_ok-read_call-in_default.ensures
