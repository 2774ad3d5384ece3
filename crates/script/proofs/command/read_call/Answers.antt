use Rattle.std.proofs.Common.{codes, ap, ◌∙◌, arith, rules, ltb-false, ltb-true}
use Rattle.script.proofs.command.read_call.Goals as goal
use Rattle.script.proofs.command.read_call.Goals.{in_default-via-then-words-lt1, in_default-via-else-words-lt1+then-words-lt2+in_default, in_default-via-else-words-lt1+else-words-lt2+then-words-lt3+in_default, in_default-via-else-words-lt1+else-words-lt2+else-words-lt3+then-words-lt4+in_default, in_default-via-else-words-lt1+else-words-lt2+else-words-lt3+else-words-lt4+then-words-lt5+in_default, in_default-via-else-words-lt1+else-words-lt2+else-words-lt3+else-words-lt4+else-words-lt5+then-words-lt6+in_default, in_default-via-else-words-lt1+else-words-lt2+else-words-lt3+else-words-lt4+else-words-lt5+else-words-lt6}
use Rattle.script.proofs.Spellings.{at, call_many, texts_are, unlike}
use Rattle.script.specs.Asked.{call_spelled}

-- no call has this verb and so many words
pub returns-in_default : goal.returns-in_default
returns-in_default c =
    let ws = c.args.words.now in
    let verb = at ws 0 in
    elim c.in_default.branch [
      | in_default-via-then-words-lt1 w ↦ ap call_spelled (texts_are ws 0 (omega (arith, ltb-true, ltb-false)))
      | in_default-via-else-words-lt1+then-words-lt2+in_default w ↦
          ap call_spelled (texts_are ws 1 (omega (arith, ltb-true, ltb-false)))
          ∙ unlike verb (codes "load") _ _ (search rules) ∙ unlike verb (codes "tally") _ _ (search rules)
      | in_default-via-else-words-lt1+else-words-lt2+then-words-lt3+in_default w ↦
          ap call_spelled (texts_are ws 2 (omega (arith, ltb-true, ltb-false)))
          ∙ unlike verb (codes "load") _ _ (search rules) ∙ unlike verb (codes "run") _ _ (search rules) ∙ unlike verb (codes "clock") _ _ (search rules)
      | in_default-via-else-words-lt1+else-words-lt2+else-words-lt3+then-words-lt4+in_default w ↦
          ap call_spelled (texts_are ws 3 (omega (arith, ltb-true, ltb-false)))
          ∙ unlike verb (codes "put") _ _ (search rules) ∙ unlike verb (codes "show") _ _ (search rules)
      | in_default-via-else-words-lt1+else-words-lt2+else-words-lt3+else-words-lt4+then-words-lt5+in_default w ↦
          ap call_spelled (texts_are ws 4 (omega (arith, ltb-true, ltb-false))) ∙ unlike verb (codes "open") _ _ (search rules)
      | in_default-via-else-words-lt1+else-words-lt2+else-words-lt3+else-words-lt4+else-words-lt5+then-words-lt6+in_default w ↦
          ap call_spelled (texts_are ws 5 (omega (arith, ltb-true, ltb-false)))
          ∙ unlike verb (codes "carry") _ _ (search rules) ∙ unlike verb (codes "withdraw") _ _ (search rules)
      | in_default-via-else-words-lt1+else-words-lt2+else-words-lt3+else-words-lt4+else-words-lt5+else-words-lt6 w ↦ call_many ws (omega (arith, ltb-true, ltb-false))
    ]
