use Rattle.std.proofs.Common.{codes, ap, ◌∙◌, arith, rules, ltb-false, ltb-true}
use Rattle.script.proofs.command.read_scale.Goals as goal
use Rattle.script.proofs.Spellings.{at, texts_are, unlike}
use Rattle.script.specs.Asked.{scale_spelled}

pub returns-in_default-2 : goal.returns-in_default-2
returns-in_default-2 c =
    let ws = c.args.words.now in
    ap scale_spelled (texts_are ws 2 (omega (arith, ltb-true, ltb-false)))
    ∙ unlike (at ws 0) (codes "ladder") _ _ (search rules) ∙ unlike (at ws 0) (codes "departments") _ _ (search rules)
