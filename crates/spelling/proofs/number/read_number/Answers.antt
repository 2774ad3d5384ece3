use Rattle.std.proofs.Common.{Err, inl, lit<}
use Rattle.spelling.proofs.number.read_number.Goals as goal
use Rattle.spelling.specs.declared.fault.SpellingFault.TheVariants.{Malformed}
use Rattle.std.proofs.lemmas.Str.Pattern.{starts_char}

pub returns-then-starts_with-clause-read : goal.returns-then-starts_with-clause-read
returns-then-starts_with-clause-read g c =
    let plus = starts_char 43 c.args.word.now c.starts_with.result c.starts_with.ensures.cases (lit< tt) (lit< tt) in
    g.met.N.Number.reads c.args.word.now (Err Malformed) (inl (plus.0 c.if-starts_with.true))
