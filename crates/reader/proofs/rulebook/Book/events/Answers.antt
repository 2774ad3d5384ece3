use Rattle.std.proofs.Common.{◌≡◌, count_by, ap, ◌∙◌, arith}
use Rattle.book.proofs.Events.{stops_sound}
use Rattle.book.specs.Reads.{is_stop}
use Rattle.reader.proofs.rulebook.Book.events.Goals as goal
use Rattle.reader.specs.Books.{said}
use Rattle.std.proofs.lemmas.List.{at_drop_all}

pub returns : goal.returns
returns c =
    let l = c.loop-instruction in
    let code = c.code-instruction-items.result.now in
    let all : l.count ≡ count_by is_stop code = omega (arith, at_drop_all (count_by is_stop) code l.instruction-index c.loop-instruction-test.false, l.invariant.left) in
    all ∙ ap (count_by is_stop) l.invariant.items ∙ stops_sound c.args.self.now.figures (said c.args.self.now).code c.args.self.now.formed
