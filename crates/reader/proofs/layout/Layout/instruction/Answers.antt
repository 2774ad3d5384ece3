use Rattle.std.proofs.Common.{◌≡◌, ◌+◌, ◌*◌, Some, sym, ap, ◌∙◌, rules, slice_index}
use Rattle.reader.proofs.Places.{placed_fault}
use Rattle.reader.proofs.layout.Layout.instruction.Goals as goal
use Rattle.reader.specs.Layouts.{codes_at}
use Rattle.book.specs.Codes.{decoded}
use Rattle.book.specs.Reads.{long}
use Rattle.stack.specs.Stacks.{held}
use Rattle.std.proofs.lemmas.Result.{err_from_is_err_and}
use Rattle.std.specs.Result.{result_err, result_ok}

pub returns-in_err-check : goal.returns-in_err-check
returns-in_err-check c =
    let l = c.args.self.now in
    let s = c.args.scan.now in
    let at = codes_at l.figures in
    let i = c.in_ok-instruction.instruction in
    let p = err_from_is_err_and c.from_residual-in_err-check.result c.from_residual-in_err-check.ensures.1 in
    let ok = c.ok_or.ensures.ok_part ∙ ap result_ok c.in_ok-instruction.was in
    let found : decoded l.figures (slice_index l.bytes.now (at + c.args.place)) (long l.bytes.now (at + l.count + 4 * c.args.place)) ≡ Some i = search rules in
    let fault = sym c.check.ensures ∙ ap result_err c.in_err-check.was in
    rw (p.1, p.2) (placed_fault c.args.place s.height (held s.blocks) i _ c.in_err-check.field-0.0 found fault)
