use Rattle.std.proofs.Common.{◌+◌, ◌<◌, arith, length-take, rules}
use Rattle.reader.proofs.Places.{scan_on, scan_off}
use Rattle.reader.proofs.layout.Layout.instructions.Goals as goal
use Rattle.reader.specs.Layouts.{codes_at}
use Rattle.stack.specs.Stacks.{held}
use Rattle.std.proofs.lemmas.Result.{err_from_is_err_and}

pub returns-in_err-instruction-clause-items : goal.returns-in_err-instruction-clause-items
returns-in_err-instruction-clause-items c =
    let p = err_from_is_err_and c.from_residual.result c.from_residual.ensures.1 in
    let b = c.args.self.now in
    let l = c.loop-place in
    let after = c.instruction.new.scan in
    let at = codes_at b.figures in
    let within : l.place < b.count = search (rules, arith, length-take) in
    rw (p.1, p.2) (scan_off b.figures b.count at (at + b.count) b.bytes.now l.instruction-items l.place l.scan.height (held l.scan.blocks) within c.in_err-instruction.field-0.0 after.height (held after.blocks) _ c.in_err-instruction.ensures l.invariant)

pub loop-place-preserved : goal.loop-place-preserved
loop-place-preserved c =
    let b = c.args.self.now in
    let l = c.loop-place in
    let after = c.instruction.new.scan in
    let at = codes_at b.figures in
    let within : l.place < b.count = search (rules, arith, length-take) in
    scan_on b.figures b.count at (at + b.count) b.bytes.now l.instruction-items l.place l.scan.height (held l.scan.blocks) within c.in_ok-instruction.field-0 after.height (held after.blocks) _ (search rules) c.in_ok-instruction.ensures l.invariant
