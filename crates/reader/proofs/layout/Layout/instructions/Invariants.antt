use Rattle.std.proofs.Common.{◌≡◌, ◌+◌, ◌-◌, ◌*◌, [], take}
use Rattle.reader.proofs.layout.Layout.instructions.Given as goal
use Rattle.reader.specs.Layouts.{codes_at}
use Rattle.book.specs.Reads.{following, scan, raws}
use Rattle.stack.specs.Stacks.{held}

abbrev pub invariant-loop-place : goal.invariant-loop-place
invariant-loop-place l =
    let at = codes_at l.self.figures in
    following (take l.place l.instruction-items) (scan l.self.figures l.place l.scan.height (held l.scan.blocks) (raws (l.self.count - l.place) (at + l.place) (at + l.self.count + 4 * l.place) l.self.bytes.now))
    ≡ scan l.self.figures 0 0 [] (raws l.self.count at (at + l.self.count) l.self.bytes.now)
