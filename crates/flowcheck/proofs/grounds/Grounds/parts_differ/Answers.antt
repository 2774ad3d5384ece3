use Rattle.std.proofs.Common.{◌≡◌, length, Some, ap, arith}
use Rattle.reader.specs.Books.{said}
use Rattle.book.specs.Looks.{matching_else}
use Rattle.flowcheck.proofs.grounds.Grounds.parts_differ.Goals as goal
use Rattle.flowcheck.proofs.Parts.{part_tolls}

pub behind-requires-in-Some : goal.behind-requires-in-Some
behind-requires-in-Some g c =
    let b = c.args.self.now.book.now in
    let parts = part_tolls (g.M.Meter.meaning c.args.self.now.meter.now) c.laws.ensures b.figures (said b).code c.args.place b.formed c.requires in
    let found : matching_else (said b).code c.args.place ≡ Some c.in-Some.other = cc in
    omega (arith, (parts.second c.in-Some.other found).0, ap length c.code-code.ensures)
