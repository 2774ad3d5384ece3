use Rattle.std.proofs.Common.{◌≡◌, ◌+◌, ◌-◌, ◌*◌, ◌++◌, take}
use Rattle.book.specs.Reads.{fields}
use Rattle.reader.proofs.fields.row.Given as goal

abbrev pub invariant-loop-index : goal.invariant-loop-index
invariant-loop-index g l =
    let F = g.T.Field in
    take l.index l.number-items ++ fields F.WIDTH F.stands (l.count - l.index) (l.at + F.WIDTH * l.index) l.bytes ≡ fields F.WIDTH F.stands l.count l.at l.bytes
