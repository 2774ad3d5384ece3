use Rattle.std.proofs.Common.{rules}
use Rattle.reader.proofs.Blocks.{replaced}
use Rattle.reader.proofs.scan.Scan.pass.Goals as goal
use Rattle.stack.proofs.Tops.{few}
use Rattle.stack.specs.Stacks.{held}

pub returns-in-Else : goal.returns-in-Else
returns-in-Else c =
    let s = c.args.self.now.blocks in
    let e = replaced (held s) (few s) in
    search (rules, e)
