use Rattle.std.proofs.Common.{sym, arith}
use Rattle.stack.proofs.Tops.{under_some}
use Rattle.stack.proofs.eight.Stack.under.Goals as goal

pub returns : goal.returns
returns g c = let s = c.args.self.now in sym (under_some s.items s.count c.args.above c.index-self-self.result (omega arith) (omega arith))
