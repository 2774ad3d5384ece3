use Rattle.std.proofs.Common.{rules}
use Rattle.book.proofs.Finishes.{asked_last}
use Rattle.reader.proofs.weigh.stops_last.Goals as goal

pub returns : goal.returns
returns c = asked_last c.args.code.now c.last.result c.is_none_or.result c.last.ensures.value (search rules)
