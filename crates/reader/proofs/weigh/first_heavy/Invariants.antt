use Rattle.std.proofs.Common.{◌≡◌, [], drop}
use Rattle.reader.proofs.weigh.first_heavy.Given as goal
use Rattle.book.specs.Weighs.{heaviest}
use Rattle.stack.specs.Stacks.{held}

abbrev pub invariant-loop-place : goal.invariant-loop-place
invariant-loop-place l =
    heaviest l.place l.event.start l.event.total (held l.event.factors) (drop l.place l.code) ≡ heaviest 0 0 0 [] l.code
