use Rattle.std.proofs.Common.{◌≡◌, [], drop}
use Rattle.flowcheck.proofs.tolls.toll_of.Given as goal
use Rattle.flowcheck.specs.Tolls.{tolled}
use Rattle.stack.specs.Stacks.{held}

abbrev pub invariant-loop-instruction : goal.invariant-loop-instruction
invariant-loop-instruction g l =
    tolled (g.M.Meter.meaning l.meter) l.toll.ticks (held l.toll.turns) (drop l.instruction-index l.code) ≡ tolled (g.M.Meter.meaning l.meter) 0 [] l.code
