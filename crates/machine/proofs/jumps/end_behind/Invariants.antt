use Rattle.std.proofs.Common.{◌≡◌, ◌+◌, ◌≤◌, drop}
use Rattle.machine.proofs.jumps.end_behind.Given as goal
use Rattle.machine.specs.Jumps.{end_behind, end_from}

abbrev pub invariant-loop-passed : goal.invariant-loop-passed
invariant-loop-passed l =
    let at = l.place + 1 + l.passed in
    (l.depth ≤ l.passed) × (end_from l.depth at (drop at l.code) ≡ end_behind l.code l.place)
