use Rattle.std.proofs.Common.{◌≡◌, drop}
use Rattle.machine.proofs.ready.start_in.Given as goal
use Rattle.machine.specs.Events.{event_at}

abbrev pub invariant-loop-place : goal.invariant-loop-place
invariant-loop-place l = event_at l.left l.place (drop l.place l.code) ≡ event_at l.event 0 l.code
