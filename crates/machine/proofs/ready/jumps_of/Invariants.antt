use Rattle.std.proofs.Common.{◌≡◌, ◌-◌, ◌++◌, length, take}
use Rattle.machine.proofs.ready.jumps_of.Given as goal
use Rattle.machine.specs.Jumps.{jumps_from}

abbrev pub invariant-loop-place : goal.invariant-loop-place
invariant-loop-place l = (length l.row ≡ 256) × (take l.place l.row ++ jumps_from l.code (length l.code - l.place) l.place ≡ jumps_from l.code (length l.code) 0)
