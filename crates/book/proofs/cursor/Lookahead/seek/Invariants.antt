use Rattle.std.proofs.Common.{◌≡◌, ◌-◌, ◌≤◌, length, drop}
use Rattle.book.proofs.cursor.Lookahead.seek.Given as goal
use Rattle.book.specs.Looks.{seek}

abbrev pub invariant-loop-instruction : goal.invariant-loop-instruction
invariant-loop-instruction l =
    (l.depth ≤ l.self.cursor.now.place)
    × (seek l.depth l.self.cursor.now.place (drop l.self.cursor.now.place l.code) ≡ seek 0 l.initial.self.cursor.now.place (drop l.initial.self.cursor.now.place l.code))
    × (l.self.start ≡ l.initial.self.start)
    × (l.self.cursor.ghost_name ≡ l.initial.self.cursor.ghost_name)

abbrev pub decreases-loop-instruction : goal.decreases-loop-instruction
decreases-loop-instruction l = length l.code - l.self.cursor.now.place
