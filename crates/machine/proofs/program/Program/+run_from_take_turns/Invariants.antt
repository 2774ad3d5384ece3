use Rattle.std.proofs.Common.{◌≡◌, ◌+◌, ◌-◌, ◌*◌, length, drop}
use Rattle.reader.specs.Books.{said}
use Rattle.book.specs.declared.instruction.Instruction.TheVariants.{Repeat}
use Rattle.book.specs.Trees.{here, parse}
use Rattle.machine.proofs.program.Program.+run_from_take_turns.Given as goal
use Rattle.machine.proofs.Going.{Standing}
use Rattle.steps.specs.Machines.{perform}
use Rattle.steps.specs.Runs.{exec, times}
use Rattle.steps.specs.Seen.{machine_of}

abbrev pub decreases-run_from : goal.decreases-run_from
decreases-run_from g l = 2 * (length (said l.self.now.book).code - l.from)

abbrev pub decreases-take_turns : goal.decreases-take_turns
decreases-take_turns g l = 2 * (length (said l.self.now.book).code - l.from) + 1

abbrev pub invariant-run_from-loop-place : goal.invariant-run_from-loop-place
invariant-run_from-loop-place g l =
    let code = (said l.self.book).code in
    Standing (g.M.Meter.meaning l.meter) l.self.book.figures code l.from l.ifs l.place (machine_of l.machine) (exec (g.M.Meter.meaning l.meter) (here (parse (drop l.from code))) (machine_of l.initial.machine))

abbrev pub decreases-run_from-loop-place : goal.decreases-run_from-loop-place
decreases-run_from-loop-place g l = length l.code - l.place

abbrev pub invariant-take_turns-loop : goal.invariant-take_turns-loop
invariant-take_turns-loop g l =
    times (l.count - l.counter) (λ t. exec (g.M.Meter.meaning l.meter) (here (parse (drop l.from (said l.self.book).code))) (perform (g.M.Meter.meaning l.meter) (Repeat l.count) t)) (machine_of l.machine)
    ≡ times l.count (λ t. exec (g.M.Meter.meaning l.meter) (here (parse (drop l.from (said l.self.book).code))) (perform (g.M.Meter.meaning l.meter) (Repeat l.count) t)) (machine_of l.initial.machine)
