use Rattle.std.proofs.Common.{◌+◌, get_or, drop, sym, ◌∙◌, arith}
use Rattle.book.specs.declared.instruction.Instruction.TheVariants.{Stop}
use Rattle.machine.proofs.ready.start_in.Goals as goal
use Rattle.machine.proofs.Starts.{event_here}
use Rattle.machine.specs.Events.{event_at}
use Rattle.std.proofs.lemmas.List.{at_drop_more}

pub returns-then-left-eq0 : goal.returns-then-left-eq0
returns-then-left-eq0 c =
    let l = c.loop-place in
    let code = c.args.code.now in
    let on = at_drop_more (event_at l.left l.place) code l.place Stop c.loop-place-test.true in
    sym (on ∙ event_here l.left l.place (get_or code l.place Stop) (drop (l.place + 1) code) (omega arith)) ∙ l.invariant
