use Rattle.std.proofs.Common.{◌≡◌, ◌<◌, length, Some, sym, ap, ◌∙◌, arith, rules}
use Rattle.book.specs.Looks.{matching_else}
use Rattle.machine.proofs.jumps.jump_from.Goals as goal
use Rattle.machine.proofs.jumps.jump_from.Goals.{In-Some}
use Rattle.machine.proofs.Within.{matching_within}

inside : (c : In-Some) → c.in-Some.other < length c.args.code.now
inside c =
    let at : matching_else c.args.code.now c.args.place ≡ Some c.in-Some.other = ap (matching_else c.args.code.now) (sym c.new-cursor.ensures) ∙ sym c.in-Some.ensures.found in
    matching_within c.args.code.now c.args.place c.in-Some.other (omega arith) at

pub overflow_add-result : goal.overflow_add-result
overflow_add-result c = let w = inside c in search rules

pub returns-in-Some-clause-within : goal.returns-in-Some-clause-within
returns-in-Some-clause-within c = omega (arith, inside (goal.at.returns-in-Some-clause-within c).In-Some)
