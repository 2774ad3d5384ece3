use Rattle.std.proofs.Common.{◌+◌, ◌-◌, drop, sym, refl, ap, ◌∙◌, arith, w32, rules}
use Rattle.reader.specs.Books.{said}
use Rattle.book.specs.declared.instruction.Instruction.TheVariants.{Number, Figure, Clock, Operate, Store, Repeat, Wait}
use Rattle.book.specs.Trees.{here, parse}
use Rattle.machine.proofs.Going.{at_last, at_stop, on_else, on_end, on_left_out, on_plain, on_repeat, on_taken}
use Rattle.machine.proofs.program.Program.+run_from_take_turns.Goals as goal
use Rattle.machine.proofs.Turns.{times_more}
use Rattle.steps.specs.Machines.{Machine, emptied, perform}
use Rattle.steps.specs.Runs.{exec, times}
use Rattle.steps.specs.Seen.{machine_of}
use Rattle.std.proofs.lemmas.Int.{to_z-of_z}
use Rattle.std.proofs.lemmas.Bool.{not-false, not-true}

pub run_from-loop-place-preserved-in-Number : goal.run_from-loop-place-preserved-in-Number
run_from-loop-place-preserved-in-Number g t c = on_plain c.code-code.ensures c.loop-place.invariant (Number c.in-Number.number) (λ a. refl) c.loop-place-test.true c.in-Number.is (c.number.ensures ∙ ap (λ z. perform (g.M.Meter.meaning c.args.meter.now) (Number z) (machine_of c.loop-place.machine)) (to_z-of_z w32 _ (search rules)))

pub run_from-loop-place-preserved-in-Figure : goal.run_from-loop-place-preserved-in-Figure
run_from-loop-place-preserved-in-Figure g t c = on_plain c.code-code.ensures c.loop-place.invariant (Figure c.in-Figure.figure) (λ a. refl) c.loop-place-test.true c.in-Figure.is c.figure.ensures

pub run_from-loop-place-preserved-in-Clock : goal.run_from-loop-place-preserved-in-Clock
run_from-loop-place-preserved-in-Clock g t c = on_plain c.code-code.ensures c.loop-place.invariant Clock (λ a. refl) c.loop-place-test.true c.in-Clock.is c.read_clock.ensures

pub run_from-loop-place-preserved-in-Operate : goal.run_from-loop-place-preserved-in-Operate
run_from-loop-place-preserved-in-Operate g t c = on_plain c.code-code.ensures c.loop-place.invariant (Operate c.in-Operate.operation) (λ a. refl) c.loop-place-test.true c.in-Operate.is c.operate.ensures

pub run_from-loop-place-preserved-in-Store : goal.run_from-loop-place-preserved-in-Store
run_from-loop-place-preserved-in-Store g t c = on_plain c.code-code.ensures c.loop-place.invariant (Store c.in-Store.figure) (λ a. refl) c.loop-place-test.true c.in-Store.is c.store.ensures

pub run_from-loop-place-preserved-in-Wait : goal.run_from-loop-place-preserved-in-Wait
run_from-loop-place-preserved-in-Wait g t c = on_plain c.code-code.ensures c.loop-place.invariant (Wait c.in-Wait.ticks) (λ a. refl) c.loop-place-test.true c.in-Wait.is (c.wait.ensures (g.M.Meter.meaning c.args.meter.now))

pub run_from-loop-place-preserved-then-test : goal.run_from-loop-place-preserved-then-test
run_from-loop-place-preserved-then-test g t c = on_taken c.code-code.ensures c.loop-place.invariant c.loop-place-test.true c.in-If.is (not-true _ (sym c.if-test.ensures.taken)) c.test.ensures.after

pub run_from-loop-place-smaller-else-test : goal.run_from-loop-place-smaller-else-test
run_from-loop-place-smaller-else-test g t c = omega (arith, (on_left_out c.code-code.ensures c.loop-place.invariant c.loop-place-test.true c.in-If.is (not-false _ (sym c.if-test.ensures.taken)) c.jump-place.ensures.to c.test.ensures.after).1)

pub run_from-loop-place-preserved-else-test : goal.run_from-loop-place-preserved-else-test
run_from-loop-place-preserved-else-test g t c = (on_left_out c.code-code.ensures c.loop-place.invariant c.loop-place-test.true c.in-If.is (not-false _ (sym c.if-test.ensures.taken)) c.jump-place.ensures.to c.test.ensures.after).0

pub run_from-loop-place-smaller-in-Repeat : goal.run_from-loop-place-smaller-in-Repeat
run_from-loop-place-smaller-in-Repeat g t c = omega (arith, (on_repeat c.code-code.ensures c.loop-place.invariant c.in-Repeat.count c.loop-place-test.true c.in-Repeat.is c.jump-place-in-Repeat.ensures.to (c.leave.ensures ∙ ap emptied c.take_turns.ensures)).1)

pub run_from-loop-place-preserved-in-Repeat : goal.run_from-loop-place-preserved-in-Repeat
run_from-loop-place-preserved-in-Repeat g t c = (on_repeat c.code-code.ensures c.loop-place.invariant c.in-Repeat.count c.loop-place-test.true c.in-Repeat.is c.jump-place-in-Repeat.ensures.to (c.leave.ensures ∙ ap emptied c.take_turns.ensures)).0

pub run_from-loop-place-smaller-in-Else : goal.run_from-loop-place-smaller-in-Else
run_from-loop-place-smaller-in-Else g t c = omega (arith, (on_else c.code-code.ensures c.loop-place.invariant c.loop-place-test.true c.in-Else.is c.jump-place-in-Else.ensures.to).1)

pub run_from-loop-place-preserved-in-Else : goal.run_from-loop-place-preserved-in-Else
run_from-loop-place-preserved-in-Else g t c = (on_else c.code-code.ensures c.loop-place.invariant c.loop-place-test.true c.in-Else.is c.jump-place-in-Else.ensures.to).0

pub run_from-loop-place-preserved : goal.run_from-loop-place-preserved
run_from-loop-place-preserved g t c = on_end c.code-code.ensures c.loop-place.invariant c.loop-place-test.true c.in-End.is (omega arith) c.leave-in-End.ensures

pub run_from-returns-in-Stop : goal.run_from-returns-in-Stop
run_from-returns-in-Stop g t c = at_stop c.code-code.ensures c.loop-place.invariant c.loop-place-test.true c.in-Stop.is

pub run_from-returns : goal.run_from-returns
run_from-returns g t c = at_last c.code-code.ensures c.loop-place.invariant c.loop-place-test.false

pub take_turns-loop-preserved : goal.take_turns-loop-preserved
take_turns-loop-preserved g t c =
    let m = g.M.Meter.meaning c.args.meter.now in
    let inside = here (parse (drop c.args.from (said c.args.self.now.book).code)) in
    let step : Machine → Machine = λ u. exec m inside (perform m (Repeat c.args.count) u) in
    let l = c.loop in
    let one = c.run_from.ensures ∙ ap (exec m inside) c.turn.ensures in
    ap (times (c.args.count - (l.counter + 1)) step) one ∙ sym (times_more c.args.count l.counter step (machine_of l.machine) (omega arith)) ∙ l.invariant
