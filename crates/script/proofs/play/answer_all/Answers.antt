use Rattle.std.proofs.Common.{eqb, [], map, string_bytes, sym, ap, ◌∙◌, rules}
use borrow.Author.Tests.{tests}
use Rattle.script.proofs.Plays.{parts_answered}
use Rattle.script.proofs.play.answer_all.Goals as goal
use Rattle.script.specs.Consoles.{console_of}
use Rattle.script.specs.Scripts.{answers}
use Rattle.std.proofs.lemmas.Iterator.Consumers.{YieldsList-end}
use Rattle.std.proofs.lemmas.Iterator.Splits.{YieldsList-from_slice_split}
use Rattle.std.proofs.lemmas.List.{append-nil}
use Rattle.std.specs.Slice.Iter.{split_callee, split_done, split_rest}

-- the lines that were taken are all parts of the script
pub returns : goal.returns
returns c =
    let script = c.args.script.now in
    let console = console_of c.args.console.now in
    let same = c.into_iter-line-iterator.ensures.into_iter_gives in
    let split = c.split-line-items.ensures in
    let all = YieldsList-end
    (YieldsList-from_slice_split _ (λ b. eqb b 10) script (ap split_rest same ∙ split.rest) (ap split_done same ∙ split.done) (ap split_callee same ∙ split.closure) (λ x b q k. search (rules, tests)))
    c.loop-line.yielded _ c.loop-line.yielded_by _ _ c.in-None.is c.next.ensures.steps in
    sym (append-nil (string_bytes c.loop-line.transcript)) ∙ c.loop-line.invariant [] ∙ ap (answers console) (append-nil (map (λ line. line.now) c.loop-line.yielded) ∙ all.0)
    ∙ parts_answered console script
