use Rattle.std.proofs.Common.{◌≡◌, [], drop}
use Rattle.reader.specs.Books.{said}
use Rattle.flowcheck.proofs.checker.check_flow.Given as goal
use Rattle.flowcheck.specs.Settings.{setting_of}
use Rattle.flowcheck.specs.Walks.{walk}
use Rattle.stack.specs.Stacks.{held}

abbrev pub invariant-loop-place : goal.invariant-loop-place
invariant-loop-place g l =
    walk (setting_of g.S.Scale.meaning g.M.Meter.meaning l.grounds) l.place (held l.walk.contexts) (held l.walk.levels) (drop l.place (said l.grounds.book.now).code)
    ≡ walk (setting_of g.S.Scale.meaning g.M.Meter.meaning l.grounds) 0 [] [] (said l.grounds.book.now).code
