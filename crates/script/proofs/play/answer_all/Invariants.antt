use Rattle.std.proofs.Common.{◌≡◌, ℕ, List, ◌++◌, map, string_bytes}
use Rattle.script.specs.Consoles.{console_of}
use Rattle.script.specs.Scripts.{answers}
use Rattle.script.proofs.play.answer_all.Given as goal

-- whatever lines come after these, the text so far stands before what they are answered
abbrev pub invariant-loop-line : goal.invariant-loop-line
invariant-loop-line l =
    (more : List (List ℕ)) → string_bytes l.transcript ++ answers (console_of l.console) more ≡ answers (console_of l.initial.console) (map (λ line. line.now) l.yielded ++ more)
