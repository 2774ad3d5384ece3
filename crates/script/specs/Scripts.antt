-- What a script is answered.
use Rattle.std.specs.Prelude.{ℕ, cond, List, [], ◌∷◌, ◌++◌, Some, None, Option, ◌==◌}
use Rattle.script.specs.Asked.{asked}
use Rattle.script.specs.Consoles.{ConsoleModel, heeding, opened, replying_to}
use Rattle.script.specs.Lines.{line_of}
use Rattle.script.specs.Remarks.{remark}
use Rattle.script.specs.declared.reply.Reply.{Reply}
use Rattle.std.specs.List.{onto_first}

-- The lines of a script. Each ends with a line feed (byte 10), and the last may end with the script.
abbrev pub lines_of : List ℕ → List (List ℕ)
lines_of [] = []
lines_of (b ∷ bs) = cond (b == 10) ([] ∷ lines_of bs) (onto_first b (lines_of bs))

-- A remark is passed over, and every other line is answered.
abbrev pub reply : ConsoleModel → List ℕ → Option Reply
reply c line = cond (remark line) None (Some (replying_to c (asked line)))

-- the console after a line
abbrev pub after : ConsoleModel → List ℕ → ConsoleModel
after c line = cond (remark line) c (heeding c (asked line))

-- the line of a reply with its line feed, or nothing
abbrev pub printed : Option Reply → List ℕ
printed None = []
printed (Some r) = line_of r ++ (10 ∷ [])

-- what the lines are answered, one after the other
abbrev pub answers : ConsoleModel → List (List ℕ) → List ℕ
answers c [] = []
answers c (line ∷ more) = printed (reply c line) ++ answers (after c line) more

-- What a script is answered on a console of its own.
abbrev pub transcript : List ℕ → List ℕ
transcript script = answers opened (lines_of script)
