-- The words of a line.
use Rattle.std.specs.List.{slice_split}
use Rattle.std.specs.Prelude.{ℕ, List, ◌==◌}

-- the words of a line, which has a space (byte 32) between each two
abbrev pub words_of : List ℕ → List (List ℕ)
words_of line = slice_split (λ b. b == 32) line
