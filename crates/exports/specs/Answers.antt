-- What C is answered, and what stands in its buffers then.
use Rattle.std.specs.Prelude.{◌≡◌, ℕ, ◌<◌, ◌≤◌, ◌⊎◌, List, ◌++◌, length, drop}
use Rattle.exports.specs.declared.Answer.{Answer}
use Rattle.house.specs.Rulings.{ruling}
use Rattle.line.specs.Lines.{line}
use Rattle.script.specs.Scripts.{transcript}

-- a text stands at the start of the buffer, and what is behind it stays
pub record Placed (text : List ℕ) (before : List ℕ) (answer : Answer) (after : List ℕ) : Type 0 where
  pub accepted : answer.refusal ≡ 0
  pub long : answer.length ≡ length text
  pub fits : length text ≤ length before
  pub bytes : after ≡ text ++ drop (length text) before

-- nothing is written, for a reason
pub record Refused (reason : ℕ) (before : List ℕ) (answer : Answer) (after : List ℕ) : Type 0 where
  pub because : answer.refusal ≡ reason
  pub none : answer.length ≡ 0
  pub same : after ≡ before

-- The line about a book, or no line in a buffer of fewer than 32 bytes.
pub record CheckAnswered (book : List ℕ) (before : List ℕ) (answer : Answer) (after : List ℕ) : Type 0 where
  pub room : 32 ≤ length before → Placed (line (ruling book)) before answer after
  pub short : length before < 32 → Refused 20 before answer after

-- What a script is answered, if there is room for it, and nothing if memory ran out.
pub record Copied (text : List ℕ) (before : List ℕ) (answer : Answer) (after : List ℕ) : Type 0 where
  pub room : length text ≤ length before → Placed text before answer after
  pub short : length before < length text → Refused 20 before answer after

abbrev pub ScriptAnswered : List ℕ → List ℕ → Answer → List ℕ → Type 0
ScriptAnswered script before answer after = Copied (transcript script) before answer after ⊎ Refused 255 before answer after
