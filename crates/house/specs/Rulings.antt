-- The verdict on the bytes of a book under the house's scale and meter.
use Rattle.std.specs.Prelude.{◌≡◌, ℕ, ◌≤◌, List, ◌++◌, length, replicate, Result}
use Rattle.flowcheck.specs.Verdicts.{verdict_of}
use Rattle.refusal.specs.declared.Refusal.{Refusal}
use Rattle.meter.specs.Cards.{card}
use Rattle.scale.specs.Ladders.{ladder}

-- The charges of a card of ones.
abbrev pub ones : List ℕ
ones = replicate 12 1

-- The verdict on bytes under a ladder of two ranks and a card of ones.
abbrev pub ruling : List ℕ → Result ℕ Refusal
ruling bytes = verdict_of (ladder 2) (card ones) bytes

-- So many bytes settle the verdict: more behind them do not change it.
abbrev pub Settling : ℕ → Type 0
Settling count = (bytes more : List ℕ) → count ≤ length bytes → ruling (bytes ++ more) ≡ ruling bytes
