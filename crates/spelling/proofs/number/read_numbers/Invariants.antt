use Rattle.std.proofs.Common.{◌≡◌, length, take, drop}
use Rattle.spelling.proofs.Behind.{behind}
use Rattle.spelling.proofs.number.read_numbers.Given as goal
use Rattle.spelling.specs.Numerals.{each_natural, texts}

-- the numbers so far, and behind them what the other words spell
abbrev pub invariant-loop-place : goal.invariant-loop-place
invariant-loop-place g l = record {
  words : length l.words ≡ g.row.COUNT;
  numbers : length l.numbers ≡ g.row.COUNT;
  spelled : each_natural (texts l.words) ≡ behind (take l.place l.numbers) (each_natural (texts (drop l.place l.words)));
}
