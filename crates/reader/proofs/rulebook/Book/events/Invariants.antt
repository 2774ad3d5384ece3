use Rattle.std.proofs.Common.{◌≡◌, ◌+◌, ◌≤◌, count_by, drop}
use Rattle.reader.specs.Books.{said}
use Rattle.book.specs.Reads.{is_stop}
use Rattle.reader.proofs.rulebook.Book.events.Given as goal

-- the stops so far, and those that are left
abbrev pub invariant-loop-instruction : goal.invariant-loop-instruction
invariant-loop-instruction l = record {
  few : l.count ≤ l.instruction-index;
  items : l.instruction-items ≡ (said l.self).code;
  left : l.count + count_by is_stop (drop l.instruction-index l.instruction-items) ≡ count_by is_stop l.instruction-items;
}
