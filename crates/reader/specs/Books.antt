-- What a book in memory says.
use Rattle.std.specs.Prelude.{take, Ok, Err, Result}
use Rattle.reader.specs.declared.rulebook.Book.{Book}
use Rattle.book.specs.Reads.{BookModel}

-- the figures and instructions that are in use
abbrev pub said : Book → BookModel
said b = record { clock = b.clock; levels = take b.figures b.levels; starts = take b.figures b.starts; code = take b.count b.code }

-- what was answered of bytes, with the book as what it says
abbrev pub outcome : {E : Type 0} → Result Book E → Result BookModel E
outcome (Ok b) = Ok (said b)
outcome (Err f) = Err f
