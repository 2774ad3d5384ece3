-- The number, layer and place of the reader's faults.
use Rattle.std.specs.Prelude.{ℕ}
use Rattle.refusal.specs.declared.reader.ReaderFault.{ReaderFault}
use Rattle.refusal.specs.declared.reader.ReaderFault.TheVariants.{Length, TooManyFigures, TooManyInstructions, Argument, Height, Nesting, Weight}
use Rattle.refusal.specs.declared.Layer.TheVariants.{Reader}
use Rattle.refusal.specs.declared.Refusal.{Refusal}

-- a refusal by the reader
abbrev pub reader : ℕ → ℕ → Refusal
reader n p = record { number = n; layer = Reader; place = p }

-- 1 length, 2 a size (at the byte where it stands), 3 code or argument, 4 stack, 5 nesting, 6 weight (at the event's first instruction)
abbrev pub reader_refusal : ReaderFault → Refusal
reader_refusal Length = reader 1 0
reader_refusal TooManyFigures = reader 2 0
reader_refusal TooManyInstructions = reader 2 2
reader_refusal (Argument p) = reader 3 p
reader_refusal (Height p) = reader 4 p
reader_refusal (Nesting p) = reader 5 p
reader_refusal (Weight p) = reader 6 p
