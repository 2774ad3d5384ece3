-- The bytes of a book, what a well-formed book is, and what reading promises of both.
use Rattle.std.specs.Prelude.{◌≡◌, ℕ, ◌/◌, ◌%◌, ◌<◌, ◌≤◌, List, [], ◌∷◌, ◌++◌, map, length, ℤ, Ok, FitsSigned}
use Rattle.std.specs.Int.{w32}
use Rattle.std.proofs.Common.{of_z}
use Rattle.book.specs.Codes.{code_of, argument_of}
use Rattle.book.specs.declared.instruction.Instruction.{Instruction}
use Rattle.book.specs.Forms.{Formed}
use Rattle.book.specs.Reads.{BookModel, reading}
use Rattle.book.specs.Trees.{Code, whole, event_weight}
use Rattle.std.specs.List.{flat_map, AllByRecursion}

-- a number in two bytes, big-endian
abbrev pub two : ℕ → List ℕ
two n = n / 256 ∷ n % 256 ∷ []

-- a signed number in four bytes, big-endian, in two's complement
abbrev pub four : ℤ → List ℕ
four z = of_z w32 z / 16777216 ∷ of_z w32 z / 65536 % 256 ∷ of_z w32 z / 256 % 256 ∷ of_z w32 z % 256 ∷ []

-- the argument of an instruction in four bytes
abbrev pub argument_bytes : Instruction → List ℕ
argument_bytes i = four (argument_of i)

-- the bytes of a book: sizes, the clock's level, the figures' levels, their start amounts, the codes, the arguments
abbrev pub encode : BookModel → List ℕ
encode b =
    two (length b.levels)
    ++ (two (length b.code)
    ++ (two b.clock
    ++ (flat_map two b.levels
    ++ (flat_map four b.starts
    ++ (map code_of b.code
    ++ flat_map argument_bytes b.code)))))

-- an event of a book with nv figures: at most eight amounts and eight blocks, and at most 100,000 in weight
pub record EventFormed (nv : ℕ) (e : Code) : Type 0 where
  pub formed : Formed nv 8 0 e
  pub light : event_weight e ≤ 100000

-- a well-formed book: sizes within their limits, numbers that fit their bytes, and code made of events
pub record WellFormed (b : BookModel) : Type 0 where
  pub figures : length b.levels ≤ 32
  pub starts_too : length b.starts ≡ length b.levels
  pub instructions : length b.code ≤ 256
  pub clock_fits : b.clock < 65536
  pub levels_fit : AllByRecursion (λ l. l < 65536) b.levels
  pub starts_fit : AllByRecursion (λ z. FitsSigned w32 z) b.starts
  pub arguments_fit : AllByRecursion (λ i. FitsSigned w32 (argument_of i)) b.code
  pub program : List Code
  pub code_is : b.code ≡ whole program
  pub events_formed : AllByRecursion (λ e. EventFormed (length b.levels) e) program

-- Reading accepts exactly the encodings of well-formed books, and gives the book back.
pub record ReaderLaw : Type 0 where
  pub accepted : (bs : List ℕ) (b : BookModel) → AllByRecursion (λ x. x < 256) bs → reading bs ≡ Ok b → (bs ≡ encode b) × WellFormed b
  pub read_back : (b : BookModel) → WellFormed b → reading (encode b) ≡ Ok b
