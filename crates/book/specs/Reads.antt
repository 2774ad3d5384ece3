-- What reading a list of bytes answers: a book, or the reader's fault.
use Rattle.std.specs.Prelude.{◌≡◌, ℕ, zero, suc, ◌+◌, ◌-◌, ◌*◌, Bool, true, false, cond, List, [], ◌∷◌, ◌++◌, map, length, take, ℤ, is_ok, Some, None, Ok, Err, Option, Result, ◌==◌, nat_lt, slice_index}
use Rattle.std.specs.Int.{w32}
use Rattle.std.proofs.Common.{to_z}
use Rattle.book.specs.Codes.{decoded, code_of, argument_of}
use Rattle.refusal.specs.declared.reader.ReaderFault.{ReaderFault}
use Rattle.refusal.specs.declared.reader.ReaderFault.TheVariants.{Length, TooManyFigures, TooManyInstructions, Argument, Height, Nesting, Weight}
use Rattle.book.specs.declared.instruction.Instruction.{Instruction}
use Rattle.book.specs.declared.instruction.Instruction.TheVariants.{Stop, Number, Figure, Clock, Operate, Store, If, Repeat, Wait, Else, End}
use Rattle.book.specs.declared.block.Block.{Block}
use Rattle.book.specs.declared.block.Block.TheVariants.{FirstPart, SecondPart, Turns}
use Rattle.book.specs.Trees.{Code, flat, events, event_weight}

-- what a book says: the clock's level, the figures' levels and start amounts, and the instructions
pub record BookModel : Type 0 where
  pub clock : ℕ
  pub levels : List ℕ
  pub starts : List ℤ
  pub code : List Instruction

-- the number of two bytes, big-endian, at a place
abbrev pub word : List ℕ → ℕ → ℕ
word bs at = slice_index bs at * 256 + slice_index bs (at + 1)

-- the signed number of four bytes, big-endian, at a place
abbrev pub long : List ℕ → ℕ → ℤ
long bs at = to_z w32 (slice_index bs at * 16777216 + slice_index bs (at + 1) * 65536 + slice_index bs (at + 2) * 256 + slice_index bs (at + 3))

-- n fields of one size from a place on, each read in the same way
module _ {X : Type 0} (size : ℕ) (read : List ℕ → ℕ → X) where
  abbrev pub fields : ℕ → ℕ → List ℕ → List X
  fields zero at bs = []
  fields (suc n) at bs = read bs at ∷ fields n (at + size) bs

-- n numbers of two bytes from a place on
abbrev pub words : ℕ → ℕ → List ℕ → List ℕ
words n at bs = fields 2 word n at bs

-- n numbers of four bytes from a place on
abbrev pub longs : ℕ → ℕ → List ℕ → List ℤ
longs n at bs = fields 4 long n at bs

-- an instruction before it is decoded
pub record Raw : Type 0 where
  pub code : ℕ
  pub argument : ℤ

-- an instruction as it stands in the bytes
abbrev pub raw : Instruction → Raw
raw i = record { code = code_of i; argument = argument_of i }

-- n codes from one place on, with n arguments from another
abbrev pub raws : ℕ → ℕ → ℕ → List ℕ → List Raw
raws zero at from bs = []
raws (suc n) at from bs = record { code = slice_index bs at; argument = long bs from } ∷ raws n (at + 1) (from + 4) bs

-- whether an instruction may stand where h amounts are on the stack
abbrev pub fits_height : Instruction → ℕ → Bool
fits_height (Number z) h = nat_lt h 8
fits_height (Figure v) h = nat_lt h 8
fits_height Clock h = nat_lt h 8
fits_height (Operate o) h = nat_lt 1 h
fits_height (Store v) h = h == 1
fits_height If h = h == 1
fits_height (Repeat n) h = h == 0
fits_height (Wait n) h = h == 0
fits_height Else h = h == 0
fits_height End h = h == 0
fits_height Stop h = h == 0

-- how many amounts are on the stack after it
abbrev pub height_after : Instruction → ℕ → ℕ
height_after (Number z) h = h + 1
height_after (Figure v) h = h + 1
height_after Clock h = h + 1
height_after (Operate o) h = h - 1
height_after (Store v) h = 0
height_after If h = 0
height_after (Repeat n) h = 0
height_after (Wait n) h = 0
height_after Else h = 0
height_after End h = 0
height_after Stop h = 0

-- whether the innermost open block is the first part of an if
abbrev pub in_first : List Block → Bool
in_first [] = false
in_first (FirstPart ∷ bs) = true
in_first (SecondPart ∷ bs) = false
in_first (Turns ∷ bs) = false

-- whether an instruction may stand where these blocks are open, the innermost first
abbrev pub fits_nesting : Instruction → List Block → Bool
fits_nesting (Number z) bs = true
fits_nesting (Figure v) bs = true
fits_nesting Clock bs = true
fits_nesting (Operate o) bs = true
fits_nesting (Store v) bs = true
fits_nesting If bs = nat_lt (length bs) 8
fits_nesting (Repeat n) bs = nat_lt (length bs) 8
fits_nesting (Wait n) bs = true
fits_nesting Else bs = in_first bs
fits_nesting End bs = nat_lt 0 (length bs)
fits_nesting Stop bs = length bs == 0

-- the blocks without the innermost one
abbrev pub outer : List Block → List Block
outer [] = []
outer (b ∷ bs) = bs

-- the blocks that are open after it
abbrev pub blocks_after : Instruction → List Block → List Block
blocks_after (Number z) bs = bs
blocks_after (Figure v) bs = bs
blocks_after Clock bs = bs
blocks_after (Operate o) bs = bs
blocks_after (Store v) bs = bs
blocks_after If bs = FirstPart ∷ bs
blocks_after (Repeat n) bs = Turns ∷ bs
blocks_after (Wait n) bs = bs
blocks_after Else bs = SecondPart ∷ outer bs
blocks_after End bs = outer bs
blocks_after Stop bs = bs

-- the fault of an instruction at place p, if it has one
abbrev pub step_fault : ℕ → ℕ → List Block → Instruction → Option ReaderFault
step_fault p h bs i = cond (fits_height i h) (cond (fits_nesting i bs) None (Some (Nesting p))) (Some (Height p))

-- one instruction in front of what a scan of the rest answers
abbrev pub onto : Instruction → Result (List Instruction) ReaderFault → Result (List Instruction) ReaderFault
onto i (Ok is) = Ok (i ∷ is)
onto i (Err f) = Err f

-- a decoded instruction at place p, and what a scan of the rest answers
abbrev pub placed : ℕ → ℕ → List Block → Option Instruction → (Instruction → Result (List Instruction) ReaderFault) → Result (List Instruction) ReaderFault
placed p h bs None next = Err (Argument p)
placed p h bs (Some i) next = cond (fits_height i h) (cond (fits_nesting i bs) (onto i (next i)) (Err (Nesting p))) (Err (Height p))

-- the instructions, from place p on, where h amounts are on the stack and these blocks are open; or the first fault
abbrev pub scan : ℕ → ℕ → ℕ → List Block → List Raw → Result (List Instruction) ReaderFault
scan nv p h bs [] = Ok []
scan nv p h bs (r ∷ rs) = placed p h bs (decoded nv r.code r.argument) (λ i. scan nv (p + 1) (height_after i h) (blocks_after i bs) rs)

-- what taking one instruction at place p answers, and the height and the blocks it leaves, whatever is scanned next
abbrev pub Placed : ℕ → ℕ → ℤ → ℕ → ℕ → List Block → Result Instruction ReaderFault → ℕ → List Block → Type 0
Placed nv c z p h bs (Ok i) height blocks =
    ((next : Instruction → Result (List Instruction) ReaderFault) → placed p h bs (decoded nv c z) next ≡ onto i (next i))
    × ((height ≡ height_after i h) × (blocks ≡ blocks_after i bs))
Placed nv c z p h bs (Err f) height blocks =
    (next : Instruction → Result (List Instruction) ReaderFault) → placed p h bs (decoded nv c z) next ≡ Err f

-- the instructions in the first n places of a row
abbrev pub first_of : ℕ → Result (List Instruction) ReaderFault → Result (List Instruction) ReaderFault
first_of n (Ok row) = Ok (take n row)
first_of n (Err f) = Err f

-- instructions that were scanned before, and what a scan of the rest answers
abbrev pub following : List Instruction → Result (List Instruction) ReaderFault → Result (List Instruction) ReaderFault
following before (Ok is) = Ok (before ++ is)
following before (Err f) = Err f

-- whether an instruction is a stop
abbrev pub is_stop : Instruction → Bool
is_stop (Number z) = false
is_stop (Figure v) = false
is_stop Clock = false
is_stop (Operate o) = false
is_stop (Store v) = false
is_stop If = false
is_stop (Repeat n) = false
is_stop (Wait n) = false
is_stop Else = false
is_stop End = false
is_stop Stop = true

-- whether the last instruction, if there is one, is a stop
abbrev pub stops_last : List Instruction → Bool
stops_last [] = true
stops_last (i ∷ []) = is_stop i
stops_last (i ∷ j ∷ is) = stops_last (j ∷ is)

-- the place of the first event that weighs over 100,000, where the events start at place p
abbrev pub heavy : ℕ → List Code → Option ℕ
heavy p [] = None
heavy p (e ∷ es) = cond (nat_lt 100000 (event_weight e)) (Some p) (heavy (p + (length (flat e) + 1)) es)

-- the fault of a heavy event, if there is one
abbrev pub light : Option ℕ → List Instruction → Result (List Instruction) ReaderFault
light None is = Ok is
light (Some p) is = Err (Weight p)

-- what is asked after the last instruction: that it is a stop, then that no event is heavy
abbrev pub finished : Result (List Instruction) ReaderFault → Result (List Instruction) ReaderFault
finished (Ok is) = cond (stops_last is) (light (heavy 0 (events is)) is) (Err (Nesting (length is)))
finished (Err f) = Err f

-- whether instructions, as bytes once more, pass all that is asked of code
abbrev pub sound : ℕ → List Instruction → Bool
sound nv is = is_ok (finished (scan nv 0 0 [] (map raw is)))

-- the code of nc instructions whose bytes begin at a place
abbrev pub read_code : ℕ → ℕ → ℕ → List ℕ → Result (List Instruction) ReaderFault
read_code nv nc at bs = finished (scan nv 0 0 [] (raws nc at (at + nc) bs))

-- a book with this code
abbrev pub bound : ℕ → List ℕ → List ℤ → Result (List Instruction) ReaderFault → Result BookModel ReaderFault
bound clock levels starts (Ok is) = Ok (record { clock = clock; levels = levels; starts = starts; code = is })
bound clock levels starts (Err f) = Err f

-- the book of nv figures and nc instructions
abbrev pub read_body : ℕ → ℕ → List ℕ → Result BookModel ReaderFault
read_body nv nc bs = bound (word bs 4) (words nv 6 bs) (longs nv (6 + 2 * nv) bs) (read_code nv nc (6 + 6 * nv) bs)

-- the sizes, then the length, then the code
abbrev pub read_sized : ℕ → ℕ → List ℕ → Result BookModel ReaderFault
read_sized nv nc bs =
    cond (nat_lt 32 nv) (Err TooManyFigures)
    (cond (nat_lt 256 nc) (Err TooManyInstructions)
    (cond (length bs == 6 + 6 * nv + 5 * nc) (read_body nv nc bs) (Err Length)))

-- what reading these bytes answers
abbrev pub reading : List ℕ → Result BookModel ReaderFault
reading bs = cond (nat_lt (length bs) 6) (Err Length) (read_sized (word bs 0) (word bs 2) bs)
