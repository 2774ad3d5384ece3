-- Worked books: small books, and the verdict on each under a ladder of two ranks.
-- Figure 0 is called P and has level 0 (public), figure 1 is called S and has level 1 (private); both start at 0.
use Rattle.std.specs.Prelude.{◌≡◌, ℕ, List, [], ◌∷◌, ◌++◌, length, replicate, pos, codes, Ok, Err, Result}
use Rattle.book.specs.declared.instruction.Instruction.{Instruction}
use Rattle.book.specs.declared.instruction.Instruction.TheVariants.{Stop, Number, Figure, Operate, Store, If, Repeat, Wait, Else, End}
use Rattle.book.specs.declared.instruction.Operation.TheVariants.{Multiply}
use Rattle.book.specs.Encodings.{encode, two}
use Rattle.std.specs.List.{flat_map}
use Rattle.book.specs.Reads.{BookModel}
use Rattle.refusal.specs.declared.Refusal.{Refusal}
use Rattle.refusal.specs.Checks.{check}
use Rattle.refusal.specs.Readers.{reader}
use Rattle.flowcheck.specs.Verdicts.{verdict_of}
use Rattle.line.specs.Lines.{line}
use Rattle.meter.specs.Cards.{card}
use Rattle.meter.specs.Digits.{digit}
use Rattle.meter.specs.Meters.{MeterModel}
use Rattle.scale.specs.Ladders.{ladder}

-- a book of P and S with a clock of this level
abbrev pub with_clock : ℕ → List Instruction → BookModel
with_clock level is = record { clock = level; levels = 0 ∷ 1 ∷ []; starts = pos 0 ∷ pos 0 ∷ []; code = is }

-- a book of P and S with a public clock
abbrev pub public_clock : List Instruction → BookModel
public_clock is = with_clock 0 is

-- a meter that takes one tick for each of the codes 1 to 12
abbrev pub card_of_ones : MeterModel
card_of_ones = card (replicate 12 1)

-- the verdict on a book's bytes under a meter
abbrev pub verdict_with : MeterModel → BookModel → Result ℕ Refusal
verdict_with m b = verdict_of (ladder 2) m (encode b)

-- if S is not 0 it becomes 5, which takes 2 ticks that the missing second part does not
abbrev pub uneven_code : List Instruction
uneven_code = Figure 1 ∷ If ∷ Number (pos 5) ∷ Store 1 ∷ End ∷ Stop ∷ []

-- a book of these instructions, whose public clock would tell whether S is 0
abbrev pub uneven : BookModel
uneven = public_clock uneven_code

-- the same with a second part, which waits for 2 ticks
abbrev pub evened : BookModel
evened = public_clock (Figure 1 ∷ If ∷ Number (pos 5) ∷ Store 1 ∷ Else ∷ Wait 2 ∷ End ∷ Stop ∷ [])

-- S is copied into P
abbrev pub direct : BookModel
direct = public_clock (Figure 1 ∷ Store 0 ∷ Stop ∷ [])

-- P becomes 1 if S is not 0, else 2
abbrev pub implicit : BookModel
implicit = public_clock (Figure 1 ∷ If ∷ Number (pos 1) ∷ Store 0 ∷ Else ∷ Number (pos 2) ∷ Store 0 ∷ End ∷ Stop ∷ [])

-- S becomes S times S
abbrev pub squared : BookModel
squared = public_clock (Figure 1 ∷ Figure 1 ∷ Operate Multiply ∷ Store 1 ∷ Stop ∷ [])

-- if P is not 0 the event takes 3 ticks more
abbrev pub uneven_on_public : BookModel
uneven_on_public = public_clock (Figure 0 ∷ If ∷ Wait 3 ∷ End ∷ Stop ∷ [])

-- the same if on P, in the first part of an if on S whose parts both have the toll 5
abbrev pub uneven_inside : BookModel
uneven_inside = public_clock (Figure 1 ∷ If ∷ Figure 0 ∷ If ∷ Wait 3 ∷ End ∷ Else ∷ Wait 5 ∷ End ∷ Stop ∷ [])

-- the same, with the if on P evened out too
abbrev pub evened_inside : BookModel
evened_inside = public_clock (Figure 1 ∷ If ∷ Figure 0 ∷ If ∷ Wait 3 ∷ Else ∷ Wait 3 ∷ End ∷ Else ∷ Wait 5 ∷ End ∷ Stop ∷ [])

-- two instructions in either part of an if on S: 2 ticks against 3
abbrev pub same_length : BookModel
same_length = public_clock (Figure 1 ∷ If ∷ Number (pos 5) ∷ Store 1 ∷ Else ∷ Wait 1 ∷ Wait 2 ∷ End ∷ Stop ∷ [])

-- three instructions in one part of an if on S and one in the other: 3 ticks in both
abbrev pub same_time : BookModel
same_time = public_clock (Figure 1 ∷ If ∷ Number (pos 5) ∷ Store 1 ∷ Wait 1 ∷ Else ∷ Wait 3 ∷ End ∷ Stop ∷ [])

-- in the first part of an if on S, S is copied into P: both of the store's flows are wrong
abbrev pub twice_wrong : BookModel
twice_wrong = public_clock (Figure 1 ∷ If ∷ Figure 1 ∷ Store 0 ∷ Else ∷ Wait 2 ∷ End ∷ Stop ∷ [])

-- P becomes 1 if S is not 0: an uneven if with an implicit flow inside
abbrev pub uneven_store : BookModel
uneven_store = public_clock (Figure 1 ∷ If ∷ Number (pos 1) ∷ Store 0 ∷ End ∷ Stop ∷ [])

-- a level that a ladder of two ranks does not know, for the clock and for S
abbrev pub unknown_levels : ℕ → BookModel
unknown_levels level = record { clock = level; levels = 0 ∷ 2 ∷ []; starts = pos 0 ∷ pos 0 ∷ []; code = Stop ∷ [] }

-- an argument below 256, in four bytes
abbrev pub small : ℕ → List ℕ
small n = 0 ∷ 0 ∷ 0 ∷ n ∷ []

-- the bytes of a book without figures: these codes with these arguments
abbrev pub bare : List ℕ → List ℕ → List ℕ
bare cs zs = two 0 ++ (two (length cs) ++ (two 0 ++ (cs ++ flat_map small zs)))

-- the verdict on bytes under the card of ones
abbrev pub verdict_on_bytes : List ℕ → Result ℕ Refusal
verdict_on_bytes bs = verdict_of (ladder 2) card_of_ones bs

-- two repeats, one in the other, around a wait
abbrev pub turning : ℕ → ℕ → List Instruction
turning n m = Repeat n ∷ Repeat m ∷ Wait 0 ∷ End ∷ End ∷ []

-- The verdicts on these books.
pub record WorkedBooks : Type 0 where
  -- a private test with uneven parts is refused at the if
  pub uneven_refused : verdict_with card_of_ones uneven ≡ Err (check 11 1)
  -- evened out by a wait it is accepted with its one event, and takes 58 bytes
  pub evened_accepted : verdict_with card_of_ones evened ≡ Ok 1
  pub evened_bytes : length (encode evened) ≡ 58
  -- a private clock may show uneven parts
  pub private_clock_accepted : verdict_with card_of_ones (with_clock 1 uneven_code) ≡ Ok 1
  -- a private amount may not be stored in a public figure
  pub direct_refused : verdict_with card_of_ones direct ≡ Err (check 9 1)
  -- a private test may not decide what is stored in a public figure
  pub implicit_refused : verdict_with card_of_ones implicit ≡ Err (check 10 3)
  -- a private product is accepted where each multiply takes one tick, and refused where its time depends on the operands
  pub squared_accepted : verdict_with card_of_ones squared ≡ Ok 1
  pub squared_refused : verdict_with digit squared ≡ Err (check 8 2)
  -- six zero bytes are a book without figures and events
  pub nothing_accepted : verdict_of (ladder 2) card_of_ones (replicate 6 0) ≡ Ok 0
  -- a public test may have uneven parts, but not inside a private test, even one with equal tolls: the context counts
  pub public_accepted : verdict_with card_of_ones uneven_on_public ≡ Ok 1
  pub inside_refused : verdict_with card_of_ones uneven_inside ≡ Err (check 11 3)
  pub inside_accepted : verdict_with card_of_ones evened_inside ≡ Ok 1
  -- parts are compared by their ticks and not by their numbers of instructions
  pub length_refused : verdict_with card_of_ones same_length ≡ Err (check 11 1)
  pub time_accepted : verdict_with card_of_ones same_time ≡ Ok 1
  -- the lines of two of these verdicts
  pub refused_line : line (verdict_with card_of_ones uneven) ≡ codes "refused 11 check 1\n"
  pub accepted_line : line (verdict_with card_of_ones evened) ≡ codes "accepted 1\n"
  -- of two rules that one store breaks the smaller number counts, and an if is asked before what stands inside it
  pub smaller_first : verdict_with card_of_ones twice_wrong ≡ Err (check 9 3)
  pub if_first : verdict_with card_of_ones uneven_store ≡ Err (check 11 1)
  -- levels are asked before instructions, the clock's first
  pub clock_level_first : verdict_with card_of_ones (unknown_levels 2) ≡ Err (check 7 0)
  pub figure_level_next : verdict_with card_of_ones (unknown_levels 0) ≡ Err (check 7 2)
  -- too few bytes; then the number of figures, of instructions, and the length that both ask for
  pub five_bytes : verdict_on_bytes (replicate 5 0) ≡ Err (reader 1 0)
  pub figures_first : verdict_on_bytes (two 33 ++ (two 257 ++ two 0)) ≡ Err (reader 2 0)
  pub instructions_next : verdict_on_bytes (two 32 ++ (two 257 ++ two 0)) ≡ Err (reader 2 2)
  pub length_last : verdict_on_bytes (two 32 ++ (two 256 ++ two 0)) ≡ Err (reader 1 0)
  -- on one instruction the argument is asked before the stack, and the stack before the nesting
  pub argument_first : verdict_on_bytes (bare (10 ∷ []) (0 ∷ [])) ≡ Err (reader 3 0)
  pub stack_next : verdict_on_bytes (bare (1 ∷ 14 ∷ 16 ∷ []) (5 ∷ 0 ∷ 0 ∷ [])) ≡ Err (reader 4 1)
  pub nesting_last : verdict_on_bytes (bare (14 ∷ 16 ∷ []) (0 ∷ 0 ∷ [])) ≡ Err (reader 5 0)
  -- an earlier instruction counts before a later one, whatever their numbers
  pub earlier_counts : verdict_on_bytes (bare (15 ∷ 17 ∷ []) (0 ∷ 0 ∷ [])) ≡ Err (reader 5 0)
  -- the last stop is asked before the weights, and a weight is named at its event's first instruction
  pub stop_first : verdict_with card_of_ones (public_clock (turning 1000 1000)) ≡ Err (reader 5 5)
  pub heavy_event : verdict_with card_of_ones (public_clock (Stop ∷ (turning 1000 1000 ++ (Stop ∷ [])))) ≡ Err (reader 6 1)
  -- 98,002 is light enough and 100,002 is not; no turns weigh as one
  pub light_enough : verdict_with card_of_ones (public_clock (turning 1000 48 ++ (Stop ∷ []))) ≡ Ok 1
  pub too_heavy : verdict_with card_of_ones (public_clock (turning 1000 49 ++ (Stop ∷ []))) ≡ Err (reader 6 0)
  pub no_turns_weigh : verdict_with card_of_ones (public_clock (Repeat 0 ∷ (turning 1000 1000 ++ (End ∷ Stop ∷ [])))) ≡ Err (reader 6 0)
