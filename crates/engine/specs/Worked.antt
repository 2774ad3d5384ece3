-- Worked examples: the verdicts on small books, and what an engine answers when it runs them, under a ladder of two ranks.
-- Figure 0 is called P and has level 0 (public), figure 1 is called S and has level 1 (private); both start at 0.
use Rattle.std.specs.Prelude.{◌≡◌, ℕ, true, false, List, [], ◌∷◌, replicate, ℤ, pos, negsuc, Some, None}
use Rattle.book.specs.declared.instruction.Instruction.TheVariants.{Stop, Repeat, Wait, End}
use Rattle.book.specs.declared.instruction.Operation.TheVariants.{Multiply, Divide}
use Rattle.book.specs.Encodings.{encode}
use Rattle.book.specs.Reads.{BookModel}
use Rattle.flowcheck.specs.Worked.{WorkedBooks, card_of_ones, evened, public_clock, squared, uneven_code, with_clock}
use Rattle.engine.specs.Calls.{answer, next}
use Rattle.refusal.specs.declared.check.CheckFault.TheVariants.{Reader}
use Rattle.refusal.specs.declared.engine.EngineFault.TheVariants.{Check, Hidden, HiddenClock, NoBook, NoSuch, NotTheSlip, SameFigure, SlipOut, TooManyOpenings, UnknownLevel}
use Rattle.refusal.specs.declared.reader.ReaderFault.TheVariants.{Length}
use Rattle.refusal.specs.Engines.{engine, engine_refusal}
use Rattle.engine.specs.Models.{Answer, refused, loaded, accepted, amount, time, slip, counts, Call, load, put, run, show, clock, open_slip, carry, withdraw, tally, EngineModel, Paper, fresh, ask_openings}
use Rattle.engine.specs.Promises.{Pairs, transcript}
use Rattle.steps.specs.Amounts.{operate}
use Rattle.meter.specs.Cards.{card}
use Rattle.meter.specs.Digits.{digit}
use Rattle.meter.specs.Meters.{MeterModel}
use Rattle.scale.specs.Ladders.{ladder}
use Rattle.scale.specs.Sets.{departments}
use Rattle.steps.specs.Machines.{later, reading}

-- what an engine answers to a list of calls, call by call
abbrev pub answers_of : MeterModel → EngineModel → List Call → List Answer
answers_of m e [] = []
answers_of m e (c ∷ cs) = answer (ladder 2) m e c ∷ answers_of m (next (ladder 2) m e c) cs

-- what a fresh engine answers to a list of calls
abbrev pub answers : MeterModel → List Call → List Answer
answers m cs = answers_of m fresh cs

-- a book is loaded, an amount is put into S, the event is run, and the clock is shown to a level
abbrev pub timed : BookModel → ℤ → ℕ → List Call
timed b a l = load (encode b) ∷ put 1 a ∷ run 0 ∷ clock l ∷ []

-- the answers where all of that is accepted and some ticks have passed
abbrev pub taking : ℕ → List Answer
taking t = loaded 1 ∷ accepted ∷ accepted ∷ time t ∷ []

-- S becomes 5 if it is not 0, under a private clock
abbrev pub uneven_private : BookModel
uneven_private = with_clock 1 uneven_code

-- S becomes S times S, under a private clock
abbrev pub squared_private : BookModel
squared_private = with_clock 1 squared.code

-- as often as n says it waits for 2 ticks
abbrev pub waiting : ℕ → BookModel
waiting n = public_clock (Repeat n ∷ Wait 2 ∷ End ∷ Stop ∷ [])

-- the first slip that is opened: a holder of level 1 may carry S into P
abbrev pub release : Paper
release = record { holder = 1; from = 1; to = 0; number = 1 }

-- a book without events whose figures 1 and 2 are private
abbrev pub two_secrets : BookModel
two_secrets = record { clock = 0; levels = 0 ∷ 1 ∷ 1 ∷ []; starts = pos 0 ∷ pos 0 ∷ pos 0 ∷ []; code = [] }

-- an amount is put into figure 1 of that book and carried into figure 2
abbrev pub carried_openly : ℤ → List Call
carried_openly a = load (encode two_secrets) ∷ put 1 a ∷ open_slip 1 1 2 ∷ carry (record { holder = 1; from = 1; to = 2; number = 1 }) ∷ show 1 2 ∷ show 0 2 ∷ []

-- a card that charges each of the codes 1 to 12 its own number
abbrev pub numbered : MeterModel
numbered = card (1 ∷ 2 ∷ 3 ∷ 4 ∷ 5 ∷ 6 ∷ 7 ∷ 8 ∷ 9 ∷ 10 ∷ 11 ∷ 12 ∷ [])

-- every way in which calls are refused, each call with all that is wrong with it at once and then with less and less
abbrev pub refused_calls : List Call
refused_calls =
    put 9 (pos 0) ∷ run 9 ∷ show 2 9 ∷ clock 2 ∷ open_slip 2 9 9 ∷ load (encode evened)
    ∷ put 2 (pos 0) ∷ run 1 ∷ show 2 9 ∷ show 0 9 ∷ show 0 1 ∷ clock 2
    ∷ open_slip 2 9 8 ∷ open_slip 0 9 8 ∷ open_slip 0 1 8 ∷ open_slip 0 1 1 ∷ open_slip 0 1 0 ∷ carry release ∷ open_slip 1 1 0
    ∷ open_slip 0 1 0 ∷ open_slip 1 1 0 ∷ load [] ∷ withdraw release ∷ load [] ∷ withdraw release ∷ tally ∷ []

-- what they are answered
abbrev pub refusals : List Answer
refusals =
    refused NoBook ∷ refused NoBook ∷ refused NoBook ∷ refused NoBook ∷ refused NoBook ∷ loaded 1
    ∷ refused (NoSuch 2) ∷ refused (NoSuch 1) ∷ refused (UnknownLevel 2) ∷ refused (NoSuch 9) ∷ refused (Hidden 1) ∷ refused (UnknownLevel 2)
    ∷ refused (UnknownLevel 2) ∷ refused (NoSuch 9) ∷ refused (NoSuch 8) ∷ refused (SameFigure 1) ∷ refused (Hidden 1) ∷ refused NotTheSlip ∷ slip release
    ∷ refused (Hidden 1) ∷ refused SlipOut ∷ refused SlipOut ∷ accepted ∷ refused (Check (Reader Length)) ∷ refused NotTheSlip ∷ counts 1 0 1 ∷ []

-- The verdicts on the worked books, and what runs and calls answer.
pub record WorkedExamples : Type 0 where
  pub books : WorkedBooks
  -- the evened-out book takes 4 ticks for 0 and for 7, and so it does for any other amount
  pub evened_of_0 : answers card_of_ones (timed evened (pos 0) 0) ≡ taking 4
  pub evened_of_7 : answers card_of_ones (timed evened (pos 7) 0) ≡ taking 4
  pub evened_of_any : (a : ℤ) → answers card_of_ones (timed evened a 0) ≡ taking 4
  -- without the wait it takes 2 or 4, which a private clock may tell level 1, and does not tell level 0
  pub uneven_of_0 : answers card_of_ones (timed uneven_private (pos 0) 1) ≡ taking 2
  pub uneven_of_7 : answers card_of_ones (timed uneven_private (pos 7) 1) ≡ taking 4
  pub uneven_hidden : answers card_of_ones (timed uneven_private (pos 7) 0) ≡ loaded 1 ∷ accepted ∷ accepted ∷ refused HiddenClock ∷ []
  pub hidden_clock : engine_refusal HiddenClock ≡ engine 15 32
  -- under the digit meter a square takes the longer the more one bits S has: three in 7, one in 8
  pub squared_of_7 : answers digit (timed squared_private (pos 7) 1) ≡ taking 7
  pub squared_of_8 : answers digit (timed squared_private (pos 8) 1) ≡ taking 5
  -- results stay in the range of amounts, and quotients drop their fraction
  pub square_fits : operate Multiply (pos 46340) (pos 46340) ≡ pos 2147395600
  pub square_stays : operate Multiply (pos 46341) (pos 46341) ≡ pos 2147483647
  pub quotient : operate Divide (negsuc 6) (pos 2) ≡ negsuc 2
  pub quotient_stays : operate Divide (negsuc 2147483647) (negsuc 0) ≡ pos 2147483647
  pub quotient_by_0 : (a : ℤ) → operate Divide a (pos 0) ≡ pos 0
  -- three turns take 3 · (1 + 2) ticks, no turns take none
  pub three_turns : answers card_of_ones (load (encode (waiting 3)) ∷ run 0 ∷ clock 0 ∷ []) ≡ loaded 1 ∷ accepted ∷ time 9 ∷ []
  pub no_turns : answers card_of_ones (load (encode (waiting 0)) ∷ run 0 ∷ clock 0 ∷ []) ≡ loaded 1 ∷ accepted ∷ time 0 ∷ []
  -- six zero bytes are a book without events
  pub nothing : answers card_of_ones (load (replicate 6 0) ∷ []) ≡ loaded 0 ∷ []
  -- a put is answered alike whatever the amount, and level 0 is not shown what S then has, but level 1 is
  pub put_any : (a : ℤ) → answers card_of_ones (load (encode evened) ∷ put 1 a ∷ show 0 1 ∷ show 1 1 ∷ []) ≡ loaded 1 ∷ accepted ∷ refused (Hidden 1) ∷ amount a ∷ []
  pub hidden_figure : engine_refusal (Hidden 1) ≡ engine 15 1
  -- a slip carries what S has into P, once, and while it is out no book is loaded
  pub released : answers card_of_ones (load (encode evened) ∷ put 1 (pos 7) ∷ open_slip 1 1 0 ∷ load (encode evened) ∷ carry release ∷ carry release ∷ show 0 0 ∷ tally ∷ []) ≡ loaded 1 ∷ accepted ∷ slip release ∷ refused SlipOut ∷ accepted ∷ refused NotTheSlip ∷ amount (pos 7) ∷ counts 1 1 0 ∷ []
  -- a card charges each code its own charge, and others nothing
  pub card_first : numbered.charge 1 (pos 0) (pos 0) ≡ 1
  pub card_last : numbered.charge 12 (pos 0) (pos 0) ≡ 12
  pub card_outside : numbered.charge 13 (pos 0) (pos 0) ≡ 0
  -- a multiply counts the one bits of its second operand, a divide the bits of its first: 32 for a negative one
  pub multiply_charged : digit.charge 6 (pos 7) (pos 8) ≡ 2
  pub multiply_turned : digit.charge 6 (pos 8) (pos 7) ≡ 4
  pub divide_charged : digit.charge 7 (pos 8) (pos 7) ≡ 5
  pub divide_negative : digit.charge 7 (negsuc 0) (pos 7) ≡ 33
  -- a set of departments is at or below those that hold all of its departments
  pub fewer_below : (departments 2).below 1 3 ≡ true
  pub more_above : (departments 2).below 3 1 ≡ false
  -- the clock stops at its end, and a late reading is the largest amount
  pub clock_stops : later 999999999999 5 ≡ 1000000000000
  pub late_reading : reading 3000000000 ≡ pos 2147483647
  -- the order in which each call is refused; a refused call changes nothing
  pub refusal_order : answers card_of_ones refused_calls ≡ refusals
  pub last_opening : (ask_openings 65534 ≡ None) × (ask_openings 65535 ≡ Some TooManyOpenings)
  -- two lists that put any two amounts into S pair off for level 0, and what level 0 learns of both is the same clock
  pub pairs_off : (a b : ℤ) → Pairs (ladder 2) card_of_ones 0 fresh fresh (timed evened a 0) (timed evened b 0)
  pub learned : (a : ℤ) → transcript (ladder 2) card_of_ones 0 fresh (timed evened a 0) ≡ taking 4
  -- a slip carried into a private figure may move any two amounts
  pub carry_pairs_off : (a b : ℤ) → Pairs (ladder 2) card_of_ones 0 fresh fresh (carried_openly a) (carried_openly b)
  pub carried_on : (a : ℤ) → answers card_of_ones (carried_openly a) ≡ loaded 0 ∷ accepted ∷ slip (record { holder = 1; from = 1; to = 2; number = 1 }) ∷ accepted ∷ amount a ∷ refused (Hidden 2) ∷ []
