-- What an engine holds, which calls there are, and what each answers and leaves. What is public (the book, the slip that is
-- out, the counts) is apart from what is not (the amounts and the clock): whether a call is accepted hangs on the public part alone.
use Rattle.std.specs.Prelude.{ℕ, Bool, cond, not, ◌&&◌, List, [], length, ℤ, Some, None, Ok, Err, Option, Result, ◌==◌, nat_lt, slice_index}
use Rattle.book.specs.Reads.{BookModel}
use Rattle.book.specs.Trees.{events}
use Rattle.flowcheck.specs.Checks.{checking_bytes}
use Rattle.refusal.specs.declared.check.CheckFault.{CheckFault}
use Rattle.refusal.specs.declared.engine.EngineFault.{EngineFault}
use Rattle.refusal.specs.declared.engine.EngineFault.TheVariants.{Check, NoBook, NoSuch, UnknownLevel, Hidden, HiddenClock, SlipOut, NotTheSlip, TooManyOpenings, SameFigure}
use Rattle.steps.specs.Runs.{State}
use Rattle.meter.specs.Meters.{MeterModel}
use Rattle.scale.specs.Scales.{ScaleModel}

-- the numbers of a slip, a one-time permission to carry one figure's amount into another: its holder's level, the
-- first and the second figure, and the number of its opening
pub record Paper : Type 0 where
  pub holder : ℕ
  pub from : ℕ
  pub to : ℕ
  pub number : ℕ

-- what everyone may know of an engine
pub record Public : Type 0 where
  pub book : Option BookModel
  pub out : Option Paper
  pub openings : ℕ
  pub carries : ℕ
  pub withdrawals : ℕ

-- an engine under a scale and a meter
pub record EngineModel : Type 0 where
  pub shared : Public
  pub state : State

-- an engine that was just made: no book, no slip, clock and counts 0
abbrev pub fresh : EngineModel
fresh = record { shared = record { book = None; out = None; openings = 0; carries = 0; withdrawals = 0 }; state = record { figures = []; clock = 0 } }

-- the calls; any bytes, numbers, levels, amounts and slips
pub data Call : Type 0 where
  load : List ℕ → Call
  put : ℕ → ℤ → Call
  run : ℕ → Call
  show : ℕ → ℕ → Call
  clock : ℕ → Call
  open_slip : ℕ → ℕ → ℕ → Call
  carry : Paper → Call
  withdraw : Paper → Call
  tally : Call

-- what a call answers: a refusal; the number of events of a loaded book; acceptance alone; an amount; the clock; a slip; the counts
pub data Answer : Type 0 where
  refused : EngineFault → Answer
  loaded : ℕ → Answer
  accepted : Answer
  amount : ℤ → Answer
  time : ℕ → Answer
  slip : Paper → Answer
  counts : ℕ → ℕ → ℕ → Answer

-- the first refusal of two questions
abbrev pub or_else : Option EngineFault → Option EngineFault → Option EngineFault
or_else None r = r
or_else (Some f) r = Some f

-- a refusal unless a test passes
abbrev pub unless : Bool → EngineFault → Option EngineFault
unless b f = cond b None (Some f)

-- the level of a figure of a book
abbrev pub level_of : BookModel → ℕ → ℕ
level_of b v = slice_index b.levels v

-- 13: there is such a figure
abbrev pub ask_figure : BookModel → ℕ → Option EngineFault
ask_figure b v = unless (nat_lt v (length b.levels)) (NoSuch v)

-- 13: there is such an event
abbrev pub ask_event : BookModel → ℕ → Option EngineFault
ask_event b n = unless (nat_lt n (length (events b.code))) (NoSuch n)

-- 14: the scale knows the level
abbrev pub ask_level : ScaleModel → ℕ → Option EngineFault
ask_level s l = unless (s.known l) (UnknownLevel l)

-- 15: the figure's level is at or below the one given
abbrev pub ask_sight : ScaleModel → BookModel → ℕ → ℕ → Option EngineFault
ask_sight s b l v = unless (s.below (level_of b v) l) (Hidden v)

-- 15: the clock's level is at or below the one given
abbrev pub ask_clock : ScaleModel → BookModel → ℕ → Option EngineFault
ask_clock s b l = unless (s.below b.clock l) HiddenClock

-- 19: the two figures are different
abbrev pub ask_apart : ℕ → ℕ → Option EngineFault
ask_apart from to = unless (not (from == to)) (SameFigure from)

-- 16: no slip is out
abbrev pub ask_no_slip : Option Paper → Option EngineFault
ask_no_slip None = None
ask_no_slip (Some p) = Some SlipOut

-- 18: fewer than 65,535 openings were accepted
abbrev pub ask_openings : ℕ → Option EngineFault
ask_openings n = unless (nat_lt n 65535) TooManyOpenings

-- whether two slips have the same four numbers
abbrev pub same_paper : Paper → Paper → Bool
same_paper p q = p.holder == q.holder && (p.from == q.from && (p.to == q.to && p.number == q.number))

-- 17: this is the slip that is out
abbrev pub ask_slip : Option Paper → Paper → Option EngineFault
ask_slip None p = Some NotTheSlip
ask_slip (Some q) p = unless (same_paper q p) NotTheSlip

-- 12: there is a book, and what is asked of it
abbrev pub with_book : Option BookModel → (BookModel → Option EngineFault) → Option EngineFault
with_book None ask = Some NoBook
with_book (Some b) ask = ask b

-- what the reader and the check say of bytes
abbrev pub ask_bytes : Result BookModel CheckFault → Option EngineFault
ask_bytes (Ok b) = None
ask_bytes (Err f) = Some (Check f)

-- why a call is refused, if it is, in the order in which it is asked
abbrev pub refusal : ScaleModel → MeterModel → Public → Call → Option EngineFault
refusal s m e (load bytes) = or_else (ask_no_slip e.out) (ask_bytes (checking_bytes s m bytes))
refusal s m e (put v a) = with_book e.book (λ b. ask_figure b v)
refusal s m e (run n) = with_book e.book (λ b. ask_event b n)
refusal s m e (show l v) = with_book e.book (λ b. or_else (ask_level s l) (or_else (ask_figure b v) (ask_sight s b l v)))
refusal s m e (clock l) = with_book e.book (λ b. or_else (ask_level s l) (ask_clock s b l))
refusal s m e (open_slip h from to) =
    with_book e.book (λ b.
    or_else (ask_level s h) (or_else (ask_figure b from) (or_else (ask_figure b to) (or_else (ask_apart from to)
    (or_else (ask_sight s b h from) (or_else (ask_no_slip e.out) (ask_openings e.openings)))))))
refusal s m e (carry p) = ask_slip e.out p
refusal s m e (withdraw p) = ask_slip e.out p
refusal s m e tally = None
