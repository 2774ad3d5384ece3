-- What an accepted call answers and leaves, and lists of calls.
use Rattle.std.specs.Prelude.{ℕ, ◌+◌, List, [], ◌∷◌, length, ℤ, pos, Some, None, Ok, Err, Option, Result, slice_index_or, slice_set}
use Rattle.book.specs.Reads.{BookModel}
use Rattle.book.specs.Trees.{done, events}
use Rattle.flowcheck.specs.Checks.{checking_bytes}
use Rattle.refusal.specs.declared.check.CheckFault.{CheckFault}
use Rattle.refusal.specs.declared.engine.EngineFault.{EngineFault}
use Rattle.engine.specs.Models.{Answer, refused, loaded, accepted, amount, time, slip, counts, Call, load, put, run, show, clock, open_slip, carry, withdraw, tally, EngineModel, Paper, Public, refusal}
use Rattle.steps.specs.Runs.{start_state}
use Rattle.steps.specs.Runs.{State, run_event}
use Rattle.meter.specs.Meters.{MeterModel}
use Rattle.scale.specs.Scales.{ScaleModel}

-- an amount set into a figure, without ticks
abbrev pub stored : State → ℕ → ℤ → State
stored s v a = record { figures = slice_set s.figures v a; clock = s.clock }

-- the public part with a book that passed
abbrev pub public_loaded : Public → Result BookModel CheckFault → Public
public_loaded e (Ok b) = record { book = Some b; out = e.out; openings = e.openings; carries = e.carries; withdrawals = e.withdrawals }
public_loaded e (Err f) = e

-- the state of a book that passed
abbrev pub state_loaded : State → Result BookModel CheckFault → State
state_loaded s (Ok b) = start_state b
state_loaded s (Err f) = s

-- the slip that an accepted opening gives
abbrev pub given : Public → ℕ → ℕ → ℕ → Paper
given e h from to = record { holder = h; from = from; to = to; number = e.openings + 1 }

-- the public part after an accepted call
abbrev pub public_after : ScaleModel → MeterModel → Public → Call → Public
public_after s m e (load bytes) = public_loaded e (checking_bytes s m bytes)
public_after s m e (put v a) = e
public_after s m e (run n) = e
public_after s m e (show l v) = e
public_after s m e (clock l) = e
public_after s m e (open_slip h from to) = record { book = e.book; out = Some (given e h from to); openings = e.openings + 1; carries = e.carries; withdrawals = e.withdrawals }
public_after s m e (carry p) = record { book = e.book; out = None; openings = e.openings; carries = e.carries + 1; withdrawals = e.withdrawals }
public_after s m e (withdraw p) = record { book = e.book; out = None; openings = e.openings; carries = e.carries; withdrawals = e.withdrawals + 1 }
public_after s m e tally = e

-- a run of an event of the loaded book
abbrev pub ran_book : MeterModel → Option BookModel → ℕ → State → State
ran_book m None n s = s
ran_book m (Some b) n s = run_event m (slice_index_or (events b.code) n done) s

-- the amounts and the clock after an accepted call
abbrev pub state_after : ScaleModel → MeterModel → EngineModel → Call → State
state_after s m e (load bytes) = state_loaded e.state (checking_bytes s m bytes)
state_after s m e (put v a) = stored e.state v a
state_after s m e (run n) = ran_book m e.shared.book n e.state
state_after s m e (show l v) = e.state
state_after s m e (clock l) = e.state
state_after s m e (open_slip h from to) = e.state
state_after s m e (carry p) = stored e.state p.to (slice_index_or e.state.figures p.from (pos 0))
state_after s m e (withdraw p) = e.state
state_after s m e tally = e.state

-- how many events a book that passed has
abbrev pub event_count : Result BookModel CheckFault → ℕ
event_count (Ok b) = length (events b.code)
event_count (Err f) = 0

-- what an accepted call answers
abbrev pub answer_to : ScaleModel → MeterModel → EngineModel → Call → Answer
answer_to s m e (load bytes) = loaded (event_count (checking_bytes s m bytes))
answer_to s m e (put v a) = accepted
answer_to s m e (run n) = accepted
answer_to s m e (show l v) = amount (slice_index_or e.state.figures v (pos 0))
answer_to s m e (clock l) = time e.state.clock
answer_to s m e (open_slip h from to) = slip (given e.shared h from to)
answer_to s m e (carry p) = accepted
answer_to s m e (withdraw p) = accepted
answer_to s m e tally = counts e.shared.openings e.shared.carries e.shared.withdrawals

-- a refused call changes nothing
abbrev pub after : ScaleModel → MeterModel → Option EngineFault → EngineModel → Call → EngineModel
after s m (Some f) e c = e
after s m None e c = record { shared = public_after s m e.shared c; state = state_after s m e c }

-- the engine after a call
abbrev pub next : ScaleModel → MeterModel → EngineModel → Call → EngineModel
next s m e c = after s m (refusal s m e.shared c) e c

-- a refusal, or what an accepted call answers
abbrev pub answering : ScaleModel → MeterModel → Option EngineFault → EngineModel → Call → Answer
answering s m (Some f) e c = refused f
answering s m None e c = answer_to s m e c

-- the answer to a call
abbrev pub answer : ScaleModel → MeterModel → EngineModel → Call → Answer
answer s m e c = answering s m (refusal s m e.shared c) e c

-- the engine after a list of calls
abbrev pub after_all : ScaleModel → MeterModel → EngineModel → List Call → EngineModel
after_all s m e [] = e
after_all s m e (c ∷ cs) = after_all s m (next s m e c) cs
