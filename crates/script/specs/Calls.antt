-- What the calls of a script mean.
use Rattle.engine.specs.Models.{Call, load, put, run, show, clock, open_slip, carry, withdraw, tally}
use Rattle.engine.specs.Seen.{paper_of}
use Rattle.script.specs.Asked.{Ask, scale, meter, call}
use Rattle.script.specs.declared.call.Call.TheVariants.{Tally, Load, Put, Run, Show, Clock, Open, Carry, Withdraw}
use Rattle.script.specs.declared.call.Call.{Call as ScriptCall}
use Rattle.script.specs.declared.command.Command.TheVariants.{Scale, Meter, Call as CallCommand}
use Rattle.script.specs.declared.command.Command.{Command}
use Rattle.std.specs.Prelude.{vec_items}

-- the call on an engine
abbrev pub call_of : ScriptCall → Call
call_of Tally = tally
call_of (Load v) = load (vec_items v)
call_of (Put v a) = put v a
call_of (Run n) = run n
call_of (Show l v) = show l v
call_of (Clock l) = clock l
call_of (Open h from to) = open_slip h from to
call_of (Carry n) = carry (paper_of n)
call_of (Withdraw n) = withdraw (paper_of n)

-- what a command asks for
abbrev pub ask_of : Command → Ask
ask_of (Scale x) = scale x
ask_of (Meter x) = meter x
ask_of (CallCommand x) = call (call_of x)
