-- How the answers of an engine are replied.
use Rattle.script.specs.declared.reply.Reply.TheVariants.{Done, Loaded, Amount, Clock, Opened, Counts, Refused}
use Rattle.script.specs.declared.reply.Reply.{Reply}
use Rattle.refusal.specs.Engines.{engine_refusal}
use Rattle.refusal.specs.declared.engine.EngineFault.{EngineFault}
use Rattle.engine.specs.Models.{Answer, refused, loaded, accepted, amount, time, slip, counts, Paper}
use Rattle.engine.specs.declared.slip.Numbers.{Numbers}
use Rattle.std.specs.Prelude.{Ok, Err, Result}

-- the numbers of a slip
abbrev pub numbers_of : Paper → Numbers
numbers_of p = record { holder = p.holder; from = p.from; to = p.to; number = p.number }

-- the reply to an answer
abbrev pub reply_to : Answer → Reply
reply_to (refused f) = Refused (engine_refusal f)
reply_to (loaded n) = Loaded n
reply_to accepted = Done
reply_to (amount a) = Amount a
reply_to (time t) = Clock t
reply_to (slip p) = Opened (numbers_of p)
reply_to (counts o c w) = Counts (record { openings = o; carries = c; withdrawals = w })

-- a reply, or the reply to a refused call
abbrev pub told : Result Reply EngineFault → Reply
told (Ok r) = r
told (Err f) = reply_to (refused f)
