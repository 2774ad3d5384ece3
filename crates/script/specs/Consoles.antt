-- What a console is, what it leaves and what it replies.
use Rattle.engine.specs.Calls.{answer, next}
use Rattle.engine.specs.Models.{EngineModel, fresh}
use Rattle.engine.specs.Seen.{engine_of}
use Rattle.house.specs.Rulings.{ones}
use Rattle.meter.specs.Cards.{card}
use Rattle.meter.specs.Meters.{MeterModel}
use Rattle.refusal.specs.Makers.{maker_refusal}
use Rattle.refusal.specs.declared.MakerFault.TheVariants.{Ranks}
use Rattle.refusal.specs.declared.MakerFault.{MakerFault}
use Rattle.scale.specs.Ladders.{ladder}
use Rattle.scale.specs.Scales.{ScaleModel}
use Rattle.script.specs.Asked.{Ask, scale as ask_scale, meter as ask_meter, call}
use Rattle.script.specs.Chosen.{MeterMade, meter_made, meter_of, ScaleMade, scale_made, scale_of}
use Rattle.script.specs.Desks.{Called}
use Rattle.script.specs.Replies.{reply_to}
use Rattle.script.specs.declared.chosen.ChosenMeter.{ChosenMeter}
use Rattle.script.specs.declared.chosen.ChosenScale.{ChosenScale}
use Rattle.script.specs.declared.command.Command.TheVariants.{Scale, Meter, Call}
use Rattle.script.specs.declared.command.Command.{Command}
use Rattle.script.specs.declared.console.Console.{Console}
use Rattle.script.specs.declared.desk.Desk.{Desk}
use Rattle.script.specs.declared.reply.Reply.TheVariants.{Done, Refused, Unreadable}
use Rattle.script.specs.declared.reply.Reply.{Reply}
use Rattle.std.specs.Prelude.{◌≡◌, Some, None, Ok, Err, Option, Result}

-- a scale, a meter and the engine under them
pub record ConsoleModel : Type 0 where
  pub scale : ScaleModel
  pub meter : MeterModel
  pub engine : EngineModel

-- what a console in memory is
abbrev pub console_of : Console → ConsoleModel
console_of c = record { scale = scale_of c.scale; meter = meter_of c.meter; engine = engine_of c.desk.engine }

-- a console with a fresh engine
abbrev pub renewed : ScaleModel → MeterModel → ConsoleModel
renewed s m = record { scale = s; meter = m; engine = fresh }

-- a console as a script finds it
abbrev pub opened : ConsoleModel
opened = renewed (ladder 2) (card ones)

-- another scale, if it could be made, with a fresh engine
abbrev pub rescaled : Option ScaleModel → ConsoleModel → ConsoleModel
rescaled None c = c
rescaled (Some s) c = renewed s c.meter

-- the same of a meter
abbrev pub remetered : Option MeterModel → ConsoleModel → ConsoleModel
remetered None c = c
remetered (Some m) c = renewed c.scale m

-- the reply to the choice of a scale or a meter
abbrev pub choice_reply : {X : Type 0} → Option X → Reply
choice_reply None = Refused (maker_refusal Ranks)
choice_reply (Some x) = Done

-- What a console is after a line asked for something. A call is one step of the engine's model.
abbrev pub obeying : ConsoleModel → Ask → ConsoleModel
obeying c (ask_scale x) = rescaled (scale_made x) c
obeying c (ask_meter x) = remetered (meter_made x) c
obeying c (call x) = record { scale = c.scale; meter = c.meter; engine = next c.scale c.meter c.engine x }

-- What it replies.
abbrev pub replying : ConsoleModel → Ask → Reply
replying c (ask_scale x) = choice_reply (scale_made x)
replying c (ask_meter x) = choice_reply (meter_made x)
replying c (call x) = reply_to (answer c.scale c.meter c.engine x)

-- The same of a line that may ask for nothing.
abbrev pub heeding : ConsoleModel → Option Ask → ConsoleModel
heeding c None = c
heeding c (Some x) = obeying c x

abbrev pub replying_to : ConsoleModel → Option Ask → Reply
replying_to c None = Unreadable
replying_to c (Some x) = replying c x

-- a desk with a fresh engine under a scale and a meter
abbrev pub Fresh : Desk → ChosenScale → ChosenMeter → Type 0
Fresh d s m = (engine_of d.engine ≡ fresh) × (d.engine.scale ≡ s) × (d.engine.meter ≡ m)

-- a scale that was made is the console's from now on, under a fresh engine; one that was not changes nothing
abbrev pub Rescaled : Result ChosenScale MakerFault → Console → Console → Reply → Type 0
Rescaled (Ok s) before after r = (after.scale ≡ s) × (after.meter ≡ before.meter) × Fresh after.desk s before.meter × (r ≡ Done)
Rescaled (Err e) before after r = (after ≡ before) × (r ≡ Refused (maker_refusal e))

-- the same of a meter
abbrev pub Remetered : Result ChosenMeter MakerFault → Console → Console → Reply → Type 0
Remetered (Ok m) before after r = (after.scale ≡ before.scale) × (after.meter ≡ m) × Fresh after.desk before.scale m × (r ≡ Done)
Remetered (Err e) before after r = (after ≡ before) × (r ≡ Refused (maker_refusal e))

-- the reply that an answer is: what could not be made is refused
abbrev pub reply_of : Result Reply MakerFault → Reply
reply_of (Ok r) = r
reply_of (Err e) = Refused (maker_refusal e)

-- what a line asks for is done
abbrev pub Obeyed : Command → Console → Console → Reply → Type 0
Obeyed (Scale x) before after r = (made : Result ChosenScale MakerFault) × ScaleMade x made × Rescaled made before after r
Obeyed (Meter x) before after r = (made : Result ChosenMeter MakerFault) × MeterMade x made × Remetered made before after r
Obeyed (Call x) before after r = Called before.desk after.desk x r × (after.scale ≡ before.scale) × (after.meter ≡ before.meter)
