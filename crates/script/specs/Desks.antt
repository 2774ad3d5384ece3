-- What a call does at a desk, and what is left on it.
use Rattle.engine.specs.Calls.{answer, next}
use Rattle.engine.specs.Models.{Answer, slip, EngineModel, Paper, withdraw}
use Rattle.engine.specs.Seen.{answered, engine_of, paper_of}
use Rattle.engine.specs.declared.slip.Numbers.{Numbers}
use Rattle.meter.specs.Meters.{MeterModel}
use Rattle.refusal.specs.declared.engine.EngineFault.{EngineFault}
use Rattle.scale.specs.Scales.{ScaleModel}
use Rattle.script.specs.Calls.{call_of}
use Rattle.script.specs.Chosen.{meter_of, scale_of}
use Rattle.script.specs.Replies.{reply_to}
use Rattle.script.specs.declared.call.Call.{Call as ScriptCall}
use Rattle.script.specs.declared.desk.Desk.{Desk}
use Rattle.script.specs.declared.reply.Reply.{Reply}
use Rattle.std.specs.Prelude.{◌≡◌, Some, None, Option, Result}

-- a call is one step of the engine on the desk, and its answer is the reply
pub record Called (old new : Desk) (call : ScriptCall) (reply : Reply) : Type 0 where
  pub answer : reply ≡ reply_to (answer (scale_of old.engine.scale) (meter_of old.engine.meter) (engine_of old.engine) (call_of call))
  pub after : engine_of new.engine ≡ next (scale_of old.engine.scale) (meter_of old.engine.meter) (engine_of old.engine) (call_of call)
  pub kept : (new.engine.scale ≡ old.engine.scale) × (new.engine.meter ≡ old.engine.meter)

-- what was answered to an opening whose slip is held
abbrev pub opened_answer : Result Numbers EngineFault → Answer
opened_answer r = answered (λ n. slip (paper_of n)) r

-- an engine after the slip that is out, if there is one, was withdrawn
abbrev pub settled_by : ScaleModel → MeterModel → EngineModel → Option Paper → EngineModel
settled_by s m e None = e
settled_by s m e (Some p) = next s m e (withdraw p)

abbrev pub settled : ScaleModel → MeterModel → EngineModel → EngineModel
settled s m e = settled_by s m e e.shared.out
