-- Running is exactly what the rules allow.
use Rattle.std.proofs.Common.{refl, arith}
use Rattle.machine.proofs.RuleRuns.{only}
use Rattle.machine.proofs.Strict.{goes}
use Rattle.steps.specs.Runs.{started}
use Rattle.machine.specs.Strictness.{RunLaw}
use Rattle.meter.specs.Meters.{MeterModel}

pub run_law : (m : MeterModel) → RunLaw m
run_law m =
    record {
      by_rules = λ e s p f. goes m p.formed (started s) refl (omega arith) f;
      only_one = λ e s r l g. only m g l;
    }
