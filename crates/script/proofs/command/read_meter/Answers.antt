use Rattle.std.proofs.Common.{inl, inr, arith, rules, ltb-false, ltb-true}
use Rattle.script.proofs.command.read_meter.Goals as goal
use Rattle.script.proofs.Spellings.{meter_other}

pub returns-in_default-2 : goal.returns-in_default-2
returns-in_default-2 c = meter_other c.args.words.now (omega (arith, ltb-true, ltb-false)) (search rules) (inl (search rules))

pub returns-in_default-3 : goal.returns-in_default-3
returns-in_default-3 c = meter_other c.args.words.now (omega (arith, ltb-true, ltb-false)) (search rules) (inr (omega (arith, ltb-true, ltb-false)))
