use Rattle.std.proofs.Common.{Some, None, sym, ap, ◌∙◌}
use Rattle.meter.specs.Cards.{card}
use Rattle.script.proofs.chosen.make_meter.Goals as goal
use Rattle.script.proofs.Chooses.{low_not, no_part}
use Rattle.script.specs.Chosen.{low, meter_made, meter_of}
use Rattle.std.proofs.lemmas.Bool.{cond-false}
use Rattle.std.specs.Option.{option_map}

-- a charge above 1000
pub returns-in_err-fill-in-Card-clause-model : goal.returns-in_err-fill-in-Card-clause-model
returns-in_err-fill-in-Card-clause-model c =
    let charges = c.in-Card.charges in
    let high = c.in_err-fill-in-Card.ensures.0 in
    ap (option_map meter_of) (no_part c.from_residual.result _ c.from_residual.ensures.1)
    ∙ sym (ap meter_made c.in-Card.is ∙ cond-false (low 12 charges) (Some (card charges)) None (low_not charges 12 high.0 high.1 high.2))
