use Rattle.std.proofs.Common.{Some, refl, ap, ◌∙◌}
use Rattle.script.proofs.desk.Desk.open_slip.Goals as goal
use Rattle.script.proofs.Ties.{agrees_by, agrees_self, opened, out_opened}
use Rattle.script.specs.Held.{paper_held}
use Rattle.engine.specs.Seen.{engine_of, paper_of}

-- what is out after the call is what its answer says
pub invariant_of-self : goal.invariant_of-self
invariant_of-self c =
    let held = paper_held c.args.self.now.held in
    let out = opened c.open_slip.result c.open_slip.ensures ∙ ap (out_opened (engine_of c.args.self.now.engine).shared.out) c.in_err-slip.was in
    record { tied = agrees_by _ held _ held out refl c.args.self.now.tied }

pub invariant_of-self-2 : goal.invariant_of-self-2
invariant_of-self-2 c =
    let held = Some (paper_of c.in_ok-slip.slip.numbers) in
    let out = opened c.open_slip.result c.open_slip.ensures ∙ ap (out_opened (engine_of c.args.self.now.engine).shared.out) c.in_ok-slip.was in
    record { tied = agrees_by _ held _ held out refl (agrees_self held) }
