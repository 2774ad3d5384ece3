use Rattle.std.proofs.Common.{ap, inl}
use Rattle.script.proofs.desk.Desk.carry.Goals as goal
use Rattle.script.proofs.Ties.{spent}
use Rattle.script.specs.Held.{paper_held}
use Rattle.engine.specs.Models.{carry}
use Rattle.engine.specs.Seen.{paper_of}

-- the slip that was presented is no longer held, and if it was out, it is no longer out
pub invariant_of-self : goal.invariant_of-self
invariant_of-self c =
    let slip = c.present-slip.ensures in
    record { tied = spent (paper_of c.args.numbers) (paper_held c.args.self.now.held) (paper_held c.present-slip.new.held) (inl (ap (λ n. carry (paper_of n)) slip.same)) c.carry.ensures.step slip.left c.args.self.now.tied }
