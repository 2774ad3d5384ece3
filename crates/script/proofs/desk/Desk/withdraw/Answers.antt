use Rattle.std.proofs.Common.{ap, inr}
use Rattle.script.proofs.desk.Desk.withdraw.Goals as goal
use Rattle.script.proofs.Ties.{spent}
use Rattle.script.specs.Held.{paper_held}
use Rattle.engine.specs.Models.{withdraw}
use Rattle.engine.specs.Seen.{paper_of}

-- the slip that was presented is no longer held, and if it was out, it is no longer out
pub invariant_of-self : goal.invariant_of-self
invariant_of-self c =
    let slip = c.present-slip.ensures in
    record { tied = spent (paper_of c.args.numbers) (paper_held c.args.self.now.held) (paper_held c.present-slip.new.held) (inr (ap (λ n. withdraw (paper_of n)) slip.same)) c.withdraw.ensures.step slip.left c.args.self.now.tied }
