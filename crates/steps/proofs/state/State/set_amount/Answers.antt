use Rattle.std.proofs.Common.{w32}
use Rattle.steps.proofs.state.State.set_amount.Goals as goal
use Rattle.std.proofs.Math.Seq.{take-set-lt}
use Rattle.std.proofs.lemmas.Int.{to_z-of_z}

pub returns-then-figure-self-clause-amounts : goal.returns-then-figure-self-clause-amounts
returns-then-figure-self-clause-amounts c = rw (to_z-of_z w32 c.args.amount c.ranges.amount) (take-set-lt _ _ _ _ c.if-figure-self.true)
