use Rattle.std.proofs.Common.{refl}
use Rattle.script.proofs.desk.Desk.call.Goals as goal
use Rattle.script.proofs.Ties.{kept, loaded}
use Rattle.script.specs.Held.{paper_held}

-- a load, a put and a run leave what is out
pub invariant_of-self : goal.invariant_of-self
invariant_of-self c = record { tied = kept (paper_held c.args.self.now.held) (loaded _ _) c.load.ensures c.args.self.now.tied }

pub invariant_of-self-in-Put : goal.invariant_of-self-in-Put
invariant_of-self-in-Put c = record { tied = kept (paper_held c.args.self.now.held) refl c.put.ensures c.args.self.now.tied }

pub invariant_of-self-in-Run : goal.invariant_of-self-in-Run
invariant_of-self-in-Run c = record { tied = kept (paper_held c.args.self.now.held) refl c.run.ensures c.args.self.now.tied }
