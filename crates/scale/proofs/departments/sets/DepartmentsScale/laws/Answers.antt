use Rattle.scale.proofs.Inclusion.{departments_lawful}
use Rattle.scale.proofs.departments.sets.DepartmentsScale.laws.Goals as goal

pub returns : goal.returns
returns c = departments_lawful c.args.self.now.count
