use Rattle.std.proofs.Common.{rules}
use Rattle.scale.proofs.Inclusion.{union_decides}
use Rattle.scale.proofs.departments.sets.DepartmentsScale.at_or_below.Goals as goal

pub returns-then-known-2 : goal.returns-then-known-2
returns-then-known-2 c = search (rules, union_decides)
