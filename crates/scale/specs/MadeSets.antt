-- What the maker of department scales answers.
use Rattle.std.specs.Prelude.{◌≡◌, ℕ, ◌<◌, ◌≤◌, Ok, Err, Result}
use Rattle.refusal.specs.declared.MakerFault.{MakerFault}
use Rattle.refusal.specs.declared.MakerFault.TheVariants.{Departments as DepartmentsFault}
use Rattle.scale.specs.declared.departments.Departments.{Departments}
use Rattle.scale.specs.Scales.{ScaleModel}
use Rattle.scale.specs.Sets.{departments}

-- What a departments value means: the scale of as many departments as it counts.
abbrev pub departments_of : Departments → ScaleModel
departments_of s = departments s.count

-- Asked for d departments: the scale of d departments if d is at most 8, and the fault of departments otherwise.
abbrev pub DepartmentsMade : ℕ → Result Departments MakerFault → Type 0
DepartmentsMade d (Ok s) = (d ≤ 8) × (departments_of s ≡ departments d)
DepartmentsMade d (Err e) = (8 < d) × (e ≡ DepartmentsFault)
