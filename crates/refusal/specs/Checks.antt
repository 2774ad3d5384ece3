-- The number, layer and place of the check's faults.
use Rattle.std.specs.Prelude.{ℕ}
use Rattle.refusal.specs.Readers.{reader_refusal}
use Rattle.refusal.specs.declared.check.CheckFault.{CheckFault}
use Rattle.refusal.specs.declared.check.CheckFault.TheVariants.{Reader, ClockLevel, FigureLevel, Charge, Direct, Implicit, Parts}
use Rattle.refusal.specs.declared.Layer.TheVariants.{Check}
use Rattle.refusal.specs.declared.Refusal.{Refusal}

-- a refusal by the check
abbrev pub check : ℕ → ℕ → Refusal
check n p = record { number = n; layer = Check; place = p }

-- a reader's fault whole; 7 an unknown level, at 0 the clock's and at 1 + v that of figure v, 8 a charge, 9 a direct flow, 10 an implicit flow, 11 the parts of an if
abbrev pub check_refusal : CheckFault → Refusal
check_refusal (Reader f) = reader_refusal f
check_refusal ClockLevel = check 7 0
check_refusal (FigureLevel p) = check 7 p
check_refusal (Charge p) = check 8 p
check_refusal (Direct p) = check 9 p
check_refusal (Implicit p) = check 10 p
check_refusal (Parts p) = check 11 p
