-- The number, layer and place of the maker's faults.
use Rattle.refusal.specs.declared.Layer.TheVariants.{Maker}
use Rattle.refusal.specs.declared.MakerFault.{MakerFault}
use Rattle.refusal.specs.declared.MakerFault.TheVariants.{Ranks, Departments, Charge, LineBuffer}
use Rattle.refusal.specs.declared.Refusal.{Refusal}

-- Every maker's fault is number 20 at place 0: a rank count, a department count, a charge or a line buffer outside its limits.
abbrev pub maker_refusal : MakerFault → Refusal
maker_refusal Ranks = record { number = 20; layer = Maker; place = 0 }
maker_refusal Departments = record { number = 20; layer = Maker; place = 0 }
maker_refusal Charge = record { number = 20; layer = Maker; place = 0 }
maker_refusal LineBuffer = record { number = 20; layer = Maker; place = 0 }
