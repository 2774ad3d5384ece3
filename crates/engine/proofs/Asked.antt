-- What an accepted call tells: each question on the way to it was answered by yes.
use Rattle.std.proofs.Common.{◌≡◌, Bool, true, false, Some, None, Option, refl}
use Rattle.refusal.specs.declared.engine.EngineFault.{EngineFault}
use Rattle.engine.specs.Models.{or_else, unless}

-- a test that no refusal came from passed
pub passes : (t : Bool) (f : EngineFault) → unless t f ≡ None → t ≡ true
passes true f e = refl
passes false f e = cc

-- where neither of two questions refuses, each one does not
pub neither : (x y : Option EngineFault) → or_else x y ≡ None → (x ≡ None) × (y ≡ None)
neither None y e = (refl, e)
neither (Some f) y e = cc
