-- The uneven meter: one chosen code is not steady.
use Rattle.std.specs.Prelude.{Bool, false, not, ◌&&◌, cond, ℕ, eqb, ℤ, pos, negsuc}
use Rattle.trial.specs.declared.uneven.Uneven.{Uneven}
use Rattle.meter.specs.Meters.{MeterModel, instruction}

-- A number is 0.
abbrev pub nought : ℤ → Bool
nought (pos n) = eqb n 0
nought (negsuc n) = false

-- Every instruction takes 1 tick, but the chosen one takes 3 where its first operand is not 0.
abbrev pub uneven : ℕ → MeterModel
uneven chosen =
    record {
      charge = λ code first _. cond (instruction code) (cond (eqb code chosen && not (nought first)) 3 1) 0;
      steady = λ code. not (instruction code && eqb code chosen);
      largest = 3;
    }

-- What an uneven meter means: the one under which its code is chosen.
abbrev pub uneven_of : Uneven → MeterModel
uneven_of m = uneven m.code
