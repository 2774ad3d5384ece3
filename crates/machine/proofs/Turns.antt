-- One turn of a repeat.
use Rattle.std.proofs.Common.{◌≡◌, ℕ, suc, ◌+◌, ◌-◌, ◌<◌, ap, arith}
use Rattle.steps.specs.Machines.{Machine}
use Rattle.steps.specs.Runs.{times}

pub times_more : (n i : ℕ) (step : Machine → Machine) (s : Machine) → i < n → times (n - i) step s ≡ times (n - (i + 1)) step (step s)
times_more n i step s h = let one : n - i ≡ suc (n - (i + 1)) = omega arith in ap (λ k. times k step s) one

pub times_none : (n i : ℕ) (step : Machine → Machine) (s : Machine) → n - i ≡ 0 → times (n - i) step s ≡ s
times_none n i step s e = ap (λ k. times k step s) e
