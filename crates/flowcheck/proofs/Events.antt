-- Over whole events: no rule is broken exactly if each event flows from the floor and an empty stack.
use Rattle.std.proofs.Common.{ℕ, suc, List, [], ◌∷◌, refl, arith}
use Rattle.book.specs.declared.instruction.Instruction.TheVariants.{Stop}
use Rattle.book.specs.Forms.{Formed}
use Rattle.book.specs.Trees.{Code, whole}
use Rattle.flowcheck.proofs.Flowing.{flows_quiet, free}
use Rattle.flowcheck.proofs.Quiet.{Quiet}
use Rattle.flowcheck.proofs.Walking.{quiet_flows}
use Rattle.flowcheck.specs.Flows.{Flows}
use Rattle.flowcheck.specs.Walks.{Setting}
use Rattle.meter.specs.Meters.{Lawful}
use Rattle.std.specs.List.{AllByRecursion}

-- where no rule is broken each event flows; behind a stop all starts anew
pub whole_flows : (g : Setting) (nv : ℕ) (es : List Code) → AllByRecursion (λ e. Formed nv 8 0 e) es → Quiet g [] [] (whole es) → AllByRecursion (λ e. Flows g g.scale.floor [] e) es
whole_flows g nv [] a q = tt
whole_flows g nv (e ∷ es) a q =
    let w = quiet_flows g a.0 [] [] (Stop ∷ whole es) refl refl (omega arith) q in
    (w.0, whole_flows g nv es a.1 (λ n p. w.1 n (suc p)))

-- where each event flows no rule is broken
pub flows_whole : (g : Setting) → Lawful g.meter → (nv : ℕ) (es : List Code) → AllByRecursion (λ e. Formed nv 8 0 e) es → AllByRecursion (λ e. Flows g g.scale.floor [] e) es → Quiet g [] [] (whole es)
flows_whole g m nv [] a f = λ n q b. b
flows_whole g m nv (e ∷ es) a f = flows_quiet g m a.0 [] [] (Stop ∷ whole es) refl refl (omega arith) f.0 (free g m [] [] Stop (whole es) refl (λ n b. b) (flows_whole g m nv es a.1 f.1))
