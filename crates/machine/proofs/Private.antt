-- The security of one run: the check accepts only books whose events keep two states alike for every observer.
use Rattle.std.proofs.Common.{[], length, sym, refl, ap, ◌∙◌, subst, arith}
use Rattle.book.proofs.Parses.{events_whole, all_formed}
use Rattle.book.specs.Encodings.{WellFormed}
use Rattle.book.specs.Forms.{Formed}
use Rattle.book.specs.Reads.{BookModel}
use Rattle.book.specs.Trees.{done, events}
use Rattle.flowcheck.proofs.CheckLaw.{check_law}
use Rattle.flowcheck.specs.Checks.{setting}
use Rattle.flowcheck.specs.Flows.{Flows}
use Rattle.machine.proofs.Agreeing.{none, agree_at, agree_from}
use Rattle.machine.proofs.Close.{Close}
use Rattle.machine.proofs.Observing.{Sound}
use Rattle.machine.proofs.Together.{together}
use Rattle.machine.specs.Privacy.{RunPrivacy}
use Rattle.steps.specs.Runs.{started}
use Rattle.meter.specs.Meters.{MeterModel, Lawful}
use Rattle.std.proofs.ByRecursion.{All-get_or}
use Rattle.std.specs.List.{AllByRecursion}

-- the events of a well-formed book are formed
events_formed : (b : BookModel) → WellFormed b → AllByRecursion (λ e. Formed (length b.levels) 8 0 e) (events b.code)
events_formed b w =
    let nv = length b.levels in
    let formed = all_formed nv w.program w.events_formed in
    subst (AllByRecursion (λ e. Formed nv 8 0 e)) (sym (ap events w.code_is ∙ events_whole nv w.program formed)) formed

-- The check's law says that the event keeps the flow rules, and these keep two machines close from its start to its end.
pub run_private : (m : MeterModel) → Lawful m → RunPrivacy m
run_private m ml s sl b w e L kl n i p q lp lq a =
    let g = setting s m b in
    let d = (check_law s m ml).accepted b w e in
    let sound : Sound g = record { scale = sl; meter = ml; clock = d.clock_known; levels = d.levels_known } in
    let formed = All-get_or (λ e. Formed (length b.levels) 8 0 e) (events b.code) n done i (events_formed b w) in
    let flows = All-get_or (λ e. Flows g s.floor [] e) (events b.code) n done i d.events_flow in
    let start : Close g L [] (started p) (started q) = record { stacks = none; figures = agree_from b.levels p.figures q.figures 0 lp lq a.amounts; clocks = a.clocks } in
    let end = together g sound L formed s.floor [] refl (omega arith) flows sl.floor_known tt (started p) (started q) start in
    record { amounts = λ v h o. agree_at end.figures v 0 o; clocks = end.clocks }
