use Rattle.std.proofs.Common.{sym, refl, ap, ◌∙◌}
use Rattle.reader.specs.Books.{said}
use Rattle.machine.proofs.Found.{event_found, event_missing}
use Rattle.machine.proofs.program.Program.run.Goals as goal
use Rattle.steps.specs.Runs.{exec, left}

pub returns-in_default-clause-ran : goal.returns-in_default-clause-ran
returns-in_default-clause-ran g c =
    let b = c.args.self.now.book in
    (refl, event_missing b.figures (said b).code b.formed c.args.event (sym c.start_of.ensures ∙ c.in_default.is), refl)

pub run_from-requires : goal.run_from-requires
run_from-requires g c =
    let b = c.args.self.now.book in
    (event_found b.figures (said b).code b.formed c.args.event c.in-Some.start (sym c.start_of.ensures ∙ c.in-Some.is)).place

pub returns-clause-ran : goal.returns-clause-ran
returns-clause-ran g c =
    let b = c.args.self.now.book in
    let m = g.M.Meter.meaning c.args.meter.now in
    let found = event_found b.figures (said b).code b.formed c.args.event c.in-Some.start (sym c.start_of.ensures ∙ c.in-Some.is) in
    (found.within, c.rest.ensures ∙ ap left (c.run_from.ensures ∙ (λ i. exec m (found.stretch i) (c.new-machine.ensures i))))
