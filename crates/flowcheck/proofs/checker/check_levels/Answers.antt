use Rattle.std.proofs.Common.{◌≡◌, suc, ◌+◌, true, Some, ap, ◌∙◌, arith}
use Rattle.reader.specs.Books.{said}
use Rattle.flowcheck.proofs.Levels.{figure_fault, figures_asked}
use Rattle.flowcheck.proofs.checker.check_levels.Goals as goal
use Rattle.refusal.specs.declared.check.CheckFault.TheVariants.{FigureLevel}
use Rattle.std.specs.Option.{option_map}

pub returns-in-Some : goal.returns-in-Some
returns-in-Some g c =
    let s = g.S.Scale.meaning c.args.scale.now in
    let b = said c.args.book.now in
    let known : s.known b.clock ≡ true = cc in
    let behind : 1 + c.in-Some.figure ≡ suc c.in-Some.figure = omega arith in
    ap (λ p. Some (FigureLevel p)) behind ∙ ap (option_map figure_fault) c.in-Some.ensures.first ∙ figures_asked s b.clock b.levels known

pub returns-in-None : goal.returns-in-None
returns-in-None g c =
    let s = g.S.Scale.meaning c.args.scale.now in
    let b = said c.args.book.now in
    let known : s.known b.clock ≡ true = cc in
    ap (option_map figure_fault) c.in-None.ensures.first ∙ figures_asked s b.clock b.levels known
