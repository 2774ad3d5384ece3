use Rattle.std.proofs.Common.{◌≡◌, ◌+◌, [], take, Some, None, Ok, sym, ap, ◌∙◌, rules}
use Rattle.book.proofs.Finishes.{closing, finished_closing}
use Rattle.book.proofs.Sounds.{finished_sound}
use Rattle.book.specs.Reads.{raws, scan}
use Rattle.book.specs.Weighs.{closing_fault}
use Rattle.reader.proofs.layout.Layout.code.Goals as goal
use Rattle.reader.specs.Layouts.{codes_at}
use Rattle.std.proofs.lemmas.Result.{err_from_is_err_and}
use Rattle.std.specs.Result.{result_err}

pub returns-in_err-check_end-clause-items : goal.returns-in_err-check_end-clause-items
returns-in_err-check_end-clause-items c =
    let l = c.args.self.now in
    let at = codes_at l.figures in
    let p = err_from_is_err_and c.from_residual-in_err-check_end.result c.from_residual-in_err-check_end.ensures.1 in
    let rs = raws l.count at (at + l.count) l.bytes.now in
    let is = take l.count c.in_ok-row.row in
    let e : scan l.figures 0 0 [] rs ≡ Ok is = sym c.in_ok-row.ensures.items in
    let told = ap result_err c.in_err-check_end.was in
    let f : closing_fault is ≡ Some c.in_err-check_end.field-0.0 = search rules in
    rw (p.1, p.2) (sym (finished_closing l.figures rs is e ∙ ap (closing is) f))

pub returns : goal.returns
returns c =
    let l = c.args.self.now in
    let at = codes_at l.figures in
    let rs = raws l.count at (at + l.count) l.bytes.now in
    let is = take l.count c.in_ok-row.row in
    let e : scan l.figures 0 0 [] rs ≡ Ok is = sym c.in_ok-row.ensures.items in
    let told = ap result_err c.in_ok-check_end.was in
    let f : closing_fault is ≡ None = search rules in
    let d = finished_closing l.figures rs is e ∙ ap (closing is) f in
    record { long = c.in_ok-row.ensures.long; sound = finished_sound l.figures rs is d; items = sym d }
