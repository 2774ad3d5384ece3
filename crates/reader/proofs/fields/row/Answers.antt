use Rattle.std.proofs.Common.{◌≡◌, ◌+◌, ◌*◌, ◌<◌, refl, arith, add-one, mul-suc, rules, length-take}
use Rattle.reader.proofs.fields.row.Goals as goal
use Rattle.book.proofs.Rows.{row_more}
use Rattle.book.specs.Reads.{fields}

pub loop-index-preserved : goal.loop-index-preserved
loop-index-preserved g c =
    let field = g.T.Field in
    let bs = c.args.bytes.now in
    let l = c.loop-index in
    let i = l.index in
    let W = field.WIDTH in
    let within : i < c.args.count = search (rules, arith, length-take) in
    let step : W * (i + 1) ≡ W * i + W = rw add-one (omega (arith, mul-suc W i)) in
    row_more (λ n at. fields W field.stands n at bs) (field.stands bs) W (λ n at. refl) l.number-items (fields W field.stands c.args.count c.args.at bs) c.args.count i (c.args.at + W * i) (c.args.at + W * (i + 1)) c.read.result within (search rules) (omega arith) (rw c.WIDTH.ensures at c.read.ensures) l.invariant
