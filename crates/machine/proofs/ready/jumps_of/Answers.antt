use Rattle.std.proofs.Common.{◌≡◌, ◌+◌, ◌≤◌, length, take, refl, ap, ◌∙◌, arith, rules}
use Rattle.std.proofs.lemmas.List.{length-take-le}
use Rattle.book.proofs.Rows.{row_more}
use Rattle.machine.proofs.ready.jumps_of.Goals as goal
use Rattle.std.specs.Option.{unwrap_or}
use Rattle.machine.specs.Jumps.{jump_from, jumps_from}

pub loop-place-preserved : goal.loop-place-preserved
loop-place-preserved c =
    let b = c.args.book.now in
    let code = c.code-code.result.now in
    let whole : length (take b.count b.code) ≡ b.count = length-take-le b.count b.code (omega arith) in
    let most : length code ≤ 256 = omega (arith, whole, ap length c.code-code.ensures) in
    let l = c.loop-place in (
      search rules,
      row_more (λ n p. jumps_from code n p) (jump_from code) 1 (λ n p. refl) l.row _ (length code) l.place l.place (l.place + 1) _ (omega arith) (omega (arith, most)) refl (c.unwrap_or.ensures ∙ ap (λ o. unwrap_or o 0) c.jump_from.ensures.to) l.invariant.1,
    )
