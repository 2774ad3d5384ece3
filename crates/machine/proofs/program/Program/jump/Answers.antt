use Rattle.std.proofs.Common.{length, ◌∙◌, arith}
use Rattle.machine.proofs.Landings.{jump_fits}
use Rattle.machine.proofs.Tables.{in_table}
use Rattle.machine.proofs.program.Program.jump.Goals as goal
use Rattle.reader.specs.Books.{said}

pub returns : goal.returns
returns c =
    let program = c.args.self.now in
    let code = (said program.book).code in
    let to = c.from.ensures ∙ in_table code program.jumps (length code) c.args.place program.right c.requires in
    record { to = to; within = omega (arith, to, jump_fits program.book.figures code program.book.formed c.args.place) }
