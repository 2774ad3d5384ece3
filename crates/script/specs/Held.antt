-- The slip that is held for its holder.
use Rattle.engine.specs.declared.slip.Slip.{Slip}
use Rattle.engine.specs.Models.{Paper, same_paper}
use Rattle.engine.specs.Seen.{paper_of}
use Rattle.std.specs.Option.{option_map}
use Rattle.std.specs.Prelude.{Bool, true, false, cond, Some, None, Option}

-- what stands on it
abbrev pub paper_held : Option Slip → Option Paper
paper_held h = option_map (λ x. paper_of x.numbers) h

-- whether it has these numbers
abbrev pub is_held : Option Paper → Paper → Bool
is_held None p = false
is_held (Some q) p = same_paper q p

-- what is held after a slip with these numbers was presented
abbrev pub left_held : Option Paper → Paper → Option Paper
left_held h p = cond (is_held h p) None h

-- whether a slip that is out and one that is held are the same, or there is neither
abbrev pub agrees : Option Paper → Option Paper → Bool
agrees None None = true
agrees None (Some q) = false
agrees (Some p) None = false
agrees (Some p) (Some q) = same_paper p q
