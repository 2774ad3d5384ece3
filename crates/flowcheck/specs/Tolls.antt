-- The toll of a stretch of code: its static cost, each instruction charged at operands 0.
use Rattle.std.specs.Prelude.{ℕ, ◌+◌, ◌*◌, min, Bool, true, false, cond, List, [], ◌∷◌, length, pos, ◌==◌}
use Rattle.book.specs.Codes.{code_of}
use Rattle.book.specs.declared.instruction.Instruction.{Instruction}
use Rattle.book.specs.declared.instruction.Instruction.TheVariants.{Stop, Number, Figure, Clock, Operate, Store, If, Repeat, Wait, Else, End}
use Rattle.book.specs.Trees.{Code, done, plain, branch, loop, Ahead, last, closed, ending, elsing, stopping, here}
use Rattle.meter.specs.Meters.{MeterModel}
use Rattle.stack.specs.Stacks.{pushed, rest}

-- what the meter charges for an instruction at operands 0
abbrev pub base : MeterModel → Instruction → ℕ
base m i = m.charge (code_of i) (pos 0) (pos 0)

-- the ticks of one plain instruction: a wait moves the clock by its argument, all others are charged
abbrev pub price : MeterModel → Instruction → ℕ
price m (Number z) = base m (Number z)
price m (Figure v) = base m (Figure v)
price m Clock = base m Clock
price m (Operate o) = base m (Operate o)
price m (Store v) = base m (Store v)
price m If = base m If
price m (Repeat n) = base m (Repeat n)
price m (Wait n) = n
price m Else = 0
price m End = 0
price m Stop = 0

-- the toll of a stretch: an if counts by its own charge and its first part, a repeat charges before each turn
abbrev pub toll : MeterModel → Code → ℕ
toll m done = 0
toll m (plain i c) = price m i + toll m c
toll m (branch b f s c) = base m If + (toll m f + toll m c)
toll m (loop n f c) = n * (base m (Repeat n) + toll m f) + toll m c

-- the second part of an if whose first part is ahead; without an else it is empty
abbrev pub second_ahead : Ahead → Code
second_ahead (last f) = done
second_ahead (closed ending f a) = done
second_ahead (closed elsing f a) = here a
second_ahead (closed stopping f a) = done

-- a number of 64 bits, or the largest one
abbrev pub fit : ℕ → ℕ
fit n = min n 18446744073709551615

-- how often what stands inside blocks with these factors is counted, the innermost first
abbrev pub turns_of : List ℕ → ℕ
turns_of [] = 1
turns_of (k ∷ ks) = k

-- what an instruction adds to a toll: a repeat charges once for each turn
abbrev pub added : MeterModel → Instruction → ℕ
added m (Number z) = price m (Number z)
added m (Figure v) = price m (Figure v)
added m Clock = price m Clock
added m (Operate o) = price m (Operate o)
added m (Store v) = price m (Store v)
added m If = price m If
added m (Repeat n) = n * price m (Repeat n)
added m (Wait n) = price m (Wait n)
added m Else = price m Else
added m End = price m End
added m Stop = price m Stop

-- the factors behind an instruction: an if keeps the one outside, a repeat multiplies it, and a second part does not count
abbrev pub turns_after : Instruction → List ℕ → List ℕ
turns_after (Number z) ks = ks
turns_after (Figure v) ks = ks
turns_after Clock ks = ks
turns_after (Operate o) ks = ks
turns_after (Store v) ks = ks
turns_after If ks = pushed (turns_of ks) ks
turns_after (Repeat n) ks = pushed (fit (turns_of ks * n)) ks
turns_after (Wait n) ks = ks
turns_after Else ks = pushed 0 (rest ks)
turns_after End ks = rest ks
turns_after Stop ks = ks

-- whether an instruction closes the stretch in which these blocks are open
abbrev pub closes_all : Instruction → List ℕ → Bool
closes_all (Number z) ks = false
closes_all (Figure v) ks = false
closes_all Clock ks = false
closes_all (Operate o) ks = false
closes_all (Store v) ks = false
closes_all If ks = false
closes_all (Repeat n) ks = false
closes_all (Wait n) ks = false
closes_all Else ks = length ks == 0
closes_all End ks = length ks == 0
closes_all Stop ks = true

-- the toll of what is left of a stretch, one instruction after the other, with t ticks before it: on the code of
-- trees this is the toll of the stretch ahead, as long as that has 64 bits
abbrev pub tolled : MeterModel → ℕ → List ℕ → List Instruction → ℕ
tolled m t ks [] = t
tolled m t ks (i ∷ is) = cond (closes_all i ks) t (tolled m (fit (t + fit (turns_of ks * added m i))) (turns_after i ks) is)
