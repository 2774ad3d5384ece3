-- How events are weighed one instruction after the other. Weights above the limit are not told apart:
-- that this finds just the events whose weight is above it is proved of the trees.
use Rattle.std.specs.Prelude.{ℕ, ◌+◌, ◌*◌, min, max, cond, List, [], ◌∷◌, length, Some, None, Option, nat_lt}
use Rattle.refusal.specs.declared.reader.ReaderFault.{ReaderFault}
use Rattle.refusal.specs.declared.reader.ReaderFault.TheVariants.{Nesting, Weight}
use Rattle.book.specs.declared.instruction.Instruction.{Instruction}
use Rattle.book.specs.declared.instruction.Instruction.TheVariants.{Stop, Number, Figure, Clock, Operate, Store, If, Repeat, Wait, Else, End}
use Rattle.book.specs.Reads.{is_stop, stops_last}
use Rattle.stack.specs.Stacks.{pushed, rest}

-- a weight, or the first one above the limit
abbrev pub capped : ℕ → ℕ
capped n = min n 100001

-- what an instruction weighs inside blocks with these factors, the innermost first
abbrev pub factor : List ℕ → ℕ
factor [] = 1
factor (k ∷ ks) = k

-- the factors of the blocks that are open after an instruction
abbrev pub factors_after : Instruction → List ℕ → List ℕ
factors_after (Number z) ks = ks
factors_after (Figure v) ks = ks
factors_after Clock ks = ks
factors_after (Operate o) ks = ks
factors_after (Store v) ks = ks
factors_after If ks = pushed (factor ks) ks
factors_after (Repeat n) ks = pushed (capped (factor ks * max n 1)) ks
factors_after (Wait n) ks = ks
factors_after Else ks = ks
factors_after End ks = rest ks
factors_after Stop ks = ks

-- the start of the first heavy event, at place p of an event that started at s and weighs t so far
abbrev pub heaviest : ℕ → ℕ → ℕ → List ℕ → List Instruction → Option ℕ
heaviest p s t ks [] = None
heaviest p s t ks (i ∷ is) =
    cond (is_stop i)
    (cond (nat_lt 100000 (capped (t + factor ks))) (Some s) (heaviest (p + 1) (p + 1) 0 [] is))
    (heaviest (p + 1) s (capped (t + factor ks)) (factors_after i ks) is)

-- the fault of a heavy event, if there is one
abbrev pub weight_fault : Option ℕ → Option ReaderFault
weight_fault None = None
weight_fault (Some p) = Some (Weight p)

-- what is wrong with code of which each instruction is right
abbrev pub closing_fault : List Instruction → Option ReaderFault
closing_fault is = cond (stops_last is) (weight_fault (heaviest 0 0 0 [] is)) (Some (Nesting (length is)))
