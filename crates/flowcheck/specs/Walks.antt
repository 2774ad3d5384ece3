-- The check goes through the instructions in order, with the contexts of the open blocks and the levels of
-- the amounts on the stack, and names the first rule that is broken.
use Rattle.std.specs.Prelude.{ℕ, ◌+◌, Bool, cond, not, ◌&&◌, List, [], ◌∷◌, Some, None, Option, ◌==◌, slice_index_or}
use Rattle.book.specs.Codes.{code_of}
use Rattle.book.specs.declared.instruction.Instruction.{Instruction}
use Rattle.book.specs.declared.instruction.Instruction.TheVariants.{Stop, Number, Figure, Clock, Operate, Store, If, Repeat, Wait, Else, End}
use Rattle.book.specs.Trees.{here, parse}
use Rattle.refusal.specs.declared.check.CheckFault.{CheckFault}
use Rattle.refusal.specs.declared.check.CheckFault.TheVariants.{Charge, Direct, Implicit, Parts}
use Rattle.flowcheck.specs.Tolls.{second_ahead, toll}
use Rattle.meter.specs.Meters.{MeterModel}
use Rattle.scale.specs.Scales.{ScaleModel}
use Rattle.stack.specs.Stacks.{pushed, rest}

-- what the check of one book rests on: a scale, a meter, the clock's level and the figures' levels
pub record Setting : Type 0 where
  pub scale : ScaleModel
  pub meter : MeterModel
  pub clock : ℕ
  pub levels : List ℕ

-- the level of a figure
abbrev pub figure_level : Setting → ℕ → ℕ
figure_level g v = slice_index_or g.levels v g.scale.floor

-- the context (the program counter's level): that of the innermost open block, at an event's start the floor
abbrev pub context : Setting → List ℕ → ℕ
context g cs = slice_index_or cs 0 g.scale.floor

-- the level of the amount that stands n below the top of the stack
abbrev pub under : Setting → List ℕ → ℕ → ℕ
under g ls n = slice_index_or ls n g.scale.floor

-- whether the clock may show what has this level
abbrev pub on_clock : Setting → ℕ → Bool
on_clock g l = g.scale.below l g.clock

-- the context joined with the levels of the amounts that an instruction takes off the stack
abbrev pub stake : Setting → List ℕ → List ℕ → Instruction → ℕ
stake g cs ls (Number z) = context g cs
stake g cs ls (Figure v) = context g cs
stake g cs ls Clock = context g cs
stake g cs ls (Operate o) = g.scale.join (g.scale.join (context g cs) (under g ls 1)) (under g ls 0)
stake g cs ls (Store v) = g.scale.join (context g cs) (under g ls 0)
stake g cs ls If = g.scale.join (context g cs) (under g ls 0)
stake g cs ls (Repeat n) = context g cs
stake g cs ls (Wait n) = context g cs
stake g cs ls Else = context g cs
stake g cs ls End = context g cs
stake g cs ls Stop = context g cs

-- rule 8: a code that is not steady, where the clock may not show what its charge tells of
abbrev pub breaks_charge : Setting → List ℕ → List ℕ → Instruction → Bool
breaks_charge g cs ls i = not (g.meter.steady (code_of i)) && not (on_clock g (stake g cs ls i))

-- rule 9: an amount stored in a figure that is not at or above its level
abbrev pub breaks_direct : Setting → List ℕ → ℕ → Bool
breaks_direct g ls v = not (g.scale.below (under g ls 0) (figure_level g v))

-- rule 10: a store in a context that is not at or below the figure's level
abbrev pub breaks_implicit : Setting → List ℕ → ℕ → Bool
breaks_implicit g cs v = not (g.scale.below (context g cs) (figure_level g v))

-- rule 11: an if whose parts, the instructions behind it, have different tolls, where the clock may not show the context inside
abbrev pub breaks_parts : Setting → List ℕ → List ℕ → List Instruction → Bool
breaks_parts g cs ls is =
    not (on_clock g (stake g cs ls If)) && not (toll g.meter (here (parse is)) == toll g.meter (second_ahead (parse is)))

-- the first answer, else the second
abbrev pub or_else : Option CheckFault → Option CheckFault → Option CheckFault
or_else None r = r
or_else (Some f) r = Some f

-- a fault if a rule is broken
abbrev pub broken : Bool → CheckFault → Option CheckFault
broken b f = cond b (Some f) None

-- rules 9 to 11 on an instruction at place p in front of others
abbrev pub own_fault : Setting → ℕ → List ℕ → List ℕ → Instruction → List Instruction → Option CheckFault
own_fault g p cs ls (Number z) is = None
own_fault g p cs ls (Figure v) is = None
own_fault g p cs ls Clock is = None
own_fault g p cs ls (Operate o) is = None
own_fault g p cs ls (Store v) is = or_else (broken (breaks_direct g ls v) (Direct p)) (broken (breaks_implicit g cs v) (Implicit p))
own_fault g p cs ls If is = broken (breaks_parts g cs ls is) (Parts p)
own_fault g p cs ls (Repeat n) is = None
own_fault g p cs ls (Wait n) is = None
own_fault g p cs ls Else is = None
own_fault g p cs ls End is = None
own_fault g p cs ls Stop is = None

-- the smallest rule that is broken on an instruction
abbrev pub fault_at : Setting → ℕ → List ℕ → List ℕ → Instruction → List Instruction → Option CheckFault
fault_at g p cs ls i is = or_else (broken (breaks_charge g cs ls i) (Charge p)) (own_fault g p cs ls i is)

-- the contexts after an instruction: an if puts the one inside on top, a repeat keeps the one outside
abbrev pub contexts_after : Setting → List ℕ → List ℕ → Instruction → List ℕ
contexts_after g cs ls (Number z) = cs
contexts_after g cs ls (Figure v) = cs
contexts_after g cs ls Clock = cs
contexts_after g cs ls (Operate o) = cs
contexts_after g cs ls (Store v) = cs
contexts_after g cs ls If = pushed (stake g cs ls If) cs
contexts_after g cs ls (Repeat n) = pushed (context g cs) cs
contexts_after g cs ls (Wait n) = cs
contexts_after g cs ls Else = cs
contexts_after g cs ls End = rest cs
contexts_after g cs ls Stop = []

-- the levels on the stack after an instruction
abbrev pub levels_after : Setting → List ℕ → Instruction → List ℕ
levels_after g ls (Number z) = pushed g.scale.floor ls
levels_after g ls (Figure v) = pushed (figure_level g v) ls
levels_after g ls Clock = pushed g.clock ls
levels_after g ls (Operate o) = pushed (g.scale.join (under g ls 1) (under g ls 0)) (rest (rest ls))
levels_after g ls (Store v) = []
levels_after g ls If = []
levels_after g ls (Repeat n) = []
levels_after g ls (Wait n) = []
levels_after g ls Else = []
levels_after g ls End = []
levels_after g ls Stop = []

-- the first fault from place p on
abbrev pub walk : Setting → ℕ → List ℕ → List ℕ → List Instruction → Option CheckFault
walk g p cs ls [] = None
walk g p cs ls (i ∷ is) = or_else (fault_at g p cs ls i is) (walk g (p + 1) (contexts_after g cs ls i) (levels_after g ls i) is)
