-- The code of a book is a flat list of instructions; what it means is said over trees.
use Rattle.std.specs.Prelude.{ℕ, ◌+◌, ◌*◌, max, Bool, true, false, cond, List, [], ◌∷◌, ◌++◌}
use Rattle.book.specs.declared.instruction.Instruction.{Instruction}
use Rattle.book.specs.declared.instruction.Instruction.TheVariants.{Stop, Number, Figure, Clock, Operate, Store, If, Repeat, Wait, Else, End}

-- a stretch of code: nothing; one plain instruction and what follows; an if with its two parts, whether
-- it has an else (without one the second part is done), and what follows; a repeat with its count, its inside and what follows
pub data Code : Type 0 where
  done : Code
  plain : Instruction → Code → Code
  branch : Bool → Code → Code → Code → Code
  loop : ℕ → Code → Code → Code

-- an if's else and its second part
abbrev pub second_part : Bool → List Instruction → List Instruction
second_part true is = Else ∷ is
second_part false is = []

-- the instructions of a stretch, in order
abbrev pub flat : Code → List Instruction
flat done = []
flat (plain i c) = i ∷ flat c
flat (branch b f s c) = If ∷ (flat f ++ (second_part b (flat s) ++ (End ∷ flat c)))
flat (loop n f c) = Repeat n ∷ (flat f ++ (End ∷ flat c))

-- the instructions of events, each ended by a stop
abbrev pub whole : List Code → List Instruction
whole [] = []
whole (e ∷ es) = flat e ++ (Stop ∷ whole es)

-- what closes a stretch
pub data Closer : Type 0 where
  ending : Closer
  elsing : Closer
  stopping : Closer

-- what a reader at some place has ahead: the stretch up to what closes it, and what is ahead behind that;
-- a list that ends before anything closes it ends with its last stretch
pub data Ahead : Type 0 where
  last : Code → Ahead
  closed : Closer → Code → Ahead → Ahead

-- something more in front of the stretch ahead
abbrev pub grow : (Code → Code) → Ahead → Ahead
grow f (last c) = last (f c)
grow f (closed k c a) = closed k (f c) a

-- an if with an else, in front of its second part; where no end closes it nothing is ahead
abbrev pub forked : Code → Ahead → Ahead
forked f (last c) = last done
forked f (closed ending s a) = grow (branch true f s) a
forked f (closed elsing s a) = last done
forked f (closed stopping s a) = last done

-- an if, in front of its first part
abbrev pub branched : Ahead → Ahead
branched (last c) = last done
branched (closed ending f a) = grow (branch false f done) a
branched (closed elsing f a) = forked f a
branched (closed stopping f a) = last done

-- a repeat, in front of its inside
abbrev pub looped : ℕ → Ahead → Ahead
looped n (last c) = last done
looped n (closed ending f a) = grow (loop n f) a
looped n (closed elsing f a) = last done
looped n (closed stopping f a) = last done

-- one instruction in front of what is ahead
abbrev pub before : Instruction → Ahead → Ahead
before Stop a = closed stopping done a
before (Number z) a = grow (plain (Number z)) a
before (Figure v) a = grow (plain (Figure v)) a
before Clock a = grow (plain Clock) a
before (Operate o) a = grow (plain (Operate o)) a
before (Store v) a = grow (plain (Store v)) a
before If a = branched a
before (Repeat n) a = looped n a
before (Wait n) a = grow (plain (Wait n)) a
before Else a = closed elsing done a
before End a = closed ending done a

-- what is ahead at the start of a list of instructions
abbrev pub parse : List Instruction → Ahead
parse [] = last done
parse (i ∷ is) = before i (parse is)

-- the stretch ahead
abbrev pub here : Ahead → Code
here (last c) = c
here (closed k c a) = c

-- the events ahead
abbrev pub events_ahead : Ahead → List Code
events_ahead (last c) = []
events_ahead (closed stopping e a) = e ∷ events_ahead a
events_ahead (closed ending e a) = []
events_ahead (closed elsing e a) = []

-- the events of a book's code
abbrev pub events : List Instruction → List Code
events is = events_ahead (parse is)

-- what a stretch weighs where the counts of the repeats around it multiply to k: each instruction k,
-- and inside a repeat, its end too, k times the count, 0 taken as 1
abbrev pub weight : ℕ → Code → ℕ
weight k done = 0
weight k (plain i c) = k + weight k c
weight k (branch b f s c) = k + (weight k f + (cond b k 0 + (weight k s + (k + weight k c))))
weight k (loop n f c) = k + (weight (k * max 1 n) f + (k * max 1 n + weight k c))

-- what an event weighs, its stop included
abbrev pub event_weight : Code → ℕ
event_weight e = weight 1 e + 1
