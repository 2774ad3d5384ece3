-- What a stack holds, as a list with the top first.
use Rattle.std.specs.Prelude.{cond, List, [], ◌∷◌, reverse, length, take, Some, None, Option, Ok, Err, Result, nat_lt}
use Rattle.stack.specs.declared.eight.Stack.{Stack}

-- the items, the top first
abbrev pub held : {T : Type 0} → Stack T → List T
held s = reverse (take s.count s.items)

-- the first item of a list, if there is one
abbrev pub first : {T : Type 0} → List T → Option T
first [] = None
first (x ∷ xs) = Some x

-- what stands behind the first item
abbrev pub rest : {T : Type 0} → List T → List T
rest [] = []
rest (x ∷ xs) = xs

-- one item more on top, unless there are eight
abbrev pub pushed : {T : Type 0} → T → List T → List T
pushed x xs = cond (nat_lt (length xs) 8) (x ∷ xs) xs

-- what a push is answered: done, or the item where there are eight
abbrev pub push_answer : {T : Type 0} → T → List T → Result Unit T
push_answer x xs = cond (nat_lt (length xs) 8) (Ok tt) (Err x)
