-- Parsing undoes flattening: the instructions of a formed stretch, with what closes it behind them, parse to that stretch.
use Rattle.std.proofs.Common.{◌≡◌, ℕ, true, false, List, [], ◌∷◌, ◌++◌, refl, ap, ◌∙◌}
use Rattle.book.specs.declared.instruction.Instruction.{Instruction}
use Rattle.book.specs.declared.instruction.Instruction.TheVariants.{Stop, Number, Figure, Clock, Operate, Store, Wait, Else, End}
use Rattle.book.specs.Encodings.{EventFormed}
use Rattle.book.specs.Forms.{Formed, ends, number, figure, clock, operate, store, wait, one_part, two_parts, turns}
use Rattle.book.specs.Trees.{Code, done, plain, branch, loop, flat, whole, Closer, ending, elsing, stopping, Ahead, last, closed, grow, forked, branched, looped, before, parse, events_ahead, events}
use Rattle.std.proofs.ByRecursion.{All-weaker}
use Rattle.std.proofs.lemmas.List.{append_assoc}
use Rattle.std.specs.List.{AllByRecursion}

-- the instruction that closes a stretch
abbrev pub instr : Closer → Instruction
instr ending = End
instr elsing = Else
instr stopping = Stop

-- what is ahead at the start of these events
abbrev pub ahead : List Code → Ahead
ahead [] = last done
ahead (e ∷ es) = closed stopping e (ahead es)

-- a closer in front starts an empty stretch
pub before_closer : (k : Closer) (a : Ahead) → before (instr k) a ≡ closed k done a
before_closer ending a = refl
before_closer elsing a = refl
before_closer stopping a = refl

-- By induction on how the stretch is formed: a plain instruction grows what the rest parses to; an if and a repeat
-- take the closed stretches of their parts, each by the induction hypothesis at its own closer.
pub parse_flat : {nv d h : ℕ} {c : Code} → Formed nv d h c → (k : Closer) (is : List Instruction) → parse (flat c ++ (instr k ∷ is)) ≡ closed k c (parse is)
parse_flat ends k is = before_closer k (parse is)
parse_flat (number {z} r f) k is = ap (grow (plain (Number z))) (parse_flat f k is)
parse_flat (figure {v} b r f) k is = ap (grow (plain (Figure v))) (parse_flat f k is)
parse_flat (clock r f) k is = ap (grow (plain Clock)) (parse_flat f k is)
parse_flat (operate {o} f) k is = ap (grow (plain (Operate o))) (parse_flat f k is)
parse_flat (store {v} b f) k is = ap (grow (plain (Store v))) (parse_flat f k is)
parse_flat (wait {n} b f) k is = ap (grow (plain (Wait n))) (parse_flat f k is)
parse_flat (one_part {f} {c} p q) k is =
    ap (λ l. branched (parse l)) (append_assoc (flat f) (End ∷ flat c) (instr k ∷ is))
    ∙ ap branched (parse_flat p ending (flat c ++ (instr k ∷ is)))
    ∙ ap (grow (branch false f done)) (parse_flat q k is)
parse_flat (two_parts {f} {s} {c} p q r) k is =
    ap (λ l. branched (parse l)) (append_assoc (flat f) (Else ∷ (flat s ++ (End ∷ flat c))) (instr k ∷ is))
    ∙ ap (λ l. branched (parse (flat f ++ (Else ∷ l)))) (append_assoc (flat s) (End ∷ flat c) (instr k ∷ is))
    ∙ ap branched (parse_flat p elsing (flat s ++ (End ∷ (flat c ++ (instr k ∷ is)))))
    ∙ ap (forked f) (parse_flat q ending (flat c ++ (instr k ∷ is)))
    ∙ ap (grow (branch true f s)) (parse_flat r k is)
parse_flat (turns {n} {f} {c} b p q) k is =
    ap (λ l. looped n (parse l)) (append_assoc (flat f) (End ∷ flat c) (instr k ∷ is))
    ∙ ap (looped n) (parse_flat p ending (flat c ++ (instr k ∷ is)))
    ∙ ap (grow (loop n f)) (parse_flat q k is)

-- events parse to themselves
pub parse_whole : (nv : ℕ) (es : List Code) → AllByRecursion (λ e. Formed nv 8 0 e) es → parse (whole es) ≡ ahead es
parse_whole nv [] a = refl
parse_whole nv (e ∷ es) a = parse_flat a.0 stopping (whole es) ∙ ap (closed stopping e) (parse_whole nv es a.1)

-- the events ahead of events
pub events_ahead_lem : (es : List Code) → events_ahead (ahead es) ≡ es
events_ahead_lem [] = refl
events_ahead_lem (e ∷ es) = ap (λ l. e ∷ l) (events_ahead_lem es)

-- and so the events of their instructions are the events
pub events_whole : (nv : ℕ) (es : List Code) → AllByRecursion (λ e. Formed nv 8 0 e) es → events (whole es) ≡ es
events_whole nv es a = ap events_ahead (parse_whole nv es a) ∙ events_ahead_lem es

-- the events of a well-formed book are formed, whatever they weigh
pub all_formed : (nv : ℕ) (es : List Code) → AllByRecursion (λ e. EventFormed nv e) es → AllByRecursion (λ e. Formed nv 8 0 e) es
all_formed nv es a = All-weaker (λ e. EventFormed nv e) (λ e. Formed nv 8 0 e) (λ e w. w.formed) es a
