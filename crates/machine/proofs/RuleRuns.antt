-- What the rules of running say of each run: it leaves the stack empty and the figures as many as they were, and what it
-- comes to is what the definition of running gives.
use Rattle.std.proofs.Common.{◌≡◌, ℕ, ◌<◌, ◌≤◌, ltb, List, [], ◌∷◌, length, ℤ, pos, sym, refl, ap, ◌∙◌, arith, length-set}
use Rattle.book.specs.Codes.{code_of}
use Rattle.book.specs.declared.instruction.Instruction.TheVariants.{Operate, Repeat}
use Rattle.book.specs.Trees.{Code}
use Rattle.steps.specs.Amounts.{is_zero, operate}
use Rattle.steps.specs.Machines.{Machine, later, reading, emptied, perform}
use Rattle.machine.specs.Rules.{at, Goes, Turns, ends, number, figure, clock, operation, store, wait, first, second, turns, none, turn}
use Rattle.steps.specs.Runs.{times, exec}
use Rattle.meter.specs.Meters.{MeterModel}
use Rattle.stack.specs.Stacks.{pushed}
use Rattle.std.proofs.lemmas.Bool.{cond-true, cond-false, lt-ltb}

-- a stack of fewer than eight takes one item more
pub room : {T : Type 0} (x : T) (st : List T) → length st < 8 → pushed x st ≡ x ∷ st
room x st l = cond-true (ltb (length st) 8) (x ∷ st) st (lt-ltb (length st) 8 l)

-- a machine with nothing on its stack stays as it is when it is emptied
pub emptied_same : (s : Machine) → s.stack ≡ [] → s ≡ emptied s
emptied_same s e = ap (λ st. at st s.figures s.clock) e

-- nothing on a stack is no more than eight
few : (st : List ℤ) → st ≡ [] → length st ≤ 8
few st e = omega (arith, ap length e)

module _ (m : MeterModel) where
  -- a stretch ends with nothing on the stack, and so do the turns of a repeat
  pub leaves_empty : {c : Code} {s r : Machine} → Goes m c s r → r.stack ≡ []
  leaves_empty ends = refl
  leaves_empty (number l g) = leaves_empty g
  leaves_empty (figure v l g) = leaves_empty g
  leaves_empty (clock l g) = leaves_empty g
  leaves_empty (operation g) = leaves_empty g
  leaves_empty (store v g) = leaves_empty g
  leaves_empty (wait g) = leaves_empty g
  leaves_empty (first z p g) = leaves_empty g
  leaves_empty (second z p g) = leaves_empty g
  leaves_empty (turns p g) = leaves_empty g

  pub turns_empty : {n : ℕ} {f : Code} {s r : Machine} → Turns m n f s r → r.stack ≡ []
  turns_empty none = refl
  turns_empty (turn p g) = turns_empty g

  -- the figures are as many behind a stretch, or turns, as before
  mutual
    pub keeps_figures : {c : Code} {s r : Machine} → Goes m c s r → length r.figures ≡ length s.figures
    keeps_figures ends = refl
    keeps_figures (number l g) = keeps_figures g
    keeps_figures (figure v l g) = keeps_figures g
    keeps_figures (clock l g) = keeps_figures g
    keeps_figures (operation g) = keeps_figures g
    keeps_figures (store {v = v} {a = a} {fs = fs} l g) = keeps_figures g ∙ length-set fs v a
    keeps_figures (wait g) = keeps_figures g
    keeps_figures (first z p g) = keeps_figures g ∙ keeps_figures p
    keeps_figures (second z p g) = keeps_figures g ∙ keeps_figures p
    keeps_figures (turns p g) = keeps_figures g ∙ turns_keep p

    pub turns_keep : {n : ℕ} {f : Code} {s r : Machine} → Turns m n f s r → length r.figures ≡ length s.figures
    turns_keep none = refl
    turns_keep (turn p g) = turns_keep g ∙ keeps_figures p

  -- what follows a part goes on from the machine q that the part leaves, which by the definition is y
  onward : {q r y : Machine} (c : Code) → q.stack ≡ [] → q ≡ y → r ≡ exec m c q → r ≡ exec m c (emptied y)
  onward {q} c e same g = g ∙ ap (exec m c) (emptied_same q e ∙ ap emptied same)

  -- By induction on the rules: under each the definition takes the same step, since a pushed amount has room. An operation
  -- has room for its result on every stack of at most eight.
  mutual
    pub only : {c : Code} {s r : Machine} → Goes m c s r → length s.stack ≤ 8 → r ≡ exec m c s
    only ends h = refl
    only (number {z = z} {c = c} {st = st} {fs = fs} {t = t} l g) h =
        only g (omega arith) ∙ ap (λ x. exec m c (at x fs (later t (m.charge 1 (pos 0) (pos 0))))) (sym (room z st l))
    only (figure {v = v} {c = c} {st = st} {fs = fs} {t = t} i l g) h =
        only g (omega arith) ∙ ap (λ x. exec m c (at x fs (later t (m.charge 2 (pos 0) (pos 0))))) (sym (room _ st l))
    only (clock {c = c} {st = st} {fs = fs} {t = t} l g) h =
        only g (omega arith) ∙ ap (λ x. exec m c (at x fs (later t (m.charge 3 (pos 0) (pos 0))))) (sym (room (reading t) st l))
    only (operation {o = o} {c = c} {a = a} {b = b} {st = st} {fs = fs} {t = t} g) h =
        only g (omega arith) ∙ ap (λ x. exec m c (at x fs (later t (m.charge (code_of (Operate o)) a b)))) (sym (room (operate o a b) st (omega arith)))
    only (store v g) h = only g (omega arith)
    only (wait g) h = only g (omega arith)
    only (first {f = f} {g = g} {c = c} {a = a} {fs = fs} {t = t} {q = q} z p k) h =
        let s : Machine = at [] fs (later t (m.charge 11 a (pos 0))) in
        onward c (leaves_empty p) (only p (omega arith) ∙ sym (cond-false (is_zero a) (exec m g s) (exec m f s) z)) (only k (few q.stack (leaves_empty p)))
    only (second {f = f} {g = g} {c = c} {a = a} {fs = fs} {t = t} {q = q} z p k) h =
        let s : Machine = at [] fs (later t (m.charge 11 a (pos 0))) in
        onward c (leaves_empty p) (only p (omega arith) ∙ sym (cond-true (is_zero a) (exec m g s) (exec m f s) z)) (only k (few q.stack (leaves_empty p)))
    only (turns {n = n} {c = c} {q = q} p k) h =
        onward c (turns_empty p) (only_turns p n) (only k (few q.stack (turns_empty p)))

    -- turns of a repeat, whatever its count
    pub only_turns : {n : ℕ} {f : Code} {s r : Machine} → Turns m n f s r → (k : ℕ) → r ≡ times n (λ t. exec m f (perform m (Repeat k) t)) s
    only_turns none k = refl
    only_turns (turn {n = n} {f = f} p g) k = only_turns g k ∙ ap (times n (λ t. exec m f (perform m (Repeat k) t))) (only p (omega arith))
