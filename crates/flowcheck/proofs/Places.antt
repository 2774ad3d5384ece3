-- A rule that is broken some instructions further on, and one that is broken at a place of a book, are the same.
use Rattle.std.proofs.Common.{◌≡◌, ℕ, zero, suc, ◌+◌, ◌<◌, ◌⊎◌, List, [], ◌∷◌, length, get_or, take, drop, sym, refl, subst, inl, inr, add-one, arith}
use Rattle.book.specs.declared.instruction.Instruction.{Instruction}
use Rattle.book.specs.declared.instruction.Instruction.TheVariants.{Stop, Number, Figure, Clock, Operate, Store, If, Repeat, Wait, Else, End}
use Rattle.book.specs.Reads.{BookModel}
use Rattle.flowcheck.proofs.Breaking.{BreaksOwn, BreaksAt, BreaksFrom}
use Rattle.flowcheck.proofs.Levels.{UnknownFrom, unknown_at, at_unknown}
use Rattle.flowcheck.specs.Checks.{setting}
use Rattle.flowcheck.specs.Laws.{reached, stands, Breaks, unknown_clock, unknown_level, charge, direct, implicit, parts}
use Rattle.flowcheck.specs.Walks.{Setting, contexts_after, levels_after}
use Rattle.meter.specs.Meters.{MeterModel}
use Rattle.scale.specs.Scales.{ScaleModel}

-- rule n is broken on instruction q of these, in front of those behind it
abbrev pub BrokenAt : Setting → List ℕ → List ℕ → List Instruction → ℕ → ℕ → Type 0
BrokenAt g cs ls is n q =
    BreaksAt g (reached g cs ls (take q is)).contexts (reached g cs ls (take q is)).stack (get_or is q Stop) (drop (suc q) is) n

-- By induction on the instructions that are gone through first.
pub from_at : (g : Setting) (cs ls : List ℕ) (is : List Instruction) (n q : ℕ) → BreaksFrom g cs ls is n q → (q < length is) × BrokenAt g cs ls is n q
from_at g cs ls [] n q b = absurd b
from_at g cs ls (i ∷ is) n zero b = (omega arith, b)
from_at g cs ls (i ∷ is) n (suc q) b =
    let w = from_at g (contexts_after g cs ls i) (levels_after g ls i) is n q b in
    let h : q < length is = w.0 in
    (omega arith, w.1)

pub at_from : (g : Setting) (cs ls : List ℕ) (is : List Instruction) (n q : ℕ) → q < length is → BrokenAt g cs ls is n q → BreaksFrom g cs ls is n q
at_from g cs ls [] n q h b = absurd (omega arith)
at_from g cs ls (i ∷ is) n zero h b = b
at_from g cs ls (i ∷ is) n (suc q) h b = at_from g (contexts_after g cs ls i) (levels_after g ls i) is n q (omega arith) b

module _ (s : ScaleModel) (m : MeterModel) (b : BookModel) where
  -- the contexts and the levels in front of instruction p
  abbrev contexts_at : ℕ → List ℕ
  contexts_at p = (stands (setting s m b) b.code p).contexts

  abbrev levels_at : ℕ → List ℕ
  levels_at p = (stands (setting s m b) b.code p).stack

  -- By cases on the instruction at the place.
  own_breaks : (p n : ℕ) → p < length b.code → (i : Instruction) → get_or b.code p Stop ≡ i → BreaksOwn (setting s m b) (contexts_at p) (levels_at p) i (drop (p + 1) b.code) n → Breaks s m b n p
  own_breaks p n h (Number z) e o = absurd o
  own_breaks p n h (Figure v) e o = absurd o
  own_breaks p n h Clock e o = absurd o
  own_breaks p n h (Operate a) e o = absurd o
  own_breaks p n h (Store v) e (inl o) = subst (λ k. Breaks s m b k p) (sym o.0) (direct h e o.1)
  own_breaks p n h (Store v) e (inr o) = subst (λ k. Breaks s m b k p) (sym o.0) (implicit h e o.1)
  own_breaks p n h If e o = subst (λ k. Breaks s m b k p) (sym o.0) (parts h e o.1)
  own_breaks p n h (Repeat k) e o = absurd o
  own_breaks p n h (Wait k) e o = absurd o
  own_breaks p n h Else e o = absurd o
  own_breaks p n h End e o = absurd o
  own_breaks p n h Stop e o = absurd o

  -- A rule that is broken on an instruction of the book, found again at its place: rule 8 by itself, the others by the instruction.
  pub walk_breaks : (n p : ℕ) → BreaksFrom (setting s m b) [] [] b.code n p → Breaks s m b n p
  walk_breaks n p f = there w.1
    where
      w : (p < length b.code) × BrokenAt (setting s m b) [] [] b.code n p
      w = from_at (setting s m b) [] [] b.code n p f

      there : BrokenAt (setting s m b) [] [] b.code n p → Breaks s m b n p
      there (inl c) = subst (λ k. Breaks s m b k p) (sym c.0) (charge w.0 c.1)
      there (inr o) =
          own_breaks p n w.0 (get_or b.code p Stop) refl
          (subst (λ k. BreaksOwn (setting s m b) (contexts_at p) (levels_at p) (get_or b.code p Stop) (drop k b.code) n) (sym (add-one p)) o)

  -- a level of the book that is unknown
  pub unknown_breaks : (n p : ℕ) → UnknownFrom s (b.clock ∷ b.levels) n p → Breaks s m b n p
  unknown_breaks n zero u = subst (λ k. Breaks s m b k 0) (sym u.0) (unknown_clock u.1)
  unknown_breaks n (suc v) u =
      let w = unknown_at s b.levels n v u in
      let next : 1 + v ≡ suc v = omega arith in
      subst (λ k. Breaks s m b k (suc v)) (sym w.0) (subst (Breaks s m b 7) next (unknown_level w.1 w.2))

  -- a rule that the instruction at a place breaks is one that is broken on the way
  own_from : (p n : ℕ) → p < length b.code → (i : Instruction) → get_or b.code p Stop ≡ i → BreaksOwn (setting s m b) (contexts_at p) (levels_at p) i (drop (p + 1) b.code) n → BreaksFrom (setting s m b) [] [] b.code n p
  own_from p n h i e o =
      at_from (setting s m b) [] [] b.code n p h
      (inr (subst (λ j. BreaksOwn (setting s m b) (contexts_at p) (levels_at p) j (drop (suc p) b.code) n) (sym e)
      (subst (λ k. BreaksOwn (setting s m b) (contexts_at p) (levels_at p) i (drop k b.code) n) (add-one p) o)))

  -- what is broken is a level or on an instruction
  pub breaks_either : (n p : ℕ) → Breaks s m b n p → UnknownFrom s (b.clock ∷ b.levels) n p ⊎ BreaksFrom (setting s m b) [] [] b.code n p
  breaks_either n p (unknown_clock e) = inl (refl, e)
  breaks_either n p (unknown_level {v} h e) =
      let next : suc v ≡ 1 + v = omega arith in
      inl (subst (UnknownFrom s (b.clock ∷ b.levels) 7) next (at_unknown s b.levels v h e))
  breaks_either n p (charge h e) = inr (at_from (setting s m b) [] [] b.code n p h (inl (refl, e)))
  breaks_either n p (direct {v} h e d) = inr (own_from p n h (Store v) e (inl (refl, d)))
  breaks_either n p (implicit {v} h e d) = inr (own_from p n h (Store v) e (inr (refl, d)))
  breaks_either n p (parts h e d) = inr (own_from p n h If e (refl, d))
