-- What is shown to an observer is the same on both of two engines that the observer cannot tell apart.
use Rattle.std.proofs.Common.{◌≡◌, ℕ, Bool, true, false, cond, ltb, length, get_or, pos, Some, None, Option, refl, ap}
use Rattle.book.specs.Reads.{BookModel}
use Rattle.engine.proofs.Asked.{passes, neither}
use Rattle.engine.proofs.Twins.{Kept}
use Rattle.refusal.specs.declared.engine.EngineFault.TheVariants.{Hidden, HiddenClock, NoSuch}
use Rattle.engine.specs.Models.{Answer, accepted, amount, time, level_of, or_else, ask_figure, ask_level, ask_sight, ask_clock, with_book}
use Rattle.steps.specs.Runs.{State}
use Rattle.meter.specs.Meters.{MeterModel}
use Rattle.scale.specs.Scales.{ScaleModel, Lawful}
use Rattle.std.proofs.lemmas.Bool.{ltb-true}

-- two answers that are equal if a test passes
uncovered : (t : Bool) (x y z : Answer) → (t ≡ true → x ≡ y) → cond t x z ≡ cond t y z
uncovered true x y z e = e refl
uncovered false x y z e = refl

module _ (s : ScaleModel) (m : MeterModel) (law : Lawful s) (L : ℕ) where
  -- An amount shown to l: its figure's level is at or below l, so at or below L if l is.
  pub shows_same : (o : Option BookModel) (p q : State) (l v : ℕ) → with_book o (λ b. or_else (ask_level s l) (or_else (ask_figure b v) (ask_sight s b l v))) ≡ None → Kept s m L o p q → cond (s.below l L) (amount (get_or p.figures v (pos 0))) accepted ≡ cond (s.below l L) (amount (get_or q.figures v (pos 0))) accepted
  shows_same None p q l v a k = cc
  shows_same (Some b) p q l v a k =
      let figure-and-sight = neither (ask_figure b v) (ask_sight s b l v) (neither (ask_level s l) (or_else (ask_figure b v) (ask_sight s b l v)) a).1 in
      let there = ltb-true v (length b.levels) (passes (ltb v (length b.levels)) (NoSuch v) figure-and-sight.0) in
      let sight = passes (s.below (level_of b v) l) (Hidden v) figure-and-sight.1 in
      uncovered (s.below l L) _ _ accepted (λ e. ap amount (k.alike.amounts v there (law.transitive (level_of b v) l L sight e)))

  -- A clock reading shown to l, likewise.
  pub reads_same : (o : Option BookModel) (p q : State) (l : ℕ) → with_book o (λ b. or_else (ask_level s l) (ask_clock s b l)) ≡ None → Kept s m L o p q → cond (s.below l L) (time p.clock) accepted ≡ cond (s.below l L) (time q.clock) accepted
  reads_same None p q l a k = cc
  reads_same (Some b) p q l a k =
      let sight = passes (s.below b.clock l) HiddenClock (neither (ask_level s l) (ask_clock s b l) a).1 in
      uncovered (s.below l L) _ _ accepted (λ e. ap time (k.alike.clocks (law.transitive b.clock l L sight e)))
