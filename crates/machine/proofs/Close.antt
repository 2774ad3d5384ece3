-- Two machines that an observer cannot tell apart stay so over one instruction, over hidden stretches, and over turns.
use Rattle.std.proofs.Common.{◌≡◌, ℕ, zero, suc, ◌≤◌, Bool, true, false, cond, List, [], ℤ, sym, ap, ◌∙◌, ap₂, inl, inr}
use Rattle.book.specs.Codes.{code_of}
use Rattle.book.specs.declared.instruction.Instruction.{Instruction}
use Rattle.flowcheck.specs.Flows.{Paced}
use Rattle.flowcheck.specs.Walks.{Setting}
use Rattle.machine.proofs.Agreeing.{Agree, none, agree_flip}
use Rattle.machine.proofs.Confined.{Confined}
use Rattle.machine.proofs.Observing.{Sees, Sound}
use Rattle.steps.specs.Machines.{Machine, emptied, figures_after, later, latest, perform, stack_after, ticks}
use Rattle.steps.specs.Runs.{times}

-- Close g L ls p q: an observer at L cannot tell the machines p and q apart, with amounts of levels ls on their stacks
pub record Close (g : Setting) (L : ℕ) (ls : List ℕ) (p q : Machine) : Type 0 where
  pub stacks : Agree g.scale L ls p.stack q.stack
  pub figures : Agree g.scale L g.levels p.figures q.figures
  pub clocks : Sees g.scale L g.clock → p.clock ≡ q.clock

module _ (g : Setting) (L : ℕ) where
  -- one instruction, whose effects agree, and whose ticks do if the clock is seen
  pub steps : {ls ks : List ℕ} {p q : Machine} (i : Instruction) → Close g L ls p q → Agree g.scale L ks (stack_after i p) (stack_after i q) → Agree g.scale L g.levels (figures_after i p) (figures_after i q) → (Sees g.scale L g.clock → ticks g.meter i p.stack ≡ ticks g.meter i q.stack) → Close g L ks (perform g.meter i p) (perform g.meter i q)
  steps i c st fs t = record { stacks = st; figures = fs; clocks = λ o. ap₂ later (c.clocks o) (t o) }

  -- a charge is steady, or the clock may show level l: then who sees the clock sees that level too
  pub charged : Sound g → (l : ℕ) (i : Instruction) → Paced g l i → (a b c d : ℤ) → (Sees g.scale L l → a ≡ c) → (Sees g.scale L l → b ≡ d) → Sees g.scale L g.clock → g.meter.charge (code_of i) a b ≡ g.meter.charge (code_of i) c d
  charged s l i (inl t) a b c d x y o = s.meter.steady_same (code_of i) t a b c d
  charged s l i (inr t) a b c d x y o =
      let e = s.scale.transitive l g.clock L t o in
      ap₂ (g.meter.charge (code_of i)) (x e) (y e)

  -- whatever is left on the stacks
  pub emptied_close : {ls : List ℕ} {p q : Machine} → Close g L ls p q → Close g L [] (emptied p) (emptied q)
  emptied_close c = record { stacks = none; figures = c.figures; clocks = c.clocks }

  -- both go the same one of two ways
  pub same_way : {ls : List ℕ} {p q r t : Machine} (b : Bool) → Close g L ls p r → Close g L ls q t → Close g L ls (cond b p q) (cond b r t)
  same_way true x y = x
  same_way false x y = y

  -- Each goes its own way, both confined and for as many ticks: the figures agree by way of where each came from.
  pub apart : {ls : List ℕ} {n : ℕ} {p q r t : Machine} → Close g L ls p q → p.clock ≤ latest → q.clock ≤ latest → Confined g L n p r → Confined g L n q t → Close g L [] (emptied r) (emptied t)
  apart {n} {p} {t} c h k x y = record {
    stacks = none;
    figures = agree_flip (x.kept t.figures (agree_flip (y.kept p.figures c.figures)));
    clocks = λ o. x.moved o h ∙ ap (λ z. later z n) (c.clocks o) ∙ sym (y.moved o k);
  }

  -- a step that keeps them close, n times
  pub turns_close : (step : Machine → Machine) → ((p q : Machine) → Close g L [] p q → Close g L [] (step p) (step q)) → (n : ℕ) (p q : Machine) → Close g L [] p q → Close g L [] (times n step p) (times n step q)
  turns_close step s zero p q c = c
  turns_close step s (suc n) p q c = turns_close step s n (step p) (step q) (s p q c)
