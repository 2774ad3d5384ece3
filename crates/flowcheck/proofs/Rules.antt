-- What the check's tests say: a rule is not broken exactly where the flow rule is kept.
use Rattle.std.proofs.Common.{◌≡◌, ℕ, Bool, true, false, not, ◌&&◌, eqb, ◌⊎◌, List, Some, None, Option, sym, refl, ap, ◌∙◌, inl, inr}
use Rattle.book.specs.Codes.{code_of}
use Rattle.book.specs.declared.instruction.Instruction.{Instruction}
use Rattle.book.specs.declared.instruction.Instruction.TheVariants.{If}
use Rattle.book.specs.Trees.{Code, here, parse}
use Rattle.refusal.specs.declared.check.CheckFault.{CheckFault}
use Rattle.flowcheck.specs.Flows.{Paced, Even}
use Rattle.flowcheck.specs.Tolls.{toll, second_ahead}
use Rattle.flowcheck.specs.Walks.{Setting, on_clock, stake, breaks_charge, breaks_parts, or_else}
use Rattle.std.proofs.lemmas.Bool.{false≢true, eqb-true, eq-eqb}

-- a test does not fail exactly if it holds
pub holds : (b : Bool) → (not b ≡ true → ⊥) → b ≡ true
holds true h = refl
holds false h = absurd (h refl)

pub not_fails : (b : Bool) → b ≡ true → not b ≡ true → ⊥
not_fails true e f = false≢true f
not_fails false e f = false≢true e

-- two tests do not both fail exactly if one of them holds
pub one_holds : (s t : Bool) → ((not s && not t) ≡ true → ⊥) → (s ≡ true) ⊎ (t ≡ true)
one_holds true t h = inl refl
one_holds false true h = inr refl
one_holds false false h = absurd (h refl)

pub not_both_fail : (s t : Bool) → (s ≡ true) ⊎ (t ≡ true) → (not s && not t) ≡ true → ⊥
not_both_fail true t e f = false≢true f
not_both_fail false true e f = false≢true f
not_both_fail false false (inl e) f = false≢true e
not_both_fail false false (inr e) f = false≢true e

-- rule 8 is the pace
pub charge_paced : (g : Setting) (cs ls : List ℕ) (i : Instruction) → (breaks_charge g cs ls i ≡ true → ⊥) → Paced g (stake g cs ls i) i
charge_paced g cs ls i h = one_holds (g.meter.steady (code_of i)) (on_clock g (stake g cs ls i)) h

pub paced_charge : (g : Setting) (cs ls : List ℕ) (i : Instruction) → Paced g (stake g cs ls i) i → breaks_charge g cs ls i ≡ true → ⊥
paced_charge g cs ls i p = not_both_fail (g.meter.steady (code_of i)) (on_clock g (stake g cs ls i)) p

-- Rule 11 asks of the parts that stand behind the if that they are even: the tolls are compared exactly where the clock may not show the test.
pub parts_even : (g : Setting) (cs ls : List ℕ) (is : List Instruction) (f s : Code) → here (parse is) ≡ f → second_ahead (parse is) ≡ s → (breaks_parts g cs ls is ≡ true → ⊥) → Even g (stake g cs ls If) f s
parts_even g cs ls is f s p q h =
    even (one_holds (on_clock g (stake g cs ls If)) (eqb (toll g.meter (here (parse is))) (toll g.meter (second_ahead (parse is)))) h)
  where
    even : (on_clock g (stake g cs ls If) ≡ true) ⊎ (eqb (toll g.meter (here (parse is))) (toll g.meter (second_ahead (parse is))) ≡ true) → Even g (stake g cs ls If) f s
    even (inl t) = inl t
    even (inr t) = inr (ap (toll g.meter) (sym p) ∙ eqb-true (toll g.meter (here (parse is))) (toll g.meter (second_ahead (parse is))) t ∙ ap (toll g.meter) q)

pub even_parts : (g : Setting) (cs ls : List ℕ) (is : List Instruction) (f s : Code) → here (parse is) ≡ f → second_ahead (parse is) ≡ s → Even g (stake g cs ls If) f s → breaks_parts g cs ls is ≡ true → ⊥
even_parts g cs ls is f s p q e =
    not_both_fail (on_clock g (stake g cs ls If)) (eqb (toll g.meter (here (parse is))) (toll g.meter (second_ahead (parse is)))) (even e)
  where
    even : Even g (stake g cs ls If) f s → (on_clock g (stake g cs ls If) ≡ true) ⊎ (eqb (toll g.meter (here (parse is))) (toll g.meter (second_ahead (parse is))) ≡ true)
    even (inl t) = inl t
    even (inr t) = inr (eq-eqb (toll g.meter (here (parse is))) (toll g.meter (second_ahead (parse is))) (ap (toll g.meter) p ∙ t ∙ ap (toll g.meter) (sym q)))

-- one of two gives no fault exactly if neither does
pub both_none : (x y : Option CheckFault) → or_else x y ≡ None → (x ≡ None) × (y ≡ None)
both_none None y e = (refl, e)
both_none (Some f) y e = absurd (cc)

pub none_both : (x y : Option CheckFault) → x ≡ None → y ≡ None → or_else x y ≡ None
none_both None y p q = q
none_both (Some f) y p q = p
