-- What it means that an answer names the first of the rules that are broken, and how such answers are put together.
use Rattle.std.proofs.Common.{◌≡◌, ℕ, zero, suc, ◌+◌, ◌<◌, ◌≤◌, Bool, true, false, ◌⊎◌, Some, None, Option, refl, ap, inl, inr, arith}
use Rattle.refusal.specs.declared.check.CheckFault.{CheckFault}
use Rattle.refusal.specs.Checks.{check_refusal}
use Rattle.flowcheck.specs.Walks.{or_else, broken}
use Rattle.std.proofs.lemmas.Bool.{false≢true}

-- a fault at place p whose rule is the smallest of those in B
pub record Smallest (B : ℕ → Type 0) (p : ℕ) (f : CheckFault) : Type 0 where
  pub place : (check_refusal f).place ≡ p
  pub breaks : B (check_refusal f).number
  pub least : (n : ℕ) → B n → (check_refusal f).number ≤ n

-- an answer that names the smallest rule in B, or that there is none
abbrev pub Tells : (ℕ → Type 0) → ℕ → Option CheckFault → Type 0
Tells B p None = (n : ℕ) → B n → ⊥
Tells B p (Some f) = Smallest B p f

-- a fault at the first place that B has from place p on, and there of the smallest rule; places in B are counted from p
pub record First (B : ℕ → ℕ → Type 0) (p : ℕ) (f : CheckFault) : Type 0 where
  pub further : ℕ
  pub place : (check_refusal f).place ≡ p + further
  pub breaks : B (check_refusal f).number further
  pub least : (n q : ℕ) → B n q → (further < q) ⊎ ((further ≡ q) × ((check_refusal f).number ≤ n))

-- an answer that names the first in B, or that there is none
abbrev pub Named : (ℕ → ℕ → Type 0) → ℕ → Option CheckFault → Type 0
Named B p None = (n q : ℕ) → B n q → ⊥
Named B p (Some f) = First B p f

-- where B has none the answer is none
pub named_none : (B : ℕ → ℕ → Type 0) (p : ℕ) (x : Option CheckFault) → ((n q : ℕ) → B n q → ⊥) → Named B p x → x ≡ None
named_none B p None none t = refl
named_none B p (Some f) none t = absurd (none (check_refusal f).number t.further t.breaks)

-- the rules in B at the first place, those in C behind it
abbrev pub After : (ℕ → Type 0) → (ℕ → ℕ → Type 0) → ℕ → ℕ → Type 0
After B C n zero = B n
After B C n (suc q) = C n q

-- one test names its one rule
pub broken_tells : (k p : ℕ) (b : Bool) (f : CheckFault) → (check_refusal f).number ≡ k → (check_refusal f).place ≡ p → Tells (λ n. (n ≡ k) × (b ≡ true)) p (broken b f)
broken_tells k p true f e d = record { place = d; breaks = (e, refl); least = λ n h. omega arith }
broken_tells k p false f e d = λ n h. false≢true h.1

-- The first of two answers names the smaller rule, where all that it may name are smaller: by cases on which of them is a fault.
pub or_tells : (B C : ℕ → Type 0) (p : ℕ) (x y : Option CheckFault) → ((n k : ℕ) → B n → C k → n ≤ k) → Tells B p x → Tells C p y → Tells (λ n. B n ⊎ C n) p (or_else x y)
or_tells B C p None None below s t = λ n h. neither n h
  where
    neither : (n : ℕ) → B n ⊎ C n → ⊥
    neither n (inl b) = s n b
    neither n (inr c) = t n c
or_tells B C p None (Some f) below s t = record { place = t.place; breaks = inr t.breaks; least = least }
  where
    least : (n : ℕ) → B n ⊎ C n → (check_refusal f).number ≤ n
    least n (inl b) = absurd (s n b)
    least n (inr c) = t.least n c
or_tells B C p (Some f) y below s t = record { place = s.place; breaks = inl s.breaks; least = least }
  where
    least : (n : ℕ) → B n ⊎ C n → (check_refusal f).number ≤ n
    least n (inl b) = s.least n b
    least n (inr c) = below (check_refusal f).number n s.breaks c

-- The answer at one place, else the first behind it: by cases on which of them is a fault, and then on whether a rule is broken here or later.
pub follows : (B : ℕ → Type 0) (C : ℕ → ℕ → Type 0) (p : ℕ) (x y : Option CheckFault) → Tells B p x → Named C (p + 1) y → Named (After B C) p (or_else x y)
follows B C p None None s t = neither
  where
    neither : (n q : ℕ) → After B C n q → ⊥
    neither n zero b = s n b
    neither n (suc q) c = t n q c
follows B C p None (Some f) s t = record { further = suc t.further; place = omega arith; breaks = t.breaks; least = least }
  where
    least : (n q : ℕ) → After B C n q → (suc t.further < q) ⊎ ((suc t.further ≡ q) × ((check_refusal f).number ≤ n))
    least n zero b = absurd (s n b)
    least n (suc q) c = later (t.least n q c)
      where
        later : (t.further < q) ⊎ ((t.further ≡ q) × ((check_refusal f).number ≤ n)) → (suc t.further < suc q) ⊎ ((suc t.further ≡ suc q) × ((check_refusal f).number ≤ n))
        later (inl h) = inl (omega arith)
        later (inr h) = inr (ap suc h.0, h.1)
follows B C p (Some f) y s t = record { further = 0; place = omega arith; breaks = s.breaks; least = least }
  where
    least : (n q : ℕ) → After B C n q → (0 < q) ⊎ ((0 ≡ q) × ((check_refusal f).number ≤ n))
    least n zero b = inr (refl, s.least n b)
    least n (suc q) c = inl (omega arith)
