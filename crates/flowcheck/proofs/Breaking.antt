-- The walk names the first place at which a rule is broken, and there the smallest rule.
use Rattle.std.proofs.Common.{◌≡◌, ℕ, zero, suc, ◌+◌, ◌<◌, true, ◌⊎◌, List, [], ◌∷◌, refl, inl, inr, arith}
use Rattle.book.specs.declared.instruction.Instruction.{Instruction}
use Rattle.book.specs.declared.instruction.Instruction.TheVariants.{Stop, Number, Figure, Clock, Operate, Store, If, Repeat, Wait, Else, End}
use Rattle.flowcheck.proofs.Firsts.{Tells, Named, After, broken_tells, or_tells, follows}
use Rattle.refusal.specs.declared.check.CheckFault.TheVariants.{Charge, Direct, Implicit, Parts}
use Rattle.flowcheck.specs.Walks.{Setting, breaks_charge, breaks_direct, breaks_implicit, breaks_parts, broken, own_fault, fault_at, contexts_after, levels_after, walk}

-- which of rules 9 to 11 are broken on an instruction in front of others
abbrev pub BreaksOwn : Setting → List ℕ → List ℕ → Instruction → List Instruction → ℕ → Type 0
BreaksOwn g cs ls (Number z) is n = ⊥
BreaksOwn g cs ls (Figure v) is n = ⊥
BreaksOwn g cs ls Clock is n = ⊥
BreaksOwn g cs ls (Operate o) is n = ⊥
BreaksOwn g cs ls (Store v) is n = ((n ≡ 9) × (breaks_direct g ls v ≡ true)) ⊎ ((n ≡ 10) × (breaks_implicit g cs v ≡ true))
BreaksOwn g cs ls If is n = (n ≡ 11) × (breaks_parts g cs ls is ≡ true)
BreaksOwn g cs ls (Repeat k) is n = ⊥
BreaksOwn g cs ls (Wait k) is n = ⊥
BreaksOwn g cs ls Else is n = ⊥
BreaksOwn g cs ls End is n = ⊥
BreaksOwn g cs ls Stop is n = ⊥

-- which of rules 8 to 11 are
abbrev pub BreaksAt : Setting → List ℕ → List ℕ → Instruction → List Instruction → ℕ → Type 0
BreaksAt g cs ls i is n = ((n ≡ 8) × (breaks_charge g cs ls i ≡ true)) ⊎ BreaksOwn g cs ls i is n

-- BreaksFrom g cs ls is n q: rule n is broken q instructions further on
abbrev pub BreaksFrom : Setting → List ℕ → List ℕ → List Instruction → ℕ → ℕ → Type 0
BreaksFrom g cs ls [] n q = ⊥
BreaksFrom g cs ls (i ∷ is) n q = After (BreaksAt g cs ls i is) (BreaksFrom g (contexts_after g cs ls i) (levels_after g ls i) is) n q

-- these rules are above 8
own_above : (g : Setting) (cs ls : List ℕ) (i : Instruction) (is : List Instruction) (n : ℕ) → BreaksOwn g cs ls i is n → 8 < n
own_above g cs ls (Number z) is n b = absurd b
own_above g cs ls (Figure v) is n b = absurd b
own_above g cs ls Clock is n b = absurd b
own_above g cs ls (Operate o) is n b = absurd b
own_above g cs ls (Store v) is n (inl b) = omega arith
own_above g cs ls (Store v) is n (inr b) = omega arith
own_above g cs ls If is n b = omega arith
own_above g cs ls (Repeat k) is n b = absurd b
own_above g cs ls (Wait k) is n b = absurd b
own_above g cs ls Else is n b = absurd b
own_above g cs ls End is n b = absurd b
own_above g cs ls Stop is n b = absurd b

-- all rules of instructions are above 7
pub from_above : (g : Setting) (cs ls : List ℕ) (is : List Instruction) (n q : ℕ) → BreaksFrom g cs ls is n q → 7 < n
from_above g cs ls [] n q b = absurd b
from_above g cs ls (i ∷ is) n zero (inl b) = omega arith
from_above g cs ls (i ∷ is) n zero (inr b) = omega (arith, own_above g cs ls i is n b)
from_above g cs ls (i ∷ is) n (suc q) b = from_above g (contexts_after g cs ls i) (levels_after g ls i) is n q b

-- By cases on the instruction: rule 9 comes before rule 10, and rule 11 stands alone.
own_tells : (g : Setting) (p : ℕ) (cs ls : List ℕ) (i : Instruction) (is : List Instruction) → Tells (BreaksOwn g cs ls i is) p (own_fault g p cs ls i is)
own_tells g p cs ls (Number z) is = λ n b. b
own_tells g p cs ls (Figure v) is = λ n b. b
own_tells g p cs ls Clock is = λ n b. b
own_tells g p cs ls (Operate o) is = λ n b. b
own_tells g p cs ls (Store v) is =
    or_tells (λ n. (n ≡ 9) × (breaks_direct g ls v ≡ true)) (λ n. (n ≡ 10) × (breaks_implicit g cs v ≡ true)) p (broken (breaks_direct g ls v) (Direct p)) (broken (breaks_implicit g cs v) (Implicit p))
    (λ n k b c. omega arith)
    (broken_tells 9 p (breaks_direct g ls v) (Direct p) refl refl)
    (broken_tells 10 p (breaks_implicit g cs v) (Implicit p) refl refl)
own_tells g p cs ls If is = broken_tells 11 p (breaks_parts g cs ls is) (Parts p) refl refl
own_tells g p cs ls (Repeat k) is = λ n b. b
own_tells g p cs ls (Wait k) is = λ n b. b
own_tells g p cs ls Else is = λ n b. b
own_tells g p cs ls End is = λ n b. b
own_tells g p cs ls Stop is = λ n b. b

-- the fault on one instruction is of the smallest rule
pub fault_tells : (g : Setting) (p : ℕ) (cs ls : List ℕ) (i : Instruction) (is : List Instruction) → Tells (BreaksAt g cs ls i is) p (fault_at g p cs ls i is)
fault_tells g p cs ls i is =
    or_tells (λ n. (n ≡ 8) × (breaks_charge g cs ls i ≡ true)) (BreaksOwn g cs ls i is) p (broken (breaks_charge g cs ls i) (Charge p)) (own_fault g p cs ls i is)
    (λ n k b c. omega (arith, own_above g cs ls i is k c))
    (broken_tells 8 p (breaks_charge g cs ls i) (Charge p) refl refl)
    (own_tells g p cs ls i is)

-- the walk's fault is the first
pub walk_named : (g : Setting) (p : ℕ) (cs ls : List ℕ) (is : List Instruction) → Named (BreaksFrom g cs ls is) p (walk g p cs ls is)
walk_named g p cs ls [] = λ n q b. b
walk_named g p cs ls (i ∷ is) =
    follows (BreaksAt g cs ls i is) (BreaksFrom g (contexts_after g cs ls i) (levels_after g ls i) is) p (fault_at g p cs ls i is) (walk g (p + 1) (contexts_after g cs ls i) (levels_after g ls i) is)
    (fault_tells g p cs ls i is)
    (walk_named g (p + 1) (contexts_after g cs ls i) (levels_after g ls i) is)
