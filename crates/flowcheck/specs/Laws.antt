-- What the check promises, in the words of the flow rules.
use Rattle.std.specs.Prelude.{◌≡◌, ℕ, ◌+◌, ◌<◌, ◌≤◌, true, false, ◌⊎◌, List, [], ◌∷◌, length, take, drop, Some, None, slice_index, slice_index_or}
use Rattle.book.specs.declared.instruction.Instruction.{Instruction}
use Rattle.book.specs.declared.instruction.Instruction.TheVariants.{Stop, Store, If}
use Rattle.book.specs.Encodings.{WellFormed}
use Rattle.book.specs.Reads.{BookModel}
use Rattle.book.specs.Trees.{events}
use Rattle.flowcheck.specs.Checks.{checking, setting}
use Rattle.refusal.specs.declared.check.CheckFault.{CheckFault}
use Rattle.refusal.specs.Checks.{check_refusal}
use Rattle.flowcheck.specs.Flows.{Flows}
use Rattle.flowcheck.specs.Walks.{Setting, breaks_charge, breaks_direct, breaks_implicit, breaks_parts, contexts_after, levels_after}
use Rattle.meter.specs.Meters.{MeterModel}
use Rattle.scale.specs.Scales.{ScaleModel}
use Rattle.std.specs.List.{AllByRecursion}

-- every level is known, and every event can be derived by the flow rules
pub record Derivable (s : ScaleModel) (m : MeterModel) (b : BookModel) : Type 0 where
  pub clock_known : s.known b.clock ≡ true
  pub levels_known : AllByRecursion (λ l. s.known l ≡ true) b.levels
  pub events_flow : AllByRecursion (λ e. Flows (setting s m b) s.floor [] e) (events b.code)

-- the contexts and the levels on the stack behind some instructions
pub record Reached : Type 0 where
  pub contexts : List ℕ
  pub stack : List ℕ

-- going through instructions
abbrev pub reached : Setting → List ℕ → List ℕ → List Instruction → Reached
reached g cs ls [] = record { contexts = cs; stack = ls }
reached g cs ls (i ∷ is) = reached g (contexts_after g cs ls i) (levels_after g ls i) is

-- where the check stands in front of instruction p
abbrev pub stands : Setting → List Instruction → ℕ → Reached
stands g is p = reached g [] [] (take p is)

-- Breaks s m b n p: rule n is broken at place p. Each rule is asked by itself, with no regard to the others.
pub data Breaks (s : ScaleModel) (m : MeterModel) (b : BookModel) : ℕ → ℕ → Type 0 where
  unknown_clock : s.known b.clock ≡ false → Breaks s m b 7 0
  unknown_level : {v : ℕ} → v < length b.levels → s.known (slice_index b.levels v) ≡ false → Breaks s m b 7 (1 + v)
  charge : {p : ℕ} → p < length b.code → breaks_charge (setting s m b) (stands (setting s m b) b.code p).contexts (stands (setting s m b) b.code p).stack (slice_index_or b.code p Stop) ≡ true → Breaks s m b 8 p
  direct : {p v : ℕ} → p < length b.code → slice_index_or b.code p Stop ≡ Store v → breaks_direct (setting s m b) (stands (setting s m b) b.code p).stack v ≡ true → Breaks s m b 9 p
  implicit : {p v : ℕ} → p < length b.code → slice_index_or b.code p Stop ≡ Store v → breaks_implicit (setting s m b) (stands (setting s m b) b.code p).contexts v ≡ true → Breaks s m b 10 p
  parts : {p : ℕ} → p < length b.code → slice_index_or b.code p Stop ≡ If → breaks_parts (setting s m b) (stands (setting s m b) b.code p).contexts (stands (setting s m b) b.code p).stack (drop (p + 1) b.code) ≡ true → Breaks s m b 11 p

-- rule n at place p is named no later than rule k at place q: levels before instructions, then by place, then by number
abbrev pub NoLater : ℕ → ℕ → ℕ → ℕ → Type 0
NoLater n p k q =
    ((n ≡ 7) × (7 < k)) ⊎ (((n ≡ 7) × (k ≡ 7) × (p ≤ q)) ⊎ ((7 < n) × (7 < k) × ((p < q) ⊎ ((p ≡ q) × (n ≤ k)))))

-- What the check of well-formed books promises, for one scale and one meter.
pub record CheckLaw (s : ScaleModel) (m : MeterModel) : Type 0 where
  -- a book is accepted exactly if its levels are known and its events can be derived
  pub accepted : (b : BookModel) → WellFormed b → checking s m b ≡ None → Derivable s m b
  pub derivable : (b : BookModel) → WellFormed b → Derivable s m b → checking s m b ≡ None
  -- a refusal names a rule that is broken at its place, and no rule that is broken comes before it
  pub names : (b : BookModel) (f : CheckFault) → checking s m b ≡ Some f → Breaks s m b (check_refusal f).number (check_refusal f).place
  pub first : (b : BookModel) (f : CheckFault) (n p : ℕ) → checking s m b ≡ Some f → Breaks s m b n p → NoLater (check_refusal f).number (check_refusal f).place n p
