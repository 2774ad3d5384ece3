-- The search for an unknown level finds none exactly if all are known, and names the first one.
use Rattle.std.proofs.Common.{◌≡◌, ℕ, zero, suc, ◌+◌, ◌<◌, Bool, true, false, cond, List, [], ◌∷◌, length, get_or, Some, None, Option, not, sym, refl, ap, ◌∙◌, arith}
use Rattle.flowcheck.proofs.Firsts.{Named, After, follows}
use Rattle.flowcheck.specs.Checks.{level_fault, unknown}
use Rattle.refusal.specs.declared.check.CheckFault.{CheckFault}
use Rattle.refusal.specs.declared.check.CheckFault.TheVariants.{ClockLevel, FigureLevel}
use Rattle.scale.specs.Scales.{ScaleModel}
use Rattle.std.proofs.lemmas.Bool.{true≢false, cond-true}
use Rattle.std.specs.List.{AllByRecursion, position_from}
use Rattle.std.specs.Option.{option_map}

-- one level that is asked in front of others
asked : (b : Bool) (o : Option CheckFault) (f : CheckFault) → cond b o (Some f) ≡ None → (b ≡ true) × (o ≡ None)
asked true o f e = (refl, e)
asked false o f e = absurd (cc)

-- where none is unknown all are known
pub unknown_none : (s : ScaleModel) (p : ℕ) (ls : List ℕ) → unknown s p ls ≡ None → AllByRecursion (λ l. s.known l ≡ true) ls
unknown_none s p [] e = tt
unknown_none s p (l ∷ ls) e = let w = asked (s.known l) (unknown s (p + 1) ls) (level_fault p) e in (w.0, unknown_none s (p + 1) ls w.1)

-- and the other way round
pub none_unknown : (s : ScaleModel) (p : ℕ) (ls : List ℕ) → AllByRecursion (λ l. s.known l ≡ true) ls → unknown s p ls ≡ None
none_unknown s p [] a = refl
none_unknown s p (l ∷ ls) a = cond-true (s.known l) (unknown s (p + 1) ls) (Some (level_fault p)) a.0 ∙ none_unknown s (p + 1) ls a.1

-- UnknownFrom s ls n q: n is rule 7, and the level q places further on is unknown
abbrev pub UnknownFrom : ScaleModel → List ℕ → ℕ → ℕ → Type 0
UnknownFrom s [] n q = ⊥
UnknownFrom s (l ∷ ls) n q = After (λ k. (k ≡ 7) × (s.known l ≡ false)) (UnknownFrom s ls) n q

-- one level in front of others
level_named : (b : Bool) (C : ℕ → ℕ → Type 0) (p : ℕ) (y : Option CheckFault) → Named C (p + 1) y → Named (After (λ k. (k ≡ 7) × (b ≡ false)) C) p (cond b y (Some (level_fault p)))
level_named true C p y t = follows (λ k. (k ≡ 7) × (true ≡ false)) C p None y (λ n h. true≢false h.1) t
level_named false C zero y t = follows (λ k. (k ≡ 7) × (false ≡ false)) C 0 (Some ClockLevel) y (record { place = refl; breaks = (refl, refl); least = λ n h. omega arith }) t
level_named false C (suc v) y t = follows (λ k. (k ≡ 7) × (false ≡ false)) C (suc v) (Some (FigureLevel (suc v))) y (record { place = omega arith; breaks = (refl, refl); least = λ n h. omega arith }) t

-- the search's fault is the first
pub unknown_named : (s : ScaleModel) (p : ℕ) (ls : List ℕ) → Named (UnknownFrom s ls) p (unknown s p ls)
unknown_named s p [] = λ n q b. b
unknown_named s p (l ∷ ls) = level_named (s.known l) (UnknownFrom s ls) p (unknown s (p + 1) ls) (unknown_named s (p + 1) ls)

-- an unknown level by its place in the list
pub unknown_at : (s : ScaleModel) (ls : List ℕ) (n q : ℕ) → UnknownFrom s ls n q → (n ≡ 7) × (q < length ls) × (s.known (get_or ls q 0) ≡ false)
unknown_at s [] n q u = absurd u
unknown_at s (l ∷ ls) n zero u = (u.0, omega arith, u.1)
unknown_at s (l ∷ ls) n (suc q) u = let w = unknown_at s ls n q u in (w.0, omega arith, w.2)

pub at_unknown : (s : ScaleModel) (ls : List ℕ) (q : ℕ) → q < length ls → s.known (get_or ls q 0) ≡ false → UnknownFrom s ls 7 q
at_unknown s [] q h e = absurd (omega arith)
at_unknown s (l ∷ ls) zero h e = (refl, e)
at_unknown s (l ∷ ls) (suc q) h e = at_unknown s ls q (omega arith) e

-- the fault of a figure's level
abbrev pub figure_fault : ℕ → CheckFault
figure_fault v = FigureLevel (suc v)

-- one level more, asked in front of others
next : (b : Bool) (v : ℕ) (o : Option ℕ) (r : Option CheckFault) → option_map figure_fault o ≡ r → option_map figure_fault (cond (not b) (Some v) o) ≡ cond b r (Some (figure_fault v))
next true v o r e = e
next false v o r e = refl

-- the first figure from v on whose level is unknown, as the search's fault
unknown_position : (s : ScaleModel) (v : ℕ) (ls : List ℕ) → option_map figure_fault (position_from (λ l. not (s.known l)) v ls) ≡ unknown s (suc v) ls
unknown_position s v [] = refl
unknown_position s v (l ∷ ls) =
    let further : suc (v + 1) ≡ suc v + 1 = omega arith in
    next (s.known l) v (position_from (λ l. not (s.known l)) (v + 1) ls) (unknown s (suc v + 1) ls) (unknown_position s (v + 1) ls ∙ ap (λ p. unknown s p ls) further)

-- where the clock's level is known the search's fault is the first figure's whose level is not
pub figures_asked : (s : ScaleModel) (l : ℕ) (ls : List ℕ) → s.known l ≡ true → option_map figure_fault (position_from (λ l. not (s.known l)) 0 ls) ≡ unknown s 0 (l ∷ ls)
figures_asked s l ls e = unknown_position s 0 ls ∙ sym (cond-true (s.known l) (unknown s 1 ls) (Some ClockLevel) e)
