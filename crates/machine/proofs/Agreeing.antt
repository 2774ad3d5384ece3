-- Two lists of amounts beside a list of their levels, which agree for an observer: stacks and figures alike.
use Rattle.std.proofs.Common.{◌≡◌, ℕ, zero, suc, ◌<◌, List, [], ◌∷◌, length, get_or, set, ℤ, pos, sym, refl, ap, subst₂, arith}
use Rattle.machine.proofs.Observing.{Sees, Hidden}
use Rattle.machine.proofs.RuleRuns.{room}
use Rattle.scale.specs.Scales.{ScaleModel}
use Rattle.stack.specs.Stacks.{pushed, rest}

-- Agree s L ls xs ys: xs and ys are as long as ls, and have the same amount wherever an observer at L sees the level in ls
pub data Agree (s : ScaleModel) (L : ℕ) : List ℕ → List ℤ → List ℤ → Type 0 where
  none : Agree s L [] [] []
  more : {l : ℕ} {ls : List ℕ} {x y : ℤ} {xs ys : List ℤ} → (Sees s L l → x ≡ y) → Agree s L ls xs ys → Agree s L (l ∷ ls) (x ∷ xs) (y ∷ ys)

module _ {s : ScaleModel} {L : ℕ} where
  -- the second list first
  pub agree_flip : {ls : List ℕ} {xs ys : List ℤ} → Agree s L ls xs ys → Agree s L ls ys xs
  agree_flip none = none
  agree_flip (more e t) = more (λ o. sym (e o)) (agree_flip t)

  pub agree_length : {ls : List ℕ} {xs ys : List ℤ} → Agree s L ls xs ys → length xs ≡ length ls
  agree_length none = refl
  agree_length (more e t) = ap suc (agree_length t)

  -- the amounts at a place; outside both lists they are 0
  pub agree_at : {ls : List ℕ} {xs ys : List ℤ} → Agree s L ls xs ys → (v d : ℕ) → Sees s L (get_or ls v d) → get_or xs v (pos 0) ≡ get_or ys v (pos 0)
  agree_at none v d o = refl
  agree_at (more e t) zero d o = e o
  agree_at (more e t) (suc v) d o = agree_at t v d o

  -- without the first of each
  pub agree_rest : {ls : List ℕ} {xs ys : List ℤ} → Agree s L ls xs ys → Agree s L (rest ls) (rest xs) (rest ys)
  agree_rest none = none
  agree_rest (more e t) = t

  -- a new amount in both, the same one if its level is seen
  pub agree_set : {ls : List ℕ} {xs ys : List ℤ} → Agree s L ls xs ys → (v d : ℕ) (x y : ℤ) → (Sees s L (get_or ls v d) → x ≡ y) → Agree s L ls (set xs v x) (set ys v y)
  agree_set none v d x y h = none
  agree_set (more e t) zero d x y h = more h t
  agree_set (more e t) (suc v) d x y h = more e (agree_set t v d x y h)

  -- a new amount in one of them, where the level is hidden
  pub agree_aside : {ls : List ℕ} {xs ys : List ℤ} → Agree s L ls xs ys → (v d : ℕ) (y : ℤ) → Hidden s L (get_or ls v d) → Agree s L ls xs (set ys v y)
  agree_aside none v d y h = none
  agree_aside (more e t) zero d y h = more (λ o. absurd (h o)) t
  agree_aside (more e t) (suc v) d y h = more e (agree_aside t v d y h)

  -- one amount more on top of each
  pub agree_push : {ls : List ℕ} {xs ys : List ℤ} → Agree s L ls xs ys → (l : ℕ) (x y : ℤ) → length ls < 8 → (Sees s L l → x ≡ y) → Agree s L (l ∷ ls) (pushed x xs) (pushed y ys)
  agree_push {ls} {xs} {ys} t l x y h e =
      let fits = room x xs (omega (arith, agree_length t)) in
      let fits-too = room y ys (omega (arith, agree_length (agree_flip t))) in
      subst₂ (Agree s L (l ∷ ls)) (sym fits) (sym fits-too) (more e t)

  -- Lists that agree place by place, by induction on all three: they are as long.
  pub agree_from : (ls : List ℕ) (xs ys : List ℤ) (d : ℕ) → length xs ≡ length ls → length ys ≡ length ls → ((v : ℕ) → v < length ls → Sees s L (get_or ls v d) → get_or xs v (pos 0) ≡ get_or ys v (pos 0)) → Agree s L ls xs ys
  agree_from [] [] [] d h k e = none
  agree_from [] [] (y ∷ ys) d h k e = absurd (omega arith)
  agree_from [] (x ∷ xs) ys d h k e = absurd (omega arith)
  agree_from (l ∷ ls) [] ys d h k e = absurd (omega arith)
  agree_from (l ∷ ls) (x ∷ xs) [] d h k e = absurd (omega arith)
  agree_from (l ∷ ls) (x ∷ xs) (y ∷ ys) d h k e =
      more (e 0 (omega arith)) (agree_from ls xs ys d (omega arith) (omega arith) (λ v i. e (suc v) (omega arith)))
