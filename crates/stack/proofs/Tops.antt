-- A list kept in the first n places of an array, the last one first.
use Rattle.std.proofs.Common.{◌≡◌, ℕ, zero, suc, ◌+◌, ◌-◌, ◌<◌, ◌≤◌, List, [], ◌∷◌, reverse, length, get_or, take, drop, set, Some, None, sym, refl, ap, ◌∙◌, arith}
use Rattle.stack.specs.declared.eight.Stack.{Stack}
use Rattle.stack.specs.Stacks.{first, held, rest}
use Rattle.std.proofs.lemmas.List.{length-reverse, length-take-le, take_more, take_more_set, reverse-append, drop_all}

module _ {T : Type 0} (xs : List T) (n : ℕ) where
  pub height : n ≤ length xs → length (reverse (take n xs)) ≡ n
  height h = length-reverse (take n xs) ∙ length-take-le n xs h

  pub more : (y : T) → n < length xs → reverse (take (n + 1) (set xs n y)) ≡ y ∷ reverse (take n xs)
  more y h = ap reverse (take_more_set xs n y h) ∙ reverse-append (take n xs) (y ∷ [])

  pub less : (d : T) → 0 < n → n ≤ length xs → reverse (take n xs) ≡ get_or xs (n - 1) d ∷ reverse (take (n - 1) xs)
  less d p h =
      let back : n - 1 + 1 ≡ n = omega arith in
      ap (λ k. reverse (take k xs)) (sym back) ∙ ap reverse (take_more xs (n - 1) d (omega arith)) ∙ reverse-append (take (n - 1) xs) (get_or xs (n - 1) d ∷ [])

pub fewer : {T : Type 0} (xs : List T) (n : ℕ) → 0 < n → n ≤ length xs → rest (reverse (take n xs)) ≡ reverse (take (n - 1) xs)
fewer [] n p h = absurd (omega arith)
fewer (x ∷ xs) n p h = ap rest (less (x ∷ xs) n x p h)

pub drop_one : {T : Type 0} (l : List T) → drop 1 l ≡ rest l
drop_one [] = refl
drop_one (x ∷ l) = refl

-- an item off the top and one fewer above
dropped : {T : Type 0} (xs : List T) (n a : ℕ) → 0 < n → n ≤ length xs → drop (suc a) (reverse (take n xs)) ≡ drop a (reverse (take (n - 1) xs))
dropped [] n a p h = absurd (omega arith)
dropped (x ∷ xs) n a p h = ap (drop (suc a)) (less (x ∷ xs) n x p h)

pub under_some : {T : Type 0} (xs : List T) (n a : ℕ) (d : T) → a < n → n ≤ length xs → first (drop a (reverse (take n xs))) ≡ Some (get_or xs (n - 1 - a) d)
under_some xs n zero d p h =
    let back : n - 1 ≡ n - 1 - 0 = omega arith in
    ap first (less xs n d (omega arith) h) ∙ ap (λ k. Some (get_or xs k d)) back
under_some xs n (suc a) d p h =
    let back : n - 1 - 1 - a ≡ n - 1 - suc a = omega arith in
    ap first (dropped xs n a (omega arith) h) ∙ under_some xs (n - 1) a d (omega arith) (omega arith) ∙ ap (λ k. Some (get_or xs k d)) back

-- nothing stands under the last item
beyond : {T : Type 0} (l : List T) (a : ℕ) → length l ≤ a → first (drop a l) ≡ None
beyond l a h = ap first (drop_all a l h)

pub under_none : {T : Type 0} (xs : List T) (n a : ℕ) → n ≤ a → n ≤ length xs → first (drop a (reverse (take n xs))) ≡ None
under_none xs n a p h = beyond (reverse (take n xs)) a (omega (arith, height xs n h))

-- a stack never holds more than eight
pub few : {T : Type 0} (s : Stack T) → length (held s) ≤ 8
few s = omega (arith, height s.items s.count (omega arith))
