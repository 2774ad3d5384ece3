-- A line can be read back: its words end at the first space or line feed behind them.
use Rattle.std.proofs.Common.{◌≡◌, ℕ, ◌+◌, ◌%◌, ◌^◌, ◌<◌, ◌≤◌, List, [], ◌∷◌, ◌++◌, codes, decimal, Ok, Err, refl, arith}
use Rattle.line.specs.Lines.{Readable}
use Rattle.refusal.specs.declared.Layer.TheVariants.{Reader, Check, Engine, Maker}
use Rattle.refusal.specs.declared.Layer.{Layer}
use Rattle.refusal.specs.declared.Refusal.{Refusal}
use Rattle.refusal.specs.Layers.{layer_name}
use Rattle.std.proofs.lemmas.Fmt.{decimal_by_steps, decimal_injective}
use Rattle.std.proofs.lemmas.List.{append_cancel_right}

-- A word: no byte of it is a space or a line feed.
abbrev Word : List ℕ → Type 0
Word [] = Unit {0}
Word (x ∷ xs) = (33 ≤ x) × Word xs

word_append : (xs ys : List ℕ) → Word xs → Word ys → Word (xs ++ ys)
word_append [] ys p q = q
word_append (x ∷ xs) ys p q = (p.0, word_append xs ys p.1 q)

word_decimal : (n : ℕ) → n < 2 ^ 32 → Word (decimal n)
word_decimal n small =
    decimal_by_steps (λ _ ds. Word ds) (λ m _. (omega arith, tt)) (λ m ds _ front. word_append ds ((48 + m % 10) ∷ []) front (omega arith, tt)) n (omega arith)

word_layer : (layer : Layer) → Word (layer_name layer)
word_layer Reader = (omega arith, (omega arith, (omega arith, (omega arith, (omega arith, (omega arith, tt))))))
word_layer Check = (omega arith, (omega arith, (omega arith, (omega arith, (omega arith, tt)))))
word_layer Engine = (omega arith, (omega arith, (omega arith, (omega arith, (omega arith, (omega arith, tt))))))
word_layer Maker = (omega arith, (omega arith, (omega arith, (omega arith, (omega arith, tt)))))

-- Where two texts begin with a word and a space, equal texts have equal words and equal rests.
split : (xs ys rs ss : List ℕ) → Word xs → Word ys → xs ++ (32 ∷ rs) ≡ ys ++ (32 ∷ ss) → (xs ≡ ys) × (rs ≡ ss)
split [] [] rs ss p q e = (refl, cc)
split [] (y ∷ ys) rs ss p q e = let h : 32 ≡ y = cc in absurd (omega (arith, q.0))
split (x ∷ xs) [] rs ss p q e = let h : x ≡ 32 = cc in absurd (omega (arith, p.0))
split (x ∷ xs) (y ∷ ys) rs ss p q e =
    let h : x ≡ y = cc in
    let more = split xs ys rs ss p.1 q.1 cc in
    let rest : xs ≡ ys = more.0 in
    (cc, more.1)

-- Texts whose first bytes differ are not equal.
apart : {x y : ℕ} {xs ys : List ℕ} → x ∷ xs ≡ y ∷ ys → (x ≡ y → ⊥) → ⊥
apart e differ = differ cc

same_layer : (a b : Layer) → layer_name a ≡ layer_name b → a ≡ b
same_layer Reader Reader e = refl
same_layer Reader Check e = absurd (apart e (omega arith))
same_layer Reader Engine e = absurd (apart e (omega arith))
same_layer Reader Maker e = absurd (apart e (omega arith))
same_layer Check Reader e = absurd (apart e (omega arith))
same_layer Check Check e = refl
same_layer Check Engine e = absurd (apart e (omega arith))
same_layer Check Maker e = absurd (apart e (omega arith))
same_layer Engine Reader e = absurd (apart e (omega arith))
same_layer Engine Check e = absurd (apart e (omega arith))
same_layer Engine Engine e = refl
same_layer Engine Maker e = absurd (apart e (omega arith))
same_layer Maker Reader e = absurd (apart e (omega arith))
same_layer Maker Check e = absurd (apart e (omega arith))
same_layer Maker Engine e = absurd (apart e (omega arith))
same_layer Maker Maker e = refl

same_refusal : (a b : Refusal) → a.number ≡ b.number → a.layer ≡ b.layer → a.place ≡ b.place → a ≡ b
same_refusal a b number layer place = λ i. record { number = number i; layer = layer i; place = place i }

same_number : (m n : ℕ) → m < 2 ^ 32 → n < 2 ^ 32 → decimal m ++ codes "\n" ≡ decimal n ++ codes "\n" → m ≡ n
same_number m n p q e = decimal_injective m n (omega arith) (omega arith) (append_cancel_right (decimal m) (decimal n) (codes "\n") e)

-- What stands behind the layer and its space, and behind the number and its space.
abbrev behind_layer : Refusal → List ℕ
behind_layer a = decimal a.place ++ codes "\n"

abbrev behind_number : Refusal → List ℕ
behind_number a = layer_name a.layer ++ (32 ∷ behind_layer a)

pub readable : Readable
readable (Ok m) (Ok n) p q e =
    let numbers : decimal m ++ codes "\n" ≡ decimal n ++ codes "\n" = cc in
    let h : m ≡ n = same_number m n p q numbers in
    cc
readable (Ok m) (Err b) p q e = absurd (apart e (omega arith))
readable (Err a) (Ok n) p q e = absurd (apart e (omega arith))
readable (Err a) (Err b) p q e =
    let first = split (decimal a.number) (decimal b.number) (behind_number a) (behind_number b) (word_decimal a.number (omega arith)) (word_decimal b.number (omega arith)) cc in
    let second = split (layer_name a.layer) (layer_name b.layer) (behind_layer a) (behind_layer b) (word_layer a.layer) (word_layer b.layer) first.1 in
    let same : a ≡ b =
    same_refusal a b
    (decimal_injective a.number b.number (omega arith) (omega arith) first.0)
    (same_layer a.layer b.layer second.0)
    (same_number a.place b.place p.1 q.1 second.1) in
    cc
