-- Where an event starts, one instruction after the other, and which event starts there.
use Rattle.std.proofs.Common.{◌≡◌, ℕ, zero, suc, ◌+◌, ◌<◌, ◌≤◌, List, [], ◌∷◌, ◌++◌, length, get_or, take, drop, Some, None, sym, refl, ap, ◌∙◌, arith}
use Rattle.book.proofs.Parses.{parse_flat}
use Rattle.book.specs.declared.instruction.Instruction.{Instruction}
use Rattle.book.specs.declared.instruction.Instruction.TheVariants.{Stop, Else, End}
use Rattle.book.specs.Forms.{Formed, ends, number, figure, clock, operate, store, wait, one_part, two_parts, turns}
use Rattle.book.specs.Trees.{Code, done, flat, whole, here, parse, stopping}
use Rattle.machine.specs.Events.{event_at}
use Rattle.std.proofs.lemmas.List.{append_assoc, drop_at, drop-drop, length-append}
use Rattle.std.specs.List.{AllByRecursion}

pub event_here : (n p : ℕ) (i : Instruction) (is : List Instruction) → n ≡ 0 → event_at n p (i ∷ is) ≡ Some p
event_here zero p i is e = refl
event_here (suc n) p i is e = absurd (omega arith)

-- no event starts inside a stretch: by induction on how it is formed, as it has no stop
pub event_flat : {nv d h : ℕ} {c : Code} → Formed nv d h c → (n p : ℕ) (is : List Instruction) → event_at (suc n) p (flat c ++ is) ≡ event_at (suc n) (p + length (flat c)) is
event_flat ends n p is = ap (λ q. event_at (suc n) q is) (omega arith)
event_flat (number {c} r f) n p is = event_flat f n (p + 1) is ∙ ap (λ q. event_at (suc n) q is) (omega arith)
event_flat (figure {c} v r f) n p is = event_flat f n (p + 1) is ∙ ap (λ q. event_at (suc n) q is) (omega arith)
event_flat (clock {c} r f) n p is = event_flat f n (p + 1) is ∙ ap (λ q. event_at (suc n) q is) (omega arith)
event_flat (operate {c} f) n p is = event_flat f n (p + 1) is ∙ ap (λ q. event_at (suc n) q is) (omega arith)
event_flat (store {c} v f) n p is = event_flat f n (p + 1) is ∙ ap (λ q. event_at (suc n) q is) (omega arith)
event_flat (wait {c} w f) n p is = event_flat f n (p + 1) is ∙ ap (λ q. event_at (suc n) q is) (omega arith)
event_flat (one_part {f} {c} a b) n p is =
    let t : length (flat f ++ (End ∷ flat c)) ≡ length (flat f) + suc (length (flat c)) = length-append (flat f) (End ∷ flat c) in
    ap (event_at (suc n) (p + 1)) (append_assoc (flat f) (End ∷ flat c) is)
    ∙ event_flat a n (p + 1) (End ∷ (flat c ++ is))
    ∙ event_flat b n (p + 1 + length (flat f) + 1) is
    ∙ ap (λ q. event_at (suc n) q is) (omega (arith, t))
event_flat (two_parts {f} {s = g} {c} a b e) n p is =
    let t : length (flat f ++ (Else ∷ (flat g ++ (End ∷ flat c)))) ≡ length (flat f) + suc (length (flat g ++ (End ∷ flat c))) = length-append (flat f) (Else ∷ (flat g ++ (End ∷ flat c))) in
    let u : length (flat g ++ (End ∷ flat c)) ≡ length (flat g) + suc (length (flat c)) = length-append (flat g) (End ∷ flat c) in
    ap (event_at (suc n) (p + 1)) (append_assoc (flat f) (Else ∷ (flat g ++ (End ∷ flat c))) is)
    ∙ event_flat a n (p + 1) (Else ∷ ((flat g ++ (End ∷ flat c)) ++ is))
    ∙ ap (event_at (suc n) (p + 1 + length (flat f) + 1)) (append_assoc (flat g) (End ∷ flat c) is)
    ∙ event_flat b n (p + 1 + length (flat f) + 1) (End ∷ (flat c ++ is))
    ∙ event_flat e n (p + 1 + length (flat f) + 1 + length (flat g) + 1) is
    ∙ ap (λ q. event_at (suc n) q is) (omega (arith, t, u))
event_flat (turns {f} {c} w a b) n p is =
    let t : length (flat f ++ (End ∷ flat c)) ≡ length (flat f) + suc (length (flat c)) = length-append (flat f) (End ∷ flat c) in
    ap (event_at (suc n) (p + 1)) (append_assoc (flat f) (End ∷ flat c) is)
    ∙ event_flat a n (p + 1) (End ∷ (flat c ++ is))
    ∙ event_flat b n (p + 1 + length (flat f) + 1) is
    ∙ ap (λ q. event_at (suc n) q is) (omega (arith, t))

-- the first event starts where the code does
first_at : (is js : List Instruction) (i : Instruction) (p : ℕ) → event_at 0 p (is ++ (i ∷ js)) ≡ Some p
first_at [] js i p = refl
first_at (x ∷ is) js i p = refl

pub event_is_at : (nv : ℕ) (es : List Code) → AllByRecursion (λ e. Formed nv 8 0 e) es → (n p : ℕ) → n < length es → event_at n p (whole es) ≡ Some (p + length (whole (take n es)))
event_is_at nv [] a n p h = absurd (omega arith)
event_is_at nv (e ∷ es) a zero p h = first_at (flat e) (whole es) Stop p ∙ ap Some (omega arith)
event_is_at nv (e ∷ es) a (suc n) p h =
    let t = length-append (flat e) (Stop ∷ whole (take n es)) in
    event_flat a.0 n p (Stop ∷ whole es)
    ∙ event_is_at nv es a.1 n (p + length (flat e) + 1) (omega arith)
    ∙ ap Some (omega (arith, t))

pub event_is_none : (nv : ℕ) (es : List Code) → AllByRecursion (λ e. Formed nv 8 0 e) es → (n p : ℕ) → length es ≤ n → event_at n p (whole es) ≡ None
event_is_none nv [] a n p h = refl
event_is_none nv (e ∷ es) a zero p h = absurd (omega arith)
event_is_none nv (e ∷ es) a (suc n) p h = event_flat a.0 n p (Stop ∷ whole es) ∙ event_is_none nv es a.1 n (p + length (flat e) + 1) (omega arith)

-- the code behind the first n events is that of the others
behind : (n : ℕ) (es : List Code) → drop (length (whole (take n es))) (whole es) ≡ whole (drop n es)
behind zero es = refl
behind (suc n) [] = refl
behind (suc n) (e ∷ es) =
    let here = flat e ++ (Stop ∷ []) in
    let split : (xs : List Instruction) → flat e ++ (Stop ∷ xs) ≡ here ++ xs = λ xs. sym (append_assoc (flat e) (Stop ∷ []) xs) in
    (λ i. drop (length (split (whole (take n es)) i)) (split (whole es) i))
    ∙ ap (λ k. drop k (here ++ whole es)) (length-append here (whole (take n es)))
    ∙ sym (drop-drop (length (whole (take n es))) (length here) (here ++ whole es))
    ∙ ap (drop (length (whole (take n es)))) (drop_at here (whole es) (length here) refl)
    ∙ behind n es

-- the stretch ahead there is the event
pub event_ahead : (nv : ℕ) (es : List Code) → AllByRecursion (λ e. Formed nv 8 0 e) es → (n : ℕ) → n < length es → here (parse (drop (length (whole (take n es))) (whole es))) ≡ get_or es n done
event_ahead nv es a n h = ap (λ is. here (parse is)) (behind n es) ∙ ahead_of es a n h
  where
    ahead_of : (es : List Code) → AllByRecursion (λ e. Formed nv 8 0 e) es → (n : ℕ) → n < length es → here (parse (whole (drop n es))) ≡ get_or es n done
    ahead_of [] a n h = absurd (omega arith)
    ahead_of (e ∷ es) a zero h = ap here (parse_flat a.0 stopping (whole es))
    ahead_of (e ∷ es) a (suc n) h = ahead_of es a.1 n (omega arith)
