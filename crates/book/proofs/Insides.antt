-- What stands behind a repeat and behind an else of sound code: a formed stretch, up to the end that closes it.
use Rattle.std.proofs.Common.{◌≡◌, ℕ, zero, suc, ◌+◌, true, List, [], ◌∷◌, ◌++◌, get_or, drop, sym, ap, ◌∙◌, subst, add-one}
use Rattle.book.proofs.Sounds.{sound_spoken}
use Rattle.book.specs.declared.instruction.Instruction.{Instruction}
use Rattle.book.specs.declared.instruction.Instruction.TheVariants.{Stop, Repeat, Else, End}
use Rattle.book.specs.Forms.{Formed, ends, number, figure, clock, operate, store, wait, one_part, two_parts, turns}
use Rattle.book.specs.Reads.{sound}
use Rattle.book.specs.Trees.{Code, flat, whole, events}
use Rattle.std.proofs.lemmas.List.{append_assoc}
use Rattle.std.specs.List.{AllByRecursion}

-- these instructions begin with a formed stretch and the end that closes it
pub record Inside (nv : ℕ) (is : List Instruction) : Type 0 where
  pub room : ℕ
  pub stretch : Code
  pub after : List Instruction
  pub formed : Formed nv room 0 stretch
  pub says : is ≡ flat stretch ++ (End ∷ after)

-- what is known of the instructions behind a given one
abbrev pub Behind : ℕ → Instruction → List Instruction → Type 0
Behind nv (Repeat n) is = Inside nv is
Behind nv Else is = Inside nv is
Behind nv _ is = Unit {0}

-- it is known behind each of these instructions
abbrev pub Insides : ℕ → List Instruction → Type 0
Insides nv [] = Unit {0}
Insides nv (i ∷ is) = Behind nv i is × Insides nv is

-- a formed stretch and its end stand there
closes : {nv d : ℕ} {f : Code} → Formed nv d 0 f → (is after : List Instruction) → is ≡ flat f ++ (End ∷ after) → Inside nv is
closes {d} {f} p is after says = record { room = d; stretch = f; after = after; formed = p; says = says }

-- By induction on how the stretch is formed: the inside of a repeat and the second part of an if are told by their rules.
pub flat_insides : {nv d h : ℕ} {c : Code} → Formed nv d h c → (is : List Instruction) → Insides nv is → Insides nv (flat c ++ is)
flat_insides ends is t = t
flat_insides (number l p) is t = (tt, flat_insides p is t)
flat_insides (figure v l p) is t = (tt, flat_insides p is t)
flat_insides (clock l p) is t = (tt, flat_insides p is t)
flat_insides (operate p) is t = (tt, flat_insides p is t)
flat_insides (store v p) is t = (tt, flat_insides p is t)
flat_insides (wait n p) is t = (tt, flat_insides p is t)
flat_insides {nv} (one_part {f} {c} p q) is t =
    let after = flat c ++ is in
    let ended : Insides nv (End ∷ after) = (tt, flat_insides q is t) in
    (tt, subst (Insides nv) (sym (append_assoc (flat f) (End ∷ flat c) is)) (flat_insides p (End ∷ after) ended))
flat_insides {nv} (two_parts {f} {s} {c} p q v) is t =
    let after = flat c ++ is in
    let second = flat s ++ (End ∷ after) in
    let says = append_assoc (flat f) (Else ∷ (flat s ++ (End ∷ flat c))) is ∙ ap (λ l. flat f ++ (Else ∷ l)) (append_assoc (flat s) (End ∷ flat c) is) in
    let ended : Insides nv (End ∷ after) = (tt, flat_insides v is t) in
    let elsed : Insides nv (Else ∷ second) = (closes q second after (λ i. second), flat_insides q (End ∷ after) ended) in
    (tt, subst (Insides nv) (sym says) (flat_insides p (Else ∷ second) elsed))
flat_insides {nv} (turns {n} {f} {c} b p q) is t =
    let after = flat c ++ is in
    let says = append_assoc (flat f) (End ∷ flat c) is in
    let ended : Insides nv (End ∷ after) = (tt, flat_insides q is t) in
    (closes p ((flat f ++ (End ∷ flat c)) ++ is) after says, subst (Insides nv) (sym says) (flat_insides p (End ∷ after) ended))

-- so it is in all events that are formed
pub whole_insides : (nv : ℕ) (es : List Code) → AllByRecursion (λ e. Formed nv 8 0 e) es → Insides nv (whole es)
whole_insides nv [] a = tt
whole_insides nv (e ∷ es) a = flat_insides a.0 (Stop ∷ whole es) (tt, whole_insides nv es a.1)

-- behind the instruction at a place
behind_place : (nv : ℕ) (is : List Instruction) (p : ℕ) → Insides nv is → Behind nv (get_or is p Stop) (drop (suc p) is)
behind_place nv [] p t = tt
behind_place nv (i ∷ is) zero t = t.0
behind_place nv (i ∷ is) (suc p) t = behind_place nv is p t.1

-- behind the instruction at a place of sound code
behind_sound : (nv : ℕ) (code : List Instruction) (p : ℕ) → sound nv code ≡ true → Behind nv (get_or code p Stop) (drop (p + 1) code)
behind_sound nv code p s =
    let w = sound_spoken nv code s in
    let all : Insides nv code = subst (Insides nv) w.code_is (whole_insides nv (events code) w.formed) in
    subst (λ k. Behind nv (get_or code p Stop) (drop k code)) (sym (add-one p)) (behind_place nv code p all)

-- What stands behind the repeat at a place of sound code.
pub repeat_at : (nv : ℕ) (code : List Instruction) (p n : ℕ) → sound nv code ≡ true → get_or code p Stop ≡ Repeat n → Inside nv (drop (p + 1) code)
repeat_at nv code p n s e = subst (λ i. Behind nv i (drop (p + 1) code)) e (behind_sound nv code p s)

-- What stands behind the else at a place of sound code.
pub else_at : (nv : ℕ) (code : List Instruction) (p : ℕ) → sound nv code ≡ true → get_or code p Stop ≡ Else → Inside nv (drop (p + 1) code)
else_at nv code p s e = subst (λ i. Behind nv i (drop (p + 1) code)) e (behind_sound nv code p s)
