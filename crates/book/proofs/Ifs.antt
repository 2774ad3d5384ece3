-- What stands behind an if of sound code: its parts, formed and light, each up to what closes it.
use Rattle.std.proofs.Common.{◌≡◌, ℕ, zero, suc, ◌+◌, ◌*◌, ◌≤◌, max, true, false, List, [], ◌∷◌, ◌++◌, get_or, drop, sym, ap, ◌∙◌, subst, add-one, arith}
use mathlib.Core.Bool.{false≢true}
use Rattle.book.proofs.Factors.{weight_inside}
use Rattle.book.proofs.Sounds.{sound_spoken}
use Rattle.book.specs.declared.instruction.Instruction.{Instruction}
use Rattle.book.specs.declared.instruction.Instruction.TheVariants.{Stop, If, Else, End}
use Rattle.book.specs.Forms.{Formed, ends, number, figure, clock, operate, store, wait, one_part, two_parts, turns}
use Rattle.book.specs.Looks.{is_if}
use Rattle.book.specs.Reads.{sound}
use Rattle.book.specs.Trees.{Code, flat, whole, weight, event_weight, events}
use Rattle.std.proofs.lemmas.List.{append_assoc}
use Rattle.std.specs.List.{AllByRecursion}

-- an if stands before these instructions: with one part, or with two; in each at most eight more blocks may be open
pub data IfAt (nv : ℕ) (is : List Instruction) : Type 0 where
  alone : {d : ℕ} {f : Code} (after : List Instruction) → d ≤ 8 → is ≡ flat f ++ (End ∷ after) → Formed nv d 0 f → weight 1 f ≤ 100000 → IfAt nv is
  paired : {d : ℕ} {f s : Code} (after : List Instruction) → d ≤ 8 → is ≡ flat f ++ (Else ∷ (flat s ++ (End ∷ after))) → Formed nv d 0 f → Formed nv d 0 s → weight 1 f ≤ 100000 → weight 1 s ≤ 100000 → IfAt nv is

-- behind each if of these instructions stand its parts
abbrev pub Ifs : ℕ → List Instruction → Type 0
Ifs nv [] = Unit {0}
Ifs nv (i ∷ is) = (is_if i ≡ true → IfAt nv is) × Ifs nv is

-- an instruction that is no if
none : (nv : ℕ) (is : List Instruction) → false ≡ true → IfAt nv is
none nv is e = absurd (false≢true e)

-- By induction on how the stretch is formed: an if's parts are told by its rule, and their ifs by induction; the inside of
-- a repeat weighs no more alone than in its turns.
pub flat_ifs : {nv d h : ℕ} {c : Code} → Formed nv d h c → d ≤ 8 → weight 1 c ≤ 100000 → (is : List Instruction) → Ifs nv is → Ifs nv (flat c ++ is)
flat_ifs ends r w is t = t
flat_ifs {nv} (number {c} l p) r w is t = (none nv (flat c ++ is), flat_ifs p r (omega arith) is t)
flat_ifs {nv} (figure {c} v l p) r w is t = (none nv (flat c ++ is), flat_ifs p r (omega arith) is t)
flat_ifs {nv} (clock {c} l p) r w is t = (none nv (flat c ++ is), flat_ifs p r (omega arith) is t)
flat_ifs {nv} (operate {c} p) r w is t = (none nv (flat c ++ is), flat_ifs p r (omega arith) is t)
flat_ifs {nv} (store {c} v p) r w is t = (none nv (flat c ++ is), flat_ifs p r (omega arith) is t)
flat_ifs {nv} (wait {c} n p) r w is t = (none nv (flat c ++ is), flat_ifs p r (omega arith) is t)
flat_ifs {nv} (one_part {f} {c} p q) r w is t =
    let after = flat c ++ is in
    let says = append_assoc (flat f) (End ∷ flat c) is in
    let ended : Ifs nv (End ∷ after) = (none nv after, flat_ifs q r (omega arith) is t) in
    (λ _. alone after (omega arith) says p (omega arith), subst (Ifs nv) (sym says) (flat_ifs p (omega arith) (omega arith) (End ∷ after) ended))
flat_ifs {nv} (two_parts {f} {s} {c} p q v) r w is t =
    let after = flat c ++ is in
    let second = flat s ++ (End ∷ after) in
    let says = append_assoc (flat f) (Else ∷ (flat s ++ (End ∷ flat c))) is ∙ ap (λ l. flat f ++ (Else ∷ l)) (append_assoc (flat s) (End ∷ flat c) is) in
    let ended : Ifs nv (End ∷ after) = (none nv after, flat_ifs v r (omega arith) is t) in
    let elsed : Ifs nv (Else ∷ second) = (none nv second, flat_ifs q (omega arith) (omega arith) (End ∷ after) ended) in
    (λ _. paired after (omega arith) says p q (omega arith) (omega arith), subst (Ifs nv) (sym says) (flat_ifs p (omega arith) (omega arith) (Else ∷ second) elsed))
flat_ifs {nv} (turns {n} {f} {c} b p q) r w is t =
    let after = flat c ++ is in
    let inside = weight_inside (1 * max 1 n) f (omega arith) in
    let ended : Ifs nv (End ∷ after) = (none nv after, flat_ifs q r (omega arith) is t) in
    (none nv ((flat f ++ (End ∷ flat c)) ++ is), subst (Ifs nv) (sym (append_assoc (flat f) (End ∷ flat c) is)) (flat_ifs p (omega arith) (omega arith) (End ∷ after) ended))

-- so it is in all events that are formed and light
pub whole_ifs : (nv : ℕ) (es : List Code) → AllByRecursion (λ e. Formed nv 8 0 e) es → AllByRecursion (λ e. event_weight e ≤ 100000) es → Ifs nv (whole es)
whole_ifs nv [] a l = tt
whole_ifs nv (e ∷ es) a l =
    let light : event_weight e ≤ 100000 = l.0 in
    flat_ifs a.0 (omega arith) (omega arith) (Stop ∷ whole es) (none nv (whole es), whole_ifs nv es a.1 l.1)

-- the if at a place
ifs_at : (nv : ℕ) (is : List Instruction) (p : ℕ) → Ifs nv is → is_if (get_or is p Stop) ≡ true → IfAt nv (drop (suc p) is)
ifs_at nv [] p t e = absurd (false≢true e)
ifs_at nv (i ∷ is) zero t e = t.0 e
ifs_at nv (i ∷ is) (suc p) t e = ifs_at nv is p t.1 e

-- What stands behind the if at a place of sound code.
pub if_at : (nv : ℕ) (code : List Instruction) (p : ℕ) → sound nv code ≡ true → get_or code p Stop ≡ If → IfAt nv (drop (p + 1) code)
if_at nv code p s e =
    let w = sound_spoken nv code s in
    let all : Ifs nv code = subst (Ifs nv) w.code_is (whole_ifs nv (events code) w.formed w.light) in
    subst (λ k. IfAt nv (drop k code)) (sym (add-one p)) (ifs_at nv code p all (ap is_if e))
