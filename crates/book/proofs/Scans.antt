-- From trees to a scan: the instructions of formed events fit where they stand, and a stop stands last.
use Rattle.std.proofs.Common.{◌≡◌, ℕ, suc, ◌+◌, ◌-◌, true, ltb, List, [], ◌∷◌, ◌++◌, map, length, Ok, sym, refl, ap, ◌∙◌, subst, add-one, arith}
use Rattle.book.proofs.Steps.{Fitting, scan_fits}
use Rattle.book.specs.declared.instruction.Instruction.{Instruction}
use Rattle.book.specs.declared.instruction.Instruction.TheVariants.{Stop, Else, End}
use Rattle.book.specs.declared.block.Block.{Block}
use Rattle.book.specs.declared.block.Block.TheVariants.{FirstPart, SecondPart, Turns}
use Rattle.book.specs.Forms.{Formed, ends, number, figure, clock, operate, store, wait, one_part, two_parts, turns}
use Rattle.book.specs.Reads.{raw, scan, stops_last}
use Rattle.book.specs.Trees.{Code, flat, whole}
use Rattle.std.proofs.lemmas.List.{append_assoc}
use Rattle.std.proofs.lemmas.Bool.{lt-ltb}
use Rattle.std.specs.List.{AllByRecursion}

-- something is open inside a block
inside : (b : Block) (bs : List Block) → ltb 0 (length (b ∷ bs)) ≡ true
inside b bs = lt-ltb 0 (length (b ∷ bs)) (omega arith)

-- By induction on how the stretch is formed; behind a block's end the outer blocks are open again.
pub flat_fits : {nv d h : ℕ} {c : Code} → Formed nv d h c → (bs : List Block) (is : List Instruction) → length bs + d ≡ 8 → Fitting nv 0 bs is → Fitting nv h bs (flat c ++ is)
flat_fits ends bs is r f = f
flat_fits {nv} (number {h} {c} l p) bs is r f = (tt, lt-ltb h 8 l, refl, subst (λ x. Fitting nv x bs (flat c ++ is)) (sym (add-one h)) (flat_fits p bs is r f))
flat_fits {nv} (figure {h} {c} v l p) bs is r f = (v, lt-ltb h 8 l, refl, subst (λ x. Fitting nv x bs (flat c ++ is)) (sym (add-one h)) (flat_fits p bs is r f))
flat_fits {nv} (clock {h} {c} l p) bs is r f = (tt, lt-ltb h 8 l, refl, subst (λ x. Fitting nv x bs (flat c ++ is)) (sym (add-one h)) (flat_fits p bs is r f))
flat_fits {nv} (operate {h} {c} p) bs is r f =
    let one_less : suc h ≡ suc (suc h) - 1 = omega arith in
    (tt, lt-ltb 1 (suc (suc h)) (omega arith), refl, subst (λ x. Fitting nv x bs (flat c ++ is)) one_less (flat_fits p bs is r f))
flat_fits (store v p) bs is r f = (v, refl, refl, flat_fits p bs is r f)
flat_fits (wait n p) bs is r f = (n, refl, refl, flat_fits p bs is r f)
flat_fits {nv} (one_part {f = a} {c} p q) bs is r f =
    let after : Fitting nv 0 (FirstPart ∷ bs) (End ∷ (flat c ++ is)) = (tt, refl, inside FirstPart bs, flat_fits q bs is r f) in (
      tt,
      refl,
      lt-ltb (length bs) 8 (omega arith),
      subst (Fitting nv 0 (FirstPart ∷ bs)) (sym (append_assoc (flat a) (End ∷ flat c) is)) (flat_fits p (FirstPart ∷ bs) (End ∷ (flat c ++ is)) (omega arith) after),
    )
flat_fits {nv} (two_parts {f = a} {s} {c} p q t) bs is r f =
    let after : Fitting nv 0 (SecondPart ∷ bs) (End ∷ (flat c ++ is)) = (tt, refl, inside SecondPart bs, flat_fits t bs is r f) in
    let second : Fitting nv 0 (SecondPart ∷ bs) (flat s ++ (End ∷ (flat c ++ is))) = flat_fits q (SecondPart ∷ bs) (End ∷ (flat c ++ is)) (omega arith) after in
    let else-on : Fitting nv 0 (FirstPart ∷ bs) (Else ∷ (flat s ++ (End ∷ (flat c ++ is)))) = (tt, refl, refl, second) in (
      tt,
      refl,
      lt-ltb (length bs) 8 (omega arith),
      subst (Fitting nv 0 (FirstPart ∷ bs))
          (ap (λ l. flat a ++ (Else ∷ l)) (sym (append_assoc (flat s) (End ∷ flat c) is)) ∙ sym (append_assoc (flat a) (Else ∷ (flat s ++ (End ∷ flat c))) is))
          (flat_fits p (FirstPart ∷ bs) (Else ∷ (flat s ++ (End ∷ (flat c ++ is)))) (omega arith) else-on),
    )
flat_fits {nv} (turns {f = a} {c} n p q) bs is r f =
    let after : Fitting nv 0 (Turns ∷ bs) (End ∷ (flat c ++ is)) = (tt, refl, inside Turns bs, flat_fits q bs is r f) in (
      n,
      refl,
      lt-ltb (length bs) 8 (omega arith),
      subst (Fitting nv 0 (Turns ∷ bs)) (sym (append_assoc (flat a) (End ∷ flat c) is)) (flat_fits p (Turns ∷ bs) (End ∷ (flat c ++ is)) (omega arith) after),
    )

-- the instructions of formed events fit, each event from an empty stack on
pub whole_fits : (nv : ℕ) (es : List Code) → AllByRecursion (λ e. Formed nv 8 0 e) es → Fitting nv 0 [] (whole es)
whole_fits nv [] a = tt
whole_fits nv (e ∷ es) a = flat_fits a.0 [] (Stop ∷ whole es) refl (tt, refl, refl, whole_fits nv es a.1)

-- formed events, written as bytes, are scanned to themselves
pub scan_whole : (nv p : ℕ) (es : List Code) → AllByRecursion (λ e. Formed nv 8 0 e) es → scan nv p 0 [] (map raw (whole es)) ≡ Ok (whole es)
scan_whole nv p es a = scan_fits nv p 0 [] (whole es) (whole_fits nv es a)

-- only what stands last counts
stops_behind : (xs : List Instruction) (y : Instruction) (ys : List Instruction) → stops_last (xs ++ (y ∷ ys)) ≡ stops_last (y ∷ ys)
stops_behind [] y ys = refl
stops_behind (x ∷ []) y ys = refl
stops_behind (x ∷ z ∷ xs) y ys = stops_behind (z ∷ xs) y ys

-- a stop in front changes nothing
stops_from : (is : List Instruction) → stops_last is ≡ true → stops_last (Stop ∷ is) ≡ true
stops_from [] s = refl
stops_from (i ∷ is) s = s

-- events end with a stop
pub whole_stops : (es : List Code) → stops_last (whole es) ≡ true
whole_stops [] = refl
whole_stops (e ∷ es) = stops_behind (flat e) Stop (whole es) ∙ stops_from (whole es) (whole_stops es)
