-- What is asked after the last instruction, said of the instructions one after the other.
use Rattle.std.proofs.Common.{◌≡◌, ℕ, suc, ◌-◌, Bool, true, false, cond, List, [], ◌∷◌, length, Some, None, Ok, Err, Option, Result, sym, refl, ap, ◌∙◌, arith}
use Rattle.book.proofs.Shapes.{scanned_events}
use Rattle.book.proofs.Weights.{heaviest_heavy}
use Rattle.refusal.specs.declared.reader.ReaderFault.{ReaderFault}
use Rattle.refusal.specs.declared.reader.ReaderFault.TheVariants.{Nesting}
use Rattle.book.specs.declared.instruction.Instruction.{Instruction}
use Rattle.book.specs.Reads.{Raw, finished, heavy, is_stop, light, scan, stops_last}
use Rattle.book.specs.Trees.{events}
use Rattle.book.specs.Weighs.{closing_fault, heaviest, weight_fault}
use Rattle.std.proofs.lemmas.Option.{same_Some}
use Rattle.std.specs.Borrow.{Bor}
use Rattle.std.specs.List.{slice_get}
use Rattle.std.specs.Option.{MatchOption, option_copied}

-- whether a list ends with a stop, asked of its last item
pub asked_last : (is : List Instruction) (o : Option (Bor Instruction)) (r : Bool) → option_copied o ≡ slice_get is (length is - 1) → MatchOption o (r ≡ true) (λ i. r ≡ is_stop i.now) → r ≡ stops_last is
asked_last [] None r e m = m
asked_last [] (Some i) r e m = let e' : Some i.now ≡ None = e in cc
asked_last (i ∷ []) None r e m = let e' : None ≡ Some i = e in cc
asked_last (i ∷ []) (Some j) r e m = m ∙ ap is_stop (same_Some _ _ e)
asked_last (i ∷ j ∷ is) o r e m =
    let less : suc (suc (length is)) - 1 ≡ suc (suc (length is) - 1) = omega arith in
    asked_last (j ∷ is) o r (e ∙ ap (slice_get (i ∷ j ∷ is)) less) m

-- code of which each instruction is right, with what is wrong at its end
abbrev pub closing : List Instruction → Option ReaderFault → Result (List Instruction) ReaderFault
closing is None = Ok is
closing is (Some f) = Err f

pub finished_closing : (nv : ℕ) (rs : List Raw) (is : List Instruction) → scan nv 0 0 [] rs ≡ Ok is → finished (scan nv 0 0 [] rs) ≡ closing is (closing_fault is)
finished_closing nv rs is e = ap finished e ∙ go (stops_last is) refl
  where
    lights : (o : Option ℕ) → light o is ≡ closing is (weight_fault o)
    lights None = refl
    lights (Some p) = refl

    go : (b : Bool) → stops_last is ≡ b → cond (stops_last is) (light (heavy 0 (events is)) is) (Err (Nesting (length is))) ≡ closing is (closing_fault is)
    go true s =
        let w = scanned_events nv rs is e s in
        let same : heavy 0 (events is) ≡ heaviest 0 0 0 [] is = sym (heaviest_heavy nv (events is) w.formed 0) ∙ ap (heaviest 0 0 0 []) w.code_is in
        rw s (ap (λ o. light o is) same ∙ lights (heaviest 0 0 0 [] is))
    go false s = rw s
