-- The event that was looked for in sound code.
use Rattle.std.proofs.Common.{◌≡◌, ℕ, zero, suc, ◌+◌, ◌<◌, ◌≤◌, true, List, [], ◌∷◌, length, get_or, take, drop, Some, None, sym, ap, ◌∙◌, subst, ⊎_elim, arith}
use Rattle.book.proofs.Outcomes.{none_some, some_none, some_same}
use Rattle.book.proofs.Sounds.{sound_spoken}
use Rattle.book.specs.declared.instruction.Instruction.{Instruction}
use Rattle.book.specs.declared.instruction.Instruction.TheVariants.{Stop}
use Rattle.book.specs.Forms.{Formed}
use Rattle.book.specs.Reads.{sound}
use Rattle.book.specs.Trees.{Code, done, events, flat, here, parse, whole}
use Rattle.machine.proofs.Starts.{event_ahead, event_is_at, event_is_none}
use Rattle.machine.specs.Events.{event_at}
use Rattle.std.proofs.lemmas.List.{length-append}
use Rattle.std.proofs.lemmas.Bool.{cases_lt}
use Rattle.std.specs.List.{AllByRecursion}

-- event n starts at place p of code that is the code of these events
pub record FoundAt (es : List Code) (code : List Instruction) (n p : ℕ) : Type 0 where
  pub within : n < length es
  pub place : p ≤ length code
  pub stretch : here (parse (drop p code)) ≡ get_or es n done

-- the code of the first events is no longer than that of all
whole_split : (n : ℕ) (es : List Code) → length (whole (take n es)) ≤ length (whole es)
whole_split zero es = omega arith
whole_split (suc n) [] = omega arith
whole_split (suc n) (e ∷ es) = omega (arith, length-append (flat e) (Stop ∷ whole (take n es)), length-append (flat e) (Stop ∷ whole es), whole_split n es)

found : (nv : ℕ) (es : List Code) → AllByRecursion (λ e. Formed nv 8 0 e) es → (n p : ℕ) → event_at n 0 (whole es) ≡ Some p → FoundAt es (whole es) n p
found nv es a n p e = ⊎_elim there none (cases_lt n (length es))
  where
    there : n < length es → FoundAt es (whole es) n p
    there h =
        let at : length (whole (take n es)) ≡ p = omega (arith, some_same (0 + length (whole (take n es))) p (sym (event_is_at nv es a n 0 h) ∙ e)) in
        record {
          within = h;
          place = omega (arith, at, whole_split n es);
          stretch = ap (λ q. here (parse (drop q (whole es)))) (sym at) ∙ event_ahead nv es a n h;
        }

    none : length es ≤ n → FoundAt es (whole es) n p
    none h = absurd (none_some p (sym (event_is_none nv es a n 0 h) ∙ e))

missing : (nv : ℕ) (es : List Code) → AllByRecursion (λ e. Formed nv 8 0 e) es → (n : ℕ) → event_at n 0 (whole es) ≡ None → length es ≤ n
missing nv es a n e = ⊎_elim (λ h. absurd (some_none (0 + length (whole (take n es))) (sym (event_is_at nv es a n 0 h) ∙ e))) (λ h. h) (cases_lt n (length es))

pub event_found : (nv : ℕ) (code : List Instruction) → sound nv code ≡ true → (n p : ℕ) → event_at n 0 code ≡ Some p → FoundAt (events code) code n p
event_found nv code s n p e =
    let w = sound_spoken nv code s in
    subst (λ is. FoundAt (events code) is n p) w.code_is (found nv (events code) w.formed n p (ap (event_at n 0) w.code_is ∙ e))

pub event_missing : (nv : ℕ) (code : List Instruction) → sound nv code ≡ true → (n : ℕ) → event_at n 0 code ≡ None → length (events code) ≤ n
event_missing nv code s n e = let w = sound_spoken nv code s in missing nv (events code) w.formed n (ap (event_at n 0) w.code_is ∙ e)
