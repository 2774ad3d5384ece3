-- Where a run lands that leaves out a part of sound code, and what is ahead there.
use Rattle.std.proofs.Common.{◌≡◌, ℕ, suc, ◌+◌, ◌<◌, ◌≤◌, Bool, true, false, List, ◌∷◌, ◌++◌, length, get_or, drop, Some, None, sym, refl, ap, ◌∙◌, arith}
use lib.Seq.{drop-append-add}
use Rattle.book.proofs.Ifs.{IfAt, alone, paired, if_at}
use Rattle.book.proofs.Insides.{Inside, else_at, repeat_at}
use Rattle.book.proofs.Looking.{at_if, seek_else, seek_end}
use Rattle.book.proofs.Parses.{parse_flat}
use Rattle.book.specs.declared.instruction.Instruction.{Instruction}
use Rattle.book.specs.declared.instruction.Instruction.TheVariants.{Stop, Number, Figure, Clock, Operate, Store, If, Repeat, Wait, Else, End}
use Rattle.book.specs.Looks.{matching_else, seek}
use Rattle.book.specs.Reads.{sound}
use Rattle.book.specs.Trees.{Ahead, Code, branch, branched, closed, done, elsing, ending, flat, grow, parse}
use Rattle.machine.proofs.Ends.{end_behind_lem}
use Rattle.machine.proofs.Through.{through}
use Rattle.machine.specs.Jumps.{end_behind, end_from, jump_from, leaves_out, target}
use Rattle.steps.specs.Machines.{Machine, emptied}
use Rattle.steps.specs.Runs.{exec}
use Rattle.meter.specs.Meters.{MeterModel}
use Rattle.std.specs.Option.{unwrap_or}
use Rattle.std.proofs.lemmas.List.{drop-drop, length-append, length-drop}

-- what stands k places behind the front of what is left, by its place
behind : (code : List Instruction) (n : ℕ) (front back : List Instruction) → drop n code ≡ front ++ back → (k q : ℕ) → q ≡ n + length front + k → drop q code ≡ drop k back
behind code n front back e k q at =
    let there : q ≡ n + (length front + k) = omega arith in
    ap (λ x. drop x code) there ∙ sym (drop-drop (length front + k) n code) ∙ ap (drop (length front + k)) e ∙ drop-append-add front back k

-- and that place is within the code
within : (code : List Instruction) (n : ℕ) (front back : List Instruction) (i : Instruction) → drop n code ≡ front ++ (i ∷ back) → n + length front + 1 + length back ≡ length code
within code n front back i e = omega (arith, length-drop n code, ap length e, length-append front (i ∷ back))

-- the jump from the instruction at a place
pub jump_at : (code : List Instruction) (p : ℕ) {i : Instruction} → get_or code p Stop ≡ i → jump_from code p ≡ unwrap_or (target code p i) 0
jump_at code p e = ap (λ i. unwrap_or (target code p i) 0) e

-- what an else or a repeat at place p has behind it: a stretch up to its end, and what is ahead behind that
pub record Block (code : List Instruction) (p : ℕ) : Type 0 where
  pub stretch : Code
  pub after : Ahead
  pub inside : parse (drop (p + 1) code) ≡ closed ending stretch after
  pub at_end : parse (drop (end_behind code p) code) ≡ closed ending done after
  pub past_end : parse (drop (end_behind code p + 1) code) ≡ after
  pub forward : p < end_behind code p
  pub fits : end_behind code p + 1 ≤ length code

-- The search for the end stops right behind the stretch.
pub block_at : {nv : ℕ} (code : List Instruction) (p : ℕ) → Inside nv (drop (p + 1) code) → Block code p
block_at code p w =
    let f = flat w.stretch in
    let n = p + 1 in
    let end : end_behind code p ≡ n + length f = ap (end_from 0 n) w.says ∙ end_behind_lem w.formed n w.after in
    let size = within code n f w.after End w.says in
    record {
      stretch = w.stretch;
      after = parse w.after;
      inside = ap parse w.says ∙ parse_flat w.formed ending w.after;
      at_end = ap parse (behind code n f (End ∷ w.after) w.says 0 (end_behind code p) (omega (arith, end)));
      past_end = ap parse (behind code n f (End ∷ w.after) w.says 1 (end_behind code p + 1) (omega (arith, end)));
      forward = omega (arith, end);
      fits = omega (arith, end, size);
    }

-- what an if at place p has behind it: two parts, the second nothing where there is no else, and what is ahead behind
-- its end; from right behind the if the first part runs and the if is left, and so it is for the second from the jump on
pub record Fork (code : List Instruction) (p : ℕ) : Type 0 where
  pub has_else : Bool
  pub first : Code
  pub second : Code
  pub after : Ahead
  pub whole_if : branched (parse (drop (p + 1) code)) ≡ grow (branch has_else first second) after
  pub first_goes : (m : MeterModel) (k : ℕ) (s : Machine) → through m (suc k) (parse (drop (p + 1) code)) s ≡ through m k after (emptied (exec m first s))
  pub second_goes : (m : MeterModel) (k : ℕ) (s : Machine) → through m (suc k) (parse (drop (jump_from code p) code)) s ≡ through m k after (emptied (exec m second s))
  pub forward : p < jump_from code p
  pub fits : jump_from code p ≤ length code

-- The look ahead finds an else right behind the first part, or none, and then the end there.
pub fork_at : {nv : ℕ} (code : List Instruction) (p : ℕ) → get_or code p Stop ≡ If → IfAt nv (drop (p + 1) code) → Fork code p
fork_at code p e (alone {f} after l says q w) =
    let n = p + 1 in
    let F = flat f in
    let size = within code n F after End says in
    let none : matching_else code p ≡ None = at_if code p (omega (arith, size)) e ∙ ap (seek 0 n) says ∙ seek_end q n after in
    let jump : jump_from code p ≡ n + length F = jump_at code p e ∙ ap (λ o. leaves_out o (end_behind code p)) none ∙ ap (end_from 0 n) says ∙ end_behind_lem q n after in
    let ahead : parse (drop n code) ≡ closed ending f (parse after) = ap parse says ∙ parse_flat q ending after in
    let there : parse (drop (jump_from code p) code) ≡ closed ending done (parse after) = ap parse (behind code n F (End ∷ after) says 0 (jump_from code p) (omega (arith, jump))) in
    record {
      has_else = false;
      first = f;
      second = done;
      after = parse after;
      whole_if = ap branched ahead;
      first_goes = λ m k s. ap (λ a. through m (suc k) a s) ahead;
      second_goes = λ m k s. ap (λ a. through m (suc k) a s) there;
      forward = omega (arith, jump);
      fits = omega (arith, jump, size);
    }
fork_at code p e (paired {f} {s = g} after l says q r w x) =
    let n = p + 1 in
    let F = flat f in
    let second = flat g ++ (End ∷ after) in
    let size = within code n F second Else says in
    let found : matching_else code p ≡ Some (n + length F) = at_if code p (omega (arith, size)) e ∙ ap (seek 0 n) says ∙ seek_else q n second in
    let jump : jump_from code p ≡ n + length F + 1 = jump_at code p e ∙ ap (λ o. leaves_out o (end_behind code p)) found in
    let ahead : parse (drop n code) ≡ closed elsing f (closed ending g (parse after)) = ap parse says ∙ parse_flat q elsing second ∙ ap (closed elsing f) (parse_flat r ending after) in
    let there : parse (drop (jump_from code p) code) ≡ closed ending g (parse after) = ap parse (behind code n F (Else ∷ second) says 1 (jump_from code p) (omega (arith, jump))) ∙ parse_flat r ending after in
    record {
      has_else = true;
      first = f;
      second = g;
      after = parse after;
      whole_if = ap branched ahead;
      first_goes = λ m k s. ap (λ a. through m (suc k) a s) ahead;
      second_goes = λ m k s. ap (λ a. through m (suc k) a s) there;
      forward = omega (arith, jump);
      fits = omega (arith, jump, size);
    }

-- Every jump of sound code stays within it, by the instruction at the place.
pub jump_fits : (nv : ℕ) (code : List Instruction) → sound nv code ≡ true → (p : ℕ) → jump_from code p ≤ length code
jump_fits nv code fine p = by (get_or code p Stop) refl
  where
    none : jump_from code p ≡ 0 → jump_from code p ≤ length code
    none z = omega arith

    to_end : jump_from code p ≡ end_behind code p → Block code p → jump_from code p ≤ length code
    to_end t b = omega (arith, b.fits)

    by : (i : Instruction) → get_or code p Stop ≡ i → jump_from code p ≤ length code
    by (Number z) e = none (jump_at code p e)
    by (Figure v) e = none (jump_at code p e)
    by Clock e = none (jump_at code p e)
    by (Operate o) e = none (jump_at code p e)
    by (Store v) e = none (jump_at code p e)
    by If e = (fork_at code p e (if_at nv code p fine e)).fits
    by (Repeat n) e = to_end (jump_at code p e) (block_at code p (repeat_at nv code p n fine e))
    by (Wait n) e = none (jump_at code p e)
    by Else e = to_end (jump_at code p e) (block_at code p (else_at nv code p fine e))
    by End e = none (jump_at code p e)
    by Stop e = none (jump_at code p e)
