-- How a run goes on from each place of sound code, by the instruction that stands there.
use Rattle.std.proofs.Common.{◌≡◌, ℕ, suc, ◌+◌, ◌-◌, ◌<◌, ◌≤◌, true, false, cond, List, length, get_or, drop, sym, ap, ◌∙◌, add-one, arith}
use Rattle.book.proofs.Ifs.{if_at}
use Rattle.book.proofs.Insides.{else_at, repeat_at}
use Rattle.book.specs.declared.instruction.Instruction.{Instruction}
use Rattle.book.specs.declared.instruction.Instruction.TheVariants.{Stop, If, Repeat, Else, End}
use Rattle.book.specs.Reads.{sound}
use Rattle.book.specs.Trees.{Ahead, before, closed, done, elsing, grow, here, looped, parse, plain}
use Rattle.machine.proofs.Landings.{Fork, block_at, fork_at, jump_at}
use Rattle.machine.proofs.Through.{through, through_branch, through_else, through_loop, through_nothing, through_plain, through_stop}
use Rattle.steps.specs.Amounts.{is_zero}
use Rattle.machine.specs.Jumps.{end_behind, jump_from}
use Rattle.steps.specs.Machines.{Machine, amount_at, emptied, perform}
use Rattle.steps.specs.Runs.{exec, times}
use Rattle.meter.specs.Meters.{MeterModel}
use Rattle.std.proofs.lemmas.List.{at_drop_all, at_drop_more}

-- the machine after a run that goes on from place p with k ifs open
abbrev pub goes : MeterModel → List Instruction → ℕ → ℕ → Machine → Machine
goes m code k p s = through m k (parse (drop p code)) s

-- a turn of the repeat of n turns at place p
abbrev pub turn : MeterModel → List Instruction → ℕ → ℕ → Machine → Machine
turn m code p n t = exec m (here (parse (drop (p + 1) code))) (perform m (Repeat n) t)

module _ (m : MeterModel) (code : List Instruction) where
  -- past the last instruction nothing is done
  pub goes_past : (k p : ℕ) (s : Machine) → length code ≤ p → goes m code k p s ≡ s
  goes_past k p s h = at_drop_all (λ is. through m k (parse is) s) code p h ∙ through_nothing m k s

  -- the instruction at a place, in front of what is ahead behind it
  goes_at : (k p : ℕ) (i : Instruction) (s : Machine) → p < length code → get_or code p Stop ≡ i → goes m code k p s ≡ through m k (before i (parse (drop (p + 1) code))) s
  goes_at k p i s h e =
      at_drop_more (λ is. through m k (parse is) s) code p Stop h ∙ ap (λ j. through m k (before j (parse (drop (p + 1) code))) s) e

  -- an instruction that is no block's is done, and the run goes on behind it
  pub goes_plain : (i : Instruction) → ((a : Ahead) → before i a ≡ grow (plain i) a) → (k p : ℕ) (s : Machine) → p < length code → get_or code p Stop ≡ i → goes m code k p s ≡ goes m code k (p + 1) (perform m i s)
  goes_plain i is_plain k p s h e =
      goes_at k p i s h e
      ∙ ap (λ a. through m k a s) (is_plain (parse (drop (p + 1) code)))
      ∙ through_plain m k i (parse (drop (p + 1) code)) s

  -- an end leaves the innermost if
  pub goes_end : (k p : ℕ) (s : Machine) → p < length code → get_or code p Stop ≡ End → goes m code (suc k) p s ≡ goes m code k (p + 1) (emptied s)
  goes_end k p s h e = goes_at (suc k) p End s h e

  -- and where none is open it is the last that a run comes to
  pub goes_last : (p : ℕ) (s : Machine) → p < length code → get_or code p Stop ≡ End → goes m code 0 p s ≡ s
  goes_last p s h e = goes_at 0 p End s h e

  -- a stop is the last that a run comes to
  pub goes_stop : (k p : ℕ) (s : Machine) → p < length code → get_or code p Stop ≡ Stop → goes m code k p s ≡ s
  goes_stop k p s h e = goes_at k p Stop s h e ∙ through_stop m k (parse (drop (p + 1) code)) s

  module _ (nv : ℕ) (fine : sound nv code ≡ true) where
    -- the parts of an if
    fork : (p : ℕ) → get_or code p Stop ≡ If → Fork code p
    fork p e = fork_at code p e (if_at nv code p fine e)

    -- An if runs the part that is chosen, and goes on behind its end.
    goes_if : (k p : ℕ) (s : Machine) (h : p < length code) (e : get_or code p Stop ≡ If) → goes m code k p s ≡ through m k (fork p e).after (emptied (cond (is_zero (amount_at s.stack 0)) (exec m (fork p e).second (perform m If s)) (exec m (fork p e).first (perform m If s))))
    goes_if k p s h e =
        let w = fork p e in
        goes_at k p If s h e ∙ ap (λ a. through m k a s) w.whole_if ∙ through_branch m k w.has_else w.first w.second w.after s

    -- an if whose amount is not 0 goes on right behind it
    pub goes_taken : (k p : ℕ) (s : Machine) → p < length code → get_or code p Stop ≡ If → is_zero (amount_at s.stack 0) ≡ false → goes m code k p s ≡ goes m code (suc k) (p + 1) (perform m If s)
    goes_taken k p s h e t =
        let w = fork p e in
        goes_if k p s h e
        ∙ ap (λ b. through m k w.after (emptied (cond b (exec m w.second (perform m If s)) (exec m w.first (perform m If s))))) t
        ∙ sym (w.first_goes m k (perform m If s))

    -- an if whose amount is 0 goes on where it jumps
    pub goes_left_out : (k p : ℕ) (s : Machine) → p < length code → get_or code p Stop ≡ If → is_zero (amount_at s.stack 0) ≡ true → (goes m code k p s ≡ goes m code (suc k) (jump_from code p) (perform m If s)) × (p < jump_from code p) × (jump_from code p ≤ length code)
    goes_left_out k p s h e t =
        let w = fork p e in (
          goes_if k p s h e
              ∙ ap (λ b. through m k w.after (emptied (cond b (exec m w.second (perform m If s)) (exec m w.first (perform m If s))))) t
              ∙ sym (w.second_goes m k (perform m If s)),
          w.forward,
          w.fits,
        )

    -- An else leaves out the second part: the run goes on at its end.
    pub goes_else : (k p : ℕ) (s : Machine) → p < length code → get_or code p Stop ≡ Else → (goes m code k p s ≡ goes m code k (jump_from code p) s) × (p < jump_from code p) × (jump_from code p ≤ length code)
    goes_else k p s h e =
        let b = block_at code p (else_at nv code p fine e) in
        let jump : jump_from code p ≡ end_behind code p = jump_at code p e in (
          goes_at k p Else s h e
              ∙ ap (λ a. through m k (closed elsing done a) s) b.inside
              ∙ through_else m k b.stretch b.after s
              ∙ ap (λ a. through m k a s) (sym b.at_end)
              ∙ ap (λ q. goes m code k q s) (sym jump),
          omega (arith, jump, b.forward),
          omega (arith, jump, b.fits),
        )

    -- A repeat runs its turns, and goes on behind its end.
    pub goes_repeat : (k p n : ℕ) (s : Machine) → p < length code → get_or code p Stop ≡ Repeat n → (goes m code k p s ≡ goes m code k (jump_from code p + 1) (emptied (times n (turn m code p n) s))) × (p < jump_from code p) × (jump_from code p + 1 ≤ length code)
    goes_repeat k p n s h e =
        let b = block_at code p (repeat_at nv code p n fine e) in
        let jump : jump_from code p ≡ end_behind code p = jump_at code p e in (
          goes_at k p (Repeat n) s h e
              ∙ ap (λ a. through m k (looped n a) s) b.inside
              ∙ through_loop m k n b.stretch b.after s
              ∙ ap (λ a. through m k a (emptied (times n (λ t. exec m b.stretch (perform m (Repeat n) t)) s))) (sym b.past_end)
              ∙ ap (λ a. goes m code k (end_behind code p + 1) (emptied (times n (λ t. exec m (here a) (perform m (Repeat n) t)) s))) (sym b.inside)
              ∙ ap (λ q. goes m code k (q + 1) (emptied (times n (turn m code p n) s))) (sym jump),
          omega (arith, jump, b.forward),
          omega (arith, jump, b.fits),
        )

-- Standing m nv code from k p s r: a run of sound code that began at place from and ends as r stands at place p, with k
-- ifs open and machine s.
pub record Standing (m : MeterModel) (nv : ℕ) (code : List Instruction) (from k p : ℕ) (s r : Machine) : Type 0 where
  pub fine : sound nv code ≡ true
  pub since : from ≤ p
  pub within : p ≤ length code
  pub opened : k ≤ p
  pub ahead : goes m code k p s ≡ r

-- How it goes on from there, by the instruction that stands there in the same code.
module _ {m : MeterModel} {nv : ℕ} {code is : List Instruction} {from k p : ℕ} {s r : Machine} (same : is ≡ code) (w : Standing m nv code from k p s r) where
  -- the instruction, in the one code and in the other
  here_at : {i : Instruction} → get_or is p Stop ≡ i → get_or code p Stop ≡ i
  here_at e = ap (λ c. get_or c p Stop) (sym same) ∙ e

  inside : p < length is → p < length code
  inside h = omega (arith, ap length same)

  pub on_plain : {t : Machine} (i : Instruction) → ((a : Ahead) → before i a ≡ grow (plain i) a) → p < length is → get_or is p Stop ≡ i → t ≡ perform m i s → Standing m nv code from k (p + 1) t r
  on_plain i is_plain h e after =
      let lt = inside h in
      record {
        fine = w.fine;
        since = omega (arith, w.since);
        within = omega (arith, lt);
        opened = omega (arith, w.opened);
        ahead = ap (goes m code k (p + 1)) after ∙ sym (goes_plain m code i is_plain k p s lt (here_at e)) ∙ w.ahead;
      }

  pub on_taken : {t : Machine} → p < length is → get_or is p Stop ≡ If → is_zero (amount_at s.stack 0) ≡ false → t ≡ perform m If s → Standing m nv code from (k + 1) (p + 1) t r
  on_taken h e z after =
      let lt = inside h in
      record {
        fine = w.fine;
        since = omega (arith, w.since);
        within = omega (arith, lt);
        opened = omega (arith, w.opened);
        ahead = (λ i. goes m code (add-one k i) (p + 1) (after i)) ∙ sym (goes_taken m code nv w.fine k p s lt (here_at e) z) ∙ w.ahead;
      }

  pub on_left_out : {j : ℕ} {t : Machine} → p < length is → get_or is p Stop ≡ If → is_zero (amount_at s.stack 0) ≡ true → j ≡ jump_from code p → t ≡ perform m If s → Standing m nv code from (k + 1) j t r × (p < j)
  on_left_out h e z jump after =
      let step = goes_left_out m code nv w.fine k p s (inside h) (here_at e) z in (
        record {
          fine = w.fine;
          since = omega (arith, w.since, jump, step.1);
          within = omega (arith, jump, step.2);
          opened = omega (arith, w.opened, jump, step.1);
          ahead = (λ i. goes m code (add-one k i) (jump i) (after i)) ∙ sym step.0 ∙ w.ahead;
        },
        omega (arith, jump, step.1),
      )

  pub on_else : {j : ℕ} → p < length is → get_or is p Stop ≡ Else → j ≡ jump_from code p → Standing m nv code from k j s r × (p < j)
  on_else h e jump =
      let step = goes_else m code nv w.fine k p s (inside h) (here_at e) in (
        record {
          fine = w.fine;
          since = omega (arith, w.since, jump, step.1);
          within = omega (arith, jump, step.2);
          opened = omega (arith, w.opened, jump, step.1);
          ahead = ap (λ q. goes m code k q s) jump ∙ sym step.0 ∙ w.ahead;
        },
        omega (arith, jump, step.1),
      )

  pub on_repeat : {j : ℕ} {t : Machine} (n : ℕ) → p < length is → get_or is p Stop ≡ Repeat n → j ≡ jump_from code p → t ≡ emptied (times n (turn m code p n) s) → Standing m nv code from k (j + 1) t r × (p < j)
  on_repeat n h e jump after =
      let step = goes_repeat m code nv w.fine k p n s (inside h) (here_at e) in (
        record {
          fine = w.fine;
          since = omega (arith, w.since, jump, step.1);
          within = omega (arith, jump, step.2);
          opened = omega (arith, w.opened, jump, step.1);
          ahead = (λ i. goes m code k (jump i + 1) (after i)) ∙ sym step.0 ∙ w.ahead;
        },
        omega (arith, jump, step.1),
      )

  pub on_end : {t : Machine} → p < length is → get_or is p Stop ≡ End → 0 < k → t ≡ emptied s → Standing m nv code from (k - 1) (p + 1) t r
  on_end h e some after =
      let lt = inside h in
      let one : k ≡ suc (k - 1) = omega (arith, some) in
      record {
        fine = w.fine;
        since = omega (arith, w.since);
        within = omega (arith, lt);
        opened = omega (arith, w.opened);
        ahead = ap (goes m code (k - 1) (p + 1)) after ∙ sym (ap (λ j. goes m code j p s) one ∙ goes_end m code (k - 1) p s lt (here_at e)) ∙ w.ahead;
      }

  -- and where it ends
  pub at_end : p < length is → get_or is p Stop ≡ End → k ≡ 0 → s ≡ r
  at_end h e none = sym (ap (λ j. goes m code j p s) none ∙ goes_last m code p s (inside h) (here_at e)) ∙ w.ahead

  pub at_stop : p < length is → get_or is p Stop ≡ Stop → s ≡ r
  at_stop h e = sym (goes_stop m code k p s (inside h) (here_at e)) ∙ w.ahead

  pub at_last : length is ≤ p → s ≡ r
  at_last h = sym (goes_past m code k p s (omega (arith, h, ap length same))) ∙ w.ahead
