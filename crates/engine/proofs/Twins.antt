-- Two engines that an observer cannot tell apart, and the calls that keep them so.
use Rattle.std.proofs.Common.{◌≡◌, ℕ, ◌<◌, true, ltb, ◌⊎◌, List, length, get_or, set, ℤ, pos, Some, None, Ok, Err, Option, Result, sym, refl, ap, ◌∙◌, subst, inl, inr, arith, length-set}
use Rattle.book.proofs.Parses.{events_whole, all_formed}
use Rattle.book.proofs.ReaderLaw.{reader_law}
use Rattle.refusal.specs.declared.reader.ReaderFault.{ReaderFault}
use Rattle.book.specs.Encodings.{WellFormed}
use Rattle.book.specs.Forms.{Formed}
use Rattle.book.specs.Reads.{BookModel, reading}
use Rattle.book.specs.Trees.{done, events}
use Rattle.flowcheck.specs.Checks.{after_reading, checking, checking_bytes, judged}
use Rattle.refusal.specs.declared.check.CheckFault.{CheckFault}
use Rattle.engine.proofs.Asked.{passes}
use Rattle.refusal.specs.declared.engine.EngineFault.TheVariants.{NoSuch}
use Rattle.engine.specs.Calls.{stored, public_loaded, state_loaded, ran_book}
use Rattle.engine.specs.Models.{Public, EngineModel, ask_event, with_book}
use Rattle.engine.specs.Promises.{HeldLow}
use Rattle.machine.proofs.Private.{run_private}
use Rattle.machine.proofs.Strict.{run_keeps}
use Rattle.machine.specs.Privacy.{Alike}
use Rattle.steps.specs.Runs.{State, started}
use Rattle.meter.specs.Meters.{MeterModel, Lawful as MeterLaws}
use Rattle.scale.specs.Scales.{ScaleModel, Lawful as ScaleLaws}
use Rattle.std.proofs.ByRecursion.{All-get_or}
use Rattle.std.proofs.lemmas.List.{get_or-set_same, get_or-set_other}
use Rattle.std.proofs.lemmas.Bool.{cases_eq, ltb-true}
use Rattle.std.specs.List.{AllByRecursion}

-- two states of a book that passed, with an amount for each figure and alike for an observer at L
pub record Both (s : ScaleModel) (m : MeterModel) (L : ℕ) (b : BookModel) (p q : State) : Type 0 where
  pub formed : WellFormed b
  pub passed : checking s m b ≡ None
  pub first : length p.figures ≡ length b.levels
  pub second : length q.figures ≡ length b.levels
  pub alike : Alike s b L p q

-- the same of the book that is loaded, if there is one
abbrev pub Kept : ScaleModel → MeterModel → ℕ → Option BookModel → State → State → Type 0
Kept s m L None p q = Unit {0}
Kept s m L (Some b) p q = Both s m L b p q

-- two engines with one public part, whose states an observer at L cannot tell apart
pub record Twins (s : ScaleModel) (m : MeterModel) (L : ℕ) (p q : EngineModel) : Type 0 where
  pub one : p.shared ≡ q.shared
  pub kept : Kept s m L p.shared.book p.state q.state

-- an event of a well-formed book is formed
event_formed : (b : BookModel) → WellFormed b → (n : ℕ) → n < length (events b.code) → Formed (length b.levels) 8 0 (get_or (events b.code) n done)
event_formed b w n i =
    let nv = length b.levels in
    let formed = all_formed nv w.program w.events_formed in
    All-get_or (λ e. Formed nv 8 0 e) (events b.code) n done i
    (subst (AllByRecursion (λ e. Formed nv 8 0 e)) (sym (ap events w.code_is ∙ events_whole nv w.program formed)) formed)

-- Two amounts stored in one place are the same wherever they are seen: at that place by what is said of them, at every
-- other one since the lists agreed.
stored_at : (xs ys : List ℤ) (v w : ℕ) (x y : ℤ) → w < length xs → w < length ys → (w ≡ v → x ≡ y) → get_or xs w (pos 0) ≡ get_or ys w (pos 0) → get_or (set xs v x) w (pos 0) ≡ get_or (set ys v y) w (pos 0)
stored_at xs ys v w x y i j h e = decide (cases_eq w v)
  where
    decide : (w ≡ v) ⊎ (w ≡ v → ⊥) → get_or (set xs v x) w (pos 0) ≡ get_or (set ys v y) w (pos 0)
    decide (inl o) = subst (λ k. get_or (set xs k x) w (pos 0) ≡ get_or (set ys k y) w (pos 0)) o (get_or-set_same xs w x (pos 0) i ∙ h o ∙ sym (get_or-set_same ys w y (pos 0) j))
    decide (inr o) = get_or-set_other xs v w x (pos 0) o ∙ e ∙ sym (get_or-set_other ys v w y (pos 0) o)

module _ (s : ScaleModel) (m : MeterModel) (L : ℕ) where
  -- two amounts stored in one figure, equal if it is held low
  pub keeps_stored : (o : Option BookModel) (p q : State) (v : ℕ) (x y : ℤ) → (HeldLow s L o v → x ≡ y) → Kept s m L o p q → Kept s m L o (stored p v x) (stored q v y)
  keeps_stored None p q v x y h k = tt
  keeps_stored (Some b) p q v x y h k = record {
    formed = k.formed;
    passed = k.passed;
    first = length-set p.figures v x ∙ k.first;
    second = length-set q.figures v y ∙ k.second;
    alike = record { amounts = amounts; clocks = k.alike.clocks };
  }
    where
      amounts : (w : ℕ) → w < length b.levels → s.below (get_or b.levels w 0) L ≡ true → get_or (set p.figures v x) w (pos 0) ≡ get_or (set q.figures v y) w (pos 0)
      amounts w i o =
          let low : w ≡ v → x ≡ y = λ e. h (subst (λ u. HeldLow s L (Some b) u) e (i, o)) in
          stored_at p.figures q.figures v w x y (omega (arith, k.first)) (omega (arith, k.second)) low (k.alike.amounts w i o)

  -- a book that was read is checked: if it passes, both engines have its start
  keeps_judged : (e : Public) (p q : State) (b : BookModel) → WellFormed b → (r : Option CheckFault) → checking s m b ≡ r → Kept s m L e.book p q → Kept s m L (public_loaded e (judged b r)).book (state_loaded p (judged b r)) (state_loaded q (judged b r))
  keeps_judged e p q b w None o k = record { formed = w; passed = o; first = w.starts_too; second = w.starts_too; alike = record { amounts = λ v i l. refl; clocks = λ l. refl } }
  keeps_judged e p q b w (Some f) o k = k

  keeps_read : (e : Public) (p q : State) (bs : List ℕ) → AllByRecursion (λ x. x < 256) bs → (r : Result BookModel ReaderFault) → reading bs ≡ r → Kept s m L e.book p q → Kept s m L (public_loaded e (after_reading s m r)).book (state_loaded p (after_reading s m r)) (state_loaded q (after_reading s m r))
  keeps_read e p q bs h (Ok b) o k = keeps_judged e p q b (reader_law.accepted bs b h o).1 (checking s m b) refl k
  keeps_read e p q bs h (Err f) o k = k

  -- one book loaded into both
  pub keeps_loaded : (e : Public) (p q : State) (bs : List ℕ) → AllByRecursion (λ x. x < 256) bs → Kept s m L e.book p q → Kept s m L (public_loaded e (checking_bytes s m bs)).book (state_loaded p (checking_bytes s m bs)) (state_loaded q (checking_bytes s m bs))
  keeps_loaded e p q bs h k = keeps_read e p q bs h (reading bs) refl k

  -- one event run on both
  pub keeps_run : ScaleLaws s → MeterLaws m → s.known L ≡ true → (o : Option BookModel) (p q : State) (n : ℕ) → with_book o (λ b. ask_event b n) ≡ None → Kept s m L o p q → Kept s m L o (ran_book m o n p) (ran_book m o n q)
  keeps_run sl ml kl None p q n a k = tt
  keeps_run sl ml kl (Some b) p q n a k =
      let i = ltb-true n (length (events b.code)) (passes (ltb n (length (events b.code))) (NoSuch n) a) in
      let f = event_formed b k.formed n i in
      record {
        formed = k.formed;
        passed = k.passed;
        first = run_keeps m f (started p) refl (omega arith) k.first ∙ k.first;
        second = run_keeps m f (started q) refl (omega arith) k.second ∙ k.second;
        alike = run_private m ml s sl b k.formed k.passed L kl n i p q k.first k.second k.alike;
      }
