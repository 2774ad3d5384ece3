-- What is held stays the slip that is out, call by call.
use Rattle.std.proofs.Common.{◌≡◌, ℕ, Bool, true, false, cond, ◌⊎◌, Some, None, Ok, Err, Option, Result, refl, ap, ◌∙◌, subst, inl, inr}
use Rattle.book.specs.Reads.{BookModel}
use Rattle.refusal.specs.declared.check.CheckFault.{CheckFault}
use Rattle.script.specs.Held.{agrees, left_held}
use Rattle.engine.specs.Calls.{after, answering, next, public_after, public_loaded}
use Rattle.engine.specs.declared.engine.Engine.{Engine}
use Rattle.refusal.specs.declared.engine.EngineFault.{EngineFault}
use Rattle.refusal.specs.declared.engine.EngineFault.TheVariants.{NotTheSlip}
use Rattle.engine.specs.declared.slip.Slip.{Slip}
use Rattle.engine.specs.Models.{Answer, Call, open_slip, carry, withdraw, EngineModel, Paper, Public, ask_slip, refusal, same_paper, unless}
use Rattle.engine.specs.Seen.{engine_of, IsStep, open_answer, paper_of}
use Rattle.meter.specs.Meters.{MeterModel}
use Rattle.scale.specs.Scales.{ScaleModel}
use Rattle.std.proofs.lemmas.Bool.{and_from, and_parts, eq-eqb, eqb-true, false≢true}

-- a slip has its own numbers
same_self : (p : Paper) → same_paper p p ≡ true
same_self p =
    and_from _ _ (eq-eqb p.holder _ refl) (and_from _ _ (eq-eqb p.from _ refl) (and_from _ _ (eq-eqb p.to _ refl) (eq-eqb p.number _ refl)))

-- slips with the same numbers are the same
same_paper_lem : (p q : Paper) → same_paper p q ≡ true → p ≡ q
same_paper_lem p q t =
    let h = and_parts _ _ t in
    let a = and_parts _ _ h.1 in
    let b = and_parts _ _ a.1 in
    let holder = eqb-true p.holder q.holder h.0 in
    let from = eqb-true p.from q.from a.0 in
    let to = eqb-true p.to q.to b.0 in
    let number = eqb-true p.number q.number b.1 in
    λ i. record { holder = holder i; from = from i; to = to i; number = number i }

pub agrees_self : (o : Option Paper) → agrees o o ≡ true
agrees_self None = refl
agrees_self (Some p) = same_self p

-- the same of equals
pub agrees_by : (a b c d : Option Paper) → a ≡ c → b ≡ d → agrees c d ≡ true → agrees a b ≡ true
agrees_by a b c d p q t = cc

-- what is out after an opening
abbrev pub out_opened : Option Paper → Result Slip EngineFault → Option Paper
out_opened o (Ok x) = Some (paper_of x.numbers)
out_opened o (Err f) = o

-- an opening that is accepted leaves its slip out, and one that is refused leaves what was out
opened_at : (s : ScaleModel) (m : MeterModel) (e : EngineModel) (h a b : ℕ) (f : Option EngineFault) (r : Result Slip EngineFault) →
    open_answer r ≡ answering s m f e (open_slip h a b) → (after s m f e (open_slip h a b)).shared.out ≡ out_opened e.shared.out r
opened_at s m e h a b None (Ok x) q = cc
opened_at s m e h a b None (Err g) q = cc
opened_at s m e h a b (Some g) (Ok x) q = cc
opened_at s m e h a b (Some g) (Err k) q = refl

-- the slip q is out and held, and p is presented, which is q or not
presented : (s : ScaleModel) (m : MeterModel) (e : EngineModel) (p q : Paper) (t : Bool) → e.shared.out ≡ Some q →
    (agrees (after s m (unless t NotTheSlip) e (carry p)).shared.out (cond t None (Some q)) ≡ true)
    × (agrees (after s m (unless t NotTheSlip) e (withdraw p)).shared.out (cond t None (Some q)) ≡ true)
presented s m e p q true o = (refl, refl)
presented s m e p q false o = let t = agrees_by _ (Some q) (Some q) (Some q) o refl (same_self q) in (t, t)

ends_at : (s : ScaleModel) (m : MeterModel) (e : EngineModel) (p : Paper) (o h : Option Paper) → e.shared.out ≡ o → agrees o h ≡ true →
    (agrees (after s m (ask_slip o p) e (carry p)).shared.out (left_held h p) ≡ true)
    × (agrees (after s m (ask_slip o p) e (withdraw p)).shared.out (left_held h p) ≡ true)
ends_at s m e p None None q t = let k = agrees_by _ None None None q refl refl in (k, k)
ends_at s m e p None (Some h) q t = absurd (false≢true t)
ends_at s m e p (Some o) None q t = absurd (false≢true t)
ends_at s m e p (Some o) (Some h) q t =
    subst (λ (x : Paper). (agrees (after s m (ask_slip (Some o) p) e (carry p)).shared.out (left_held (Some x) p) ≡ true)
    × (agrees (after s m (ask_slip (Some o) p) e (withdraw p)).shared.out (left_held (Some x) p) ≡ true))
    (same_paper_lem o h t) (presented s m e p o (same_paper o p) q)

-- a book that is loaded leaves what is out
pub loaded : (e : Public) (r : Result BookModel CheckFault) → (public_loaded e r).out ≡ e.out
loaded e (Ok b) = refl
loaded e (Err f) = refl

-- so does a call that leaves it where it is accepted
kept_at : (s : ScaleModel) (m : MeterModel) (e : EngineModel) (c : Call) → (public_after s m e.shared c).out ≡ e.shared.out → (f : Option EngineFault) → (after s m f e c).shared.out ≡ e.shared.out
kept_at s m e c same None = same
kept_at s m e c same (Some f) = refl

-- a call that carries or withdraws this slip
abbrev pub Spends : Call → Paper → Type 0
Spends c p = (c ≡ carry p) ⊎ (c ≡ withdraw p)

spent_at : (s : ScaleModel) (m : MeterModel) (e : EngineModel) (c : Call) (p : Paper) (h : Option Paper) → Spends c p → agrees e.shared.out h ≡ true → agrees (next s m e c).shared.out (left_held h p) ≡ true
spent_at s m e c p h (inl is) t = rw is (ends_at s m e p e.shared.out h refl t).0
spent_at s m e c p h (inr is) t = rw is (ends_at s m e p e.shared.out h refl t).1

-- What is held stays what is out after one step of an engine.
module _ {S M : Type 0} {s : S → ScaleModel} {m : M → MeterModel} {d e : Engine S M} where
  pub opened : {h a b : ℕ} (r : Result Slip EngineFault) → IsStep s m d e (open_slip h a b) (open_answer r) → (engine_of e).shared.out ≡ out_opened (engine_of d).shared.out r
  opened {h} {a} {b} r step =
      ap (λ (x : EngineModel). x.shared.out) step.after ∙ opened_at (s d.scale) (m d.meter) (engine_of d) h a b (refusal (s d.scale) (m d.meter) (engine_of d).shared (open_slip h a b)) r step.answer

  pub kept : {c : Call} {r : Answer} (h : Option Paper) → (public_after (s d.scale) (m d.meter) (engine_of d).shared c).out ≡ (engine_of d).shared.out → IsStep s m d e c r → agrees (engine_of d).shared.out h ≡ true → agrees (engine_of e).shared.out h ≡ true
  kept {c} h same step tied =
      agrees_by _ h _ h (ap (λ (x : EngineModel). x.shared.out) step.after ∙ kept_at (s d.scale) (m d.meter) (engine_of d) c same (refusal (s d.scale) (m d.meter) (engine_of d).shared c)) refl tied

  pub spent : {c : Call} {r : Answer} (p : Paper) (h k : Option Paper) → Spends c p → IsStep s m d e c r → k ≡ left_held h p → agrees (engine_of d).shared.out h ≡ true → agrees (engine_of e).shared.out k ≡ true
  spent {c} p h k is step gone tied =
      agrees_by _ k _ (left_held h p) (ap (λ (x : EngineModel). x.shared.out) step.after) gone (spent_at (s d.scale) (m d.meter) (engine_of d) c p h is tied)
