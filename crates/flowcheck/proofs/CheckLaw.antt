-- The check's law: it accepts exactly what can be derived, and a refusal names the first rule that is broken.
use Rattle.std.proofs.Common.{◌≡◌, ℕ, ◌<◌, ◌≤◌, ◌⊎◌, [], ◌∷◌, length, Some, None, Option, sym, ap, ◌∙◌, subst, inl, inr, arith}
use Rattle.book.proofs.Parses.{events_whole, all_formed}
use Rattle.book.specs.Encodings.{WellFormed}
use Rattle.book.specs.Reads.{BookModel}
use Rattle.book.specs.Trees.{events}
use Rattle.flowcheck.proofs.Breaking.{BreaksFrom, walk_named, from_above}
use Rattle.flowcheck.proofs.Events.{whole_flows, flows_whole}
use Rattle.flowcheck.proofs.Firsts.{First, Named}
use Rattle.flowcheck.proofs.Levels.{UnknownFrom, unknown_none, none_unknown, unknown_named, unknown_at}
use Rattle.flowcheck.proofs.Places.{walk_breaks, unknown_breaks, breaks_either}
use Rattle.flowcheck.proofs.Quiet.{Quiet, walk_quiet, quiet_walk}
use Rattle.flowcheck.proofs.Rules.{both_none, none_both}
use Rattle.flowcheck.specs.Checks.{unknown, checking, setting}
use Rattle.refusal.specs.declared.check.CheckFault.{CheckFault}
use Rattle.refusal.specs.Checks.{check_refusal}
use Rattle.flowcheck.specs.Flows.{Flows}
use Rattle.flowcheck.specs.Laws.{Derivable, Breaks, NoLater, CheckLaw}
use Rattle.flowcheck.specs.Walks.{or_else, walk}
use Rattle.meter.specs.Meters.{MeterModel, Lawful}
use Rattle.scale.specs.Scales.{ScaleModel}
use Rattle.std.specs.List.{AllByRecursion}

-- a fault that is the first from place 0 on is broken at its own place
own_place : (B : ℕ → ℕ → Type 0) (f : CheckFault) → First B 0 f → B (check_refusal f).number (check_refusal f).place
own_place B f t =
    let same : t.further ≡ (check_refusal f).place = omega arith in
    subst (B (check_refusal f).number) same t.breaks

-- Two answers one after the other, the first on rule 7, U, the second on rules above it, W.
module _ (U W : ℕ → ℕ → Type 0) where
  -- the fault is of the one or of the other, whichever answered it
  either_names : (u w : Option CheckFault) (f : CheckFault) → Named U 0 u → Named W 0 w → or_else u w ≡ Some f → U (check_refusal f).number (check_refusal f).place ⊎ W (check_refusal f).number (check_refusal f).place
  either_names None None f s t e = absurd (cc)
  either_names None (Some h) f s t e = let same : h ≡ f = cc in subst (λ k. U (check_refusal k).number (check_refusal k).place ⊎ W (check_refusal k).number (check_refusal k).place) same (inr (own_place W h t))
  either_names (Some h) w f s t e = let same : h ≡ f = cc in subst (λ k. U (check_refusal k).number (check_refusal k).place ⊎ W (check_refusal k).number (check_refusal k).place) same (inl (own_place U h s))

  module _ (seven : (n p : ℕ) → U n p → n ≡ 7) (above : (n p : ℕ) → W n p → 7 < n) where
    -- the first of the levels' comes before every other
    first_level : (f : CheckFault) → First U 0 f → (n p : ℕ) → U n p ⊎ W n p → NoLater (check_refusal f).number (check_refusal f).place n p
    first_level f t n p (inl u) = inr (inl (seven (check_refusal f).number t.further t.breaks, seven n p u, earlier (t.least n p u)))
      where
        earlier : (t.further < p) ⊎ ((t.further ≡ p) × ((check_refusal f).number ≤ n)) → (check_refusal f).place ≤ p
        earlier (inl h) = omega arith
        earlier (inr h) = omega arith
    first_level f t n p (inr w) = inl (seven (check_refusal f).number t.further t.breaks, above n p w)

    -- where no level is unknown the first of the walk's comes before every other
    first_walked : (f : CheckFault) → ((n p : ℕ) → U n p → ⊥) → First W 0 f → (n p : ℕ) → U n p ⊎ W n p → NoLater (check_refusal f).number (check_refusal f).place n p
    first_walked f no-level t n p (inl u) = absurd (no-level n p u)
    first_walked f no-level t n p (inr w) = inr (inr (above (check_refusal f).number t.further t.breaks, above n p w, earlier (t.least n p w)))
      where
        earlier : (t.further < p) ⊎ ((t.further ≡ p) × ((check_refusal f).number ≤ n)) → ((check_refusal f).place < p) ⊎ (((check_refusal f).place ≡ p) × ((check_refusal f).number ≤ n))
        earlier (inl h) = inl (omega arith)
        earlier (inr h) = inr (omega arith, h.1)

    -- By cases on which of the two answered it.
    either_first : (u w : Option CheckFault) (f : CheckFault) → Named U 0 u → Named W 0 w → or_else u w ≡ Some f → (n p : ℕ) → U n p ⊎ W n p → NoLater (check_refusal f).number (check_refusal f).place n p
    either_first None None f s t e n p r = absurd (cc)
    either_first None (Some h) f s t e n p r = let same : h ≡ f = cc in subst (λ k. NoLater (check_refusal k).number (check_refusal k).place n p) same (first_walked h s t n p r)
    either_first (Some h) w f s t e n p r = let same : h ≡ f = cc in subst (λ k. NoLater (check_refusal k).number (check_refusal k).place n p) same (first_level h s n p r)

module _ (s : ScaleModel) (m : MeterModel) (b : BookModel) where
  -- the events of a well-formed book are its program
  events_are : (w : WellFormed b) → events b.code ≡ w.program
  events_are w = ap events w.code_is ∙ events_whole (length b.levels) w.program (all_formed (length b.levels) w.program w.events_formed)

  -- By the two parts of the check, the levels and the walk, the latter over the events of which the code is made.
  accepted_derivable : WellFormed b → checking s m b ≡ None → Derivable s m b
  accepted_derivable w e =
      let g = setting s m b in
      let nv = length b.levels in
      let v = both_none (unknown s 0 (b.clock ∷ b.levels)) (walk g 0 [] [] b.code) e in
      let k = unknown_none s 0 (b.clock ∷ b.levels) v.0 in
      let q = subst (Quiet g [] []) w.code_is (walk_quiet g 0 [] [] b.code v.1) in
      let f = whole_flows g nv w.program (all_formed nv w.program w.events_formed) q in
      record { clock_known = k.0; levels_known = k.1; events_flow = subst (AllByRecursion (λ e. Flows g s.floor [] e)) (sym (events_are w)) f }

  derivable_accepted : Lawful m → WellFormed b → Derivable s m b → checking s m b ≡ None
  derivable_accepted l w d =
      let g = setting s m b in
      let nv = length b.levels in
      let f = subst (AllByRecursion (λ e. Flows g s.floor [] e)) (events_are w) d.events_flow in
      let q = flows_whole g l nv w.program (all_formed nv w.program w.events_formed) f in
      none_both (unknown s 0 (b.clock ∷ b.levels)) (walk g 0 [] [] b.code)
      (none_unknown s 0 (b.clock ∷ b.levels) (d.clock_known, d.levels_known))
      (quiet_walk g 0 [] [] b.code (subst (Quiet g [] []) (sym w.code_is) q))

  -- The fault's rule is broken at its place: what the two searches found is a rule of the book's that is broken.
  fault_breaks : (f : CheckFault) → checking s m b ≡ Some f → Breaks s m b (check_refusal f).number (check_refusal f).place
  fault_breaks f e =
      named (either_names (UnknownFrom s (b.clock ∷ b.levels)) (BreaksFrom (setting s m b) [] [] b.code) (unknown s 0 (b.clock ∷ b.levels)) (walk (setting s m b) 0 [] [] b.code) f
      (unknown_named s 0 (b.clock ∷ b.levels))
      (walk_named (setting s m b) 0 [] [] b.code)
      e)
    where
      named : UnknownFrom s (b.clock ∷ b.levels) (check_refusal f).number (check_refusal f).place ⊎ BreaksFrom (setting s m b) [] [] b.code (check_refusal f).number (check_refusal f).place → Breaks s m b (check_refusal f).number (check_refusal f).place
      named (inl u) = unknown_breaks s m b (check_refusal f).number (check_refusal f).place u
      named (inr w) = walk_breaks s m b (check_refusal f).number (check_refusal f).place w

  -- No rule that is broken comes before it, since each is one that the levels or the walk would have met.
  fault_first : (f : CheckFault) (n p : ℕ) → checking s m b ≡ Some f → Breaks s m b n p → NoLater (check_refusal f).number (check_refusal f).place n p
  fault_first f n p e r =
      either_first (UnknownFrom s (b.clock ∷ b.levels)) (BreaksFrom (setting s m b) [] [] b.code)
      (λ k q u. (unknown_at s (b.clock ∷ b.levels) k q u).0)
      (λ k q w. from_above (setting s m b) [] [] b.code k q w)
      (unknown s 0 (b.clock ∷ b.levels)) (walk (setting s m b) 0 [] [] b.code) f
      (unknown_named s 0 (b.clock ∷ b.levels))
      (walk_named (setting s m b) 0 [] [] b.code)
      e n p (breaks_either s m b n p r)

-- the check keeps its law
pub check_law : (s : ScaleModel) (m : MeterModel) → Lawful m → CheckLaw s m
check_law s m l = record {
  accepted = accepted_derivable s m;
  derivable = λ b. derivable_accepted s m b l;
  names = fault_breaks s m;
  first = fault_first s m;
}
