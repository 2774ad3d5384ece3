-- Code of events has as many stops as events.
use Rattle.std.proofs.Common.{◌≡◌, ℕ, suc, ◌+◌, true, cond, List, [], ◌∷◌, ◌++◌, length, sym, refl, ap, ◌∙◌, arith}
use Rattle.book.proofs.Sounds.{sound_spoken}
use Rattle.book.specs.declared.instruction.Instruction.{Instruction}
use Rattle.book.specs.declared.instruction.Instruction.TheVariants.{Stop, Else, End}
use Rattle.book.specs.Forms.{Formed, ends, number, figure, clock, operate, store, wait, one_part, two_parts, turns}
use Rattle.book.specs.Reads.{is_stop, sound}
use Rattle.book.specs.Trees.{Code, flat, whole, events}
use Rattle.std.proofs.lemmas.List.{append_assoc}
use Rattle.std.proofs.lemmas.List.Recursion.{is_count_by}
use Rattle.std.specs.List.{count_by, AllByRecursion}

-- the stops in a list, from its front on
abbrev stops : List Instruction → ℕ
stops [] = 0
stops (i ∷ is) = cond (is_stop i) (1 + stops is) (stops is)

-- the stops of a stretch in front of others: there are none in it
stops_flat : {nv d h : ℕ} {c : Code} → Formed nv d h c → (is : List Instruction) → stops (flat c ++ is) ≡ stops is
stops_flat ends is = refl
stops_flat (number r f) is = stops_flat f is
stops_flat (figure b r f) is = stops_flat f is
stops_flat (clock r f) is = stops_flat f is
stops_flat (operate f) is = stops_flat f is
stops_flat (store b f) is = stops_flat f is
stops_flat (wait b f) is = stops_flat f is
stops_flat (one_part {f} {c} p q) is =
    ap stops (append_assoc (flat f) (End ∷ flat c) is) ∙ stops_flat p (End ∷ (flat c ++ is)) ∙ stops_flat q is
stops_flat (two_parts {f} {s} {c} p q r) is =
    ap stops (append_assoc (flat f) (Else ∷ (flat s ++ (End ∷ flat c))) is)
    ∙ stops_flat p (Else ∷ ((flat s ++ (End ∷ flat c)) ++ is))
    ∙ ap stops (append_assoc (flat s) (End ∷ flat c) is)
    ∙ stops_flat q (End ∷ (flat c ++ is))
    ∙ stops_flat r is
stops_flat (turns {f} {c} b p q) is =
    ap stops (append_assoc (flat f) (End ∷ flat c) is) ∙ stops_flat p (End ∷ (flat c ++ is)) ∙ stops_flat q is

stops_whole : (nv : ℕ) (es : List Code) → AllByRecursion (λ e. Formed nv 8 0 e) es → stops (whole es) ≡ length es
stops_whole nv [] a = refl
stops_whole nv (e ∷ es) a =
    let more : 1 + stops (whole es) ≡ suc (stops (whole es)) = omega arith in
    stops_flat a.0 (Stop ∷ whole es) ∙ more ∙ ap suc (stops_whole nv es a.1)

-- sound code has a stop for each event
pub stops_sound : (nv : ℕ) (is : List Instruction) → sound nv is ≡ true → count_by is_stop is ≡ length (events is)
stops_sound nv is e =
    let w = sound_spoken nv is e in
    sym (is_count_by stops is_stop refl (λ i is. refl) is) ∙ ap stops (sym w.code_is) ∙ stops_whole nv (events is) w.formed
