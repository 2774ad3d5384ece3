-- Code that passes all that the reader asks is the code of formed, light events; and code that the reader gives passes again.
use Rattle.std.proofs.Common.{◌≡◌, ℕ, ◌+◌, ◌≤◌, true, ltb, List, [], ◌∷◌, map, length, is_ok, Some, None, Ok, Err, Option, Result, sym, refl, ap, ◌∙◌, subst}
use mathlib.Core.Bool.{false≢true}
use Rattle.book.proofs.Decodes.{decoded_same}
use Rattle.book.proofs.Outcomes.{some_none, ok_same, err_ok, by_test}
use Rattle.book.proofs.Parses.{ahead, events_whole}
use Rattle.book.proofs.Scans.{scan_whole, whole_stops}
use Rattle.book.proofs.Shapes.{scanned_events}
use Rattle.book.proofs.Steps.{scan_again, placed_ok}
use Rattle.book.specs.Codes.{code_of, argument_of, decoded}
use Rattle.refusal.specs.declared.reader.ReaderFault.{ReaderFault}
use Rattle.refusal.specs.declared.reader.ReaderFault.TheVariants.{Nesting, Weight}
use Rattle.book.specs.declared.instruction.Instruction.{Instruction}
use Rattle.book.specs.declared.block.Block.{Block}
use Rattle.book.specs.Forms.{Formed}
use Rattle.book.specs.Reads.{Raw, raw, height_after, blocks_after, scan, stops_last, heavy, light, finished, sound}
use Rattle.book.specs.Trees.{Code, flat, whole, parse, events, event_weight}
use Rattle.std.proofs.lemmas.Bool.{ltb-false, le-ltb}
use Rattle.std.specs.List.{AllByRecursion}

-- where no event is heavy each is light
pub heavy_none : (p : ℕ) (es : List Code) → heavy p es ≡ None → AllByRecursion (λ e. event_weight e ≤ 100000) es
heavy_none p [] e = tt
heavy_none p (c ∷ cs) e =
    by_test (ltb 100000 (event_weight c)) (Some p) (heavy (p + (length (flat c) + 1)) cs) None
    (λ b s. absurd (some_none p s))
    (λ b s. (ltb-false 100000 (event_weight c) b, heavy_none (p + (length (flat c) + 1)) cs s))
    e

-- and the other way round
pub heavy_light : (p : ℕ) (es : List Code) → AllByRecursion (λ e. event_weight e ≤ 100000) es → heavy p es ≡ None
heavy_light p [] a = refl
heavy_light p (c ∷ cs) a = rw (le-ltb 100000 (event_weight c) a.0) (heavy_light (p + (length (flat c) + 1)) cs a.1)

-- what was asked of code that was let pass
pub record Finished (r : Result (List Instruction) ReaderFault) (is : List Instruction) : Type 0 where
  pub scanned : r ≡ Ok is
  pub stops : stops_last is ≡ true
  pub none_heavy : heavy 0 (events is) ≡ None

-- an answer where no event was heavy
light_ok : (o : Option ℕ) (is js : List Instruction) → light o is ≡ Ok js → (o ≡ None) × (is ≡ js)
light_ok None is js e = (refl, ok_same is js e)
light_ok (Some p) is js e = absurd (err_ok (Weight p) js e)

-- By the two tests, each of which would have answered a fault.
pub finished_ok : (r : Result (List Instruction) ReaderFault) (is : List Instruction) → finished r ≡ Ok is → Finished r is
finished_ok (Ok js) is e =
    by_test (stops_last js) (light (heavy 0 (events js)) js) (Err (Nesting (length js))) (Ok is)
    (λ b s.
    let w = light_ok (heavy 0 (events js)) js is s in
    subst (Finished (Ok js)) w.1 (record { scanned = refl; stops = b; none_heavy = w.0 }))
    (λ b s. absurd (err_ok (Nesting (length js)) is s))
    e
finished_ok (Err f) is e = absurd (err_ok f is e)

-- code that a stop ends and none of whose events is heavy is let pass
pub finished_passes : (is : List Instruction) → stops_last is ≡ true → heavy 0 (events is) ≡ None → finished (Ok is) ≡ Ok is
finished_passes is s h = rw (s, h)

-- A scan of instructions as bytes answers those instructions or a fault: by induction, since a code and an argument that
-- came from an instruction stand for no other.
pub scan_same : (nv p h : ℕ) (bs : List Block) (is js : List Instruction) → scan nv p h bs (map raw is) ≡ Ok js → is ≡ js
scan_same nv p h bs [] js e = ok_same [] js e
scan_same nv p h bs (i ∷ is) js e =
    let next : Instruction → Result (List Instruction) ReaderFault = λ j. scan nv (p + 1) (height_after j h) (blocks_after j bs) (map raw is) in
    let s = placed_ok p h bs (decoded nv (code_of i) (argument_of i)) next js e in
    ap (λ j. j ∷ is) (decoded_same nv i s.first s.decodes)
    ∙ ap (λ l. s.first ∷ l) (scan_same nv (p + 1) (height_after s.first h) (blocks_after s.first bs) is s.rest s.goes_on)
    ∙ s.splits

-- code of events that are formed and light, which parses to them
pub record WellSpoken (nv : ℕ) (is : List Instruction) : Type 0 where
  pub code_is : whole (events is) ≡ is
  pub formed : AllByRecursion (λ e. Formed nv 8 0 e) (events is)
  pub light : AllByRecursion (λ e. event_weight e ≤ 100000) (events is)
  pub parsed : parse is ≡ ahead (events is)

-- what the reader gives is well spoken
pub finished_spoken : (nv : ℕ) (rs : List Raw) (is : List Instruction) → finished (scan nv 0 0 [] rs) ≡ Ok is → WellSpoken nv is
finished_spoken nv rs is e =
    let f = finished_ok (scan nv 0 0 [] rs) is e in
    let w = scanned_events nv rs is f.scanned f.stops in
    record { code_is = w.code_is; formed = w.formed; light = heavy_none 0 (events is) f.none_heavy; parsed = w.parsed }

-- an answer that is no fault
ok_is : {A E : Type 0} (r : Result A E) → is_ok r ≡ true → (x : A) × (r ≡ Ok x)
ok_is (Ok x) e = (x, refl)
ok_is (Err f) e = absurd (false≢true e)

-- By `scan_same` what the scan answered is the code itself.
pub sound_spoken : (nv : ℕ) (is : List Instruction) → sound nv is ≡ true → WellSpoken nv is
sound_spoken nv is e =
    let w = ok_is (finished (scan nv 0 0 [] (map raw is))) e in
    let f = finished_ok (scan nv 0 0 [] (map raw is)) w.0 w.1 in
    let same = scan_same nv 0 0 [] is w.0 f.scanned in
    subst (WellSpoken nv) (sym same) (finished_spoken nv (map raw is) w.0 w.1)

-- what the reader gives is sound
pub finished_sound : (nv : ℕ) (rs : List Raw) (is : List Instruction) → finished (scan nv 0 0 [] rs) ≡ Ok is → sound nv is ≡ true
finished_sound nv rs is e =
    let f = finished_ok (scan nv 0 0 [] rs) is e in
    ap (λ r. is_ok (finished r)) (scan_again nv 0 0 [] rs is f.scanned) ∙ ap is_ok (finished_passes is f.stops f.none_heavy)

-- formed and light events pass all that the reader asks, and are given as they are
pub whole_passes : (nv : ℕ) (es : List Code) → AllByRecursion (λ e. Formed nv 8 0 e) es → AllByRecursion (λ e. event_weight e ≤ 100000) es → finished (scan nv 0 0 [] (map raw (whole es))) ≡ Ok (whole es)
whole_passes nv es f l =
    ap finished (scan_whole nv 0 es f)
    ∙ finished_passes (whole es) (whole_stops es) (ap (heavy 0) (events_whole nv es f) ∙ heavy_light 0 es l)
