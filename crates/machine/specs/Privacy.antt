-- What an observer cannot learn from one run.
use Rattle.std.specs.Prelude.{◌≡◌, ℕ, ◌<◌, true, length, pos, None, slice_index, slice_index_or}
use Rattle.book.specs.Encodings.{WellFormed}
use Rattle.book.specs.Reads.{BookModel}
use Rattle.book.specs.Trees.{done, events}
use Rattle.flowcheck.specs.Checks.{checking}
use Rattle.steps.specs.Runs.{State, run_event}
use Rattle.meter.specs.Meters.{MeterModel}
use Rattle.scale.specs.Scales.{ScaleModel, Lawful}

-- Alike s b L p q: who sees level L and below cannot tell the states p and q of book b apart: each figure whose level is
-- at or below L has the same amount in both, and so has the clock if its level is
pub record Alike (s : ScaleModel) (b : BookModel) (L : ℕ) (p q : State) : Type 0 where
  pub amounts : (v : ℕ) → v < length b.levels → s.below (slice_index b.levels v) L ≡ true → slice_index_or p.figures v (pos 0) ≡ slice_index_or q.figures v (pos 0)
  pub clocks : s.below b.clock L ≡ true → p.clock ≡ q.clock

-- Privacy of one run, for one meter: under every lawful scale, an event of an accepted book keeps every two states alike
-- for every observer.
abbrev pub RunPrivacy : MeterModel → Type 0
RunPrivacy m =
    (s : ScaleModel) → Lawful s → (b : BookModel) → WellFormed b → checking s m b ≡ None
    → (L : ℕ) → s.known L ≡ true → (n : ℕ) → n < length (events b.code) → (p q : State)
    → length p.figures ≡ length b.levels → length q.figures ≡ length b.levels
    → Alike s b L p q → Alike s b L (run_event m (slice_index_or (events b.code) n done) p) (run_event m (slice_index_or (events b.code) n done) q)
