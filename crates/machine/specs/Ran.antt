-- What a run of an event of a book answers and leaves.
use Rattle.std.specs.Prelude.{◌≡◌, ℕ, ◌<◌, ◌≤◌, Ok, Err, Result, length, slice_index_or}
use Rattle.book.specs.Reads.{BookModel}
use Rattle.book.specs.Trees.{done, events}
use Rattle.machine.specs.declared.fault.NoSuchEvent.{NoSuchEvent}
use Rattle.steps.specs.Runs.{State, run_event}
use Rattle.meter.specs.Meters.{MeterModel}

-- Ok: there is such an event, and the state is what its run leaves; Err: there is none, as the fault says, and nothing changed
abbrev pub Ran : {A : Type 0} → MeterModel → BookModel → ℕ → State → Result A NoSuchEvent → State → Type 0
Ran m b n before (Ok x) after = (n < length (events b.code)) × (after ≡ run_event m (slice_index_or (events b.code) n done) before)
Ran m b n before (Err e) after = (e.event ≡ n) × (length (events b.code) ≤ n) × (after ≡ before)
