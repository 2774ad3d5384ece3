-- What readers of words answer.
use Rattle.spelling.specs.declared.fault.SpellingFault.{SpellingFault}
use Rattle.spelling.specs.declared.fault.SpellingFault.TheVariants.{Malformed, Memory}
use Rattle.std.specs.Prelude.{◌≡◌, ℕ, ◌⊎◌, List, Some, None, Ok, Err, Option, Result, ◌≢◌, slice_index}

-- What a reader answers: what is spelled, or that nothing is. If memory runs out it says neither.
abbrev pub Reads : {X Y : Type 0} → (X → Y) → Option Y → Result X SpellingFault → Type 0
Reads meaning spelled (Ok x) = spelled ≡ Some (meaning x)
Reads meaning spelled (Err Malformed) = spelled ≡ None
Reads meaning spelled (Err (Memory error)) = Unit {0}

-- What a reader of numbers answers that takes a text as `parse` does, but for a plus (byte 43) in front.
abbrev pub Numbered : {F E : Type 0} → (List ℕ → Result F E → Type 0) → List ℕ → Result F SpellingFault → Type 0
Numbered parses w (Ok n) = (slice_index w 0 ≢ 43) × parses w (Ok n)
Numbered {E = E} parses w (Err Malformed) = (slice_index w 0 ≡ 43) ⊎ ((e : E) × parses w (Err e))
Numbered parses w (Err (Memory error)) = ⊥
