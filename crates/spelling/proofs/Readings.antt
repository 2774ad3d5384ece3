-- What readers of words answer.
use Rattle.spelling.specs.Reads.{Reads}
use Rattle.spelling.specs.declared.fault.SpellingFault.{SpellingFault}
use Rattle.spelling.specs.declared.fault.SpellingFault.TheVariants.{Malformed, Memory}
use Rattle.std.proofs.Common.{◌≡◌, IsErrAnd, None, Ok, Err, Option, Result, sym, subst}

-- nothing is spelled, and the answer is a fault
pub reads_none : {X Y : Type 0} (f : X → Y) (spelled : Option Y) (Q : SpellingFault → Type 0) (r : Result X SpellingFault) → IsErrAnd r Q → spelled ≡ None → Reads f spelled r
reads_none f spelled Q (Ok x) e none = absurd e
reads_none f spelled Q (Err Malformed) e none = none
reads_none f spelled Q (Err (Memory error)) e none = tt

-- a part is not spelled, so the whole is not, and the fault is passed on
pub reads_part : {X Y U V : Type 0} (f : X → Y) (spelled : Option Y) (g : U → V) (part : Option V) (fault : SpellingFault) (r : Result X SpellingFault) →
    IsErrAnd r (λ y. y ≡ fault) → Reads g part (Err fault) → (part ≡ None → spelled ≡ None) → Reads f spelled r
reads_part f spelled g part Malformed r e none so = reads_none f spelled (λ y. y ≡ Malformed) r e (so none)
reads_part f spelled g part (Memory error) (Ok x) e none so = absurd e
reads_part f spelled g part (Memory error) (Err y) e none so = subst (λ (z : SpellingFault). Reads f spelled (Err z)) (sym e) tt
