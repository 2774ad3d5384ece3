-- The rules of running, one for each form of code and with nothing made up: an amount that is taken off the stack is
-- there, a pushed one has room, and a figure is one of the book's.
use Rattle.std.specs.Prelude.{◌≡◌, ℕ, suc, ◌<◌, Bool, true, false, List, [], ◌∷◌, length, ℤ, pos, slice_index_or, slice_set}
use Rattle.book.specs.Codes.{code_of}
use Rattle.book.specs.declared.instruction.Instruction.TheVariants.{Number, Figure, Clock, Operate, Store, Wait}
use Rattle.book.specs.declared.instruction.Operation.{Operation}
use Rattle.book.specs.Trees.{Code, done, plain, branch, loop}
use Rattle.steps.specs.Amounts.{is_zero, operate}
use Rattle.steps.specs.Machines.{Machine, later, reading}
use Rattle.meter.specs.Meters.{MeterModel}

-- a machine by its parts
abbrev pub at : List ℤ → List ℤ → ℕ → Machine
at st fs t = record { stack = st; figures = fs; clock = t }

-- Goes m c s r: the stretch c takes the machine from s to r. Turns m n f s r: n turns of the inside f of a repeat do.
mutual
  pub data Goes (m : MeterModel) : Code → Machine → Machine → Type 0 where
    ends : {fs : List ℤ} {t : ℕ} → Goes m done (at [] fs t) (at [] fs t)
    number : {z : ℤ} {c : Code} {st fs : List ℤ} {t : ℕ} {r : Machine} → length st < 8 → Goes m c (at (z ∷ st) fs (later t (m.charge 1 (pos 0) (pos 0)))) r → Goes m (plain (Number z) c) (at st fs t) r
    figure : {v : ℕ} {c : Code} {st fs : List ℤ} {t : ℕ} {r : Machine} → v < length fs → length st < 8 → Goes m c (at (slice_index_or fs v (pos 0) ∷ st) fs (later t (m.charge 2 (pos 0) (pos 0)))) r → Goes m (plain (Figure v) c) (at st fs t) r
    clock : {c : Code} {st fs : List ℤ} {t : ℕ} {r : Machine} → length st < 8 → Goes m c (at (reading t ∷ st) fs (later t (m.charge 3 (pos 0) (pos 0)))) r → Goes m (plain Clock c) (at st fs t) r
    operation : {o : Operation} {c : Code} {a b : ℤ} {st fs : List ℤ} {t : ℕ} {r : Machine} → Goes m c (at (operate o a b ∷ st) fs (later t (m.charge (code_of (Operate o)) a b))) r → Goes m (plain (Operate o) c) (at (b ∷ a ∷ st) fs t) r
    store : {v : ℕ} {c : Code} {a : ℤ} {fs : List ℤ} {t : ℕ} {r : Machine} → v < length fs → Goes m c (at [] (slice_set fs v a) (later t (m.charge 10 a (pos 0)))) r → Goes m (plain (Store v) c) (at (a ∷ []) fs t) r
    wait : {n : ℕ} {c : Code} {fs : List ℤ} {t : ℕ} {r : Machine} → Goes m c (at [] fs (later t n)) r → Goes m (plain (Wait n) c) (at [] fs t) r
    first : {b : Bool} {f g c : Code} {a : ℤ} {fs : List ℤ} {t : ℕ} {q r : Machine} → is_zero a ≡ false → Goes m f (at [] fs (later t (m.charge 11 a (pos 0)))) q → Goes m c q r → Goes m (branch b f g c) (at (a ∷ []) fs t) r
    second : {b : Bool} {f g c : Code} {a : ℤ} {fs : List ℤ} {t : ℕ} {q r : Machine} → is_zero a ≡ true → Goes m g (at [] fs (later t (m.charge 11 a (pos 0)))) q → Goes m c q r → Goes m (branch b f g c) (at (a ∷ []) fs t) r
    turns : {n : ℕ} {f c : Code} {fs : List ℤ} {t : ℕ} {q r : Machine} → Turns m n f (at [] fs t) q → Goes m c q r → Goes m (loop n f c) (at [] fs t) r

  pub data Turns (m : MeterModel) : ℕ → Code → Machine → Machine → Type 0 where
    none : {f : Code} {fs : List ℤ} {t : ℕ} → Turns m 0 f (at [] fs t) (at [] fs t)
    turn : {n : ℕ} {f : Code} {fs : List ℤ} {t : ℕ} {q r : Machine} → Goes m f (at [] fs (later t (m.charge 12 (pos 0) (pos 0)))) q → Turns m n f q r → Turns m (suc n) f (at [] fs t) r
