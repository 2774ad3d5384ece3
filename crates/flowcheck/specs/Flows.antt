-- The flow rules, in the manner of typing rules.
use Rattle.std.specs.Prelude.{◌≡◌, ℕ, Bool, true, ◌⊎◌, List, [], ◌∷◌, ℤ}
use Rattle.book.specs.Codes.{code_of}
use Rattle.book.specs.declared.instruction.Instruction.{Instruction}
use Rattle.book.specs.declared.instruction.Instruction.TheVariants.{Number, Figure, Clock, Operate, Store, If, Repeat, Wait}
use Rattle.book.specs.declared.instruction.Operation.{Operation}
use Rattle.book.specs.Trees.{Code, done, plain, branch, loop}
use Rattle.flowcheck.specs.Tolls.{toll}
use Rattle.flowcheck.specs.Walks.{Setting, figure_level, on_clock}

-- the charge of an instruction tells the clock nothing that it may not show: its code is steady, or the clock may show level l
abbrev pub Paced : Setting → ℕ → Instruction → Type 0
Paced g l i = (g.meter.steady (code_of i) ≡ true) ⊎ (on_clock g l ≡ true)

-- the clock may show level l, or both parts take the same time
abbrev pub Even : Setting → ℕ → Code → Code → Type 0
Even g l f s = (on_clock g l ≡ true) ⊎ (toll g.meter f ≡ toll g.meter s)

-- Flows g k ls c: in context k, with amounts of levels ls on the stack, the top first, the stretch c keeps every flow rule
pub data Flows (g : Setting) : ℕ → List ℕ → Code → Type 0 where
  ends : {k : ℕ} → Flows g k [] done
  number : {k : ℕ} {ls : List ℕ} {z : ℤ} {c : Code} → Paced g k (Number z) → Flows g k (g.scale.floor ∷ ls) c → Flows g k ls (plain (Number z) c)
  figure : {k : ℕ} {ls : List ℕ} {v : ℕ} {c : Code} → Paced g k (Figure v) → Flows g k (figure_level g v ∷ ls) c → Flows g k ls (plain (Figure v) c)
  clock : {k : ℕ} {ls : List ℕ} {c : Code} → Paced g k Clock → Flows g k (g.clock ∷ ls) c → Flows g k ls (plain Clock c)
  operate : {k a b : ℕ} {ls : List ℕ} {o : Operation} {c : Code} → Paced g (g.scale.join (g.scale.join k a) b) (Operate o) → Flows g k (g.scale.join a b ∷ ls) c → Flows g k (b ∷ a ∷ ls) (plain (Operate o) c)
  store : {k a v : ℕ} {c : Code} → Paced g (g.scale.join k a) (Store v) → g.scale.below a (figure_level g v) ≡ true → g.scale.below k (figure_level g v) ≡ true → Flows g k [] c → Flows g k (a ∷ []) (plain (Store v) c)
  wait : {k n : ℕ} {c : Code} → Flows g k [] c → Flows g k [] (plain (Wait n) c)
  parts : {k a : ℕ} {b : Bool} {f s c : Code} → Paced g (g.scale.join k a) If → Even g (g.scale.join k a) f s → Flows g (g.scale.join k a) [] f → Flows g (g.scale.join k a) [] s → Flows g k [] c → Flows g k (a ∷ []) (branch b f s c)
  turns : {k n : ℕ} {f c : Code} → Paced g k (Repeat n) → Flows g k [] f → Flows g k [] c → Flows g k [] (loop n f c)
