-- What a well-formed stretch of code is, as rules in the manner of typing rules.
use Rattle.std.specs.Prelude.{ℕ, suc, ◌<◌, ◌≤◌, true, false, ℤ}
use Rattle.book.specs.declared.instruction.Instruction.TheVariants.{Number, Figure, Clock, Operate, Store, Wait}
use Rattle.book.specs.declared.instruction.Operation.{Operation}
use Rattle.book.specs.Trees.{Code, done, plain, branch, loop}

-- Formed nv d h c: in a book of nv figures, where h amounts stand on the stack and d more blocks may be open
-- together, the stretch c runs without a missing amount, a ninth one or a ninth block, and leaves the stack empty
pub data Formed (nv : ℕ) : ℕ → ℕ → Code → Type 0 where
  ends : {d : ℕ} → Formed nv d 0 done
  number : {d h : ℕ} {z : ℤ} {c : Code} → h < 8 → Formed nv d (suc h) c → Formed nv d h (plain (Number z) c)
  figure : {d h v : ℕ} {c : Code} → v < nv → h < 8 → Formed nv d (suc h) c → Formed nv d h (plain (Figure v) c)
  clock : {d h : ℕ} {c : Code} → h < 8 → Formed nv d (suc h) c → Formed nv d h (plain Clock c)
  operate : {d h : ℕ} {o : Operation} {c : Code} → Formed nv d (suc h) c → Formed nv d (suc (suc h)) (plain (Operate o) c)
  store : {d v : ℕ} {c : Code} → v < nv → Formed nv d 0 c → Formed nv d 1 (plain (Store v) c)
  wait : {d n : ℕ} {c : Code} → n ≤ 1000 → Formed nv d 0 c → Formed nv d 0 (plain (Wait n) c)
  one_part : {d : ℕ} {f c : Code} → Formed nv d 0 f → Formed nv (suc d) 0 c → Formed nv (suc d) 1 (branch false f done c)
  two_parts : {d : ℕ} {f s c : Code} → Formed nv d 0 f → Formed nv d 0 s → Formed nv (suc d) 0 c → Formed nv (suc d) 1 (branch true f s c)
  turns : {d n : ℕ} {f c : Code} → n ≤ 1000 → Formed nv d 0 f → Formed nv (suc d) 0 c → Formed nv (suc d) 0 (loop n f c)
