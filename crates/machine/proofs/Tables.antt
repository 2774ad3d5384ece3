-- A jump as the table has it.
use Rattle.std.proofs.Common.{◌≡◌, ℕ, zero, suc, ◌+◌, ◌<◌, List, get_or, take, sym, ap, ◌∙◌, arith}
use Rattle.book.specs.declared.instruction.Instruction.{Instruction}
use Rattle.machine.specs.Jumps.{jump_from, jumps_from}
use Rattle.std.proofs.lemmas.List.{get_or-take}

entry : (is : List Instruction) (n q p : ℕ) → p < n → get_or (jumps_from is n q) p 0 ≡ jump_from is (q + p)
entry is zero q p h = absurd (omega arith)
entry is (suc n) q zero h = ap (jump_from is) (omega arith)
entry is (suc n) q (suc p) h = entry is n (q + 1) p (omega arith) ∙ ap (jump_from is) (omega arith)

-- a row whose first places are the jumps of the code
pub in_table : (is : List Instruction) (row : List ℕ) (n p : ℕ) → take n row ≡ jumps_from is n 0 → p < n → get_or row p 0 ≡ jump_from is p
in_table is row n p e h = sym (get_or-take n row p 0 h) ∙ ap (λ xs. get_or xs p 0) e ∙ entry is n 0 p h ∙ ap (jump_from is) (omega arith)
