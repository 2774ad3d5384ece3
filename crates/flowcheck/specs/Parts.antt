-- The tolls of an if's parts, worked out from the places where they start.
use Rattle.std.specs.Prelude.{◌≡◌, ℕ, ◌+◌, ◌≤◌, List, [], length, drop, Some, None}
use Rattle.book.specs.declared.instruction.Instruction.{Instruction}
use Rattle.book.specs.Looks.{matching_else}
use Rattle.book.specs.Trees.{here, parse}
use Rattle.flowcheck.specs.Tolls.{second_ahead, toll, tolled}
use Rattle.meter.specs.Meters.{MeterModel}

-- the first part starts behind the if at place p, the second behind the else that belongs to it; a missing one has toll 0
pub record PartTolls (m : MeterModel) (code : List Instruction) (p : ℕ) : Type 0 where
  pub first : tolled m 0 [] (drop (p + 1) code) ≡ toll m (here (parse (drop (p + 1) code)))
  pub second : (e : ℕ) → matching_else code p ≡ Some e → (e + 1 ≤ length code) × (tolled m 0 [] (drop (e + 1) code) ≡ toll m (second_ahead (parse (drop (p + 1) code))))
  pub missing : matching_else code p ≡ None → toll m (second_ahead (parse (drop (p + 1) code))) ≡ 0
