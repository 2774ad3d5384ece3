-- The line that says what became of a rule book.
use Rattle.std.specs.Prelude.{◌≡◌, ℕ, ◌^◌, ◌<◌, ◌≤◌, List, ◌++◌, length, drop, Ok, Err, codes, decimal, Result}
use Rattle.refusal.specs.declared.MakerFault.TheVariants.{LineBuffer}
use Rattle.refusal.specs.declared.MakerFault.{MakerFault}
use Rattle.refusal.specs.declared.Refusal.{Refusal}
use Rattle.refusal.specs.Layers.{layer_name}

-- The line of a verdict, with a line feed (byte 10) at its end.
abbrev pub line : Result ℕ Refusal → List ℕ
line (Ok events) = codes "accepted " ++ (decimal events ++ codes "\n")
line (Err refusal) =
    codes "refused " ++ (decimal refusal.number ++ (codes " " ++ (layer_name refusal.layer ++ (codes " " ++ (decimal refusal.place ++ codes "\n")))))

-- A buffer below 32 bytes is refused and unchanged; else the line, of at most 30 bytes, stands at its start, and its length is answered.
pub record Written (verdict : Result ℕ Refusal) (before : List ℕ) (answer : Result ℕ MakerFault) (after : List ℕ) : Type 0 where
  pub short : length before < 32 → (answer ≡ Err LineBuffer) × (after ≡ before)
  pub long : 32 ≤ length before → (answer ≡ Ok (length (line verdict))) × (after ≡ line verdict ++ drop (length (line verdict)) before) × (length (line verdict) ≤ 30)

-- The numbers of a verdict fit the widths that the code has for them.
abbrev pub Fitting : Result ℕ Refusal → Type 0
Fitting (Ok events) = events < 2 ^ 32
Fitting (Err refusal) = (refusal.number < 2 ^ 8) × (refusal.place < 2 ^ 32)

-- A line can be read back: different verdicts have different lines.
abbrev pub Readable : Type 0
Readable = (v w : Result ℕ Refusal) → Fitting v → Fitting w → line v ≡ line w → v ≡ w
