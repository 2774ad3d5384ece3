-- Where the parts of a book stand in its bytes.
use Rattle.std.specs.Prelude.{ℕ, ◌+◌, ◌*◌}

-- the place of the first code in a book of nv figures
abbrev pub codes_at : ℕ → ℕ
codes_at nv = 6 + 6 * nv

-- the place of the first argument in a book of nv figures and nc instructions
abbrev pub arguments_at : ℕ → ℕ → ℕ
arguments_at nv nc = codes_at nv + nc
