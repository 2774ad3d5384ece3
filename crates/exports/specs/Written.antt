-- What C reads in place of what was written.
use Rattle.exports.specs.declared.Answer.{Answer}
use Rattle.exports.specs.declared.Reason.{Reason}
use Rattle.exports.specs.declared.Reason.TheVariants.{NoMemory, NoRoom}
use Rattle.std.specs.Prelude.{ℕ, Ok, Err, Result}

-- the length, or the number of the reason
abbrev pub answer_of : Result ℕ Reason → Answer
answer_of (Ok length) = record { refusal = 0; length = length }
answer_of (Err NoRoom) = record { refusal = 20; length = 0 }
answer_of (Err NoMemory) = record { refusal = 255; length = 0 }
