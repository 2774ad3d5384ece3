-- The line of a reply, without its line feed.
use Rattle.std.specs.Prelude.{ℕ, List, ◌++◌, codes, decimal}
use Rattle.script.specs.declared.reply.Reply.TheVariants.{Unreadable, Done, Loaded, Amount, Clock, Opened, Counts, Refused}
use Rattle.script.specs.declared.reply.Reply.{Reply}
use Rattle.refusal.specs.Layers.{layer_name}
use Rattle.std.specs.Fmt.{signed_decimal}

-- `error`, `ok`, or a word and its numbers, one space between them
abbrev pub line_of : Reply → List ℕ
line_of Unreadable = codes "error"
line_of Done = codes "ok"
line_of (Loaded n) = codes "accepted " ++ decimal n
line_of (Amount a) = codes "amount " ++ signed_decimal a
line_of (Clock t) = codes "clock " ++ decimal t
line_of (Opened s) = codes "slip " ++ (decimal s.holder ++ (codes " " ++ (decimal s.from ++ (codes " " ++ (decimal s.to ++ (codes " " ++ decimal s.number))))))
line_of (Counts t) = codes "tally " ++ (decimal t.openings ++ (codes " " ++ (decimal t.carries ++ (codes " " ++ decimal t.withdrawals))))
line_of (Refused x) = codes "refused " ++ (decimal x.number ++ (codes " " ++ (layer_name x.layer ++ (codes " " ++ decimal x.place))))
