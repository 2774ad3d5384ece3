-- The open blocks, kept on a stack of eight.
use Rattle.std.proofs.Common.{◌≡◌, ◌<◌, ◌≤◌, true, List, [], ◌∷◌, length, arith}
use Rattle.book.specs.declared.block.Block.{Block}
use Rattle.book.specs.declared.block.Block.TheVariants.{SecondPart}
use Rattle.book.specs.Reads.{in_first, outer}
use Rattle.stack.specs.Stacks.{pushed, rest}
use Rattle.std.proofs.lemmas.Bool.{lt-ltb, false≢true}

-- an else takes the first part off and puts the second part in its place
pub replaced : (bs : List Block) → length bs ≤ 8 → in_first bs ≡ true → pushed SecondPart (rest bs) ≡ SecondPart ∷ outer bs
replaced [] h e = absurd (false≢true e)
replaced (b ∷ bs) h e = let room : length bs < 8 = omega arith in rw (lt-ltb (length bs) 8 room)
