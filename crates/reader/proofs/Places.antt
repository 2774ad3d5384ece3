-- One instruction of a scan, and the instructions before it.
use Rattle.std.proofs.Common.{◌≡◌, ℕ, suc, ◌+◌, ◌-◌, ◌*◌, ◌<◌, Bool, true, false, cond, List, [], ◌∷◌, ◌++◌, length, get_or, take, set, Some, None, Ok, Err, Option, Result, sym, refl, ap, ◌∙◌, arith}
use Rattle.book.specs.Codes.{decoded}
use Rattle.refusal.specs.declared.reader.ReaderFault.{ReaderFault}
use Rattle.refusal.specs.declared.reader.ReaderFault.TheVariants.{Height, Nesting}
use Rattle.book.specs.declared.instruction.Instruction.{Instruction}
use Rattle.book.specs.declared.block.Block.{Block}
use Rattle.book.specs.Reads.{Placed, Raw, blocks_after, fits_height, fits_nesting, following, height_after, long, onto, placed, raws, scan, step_fault}
use Rattle.std.proofs.lemmas.List.{take_more_set, append_assoc}

-- an instruction with a fault is answered by it
pub placed_fault : (p h : ℕ) (bs : List Block) (i : Instruction) (o : Option Instruction) (f : ReaderFault) → o ≡ Some i → step_fault p h bs i ≡ Some f → (next : Instruction → Result (List Instruction) ReaderFault) → placed p h bs o next ≡ Err f
placed_fault p h bs i o f e s next = ap (λ q. placed p h bs q next) e ∙ choose (fits_height i h) (fits_nesting i bs) (onto i (next i)) s
  where
    choose : (b d : Bool) (x : Result (List Instruction) ReaderFault) → cond b (cond d None (Some (Nesting p))) (Some (Height p)) ≡ Some f → cond b (cond d x (Err (Nesting p))) (Err (Height p)) ≡ Err f
    choose true true x e = let e' : None ≡ Some f = e in cc
    choose true false x e = let e' : Some (Nesting p) ≡ Some f = e in cc
    choose false d x e = let e' : Some (Height p) ≡ Some f = e in cc

-- the instructions before, with one more
pub following_more : (row : List Instruction) (i : ℕ) (x : Instruction) (r : Result (List Instruction) ReaderFault) → i < length row → following (take (i + 1) (set row i x)) r ≡ following (take i row) (onto x r)
following_more row i x (Ok is) h = ap (λ xs. Ok (xs ++ is)) (take_more_set row i x h) ∙ ap Ok (append_assoc (take i row) (x ∷ []) is)
following_more row i x (Err f) h = refl

-- the instruction at a place, in front of those behind it
raws_more : (bs : List ℕ) (n at from i : ℕ) → i < n → raws (n - i) (at + i) (from + 4 * i) bs ≡ record { code = get_or bs (at + i) 0; argument = long bs (from + 4 * i) } ∷ raws (n - (i + 1)) (at + (i + 1)) (from + 4 * (i + 1)) bs
raws_more bs n at from i h =
    let fewer : n - i ≡ suc (n - (i + 1)) = omega arith in
    let on : at + i + 1 ≡ at + (i + 1) = omega arith in
    let up : from + 4 * i + 4 ≡ from + 4 * (i + 1) = omega arith in
    rw (fewer, on, up)

-- a scan of nc instructions whose codes begin at one place and whose arguments begin at another, at instruction i
module _ (nv nc at from : ℕ) (bytes : List ℕ) (row : List Instruction) (i h : ℕ) (bs : List Block) (lt : i < nc) where
  rest : List Raw
  rest = raws (nc - (i + 1)) (at + (i + 1)) (from + 4 * (i + 1)) bytes

  next : Instruction → Result (List Instruction) ReaderFault
  next x = scan nv (i + 1) (height_after x h) (blocks_after x bs) rest

  now : scan nv i h bs (raws (nc - i) (at + i) (from + 4 * i) bytes) ≡ placed i h bs (decoded nv (get_or bytes (at + i) 0) (long bytes (from + 4 * i))) next
  unfolding rest next
  now = ap (λ rs. scan nv i h bs rs) (raws_more bytes nc at from i lt)

  -- an instruction that fits goes to the ones before
  pub scan_on : (x : Instruction) (h' : ℕ) (bs' : List Block) (all : Result (List Instruction) ReaderFault) → i < length row → Placed nv (get_or bytes (at + i) 0) (long bytes (from + 4 * i)) i h bs (Ok x) h' bs' → following (take i row) (scan nv i h bs (raws (nc - i) (at + i) (from + 4 * i) bytes)) ≡ all → following (take (i + 1) (set row i x)) (scan nv (i + 1) h' bs' (raws (nc - (i + 1)) (at + (i + 1)) (from + 4 * (i + 1)) bytes)) ≡ all
  unfolding rest next
  scan_on x h' bs' all l p inv =
      following_more row i x (scan nv (i + 1) h' bs' rest) l
      ∙ ap (λ k. following (take i row) (onto x (scan nv (i + 1) k bs' rest))) p.1.0
      ∙ ap (λ k. following (take i row) (onto x (scan nv (i + 1) (height_after x h) k rest))) p.1.1
      ∙ ap (following (take i row)) (sym (now ∙ p.0 next))
      ∙ inv

  -- one that does not ends the scan
  pub scan_off : (f : ReaderFault) (h' : ℕ) (bs' : List Block) (all : Result (List Instruction) ReaderFault) → Placed nv (get_or bytes (at + i) 0) (long bytes (from + 4 * i)) i h bs (Err f) h' bs' → following (take i row) (scan nv i h bs (raws (nc - i) (at + i) (from + 4 * i) bytes)) ≡ all → Err f ≡ all
  scan_off f h' bs' all p inv = ap (following (take i row)) (sym (now ∙ p next)) ∙ inv
