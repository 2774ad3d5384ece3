-- What a line asks for.
use Rattle.std.specs.Prelude.{ℕ, Bool, true, cond, ◌&&◌, List, [], ◌∷◌, length, Some, None, codes, Option, ◌==◌, nat_lt}
use Rattle.engine.specs.Models.{Call, load, put, run, show, clock, open_slip, carry, withdraw, tally, Paper}
use Rattle.script.specs.Words.{words_of}
use Rattle.script.specs.declared.command.MeterChoice.TheVariants.{Card, Digit}
use Rattle.script.specs.declared.command.MeterChoice.{MeterChoice}
use Rattle.script.specs.declared.command.ScaleChoice.TheVariants.{Ladder, Departments}
use Rattle.script.specs.declared.command.ScaleChoice.{ScaleChoice}
use Rattle.spelling.specs.Hex.{bytes}
use Rattle.spelling.specs.Numerals.{integer, natural, naturals}
use Rattle.std.specs.Option.{option_map}
use Rattle.std.specs.Str.{bytes_eq}

-- a scale, a meter, or a call on the engine
pub data Ask : Type 0 where
  scale : ScaleChoice → Ask
  meter : MeterChoice → Ask
  call : Call → Ask

-- what is made of one part more, if that is there
abbrev pub given : {X Y : Type 0} → Option (X → Y) → Option X → Option Y
given None x = None
given (Some f) None = None
given (Some f) (Some x) = Some (f x)

-- whether a word is this one
abbrev pub is : List ℕ → List ℕ → Bool
is w word = bytes_eq w word

-- the numbers of a slip
abbrev pub paper : ℕ → ℕ → ℕ → ℕ → Paper
paper h from to n = record { holder = h; from = from; to = to; number = n }

abbrev pub slip_spelled : List ℕ → List ℕ → List ℕ → List ℕ → Option Paper
slip_spelled w x y z = given (given (given (option_map paper (natural 16 w)) (natural 32 x)) (natural 32 y)) (natural 32 z)

-- the twelve charges of a card
abbrev pub charges_spelled : List (List ℕ) → Option (List ℕ)
charges_spelled ws = naturals 12 ws

-- what the words behind `scale` spell
abbrev pub scale_spelled : List (List ℕ) → Option ScaleChoice
scale_spelled [] = None
scale_spelled (v ∷ []) = None
scale_spelled (v ∷ w ∷ []) = cond (is v (codes "ladder")) (option_map Ladder (natural 32 w)) (cond (is v (codes "departments")) (option_map Departments (natural 32 w)) None)
scale_spelled (v ∷ w ∷ x ∷ more) = None

-- what the words behind `meter` spell
abbrev pub meter_spelled : List (List ℕ) → Option MeterChoice
meter_spelled [] = None
meter_spelled (v ∷ ws) = cond (is v (codes "card")) (option_map Card (charges_spelled ws)) (cond (is v (codes "digit") && length ws == 0) (Some Digit) None)

-- the call that words spell, by how many there are
abbrev pub call_spelled : List (List ℕ) → Option Call
call_spelled [] = None
call_spelled (v ∷ []) = cond (is v (codes "load")) (Some (load [])) (cond (is v (codes "tally")) (Some tally) None)
call_spelled (v ∷ w ∷ []) =
    cond (is v (codes "load")) (option_map load (bytes w))
    (cond (is v (codes "run")) (option_map run (natural 32 w))
    (cond (is v (codes "clock")) (option_map clock (natural 16 w)) None))
call_spelled (v ∷ w ∷ x ∷ []) =
    cond (is v (codes "put")) (given (option_map (λ v a. put v a) (natural 32 w)) (integer x))
    (cond (is v (codes "show")) (given (option_map (λ l v. show l v) (natural 16 w)) (natural 32 x)) None)
call_spelled (v ∷ w ∷ x ∷ y ∷ []) =
    cond (is v (codes "open")) (given (given (option_map (λ h from to. open_slip h from to) (natural 16 w)) (natural 32 x)) (natural 32 y)) None
call_spelled (v ∷ w ∷ x ∷ y ∷ z ∷ []) =
    cond (is v (codes "carry")) (option_map carry (slip_spelled w x y z)) (cond (is v (codes "withdraw")) (option_map withdraw (slip_spelled w x y z)) None)
call_spelled (v ∷ w ∷ x ∷ y ∷ z ∷ a ∷ more) = None

-- what words ask for
abbrev pub spelled : List (List ℕ) → Option Ask
spelled [] = None
spelled (v ∷ ws) =
    cond (is v (codes "scale")) (option_map scale (scale_spelled ws))
    (cond (is v (codes "meter")) (option_map meter (meter_spelled ws)) (option_map call (call_spelled (v ∷ ws))))

-- whether every byte is below 128
abbrev pub ascii : List ℕ → Bool
ascii [] = true
ascii (b ∷ bs) = nat_lt b 128 && ascii bs

-- What a line asks for, if anything.
abbrev pub asked : List ℕ → Option Ask
asked line = cond (ascii line) (spelled (words_of line)) None
