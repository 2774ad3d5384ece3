-- The numbers that instructions have in a book's bytes.
use Rattle.std.specs.Prelude.{ℕ, cond, ℤ, pos, negsuc, Some, None, Option, ◌==◌, nat_lt}
use Rattle.book.specs.declared.instruction.Instruction.{Instruction}
use Rattle.book.specs.declared.instruction.Instruction.TheVariants.{Stop, Number, Figure, Clock, Operate, Store, If, Repeat, Wait, Else, End}
use Rattle.book.specs.declared.instruction.Operation.{Operation}
use Rattle.book.specs.declared.instruction.Operation.TheVariants.{Add, Subtract, Multiply, Divide, Less, Equal}

-- the code of an operation, 4 to 9
abbrev pub operation_code : Operation → ℕ
operation_code Add = 4
operation_code Subtract = 5
operation_code Multiply = 6
operation_code Divide = 7
operation_code Less = 8
operation_code Equal = 9

-- the code of an instruction, 1 to 16
abbrev pub code_of : Instruction → ℕ
code_of (Number z) = 1
code_of (Figure v) = 2
code_of Clock = 3
code_of (Operate o) = operation_code o
code_of (Store v) = 10
code_of If = 11
code_of (Repeat n) = 12
code_of (Wait n) = 13
code_of Else = 14
code_of End = 15
code_of Stop = 16

-- the argument that stands beside the code
abbrev pub argument_of : Instruction → ℤ
argument_of (Number z) = z
argument_of (Figure v) = pos v
argument_of Clock = pos 0
argument_of (Operate o) = pos 0
argument_of (Store v) = pos v
argument_of If = pos 0
argument_of (Repeat n) = pos n
argument_of (Wait n) = pos n
argument_of Else = pos 0
argument_of End = pos 0
argument_of Stop = pos 0

-- an argument as a number from 0 to below a limit, if it is one
abbrev pub natural_below : ℕ → ℤ → Option ℕ
natural_below limit (pos n) = cond (nat_lt n limit) (Some n) None
natural_below limit (negsuc n) = None

-- an argument from 0 to below a limit, handed to an instruction that has one
abbrev pub bounded : ℕ → (ℕ → Instruction) → ℤ → Option Instruction
bounded limit make (pos n) = cond (nat_lt n limit) (Some (make n)) None
bounded limit make (negsuc n) = None

-- an instruction without an argument: 0 stands beside its code
abbrev pub alone : Instruction → ℤ → Option Instruction
alone i z = bounded 1 (λ _. i) z

-- the instruction that a code and an argument are in a book of nv figures, if they are one
abbrev pub decoded : ℕ → ℕ → ℤ → Option Instruction
decoded nv c z =
    cond (c == 1) (Some (Number z))
    (cond (c == 2) (bounded nv Figure z)
    (cond (c == 3) (alone Clock z)
    (cond (c == 4) (alone (Operate Add) z)
    (cond (c == 5) (alone (Operate Subtract) z)
    (cond (c == 6) (alone (Operate Multiply) z)
    (cond (c == 7) (alone (Operate Divide) z)
    (cond (c == 8) (alone (Operate Less) z)
    (cond (c == 9) (alone (Operate Equal) z)
    (cond (c == 10) (bounded nv Store z)
    (cond (c == 11) (alone If z)
    (cond (c == 12) (bounded 1001 Repeat z)
    (cond (c == 13) (bounded 1001 Wait z)
    (cond (c == 14) (alone Else z)
    (cond (c == 15) (alone End z)
    (cond (c == 16) (alone Stop z) None)))))))))))))))
