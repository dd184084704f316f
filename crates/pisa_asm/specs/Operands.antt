-- The operands of an instruction.
use Rattle.std.specs.Prelude.{ℕ, Bool, true, false, List, [], ◌∷◌, Option, Some, None}
use Rattle.std.specs.Prelude.{if◌then◌else◌}
use Rattle.std.specs.Option.{option_map, option_and_then}
use Rattle.pisa_isa.specs.declared.cell.Op.{Op}
use Rattle.pisa_isa.specs.declared.cell.Op.TheVariants.{Addi, Xori, Rl, Rr, Andix, Orix, Sllx, Srlx}
use Rattle.pisa_isa.specs.declared.cell.Op.TheVariants.{Srax, Bra, Rbra, Beq, Bne, Bgez, Bgtz, Blez}
use Rattle.pisa_isa.specs.declared.cell.Op.TheVariants.{Bltz, DataWord}
use Rattle.pisa_isa.specs.declared.cell.Cell.{Cell}
use Rattle.pisa_isa.specs.Table.{has_a, has_b, c_is_source}
use Rattle.pisa_asm.specs.declared.operand.Last.{Last}
use Rattle.pisa_asm.specs.declared.operand.Last.TheVariants.{Nothing, Word, Amount, Offset}
use Rattle.pisa_asm.specs.declared.operand.Operand.{Operand}
use Rattle.pisa_asm.specs.declared.operand.Operand.TheVariants.{Number, Label}
use Rattle.pisa_asm.specs.declared.operand.Given.{Given}
use Rattle.pisa_asm.specs.Numerals.{register_number, word_number, amount_number, offset_number}
use Rattle.pisa_asm.specs.LabelNames.{is_label_name}

-- what an instruction has after its registers
abbrev pub last_of : Op → Last
last_of Addi = Word
last_of Xori = Word
last_of Rl = Amount
last_of Rr = Amount
last_of Andix = Word
last_of Orix = Word
last_of Sllx = Amount
last_of Srlx = Amount
last_of Srax = Amount
last_of Bra = Offset
last_of Rbra = Offset
last_of Beq = Offset
last_of Bne = Offset
last_of Bgez = Offset
last_of Bgtz = Offset
last_of Blez = Offset
last_of Bltz = Offset
last_of DataWord = Word
last_of _ = Nothing

-- the register that the first word names, if the instruction has one here, and the words after it
abbrev pub register_from : Bool → List (List ℕ) → Option (ℕ × List (List ℕ))
register_from false words = Some (0, words)
register_from true [] = None
register_from true (word ∷ words) = option_map (λ r. (r, words)) (register_number word)

-- the registers of an instruction in their order, and the words after them
abbrev pub registers_from : Op → List (List ℕ) → Option (Cell × List (List ℕ))
registers_from op words =
    option_and_then (λ a. option_and_then
    (λ b. option_map (λ c. (record { op = op; a = a.0; b = b.0; c = c.0; imm = 0 }, c.1))
    (register_from (c_is_source op) b.1)) (register_from (has_b op) a.1))
    (register_from (has_a op) words)

-- an offset is a number or a label's name
abbrev pub offset_from : List ℕ → Option Operand
offset_from word = if is_label_name word then Some (Label word) else option_map Number
    (offset_number word)

-- the only word
abbrev pub sole : List (List ℕ) → Option (List ℕ)
sole (word ∷ []) = Some word
sole words = None

-- if no words are left
abbrev pub no_operand : List (List ℕ) → Option Operand
no_operand [] = Some (Number 0)
no_operand words = None

-- the last operand of an instruction, from all the words after the registers
abbrev pub operand_from : Last → List (List ℕ) → Option Operand
operand_from Nothing words = no_operand words
operand_from Word words = option_map Number (option_and_then word_number (sole words))
operand_from Amount words = option_map Number (option_and_then amount_number (sole words))
operand_from Offset words = option_and_then offset_from (sole words)

-- a cell with its last operand
abbrev pub with_operand : Cell → Operand → Given
with_operand cell (Number n) = record { cell = record cell { imm = n }; target = None }
with_operand cell (Label name) = record { cell = cell; target = Some name }

-- the cell of a row with these operands
abbrev pub given_from : Op → List (List ℕ) → Option Given
given_from op words =
    option_and_then (λ registers. option_map (with_operand registers.0)
    (operand_from (last_of op) registers.1)) (registers_from op words)
