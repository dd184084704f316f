-- The one text that is written of an image with its notes.
use Rattle.std.specs.Prelude.{ℕ, ◌-◌, ◌^◌, nat_lt, Bool, true, false, List, [], ◌∷◌, ◌++◌}
use Rattle.std.specs.Prelude.{if◌then◌else◌}
use Rattle.std.specs.Fmt.{decimal}
use Rattle.pisa_isa.specs.declared.cell.Cell.{Cell}
use Rattle.pisa_isa.specs.Table.{has_a, has_b, c_is_source}
use Rattle.pisa_isa.specs.declared.notes.Mark.{Mark}
use Rattle.pisa_isa.specs.declared.notes.FieldName.{FieldName}
use Rattle.pisa_isa.specs.Notes.{NotedImage}
use Rattle.pisa_asm.specs.declared.operand.Last.{Last}
use Rattle.pisa_asm.specs.declared.operand.Last.TheVariants.{Nothing, Word, Amount, Offset}
use Rattle.pisa_asm.specs.Mnemonics.{mnemonic, static_mnemonic, mark_word, name_word}
use Rattle.pisa_asm.specs.Operands.{last_of}

-- a word in signed decimal
abbrev pub signed_text : ℕ → List ℕ
signed_text word = if nat_lt word (2 ^ 31) then decimal word else 45 ∷ decimal (2 ^ 32 - word)

-- an offset in signed decimal with its sign
abbrev pub offset_text : ℕ → List ℕ
offset_text offset = if nat_lt offset (2 ^ 31) then 43 ∷ decimal offset
    else 45 ∷ decimal (2 ^ 32 - offset)

-- a register after a space, if the instruction has it
abbrev pub register_text : Bool → ℕ → List ℕ
register_text false r = []
register_text true r = 32 ∷ 36 ∷ decimal r

-- the last operand after a space
abbrev pub last_text : Last → ℕ → List ℕ
last_text Nothing imm = []
last_text Word imm = 32 ∷ signed_text imm
last_text Amount imm = 32 ∷ decimal imm
last_text Offset imm = 32 ∷ offset_text imm

-- the line of a cell, without its line feed
abbrev pub cell_text : Cell → List ℕ
cell_text c =
    mnemonic c.op ++ register_text (has_a c.op) c.a ++ register_text (has_b c.op) c.b
    ++ register_text (c_is_source c.op) c.c ++ last_text (last_of c.op) c.imm

-- the line of a static word, without its line feed
abbrev pub static_text : ℕ → List ℕ
static_text word = static_mnemonic ++ 32 ∷ signed_text word

-- a number after a space
abbrev pub number_text : ℕ → List ℕ
number_text n = 32 ∷ decimal n

-- the line of a mark, without its line feed
abbrev pub mark_text : Mark → List ℕ
mark_text m = mark_word ++ number_text m.first ++ number_text m.end ++ number_text m.at

-- the line of a name, without its line feed
abbrev pub name_text : FieldName → List ℕ
name_text n = name_word ++ number_text n.cell ++ 32 ∷ n.text

-- a line for each of these
abbrev pub lines_by : {X : Type 0} → (X → List ℕ) → List X → List ℕ
lines_by text [] = []
lines_by text (x ∷ xs) = text x ++ 10 ∷ lines_by text xs

-- a line for each code cell, then one for each static word, then one for each mark, and then one
-- for each name
abbrev pub listing : NotedImage → List ℕ
listing n = lines_by cell_text n.image.code ++ lines_by static_text n.image.statics
    ++ lines_by mark_text n.notes.marks ++ lines_by name_text n.notes.names
