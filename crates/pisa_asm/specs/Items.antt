-- What is on a line after its labels.
use Rattle.std.specs.Prelude.{ℕ, List, [], ◌∷◌, Option, Some, None, Result, Ok, Err, if◌then◌else◌}
use Rattle.std.specs.Option.{option_map, option_and_then}
use Rattle.std.specs.Str.{bytes_eq}
use Rattle.pisa_isa.specs.declared.cell.Op.{Op}
use Rattle.pisa_isa.specs.declared.notes.Mark.{Mark}
use Rattle.pisa_isa.specs.declared.notes.FieldName.{FieldName}
use Rattle.pisa_isa.specs.Notes.{is_name}
use Rattle.pisa_asm.specs.declared.error.AsmError.{AsmError}
use Rattle.pisa_asm.specs.declared.error.AsmError.TheVariants.{UnknownMnemonic}
use Rattle.pisa_asm.specs.declared.item.Item.{Item}
use Rattle.pisa_asm.specs.declared.item.Item.TheVariants.{Nothing, Code, Static, Marked, Named}
use Rattle.pisa_asm.specs.Numerals.{word_number, unsigned_number}
use Rattle.pisa_asm.specs.Mnemonics.{row_named, static_mnemonic, mark_word, name_word}
use Rattle.pisa_asm.specs.Chain.{and_then, or_bad}
use Rattle.pisa_asm.specs.Operands.{sole, given_from}

-- the number after STATIC
abbrev pub static_from : List (List ℕ) → Option ℕ
static_from words = option_and_then word_number (sole words)

-- the number that the first word writes, and the words after it
abbrev pub unsigned_from : List (List ℕ) → Option (ℕ × List (List ℕ))
unsigned_from [] = None
unsigned_from (word ∷ words) = option_map (λ n. (n, words)) (unsigned_number word)

-- the mark after MARK: its first cell, its end and its offset
abbrev pub mark_from : List (List ℕ) → Option Mark
mark_from words =
    option_and_then (λ first. option_and_then
    (λ end. option_map (λ at. record { first = first.0; end = end.0; at = at })
    (option_and_then unsigned_number (sole end.1))) (unsigned_from first.1)) (unsigned_from words)

-- a word as a name
abbrev pub name_of : ℕ → List ℕ → Option FieldName
name_of cell word = if is_name word then Some (record { cell = cell; text = word }) else None

-- the name after NAME: its data cell and its bytes
abbrev pub name_from : List (List ℕ) → Option FieldName
name_from words = option_and_then (λ cell. option_and_then (name_of cell.0) (sole cell.1))
    (unsigned_from words)

-- what a first word that is no mnemonic begins
abbrev pub other_item : ℕ → List ℕ → List (List ℕ) → Result Item AsmError
other_item line first words =
    if bytes_eq first static_mnemonic then and_then (or_bad line (static_from words))
    (λ word. Ok (Static word))
    else (if bytes_eq first mark_word then and_then (or_bad line (mark_from words))
    (λ mark. Ok (Marked mark))
    else (if bytes_eq first name_word then and_then (or_bad line (name_from words))
    (λ name. Ok (Named name))
    else Err (UnknownMnemonic line)))

-- by the row that the first word names
abbrev pub item_by : ℕ → List ℕ → List (List ℕ) → Option Op → Result Item AsmError
item_by line first words (Some op) =
    and_then (or_bad line (given_from op words)) (λ given. Ok (Code given))
item_by line first words None = other_item line first words

-- nothing, an instruction, a static word or a note
abbrev pub item_from : ℕ → List (List ℕ) → Result Item AsmError
item_from line [] = Ok Nothing
item_from line (first ∷ words) = item_by line first words (row_named first)
