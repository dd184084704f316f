-- Which image, with which notes, a list of lines writes.
use Rattle.std.specs.Prelude.{◌≡◌, ℕ, ◌+◌, ◌^◌, ◌<◌, ◌≤◌, Bool, true, false, List, [], ◌∷◌, ◌++◌}
use Rattle.std.specs.Prelude.{length, map, Some, None, All}
use Rattle.std.specs.Fmt.{decimal}
use Rattle.std.specs.Str.Parse.{IsNumeral, digits_value}
use Rattle.pisa_isa.specs.rpp_words.Words.{negated, difference_of}
use Rattle.pisa_isa.specs.declared.cell.Cell.{Cell}
use Rattle.pisa_isa.specs.Table.{has_a, has_b, c_is_source}
use Rattle.pisa_isa.specs.declared.notes.Mark.{Mark}
use Rattle.pisa_isa.specs.declared.notes.FieldName.{FieldName}
use Rattle.pisa_isa.specs.Image.{IsImage}
use Rattle.pisa_isa.specs.Notes.{NoteLists, NotedImage, no_notes, is_name as is_field_name, fits}
use Rattle.pisa_asm.specs.declared.operand.Last.{Last}
use Rattle.pisa_asm.specs.declared.operand.Last.TheVariants.{Nothing, Word, Amount, Offset}
use Rattle.pisa_asm.specs.Lines.{content_of, line_words}
use Rattle.pisa_asm.specs.LabelNames.{is_label_name, Labels, label_address}
use Rattle.pisa_asm.specs.Mnemonics.{mnemonic, static_mnemonic, mark_word, name_word}
use Rattle.pisa_asm.specs.Operands.{last_of}

-- decimal digits with an optional sign, for a number that is at least -low and below `end`, and its
-- word
pub data NumberText (low end : ℕ) (bytes : List ℕ) (word : ℕ) : Type 0 where
  plain : IsNumeral 10 bytes → digits_value 10 bytes < end → word ≡ digits_value 10 bytes
      → NumberText low end bytes word
  plus : (digits : List ℕ) → bytes ≡ 43 ∷ digits → IsNumeral 10 digits
      → digits_value 10 digits < end → word ≡ digits_value 10 digits → NumberText low end bytes word
  minus : (digits : List ℕ) → bytes ≡ 45 ∷ digits → IsNumeral 10 digits
      → digits_value 10 digits ≤ low → word ≡ negated (digits_value 10 digits)
      → NumberText low end bytes word

-- `$` and 0 to 31 without leading zeros
pub record RegisterText (bytes : List ℕ) (r : ℕ) : Type 0 where
  pub in_range : r < 32
  pub written : bytes ≡ 36 ∷ decimal r

-- the words for a register that a row has or not
abbrev pub RegisterWords : Bool → List (List ℕ) → ℕ → Type 0
RegisterWords false words r = (words ≡ []) × (r ≡ 0)
RegisterWords true words r = (word : List ℕ) × (words ≡ word ∷ []) × RegisterText word r

-- an offset: a number, or a label's name, which means its code address minus this one
pub data OffsetText (labels : Labels) (at : ℕ) (bytes : List ℕ) (offset : ℕ) : Type 0 where
  by_number : NumberText (2 ^ 31) (2 ^ 31) bytes offset → OffsetText labels at bytes offset
  by_label : (place : ℕ) → is_label_name bytes ≡ true → label_address bytes labels ≡ Some place
      → offset ≡ difference_of place at → OffsetText labels at bytes offset

-- the words for what an instruction has after its registers
abbrev pub LastWords : Labels → ℕ → Last → List (List ℕ) → ℕ → Type 0
LastWords labels at Nothing words imm = (words ≡ []) × (imm ≡ 0)
LastWords labels at Word words imm = (word : List ℕ) × (words ≡ word ∷ [])
    × NumberText (2 ^ 31) (2 ^ 32) word imm
LastWords labels at Amount words imm = (word : List ℕ) × (words ≡ word ∷ [])
    × NumberText 0 32 word imm
LastWords labels at Offset words imm = (word : List ℕ) × (words ≡ word ∷ [])
    × OffsetText labels at word imm

-- an instruction at a code address: its mnemonic, its registers in their order, and what else it
-- has
pub record InstructionText (labels : Labels) (at : ℕ) (words : List (List ℕ)) (cell : Cell) : Type 0
  where
    pub a : List (List ℕ)
    pub b : List (List ℕ)
    pub c : List (List ℕ)
    pub last : List (List ℕ)
    pub written : words ≡ mnemonic cell.op ∷ (a ++ (b ++ (c ++ last)))
    pub is_a : RegisterWords (has_a cell.op) a cell.a
    pub is_b : RegisterWords (has_b cell.op) b cell.b
    pub is_c : RegisterWords (c_is_source cell.op) c cell.c
    pub is_last : LastWords labels at (last_of cell.op) last cell.imm

-- only decimal digits, for a word
pub record UnsignedText (bytes : List ℕ) (n : ℕ) : Type 0 where
  pub is_numeral : IsNumeral 10 bytes
  pub in_range : n < 2 ^ 32
  pub value : n ≡ digits_value 10 bytes

-- MARK, the first cell, the end and the offset
pub record MarkText (words : List (List ℕ)) (m : Mark) : Type 0 where
  pub first : List ℕ
  pub end : List ℕ
  pub at : List ℕ
  pub written : words ≡ mark_word ∷ first ∷ end ∷ at ∷ []
  pub is_first : UnsignedText first m.first
  pub is_end : UnsignedText end m.end
  pub is_at : UnsignedText at m.at

-- NAME, the data cell and the name
pub record NameText (words : List (List ℕ)) (n : FieldName) : Type 0 where
  pub cell : List ℕ
  pub written : words ≡ name_word ∷ cell ∷ n.text ∷ []
  pub is_cell : UnsignedText cell n.cell
  pub is_text : is_field_name n.text ≡ true

abbrev pub one_mark : Mark → NoteLists
one_mark m = record { marks = m ∷ []; names = [] }

abbrev pub one_name : FieldName → NoteLists
one_name n = record { marks = []; names = n ∷ [] }

-- notes, and after them those of others
abbrev pub joined_notes : NoteLists → NoteLists → NoteLists
joined_notes before behind =
    record { marks = before.marks ++ behind.marks; names = before.names ++ behind.names }

-- nothing, an instruction, STATIC and a word, MARK and three numbers, or NAME, a number and a name
pub data ItemText (labels : Labels) (at : ℕ) (words : List (List ℕ)) (code : List Cell)
    (statics : List ℕ) (notes : NoteLists) : Type 0 where
  nothing : words ≡ [] → code ≡ [] → statics ≡ [] → notes ≡ no_notes
      → ItemText labels at words code statics notes
  instruction : (cell : Cell) → InstructionText labels at words cell → code ≡ cell ∷ []
      → statics ≡ [] → notes ≡ no_notes → ItemText labels at words code statics notes
  static : (word : List ℕ) (n : ℕ) → words ≡ static_mnemonic ∷ word ∷ []
      → NumberText (2 ^ 31) (2 ^ 32) word n → code ≡ [] → statics ≡ n ∷ [] → notes ≡ no_notes
      → ItemText labels at words code statics notes
  marked : (m : Mark) → MarkText words m → code ≡ [] → statics ≡ [] → notes ≡ one_mark m
      → ItemText labels at words code statics notes
  named : (n : FieldName) → NameText words n → code ≡ [] → statics ≡ [] → notes ≡ one_name n
      → ItemText labels at words code statics notes

-- a name followed directly by `:`
abbrev pub label_word : List ℕ → List ℕ
label_word name = name ++ 58 ∷ []

-- a line has labels and then other words, except for a carriage return at its end and a comment
pub record LabeledLine (line : List ℕ) (names words : List (List ℕ)) : Type 0 where
  pub are_names : All (λ name. is_label_name name ≡ true) names
  pub written : line_words (content_of line) ≡ map label_word names ++ words

-- lines, the first of which has this code address for its cell, write these labels, code cells,
-- static words and notes
pub data LinesText (labels : Labels) : (at : ℕ) (lines : List (List ℕ)) (written : Labels)
    (code : List Cell) (statics : List ℕ) (notes : NoteLists) → Type 0 where
  finish : (at : ℕ) → LinesText labels at [] [] [] [] no_notes
  one_line : (at : ℕ) (line : List ℕ) (lines names words : List (List ℕ)) (written : Labels)
      (cells code : List Cell) (words_here statics : List ℕ) (notes_here notes : NoteLists)
      → LabeledLine line names words
      → ItemText labels at words cells words_here notes_here
      → LinesText labels (at + length cells) lines written code statics notes
      → LinesText labels at (line ∷ lines) (map (λ name. (name, at)) names ++ written)
      (cells ++ code) (words_here ++ statics) (joined_notes notes_here notes)

-- each label is none of those before it
abbrev pub AreNew : (before labels : Labels) → Type 0
AreNew before [] = Unit {0}
AreNew before (label ∷ labels) = (label_address label.0 before ≡ None)
    × AreNew (before ++ label ∷ []) labels

-- the lines write the image and notes that fit it, with labels all of whose names differ
pub record AssemblyText (lines : List (List ℕ)) (n : NotedImage) : Type 0 where
  pub labels : Labels
  pub are_new : AreNew [] labels
  pub written : LinesText labels 0 lines labels n.image.code n.image.statics n.notes
  pub is_image : IsImage n.image
  pub is_fit : fits n.image n.notes ≡ true
