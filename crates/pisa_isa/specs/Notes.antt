-- Notes of images: which statement of the source code cells belong to, and the names of data cells.
use Rattle.std.specs.Prelude.{ℕ, ◌+◌, ◌-◌, Bool, true, false, nat_le, nat_lt, List, [], ◌∷◌, ◌&&◌}
use Rattle.std.specs.Prelude.{if◌then◌else◌, length, map}
use Rattle.std.specs.List.{list_all}
use Rattle.std.specs.Char.{is_ascii_alphabetic}
use Rattle.std.specs.Str.{IsAscii}
use Rattle.rpp_words.specs.Names.{is_name_byte}
use Rattle.rpp_words.specs.declared.input.TheConstants.{FIXED_CELLS}
use Rattle.pisa_isa.specs.declared.notes.TheConstants.{MOST_MARKS, LAST_PLACE, MOST_NAMES}
use Rattle.pisa_isa.specs.declared.notes.TheConstants.{MOST_NAME_BYTES}
use Rattle.pisa_isa.specs.declared.notes.Mark.{Mark}
use Rattle.pisa_isa.specs.declared.notes.FieldName.{FieldName}
use Rattle.pisa_isa.specs.Image.{Segments}
use Rattle.pisa_isa.specs.Flipped.{flipped_image}

-- what contracts see of notes
pub record NoteLists : Type 0 where
  pub marks : List Mark
  pub names : List FieldName

-- what contracts see of an image with its notes
pub record NotedImage : Type 0 where
  pub image : Segments
  pub notes : NoteLists

abbrev pub no_notes : NoteLists
no_notes = record { marks = []; names = [] }

-- a letter, and then bytes of names
abbrev pub is_name : List ℕ → Bool
is_name [] = false
is_name (first ∷ rest) = is_ascii_alphabetic first && list_all is_name_byte rest

-- a name that can be written byte by byte
abbrev pub HasAsciiText : FieldName → Type 0
HasAsciiText n = IsAscii n.text

-- the cells of a mark are some of these, or none
abbrev pub is_within : (cells : ℕ) → Mark → Bool
is_within cells m = nat_le m.first m.end && nat_le m.end cells

abbrev pub mark_fits : (cells : ℕ) → Mark → Bool
mark_fits cells m = is_within cells m && nat_le m.at LAST_PLACE

abbrev pub marks_fit : (cells : ℕ) → List Mark → Bool
marks_fit cells marks = nat_le (length marks) MOST_MARKS && list_all (mark_fits cells) marks

-- the data cell is a static one, and so many bytes are left for the name
abbrev pub name_fits : (statics left : ℕ) → FieldName → Bool
name_fits statics left n = nat_le FIXED_CELLS n.cell && nat_lt (n.cell - FIXED_CELLS) statics
    && nat_le (length n.text) left && is_name n.text

-- all of these names, if they have so many bytes together
abbrev pub names_fit : (statics left : ℕ) → List FieldName → Bool
names_fit statics left [] = true
names_fit statics left (n ∷ names) =
    name_fits statics left n && names_fit statics (left - length n.text) names

-- the notes can be kept with so many code cells and so many static cells
abbrev pub notes_fit : (cells statics : ℕ) → NoteLists → Bool
notes_fit cells statics notes = marks_fit cells notes.marks
    && nat_le (length notes.names) MOST_NAMES && names_fit statics MOST_NAME_BYTES notes.names

-- they can be kept with an image
abbrev pub fits : Segments → NoteLists → Bool
fits image notes = notes_fit (length image.code) (length image.statics) notes

-- the same cells, if so many run from their other end
abbrev pub turned_mark : (cells : ℕ) → Mark → Mark
turned_mark cells m = record m { first = cells - m.end; end = cells - m.first }

abbrev pub turned_notes : (cells : ℕ) → NoteLists → NoteLists
turned_notes cells notes = record notes { marks = map (turned_mark cells) notes.marks }

-- the inverse image with its notes
abbrev pub flipped_noted : NotedImage → NotedImage
flipped_noted n = record {
  image = flipped_image n.image;
  notes = turned_notes (length n.image.code) n.notes;
}
