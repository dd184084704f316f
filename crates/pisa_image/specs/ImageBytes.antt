-- The bytes of an image file.
use Rattle.std.specs.Prelude.{◌≡◌, ◌⊎◌, ℕ, List, ◌∷◌, ◌++◌, length, codes}
use Rattle.std.specs.List.{flat_map}
use Rattle.pisa_isa.specs.declared.cell.Cell.{Cell}
use Rattle.pisa_isa.specs.declared.notes.Mark.{Mark}
use Rattle.pisa_isa.specs.declared.notes.FieldName.{FieldName}
use Rattle.pisa_isa.specs.Image.{Segments}
use Rattle.pisa_isa.specs.Notes.{NoteLists, NotedImage, no_notes}
use Rattle.pisa_image.specs.declared.reading.TheConstants.{VERSION, OLD_VERSION}
use Rattle.pisa_image.specs.Numbers.{word_bytes, words_bytes}
use Rattle.pisa_image.specs.Rows.{row_number}

-- eight bytes: the row's number, a, b, c and imm
abbrev pub cell_bytes : Cell → List ℕ
cell_bytes cell = row_number cell.op ∷ cell.a ∷ cell.b ∷ cell.c ∷ word_bytes cell.imm

-- the mark of the format, a version of it, the numbers of code cells and of static cells
abbrev pub header_bytes : (version cells statics : ℕ) → List ℕ
header_bytes version cells statics =
    codes "RPPI" ++ word_bytes version ++ word_bytes cells ++ word_bytes statics

-- the header, the code, the static cells
abbrev pub segment_bytes : (version : ℕ) → Segments → List ℕ
segment_bytes version image = header_bytes version (length image.code) (length image.statics)
    ++ flat_map cell_bytes image.code ++ words_bytes image.statics

-- twelve bytes: the first cell, the end and the place
abbrev pub mark_bytes : Mark → List ℕ
mark_bytes mark = word_bytes mark.first ++ word_bytes mark.end ++ word_bytes mark.at

-- the data cell, the number of bytes, and the bytes
abbrev pub name_bytes : FieldName → List ℕ
name_bytes name = word_bytes name.cell ++ word_bytes (length name.text) ++ name.text

-- the number of marks and the marks, the number of names and the names
abbrev pub notes_bytes : NoteLists → List ℕ
notes_bytes notes =
    word_bytes (length notes.marks) ++ flat_map mark_bytes notes.marks
    ++ word_bytes (length notes.names) ++ flat_map name_bytes notes.names

-- the image, and then its notes
abbrev pub image_bytes : NotedImage → List ℕ
image_bytes n = segment_bytes VERSION n.image ++ notes_bytes n.notes

-- an image without notes, as the version before wrote it
abbrev pub old_image_bytes : Segments → List ℕ
old_image_bytes image = segment_bytes OLD_VERSION image

-- an image with its notes has these bytes, or one without notes had them in the version before
abbrev pub AreBytesOf : NotedImage → List ℕ → Type 0
AreBytesOf n bytes = (bytes ≡ image_bytes n) ⊎
    ((n.notes ≡ no_notes) × (bytes ≡ old_image_bytes n.image))
