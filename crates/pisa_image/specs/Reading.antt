-- Reading an image from its beginning, with the first refusal that is met.
use Rattle.std.specs.Prelude.{◌≡◌, ℕ, zero, suc, ◌+◌, ◌-◌, ◌*◌, Bool, true, false, ◌&&◌, List, []}
use Rattle.std.specs.Prelude.{◌∷◌, length, Option, Some, None, Result, Ok, Err, nat_eq, nat_lt}
use Rattle.std.specs.Prelude.{nat_le, count_by, if◌then◌else◌}
use Rattle.pisa_isa.specs.declared.cell.Op.{Op}
use Rattle.pisa_isa.specs.declared.cell.Cell.{Cell}
use Rattle.pisa_isa.specs.declared.image.TheConstants.{MOST_CELLS, MOST_STATICS}
use Rattle.pisa_isa.specs.declared.image.SealError.{SealError}
use Rattle.pisa_isa.specs.declared.image.SealError.TheVariants as seal
use Rattle.pisa_isa.specs.rpp_words.declared.input.TheConstants.{FIXED_CELLS}
use Rattle.pisa_isa.specs.rpp_words.Names.{is_name_byte}
use Rattle.std.specs.Char.{is_ascii_alphabetic}
use Rattle.pisa_isa.specs.declared.notes.TheConstants.{MOST_MARKS, LAST_PLACE, MOST_NAMES}
use Rattle.pisa_isa.specs.declared.notes.TheConstants.{MOST_NAME_BYTES}
use Rattle.pisa_isa.specs.declared.notes.Mark.{Mark}
use Rattle.pisa_isa.specs.declared.notes.FieldName.{FieldName}
use Rattle.pisa_isa.specs.Notes.{NoteLists, NotedImage, no_notes}
use Rattle.pisa_isa.specs.Table.{has_a, has_b, c_is_source, register_end, imm_end, is_one_to_one}
use Rattle.pisa_isa.specs.Image.{Segments, is_start, is_finish}
use Rattle.pisa_image.specs.declared.reading.TheConstants.{MARK, VERSION, OLD_VERSION}
use Rattle.pisa_image.specs.declared.error.ImageError.{ImageError}
use Rattle.pisa_image.specs.declared.error.ImageError.TheVariants.{NotOneToOne, NoStart, NoFinish}
use Rattle.pisa_image.specs.declared.error.ImageError.TheVariants.{ImageTruncated, ImageMagic}
use Rattle.pisa_image.specs.declared.error.ImageError.TheVariants.{ImageField, ImageTrailing}
use Rattle.pisa_image.specs.declared.error.ImageError.TheVariants.{NoMemory}
use Rattle.pisa_image.specs.declared.error.NumberError.{NumberError}
use Rattle.pisa_image.specs.declared.error.NumberError.TheVariants as number
use Rattle.pisa_image.specs.Numbers.{◌>>=◌, refused_as, read_word_at, many_at, words_at}
use Rattle.pisa_image.specs.Rows.{row_with}

-- what a function returned, seen by `view`, is what reading gives, unless memory ran out
abbrev pub ImageFails : {Y : Type 0} → ImageError → Result Y ImageError → Type 0
ImageFails NoMemory read = Unit {0}
ImageFails refusal read = read ≡ Err refusal

abbrev pub ImageGives : {X Y : Type 0} → (X → Y) → Result X ImageError → Result Y ImageError → Type 0
ImageGives view (Ok x) read = read ≡ Ok (view x)
ImageGives view (Err e) read = ImageFails e read

-- an image that ends within a number
abbrev pub number_refusal : NumberError → ImageError
number_refusal (number.Cut at) = ImageTruncated at
number_refusal number.NoMemory = NoMemory

-- a field is a value and the bytes after it; `at` is the offset of its first byte

-- a byte below an end
abbrev pub byte_below : (at end : ℕ) → List ℕ → Result (ℕ × List ℕ) ImageError
byte_below at end [] = Err (ImageTruncated at)
byte_below at end (byte ∷ rest) = if nat_lt byte end then Ok (byte, rest) else Err (ImageField at)

-- a number that passes a test, with the refusal of one that does not
abbrev pub tested_word : (passes : ℕ → Bool) → ImageError → (at : ℕ) → List ℕ
    → Result (ℕ × List ℕ) ImageError
tested_word passes refusal at bytes =
    refused_as number_refusal (read_word_at at bytes) >>= λ number. if passes number.0 then Ok number
    else Err refusal

-- the number of a row
abbrev pub row_or : ImageError → Option Op → List ℕ → Result (Op × List ℕ) ImageError
row_or refusal None rest = Err refusal
row_or refusal (Some op) rest = Ok (op, rest)

abbrev pub row_at : (at : ℕ) → List ℕ → Result (Op × List ℕ) ImageError
row_at at [] = Err (ImageTruncated at)
row_at at (byte ∷ rest) = row_or (ImageField at) (row_with byte) rest

-- the other fields of a cell of this row, which begins at a place
unfoldable pub fields_at : (at : ℕ) → Op → List ℕ → Result (Cell × List ℕ) ImageError
fields_at at op bytes = do
  a ← byte_below (at + 1) (register_end (has_a op)) bytes
  b ← byte_below (at + 2) (register_end (has_b op)) a.1
  c ← byte_below (at + 3) (register_end (c_is_source op)) b.1
  imm ← tested_word (λ n. nat_lt n (imm_end op)) (ImageField (at + 4)) (at + 4) c.1
  Ok (record { op = op; a = a.0; b = b.0; c = c.0; imm = imm.0 }, imm.1)

-- a cell, of which its fields are tried first
unfoldable pub cell_at : (at : ℕ) → List ℕ → Result (Cell × List ℕ) ImageError
cell_at at bytes = do
  row ← row_at at bytes
  cell ← fields_at at row.0 row.1
  if is_one_to_one cell.0 then Ok cell else Err (NotOneToOne at)

-- so many cells
abbrev pub cells_at : (count at : ℕ) → List ℕ → Result (List Cell × List ℕ) ImageError
cells_at count at bytes = many_at cell_at 8 count at bytes

-- a number of one range
abbrev pub number_between : (low high at : ℕ) → List ℕ → Result (ℕ × List ℕ) ImageError
number_between low high at bytes =
    tested_word (λ n. nat_le low n && nat_le n high) (ImageField at) at bytes

-- the mark of the format, its version, and the numbers of code cells and of static cells
unfoldable pub header_at : List ℕ → Result (ℕ × ℕ × ℕ × List ℕ) ImageError
header_at bytes = do
  mark ← tested_word (λ n. nat_eq n MARK) (ImageMagic 0) 0 bytes
  version ← number_between OLD_VERSION VERSION 4 mark.1
  cells ← number_between 2 MOST_CELLS 8 version.1
  statics ← number_between 0 MOST_STATICS 12 cells.1
  Ok (version.0, cells.0, statics.0, statics.1)

abbrev pub segments : List Cell → List ℕ → Segments
segments code statics = record { code = code; statics = statics }

-- so many code cells and so many static cells
unfoldable pub segments_at : (cells statics : ℕ) → List ℕ → Result (Segments × List ℕ) ImageError
segments_at cells statics bytes = do
  code ← cells_at cells 16 bytes
  words ← refused_as number_refusal (words_at statics (16 + 8 * cells) code.1)
  Ok (segments code.0 words.0, words.1)

-- a mark of code of so many cells
unfoldable pub mark_at : (cells at : ℕ) → List ℕ → Result (Mark × List ℕ) ImageError
mark_at cells at bytes = do
  first ← number_between 0 cells at bytes
  end ← number_between first.0 cells (at + 4) first.1
  place ← number_between 0 LAST_PLACE (at + 8) end.1
  Ok (record { first = first.0; end = end.0; at = place.0 }, place.1)

abbrev pub marks_at : (cells count at : ℕ) → List ℕ → Result (List Mark × List ℕ) ImageError
marks_at cells count at bytes = many_at (mark_at cells) 12 count at bytes

-- a byte that passes a test
abbrev pub tested_byte : (passes : ℕ → Bool) → (at : ℕ) → List ℕ → Result (ℕ × List ℕ) ImageError
tested_byte passes at [] = Err (ImageTruncated at)
tested_byte passes at (byte ∷ rest) = if passes byte then Ok (byte, rest) else Err (ImageField at)

-- a name that begins with this byte and goes on with so many
abbrev pub text_from : (first count at : ℕ) → List ℕ → Result (List ℕ × List ℕ) ImageError
text_from first count at bytes = do
  others ← many_at (tested_byte is_name_byte) 1 count at bytes
  Ok (first ∷ others.0, others.1)

-- a name of so many bytes, each of which is tried by the rule for names
unfoldable pub text_at : (count at : ℕ) → List ℕ → Result (List ℕ × List ℕ) ImageError
text_at count at bytes = do
  first ← tested_byte is_ascii_alphabetic at bytes
  text_from first.0 (count - 1) (at + 1) first.1

-- a name of one of so many static cells, if the names have so many bytes left
unfoldable pub name_at : (statics left at : ℕ) → List ℕ → Result (FieldName × List ℕ) ImageError
name_at statics left at bytes = do
  cell ← number_between FIXED_CELLS (FIXED_CELLS + statics - 1) at bytes
  count ← number_between 1 left (at + 4) cell.1
  text ← text_at count.0 (at + 8) count.1
  Ok (record { cell = cell.0; text = text.0 }, text.1)

-- so many names, and the offset after them
unfoldable pub names_at : (statics left count at : ℕ) → List ℕ
    → Result (List FieldName × ℕ × List ℕ) ImageError
names_at statics left zero at bytes = Ok ([], at, bytes)
names_at statics left (suc count) at bytes = do
  first ← name_at statics left at bytes
  others ← names_at statics (left - length first.0.text) count (at + 8 + length first.0.text)
      first.1
  Ok (first.0 ∷ others.0, others.1, others.2)

-- the notes of code of so many cells and so many static cells, and the offset after them
unfoldable pub notes_at : (cells statics at : ℕ) → List ℕ
    → Result (NoteLists × ℕ × List ℕ) ImageError
notes_at cells statics at bytes = do
  count ← number_between 0 MOST_MARKS at bytes
  marks ← marks_at cells count.0 (at + 4) count.1
  named ← number_between 0 MOST_NAMES (at + 4 + 12 * count.0) marks.1
  names ← names_at statics MOST_NAME_BYTES named.0 (at + 8 + 12 * count.0) named.1
  Ok (record { marks = marks.0; names = names.0 }, names.1, names.2)

-- the version before has no notes
abbrev pub notes_of : (version cells statics at : ℕ) → List ℕ
    → Result (NoteLists × ℕ × List ℕ) ImageError
notes_of version cells statics at bytes =
    if nat_eq version OLD_VERSION then Ok (no_notes, at, bytes) else notes_at cells statics at bytes

-- nothing follows
abbrev pub ended : {A : Type 0} → A → (at : ℕ) → List ℕ → Result A ImageError
ended x at rest = if nat_eq (length rest) 0 then Ok x else Err (ImageTrailing at)

-- an image has one START and one FINISH
abbrev pub sealed : Segments → Result Segments ImageError
sealed image =
    if nat_eq (count_by is_start image.code) 1
    then (if nat_eq (count_by is_finish image.code) 1 then Ok image else Err NoFinish)
    else Err NoStart

abbrev pub noted : NoteLists → Segments → NotedImage
noted notes image = record { image = image; notes = notes }

-- the image of these segments with the notes after them, which end the bytes
unfoldable pub noted_at : (version cells statics : ℕ) → Segments → List ℕ
    → Result NotedImage ImageError
noted_at version cells statics image bytes = do
  notes ← notes_of version cells statics (16 + 8 * cells + 4 * statics) bytes
  whole ← ended notes.0 notes.1 notes.2
  known ← sealed image
  Ok (noted whole known)

unfoldable pub image_at : List ℕ → Result NotedImage ImageError
image_at bytes = do
  header ← header_at bytes
  body ← segments_at header.1 header.2 header.3
  noted_at header.0 header.1 header.2 body.0 body.1

-- why cells with all targets apart from their sources are no code of an image
abbrev pub is_of_counts : SealError → Bool
is_of_counts seal.NoStart = true
is_of_counts seal.NoFinish = true
is_of_counts refusal = false

abbrev pub as_image_error : SealError → ImageError
as_image_error seal.NoStart = NoStart
as_image_error seal.NoFinish = NoFinish
as_image_error refusal = NoMemory
