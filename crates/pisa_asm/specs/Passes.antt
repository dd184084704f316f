-- The meaning of a text: three passes over its lines.
use Rattle.std.specs.Prelude.{ℕ, ◌+◌, nat_lt, nat_eq, List, [], ◌∷◌, ◌++◌, length, Option, Some}
use Rattle.std.specs.Prelude.{None, Result, Ok, Err, count_by, if◌then◌else◌}
use Rattle.std.specs.Option.{option_map}
use Rattle.pisa_isa.specs.rpp_words.Words.{difference_of}
use Rattle.pisa_isa.specs.declared.cell.Cell.{Cell}
use Rattle.pisa_isa.specs.declared.image.TheConstants.{MOST_CELLS, MOST_STATICS}
use Rattle.pisa_isa.specs.Table.{is_one_to_one}
use Rattle.pisa_isa.specs.Image.{Segments, is_start, is_finish}
use Rattle.pisa_isa.specs.declared.notes.Mark.{Mark}
use Rattle.pisa_isa.specs.declared.notes.FieldName.{FieldName}
use Rattle.pisa_isa.specs.Notes.{NoteLists, NotedImage, no_notes, fits}
use Rattle.pisa_asm.specs.declared.error.AsmError.{AsmError}
use Rattle.pisa_asm.specs.declared.error.AsmError.TheVariants.{DuplicateLabel, UnknownLabel}
use Rattle.pisa_asm.specs.declared.error.AsmError.TheVariants.{NotOneToOne, NoStart, NoFinish}
use Rattle.pisa_asm.specs.declared.error.AsmError.TheVariants.{TooManyCells, BadNote}
use Rattle.pisa_asm.specs.declared.operand.Given.{Given}
use Rattle.pisa_asm.specs.declared.item.Item.{Item}
use Rattle.pisa_asm.specs.declared.item.Item.TheVariants.{Nothing, Code, Static, Marked, Named}
use Rattle.pisa_asm.specs.Chain.{and_then}
use Rattle.pisa_asm.specs.Lines.{lines_of, content_of, line_words}
use Rattle.pisa_asm.specs.LabelNames.{Labels, label_address, label_names, after_labels}
use Rattle.pisa_asm.specs.Items.{item_from}

-- the labels, the number of code cells and the static words of the lines so far
pub record Surveyed : Type 0 where
  pub labels : Labels
  pub cells : ℕ
  pub statics : List ℕ

abbrev pub no_lines : Surveyed
no_lines = record { labels = []; cells = 0; statics = [] }

-- a label at a code address
abbrev pub label_at : ℕ → List ℕ → ℕ → Labels → Option ℕ → Result Labels AsmError
label_at line name place labels None = Ok (labels ++ (name, place) ∷ [])
label_at line name place labels (Some earlier) = Err (DuplicateLabel line)

-- the labels of a line: each is the address of the next code cell
abbrev pub labels_at : ℕ → ℕ → Labels → List (List ℕ) → Result Labels AsmError
labels_at line place labels [] = Ok labels
labels_at line place labels (name ∷ names) =
    and_then (label_at line name place labels (label_address name labels))
    (λ longer. labels_at line place longer names)

-- what follows the labels, counted
abbrev pub counted_item : ℕ → Surveyed → Item → Result Surveyed AsmError
counted_item line so_far Nothing = Ok so_far
counted_item line so_far (Code given) =
    if is_one_to_one given.cell
    then (if nat_lt so_far.cells MOST_CELLS then Ok (record so_far { cells = so_far.cells + 1 })
    else Err (TooManyCells line))
    else Err (NotOneToOne line)
counted_item line so_far (Static word) =
    if nat_lt (length so_far.statics) MOST_STATICS
    then Ok (record so_far { statics = so_far.statics ++ word ∷ [] })
    else Err (TooManyCells line)
counted_item line so_far (Marked mark) = Ok so_far
counted_item line so_far (Named name) = Ok so_far

-- a line's words, surveyed
abbrev pub surveyed_words : ℕ → Surveyed → List (List ℕ) → Result Surveyed AsmError
surveyed_words line so_far words =
    and_then (item_from line (after_labels words)) (λ item.
    and_then (labels_at line so_far.cells so_far.labels (label_names words)) (λ labels.
    counted_item line (record so_far { labels = labels }) item))

-- the first pass over lines, the first of which has this number
abbrev pub surveyed : ℕ → Surveyed → List (List ℕ) → Result Surveyed AsmError
surveyed number so_far [] = Ok so_far
surveyed number so_far (line ∷ lines) =
    and_then (surveyed_words number so_far (line_words (content_of line)))
    (λ longer. surveyed (number + 1) longer lines)

-- a cell at a code address, with its offset if a label gives it: the label's code address minus
-- this one
abbrev pub resolved_by : Labels → ℕ → Cell → Option (List ℕ) → Option Cell
resolved_by labels at cell None = Some cell
resolved_by labels at cell (Some name) =
    option_map (λ place. record cell { imm = difference_of place at }) (label_address name labels)

abbrev pub resolved_cell : Labels → ℕ → Given → Option Cell
resolved_cell labels at given = resolved_by labels at given.cell given.target

-- a cell put last
abbrev pub with_cell : ℕ → List Cell → Option Cell → Result (List Cell) AsmError
with_cell line code None = Err (UnknownLabel line)
with_cell line code (Some cell) = Ok (code ++ cell ∷ [])

-- the code with what follows the labels of a line
abbrev pub linked_item : ℕ → Labels → List Cell → Item → Result (List Cell) AsmError
linked_item line labels code Nothing = Ok code
linked_item line labels code (Code given) = with_cell line code
    (resolved_cell labels (length code) given)
linked_item line labels code (Static word) = Ok code
linked_item line labels code (Marked mark) = Ok code
linked_item line labels code (Named name) = Ok code

-- the second pass over lines
abbrev pub linked_cells : ℕ → Labels → List Cell → List (List ℕ) → Result (List Cell) AsmError
linked_cells number labels code [] = Ok code
linked_cells number labels code (line ∷ lines) =
    and_then (item_from number (after_labels (line_words (content_of line)))) (λ item.
    and_then (linked_item number labels code item)
    (λ longer. linked_cells (number + 1) labels longer lines))

-- an image has one START and one FINISH
abbrev pub sealed_image : List Cell → List ℕ → Result Segments AsmError
sealed_image code statics =
    if nat_eq (count_by is_start code) 1
    then (if nat_eq (count_by is_finish code) 1 then Ok (record { code = code; statics = statics })
    else Err NoFinish)
    else Err NoStart

-- a mark put last
abbrev pub with_mark : NoteLists → Mark → NoteLists
with_mark notes mark = record notes { marks = notes.marks ++ mark ∷ [] }

-- a name put last
abbrev pub with_field_name : NoteLists → FieldName → NoteLists
with_field_name notes name = record notes { names = notes.names ++ name ∷ [] }

-- the notes up to a line, if they fit the image
abbrev pub if_fits : ℕ → Segments → NoteLists → Result NoteLists AsmError
if_fits line image notes = if fits image notes then Ok notes else Err (BadNote line)

-- the notes with what follows the labels of a line
abbrev pub noted_item : ℕ → Segments → NoteLists → Item → Result NoteLists AsmError
noted_item line image notes (Marked mark) = if_fits line image (with_mark notes mark)
noted_item line image notes (Named name) = if_fits line image (with_field_name notes name)
noted_item line image notes _ = Ok notes

-- the third pass over lines
abbrev pub noted_lines : ℕ → Segments → NoteLists → List (List ℕ) → Result NoteLists AsmError
noted_lines number image notes [] = Ok notes
noted_lines number image notes (line ∷ lines) =
    and_then (item_from number (after_labels (line_words (content_of line)))) (λ item.
    and_then (noted_item number image notes item) (λ longer. noted_lines (number + 1) image longer lines))

-- the image of these lines with their notes, or their first refusal
abbrev pub noted_of_lines : List (List ℕ) → Result NotedImage AsmError
noted_of_lines lines =
    and_then (surveyed 1 no_lines lines) (λ survey.
    and_then (linked_cells 1 survey.labels [] lines) (λ code.
    and_then (sealed_image code survey.statics) (λ image.
    and_then (noted_lines 1 image no_notes lines) (λ notes.
    Ok (record { image = image; notes = notes })))))

-- the image of a text with its notes, or its first refusal
abbrev pub noted_of_text : List ℕ → Result NotedImage AsmError
noted_of_text text = noted_of_lines (lines_of text)
