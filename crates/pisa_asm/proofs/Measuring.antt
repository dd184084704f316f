-- A listing is no longer than a text may be, and its names are written byte by byte.
use Rattle.std.proofs.Common.{◌≡◌, ℕ, ◌+◌, ◌-◌, ◌*◌, ◌<◌, ◌≤◌, ◌^◌, Bool, true, false, cond, arith, List, []}
use Rattle.std.proofs.Common.{◌∷◌, ◌++◌, length, length-append}
use Rattle.std.specs.Prelude.{nat_lt}
use Rattle.std.specs.List.{All, list_all}
use Rattle.std.specs.Fmt.{decimal}
use Rattle.std.proofs.lemmas.Fmt.{length-decimal-le}
use Rattle.pisa_isa.specs.rpp_words.Words.{IsWord}
use Rattle.pisa_isa.specs.declared.cell.Op.{Op}
use Rattle.pisa_isa.specs.declared.cell.Op.TheVariants.{Add}
use Rattle.pisa_isa.specs.declared.cell.Cell.{Cell}
use Rattle.pisa_isa.specs.Table.{IsCell, has_a, has_b, c_is_source}
use Rattle.pisa_isa.specs.declared.image.TheConstants.{MOST_CELLS, MOST_STATICS}
use Rattle.pisa_isa.specs.declared.notes.TheConstants.{MOST_MARKS, MOST_NAMES, MOST_NAME_BYTES}
use Rattle.pisa_isa.specs.declared.notes.Mark.{Mark}
use Rattle.pisa_isa.specs.declared.notes.FieldName.{FieldName}
use Rattle.pisa_isa.specs.Image.{IsImage}
use Rattle.pisa_isa.specs.Notes.{NotedImage, mark_fits, name_fits, names_fit, fits}
use Rattle.pisa_isa.proofs.Noting.{fitting}
use Rattle.pisa_isa.proofs.Ranges.{a_below, b_below, c_below, imm_word}
use Rattle.pisa_asm.specs.declared.assembler.TheConstants.{MOST_TEXT}
use Rattle.pisa_asm.specs.declared.operand.Last.{Last}
use Rattle.pisa_asm.specs.declared.operand.Last.TheVariants.{Nothing, Word, Amount, Offset}
use Rattle.pisa_asm.specs.Mnemonics.{mnemonic}
use Rattle.pisa_asm.specs.Operands.{last_of}
use Rattle.pisa_asm.specs.Listing.{signed_text, offset_text, register_text, last_text, cell_text, static_text}
use Rattle.pisa_asm.specs.Listing.{number_text, mark_text, name_text, lines_by, listing}
use Rattle.pisa_asm.proofs.Spelling.{both}
use Rattle.pisa_asm.proofs.Noting.{at_most}
use Rattle.pisa_asm.proofs.Relisting.{MarkIn, mark_in, NameIn, name_in, head, tail}

mnemonic_short : (op : Op) → length (mnemonic op) ≤ 6
unfolding mnemonic
mnemonic_short Add = omega arith
mnemonic_short _ = omega arith

signed_short : (n : ℕ) → n < 2 ^ 32 → length (signed_text n) ≤ 11
signed_short n h = by_sign (nat_lt n (2 ^ 31))
  where
    by_sign : (t : Bool) → length (cond t (decimal n) (45 ∷ decimal (2 ^ 32 - n))) ≤ 11
    by_sign true = let s = length-decimal-le 10 n (omega arith) (omega arith) (omega arith) in omega arith
    by_sign false = let s = length-decimal-le 10 (2 ^ 32 - n) (omega arith) (omega arith) (omega arith) in omega arith

offset_short : (n : ℕ) → n < 2 ^ 32 → length (offset_text n) ≤ 11
offset_short n h = by_sign (nat_lt n (2 ^ 31))
  where
    by_sign : (t : Bool) → length (cond t (43 ∷ decimal n) (45 ∷ decimal (2 ^ 32 - n))) ≤ 11
    by_sign true = let s = length-decimal-le 10 n (omega arith) (omega arith) (omega arith) in omega arith
    by_sign false = let s = length-decimal-le 10 (2 ^ 32 - n) (omega arith) (omega arith) (omega arith) in omega arith

register_short : (has : Bool) (r : ℕ) → r < 32 → length (register_text has r) ≤ 4
register_short false r h = omega arith
register_short true r h = let s = length-decimal-le 2 r (omega arith) (omega arith) (omega arith) in omega arith

last_short : (last : Last) (imm : ℕ) → imm < 2 ^ 32 → length (last_text last imm) ≤ 12
last_short Nothing imm h = omega arith
last_short Word imm h = let s = signed_short imm h in omega arith
last_short Amount imm h = let s = length-decimal-le 10 imm (omega arith) (omega arith) (omega arith) in omega arith
last_short Offset imm h = let s = offset_short imm h in omega arith

cell_short : (c : Cell) → IsCell c → length (cell_text c) ≤ 30
cell_short c i =
    let m = mnemonic_short c.op in
    let a = register_short (has_a c.op) c.a (a_below c i.in_range) in
    let b = register_short (has_b c.op) c.b (b_below c i.in_range) in
    let t = register_short (c_is_source c.op) c.c (c_below c i.in_range) in
    let l = last_short (last_of c.op) c.imm (imm_word c i.in_range) in
    simp length-append (omega arith)

line_short : (line rest : List ℕ) (n m : ℕ) → length line ≤ n → length rest ≤ m → length (line ++ 10 ∷ rest) ≤ n + 1 + m
line_short line rest n m h g = simp length-append (omega arith)

code_short : (code : List Cell) → All IsCell code → length (lines_by cell_text code) ≤ 31 * length code
code_short [] all = omega arith
code_short (c ∷ code) all =
    let whole = line_short (cell_text c) (lines_by cell_text code) 30 (31 * length code)
    (cell_short c (head IsCell c code all)) (code_short code (tail IsCell c code all)) in
    omega arith

static_short : (word : ℕ) → word < 2 ^ 32 → length (static_text word) ≤ 18
static_short word h = let s = signed_short word h in simp length-append (omega arith)

statics_short : (statics : List ℕ) → All IsWord statics → length (lines_by static_text statics) ≤ 19 * length statics
statics_short [] all = omega arith
statics_short (word ∷ statics) all =
    let whole = line_short (static_text word) (lines_by static_text statics) 18 (19 * length statics)
    (static_short word (head IsWord word statics all)) (statics_short statics (tail IsWord word statics all)) in
    omega arith

number_short : (n : ℕ) → n < 2 ^ 32 → length (number_text n) ≤ 11
number_short n h = let s = length-decimal-le 10 n (omega arith) (omega arith) (omega arith) in omega arith

mark_short : (m : Mark) → MarkIn m → length (mark_text m) ≤ 37
mark_short m i =
    let first = number_short m.first i.first in
    let end = number_short m.end i.end in
    let at = number_short m.at i.at in
    simp length-append (omega arith)

marks_short : (cells : ℕ) (marks : List Mark) → cells ≤ MOST_CELLS → list_all (mark_fits cells) marks ≡ true
    → length (lines_by mark_text marks) ≤ 38 * length marks
marks_short cells [] few h = omega arith
marks_short cells (m ∷ marks) few h =
    let p = both (mark_fits cells m) (list_all (mark_fits cells) marks) h in
    let whole = line_short (mark_text m) (lines_by mark_text marks) 37 (38 * length marks)
    (mark_short m (mark_in cells m few p.0)) (marks_short cells marks few p.1) in
    omega arith

name_short : (left : ℕ) (n : FieldName) → NameIn left n → length (name_text n) ≤ 16 + length n.text
name_short left n i =
    let cell = number_short n.cell i.cell in
    simp length-append (omega arith)

names_short : (statics left : ℕ) (names : List FieldName) → statics ≤ MOST_STATICS → names_fit statics left names ≡ true
    → length (lines_by name_text names) ≤ 17 * length names + left
names_short statics left [] few h = omega arith
names_short statics left (n ∷ names) few h =
    let p = both (name_fits statics left n) (names_fit statics (left - length n.text) names) h in
    let i = name_in statics left n few p.0 in
    let short = i.short in
    let whole = line_short (name_text n) (lines_by name_text names) (16 + length n.text)
    (17 * length names + (left - length n.text)) (name_short left n i)
    (names_short statics (left - length n.text) names few p.1) in
    omega arith

pub listing_short : (n : NotedImage) → IsImage n.image → All IsWord n.image.statics → fits n.image n.notes ≡ true
    → length (listing n) ≤ MOST_TEXT
listing_short n i words h =
    let f = fitting n.image n.notes h in
    let few = i.is_code.in_limit in
    let few_statics = i.statics_in_limit in
    let few_marks = at_most (length n.notes.marks) MOST_MARKS f.few_marks in
    let few_names = at_most (length n.notes.names) MOST_NAMES f.few_names in
    let code = code_short n.image.code i.is_code.cells in
    let statics = statics_short n.image.statics words in
    let marks = marks_short (length n.image.code) n.notes.marks few f.each_mark in
    let names = names_short (length n.image.statics) MOST_NAME_BYTES n.notes.names few_statics f.names in
    simp length-append (omega arith)
