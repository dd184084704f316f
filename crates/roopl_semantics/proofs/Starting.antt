-- The memory of a program: it is loaded, and laid out, as the words of the main object's fields
-- between the same two fronts and backs.
use Rattle.std.proofs.Common.{◌≡◌, ℕ, zero, suc, ◌+◌, ◌-◌, ◌*◌, ◌^◌, ◌<◌, ◌≤◌, List, [], ◌∷◌, ◌++◌, map, length, drop}
use Rattle.std.proofs.Common.{replicate, refl, sym, ap, ◌∙◌, arith, true, false}
use Rattle.std.specs.Prelude.{slice_get, slice_set, IsTrue}
use Rattle.std.specs.List.{All, slice_index_or}
use Rattle.std.proofs.lemmas.List.{append_assoc, length-append, length-replicate, length-set, length-map, map-set}
use Rattle.std.proofs.lemmas.List.{set-append_left, drop_at, take_all, set-append_right}
use Rattle.std.proofs.lemmas.List.Elements.{All-head, All-tail}
use Rattle.std.proofs.lemmas.Nat.{pow_pos}
use Rattle.buddy_book.specs.rpp_words.declared.input.TheConstants.{FRAME_WORDS}
use Rattle.code_conventions.specs.declared.memory.TheConstants.{HEADER_WORDS}
use Rattle.buddy_book.specs.rpp_words.declared.input.FieldWord.{FieldWord}
use Rattle.buddy_book.specs.rpp_words.declared.input.Limits.{Limits}
use Rattle.inverse_rules.specs.rpp_tree.declared.tree.Var.{Var}
use Rattle.inverse_rules.specs.rpp_tree.declared.tree.VarType.{VarType}
use Rattle.inverse_rules.specs.rpp_tree.declared.tree.VarType.TheVariants as kind
use Rattle.inverse_rules.specs.rpp_tree.Tree.{Source}
use Rattle.buddy_book.specs.Book.{start}
use Rattle.code_conventions.specs.pisa_isa.Loaded.{statics_at, heap_base, fixed_cells, empty_heads, with_words, loaded}
use Rattle.code_conventions.specs.Header.{header}
use Rattle.roopl_semantics.specs.Store.{Value, Word, Nil, number_of, zero_value, zero_values}
use Rattle.roopl_semantics.specs.Source.{main_fields, is_int_field, with_input, IsValid}
use Rattle.class_rules.specs.Classes.{main_of}
use Rattle.buddy_book.specs.rpp_words.Limits.{IsLimits}
use Rattle.roopl_semantics.specs.Alone.{alone}
use Rattle.roopl_semantics.specs.Laws.{StartsLoaded}
use Rattle.roopl_semantics.specs.Layout.{table_at, main_statics, tables, with_book, word_of_value, overlaid, static_words}
use Rattle.roopl_semantics.specs.Layout.{layout}
use Rattle.buddy_book.specs.Shown.{first_address}

-- what a program gives its memory: the address of the main object's table, the number of its
-- fields, and the tables
pub record Shape : Type 0 where
  pub table : ℕ
  pub fields : ℕ
  pub tables : List ℕ

abbrev pub shape_of : Source → List (List ℕ) → Shape
shape_of program places = record {
  table = table_at program (main_of program).class;
  fields = length (main_fields program);
  tables = tables 1 places;
}

abbrev pub words_of : List Value → List ℕ
words_of values = map number_of values

abbrev pub first_values : List Var → List FieldWord → List Value
first_values fields input = with_input input (zero_values fields)

abbrev pub program_statics : Source → List (List ℕ) → List ℕ
program_statics program places = main_statics program ++ tables 1 places

-- the number of static cells
abbrev pub size : Shape → ℕ
size shape = HEADER_WORDS + shape.fields + length shape.tables

abbrev pub statics_of : Shape → List ℕ
statics_of shape = header shape.table 1 ++ replicate shape.fields 0 ++ shape.tables

-- where the heap begins
abbrev pub base : Limits → Shape → ℕ
base limits shape = heap_base limits.heap (size shape)

-- what comes before the words of the fields
abbrev pub front : Limits → Shape → List ℕ
front limits shape =
    fixed_cells limits.heap limits.deep (base limits shape) (empty_heads limits.heap (base limits shape))
    ++ header shape.table 1

-- and what comes after them
abbrev pub back : Limits → Shape → List ℕ
back limits shape =
    shape.tables ++ (replicate (base limits shape - statics_at - size shape) 0 ++ replicate (2 ^ limits.heap) 0
    ++ replicate (FRAME_WORDS * limits.deep) 0)

pub length-statics : (shape : Shape) → length (statics_of shape) ≡ size shape
length-statics shape = omega (
  arith,
  length-append {A = ℕ} (header shape.table 1 ++ replicate shape.fields 0) shape.tables,
  length-replicate {A = ℕ} shape.fields 0,
)

-- a memory by its parts: the length of the static cells, these cells, and the heap
abbrev with_parts : Limits → ℕ → List ℕ → List ℕ → List ℕ → List ℕ
with_parts limits size heads statics heap =
    fixed_cells limits.heap limits.deep (heap_base limits.heap size) heads
    ++ statics
    ++ replicate (heap_base limits.heap size - statics_at - size) 0
    ++ heap
    ++ replicate (FRAME_WORDS * limits.deep) 0

regrouped : (before head words tabs room heap stack : List ℕ)
    → before ++ (head ++ (words ++ tabs)) ++ room ++ heap ++ stack
    ≡ (before ++ head) ++ (words ++ (tabs ++ (room ++ heap ++ stack)))
regrouped before head words tabs room heap stack = simp append_assoc

of_parts : (limits : Limits) (shape : Shape) (words : List ℕ)
    → with_parts limits (size shape) (empty_heads limits.heap (base limits shape))
    (header shape.table 1 ++ (words ++ shape.tables)) (replicate (2 ^ limits.heap) 0)
    ≡ front limits shape ++ (words ++ back limits shape)
of_parts limits shape words =
    regrouped (fixed_cells limits.heap limits.deep (base limits shape) (empty_heads limits.heap (base limits shape)))
    (header shape.table 1) words shape.tables
    (replicate (base limits shape - statics_at - size shape) 0) (replicate (2 ^ limits.heap) 0)
    (replicate (FRAME_WORDS * limits.deep) 0)

-- the input's words in the fields

set-behind : (head words rest : List ℕ) (i word : ℕ) → length head ≡ HEADER_WORDS → i < length words
    → slice_set (head ++ (words ++ rest)) (HEADER_WORDS + i) word ≡ head ++ (slice_set words i word ++ rest)
set-behind head words rest i word long h =
    let e : HEADER_WORDS + i - HEADER_WORDS ≡ i = omega arith in
    set-append_right head (words ++ rest) HEADER_WORDS (HEADER_WORDS + i) word long (omega arith)
    ∙ ap (λ k. head ++ slice_set (words ++ rest) k word) e
    ∙ ap (λ (cells : List ℕ). head ++ cells) (set-append_left words rest i word h)

abbrev IsFieldBelow : ℕ → FieldWord → Type 0
IsFieldBelow n entry = entry.field < n

with_words-values : (a b n : ℕ) (input : List FieldWord) (values : List Value) (rest : List ℕ) → length values ≡ n
    → All (IsFieldBelow n) input
    → with_words input (header a b ++ (words_of values ++ rest))
    ≡ header a b ++ (words_of (with_input input values) ++ rest)
with_words-values a b n [] values rest e below = refl
with_words-values a b n (entry ∷ input) values rest e below =
    let first : entry.field < n = All-head (IsFieldBelow n) entry input below in
    let within : entry.field < length (words_of values) = omega (arith, length-map values number_of) in
    ap (with_words input) (set-behind (header a b) (words_of values) rest entry.field entry.word refl within
    ∙ ap (λ words. header a b ++ (words ++ rest)) (sym (map-set number_of values entry.field (Word entry.word))))
    ∙ with_words-values a b n input (slice_set values entry.field (Word entry.word)) rest
    (length-set values entry.field (Word entry.word) ∙ e) (All-tail (IsFieldBelow n) entry input below)

is_below : (vars : List Var) (i : ℕ) → IsTrue (is_int_field (slice_get vars i)) → i < length vars
is_below [] i h = let no : false ≡ true = h in cc
is_below (var ∷ vars) zero h = omega arith
is_below (var ∷ vars) (suc i) h = omega (arith, is_below vars i h)

fields_below : (program : Source) (input : List FieldWord) → IsValid program input
    → All (IsFieldBelow (length (main_fields program))) input
fields_below program input valid = λ k d h. is_below (main_fields program) (slice_index_or input k d).field
    (valid.ints k d h)

zero_word : (kind : VarType) → number_of (zero_value kind) ≡ 0
zero_word kind.Int = refl
zero_word (kind.Class class) = refl
zero_word kind.IntArray = refl
zero_word (kind.ClassArray class) = refl

zero_words : (fields : List Var) → words_of (zero_values fields) ≡ replicate (length fields) 0
zero_words [] = refl
zero_words (field ∷ fields) = ap (λ word. word ∷ words_of (zero_values fields)) (zero_word field.kind)
    ∙ ap (λ (words : List ℕ). 0 ∷ words) (zero_words fields)

pub length-zero_values : (fields : List Var) → length (zero_values fields) ≡ length fields
length-zero_values fields = length-map fields (λ (var : Var). zero_value var.kind)

pub loaded-program : (program : Source) (places : List (List ℕ)) (limits : Limits) (input : List FieldWord)
    → IsValid program input
    → loaded (program_statics program places) limits input
    ≡ front limits (shape_of program places) ++ (words_of (first_values (main_fields program) input)
    ++ back limits (shape_of program places))
loaded-program program places limits input valid =
    let shape = shape_of program places in
    let fields = main_fields program in
    ap (λ n. with_parts limits n (empty_heads limits.heap (heap_base limits.heap n))
    (with_words input (statics_of shape)) (replicate (2 ^ limits.heap) 0)) (length-statics shape)
    ∙ ap (λ (words : List ℕ). with_parts limits (size shape) (empty_heads limits.heap (base limits shape))
    (with_words input (header shape.table 1 ++ (words ++ shape.tables))) (replicate (2 ^ limits.heap) 0))
    (sym (zero_words fields))
    ∙ ap (λ (cells : List ℕ). with_parts limits (size shape) (empty_heads limits.heap (base limits shape)) cells
    (replicate (2 ^ limits.heap) 0))
    (with_words-values shape.table 1 (length fields) input (zero_values fields) shape.tables (length-zero_values fields)
    (fields_below program input valid))
    ∙ of_parts limits shape (words_of (first_values fields input))

-- the layout of the values: there are no references

pub data IsPlain : Value → Type 0 where
  word : (w : ℕ) → IsPlain (Word w)
  nil : IsPlain Nil

pub data ArePlain : List Value → Type 0 where
  none : ArePlain []
  more : (v : Value) (values : List Value) → IsPlain v → ArePlain values → ArePlain (v ∷ values)

heads-start : (base h : ℕ) → 1 ≤ h → map (first_address base) (start h) ≡ empty_heads h base
heads-start base zero from = absurd (omega arith)
heads-start base (suc zero) from = let e : base + 0 ≡ base = omega arith in ap (λ (a : ℕ). a ∷ []) e
heads-start base (suc (suc h)) from =
    let e : suc (suc h) - 1 ≡ suc (suc h - 1) = omega arith in
    ap (λ (rest : List ℕ). 0 ∷ rest) (heads-start base (suc h) (omega arith))
    ∙ ap (λ k. replicate k 0 ++ base ∷ []) (sym e)

overlaid-zeros : (m : ℕ) → 0 < m → overlaid (replicate m 0) 0 (0 ∷ []) ≡ replicate m 0
overlaid-zeros zero h = absurd (omega arith)
overlaid-zeros (suc m) h = ap (λ (new : List ℕ). new ++ replicate m 0)
    (take_all (length (replicate (suc m) 0) - 0) (0 ∷ []) (omega arith))

with_book-start : (base h m : ℕ) → 0 < m → with_book base (start h) (replicate m 0) ≡ replicate m 0
with_book-start base zero m some = refl
with_book-start base (suc zero) m some = overlaid-zeros m some
with_book-start base (suc (suc h)) m some = with_book-start base (suc h) m some

plain_word : (base : ℕ) (v : Value) → IsPlain v → word_of_value base [] v ≡ number_of v
plain_word base _ (word w) = refl
plain_word base _ nil = refl

plain_words : (base : ℕ) (values : List Value) → ArePlain values → map (word_of_value base []) values ≡ words_of values
plain_words base _ none = refl
plain_words base _ (more v values is are) = ap (λ w. w ∷ map (word_of_value base []) values) (plain_word base v is)
    ∙ ap (λ (rest : List ℕ). number_of v ∷ rest) (plain_words base values are)

statics_with : (shape : Shape) (words : List ℕ) → length words ≡ shape.fields
    → (header shape.table 1 ++ words) ++ drop (length (header shape.table 1 ++ words)) (statics_of shape)
    ≡ header shape.table 1 ++ (words ++ shape.tables)
statics_with shape words e =
    ap (λ (rest : List ℕ). header shape.table 1 ++ (words ++ rest))
    (drop_at (replicate shape.fields 0) shape.tables (length words) (length-replicate shape.fields 0 ∙ sym e))

static_words-program : (program : Source) (places : List (List ℕ)) (base : ℕ) (values : List Value) → ArePlain values
    → length values ≡ length (main_fields program)
    → static_words program base [] (program_statics program places) (alone (main_of program).class values)
    ≡ header (shape_of program places).table 1 ++ (words_of values ++ (shape_of program places).tables)
static_words-program program places base values plain same =
    let shape = shape_of program places in
    ap (λ (ws : List ℕ). (header shape.table 1 ++ ws) ++ drop (length (header shape.table 1 ++ ws)) (statics_of shape))
    (plain_words base values plain)
    ∙ statics_with shape (words_of values) (length-map values number_of ∙ same)

pub layout-program : (program : Source) (places : List (List ℕ)) (limits : Limits) (values : List Value)
    → IsLimits limits → ArePlain values → length values ≡ length (main_fields program)
    → layout program limits (program_statics program places) (alone (main_of program).class values) []
    ≡ front limits (shape_of program places) ++ (words_of values ++ back limits (shape_of program places))
layout-program program places limits values allowed plain same =
    let shape = shape_of program places in
    let store = alone (main_of program).class values in
    let statics = program_statics program places in
    let at = heap_base limits.heap (length statics) in
    ap (λ (heads : List ℕ). with_parts limits (length statics) heads (static_words program at [] statics store)
    (with_book at (start limits.heap) (replicate (2 ^ limits.heap) 0)))
    (heads-start at limits.heap allowed.heap_from)
    ∙ ap (λ (cells : List ℕ). with_parts limits (length statics) (empty_heads limits.heap at) cells
    (with_book at (start limits.heap) (replicate (2 ^ limits.heap) 0)))
    (static_words-program program places at values plain same)
    ∙ ap (λ (heap : List ℕ). with_parts limits (length statics) (empty_heads limits.heap at)
    (header shape.table 1 ++ (words_of values ++ shape.tables)) heap)
    (with_book-start at limits.heap (2 ^ limits.heap) (pow_pos limits.heap))
    ∙ ap (λ n. with_parts limits n (empty_heads limits.heap (heap_base limits.heap n))
    (header shape.table 1 ++ (words_of values ++ shape.tables)) (replicate (2 ^ limits.heap) 0)) (length-statics shape)
    ∙ of_parts limits shape (words_of values)

-- the values that a run begins with are plain

plain_zero : (kind : VarType) → IsPlain (zero_value kind)
plain_zero kind.Int = word 0
plain_zero (kind.Class class) = nil
plain_zero kind.IntArray = nil
plain_zero (kind.ClassArray class) = nil

pub plain_zeros : (fields : List Var) → ArePlain (zero_values fields)
plain_zeros [] = none
plain_zeros (field ∷ fields) = more (zero_value field.kind) (zero_values fields) (plain_zero field.kind)
    (plain_zeros fields)

pub plain_set : (values : List Value) (at w : ℕ) → ArePlain values → ArePlain (slice_set values at (Word w))
plain_set _ at w none = none
plain_set _ zero w (more v values is are) = more (Word w) values (word w) are
plain_set _ (suc at) w (more v values is are) = more v (slice_set values at (Word w)) is (plain_set values at w are)

pub plain_input : (input : List FieldWord) (values : List Value) → ArePlain values → ArePlain (with_input input values)
plain_input [] values are = are
plain_input (entry ∷ input) values are = plain_input input (slice_set values entry.field (Word entry.word))
    (plain_set values entry.field entry.word are)

pub length-input : (input : List FieldWord) (values : List Value) → length (with_input input values) ≡ length values
length-input [] values = refl
length-input (entry ∷ input) values = length-input input (slice_set values entry.field (Word entry.word))
    ∙ length-set values entry.field (Word entry.word)

pub starts_loaded : StartsLoaded
starts_loaded program image limits input statics allowed valid =
    let values = first_values (main_fields program) input in
    let at = statics.words in
    ap (λ (cells : List ℕ). layout program limits cells (alone (main_of program).class values) []) at
    ∙ layout-program program statics.places limits values allowed
    (plain_input input (zero_values (main_fields program)) (plain_zeros (main_fields program)))
    (length-input input (zero_values (main_fields program)) ∙ length-zero_values (main_fields program))
    ∙ sym (loaded-program program statics.places limits input valid)
    ∙ ap (λ (cells : List ℕ). loaded cells limits input) (sym at)

-- the front ends where the main object's fields begin
