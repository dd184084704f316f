-- The memory that represents a store.
use Rattle.std.specs.Prelude.{◌≡◌, ◌<◌, ℕ, zero, suc, ◌+◌, ◌-◌, ◌*◌, ◌^◌, Bool, true, not, ◌&&◌}
use Rattle.std.specs.Prelude.{◌||◌, nat_eq, List, [], ◌∷◌, ◌++◌, length, map, take, drop, replicate}
use Rattle.std.specs.List.{All, list_any}
use Rattle.std.specs.Option.{unwrap_or}
use Rattle.buddy_book.specs.rpp_words.declared.input.Limits.{Limits}
use Rattle.buddy_book.specs.rpp_words.declared.input.TheConstants.{FRAME_WORDS}
use Rattle.inverse_rules.specs.rpp_tree.Tree.{Source}
use Rattle.class_rules.specs.First.{each_below}
use Rattle.class_rules.specs.Classes.{class_slots}
use Rattle.buddy_book.specs.Book.{Book}
pub use Rattle.buddy_book.specs.Shown.{first_address}
use Rattle.buddy_book.specs.Place.{Log, Placing, block_of, place}
use Rattle.roopl_semantics.specs.Store.{Value, Word, Nil, Name, Head, OfClass, OfInts, OfObjects}
use Rattle.roopl_semantics.specs.Store.{Object, Store, main_name, object_at}
use Rattle.roopl_semantics.specs.Source.{main_fields}
use Rattle.class_rules.specs.Classes.{main_of}
use Rattle.roopl_semantics.specs.Report.{numbered}
use Rattle.code_conventions.specs.pisa_isa.Image.{Segments}
use Rattle.code_conventions.specs.pisa_isa.Loaded.{statics_at, heap_base, fixed_cells}
use Rattle.code_conventions.specs.Header.{header}
use Rattle.code_conventions.specs.declared.memory.TheConstants.{HEADER_WORDS, TABLE_HEADER}

-- the length of a class's table: its number, and a code address for each method slot
abbrev pub table_length : Source → ℕ → ℕ
table_length program class = TABLE_HEADER + length (class_slots program class)

-- the address of a class's table: after the main object and the tables of the classes before it; a
-- table has the number of its class, and a code address for each method slot
abbrev pub table_at : Source → ℕ → ℕ
table_at program zero = statics_at + HEADER_WORDS + length (main_fields program)
table_at program (suc class) =
    table_at program class + (TABLE_HEADER + length (class_slots program class))

-- the addresses of the tables, in the order of the classes
abbrev pub table_addresses : Source → List ℕ
table_addresses program = each_below (table_at program) (length program.classes)

-- the main object in an image: its table's address, its count and fields of 0
abbrev pub main_statics : Source → List ℕ
main_statics program = header (table_at program (main_of program).class) 1
    ++ replicate (length (main_fields program)) 0

-- the tables of the classes from this number on: the number, and the code addresses
abbrev pub tables : ℕ → List (List ℕ) → List ℕ
tables number [] = []
tables number (places ∷ rest) = number ∷ (places ++ tables (number + 1) rest)

-- the static cells of an image of the program, with these code addresses for the slots of each
-- class
pub record HasStatics (program : Source) (image : Segments) : Type 0 where
  pub places : List (List ℕ)
  pub slots : map length places ≡ each_below (λ class. length (class_slots program class))
      (length program.classes)
  pub in_code : All (λ of_class. All (λ at. at < length image.code) of_class) places
  pub words : image.statics ≡ main_statics program ++ tables 1 places

-- a list with other elements from a place on, as far as it goes
abbrev pub overlaid : List ℕ → ℕ → List ℕ → List ℕ
overlaid words at new = take at words ++ take (length words - at) new
    ++ drop (at + length new) words

-- what a cell holds: a reference is the address of its block
abbrev pub word_of_value : ℕ → List (ℕ × ℕ) → Value → ℕ
word_of_value base blocks (Word w) = w
word_of_value base blocks Nil = 0
word_of_value base blocks (Name n) = base + block_of blocks n

-- an object begins with its class's table's address, an array with its length
abbrev pub head_word : Source → Head → ℕ
head_word program (OfClass class) = table_at program class
head_word program (OfInts length) = length
head_word program (OfObjects class length) = length

-- the words of an object or array: its head, its count and its cells
abbrev pub object_words : Source → ℕ → List (ℕ × ℕ) → Object → List ℕ
object_words program base blocks object =
    header (head_word program object.head) object.count ++ map (word_of_value base blocks) object.cells

-- the first word of each free block of a list is the address of the next
abbrev pub with_links : ℕ → List ℕ → List ℕ → List ℕ
with_links base [] words = words
with_links base (block ∷ free) words =
    with_links base free (overlaid words block (first_address base free ∷ []))

-- the links of all lists
abbrev pub with_book : ℕ → Book → List ℕ → List ℕ
with_book base [] words = words
with_book base (free ∷ higher) words = with_book base higher (with_links base free words)

-- the words of the objects in their blocks
abbrev pub with_objects : Source → ℕ → Store → List (ℕ × ℕ) → List (ℕ × ℕ) → List ℕ → List ℕ
with_objects program base store blocks [] words = words
with_objects program base store blocks ((name, block) ∷ rest) words =
    with_objects program base store blocks rest
    (overlaid words block (object_words program base blocks (object_at store name)))

-- the words of the heap
abbrev pub heap_words : Source → ℕ → ℕ → Store → Placing → List ℕ
heap_words program size base store placing =
    with_objects program base store placing.blocks placing.blocks
    (with_book base placing.book (replicate size 0))

-- the static cells, if the main object changes and the tables stay
abbrev pub static_words : Source → ℕ → List (ℕ × ℕ) → List ℕ → Store → List ℕ
static_words program base blocks statics store =
    let main = object_words program base blocks (object_at store main_name) in
    main ++ drop (length main) statics

-- the memory over these static cells, with the blocks where they are placed and these words of the
-- stack
abbrev pub laid : Source → Limits → List ℕ → Store → Placing → List ℕ → List ℕ
laid program limits statics store placing stack =
    let base = heap_base limits.heap (length statics) in
    fixed_cells limits.heap limits.deep base (map (first_address base) placing.book)
    ++ static_words program base placing.blocks statics store
    ++ replicate (base - statics_at - length statics) 0
    ++ heap_words program (2 ^ limits.heap) base store placing
    ++ stack

abbrev pub no_placing : Placing
no_placing = record { book = []; blocks = [] }

-- the memory that represents a store after these requests, over the static cells of an image of the
-- program, with nothing on the stack
abbrev pub layout : Source → Limits → List ℕ → Store → Log → List ℕ
layout program limits statics store log =
    laid program limits statics store (unwrap_or (place limits.heap log) no_placing)
    (replicate (FRAME_WORDS * limits.deep) 0)

-- whether a class's table is at this address
abbrev pub is_table : Source → ℕ → Bool
is_table program address = list_any (nat_eq address) (table_addresses program)

-- whether a head word says what this is: an array's length is no table's address
abbrev pub has_plain_head : Source → Head → Bool
has_plain_head program (OfClass class) = true
has_plain_head program (OfInts length) = not (is_table program length)
has_plain_head program (OfObjects class length) = not (is_table program length)

abbrev pub is_plain_among : Source → List ℕ → Store → Bool
is_plain_among program reached [] = true
is_plain_among program reached ((name, object) ∷ store) =
    (list_any (nat_eq name) reached || has_plain_head program object.head)
    && is_plain_among program reached store

-- whether no array that is not reached from the main object has a table's address as its length
abbrev pub is_plain : Source → Store → Bool
is_plain program store = is_plain_among program (numbered store) store
