-- What the cells of a memory say about the reachable objects, and the report of them. Names are
-- addresses here.
use Rattle.std.specs.Prelude.{ℕ, ◌+◌, nat_eq, List, [], ◌∷◌, ◌++◌, length, map}
use Rattle.std.specs.Prelude.{if◌then◌else◌}
use Rattle.std.specs.Option.{unwrap_or}
use Rattle.meaning_reached.specs.rpp_tree.declared.tree.VarType.{VarType}
use Rattle.meaning_reached.specs.rpp_tree.declared.tree.VarType.TheVariants as kind
use Rattle.meaning_reached.specs.rpp_tree.Tree.{Source}
use Rattle.refine_frame.specs.class_rules.Classes.{class_number}
use Rattle.static_layout.specs.roopl_semantics.Store.{Value, Word, Nil, Name, Head, OfClass, OfInts, OfObjects}
use Rattle.static_layout.specs.roopl_semantics.Store.{Object}
use Rattle.static_layout.specs.roopl_semantics.Source.{main_fields}
use Rattle.static_layout.specs.roopl_semantics.Report.{Text, field_lines}
use Rattle.static_layout.specs.roopl_semantics.Report.{live_line, object_text}
use Rattle.static_layout.specs.roopl_semantics.Walk.{class_with_table, types_of, Reference, types_at}
use Rattle.static_layout.specs.roopl_semantics.Walk.{reached}
use Rattle.pisa_machine.specs.pisa_isa.Loaded.{statics_at}
use Rattle.pisa_machine.specs.pisa_isa.Machine.{word_at}
use Rattle.refine_frame.specs.code_conventions.declared.memory.TheConstants.{COUNT_WORD, HEADER_WORDS}

-- the meaning of a word in a cell of a reference type: nil, or the address of a block
abbrev pub reference_told : ℕ → Value
reference_told word = if nat_eq word 0 then Nil else Name word

-- the meaning of a word in a cell of this type
abbrev pub value_told : VarType → ℕ → Value
value_told kind.Int word = Word word
value_told (kind.Class class) word = reference_told word
value_told kind.IntArray word = reference_told word
value_told (kind.ClassArray class) word = reference_told word

-- the meaning of the cells of these types from an address on
abbrev pub values_told : List ℕ → ℕ → List VarType → List Value
values_told cells address [] = []
values_told cells address (type ∷ types) =
    value_told type (word_at cells address) ∷ values_told cells (address + 1) types

-- what is reached by a reference of this type, by its head word: an object's is its class's table,
-- an array's its length
abbrev pub head_told : Source → VarType → ℕ → Head
head_told program kind.Int word = OfInts 0
head_told program (kind.Class class) word = OfClass (unwrap_or (class_with_table program word) 0)
head_told program kind.IntArray word = OfInts word
head_told program (kind.ClassArray class) word =
    OfObjects (unwrap_or (class_number program class.text) 0) word

-- the object or array at a reference: its head, its count and its cells
abbrev pub object_told : Source → List ℕ → Reference → Object
object_told program cells reference = record {
  head = head_told program reference.type (word_at cells reference.at);
  count = word_at cells (reference.at + COUNT_WORD);
  cells = values_told cells (reference.at + HEADER_WORDS) (types_at program cells reference);
}

abbrev pub address_of : Reference → ℕ
address_of reference = reference.at

-- the lines of what is reached, by these references in turn
abbrev pub lines_told : Source → List ℕ → List ℕ → List Reference → Text
lines_told program cells addresses [] = []
lines_told program cells addresses (reference ∷ rest) =
    object_text program addresses reference.at (object_told program cells reference)
    ++ lines_told program cells addresses rest

-- the report from the cells of a memory
abbrev pub report_told : Source → List ℕ → Text
report_told program cells =
    let references = reached program cells in
    let addresses = map address_of references in
    field_lines [] addresses (main_fields program)
    (values_told cells (statics_at + HEADER_WORDS) (types_of (main_fields program)))
    ++ lines_told program cells addresses references
    ++ live_line (length references)
