-- Objects and arrays as lines: a reference by its name.
use Rattle.std.specs.Prelude.{ℕ, zero, suc, ◌+◌, List, [], ◌∷◌, ◌++◌, codes, Option, Some, None}
use Rattle.std.specs.Fmt.{decimal}
use Rattle.source_steps.specs.rpp_words.Texts.{line_end}
use Rattle.source_steps.specs.rpp_tree.declared.tree.Var.{Var}
use Rattle.source_steps.specs.rpp_tree.Tree.{Source}
use Rattle.source_steps.specs.class_rules.Classes.{class_fields}
use Rattle.source_steps.specs.roopl_semantics.Store.{Value, Word, Nil, Name, Head, OfClass}
use Rattle.source_steps.specs.roopl_semantics.Store.{OfInts, OfObjects}
use Rattle.source_steps.specs.roopl_semantics.Store.{Object, Store, object_named}
use Rattle.source_steps.specs.roopl_semantics.Report.{Text, signed_decimal, head_line, head_shown}

-- V: a word, nil or #K, K being the name
abbrev pub value_named : Value → Text
value_named (Word w) = signed_decimal w
value_named Nil = codes "nil"
value_named (Name n) = codes "#" ++ decimal n

-- NAME = V
abbrev pub name_line : List ℕ → Value → Text
name_line name v = name ++ codes " = " ++ value_named v ++ line_end

-- NAME = V for each field, after an indent
abbrev pub fields_named : Text → List Var → List Value → Text
fields_named indent [] cells = []
fields_named indent (var ∷ vars) [] = []
fields_named indent (var ∷ vars) (v ∷ cells) =
    indent ++ name_line var.name.text v ++ fields_named indent vars cells

-- [I] = V for each element, after two spaces
abbrev pub elements_named : ℕ → List Value → Text
elements_named index [] = []
elements_named index (v ∷ cells) = codes "  [" ++ decimal index ++ codes "] = " ++ value_named v
    ++ line_end ++ elements_named (index + 1) cells

abbrev pub cells_named : Source → Head → List Value → Text
cells_named program (OfClass class) cells = fields_named (codes "  ") (class_fields program class)
    cells
cells_named program (OfInts length) cells = elements_named 0 cells
cells_named program (OfObjects class length) cells = elements_named 0 cells

-- the line `#K HEAD count C` of an object or array, and those of its cells; a name that is not in
-- the store has none
abbrev pub object_lines : Source → ℕ → Option Object → Text
object_lines program name None = []
object_lines program name (Some object) =
    head_line (codes "#" ++ decimal name) (head_shown program object.head) object.count
    ++ cells_named program object.head object.cells

-- those of so many names from one on
abbrev pub objects_from : Source → Store → (from count : ℕ) → Text
objects_from program store from zero = []
objects_from program store from (suc count) =
    object_lines program from (object_named store from)
    ++ objects_from program store (suc from) count
