-- The printed report of a store.
use Rattle.std.specs.Prelude.{ℕ, zero, suc, ◌+◌, ◌-◌, ◌^◌, nat_eq, nat_lt, List, [], ◌∷◌, ◌++◌}
use Rattle.std.specs.Prelude.{length, codes, position, if◌then◌else◌}
use Rattle.std.specs.List.{list_any}
use Rattle.std.specs.Option.{unwrap_or}
use Rattle.std.specs.Fmt.{decimal}
use Rattle.buddy_book.specs.rpp_words.Texts.{line_end}
use Rattle.inverse_rules.specs.rpp_tree.declared.tree.Var.{Var}
use Rattle.inverse_rules.specs.rpp_tree.Tree.{Source}
use Rattle.class_rules.specs.Members.{class_at}
use Rattle.class_rules.specs.Classes.{class_fields}
use Rattle.roopl_semantics.specs.Store.{Value, Word, Nil, Name, Head, OfClass, OfInts, OfObjects}
use Rattle.roopl_semantics.specs.Store.{Store, main_name, object_at, Object}
use Rattle.roopl_semantics.specs.Source.{main_fields}

abbrev pub Text : Type 0
Text = List ℕ

-- a word in signed decimal
abbrev pub signed_decimal : ℕ → Text
signed_decimal word = if nat_lt word (2 ^ 31) then decimal word else codes "-"
    ++ decimal (2 ^ 32 - word)

-- the names that cells hold and that are not yet met, each once, in the order of the cells
abbrev pub newly_met : List ℕ → List Value → List ℕ
newly_met met [] = []
newly_met met (Word w ∷ cells) = newly_met met cells
newly_met met (Nil ∷ cells) = newly_met met cells
newly_met met (Name n ∷ cells) = if list_any (nat_eq n) met then newly_met met cells
    else n ∷ newly_met (n ∷ met) cells

-- the names met by walking the cells of the pending names in turn, in at most so many steps
abbrev pub walked : ℕ → Store → List ℕ → List ℕ → List ℕ
walked zero store met pending = met
walked (suc steps) store met [] = met
walked (suc steps) store met (name ∷ pending) =
    let new = newly_met met (object_at store name).cells
    in walked steps store (met ++ new) (pending ++ new)

-- the names that are reached from the main object, in the order of their numbers, from #1 on
abbrev pub numbered : Store → List ℕ
numbered store =
    let first = newly_met [] (object_at store main_name).cells
    in walked (length store) store first first

-- the number of a name
abbrev pub number_shown : List ℕ → ℕ → Text
number_shown names name = codes "#" ++ decimal (unwrap_or (position (nat_eq name) names) 0 + 1)

-- V: a word, nil or the number of a name
abbrev pub value_shown : List ℕ → Value → Text
value_shown names (Word w) = signed_decimal w
value_shown names Nil = codes "nil"
value_shown names (Name n) = number_shown names n

-- NAME = V for each field, after an indent
abbrev pub field_lines : Text → List ℕ → List Var → List Value → Text
field_lines indent names [] cells = []
field_lines indent names (var ∷ vars) [] = []
field_lines indent names (var ∷ vars) (v ∷ cells) =
    indent ++ var.name.text ++ codes " = " ++ value_shown names v ++ line_end
    ++ field_lines indent names vars cells

-- [I] = V for each element, after two spaces
abbrev pub element_lines : List ℕ → ℕ → List Value → Text
element_lines names index [] = []
element_lines names index (v ∷ cells) =
    codes "  [" ++ decimal index ++ codes "] = " ++ value_shown names v ++ line_end
    ++ element_lines names (index + 1) cells

-- CLASS, int[L] or CLASS[L]
abbrev pub head_shown : Source → Head → Text
head_shown program (OfClass class) = (class_at program class).name.text
head_shown program (OfInts length) = codes "int[" ++ decimal length ++ codes "]"
head_shown program (OfObjects class length) =
    (class_at program class).name.text ++ codes "[" ++ decimal length ++ codes "]"

-- the lines of an object's cells
abbrev pub cell_lines : Source → List ℕ → Head → List Value → Text
cell_lines program names (OfClass class) cells =
    field_lines (codes "  ") names (class_fields program class) cells
cell_lines program names (OfInts length) cells = element_lines names 0 cells
cell_lines program names (OfObjects class length) cells = element_lines names 0 cells

-- `NUMBER HEAD count C`
abbrev pub head_line : (number head : Text) → (count : ℕ) → Text
head_line number head count =
    number ++ codes " " ++ head ++ codes " count " ++ decimal count ++ line_end

-- the head line of an object, and the lines of its cells
abbrev pub object_text : Source → List ℕ → ℕ → Object → Text
object_text program names name object =
    head_line (number_shown names name) (head_shown program object.head) object.count
    ++ cell_lines program names object.head object.cells

abbrev pub object_lines : Source → Store → List ℕ → List ℕ → Text
object_lines program store names [] = []
object_lines program store names (name ∷ rest) =
    object_text program names name (object_at store name) ++ object_lines program store names rest

abbrev pub live_line : ℕ → Text
live_line live = codes "live " ++ decimal live ++ line_end

-- the report except for its last line: the main object's fields, and the objects in the order of
-- their numbers
abbrev pub objects_shown : Source → Store → Text
objects_shown program store =
    let names = numbered store in
    field_lines [] names (main_fields program) (object_at store main_name).cells
    ++ object_lines program store names names

-- how many objects and arrays are live except the main object
abbrev pub live_count : Store → ℕ
live_count store = length store - 1

-- the report of a store: its last line says how many objects and arrays are live except the main
-- object
abbrev pub report : Source → Store → Text
report program store = objects_shown program store
    ++ (codes "live " ++ decimal (length store - 1) ++ line_end)
