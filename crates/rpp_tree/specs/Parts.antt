-- The names, the places and the printed tokens of a syntax tree, in the order of the text.
use Rattle.std.specs.Prelude.{ℕ, ◌+◌, List, [], ◌∷◌, ◌++◌, map, sum_by, Option, Some, None}
use Rattle.std.specs.List.{flat_map}
use Rattle.rpp_tree.specs.declared.tree.Ident.{Ident}
use Rattle.rpp_tree.specs.declared.tree.Var.{Var}
use Rattle.rpp_tree.specs.declared.tree.VarType.{VarType}
use Rattle.rpp_tree.specs.declared.tree.VarType.TheVariants as kind
use Rattle.rpp_tree.specs.Tree.{Expression, Number, Null, Variable, Element, Binary, Lvalue, Whole}
use Rattle.rpp_tree.specs.Tree.{Item, Creation, Object, Ints, Objects, Statement, Statements}
use Rattle.rpp_tree.specs.Tree.{Procedure, ClassText, Source, TreePart, Operand, Target, Typed, Creates}
use Rattle.rpp_tree.specs.Tree.{Invokes, Walk, walk, walk_block, each_part, each_after}

-- ---- names

abbrev pub expression_names : Expression → List Ident
expression_names (Number at word) = []
expression_names (Null at) = []
expression_names (Variable name) = name ∷ []
expression_names (Element name index) = name ∷ expression_names index
expression_names (Binary at op left right) = expression_names left ++ expression_names right

abbrev pub lvalue_names : Lvalue → List Ident
lvalue_names (Whole name) = name ∷ []
lvalue_names (Item name index) = name ∷ expression_names index

abbrev pub receiver_names : Option Lvalue → List Ident
receiver_names None = []
receiver_names (Some receiver) = lvalue_names receiver

abbrev pub creation_names : Creation → List Ident
creation_names (Object class) = class ∷ []
creation_names (Ints length) = expression_names length
creation_names (Objects class length) = class ∷ expression_names length

abbrev pub type_names : VarType → List Ident
type_names kind.Int = []
type_names (kind.Class class) = class ∷ []
type_names kind.IntArray = []
type_names (kind.ClassArray class) = class ∷ []

abbrev pub var_names : Var → List Ident
var_names var = type_names var.kind ++ var.name ∷ []

abbrev pub part_names : TreePart → List Ident
part_names (Operand value) = expression_names value
part_names (Target place) = lvalue_names place
part_names (Typed kind place) = type_names kind ++ lvalue_names place
part_names (Creates made) = creation_names made
part_names (Invokes receiver method args) = receiver_names receiver ++ method ∷ args

abbrev pub names : Walk (List Ident)
names = record {
  plain = λ at parts. each_part ◌++◌ part_names [] parts;
  forked = λ at before first second after.
      expression_names before ++ first ++ second ++ expression_names after;
  construct = λ at class name body end. class ∷ name ∷ body ++ end ∷ [];
  local = λ at var value body end_var end_value.
      var_names var ++ expression_names value ++ body ++ var_names end_var
      ++ expression_names end_value;
  none = [];
  next = λ first said rest. said ++ rest;
}

abbrev pub statement_names : Statement → List Ident
statement_names = walk names

abbrev pub block_names : Statements → List Ident
block_names = walk_block names

abbrev pub procedure_names : Procedure → List Ident
procedure_names method = method.name ∷ flat_map var_names method.params ++ block_names method.body

abbrev pub parent_names : Option Ident → List Ident
parent_names None = []
parent_names (Some parent) = parent ∷ []

abbrev pub class_names : ClassText → List Ident
class_names class = class.name ∷ parent_names class.parent ++ flat_map var_names class.fields
    ++ flat_map procedure_names class.methods

abbrev pub source_names : Source → List Ident
source_names source = flat_map class_names source.classes

-- ---- places

abbrev pub name_places : List Ident → List ℕ
name_places names = map (λ name. name.at) names

abbrev pub expression_places : Expression → List ℕ
expression_places (Number at word) = at ∷ []
expression_places (Null at) = at ∷ []
expression_places (Variable name) = name.at ∷ []
expression_places (Element name index) = name.at ∷ expression_places index
expression_places (Binary at op left right) = expression_places left ++ at ∷ expression_places right

abbrev pub lvalue_places : Lvalue → List ℕ
lvalue_places (Whole name) = name.at ∷ []
lvalue_places (Item name index) = name.at ∷ expression_places index

abbrev pub receiver_places : Option Lvalue → List ℕ
receiver_places None = []
receiver_places (Some receiver) = lvalue_places receiver

abbrev pub creation_places : Creation → List ℕ
creation_places (Object class) = class.at ∷ []
creation_places (Ints length) = expression_places length
creation_places (Objects class length) = class.at ∷ expression_places length

abbrev pub var_places : Var → List ℕ
var_places var = name_places (var_names var)

abbrev pub part_places : TreePart → List ℕ
part_places (Operand value) = expression_places value
part_places (Target place) = lvalue_places place
part_places (Typed kind place) = name_places (type_names kind) ++ lvalue_places place
part_places (Creates made) = creation_places made
part_places (Invokes receiver method args) = receiver_places receiver ++ method.at
    ∷ name_places args

abbrev pub places : Walk (List ℕ)
places = record {
  plain = λ at parts. at ∷ each_part ◌++◌ part_places [] parts;
  forked = λ at before first second after.
      at ∷ expression_places before ++ first ++ second ++ expression_places after;
  construct = λ at class name body end. at ∷ class.at ∷ name.at ∷ body ++ end.at ∷ [];
  local = λ at var value body end_var end_value.
      at ∷ var_places var ++ expression_places value ++ body ++ var_places end_var
      ++ expression_places end_value;
  none = [];
  next = λ first said rest. said ++ rest;
}

abbrev pub statement_places : Statement → List ℕ
statement_places = walk places

abbrev pub block_places : Statements → List ℕ
block_places = walk_block places

abbrev pub procedure_places : Procedure → List ℕ
procedure_places method = method.name.at ∷ flat_map var_places method.params
    ++ block_places method.body

abbrev pub class_places : ClassText → List ℕ
class_places class = class.name.at ∷ name_places (parent_names class.parent)
    ++ flat_map var_places class.fields ++ flat_map procedure_places class.methods

abbrev pub source_places : Source → List ℕ
source_places source = flat_map class_places source.classes

-- ---- printed tokens, without the parentheses round operands

abbrev pub expression_tokens : Expression → ℕ
expression_tokens (Number at word) = 1
expression_tokens (Null at) = 1
expression_tokens (Variable name) = 1
expression_tokens (Element name index) = 3 + expression_tokens index
expression_tokens (Binary at op left right) = expression_tokens left + 1 + expression_tokens right

abbrev pub lvalue_tokens : Lvalue → ℕ
lvalue_tokens (Whole name) = 1
lvalue_tokens (Item name index) = 3 + expression_tokens index

abbrev pub creation_tokens : Creation → ℕ
creation_tokens (Object class) = 1
creation_tokens (Ints length) = 3 + expression_tokens length
creation_tokens (Objects class length) = 3 + expression_tokens length

abbrev pub type_tokens : VarType → ℕ
type_tokens kind.Int = 1
type_tokens (kind.Class class) = 1
type_tokens kind.IntArray = 3
type_tokens (kind.ClassArray class) = 3

abbrev pub var_tokens : Var → ℕ
var_tokens var = type_tokens var.kind + 1

-- the receiver with its `::`
abbrev pub receiver_tokens : Option Lvalue → ℕ
receiver_tokens None = 0
receiver_tokens (Some receiver) = lvalue_tokens receiver + 1

-- the parts of a list with commas between them
abbrev pub list_tokens : {A : Type 0} → (A → ℕ) → List A → ℕ
list_tokens size [] = 0
list_tokens size (first ∷ []) = size first
list_tokens size (first ∷ second ∷ rest) = size first + 1 + list_tokens size (second ∷ rest)

-- a call's parentheses are counted with what it calls
abbrev pub part_tokens : TreePart → ℕ
part_tokens (Operand value) = expression_tokens value
part_tokens (Target place) = lvalue_tokens place
part_tokens (Typed kind place) = type_tokens kind + lvalue_tokens place
part_tokens (Creates made) = creation_tokens made
part_tokens (Invokes receiver method args) = receiver_tokens receiver + 3
    + list_tokens (λ name. 1) args

-- a statement without blocks has one word or symbol in addition to its parts
abbrev pub tokens : Walk ℕ
tokens = record {
  plain = λ at parts. each_after ◌+◌ part_tokens 1 parts;
  forked = λ at before first second after.
      4 + expression_tokens before + first + second + expression_tokens after;
  construct = λ at class name body end. 5 + body;
  local = λ at var value body end_var end_value.
      4 + var_tokens var + expression_tokens value + body + var_tokens end_var
      + expression_tokens end_value;
  none = 0;
  next = λ first said rest. said + rest;
}

abbrev pub statement_tokens : Statement → ℕ
statement_tokens = walk tokens

abbrev pub block_tokens : Statements → ℕ
block_tokens = walk_block tokens

abbrev pub procedure_tokens : Procedure → ℕ
procedure_tokens method = 4 + list_tokens var_tokens method.params + block_tokens method.body

abbrev pub parent_tokens : Option Ident → ℕ
parent_tokens None = 0
parent_tokens (Some parent) = 2

abbrev pub class_tokens : ClassText → ℕ
class_tokens class = 2 + parent_tokens class.parent + sum_by var_tokens class.fields + sum_by
    procedure_tokens class.methods

abbrev pub source_tokens : Source → ℕ
source_tokens source = sum_by class_tokens source.classes
