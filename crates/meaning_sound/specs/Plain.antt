-- What a tree of Rust shows besides acceptance: the literals are words, and the names in calls on
-- elements are not empty.
use Rattle.std.specs.Prelude.{◌≡◌, ◌^◌, ◌<◌, false, List, [], ◌∷◌, Option, Some, None}
use Rattle.std.specs.List.{All}
use Rattle.std.specs.Str.{bytes_eq}
use Rattle.roopl_semantics.specs.rpp_tree.declared.tree.Ident.{Ident}
use Rattle.roopl_semantics.specs.rpp_tree.Tree.{Expression, Number, Null, Variable, Element, Binary, Lvalue, Whole}
use Rattle.roopl_semantics.specs.rpp_tree.Tree.{Item, Creation, Object, Ints, Objects, Statement, Statements}
use Rattle.roopl_semantics.specs.rpp_tree.Tree.{Procedure, ClassText, Source, TreePart, Operand, Target, Typed, Creates}
use Rattle.roopl_semantics.specs.rpp_tree.Tree.{Invokes, Walk, walk, walk_block, each_part}

-- the literals of an expression are words
abbrev pub HasWords : Expression → Type 0
HasWords (Number at word) = word < 2 ^ 32
HasWords (Null at) = Unit {0}
HasWords (Variable name) = Unit {0}
HasWords (Element name index) = HasWords index
HasWords (Binary at op left right) = HasWords left × HasWords right

abbrev pub PlaceHasWords : Lvalue → Type 0
PlaceHasWords (Whole name) = Unit {0}
PlaceHasWords (Item name index) = HasWords index

abbrev pub CreationHasWords : Creation → Type 0
CreationHasWords (Object class) = Unit {0}
CreationHasWords (Ints length) = HasWords length
CreationHasWords (Objects class length) = HasWords length

-- a name is not empty
abbrev pub IsNamed : Ident → Type 0
IsNamed name = bytes_eq [] name.text ≡ false

abbrev pub HasNames : Expression → Type 0
HasNames (Number at word) = Unit {0}
HasNames (Null at) = Unit {0}
HasNames (Variable name) = IsNamed name
HasNames (Element name index) = IsNamed name × HasNames index
HasNames (Binary at op left right) = HasNames left × HasNames right

abbrev pub AreNamed : List Ident → Type 0
AreNamed [] = Unit {0}
AreNamed (name ∷ names) = IsNamed name × AreNamed names

-- the receiver of a call
abbrev pub ReceiverIsPlain : Option Lvalue → List Ident → Type 0
ReceiverIsPlain None args = Unit {0}
ReceiverIsPlain (Some (Whole name)) args = Unit {0}
ReceiverIsPlain (Some (Item name index)) args = HasWords index × IsNamed name × HasNames index
    × AreNamed args

-- the literals of a part are words, and so it is said of the receiver of a call
abbrev pub PartHasWords : (Option Lvalue → List Ident → Type 0) → TreePart → Type 0
PartHasWords Receiver (Operand value) = HasWords value
PartHasWords Receiver (Target place) = PlaceHasWords place
PartHasWords Receiver (Typed kind place) = PlaceHasWords place
PartHasWords Receiver (Creates made) = CreationHasWords made
PartHasWords Receiver (Invokes receiver method args) = Receiver receiver args

-- the same of all parts of a statement
abbrev pub words_and : (Option Lvalue → List Ident → Type 0) → Walk (Type 0)
words_and Receiver = record {
  plain = λ at parts. each_part (λ (A B : Type 0). A × B) (PartHasWords Receiver) (Unit {0}) parts;
  forked = λ at before first second after. HasWords before × first × second × HasWords after;
  construct = λ at class name body end. body;
  local = λ at var value body end_var end_value. HasWords value × body × HasWords end_value;
  none = Unit {0};
  next = λ first said rest. said × rest;
}

abbrev pub StatementIsPlain : Statement → Type 0
StatementIsPlain = walk (words_and ReceiverIsPlain)

abbrev pub IsPlain : Statements → Type 0
IsPlain = walk_block (words_and ReceiverIsPlain)

-- every method of the program
abbrev pub ProgramIsPlain : Source → Type 0
ProgramIsPlain program =
    All (λ (class : ClassText). All (λ (method : Procedure). IsPlain method.body) class.methods)
    program.classes

abbrev pub ReceiverHasWords : Option Lvalue → Type 0
ReceiverHasWords None = Unit {0}
ReceiverHasWords (Some place) = PlaceHasWords place

abbrev pub all_words : Walk (Type 0)
all_words = words_and (λ receiver args. ReceiverHasWords receiver)

-- the literals of statements are words
abbrev pub StatementHasWords : Statement → Type 0
StatementHasWords = walk all_words

abbrev pub BlockHasWords : Statements → Type 0
BlockHasWords = walk_block all_words

-- the literals of a program are words
abbrev pub ProgramHasWords : Source → Type 0
ProgramHasWords program =
    All (λ (class : ClassText). All (λ (method : Procedure). BlockHasWords method.body)
    class.methods) program.classes
