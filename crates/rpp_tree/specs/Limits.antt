-- The limits that a program's syntax tree shows.
use Rattle.std.specs.Prelude.{ℕ, ◌+◌, ◌<◌, ◌≤◌, max, length, All, sum_by, Option, Some, None}
use Rattle.rpp_tree.specs.declared.limits.TheConstants.{MOST_BYTES, MOST_TOKENS, MOST_NODES}
use Rattle.rpp_tree.specs.declared.limits.TheConstants.{MOST_NUMBER, MOST_INDEX_DEPTH, MOST_CLASSES}
use Rattle.rpp_tree.specs.declared.limits.TheConstants.{MOST_PARAMETERS, MOST_LOCALS, MOST_NESTING}
use Rattle.rpp_tree.specs.Tree.{Expression, Number, Null, Variable, Element, Binary, Lvalue, Whole}
use Rattle.rpp_tree.specs.Tree.{Item, Creation, Object, Ints, Objects, Statement, Statements}
use Rattle.rpp_tree.specs.Tree.{Procedure, Source, TreePart, Operand, Target, Typed, Creates, Invokes}
use Rattle.rpp_tree.specs.Tree.{Walk, walk, walk_block, own_parts, each_part, statement_nodes}
use Rattle.rpp_tree.specs.Tree.{depth}
use Rattle.rpp_tree.specs.Names.{IsName}
use Rattle.rpp_tree.specs.Numbers.{source_numbers}
use Rattle.rpp_tree.specs.Parts.{source_names, source_places, source_tokens}

-- how many elements are nested one in the index of the next
abbrev pub index_depth : Expression → ℕ
index_depth (Number at word) = 0
index_depth (Null at) = 0
index_depth (Variable name) = 0
index_depth (Element name index) = 1 + index_depth index
index_depth (Binary at op left right) = max (index_depth left) (index_depth right)

abbrev pub lvalue_index_depth : Lvalue → ℕ
lvalue_index_depth (Whole name) = 0
lvalue_index_depth (Item name index) = 1 + index_depth index

-- the length of an array is no index
abbrev pub creation_index_depth : Creation → ℕ
creation_index_depth (Object class) = 0
creation_index_depth (Ints length) = index_depth length
creation_index_depth (Objects class length) = index_depth length

abbrev pub receiver_index_depth : Option Lvalue → ℕ
receiver_index_depth None = 0
receiver_index_depth (Some receiver) = lvalue_index_depth receiver

abbrev pub part_index_depth : TreePart → ℕ
part_index_depth (Operand value) = index_depth value
part_index_depth (Target place) = lvalue_index_depth place
part_index_depth (Typed kind place) = lvalue_index_depth place
part_index_depth (Creates made) = creation_index_depth made
part_index_depth (Invokes receiver method args) = receiver_index_depth receiver

-- the same of a statement itself, without the statements inside it
abbrev pub statement_index_depth : Statement → ℕ
statement_index_depth s = each_part max part_index_depth 0 (own_parts s)

-- a call of a method of an element holds the element in a local
abbrev pub receiver_locals : Option Lvalue → ℕ
receiver_locals None = 0
receiver_locals (Some (Whole name)) = 0
receiver_locals (Some (Item name index)) = 1

abbrev pub part_locals : TreePart → ℕ
part_locals (Invokes receiver method args) = receiver_locals receiver
part_locals _ = 0

abbrev pub held_locals : Walk ℕ
held_locals = record {
  plain = λ at parts. each_part max part_locals 0 parts;
  forked = λ at before first second after. max first second;
  construct = λ at class name body end. 1 + body;
  local = λ at var value body end_var end_value. 1 + body;
  none = 0;
  next = λ first said rest. max said rest;
}

-- the most locals at one point of a statement, those of `construct` and of element calls counted
abbrev pub statement_locals : Statement → ℕ
statement_locals = walk held_locals

abbrev pub locals : Statements → ℕ
locals = walk_block held_locals

-- a statement keeps the limits of expressions
pub record IsSmallStatement (statement : Statement) : Type 0 where
  pub nodes : statement_nodes statement ≤ MOST_NODES
  pub indexes : statement_index_depth statement ≤ MOST_INDEX_DEPTH

abbrev pub small : Walk (Type 0)
small = record {
  plain = λ at parts. Unit {0};
  forked = λ at before first second after. first × second;
  construct = λ at class name body end. body;
  local = λ at var value body end_var end_value. body;
  none = Unit {0};
  next = λ first said rest. IsSmallStatement first × said × rest;
}

-- each statement keeps them, those inside others too
abbrev pub AreSmall : Statements → Type 0
AreSmall = walk_block small

abbrev pub AreInnerSmall : Statement → Type 0
AreInnerSmall = walk small

-- a method keeps the limits of methods
pub record IsSmallMethod (method : Procedure) : Type 0 where
  pub parameters : length method.params ≤ MOST_PARAMETERS
  pub locals_nested : locals method.body ≤ MOST_LOCALS
  pub nesting : depth method.body ≤ MOST_NESTING
  pub statements : AreSmall method.body

-- a program keeps the limits that its syntax tree shows, except for those of fields and method
-- slots
pub record IsWithinLimits (source : Source) : Type 0 where
  pub classes_few : length source.classes ≤ MOST_CLASSES
  pub methods_small : All (λ class. All IsSmallMethod class.methods) source.classes
  pub tokens_few : source_tokens source ≤ MOST_TOKENS
  pub places : All (λ at. at < MOST_BYTES) (source_places source)
  pub names : All (λ name. IsName name.text) (source_names source)
  pub name_bytes : sum_by (λ name. length name.text) (source_names source) ≤ MOST_BYTES
  pub numbers : All (λ number. number ≤ MOST_NUMBER) (source_numbers source)
