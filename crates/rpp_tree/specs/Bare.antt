-- Trees without their places: each place is 0.
use Rattle.std.specs.Prelude.{map, Option, Some, None}
use Rattle.rpp_tree.specs.declared.tree.Ident.{Ident}
use Rattle.rpp_tree.specs.declared.tree.Var.{Var}
use Rattle.rpp_tree.specs.declared.tree.VarType.{VarType}
use Rattle.rpp_tree.specs.declared.tree.VarType.TheVariants as kind
use Rattle.rpp_tree.specs.Tree.{Expression, Number, Null, Variable, Element, Binary, Lvalue, Whole}
use Rattle.rpp_tree.specs.Tree.{Item, Creation, Object, Ints, Objects, Statement, Statements}
use Rattle.rpp_tree.specs.Tree.{Update, Swap, If, From, Construct, Local, New, Delete, Copy, Uncopy}
use Rattle.rpp_tree.specs.Tree.{Call, Skip, End, Then, Procedure, ClassText, Source, TreePart, Operand}
use Rattle.rpp_tree.specs.Tree.{Target, Typed, Creates, Invokes}

abbrev pub bare_name : Ident → Ident
bare_name name = record name { at = 0 }

abbrev pub bare_type : VarType → VarType
bare_type kind.Int = kind.Int
bare_type (kind.Class class) = kind.Class (bare_name class)
bare_type kind.IntArray = kind.IntArray
bare_type (kind.ClassArray class) = kind.ClassArray (bare_name class)

abbrev pub bare_var : Var → Var
bare_var var = record { kind = bare_type var.kind; name = bare_name var.name }

abbrev pub bare_expression : Expression → Expression
bare_expression (Number at word) = Number 0 word
bare_expression (Null at) = Null 0
bare_expression (Variable name) = Variable (bare_name name)
bare_expression (Element name index) = Element (bare_name name) (bare_expression index)
bare_expression (Binary at op left right) = Binary 0 op (bare_expression left)
    (bare_expression right)

abbrev pub bare_lvalue : Lvalue → Lvalue
bare_lvalue (Whole name) = Whole (bare_name name)
bare_lvalue (Item name index) = Item (bare_name name) (bare_expression index)

abbrev pub bare_receiver : Option Lvalue → Option Lvalue
bare_receiver None = None
bare_receiver (Some receiver) = Some (bare_lvalue receiver)

abbrev pub bare_creation : Creation → Creation
bare_creation (Object class) = Object (bare_name class)
bare_creation (Ints length) = Ints (bare_expression length)
bare_creation (Objects class length) = Objects (bare_name class) (bare_expression length)

abbrev pub bare_part : TreePart → TreePart
bare_part (Operand value) = Operand (bare_expression value)
bare_part (Target place) = Target (bare_lvalue place)
bare_part (Typed kind place) = Typed (bare_type kind) (bare_lvalue place)
bare_part (Creates made) = Creates (bare_creation made)
bare_part (Invokes receiver method args) =
    Invokes (bare_receiver receiver) (bare_name method) (map bare_name args)

abbrev mutual
  pub bare_statement : Statement → Statement
  bare_statement (Update at op target value) = Update 0 op (bare_lvalue target)
      (bare_expression value)
  bare_statement (Swap at left right) = Swap 0 (bare_lvalue left) (bare_lvalue right)
  bare_statement (If at test taken other after) =
      If 0 (bare_expression test) (bare taken) (bare other) (bare_expression after)
  bare_statement (From at entry first again exit) =
      From 0 (bare_expression entry) (bare first) (bare again) (bare_expression exit)
  bare_statement (Construct at class name body end) =
      Construct 0 (bare_name class) (bare_name name) (bare body) (bare_name end)
  bare_statement (Local at var value body end_var end_value) =
      Local 0 (bare_var var) (bare_expression value) (bare body) (bare_var end_var)
      (bare_expression end_value)
  bare_statement (New at made target) = New 0 (bare_creation made) (bare_lvalue target)
  bare_statement (Delete at made target) = Delete 0 (bare_creation made) (bare_lvalue target)
  bare_statement (Copy at kind source target) =
      Copy 0 (bare_type kind) (bare_lvalue source) (bare_lvalue target)
  bare_statement (Uncopy at kind source target) =
      Uncopy 0 (bare_type kind) (bare_lvalue source) (bare_lvalue target)
  bare_statement (Call at back receiver method args) =
      Call 0 back (bare_receiver receiver) (bare_name method) (map bare_name args)
  bare_statement (Skip at) = Skip 0

  pub bare : Statements → Statements
  bare End = End
  bare (Then first rest) = Then (bare_statement first) (bare rest)

abbrev pub bare_procedure : Procedure → Procedure
bare_procedure method = record {
  name = bare_name method.name;
  params = map bare_var method.params;
  body = bare method.body;
}

abbrev pub bare_parent : Option Ident → Option Ident
bare_parent None = None
bare_parent (Some parent) = Some (bare_name parent)

abbrev pub bare_class : ClassText → ClassText
bare_class class = record {
  name = bare_name class.name;
  parent = bare_parent class.parent;
  fields = map bare_var class.fields;
  methods = map bare_procedure class.methods;
}

abbrev pub bare_source : Source → Source
bare_source source = record { classes = map bare_class source.classes }
