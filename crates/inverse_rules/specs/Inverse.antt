-- The inverses of statements, blocks and programs.
use Rattle.std.specs.Prelude.{Bool, true, false, not, if◌then◌else◌, map}
use Rattle.rpp_tree.specs.declared.tree.UpdateOp.{UpdateOp}
use Rattle.rpp_tree.specs.declared.tree.UpdateOp.TheVariants as update
use Rattle.rpp_tree.specs.Tree.{Statement, Statements, Update, Swap, If, From, Construct, Local}
use Rattle.rpp_tree.specs.Tree.{New, Delete, Copy, Uncopy, Call, Skip, End, Then, joined, Procedure}
use Rattle.rpp_tree.specs.Tree.{ClassText, Source}

-- the update that undoes one by this operator
abbrev pub inverse_operator : UpdateOp → UpdateOp
inverse_operator update.Add = update.Sub
inverse_operator update.Sub = update.Add
inverse_operator update.Xor = update.Xor

abbrev mutual
  -- a statement undone, at the same place of the source; calls turn, or they stay if the methods
  -- themselves are inverted
  pub inverse_statement_as : Bool → Statement → Statement
  inverse_statement_as turn (Update at op target value) =
      Update at (inverse_operator op) target value
  inverse_statement_as turn (Swap at left right) = Swap at left right
  inverse_statement_as turn (If at test taken other after) =
      If at after (inverse_as turn taken) (inverse_as turn other) test
  inverse_statement_as turn (From at entry first again exit) =
      From at exit (inverse_as turn first) (inverse_as turn again) entry
  inverse_statement_as turn (Construct at class name body end) =
      Construct at class name (inverse_as turn body) end
  inverse_statement_as turn (Local at var value body end_var end_value) =
      Local at end_var end_value (inverse_as turn body) var value
  inverse_statement_as turn (New at made target) = Delete at made target
  inverse_statement_as turn (Delete at made target) = New at made target
  inverse_statement_as turn (Copy at kind source target) = Uncopy at kind source target
  inverse_statement_as turn (Uncopy at kind source target) = Copy at kind source target
  inverse_statement_as turn (Call at back receiver method args) =
      Call at (if turn then not back else back) receiver method args
  inverse_statement_as turn (Skip at) = Skip at

  -- a block undone: the last statement first
  pub inverse_as : Bool → Statements → Statements
  inverse_as turn End = End
  inverse_as turn (Then first rest) =
      joined (inverse_as turn rest) (Then (inverse_statement_as turn first) End)

-- the statement that undoes a statement
abbrev pub inverse_statement : Statement → Statement
inverse_statement s = inverse_statement_as true s

-- the block that undoes a block
abbrev pub inverse : Statements → Statements
inverse body = inverse_as true body

-- a method of the inverse program: its calls keep their direction
abbrev pub inverse_procedure : Procedure → Procedure
inverse_procedure method =
    record { name = method.name; params = method.params; body = inverse_as false method.body }

abbrev pub inverse_class : ClassText → ClassText
inverse_class class = record {
  name = class.name;
  parent = class.parent;
  fields = class.fields;
  methods = map inverse_procedure class.methods;
}

-- the program whose methods undo those of a program
abbrev pub inverse_program : Source → Source
inverse_program program = record { classes = map inverse_class program.classes }
