-- Places: what a statement changes or an expression reads, and the offset of a statement.
use Rattle.std.specs.Prelude.{ℕ}
use Rattle.rpp_tree.specs.declared.tree.Ident.{Ident}
use Rattle.rpp_tree.specs.Tree.{Lvalue, Whole, Item, Statement, walk}

-- the variable of a place
abbrev pub place_name : Lvalue → Ident
place_name (Whole name) = name
place_name (Item name index) = name

-- the place of a statement in its source
abbrev pub statement_place : Statement → ℕ
statement_place = walk (record {
  plain = λ at parts. at;
  forked = λ at before first second after. at;
  construct = λ at class name body end. at;
  local = λ at var value body end_var end_value. at;
  none = 0;
  next = λ first said rest. said;
})
