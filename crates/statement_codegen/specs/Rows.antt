-- The statements of a block in the order of the text, each in its scope.
use Rattle.std.specs.Prelude.{ℕ, List, [], ◌∷◌, ◌++◌, length}
use Rattle.refine_objects.specs.rpp_tree.declared.tree.VarType.TheVariants as type
use Rattle.refine_objects.specs.rpp_tree.Tree.{Statement, Statements, Walk, walk, walk_block}
use Rattle.refine_form.specs.Form.{Scope, with_var}

-- a statement, its scope, and the number of statements in it
pub record Row : Type 0 where
  pub scope : Scope
  pub statement : Statement
  pub inside : ℕ

-- a statement before those in it
abbrev pub row_before : Scope → Statement → List Row → List Row
row_before s x inner = record { scope = s; statement = x; inside = length inner } ∷ inner

abbrev pub scope_rows : Walk (Scope → List Row)
scope_rows = record {
  plain = λ at parts s. [];
  forked = λ at before first second after s. first s ++ second s;
  construct = λ at class name body end s.
      body (with_var s (record { kind = type.Class class; name = name }));
  local = λ at var value body end_var end_value s. body (with_var s var);
  none = λ s. [];
  next = λ first said rest s. row_before s first (said s) ++ rest s;
}

-- the statements in a statement
abbrev pub inner_rows : Scope → Statement → List Row
inner_rows s x = walk scope_rows x s

-- the statements of a block, and those in them
abbrev pub block_rows : Scope → Statements → List Row
block_rows s body = walk_block scope_rows body s
