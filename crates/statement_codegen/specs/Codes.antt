-- What the code of statements, blocks and methods does wherever an image of its program is linked.
use Rattle.std.specs.Prelude.{◌≡◌, ℕ, ◌+◌, ◌≤◌, List, ◌∷◌, length}
use Rattle.refine_objects.specs.rpp_tree.declared.tree.Ident.{Ident}
use Rattle.refine_objects.specs.rpp_tree.declared.tree.Var.{Var}
use Rattle.refine_objects.specs.rpp_tree.declared.limits.TheConstants.{MOST_NODES}
use Rattle.refine_objects.specs.rpp_tree.Limits.{statement_locals}
use Rattle.refine_objects.specs.rpp_tree.Tree.{Statement, Statements, Procedure, statement_nodes}
use Rattle.refine_objects.specs.rpp_tree.Views.{source_of}
use Rattle.branch_codegen.specs.class_rules.Statements.{verdict_passed, check_statement}
use Rattle.branch_codegen.specs.meaning_sound.Plain.{StatementHasWords}
use Rattle.branch_codegen.specs.paired_code.declared.part.Symbol.{Symbol}
use Rattle.branch_codegen.specs.code_conventions.declared.memory.TheConstants.{MOST_VARIABLES}
use Rattle.branch_codegen.specs.code_scope.Visible.{Visible}
use Rattle.refine_form.specs.Form.{Scope, StmtLaw, BlockLaw, MethodLaw}
use Rattle.refine_form.specs.Stands.{shape_of}
use Rattle.refine_form.specs.Worlds.{Place, world_of}
use Rattle.branch_codegen.specs.refine_calls.Laws.{IsLinked}
use Rattle.branch_codegen.specs.refine_expressions.Typing.{typing_in}

-- the scope of the laws, of what is visible
abbrev pub scope_of : Visible → Scope
scope_of v = record { class = v.method.class; vars = v.variables }

-- with one more variable, the innermost
abbrev pub with_variable : Visible → Var → Visible
with_variable v var = record v { variables = var ∷ v.variables }

-- the code of a statement if this is visible
pub record IsStatementCode (v : Visible) (statement : Statement) (cells : List Symbol) : Type 0
  where
    pub law : (place : Place) (routine : ℕ → Ident → ℕ) → IsLinked place routine
        → place.setting.program ≡ source_of v.program
        → StmtLaw (world_of place) (scope_of v) statement cells

-- the code of a block
pub record IsBlockCode (v : Visible) (body : Statements) (cells : List Symbol) : Type 0 where
  pub law : (place : Place) (routine : ℕ → Ident → ℕ) → IsLinked place routine
      → place.setting.program ≡ source_of v.program
      → BlockLaw (world_of place) (scope_of v) body cells

-- the code of a method (the body of its routine)
pub record IsMethodCode (v : Visible) (method : Procedure) (cells : List Symbol) : Type 0 where
  pub law : (place : Place) (routine : ℕ → Ident → ℕ) → IsLinked place routine
      → place.setting.program ≡ source_of v.program
      → MethodLaw (world_of place) (scope_of v) method cells

-- the rules of types pass a statement if this is visible
abbrev pub Passes : Visible → Statement → Type 0
Passes v statement =
    check_statement (typing_in (source_of v.program) (scope_of v))
    (shape_of (source_of v.program) (scope_of v)) statement ≡ verdict_passed

-- a statement that the rules accept, whose literals are words, with few enough nodes, and locals in
-- addition to what is visible
pub record IsAllowed (v : Visible) (statement : Statement) : Type 0 where
  pub rules : Passes v statement
  pub has_words : StatementHasWords statement
  pub few_nodes : statement_nodes statement ≤ MOST_NODES
  pub few_locals : length v.variables + statement_locals statement ≤ MOST_VARIABLES
