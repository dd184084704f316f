-- The blocks of which code is made, and the fragments of their statements.
use Rattle.std.specs.Prelude.{◌≡◌, ℕ, ◌+◌, ◌*◌, ◌<◌, ◌≤◌, List, length, All}
use Rattle.refine_objects.specs.rpp_tree.declared.tree.Ident.{Ident}
use Rattle.refine_objects.specs.rpp_tree.declared.limits.TheConstants.{MOST_BYTES}
use Rattle.refine_objects.specs.rpp_tree.Tree.{Statement, Statements, Source}
use Rattle.refine_objects.specs.rpp_tree.Views.{source_of}
use Rattle.refine_objects.specs.rpp_tree.Parts.{statement_places, block_places, statement_tokens, block_tokens}
use Rattle.refine_objects.specs.rpp_tree.Limits.{locals, AreSmall, AreInnerSmall}
use Rattle.branch_codegen.specs.class_rules.Statements.{verdict_passed, check_statements}
use Rattle.branch_codegen.specs.paired_code.declared.part.Symbol.{Symbol}
use Rattle.branch_codegen.specs.paired_code.Code.{Code}
use Rattle.branch_codegen.specs.meaning_sound.Plain.{StatementIsPlain, BlockHasWords, IsPlain}
use Rattle.refine_form.specs.Form.{Scope, StmtLaw}
use Rattle.refine_form.specs.Stands.{shape_of}
use Rattle.refine_form.specs.Worlds.{Place, world_of}
use Rattle.branch_codegen.specs.code_conventions.declared.memory.TheConstants.{MOST_VARIABLES}
use Rattle.branch_codegen.specs.code_scope.Visible.{Visible}
use Rattle.branch_codegen.specs.refine_calls.Laws.{IsLinked}
use Rattle.branch_codegen.specs.refine_expressions.Typing.{typing_in}
use Rattle.statement_codegen.specs.Codes.{scope_of, IsStatementCode, IsBlockCode, IsAllowed}
use Rattle.statement_codegen.specs.Rows.{inner_rows, block_rows}
use Rattle.statement_codegen.specs.Ranges.{MarksOf, IsCovered}

-- ---- what code is made for

-- a place in a source
abbrev pub IsSourceOffset : ℕ → Type 0
IsSourceOffset at = at < MOST_BYTES

-- A statement for which this is visible: it is allowed there, and the statements in it keep the
-- limits of expressions. No name in a call on an element is empty, and its offsets are ones that a
-- source can have.
pub record StatementStands (v : Visible) (statement : Statement) : Type 0 where
  pub allowed : IsAllowed v statement
  pub plain : StatementIsPlain statement
  pub inner_small : AreInnerSmall statement
  pub places : All IsSourceOffset (statement_places statement)

-- A block at that position: the rules of types accept it, its literals are words, and no name in a
-- call on an element is empty. It keeps the limits of expressions, its offsets are ones that a
-- source can have, and the frame has space for its locals.
pub record StandsIn (v : Visible) (body : Statements) : Type 0 where
  pub rules : check_statements (typing_in (source_of v.program) (scope_of v))
      (shape_of (source_of v.program) (scope_of v)) body
      ≡ verdict_passed
  pub has_words : BlockHasWords body
  pub plain : IsPlain body
  pub small : AreSmall body
  pub places : All IsSourceOffset (block_places body)
  pub room : length v.variables + locals body ≤ MOST_VARIABLES

-- ---- what is made

-- the code of a statement in a scope, wherever an image of the program is linked
pub record IsRowCode (program : Source) (s : Scope) (statement : Statement)
    (cells : List Symbol) : Type 0 where
  pub law : (place : Place) (routine : ℕ → Ident → ℕ) → IsLinked place routine
      → place.setting.program ≡ program
      → StmtLaw (world_of place) s statement cells

-- the marks of the fragment are those of the statements of a block: each has its code under its
-- mark
abbrev pub HaveMarks : Visible → Statements → Code → Type 0
HaveMarks v body p = MarksOf (IsRowCode (source_of v.program)) (block_rows (scope_of v) body) p

-- at most so many cells for each token
abbrev pub cells_a_token : ℕ
cells_a_token = 200

-- the fragment of a statement before it is marked: it has the marks of the statements in it
pub record InnerPiece (v : Visible) (statement : Statement) (p : Code) : Type 0 where
  pub law : IsStatementCode v statement p.cells
  pub marks : MarksOf (IsRowCode (source_of v.program)) (inner_rows (scope_of v) statement) p
  pub size : length p.cells ≤ cells_a_token * statement_tokens statement

-- the fragment of a block
pub record BlockPiece (v : Visible) (body : Statements) (p : Code) : Type 0 where
  pub law : IsBlockCode v body p.cells
  pub marks : HaveMarks v body p
  pub covered : IsCovered p
  pub size : length p.cells ≤ cells_a_token * block_tokens body
