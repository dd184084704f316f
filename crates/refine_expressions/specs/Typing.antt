-- The names and the expressions of a statement: what code of expressions is made for.
use Rattle.std.specs.Prelude.{◌≡◌, ℕ, ◌+◌, ◌≤◌, List, Ok}
use Rattle.refine_calls.specs.rpp_tree.Tree.{Expression, Statement, Source}
use Rattle.refine_calls.specs.class_rules.declared.kind.Kind.{Kind}
use Rattle.refine_calls.specs.class_rules.Table.{table_of, fields_in}
use Rattle.refine_calls.specs.class_rules.Scope.{Typing}
use Rattle.refine_calls.specs.class_rules.Expressions.{type_of}
use Rattle.refine_calls.specs.class_rules.Statements.{verdict_passed, check_statement}
use Rattle.refine_calls.specs.class_rules.Program.{setting_in}
use Rattle.refine_calls.specs.meaning_sound.Plain.{HasWords, StatementHasWords}
use Rattle.expr_uncompute.specs.code_scope.Visible.{Known, spot_of, free_words_of}
use Rattle.expr_uncompute.specs.register_expressions.Code.{words}
use Rattle.refine_calls.specs.refine_form.declared.spot.Spot.{Spot}
use Rattle.refine_calls.specs.refine_form.Form.{Scope}
use Rattle.refine_calls.specs.refine_form.Stands.{shape_of}
use Rattle.refine_calls.specs.rpp_words.declared.input.TheConstants.{FRAME_WORDS}

-- the variables of a scope, and the fields of its class
abbrev pub known_of : Source → Scope → Known
known_of program s = record { variables = s.vars; fields = fields_in (table_of program) s.class }

-- the storage slots of its names, and the first word of the frame after its variables
abbrev pub visible_spot : Source → Scope → List ℕ → Spot
visible_spot program s = spot_of (known_of program s)

abbrev pub free_in_scope : Source → Scope → ℕ
free_in_scope program s = free_words_of (known_of program s)

-- so many words after its variables are in the frame
abbrev pub HasFrameSpace : Source → Scope → ℕ → Type 0
HasFrameSpace program s n = free_in_scope program s + n ≤ FRAME_WORDS

-- the program's rules of types, in the scope's class
abbrev pub typing_in : Source → Scope → Typing
typing_in program s = setting_in program (table_of program) s.class

-- an expression of a type, whose literals are words, and for whose subexpressions there is space
pub record IsTyped (program : Source) (s : Scope) (e : Expression) (k : Kind) : Type 0 where
  pub typed : type_of (typing_in program s) (shape_of program s) e ≡ Ok k
  pub has_words : HasWords e
  pub room : HasFrameSpace program s (words e)

-- a statement that the rules accept, whose literals are words, with space for so many words
pub record IsPassed (program : Source) (s : Scope) (statement : Statement) (n : ℕ) : Type 0 where
  pub rules : check_statement (typing_in program s) (shape_of program s) statement ≡ verdict_passed
  pub has_words : StatementHasWords statement
  pub room : HasFrameSpace program s n
