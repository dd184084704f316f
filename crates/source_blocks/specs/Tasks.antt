-- The blocks that run, and their statements.
use Rattle.std.specs.Prelude.{ℕ, Some}
use Rattle.source_steps.specs.rpp_tree.Tree.{Lvalue, Whole, Object as AnObject, Statement, Statements, New}
use Rattle.source_steps.specs.rpp_tree.Tree.{Delete}
use Rattle.source_steps.specs.rpp_tree.Tree.{Swap, Call, End, Then}
use Rattle.source_steps.specs.rpp_tree.Views.{lvalue_of, statement_of, block_of}
use Rattle.source_steps.specs.roopl_semantics.Execution.{in_direction, constructed, element_name}
use Rattle.source_steps.specs.Ends.{turned}
use Rattle.source_blocks.specs.declared.task.Calls.{Calls}
use Rattle.source_blocks.specs.declared.task.Task.{Task}
use Rattle.source_blocks.specs.declared.task.Task.TheVariants as task
use Rattle.source_blocks.specs.declared.task.Line.{Line}
use Rattle.source_blocks.specs.declared.task.Line.TheVariants as line

-- an element and the variable that holds it during a call on it are exchanged
abbrev pub exchange : ℕ → Lvalue → Statement
exchange at element = Swap at (Whole (element_name at)) element

-- the call on that variable
abbrev pub held_call : Calls → Statement
held_call calls =
    Call calls.at calls.back (Some (Whole (element_name calls.at))) calls.method.now calls.args.now

-- the statements of a block that runs
abbrev pub task_of : Task → Statements
task_of task.Nothing = End
task_of (task.Text block back) = in_direction back (block_of block.now)
task_of (task.Made made) =
    constructed made.at made.class.now made.name.now
    (in_direction made.back (block_of made.body.now))
task_of (task.Exchange element calls) =
    Then (exchange calls.at (lvalue_of element.now)) (Then (held_call calls)
    (Then (exchange calls.at (lvalue_of element.now)) End))

-- one of them
abbrev pub statement_line : Line → Statement
statement_line (line.Text stmt back) = turned back (statement_of stmt.now)
statement_line (line.Make made) = New made.at (AnObject made.class.now) (Whole made.name.now)
statement_line (line.Delete made) = Delete made.at (AnObject made.class.now) (Whole made.name.now)
statement_line (line.Exchange at element) = exchange at (lvalue_of element.now)
statement_line (line.Call calls) = held_call calls
