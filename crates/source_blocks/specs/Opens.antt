-- What is open, as the machine sees it.
use Rattle.std.specs.Prelude.{◌≡◌, ◌<◌, ℕ, suc, List, [], ◌∷◌, ◌++◌, map, length, Option, Some}
use Rattle.std.specs.Prelude.{None}
use Rattle.source_steps.specs.rpp_tree.Tree.{Expression, Null}
use Rattle.source_steps.specs.rpp_tree.Views.{expression_of, block_of}
use Rattle.source_steps.specs.roopl_semantics.Store.{Value}
use Rattle.source_steps.specs.roopl_semantics.Value.{Cell}
use Rattle.source_steps.specs.roopl_semantics.Execution.{in_direction}
use Rattle.source_steps.specs.meaning_machine.Machine.{OpenPart, Chosen, First, Again, Holding, Calling, Open}
use Rattle.source_steps.specs.meaning_machine.Machine.{Caller as From}
use Rattle.source_steps.specs.source_store.ValueView.{value_of, values_of}
use Rattle.source_steps.specs.CellView.{cell_view}
use Rattle.source_steps.specs.Marks.{AreMarked}
use Rattle.source_steps.specs.StateView.{bindings}
use Rattle.source_blocks.specs.declared.frames.Closing.{Closing}
use Rattle.source_blocks.specs.declared.frames.Closing.TheVariants as closing
use Rattle.source_blocks.specs.declared.frames.Receiver.{Receiver}
use Rattle.source_blocks.specs.declared.frames.Caller.{Caller}
use Rattle.source_blocks.specs.declared.frames.Part.{Part as Runs}
use Rattle.source_blocks.specs.declared.frames.Part.TheVariants as runs
use Rattle.source_blocks.specs.declared.frames.Frame.{Frame}
use Rattle.source_blocks.specs.Blocks.{statement_at, rest_at, past_at, statement_count}
use Rattle.source_blocks.specs.Tasks.{task_of}

abbrev pub closing_of : Closing → Expression
closing_of (closing.Nil at) = Null at
closing_of (closing.Of e) = expression_of e.now

-- the cell of a receiver, if there is one
abbrev pub cells_in : Option Receiver → List Cell
cells_in None = []
cells_in (Some receiver) = cell_view receiver.cell ∷ []

-- what moved out of it
abbrev pub values_in : Option Receiver → List Value
values_in None = []
values_in (Some receiver) = value_of receiver.value ∷ []

-- the names of a caller's variables
abbrev pub caller_names : Caller → List (List ℕ)
caller_names caller = map (λ own. own.now) caller.locals.items
    ++ map (λ var. var.name.text) caller.params.now

abbrev pub caller_of : Caller → From
caller_of caller = record {
  frame = bindings (caller_names caller) (values_of caller.values.items);
  self = caller.object;
  depth = caller.depth;
  params = length caller.params.now;
}

abbrev pub part_of : Runs → OpenPart
part_of (runs.Chosen side test after) =
    Chosen side (expression_of test.now) (expression_of after.now)
part_of (runs.First l) =
    First (expression_of l.entry.now) (in_direction l.back (block_of l.first.now))
    (in_direction l.back (block_of l.again.now)) (expression_of l.exit.now)
part_of (runs.Again l) =
    Again (expression_of l.entry.now) (in_direction l.back (block_of l.first.now))
    (in_direction l.back (block_of l.again.now)) (expression_of l.exit.now)
part_of (runs.Holding local) =
    Holding local.name.now (closing_of local.value) (closing_of local.end_value)
part_of (runs.Calling caller) =
    Calling (caller_of caller) (cells_in caller.receiver) (map cell_view caller.args.items)
    (values_in caller.receiver)

abbrev pub open_of : Frame → Open
open_of frame = record {
  past = past_at frame.at (task_of frame.task);
  here = statement_at frame.at (task_of frame.task);
  rest = rest_at (suc frame.at) (task_of frame.task);
  part = part_of frame.part;
}

-- each variable of a caller has a value, and its name a mark
abbrev pub IsCaller : Runs → Type 0
IsCaller (runs.Calling caller) =
    (length caller.values.items ≡ length (caller_names caller))
    × AreMarked caller.marks (caller_names caller)
IsCaller _ = Unit {0}

-- so it is in each open statement, which is one of its block
pub record IsOpen (frame : Frame) : Type 0 where
  pub within : frame.at < statement_count (task_of frame.task)
  pub caller : IsCaller frame.part

-- the innermost open statement runs in this part
pub record HasPart (around : List Open) (part : OpenPart) : Type 0 where
  pub inmost : Open
  pub others : List Open
  pub is : around ≡ inmost ∷ others
  pub same : inmost.part ≡ part
