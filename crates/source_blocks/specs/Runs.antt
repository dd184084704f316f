-- The position of a run, as the machine sees it.
use Rattle.std.specs.Prelude.{◌≡◌, ◌≤◌, ℕ, suc, List, [], ◌∷◌, ◌++◌, map, reverse, length, All}
use Rattle.std.specs.Prelude.{Option}
use Rattle.std.specs.Prelude.{Some, None}
use Rattle.source_steps.specs.rpp_tree.Tree.{Statement, Statements, Update, Swap, New, Delete, Copy, Uncopy}
use Rattle.source_steps.specs.rpp_tree.Tree.{Skip}
use Rattle.source_steps.specs.roopl_semantics.Store.{State}
use Rattle.source_steps.specs.meaning_machine.Machine.{Config, Open, left}
use Rattle.source_steps.specs.source_store.ValueView.{values_of}
use Rattle.source_steps.specs.StateView.{bindings}
use Rattle.source_steps.specs.roopl_semantics.Value.{Cell}
use Rattle.source_steps.specs.declared.cell.Cell.{Cell as Place}
use Rattle.source_steps.specs.CellView.{cell_view}
use Rattle.source_steps.specs.Marks.{AreMarked}
use Rattle.source_blocks.specs.declared.run.Run.{Run}
use Rattle.source_blocks.specs.Blocks.{statement_at, rest_at, past_at, statement_count}
use Rattle.source_blocks.specs.Tasks.{task_of}
use Rattle.source_blocks.specs.Opens.{open_of, IsOpen}

-- the names of the variables, the innermost first
abbrev pub names_in : Run → List (List ℕ)
names_in run = map (λ own. own.now) run.locals.items
    ++ map (λ var. var.name.text) run.params.now

abbrev pub state_in : Run → State
state_in run = record {
  frame = bindings (names_in run) (values_of run.values.items);
  self = run.setting.object;
  depth = run.setting.depth;
  store = run.heap.store;
  log = run.heap.log;
}

-- the statement that begins, and those after it
abbrev pub here_in : Run → Statement
here_in run = statement_at run.at (task_of run.task)

abbrev pub rest_in : Run → Statements
rest_in run = rest_at (suc run.at) (task_of run.task)

abbrev pub config_of : Run → Config
config_of run = record {
  past = past_at run.at (task_of run.task);
  rest = rest_at run.at (task_of run.task);
  params = length run.params.now;
  state = state_in run;
  around = map open_of (reverse run.frames.items);
}

-- each variable has a value, and its name a mark, in each open method, the heap is of the order that
-- the limits say, and no more statements are past than the block has
pub record IsSound (run : Run) : Type 0 where
  pub each : length run.values.items ≡ length (names_in run)
  pub order : run.heap.order ≡ run.setting.limits.heap
  pub marked : AreMarked run.marks (names_in run)
  pub opens : All IsOpen run.frames.items
  pub within : run.at ≤ statement_count (task_of run.task)

-- a run is where it was
pub record RunStays (old new : Run) : Type 0 where
  pub place : config_of new ≡ config_of old
  pub sound : IsSound new

-- the cell of a receiver, if there is one
abbrev pub only_cell : Option Place → List Cell
only_cell None = []
only_cell (Some cell) = cell_view cell ∷ []

-- a statement that holds no block, and is no call
abbrev pub IsSimple : Statement → Type 0
IsSimple (Update at op target value) = Unit {0}
IsSimple (Swap at l r) = Unit {0}
IsSimple (New at made target) = Unit {0}
IsSimple (Delete at made target) = Unit {0}
IsSimple (Copy at kind source target) = Unit {0}
IsSimple (Uncopy at kind source target) = Unit {0}
IsSimple (Skip at) = Unit {0}
IsSimple _ = ⊥

-- after the innermost enclosing statement, if there is one
abbrev pub leaving : Config → List Open → Config
leaving x [] = x
leaving x (o ∷ around) = left o around x.params x.state
