-- The end of a block.
use Rattle.std.specs.Prelude.{◌≡◌, ◌<◌, ℕ, Bool, List, [], ◌∷◌, length}
use Rattle.source_blocks.specs.rpp_tree.Tree.{Expression}
use Rattle.source_blocks.specs.roopl_semantics.Store.{State}
use Rattle.source_blocks.specs.meaning_machine.Machine.{Config, Open, Chosen}
use Rattle.source_blocks.specs.source_store.HeapView.{Kept}
use Rattle.source_blocks.specs.source_store.ValueView.{values_of}
use Rattle.source_blocks.specs.source_steps.Marks.{AreMarked}
use Rattle.source_blocks.specs.source_steps.StateView.{bindings}
use Rattle.source_blocks.specs.source_steps.declared.expressions.Setting.{Setting as Here}
use Rattle.source_blocks.specs.declared.frames.Caller.{Caller}
use Rattle.source_blocks.specs.Opens.{caller_names, HasPart}

-- the innermost open statement is a choice that took this side, and is left by this test
pub record IsInSide (x : Config) (side : Bool) (after : Expression) : Type 0 where
  pub test : Expression
  pub part : HasPart x.around (Chosen side test after)

-- the state of a caller
abbrev pub caller_state : Here → Caller → Kept → State
caller_state here caller heap = record {
  frame = bindings (caller_names caller) (values_of caller.values.items);
  self = here.object;
  depth = here.depth;
  store = heap.store;
  log = heap.log;
}

-- each variable of a caller has a value, and its name a mark, and the heap is of the order that the
-- limits say
pub record HasCallSpace (here : Here) (caller : Caller) (heap : Kept) : Type 0 where
  pub each : length caller.values.items ≡ length (caller_names caller)
  pub order : heap.order ≡ here.limits.heap
  pub marked : AreMarked caller.marks (caller_names caller)

-- a measure falls if a statement is open
abbrev pub Falls : List Open → ℕ → ℕ → Type 0
Falls [] after first = Unit {0}
Falls (o ∷ around) after first = after < first
