-- Objects as readers outside see them: by numbers.
use Rattle.std.specs.Prelude.{◌≡◌, ℕ, List, map, Option, None, slice_get}
use Rattle.std.specs.Option.{unwrap_or, option_map}
use Rattle.source_execution.specs.roopl_semantics.Store.{Head, Object, number_of, object_named}
use Rattle.source_execution.specs.source_store.ValueView.{kept_head}
use Rattle.source_execution.specs.source_store.HeapView.{Kept}
use Rattle.source_meaning.specs.declared.store.Object.{Object as Seen}

-- an object or array with the number in each field or element
pub record Numbers : Type 0 where
  pub head : Head
  pub count : ℕ
  pub cells : List ℕ

abbrev pub numbers_of : Object → Numbers
numbers_of object = record {
  head = object.head;
  count = object.count;
  cells = map number_of object.cells;
}

abbrev pub seen_object : Seen → Numbers
seen_object object = record {
  head = kept_head object.head;
  count = object.count;
  cells = object.cells.items;
}

-- what is kept for readers of a heap: each object or array at the place of its name
pub record AreNumbers (heap : Kept) (objects : List (Option Seen)) : Type 0 where
  pub each : (name : ℕ) → option_map seen_object (unwrap_or (slice_get objects name) None)
      ≡ option_map numbers_of (object_named heap.store name)
