-- What contracts see of values and objects.
use Rattle.std.specs.Prelude.{ℕ, List, map, length, slice_set}
use Rattle.meaning_machine.specs.roopl_semantics.Store.{Value, Word, Nil, Name, Head, OfClass, OfInts, OfObjects}
use Rattle.meaning_machine.specs.roopl_semantics.Store.{Object}
use Rattle.source_store.specs.declared.value.Value.{Value as Held}
use Rattle.source_store.specs.declared.value.Value.TheVariants as held
use Rattle.source_store.specs.declared.object.Head.{Head as Kept}
use Rattle.source_store.specs.declared.object.Head.TheVariants as kept
use Rattle.source_store.specs.declared.object.Object.{Object as Live}

abbrev pub value_of : Held → Value
value_of (held.Word word) = Word word
value_of held.Nil = Nil
value_of (held.Name name) = Name name

abbrev pub values_of : List Held → List Value
values_of cells = map value_of cells

abbrev pub kept_head : Kept → Head
kept_head (kept.Class class) = OfClass class
kept_head (kept.Ints length) = OfInts length
kept_head (kept.Objects class length) = OfObjects class length

abbrev pub object_of : Live → Object
object_of live = record {
  head = kept_head live.head;
  count = live.count;
  cells = values_of live.cells.items;
}

-- an object with another value in one of its cells
abbrev pub with_part : ℕ → Value → Object → Object
with_part index value object = record object { cells = slice_set object.cells index value }

-- an object with another count
abbrev pub with_count : (ℕ → ℕ) → Object → Object
with_count change object = record object { count = change object.count }
