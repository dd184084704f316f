-- When two states differ only in object ids.
use Rattle.std.specs.Prelude.{◌≡◌, ◌≢◌, ℕ, map, Some}
use Rattle.meaning_reached.specs.buddy_book.Place.{place}
use Rattle.meaning_reached.specs.roopl_semantics.Store.{Object, Binding, State, main_name, object_named}
use Rattle.meaning_reached.specs.roopl_semantics.Agreement.{Agree, renamed}
use Rattle.meaning_reached.specs.roopl_semantics.Laws.{book_of, block_in}

-- a binding with other names
abbrev pub renamed_binding : (ℕ → ℕ) → Binding → Binding
renamed_binding names binding = record binding { value = renamed names binding.value }

-- one map of object ids carries store, frame and object of the one state onto those of the other.
-- The depth is the same, and so are, over a heap of order h, the free lists and each object's
-- block.
pub record AgreeStates (h : ℕ) (first second : State) : Type 0 where
  pub stores : Agree first.store second.store
  pub frame : second.frame ≡ map (renamed_binding stores.there) first.frame
  pub self : second.self ≡ stores.there first.self
  pub depth : second.depth ≡ first.depth
  pub book : book_of (place h second.log) ≡ book_of (place h first.log)
  pub blocks : (name : ℕ) (object : Object) → object_named first.store name ≡ Some object
      → name ≢ main_name
      → block_in (place h second.log) (stores.there name) ≡ block_in (place h first.log) name
