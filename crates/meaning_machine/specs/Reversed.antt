-- The reversed machine, in which `new` and `delete` undo requests to the heap.
use Rattle.std.specs.Prelude.{ℕ, List, [], ◌∷◌, nat_lt, replicate, if◌then◌else◌}
use Rattle.std.specs.Option.{unwrap_or}
use Rattle.meaning_points.specs.rpp_tree.Tree.{Statement, Statements, New, Delete, End, Then, Ints, Objects}
use Rattle.meaning_points.specs.rpp_tree.Tree.{Object as AnObject, Creation, Lvalue}
use Rattle.meaning_points.specs.class_rules.Classes.{class_number, class_fields}
use Rattle.meaning_points.specs.buddy_book.Place.{Log, Taken, Given}
use Rattle.meaning_points.specs.roopl_semantics.Run.{Run, More, ◌>>=◌, give, spend}
use Rattle.meaning_points.specs.roopl_semantics.Store.{Value, Word, Nil, Name, Head, OfClass, OfInts, OfObjects}
use Rattle.meaning_points.specs.roopl_semantics.Store.{Object, Store, State, number_of, zero_values, without}
use Rattle.meaning_points.specs.roopl_semantics.Value.{Cell, evaluated, found, written}
use Rattle.meaning_points.specs.roopl_semantics.Execution.{Setting, new_object}
use Rattle.meaning_machine.specs.Machine.{Config, begun, closing, past_it}

-- the object of the newest request goes, and the request with it
abbrev pub untaken : Log → Cell → State → Run State
untaken (Taken name order ∷ older) cell st =
    let cleared = written st cell Nil in
    give (record cleared { store = without cleared.store name; log = older })
untaken (Given name order ∷ older) cell st = More
untaken [] cell st = More

-- the store with an object under its object id again, after those that are newer
abbrev pub put_back : Store → ℕ → Object → Store
put_back [] name object = (name, object) ∷ []
put_back ((n, other) ∷ store) name object =
    if nat_lt n name then (name, object) ∷ ((n, other) ∷ store)
    else (n, other) ∷ put_back store name object

-- what the newest request gave away is there again, with one variable, and the request is gone
abbrev pub ungiven : Log → Cell → Head → List Value → State → Run State
ungiven (Given name order ∷ older) cell head cells st =
    give (written (record st {
      store = put_back st.store name (new_object head cells);
      log = older;
    }) cell (Name name))
ungiven (Taken name order ∷ older) cell head cells st = More
ungiven [] cell head cells st = More

module _ (setting : Setting) where
  -- a `delete` undone
  abbrev pub undeleted : Creation → Lvalue → State → Run State
  undeleted (AnObject class) target st = do
    cell ← found setting.program target st
    let number = unwrap_or (class_number setting.program class.text) 0
    ungiven st.log cell (OfClass number) (zero_values (class_fields setting.program number)) st
  undeleted (Ints size) target st = do
    cell ← found setting.program target st
    v ← evaluated setting.program size st
    ungiven st.log cell (OfInts (number_of v)) (replicate (number_of v) (Word 0)) st
  undeleted (Objects class size) target st = do
    cell ← found setting.program target st
    v ← evaluated setting.program size st
    ungiven st.log cell
        (OfObjects (unwrap_or (class_number setting.program class.text) 0) (number_of v))
        (replicate (number_of v) Nil) st

  -- a `new` undone
  abbrev pub unmade : Lvalue → State → Run State
  unmade target st = do
    cell ← found setting.program target st
    untaken st.log cell st

  -- a statement of the reversed machine begins
  abbrev pub begun_back : Config → Statement → Statements → Run Config
  begun_back x (New at made target) rest = do
    st ← undeleted made target x.state
    give (past_it x (New at made target) rest st)
  begun_back x (Delete at made target) rest = do
    st ← unmade target x.state
    give (past_it x (Delete at made target) rest st)
  begun_back x s rest = begun setting x s rest

  -- a step of the reversed machine, by what is left of the block
  abbrev pub stepped_back : Config → Statements → Run Config
  stepped_back x End = closing setting x x.around
  stepped_back x (Then s rest) = do
    _ ← spend 1
    begun_back x s rest

  abbrev pub back : Config → Run Config
  back x = stepped_back x x.rest
