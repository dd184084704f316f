-- `new` and `delete` undone: the reversed machine leads to exactly the same state, object ids
-- included.
use Rattle.std.proofs.Common.{◌≡◌, ℕ, ◌+◌, refl, sym, ap, subst, ◌∙◌, arith, true, false, Bool, not, List, [], ◌∷◌}
use Rattle.std.proofs.Common.{length, replicate, Some, option_map, unwrap_or, Ok, nat_eq, eqb-true, eq-eqb, le-ltb}
use Rattle.std.proofs.Common.{if◌then◌else◌}
use Rattle.std.proofs.lemmas.Bool.{lt-ltb, eqb-false}
use Rattle.meaning_machine.specs.rpp_words.Words.{is_less}
use Rattle.meaning_machine.specs.rpp_tree.declared.tree.Ident.{Ident}
use Rattle.meaning_machine.specs.rpp_tree.Tree.{Expression, Lvalue, Creation, Object as AnObject, Ints, Objects, New}
use Rattle.meaning_machine.specs.rpp_tree.Tree.{Delete, End, Then, Source, nodes, index_nodes}
use Rattle.meaning_machine.specs.class_rules.Classes.{class_number}
use Rattle.meaning_machine.specs.buddy_book.Place.{Log, count_taken}
use Rattle.meaning_machine.specs.roopl_semantics.Run.{Run, Done, ◌>>=◌, spend, fault_if}
use Rattle.meaning_machine.specs.roopl_semantics.Store.{Value, Word, Nil, Name, Head, OfClass, OfInts, OfObjects}
use Rattle.meaning_machine.specs.roopl_semantics.Store.{Object, Store, State, is_nil, number_of, object_named}
use Rattle.meaning_machine.specs.roopl_semantics.Store.{object_at, no_object, changed_at, without}
use Rattle.meaning_machine.specs.roopl_semantics.Value.{Cell, Part, with_value, read, written, value as value_in}
use Rattle.meaning_machine.specs.roopl_semantics.Value.{cell_of, evaluated, found, NIL}
use Rattle.meaning_machine.specs.roopl_semantics.Elements.{index_elements, own_element, share_array, kept_apart}
use Rattle.meaning_machine.specs.roopl_semantics.Execution.{Setting, Runner, statement, allocated, freed, new_array}
use Rattle.meaning_machine.specs.roopl_semantics.Execution.{delete_array, new_object, order_of_cells, is_of_class}
use Rattle.meaning_machine.specs.roopl_semantics.Execution.{all_zero, NOT_NIL, LENGTH, LENGTH_DIFFERS, COUNT, NOT_EMPTY}
use Rattle.meaning_machine.specs.roopl_semantics.Execution.{CLASS_DIFFERS}
use Rattle.meaning_inverse.specs.meaning_sound.Sound.{Descending}
use Rattle.meaning_inverse.proofs.meaning_sound_laws.Stores.{below_bound, live_named, descends_changed}
use Rattle.meaning_inverse.proofs.Runs.{given_done, done_given, done_then, apart_done, passed_check}
use Rattle.meaning_inverse.proofs.Cells.{IsCell, IsSlot, IsPart, with_with, with_same, named_changed, written_twice}
use Rattle.meaning_inverse.proofs.Cells.{written_same, apart_sym}
use Rattle.meaning_inverse.proofs.Later.{IsSound, Ends, ends_then, ends_on, ends_done}
use Rattle.meaning_inverse.proofs.Ground.{Ground, NewArrayFacts, DeleteArrayFacts, number_named, new_cells}
use Rattle.meaning_inverse.proofs.Calls.{live_read}
use Rattle.meaning_inverse.proofs.Copies.{is_nil_value}
use Rattle.meaning_inverse.proofs.Drawn.{IsApart, written_log}
use Rattle.meaning_inverse.proofs.Places.{dropped, added, made, not_drawn}
use Rattle.meaning_inverse.proofs.Heap.{aside, not_false, of_class_is}
use Rattle.meaning_machine.specs.Reversed.{untaken, put_back, ungiven, undeleted, unmade}
use Rattle.std.proofs.lemmas.Option.{same_Some}
use Rattle.meaning_machine.proofs.roopl_semantics_laws.Changed.{with_cell}

-- ---- stores

-- an object whose object id is above all others comes first
put_front : (store : Store) (name : ℕ) (object : Object) → Descending name store
    → put_back store name object ≡ (name, object) ∷ store
put_front [] name object d = refl
put_front ((n, other) ∷ store) name object d =
    ap (λ t. if t then (name, object) ∷ ((n, other) ∷ store) else (n, other) ∷ put_back store name object)
    (lt-ltb n name d.0)

-- an object that was dropped is put back where it was
pub put_where_it_was : (bound : ℕ) (store : Store) (name : ℕ) (object : Object) → Descending bound store
    → object_named store name ≡ Some object → put_back (without store name) name object ≡ store
put_where_it_was bound [] name object d e = cc
put_where_it_was bound ((n, other) ∷ store) name object d e =
    by (put_where_it_was n store name object d.1) (nat_eq n name) refl e
  where
    by : (object_named store name ≡ Some object → put_back (without store name) name object ≡ store) → (t : Bool)
        → nat_eq n name ≡ t → (if t then Some other else object_named store name) ≡ Some object
        → put_back (if t then store else (n, other) ∷ without store name) name object ≡ (n, other) ∷ store
    by again true f h =
        let same = eqb-true n name f in
        let P : ℕ → Type 0 = λ k. Descending k store in
        put_front store name object (subst P same d.1) ∙ ap (λ k. (k, object) ∷ store) (sym same)
        ∙ ap (λ o. (n, o) ∷ store) (sym (same_Some other object h))
    by again false f h =
        let below = below_bound n store name d.1 (live_named store name object h) in
        ap (λ t. if t then (name, object) ∷ ((n, other) ∷ without store name) else (n, other)
        ∷ put_back (without store name) name object) (le-ltb n name (omega arith))
        ∙ ap (λ l. (n, other) ∷ l) (again h)

-- one object changes and another is dropped, in either order
changed_without : (store : Store) (n k : ℕ) (f : Object → Object) → nat_eq n k ≡ false
    → changed_at (without store n) k f ≡ without (changed_at store k f) n
changed_without [] n k f e = refl
changed_without ((m, o) ∷ store) n k f e = by (changed_without store n k f e) (nat_eq m n) refl (nat_eq m k) refl
  where
    by : changed_at (without store n) k f ≡ without (changed_at store k f) n → (s : Bool) → nat_eq m n ≡ s → (t : Bool)
        → nat_eq m k ≡ t → changed_at (if s then store else (m, o) ∷ without store n) k f
        ≡ without (if t then (m, f o) ∷ store else (m, o) ∷ changed_at store k f) n
    by again true p true q = absurd (eqb-false n k e (sym (eqb-true m n p) ∙ eqb-true m k q))
    by again true p false q = rw p refl
    by again false p true q = rw (p, q) refl
    by again false p false q = rw (p, q) (ap (λ l. (m, o) ∷ l) again)

-- ---- what was made is undone

-- the object of a name goes, and so do the requests but these
abbrev rid : State → ℕ → Log → State
rid st name older = record st { store = without st.store name; log = older }

rid_of_made : (st : State) (cell : Cell) (size : ℕ) (head : Head) (cells : List Value) → IsSound st → IsCell st cell
    → read st cell ≡ Nil
    → rid (written (added st size head cells) cell Nil) (2 + count_taken st.log) st.log ≡ st
rid_of_made st cell size head cells s (IsSlot i h) nil =
    let name = 2 + count_taken st.log in
    ap (λ t. record st {
      frame = with_value st.frame i Nil;
      store = if t then st.store else (name, new_object head cells) ∷ without st.store name;
    }) (eq-eqb name name refl)
    ∙ ap (λ f. record st { frame = f }) (ap (with_value st.frame i) (sym nil) ∙ with_same st.frame i)
rid_of_made st cell size head cells s (IsPart k i object e h) nil =
    let name = 2 + count_taken st.log in
    let g = with_cell i Nil in
    ap (λ t. record st {
      store = without (if t then (name, g (new_object head cells)) ∷ st.store else (name, new_object head cells)
          ∷ changed_at st.store k g) name;
    }) (not_drawn st s k object e)
    ∙ ap (λ t. record st {
      store = if t then changed_at st.store k g else (name, new_object head cells)
          ∷ without (changed_at st.store k g) name;
    }) (eq-eqb name name refl)
    ∙ ap (written st (Part k i)) (sym nil) ∙ written_same st (Part k i)

untaken_made : (st : State) (cell : Cell) (size : ℕ) (head : Head) (cells : List Value) → IsSound st → IsCell st cell
    → read st cell ≡ Nil
    → untaken (made st cell size head cells).log cell (made st cell size head cells) ≡ Done st 0
untaken_made st cell size head cells s there nil =
    let name = 2 + count_taken st.log in
    let more = added st size head cells in
    ap (λ l. untaken l cell (written more cell (Name name))) (written_log more cell (Name name))
    ∙ ap (λ x. Done (rid x name st.log) 0) (written_twice more cell (Name name) Nil)
    ∙ ap (λ x. Done x 0) (rid_of_made st cell size head cells s there nil)

-- ---- what was deleted is there again

abbrev restored : State → Cell → ℕ → Object → Log → State
restored st cell name object older =
    written (record st { store = put_back st.store name object; log = older }) cell (Name name)

restored_gone : (st : State) (cell : Cell) (name order : ℕ) (object : Object) (bound : ℕ) → Descending bound st.store
    → object_named st.store name ≡ Some object → IsCell st cell → IsApart name cell → read st cell ≡ Name name
    → restored (written (dropped st name order) cell Nil) cell name object st.log ≡ st
restored_gone st cell name order object bound d named (IsSlot i h) apart holds =
    ap (λ f. record st { frame = f; store = put_back (without st.store name) name object })
    (with_with st.frame i Nil (Name name) ∙ ap (with_value st.frame i) (sym holds) ∙ with_same st.frame i)
    ∙ ap (λ s. record st { store = s }) (put_where_it_was bound st.store name object d named)
restored_gone st cell name order object bound d named (IsPart k i other e h) apart holds =
    let g = with_cell i Nil in
    let there : object_named (changed_at st.store k g) name ≡ Some object =
    named_changed st.store k g name
    ∙ ap (λ t. if t then option_map g (object_named st.store name) else object_named st.store name)
    (apart_sym name k apart) ∙ named in
    ap (λ s. record st { store = changed_at (put_back s name object) k (with_cell i (Name name)) })
    (changed_without st.store name k g apart)
    ∙ ap (λ s. record st { store = changed_at s k (with_cell i (Name name)) })
    (put_where_it_was bound (changed_at st.store k g) name object (descends_changed bound st.store k g d) there)
    ∙ written_twice st (Part k i) Nil (Name name) ∙ ap (written st (Part k i)) (sym holds)
    ∙ written_same st (Part k i)

ungiven_gone : (st : State) (cell : Cell) (name order : ℕ) (object : Object) (head : Head) (cells : List Value)
    (bound : ℕ) → Descending bound st.store → object_named st.store name ≡ Some object
    → object ≡ new_object head cells → IsCell st cell → IsApart name cell → read st cell ≡ Name name
    → ungiven (written (dropped st name order) cell Nil).log cell head cells (written (dropped st name order) cell Nil)
    ≡ Done st 0
ungiven_gone st cell name order object head cells bound d named is there apart holds =
    let b = written (dropped st name order) cell Nil in
    ap (λ l. ungiven l cell head cells b) (written_log (dropped st name order) cell Nil)
    ∙ ap (λ o. Done (restored b cell name o st.log) 0) (sym is)
    ∙ ap (λ x. Done x 0) (restored_gone st cell name order object bound d named there apart holds)

-- ---- what the parts of a statement found

finds : (program : Source) (target : Lvalue) (st : State)
    → Ends (found program target st) (λ cell. cell_of program st target ≡ Ok cell)
finds program target st = record {
  by = λ cell cost e. (given_done (index_nodes target) (cell_of program st target) cell cost e).0;
}

evaluates : (program : Source) (size : Expression) (st : State)
    → Ends (evaluated program size st) (λ v. value_in program st size ≡ Ok v)
evaluates program size st = record {
  by = λ v cost e. (given_done (nodes size) (value_in program st size) v cost e).0;
}

passes_apart : (program : Source) (target : Lvalue) (st : State)
    → Ends (kept_apart program (own_element target) (index_elements target) st)
    (λ u. share_array program st (own_element target) (index_elements target) ≡ false)
passes_apart program target st = record {
  by = λ u cost e. (apart_done program (own_element target) (index_elements target) st u cost e).0;
}

passes : (code : ℕ) (test : Bool) → Ends (fault_if code test) (λ u. test ≡ false)
passes code test = record { by = λ u cost e. (passed_check code test u cost e).0 }

-- an object of one variable whose head and cells are these
is_new : (object : Object) (head : Head) (cells : List Value) → object.head ≡ head → object.count ≡ 1
    → object.cells ≡ cells → object ≡ new_object head cells
is_new object head cells h c k = ap (λ x. record object { head = x }) h
    ∙ ap (λ x. record object { head = head; count = x }) c ∙ ap (new_object head) k

-- the cost of taking a `delete` back
abbrev pub creation_nodes : Creation → ℕ
creation_nodes (AnObject class) = 0
creation_nodes (Ints size) = nodes size
creation_nodes (Objects class size) = nodes size

module _ (setting : Setting) where
  -- the turned statement leads back
  abbrev TakesBack : Lvalue → State → State → Type 0
  TakesBack target a b = unmade setting target b ≡ Done a (index_nodes target)

  allocation_back : (target : Lvalue) (size : ℕ) (cell : Cell) (head : Head) (cells : List Value) (a : State)
      → IsSound a → IsCell a cell → read a cell ≡ Nil
      → cell_of setting.program (made a cell size head cells) target ≡ Ok cell
      → Ends (allocated setting size cell head cells a) (TakesBack target a)
  allocation_back target size cell head cells a sound there nil stays =
      let b = made a cell size head cells in
      ends_then _ _ _ (λ u. ends_done b 0 _
      (done_then (found setting.program target b) (λ x. untaken b.log x b) cell a (index_nodes target) 0
      (index_nodes target) (done_given (index_nodes target) (cell_of setting.program b target) cell stays)
      (untaken_made a cell size head cells sound there nil) (omega arith)))

  new_array_back : (target : Lvalue) (size : Expression) (head : ℕ → Head) (element : Value) (a : State) → IsSound a
      → ((cell : Cell) (v : Value) → cell_of setting.program a target ≡ Ok cell → value_in setting.program a size ≡ Ok v
      → read a cell ≡ Nil → NewArrayFacts setting.program a target size head element cell v)
      → Ends (new_array setting target size head element a) (TakesBack target a)
  new_array_back target size head element a sound known =
      ends_on (found setting.program target a) _ _ _ (finds setting.program target a) (λ cell place.
      ends_on (evaluated setting.program size a) _ _ _ (evaluates setting.program size a) (λ v value.
      ends_on (fault_if NOT_NIL (not (is_nil (read a cell)))) _ _ _
      (passes NOT_NIL (not (is_nil (read a cell)))) (λ u some.
      ends_then (fault_if LENGTH (is_less (number_of v) 1)) _ _ (λ w.
      ends_then (spend (setting.limits.heap + 1)) _ _ (λ x.
      ends_on (allocated setting (number_of v) cell (head (number_of v)) (replicate (number_of v) element) a) _
      (TakesBack target a) _ (by cell v place value some) (λ end back.
      ends_then (spend (number_of v)) _ _ (λ y. ends_done end 0 _ back)))))))
    where
      by : (cell : Cell) (v : Value) → cell_of setting.program a target ≡ Ok cell → value_in setting.program a size ≡ Ok v
          → not (is_nil (read a cell)) ≡ false
          → Ends (allocated setting (number_of v) cell (head (number_of v)) (replicate (number_of v) element) a)
          (TakesBack target a)
      by cell v place value some =
          let nil = is_nil_value (read a cell) (not_false (is_nil (read a cell)) some) in
          let facts = known cell v place value nil in
          let many : number_of v ≡ facts.count = ap number_of facts.is_count in
          let P : ℕ → Type 0 = λ n. cell_of setting.program
          (made a cell n (head n) (replicate n element)) target ≡ Ok cell in
          allocation_back target (number_of v) cell (head (number_of v)) (replicate (number_of v) element) a sound
          facts.there nil (subst P (sym many) facts.stays)

module _ (setting : Setting) (G : Ground setting) (C : G.Context) (a : State) (good : G.Good C a) where
  new_object_back : (n : ℕ) (run : Runner) (at : ℕ) (class : Ident) (target : Lvalue)
      → G.Typed C (Then (New at (AnObject class) target) End)
      → Ends (statement setting n run (New at (AnObject class) target) a) (TakesBack setting target a)
  new_object_back n run at class target typed =
      ends_on (found setting.program target a) _ _ _ (finds setting.program target a) (λ cell place.
      ends_on (kept_apart setting.program (own_element target) (index_elements target) a) _ _ _
      (passes_apart setting.program target a) (λ t unshared.
      ends_on (fault_if NOT_NIL (not (is_nil (read a cell)))) _ _ _
      (passes NOT_NIL (not (is_nil (read a cell)))) (λ u some.
      ends_then (spend (setting.limits.heap + 1)) _ _ (λ w.
      (let nil = is_nil_value (read a cell) (not_false (is_nil (read a cell)) some) in
      let facts = G.new_object C at class target a cell typed good place unshared nil in
      allocation_back setting target (length (new_cells setting.program class)) cell
      (OfClass (number_named setting.program class)) (new_cells setting.program class) a (G.sound C a good) facts.there
      nil facts.stays)))))

  any_new_back : (n : ℕ) (run : Runner) (at : ℕ) (creation : Creation) (target : Lvalue)
      → G.Typed C (Then (New at creation target) End)
      → Ends (statement setting n run (New at creation target) a) (TakesBack setting target a)
  any_new_back n run at (AnObject class) target typed = new_object_back n run at class target typed
  any_new_back n run at (Ints size) target typed = new_array_back setting target size OfInts (Word 0) a (G.sound C a good)
      (λ cell v p q r. G.new_ints C at size target a cell v typed good p q r)
  any_new_back n run at (Objects class size) target typed = new_array_back setting target size
      (OfObjects (number_named setting.program class)) Nil a (G.sound C a good)
      (λ cell v p q r. G.new_objects C at class size target a cell v typed good p q r)

  -- a `new` is undone
  pub new_taken_back : (n : ℕ) (run : Runner) (at : ℕ) (creation : Creation) (target : Lvalue) (b : State) (c : ℕ)
      → G.Typed C (Then (New at creation target) End)
      → statement setting n run (New at creation target) a ≡ Done b c
      → unmade setting target b ≡ Done a (index_nodes target)
  new_taken_back n run at creation target b c typed e = (any_new_back n run at creation target typed).by b c e

  module _ (bound : ℕ) (descends : Descending bound a.store) where
    -- the turned statement leads back from a good state
    abbrev PutsBack : Creation → Lvalue → State → Type 0
    PutsBack creation target b = G.Good C b
        → undeleted setting creation target b ≡ Done a (index_nodes target + creation_nodes creation)

    -- the object of a name that is freed
    freed_back : (cell : Cell) (name : ℕ) (object : Object) (head : Head) (cells : List Value) → IsCell a cell
        → object_named a.store name ≡ Some object → object ≡ new_object head cells → all_zero object.cells ≡ true
        → read a cell ≡ Name name
        → ungiven (freed setting cell name a).log cell head cells (freed setting cell name a) ≡ Done a 0
    freed_back cell name object head cells there named is zeros holds =
        ungiven_gone a cell name (order_of_cells (length (object_at a.store name).cells)) object head cells bound descends
        named is there (aside a cell name object named zeros holds) holds

    object_back : (at : ℕ) (class : Ident) (target : Lvalue) (cell : Cell)
        → G.Typed C (Then (Delete at (AnObject class) target) End)
        → cell_of setting.program a target ≡ Ok cell
        → share_array setting.program a (own_element target) (index_elements target) ≡ false
        → is_nil (read a cell) ≡ false
        → not (is_of_class (object_at a.store (number_of (read a cell))).head
        (class_number setting.program class.text)) ≡ false
        → not (nat_eq (object_at a.store (number_of (read a cell))).count 1) ≡ false
        → not (all_zero (object_at a.store (number_of (read a cell))).cells) ≡ false
        → PutsBack (AnObject class) target (freed setting cell (number_of (read a cell)) a)
    object_back at class target cell typed place unshared some fits single empty good_b =
        let number = number_named setting.program class in
        let facts = G.delete_object C at class target a cell typed good place unshared some good_b in
        let name = facts.name in
        let live = live_read a cell name (G.live C a good) facts.is_name in
        let object = live.object in
        let thing = object_at a.store (number_of (read a cell)) in
        let is_thing : thing ≡ object = ap (λ v. object_at a.store (number_of v)) facts.is_name
        ∙ ap (λ o. unwrap_or o no_object) live.there in
        let head_is : object.head ≡ OfClass number = of_class_is object.head number
        (ap (λ o. is_of_class o.head (Some number)) (sym is_thing) ∙ ap (is_of_class thing.head) (sym facts.known)
        ∙ not_false (is_of_class thing.head (class_number setting.program class.text)) fits) in
        let count_is : object.count ≡ 1 = ap (λ o. o.count) (sym is_thing)
        ∙ eqb-true thing.count 1 (not_false (nat_eq thing.count 1) single) in
        let zeros : all_zero object.cells ≡ true = ap (λ o. all_zero o.cells) (sym is_thing)
        ∙ not_false (all_zero thing.cells) empty in
        let cells = new_cells setting.program class in
        let back = freed_back cell name object (OfClass number) cells facts.there live.there
        (is_new object (OfClass number) cells head_is count_is (facts.zeros object live.there head_is zeros)) zeros
        facts.is_name in
        let b = freed setting cell name a in
        ap (λ v. undeleted setting (AnObject class) target (freed setting cell (number_of v) a)) facts.is_name
        ∙ done_then (found setting.program target b) (λ x. ungiven b.log x (OfClass number) cells b) cell a
        (index_nodes target) 0 (index_nodes target + 0)
        (done_given (index_nodes target) (cell_of setting.program b target) cell facts.stays) back refl

    delete_object_back : (n : ℕ) (run : Runner) (at : ℕ) (class : Ident) (target : Lvalue)
        → G.Typed C (Then (Delete at (AnObject class) target) End)
        → Ends (statement setting n run (Delete at (AnObject class) target) a) (PutsBack (AnObject class) target)
    delete_object_back n run at class target typed =
        let thing : Cell → Object = λ x. object_at a.store (number_of (read a x)) in
        ends_on (found setting.program target a) _ _ _ (finds setting.program target a) (λ cell place.
        ends_on (kept_apart setting.program (own_element target) (index_elements target) a) _ _ _
        (passes_apart setting.program target a) (λ t unshared.
        ends_on (fault_if NIL (is_nil (read a cell))) _ _ _ (passes NIL (is_nil (read a cell))) (λ u some.
        ends_on (fault_if CLASS_DIFFERS (not (is_of_class (thing cell).head
        (class_number setting.program class.text)))) _ _ _
        (passes CLASS_DIFFERS (not (is_of_class (thing cell).head
        (class_number setting.program class.text)))) (λ w fits.
        ends_on (fault_if COUNT (not (nat_eq (thing cell).count 1))) _ _ _
        (passes COUNT (not (nat_eq (thing cell).count 1))) (λ x single.
        ends_then (spend (setting.limits.heap + 1)) _ _ (λ y.
        ends_on (fault_if NOT_EMPTY (not (all_zero (thing cell).cells))) _ _ _
        (passes NOT_EMPTY (not (all_zero (thing cell).cells))) (λ z empty.
        ends_done (freed setting cell (number_of (read a cell)) a) 0 _
        (object_back at class target cell typed place unshared some fits single empty))))))))

    -- `delete` of an array undone, whatever its head and its zeros
    abbrev ArrayBack : Lvalue → Expression → (ℕ → Head) → Value → State → Type 0
    ArrayBack target size head element b = G.Good C b
        → (found setting.program target b >>= (λ cell. evaluated setting.program size b >>=
        (λ v. ungiven b.log cell (head (number_of v)) (replicate (number_of v) element) b)))
        ≡ Done a (index_nodes target + nodes size)

    abbrev ArrayKnown : Lvalue → Expression → (ℕ → Head) → Value → Type 0
    ArrayKnown target size head element = (cell : Cell) (v : Value) → cell_of setting.program a target ≡ Ok cell
        → value_in setting.program a size ≡ Ok v → is_nil (read a cell) ≡ false
        → G.Good C (freed setting cell (number_of (read a cell)) a)
        → DeleteArrayFacts setting a target size head element cell v

    array_back : (target : Lvalue) (size : Expression) (head : ℕ → Head) (element : Value) (cell : Cell) (v : Value)
        → ArrayKnown target size head element
        → cell_of setting.program a target ≡ Ok cell → value_in setting.program a size ≡ Ok v
        → is_nil (read a cell) ≡ false
        → not (nat_eq (length (object_at a.store (number_of (read a cell))).cells) (number_of v)) ≡ false
        → not (nat_eq (object_at a.store (number_of (read a cell))).count 1) ≡ false
        → not (all_zero (object_at a.store (number_of (read a cell))).cells) ≡ false
        → ArrayBack target size head element (freed setting cell (number_of (read a cell)) a)
    array_back target size head element cell v known place value some long single empty good_b =
        let facts = known cell v place value some good_b in
        let name = facts.name in
        let live = live_read a cell name (G.live C a good) facts.is_name in
        let object = live.object in
        let thing = object_at a.store (number_of (read a cell)) in
        let is_thing : thing ≡ object = ap (λ x. object_at a.store (number_of x)) facts.is_name
        ∙ ap (λ o. unwrap_or o no_object) live.there in
        let many : length object.cells ≡ number_of v = ap (λ o. length o.cells) (sym is_thing)
        ∙ eqb-true (length thing.cells) (number_of v) (not_false (nat_eq (length thing.cells) (number_of v)) long) in
        let count_is : object.count ≡ 1 = ap (λ o. o.count) (sym is_thing)
        ∙ eqb-true thing.count 1 (not_false (nat_eq thing.count 1) single) in
        let zeros : all_zero object.cells ≡ true = ap (λ o. all_zero o.cells) (sym is_thing)
        ∙ not_false (all_zero thing.cells) empty in
        let cells = replicate (number_of v) element in
        let same = is_new object (head (number_of v)) cells (facts.heads object live.there ∙ ap head many) count_is
        (facts.zeros object live.there zeros ∙ ap (λ k. replicate k element) many) in
        let back = freed_back cell name object (head (number_of v)) cells facts.there live.there same zeros
        facts.is_name in
        let last : Cell → Value → State → Run State = λ x w b. ungiven b.log x (head (number_of w))
        (replicate (number_of w) element) b in
        let b = freed setting cell name a in
        ap (λ x. (λ (b : State). found setting.program target b >>= (λ cell. evaluated setting.program size b >>=
        (λ w. last cell w b))) (freed setting cell (number_of x) a)) facts.is_name
        ∙ done_then (found setting.program target b) (λ x. evaluated setting.program size b >>= (λ w. last x w b)) cell a
        (index_nodes target) (nodes size) (index_nodes target + nodes size)
        (done_given (index_nodes target) (cell_of setting.program b target) cell facts.stays)
        (done_then (evaluated setting.program size b) (λ w. last cell w b) v a (nodes size) 0 (nodes size)
        (done_given (nodes size) (value_in setting.program b size) v facts.size_stays) back (omega arith)) refl

    delete_array_back : (target : Lvalue) (size : Expression) (head : ℕ → Head) (element : Value)
        → ArrayKnown target size head element
        → Ends (delete_array setting target size a) (ArrayBack target size head element)
    delete_array_back target size head element known =
        let thing : Cell → Object = λ x. object_at a.store (number_of (read a x)) in
        ends_on (found setting.program target a) _ _ _ (finds setting.program target a) (λ cell place.
        ends_on (evaluated setting.program size a) _ _ _ (evaluates setting.program size a) (λ v value.
        ends_on (fault_if NIL (is_nil (read a cell))) _ _ _ (passes NIL (is_nil (read a cell))) (λ u some.
        ends_on (fault_if LENGTH_DIFFERS (not (nat_eq (length (thing cell).cells) (number_of v)))) _ _ _
        (passes LENGTH_DIFFERS (not (nat_eq (length (thing cell).cells) (number_of v)))) (λ w long.
        ends_on (fault_if COUNT (not (nat_eq (thing cell).count 1))) _ _ _
        (passes COUNT (not (nat_eq (thing cell).count 1))) (λ x single.
        ends_then (spend (setting.limits.heap + 1 + length (thing cell).cells)) _ _ (λ y.
        ends_on (fault_if NOT_EMPTY (not (all_zero (thing cell).cells))) _ _ _
        (passes NOT_EMPTY (not (all_zero (thing cell).cells))) (λ z empty.
        ends_done (freed setting cell (number_of (read a cell)) a) 0 _
        (array_back target size head element cell v known place value some long single empty))))))))

    any_delete_back : (n : ℕ) (run : Runner) (at : ℕ) (creation : Creation) (target : Lvalue)
        → G.Typed C (Then (Delete at creation target) End)
        → Ends (statement setting n run (Delete at creation target) a) (PutsBack creation target)
    any_delete_back n run at (AnObject class) target typed = delete_object_back n run at class target typed
    any_delete_back n run at (Ints size) target typed = delete_array_back target size OfInts (Word 0)
        (λ cell v p q r s. G.delete_ints C at size target a cell v typed good p q r s)
    any_delete_back n run at (Objects class size) target typed = delete_array_back target size
        (OfObjects (number_named setting.program class)) Nil
        (λ cell v p q r s. G.delete_objects C at class size target a cell v typed good p q r s)

    -- a `delete` is undone
    pub delete_taken_back : (n : ℕ) (run : Runner) (at : ℕ) (creation : Creation) (target : Lvalue) (b : State) (c : ℕ)
        → G.Typed C (Then (Delete at creation target) End) → G.Good C b
        → statement setting n run (Delete at creation target) a ≡ Done b c
        → undeleted setting creation target b ≡ Done a (index_nodes target + creation_nodes creation)
    delete_taken_back n run at creation target b c typed good_b e =
        (any_delete_back n run at creation target typed).by b c e good_b
