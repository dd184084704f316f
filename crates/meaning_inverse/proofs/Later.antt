-- What every run of any program keeps: the names of the frame, the object, the depth; and each
-- object id it draws is a new one.
use Rattle.std.proofs.Common.{◌≡◌, ℕ, zero, suc, ◌+◌, ◌<◌, ◌≤◌, refl, sym, ap, subst, ◌∙◌, arith, true, false, Bool}
use Rattle.std.proofs.Common.{not, List, [], ◌∷◌, ◌++◌, length, map, Option, Some, None, option_map, unwrap_or, nat_eq}
use Rattle.std.proofs.Common.{if◌then◌else◌, eqb-true, replicate, cond, ◌||◌}
use Rattle.meaning_reached.specs.rpp_tree.Tree.{Expression, Null, Lvalue, Whole, Item, Object as AnObject, Ints, Objects, Statement}
use Rattle.meaning_reached.specs.rpp_tree.Tree.{Statements, Update, Swap, If, From, Construct, Local, New, Delete, Copy, Uncopy, Call}
use Rattle.meaning_reached.specs.rpp_tree.Tree.{Skip, End, Then, Procedure}
use Rattle.meaning_reached.specs.class_rules.Classes.{class_number, class_fields, method_named}
use Rattle.meaning_reached.specs.buddy_book.Place.{Taken, Given, count_taken}
use Rattle.meaning_reached.specs.roopl_semantics.Operators.{updated}
use Rattle.meaning_reached.specs.roopl_semantics.Run.{Run, Done, More, ◌>>=◌, spend, fault_if}
use Rattle.meaning_reached.specs.roopl_semantics.Store.{Value, Word, Nil, Name, Head, OfClass, OfInts, OfObjects, Object, Store}
use Rattle.meaning_reached.specs.roopl_semantics.Store.{Binding, State, number_of, is_nil, same_value, zero_values, cleared}
use Rattle.meaning_reached.specs.roopl_semantics.Store.{object_named, object_at, changed_at, without}
use Rattle.meaning_reached.specs.roopl_semantics.Value.{Cell, Slot, Part, read, written, evaluated, found, cell_named, own_class}
use Rattle.meaning_reached.specs.roopl_semantics.Value.{NIL}
use Rattle.meaning_reached.specs.roopl_semantics.Elements.{elements, index_elements, own_element, kept_apart}
use Rattle.meaning_reached.specs.rpp_words.Words.{is_less}
use Rattle.meaning_reached.specs.roopl_semantics.Execution.{is_of_class, same_cell, FI, LOOP, CLASS_DIFFERS}
use Rattle.meaning_reached.specs.roopl_semantics.Execution.{NOT_SAME, TOO_DEEP, NOT_NIL, LENGTH}
use Rattle.meaning_reached.specs.roopl_semantics.Execution.{LENGTH_DIFFERS, COUNT, NOT_EMPTY, all_zero, Setting}
use Rattle.meaning_reached.specs.roopl_semantics.Execution.{Runner, bound, opened, closed, rest_of, moved_out, moved_back, new_object}
use Rattle.meaning_reached.specs.roopl_semantics.Execution.{order_of_cells, count_changed, one_less, element_name, constructed, element_call}
use Rattle.meaning_reached.specs.roopl_semantics.Execution.{cells_named, class_of, is_too_deep, invoked, allocated, freed, new_array}
use Rattle.meaning_reached.specs.roopl_semantics.Execution.{delete_array, with_local, turn_end, turns, statement, exec, holds}
use Rattle.meaning_reached.specs.roopl_semantics.Laws.{HasNamesOnce as IsUnique}
pub use Rattle.meaning_reached.proofs.SameReports.{named_without_same, unique_without}
use Rattle.meaning_inverse.proofs.Runs.{in_parts, done_result}
use Rattle.meaning_inverse.proofs.Cells.{names_with, named_changed}

-- what holds for the result of a run that is done
pub record Ends {A : Type 0} (r : Run A) (P : A → Type 0) : Type 0 where
  pub by : (end : A) (cost : ℕ) → r ≡ Done end cost → P end

pub ends_then : {A B : Type 0} (r : Run A) (f : A → Run B) (P : B → Type 0) → ((middle : A) → Ends (f middle) P)
    → Ends (r >>= f) P
ends_then r f P h = record {
  by = λ end cost e. (let parts = in_parts r f end cost e in
      (h parts.middle).by end parts.after parts.second);
}

-- the same, with what the first part ends in
pub ends_on : {A B : Type 0} (r : Run A) (f : A → Run B) (Q : A → Type 0) (P : B → Type 0) → Ends r Q
    → ((middle : A) → Q middle → Ends (f middle) P) → Ends (r >>= f) P
ends_on r f Q P q h = record {
  by = λ end cost e. (let parts = in_parts r f end cost e in
      (h parts.middle (q.by parts.middle parts.before parts.first)).by end parts.after parts.second);
}

pub ends_done : {A : Type 0} (x : A) (c : ℕ) (P : A → Type 0) → P x → Ends (Done x c) P
ends_done x c P p = record { by = λ end cost e. subst P (done_result x end c cost e) p }

pub ends_more : {A : Type 0} (P : A → Type 0) → Ends More P
ends_more P = record { by = λ end cost e. cc }

-- the names of a state: none twice, and none that is yet to be drawn
pub record IsSound (st : State) : Type 0 where
  pub unique : IsUnique st.store
  pub drawn : (name : ℕ) (object : Object) → object_named st.store name ≡ Some object → name < 2 + count_taken st.log
  pub positive : (name : ℕ) (object : Object) → object_named st.store name ≡ Some object → 0 < name

pub named_without : (store : Store) (n m : ℕ) → nat_eq n m ≡ false
    → object_named (without store n) m ≡ object_named store m
named_without [] n m e = refl
named_without ((k, o) ∷ store) n m e = by (named_without store n m e) (nat_eq k n) refl
  where
    by : object_named (without store n) m ≡ object_named store m → (s : Bool) → nat_eq k n ≡ s
        → object_named (if s then store else (k, o) ∷ without store n) m
        ≡ (if nat_eq k m then Some o else object_named store m)
    by again true f = rw (ap (λ x. nat_eq x m) (eqb-true k n f) ∙ e) refl
    by again false f = ap (λ x. if nat_eq k m then Some o else x) again

none_changed : (store : Store) (n : ℕ) (g : Object → Object) (m : ℕ) → object_named store m ≡ None
    → object_named (changed_at store n g) m ≡ None
none_changed store n g m e = named_changed store n g m ∙ by (nat_eq n m)
  where
    by : (s : Bool) → (if s then option_map g (object_named store m) else object_named store m) ≡ None
    by true = ap (option_map g) e
    by false = e

unique_changed : (store : Store) (n : ℕ) (g : Object → Object) → IsUnique store → IsUnique (changed_at store n g)
unique_changed [] n g u = tt
unique_changed ((k, o) ∷ store) n g u = by (unique_changed store n g u.1) (nat_eq k n)
  where
    by : IsUnique (changed_at store n g) → (s : Bool) → IsUnique
        (if s then (k, g o) ∷ store else (k, o) ∷ changed_at store n g)
    by again true = u
    by again false = (none_changed store n g k u.0, again)

-- an object was there before, of the same head
pub record WasThere (store : Store) (name : ℕ) (object : Object) : Type 0 where
  pub before : Object
  pub there : object_named store name ≡ Some before
  pub head : object.head ≡ before.head

abbrev pub frame_names : List Binding → List (List ℕ)
frame_names frame = map (λ binding. binding.name) frame

-- a state that a run came to from another
pub record Later (first second : State) : Type 0 where
  pub names : frame_names second.frame ≡ frame_names first.frame
  pub self : second.self ≡ first.self
  pub depth : second.depth ≡ first.depth
  pub taken : count_taken first.log ≤ count_taken second.log
  pub old : (name : ℕ) (object : Object) → name < 2 + count_taken first.log
      → object_named second.store name ≡ Some object → WasThere first.store name object
  pub sound : IsSound second

pub later_itself : (st : State) → IsSound st → Later st st
later_itself st s = record {
  names = refl;
  self = refl;
  depth = refl;
  taken = omega arith;
  old = λ name object h e. record { before = object; there = e; head = refl };
  sound = s;
}

pub later_then : (a b c : State) → Later a b → Later b c → Later a c
later_then a b c l k =
    record {
      names = k.names ∙ l.names;
      self = k.self ∙ l.self;
      depth = k.depth ∙ l.depth;
      taken = let t = l.taken in let u = k.taken in omega arith;
      old = λ name object h e. (let mid = k.old name object (let t = l.taken in omega arith) e in
          let start = l.old name mid.before h mid.there in record
          { before = start.before; there = start.there; head = mid.head ∙ start.head });
      sound = k.sound;
    }

-- a change of an object that keeps its head
pub was_there : (store : Store) (n : ℕ) (g : Object → Object) → ((o : Object) → (g o).head ≡ o.head)
    → (name : ℕ) (object : Object) → object_named (changed_at store n g) name ≡ Some object → WasThere store name object
was_there store n g keeps name object e = by (nat_eq n name) (object_named store name) refl
    (sym (named_changed store n g name) ∙ e)
  where
    by : (t : Bool) (o : Option Object) → object_named store name ≡ o
        → (if t then option_map g (object_named store name) else object_named store name) ≡ Some object
        → WasThere store name object
    by true None f h = let z : None ≡ Some object = ap (option_map g) (sym f) ∙ h in cc
    by true (Some o) f h = let z : Some (g o) ≡ Some object = ap (option_map g) (sym f)
        ∙ h in record { before = o; there = f; head = ap (λ x. (unwrap_or x o).head) (sym z) ∙ keeps o }
    by false o f h = record { before = object; there = h; head = refl }

pub later_changed : (st : State) (n : ℕ) (g : Object → Object) → ((o : Object) → (g o).head ≡ o.head) → IsSound st
    → Later st (record st { store = changed_at st.store n g })
later_changed st n g keeps s =
    record {
      names = refl;
      self = refl;
      depth = refl;
      taken = omega arith;
      old = λ name object h e. was_there st.store n g keeps name object e;
      sound = record {
        unique = unique_changed st.store n g s.unique;
        drawn = λ name object e. (let was = was_there st.store n g keeps name object e in
            s.drawn name was.before was.there);
        positive = λ name object e.
            (let was = was_there st.store n g keeps name object e in s.positive name was.before was.there);
      };
    }

pub later_written : (st : State) (c : Cell) (v : Value) → IsSound st → Later st (written st c v)
later_written st (Slot i) v s = record {
  names = names_with st.frame i v;
  self = refl;
  depth = refl;
  taken = omega arith;
  old = λ name object h e. record { before = object; there = e; head = refl };
  sound = record { unique = s.unique; drawn = s.drawn; positive = s.positive };
}
later_written st (Part name i) v s = later_changed st name _ (λ o. refl) s

pub later_counted : (change : ℕ → ℕ) (st : State) (n : ℕ) → IsSound st → Later st (count_changed change st n)
later_counted change st n s = later_changed st n _ (λ o. refl) s

pub later_dropped : (st : State) (n order : ℕ) → IsSound st
    → Later st (record st { store = without st.store n; log = Given n order ∷ st.log })
later_dropped st n order s =
    record {
      names = refl;
      self = refl;
      depth = refl;
      taken = omega arith;
      old = λ name object h e. record { before = object; there = still name object e; head = refl };
      sound = record {
        unique = unique_without st.store n s.unique;
        drawn = λ name object e. s.drawn name object (still name object e);
        positive = λ name object e. s.positive name object (still name object e);
      };
    }
  where
    still : (name : ℕ) (object : Object) → object_named (without st.store n) name ≡ Some object
        → object_named st.store name ≡ Some object
    still name object e = by (nat_eq n name) refl
      where
        by : (t : Bool) → nat_eq n name ≡ t → object_named st.store name ≡ Some object
        by false f = sym (named_without st.store n name f) ∙ e
        by true f = (let P : ℕ → Type 0 = λ x. object_named (without st.store n) x ≡ None in
            let none = subst P (eqb-true n name f) (named_without_same st.store n s.unique) in
            let z : None ≡ Some object = sym none ∙ e in cc)

pub later_freed : (setting : Setting) (cell : Cell) (n : ℕ) (st : State) → IsSound st
    → Later st (freed setting cell n st)
later_freed setting cell n st s =
    let dropped = later_dropped st n (order_of_cells (length (object_at st.store n).cells)) s in
    later_then st _ _ dropped (later_written _ cell Nil dropped.sound)

-- the name that is drawn next names nothing
pub undrawn : (st : State) → IsSound st → object_named st.store (2 + count_taken st.log) ≡ None
undrawn st s = by (object_named st.store (2 + count_taken st.log)) refl
  where
    by : (o : Option Object) → object_named st.store (2 + count_taken st.log) ≡ o
        → object_named st.store (2 + count_taken st.log) ≡ None
    by None e = e
    by (Some o) e = let h = s.drawn (2 + count_taken st.log) o e in absurd (omega arith)

pub later_made : (st : State) (order : ℕ) (object : Object) → IsSound st
    → Later st (record st {
      store = (2 + count_taken st.log, object) ∷ st.store;
      log = Taken (2 + count_taken st.log) order ∷ st.log;
    })
later_made st order object s =
    record {
      names = refl;
      self = refl;
      depth = refl;
      taken = omega arith;
      old = λ name o h e. by name o h (nat_eq (2 + count_taken st.log) name) refl e;
      sound = record {
        unique = (undrawn st s, s.unique);
        drawn = λ name o e. drawn name o
            (nat_eq (2 + count_taken st.log) name) refl e;
        positive = λ name o e. positive name o
            (nat_eq (2 + count_taken st.log) name) refl e;
      };
    }
  where
    by : (name : ℕ) (o : Object) → name < 2 + count_taken st.log → (t : Bool) → nat_eq (2 + count_taken st.log) name ≡ t
        → (if t then Some object else object_named st.store name) ≡ Some o → WasThere st.store name o
    by name o h true f e = let g = eqb-true (2 + count_taken st.log) name f in absurd (omega arith)
    by name o h false f e = record { before = o; there = e; head = refl }

    drawn : (name : ℕ) (o : Object) → (t : Bool) → nat_eq (2 + count_taken st.log) name ≡ t
        → (if t then Some object else object_named st.store name) ≡ Some o → name < 2 + suc (count_taken st.log)
    drawn name o true f e = let g = eqb-true (2 + count_taken st.log) name f in omega arith
    drawn name o false f e = let g = s.drawn name o e in omega arith

    positive : (name : ℕ) (o : Object) → (t : Bool) → nat_eq (2 + count_taken st.log) name ≡ t
        → (if t then Some object else object_named st.store name) ≡ Some o → 0 < name
    positive name o true f e = let g = eqb-true (2 + count_taken st.log) name f in omega arith
    positive name o false f e = s.positive name o e

pub later_moved_out : (cells : List Cell) (st : State) → IsSound st → Later st (moved_out cells st)
later_moved_out [] st s = later_itself st s
later_moved_out (cell ∷ cells) st s =
    let one = later_written st cell (cleared (read st cell)) s in
    later_then st _ _ one (later_moved_out cells _ one.sound)

-- what a run of any state keeps
abbrev pub Keeps : State → State → Type 0
Keeps st end = IsSound st → Later st end

keeps_moved_back : (cells : List Cell) (values : List Value) (st : State) → Ends (moved_back cells values st) (Keeps st)
keeps_moved_back [] values st = ends_done st 0 _ (later_itself st)
keeps_moved_back (cell ∷ cells) [] st = ends_done st 0 _ (later_itself st)
keeps_moved_back (cell ∷ cells) (v ∷ values) st =
    ends_then _ _ _ (λ u. record {
      by = λ end cost e s. (let one = later_written st cell v s in
          later_then st _ end one ((keeps_moved_back cells values (written st cell v)).by end cost e one.sound));
    })

pub later_moved_back : (cells : List Cell) (values : List Value) (st end : State) (cost : ℕ) → IsSound st
    → moved_back cells values st ≡ Done end cost → Later st end
later_moved_back cells values st end cost s e = (keeps_moved_back cells values st).by end cost e s

-- back in the caller
pub later_returned : (caller end : State) (frame : List Binding) (self depth : ℕ)
    → Later (record { frame = frame; self = self; depth = depth; store = caller.store; log = caller.log }) end
    → Later caller (record caller { store = end.store; log = end.log })
later_returned caller end frame self depth l = record {
  names = refl;
  self = refl;
  depth = refl;
  taken = l.taken;
  old = l.old;
  sound = record { unique = l.sound.unique; drawn = l.sound.drawn; positive = l.sound.positive };
}

pub later_closed : (name : List ℕ) (v : Value) (st end : State) → Later (opened name v st) end → Later st (closed end)
later_closed name v st end l = record {
  names = rest end.frame l.names;
  self = l.self;
  depth = l.depth;
  taken = l.taken;
  old = l.old;
  sound = record { unique = l.sound.unique; drawn = l.sound.drawn; positive = l.sound.positive };
}
  where
    rest : (frame : List Binding) → frame_names frame ≡ name ∷ frame_names st.frame
        → frame_names (rest_of frame) ≡ frame_names st.frame
    rest [] e = cc
    rest (b ∷ frame) e = ap (λ l. elim l as (λ _. List (List ℕ)) [ [] ↦ [] | x ∷ xs ↦ xs ]) e

module _ (setting : Setting) (run : Runner) (ih : (b : Statements) (st : State) → Ends (run b st) (Keeps st)) where
  keeps_invoked : (back : Bool) (method : Procedure) (self : ℕ) (receiver args : List Cell) (st : State)
      → Ends (invoked setting run back method self receiver args st) (Keeps st)
  keeps_invoked back method self receiver args st =
      let caller = moved_out (receiver ++ args) st in
      let entry : State = record {
        frame = bound method.params (map (read st) args);
        self = self;
        depth = 1 + st.depth;
        store = caller.store;
        log = caller.log;
      } in
      ends_on _ _ (Keeps entry) _ (ih _ entry) (λ inner keeps. record {
        by = λ end cost e s.
            (let out = later_moved_out (receiver ++ args) st s in
            let ran = keeps (record {
              unique = out.sound.unique;
              drawn = out.sound.drawn;
              positive = out.sound.positive;
            }) in
            let returned = later_returned caller inner _ _ _ ran in
            later_then st caller end out (later_then caller _ end returned
            (later_moved_back (receiver ++ args) (map (read st) receiver
            ++ map (λ binding. binding.value) inner.frame)
            (record caller { store = inner.store; log = inner.log }) end cost returned.sound e)));
      })

  keeps_local : (name : List ℕ) (value : Expression) (body : Statements) (end_value : Expression) (st : State)
      → Ends (with_local setting run name value body end_value st) (Keeps st)
  keeps_local name value body end_value st =
      ends_then (evaluated setting.program value st) _ _ (λ v. ends_on _ _ (Keeps (opened name v st)) _
      (ih body (opened name v st)) (λ end keeps.
      ends_then (evaluated setting.program end_value end) _ _
      (λ w. ends_then _ _ _ (λ u. ends_done (closed end) 0 _
      (λ s. later_closed name v st end (keeps (record {
        unique = s.unique;
        drawn = s.drawn;
        positive = s.positive;
      })))))))

  keeps_turns : (n : ℕ) (entry : Expression) (first again : Statements) (exit : Expression) (st : State)
      → Ends (turns setting n run entry first again exit st) (Keeps st)
  keeps_turns zero entry first again exit st = ends_more _
  keeps_turns (suc n) entry first again exit st =
      ends_on (run first st) _ (Keeps st) _ (ih first st) (λ end one. ends_then (evaluated setting.program exit end) _ _
      (λ v. by (keeps_turns n entry first again exit) end one (holds v)))
    where
      by : ((next : State) → Ends (turns setting n run entry first again exit next) (Keeps next)) → (end : State)
          → Keeps st end → (t : Bool) → Ends (turn_end setting run entry again
          (turns setting n run entry first again exit) t end) (Keeps st)
      by more end one true = ends_done end 0 _ one
      by more end one false = ends_on (run again end) _ (Keeps end) _ (ih again end)
          (λ next two. ends_then (evaluated setting.program entry next) _ _ (λ v. ends_then _ _ _ (λ u.
          record {
            by = λ last cost e s. (let a = one s in let b = two a.sound in
                later_then st end last a (later_then end next last b ((more next).by last cost e b.sound)));
          })))

  keeps_allocated : (size : ℕ) (cell : Cell) (head : Head) (cells : List Value) (st : State)
      → Ends (allocated setting size cell head cells st) (Keeps st)
  keeps_allocated size cell head cells st =
      ends_then _ _ _ (λ u. ends_done _ 0 _ (λ s. (let made = later_made st (order_of_cells size)
      (new_object head cells) s in later_then st _ _ made
      (later_written _ cell (Name (2 + count_taken st.log)) made.sound))))

  keeps_new_array : (target : Lvalue) (size : Expression) (head : ℕ → Head) (element : Value) (st : State)
      → Ends (new_array setting target size head element st) (Keeps st)
  keeps_new_array target size head element st =
      ends_then (found setting.program target st) _ _ (λ cell. ends_then (evaluated setting.program size st) _ _
      (λ v. ends_then (fault_if NOT_NIL (not (is_nil (read st cell)))) _ _
      (λ a. ends_then (fault_if LENGTH (is_less (number_of v) 1)) _ _
      (λ b. ends_then (spend (setting.limits.heap + 1)) _ _ (λ c.
      ends_on (allocated setting (number_of v) cell (head (number_of v)) (replicate (number_of v) element) st) _
      (Keeps st) _ (keeps_allocated (number_of v) cell (head (number_of v)) (replicate (number_of v) element) st)
      (λ end keeps. ends_then (spend (number_of v)) _ _ (λ d. ends_done end 0 _ keeps)))))))

  keeps_delete_array : (target : Lvalue) (size : Expression) (st : State)
      → Ends (delete_array setting target size st) (Keeps st)
  keeps_delete_array target size st =
      ends_then (found setting.program target st) _ _ (λ cell. ends_then (evaluated setting.program size st) _ _
      (λ v. ends_then (fault_if NIL (is_nil (read st cell))) _ _ (λ a.
      ends_then (fault_if LENGTH_DIFFERS (not (nat_eq
      (length (object_at st.store (number_of (read st cell))).cells) (number_of v)))) _ _
      (λ b. ends_then (fault_if COUNT (not (nat_eq (object_at st.store (number_of (read st cell))).count 1)))
      _ _ (λ c.
      ends_then (spend (setting.limits.heap + 1 + length (object_at st.store (number_of (read st cell))).cells)) _ _
      (λ d. ends_then (fault_if NOT_EMPTY (not (all_zero
      (object_at st.store (number_of (read st cell))).cells))) _ _ (λ x.
      ends_done _ 0 _ (later_freed setting cell (number_of (read st cell)) st))))))))

  keeps_statement : (n : ℕ) (s : Statement) (st : State) → Ends (statement setting n run s st) (Keeps st)
  keeps_statement n (Update at op target value) st =
      ends_then (found setting.program target st) _ _ (λ cell. ends_then (evaluated setting.program value st) _ _
      (λ v. ends_then (kept_apart setting.program (own_element target) (index_elements target ++ elements value)
      st) _ _ (λ z. ends_done (written st cell (Word (updated op (number_of (read st cell)) (number_of v)))) 0
      _ (later_written st cell (Word (updated op (number_of (read st cell)) (number_of v)))))))
  keeps_statement n (Swap at left right) st =
      ends_then (found setting.program left st) _ _ (λ a. ends_then (found setting.program right st) _ _
      (λ b. ends_then (kept_apart setting.program (own_element left ++ own_element right)
      (index_elements left ++ index_elements right) st) _ _
      (λ z. ends_done (written (written st a (read st b)) b (read st a)) 0 _
      (λ s. (let one = later_written st a (read st b) s in
      later_then st _ _ one (later_written _ b (read st a) one.sound))))))
  keeps_statement n (If at test taken other after) st =
      ends_then (evaluated setting.program test st) _ _ (λ v. ends_on (run (cond (holds v) taken other) st) _ (Keeps st)
      _ (ih (cond (holds v) taken other) st) (λ end keeps.
      ends_then (evaluated setting.program after end) _ _ (λ w. ends_then
      (fault_if FI (if holds v then not (holds w) else holds w)) _ _ (λ u. ends_done end 0 _ keeps))))
  keeps_statement n (From at entry first again exit) st =
      ends_then (evaluated setting.program entry st) _ _ (λ v. ends_then (fault_if LOOP (not (holds v))) _ _
      (λ u. keeps_turns n entry first again exit st))
  keeps_statement n (Construct at class name body end) st =
      keeps_local name.text (Null at) (constructed at class name body) (Null at) st
  keeps_statement n (Local at var value body end_var end_value) st = keeps_local var.name.text value body end_value st
  keeps_statement n (New at (AnObject class) target) st =
      let number = unwrap_or (class_number setting.program class.text) 0 in
      let cells = zero_values (class_fields setting.program number) in
      ends_then (found setting.program target st) _ _ (λ cell. ends_then
      (kept_apart setting.program (own_element target) (index_elements target) st) _ _
      (λ z. ends_then (fault_if NOT_NIL (not (is_nil (read st cell)))) _ _
      (λ u. ends_then (spend (setting.limits.heap + 1)) _ _
      (λ w. keeps_allocated (length cells) cell (OfClass number) cells st))))
  keeps_statement n (New at (Ints size) target) st = keeps_new_array target size OfInts (Word 0) st
  keeps_statement n (New at (Objects class size) target) st =
      keeps_new_array target size (OfObjects (unwrap_or (class_number setting.program class.text) 0)) Nil st
  keeps_statement n (Delete at (AnObject class) target) st =
      ends_then (found setting.program target st) _ _ (λ cell. ends_then
      (kept_apart setting.program (own_element target) (index_elements target) st) _ _
      (λ z. ends_then (fault_if NIL (is_nil (read st cell))) _ _ (λ a.
      ends_then (fault_if CLASS_DIFFERS (not (is_of_class (object_at st.store (number_of (read st cell))).head
      (class_number setting.program class.text)))) _ _ (λ b.
      ends_then (fault_if COUNT (not (nat_eq (object_at st.store (number_of (read st cell))).count 1))) _ _
      (λ c. ends_then (spend (setting.limits.heap + 1)) _ _ (λ d.
      ends_then (fault_if NOT_EMPTY (not (all_zero (object_at st.store (number_of (read st cell))).cells))) _ _
      (λ x. ends_done (freed setting cell (number_of (read st cell)) st) 0 _
      (later_freed setting cell (number_of (read st cell)) st))))))))
  keeps_statement n (Delete at (Ints size) target) st = keeps_delete_array target size st
  keeps_statement n (Delete at (Objects class size) target) st = keeps_delete_array target size st
  keeps_statement n (Copy at kind source target) st =
      ends_then (found setting.program source st) _ _ (λ a. ends_then (found setting.program target st) _ _
      (λ b. ends_then (kept_apart setting.program (own_element target)
      (index_elements source ++ index_elements target) st) _ _
      (λ z. ends_then (fault_if NIL (is_nil (read st a))) _ _
      (λ u. ends_then (fault_if NOT_NIL (not (is_nil (read st b)))) _ _ (λ w.
      ends_done (count_changed suc (written st b (read st a)) (number_of (read st a))) 0 _
      (λ s. (let one = later_written st b (read st a) s in
      later_then st _ _ one (later_counted suc _ (number_of (read st a)) one.sound))))))))
  keeps_statement n (Uncopy at kind source target) st =
      ends_then (found setting.program source st) _ _ (λ a. ends_then (found setting.program target st) _ _
      (λ b. ends_then (kept_apart setting.program (own_element target)
      (index_elements source ++ index_elements target) st) _ _
      (λ z. ends_then (fault_if NIL (is_nil (read st a))) _ _ (λ u.
      ends_then (fault_if NOT_SAME (not (same_value (read st a) (read st b)) || same_cell a b)) _ _ (λ w.
      ends_done (count_changed one_less (written st b Nil) (number_of (read st a))) 0 _
      (λ s. (let one = later_written st b Nil s in later_then st _ _ one
      (later_counted one_less _ (number_of (read st a)) one.sound))))))))
  keeps_statement n (Call at back None method args) st =
      ends_then (spend (length args)) _ _ (λ u. ends_then (fault_if TOO_DEEP (is_too_deep setting st)) _ _ (λ w.
      keeps_invoked back (method_named setting.program (own_class st) method.text) st.self []
      (cells_named setting st args) st))
  keeps_statement n (Call at back (Some (Whole name)) method args) st =
      let cell = cell_named setting.program st name.text in
      let self = number_of (read st cell) in
      ends_then (spend (length args)) _ _ (λ u. ends_then (fault_if NIL (is_nil (read st cell))) _ _
      (λ w. ends_then (fault_if TOO_DEEP (is_too_deep setting st)) _ _ (λ x.
      keeps_invoked back (method_named setting.program (class_of setting st self) method.text) self (cell ∷ [])
      (cells_named setting st args) st)))
  keeps_statement n (Call at back (Some (Item name index)) method args) st =
      keeps_local (element_name at).text (Null at) (element_call at back name index method args) (Null at) st
  keeps_statement n (Skip at) st = ends_done st 0 _ (later_itself st)

pub keeps_exec : (setting : Setting) (n : ℕ) (b : Statements) (st : State) → Ends (exec setting n b st) (Keeps st)
keeps_exec setting n End st = ends_done st 0 _ (later_itself st)
keeps_exec setting zero (Then first rest) st = ends_more _
keeps_exec setting (suc n) (Then first rest) st =
    ends_then (spend 1) _ _ (λ u. ends_on (statement setting n (exec setting n) first st) _ (Keeps st) _
    (keeps_statement setting (exec setting n) (keeps_exec setting n) n first st) (λ next one.
    record {
      by = λ end cost e s. (let a = one s in later_then st next end a
          ((keeps_exec setting n rest next).by end cost e a.sound));
    }))

-- a block that is done leads to a later state
pub exec_later : (setting : Setting) (n : ℕ) (b : Statements) (st end : State) (cost : ℕ) → IsSound st
    → exec setting n b st ≡ Done end cost → Later st end
exec_later setting n b st end cost s e = (keeps_exec setting n b st).by end cost e s

pub statement_later : (setting : Setting) (n : ℕ) (s : Statement) (st end : State) (cost : ℕ) → IsSound st
    → statement setting n (exec setting n) s st ≡ Done end cost → Later st end
statement_later setting n s st end cost sound e = (keeps_statement setting (exec setting n) (keeps_exec setting n) n s
    st).by end cost e sound
