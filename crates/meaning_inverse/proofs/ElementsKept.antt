-- Every run keeps what holds for arrays: each has a length that a word can hold.
use Rattle.std.proofs.Common.{◌≡◌, ℕ, zero, suc, ◌+◌, sym, ap, subst, ◌∙◌, true, false, Bool, not, ◌||◌, List, []}
use Rattle.std.proofs.Common.{◌∷◌, ◌++◌, length, map, replicate, Some, None, unwrap_or, Ok, nat_eq, nat_lt, is_none}
use Rattle.std.proofs.Common.{cond, if◌then◌else◌, length-set}
use Rattle.meaning_reached.specs.rpp_words.Words.{is_less}
use Rattle.meaning_reached.specs.rpp_tree.declared.tree.Var.{Var}
use Rattle.meaning_reached.specs.rpp_tree.Tree.{Expression, Null, Lvalue, Whole, Item, Object as AnObject, Ints, Objects, Statement}
use Rattle.meaning_reached.specs.rpp_tree.Tree.{Statements, Update, Swap, If, From, Construct, Local, New, Delete, Copy, Uncopy, Call}
use Rattle.meaning_reached.specs.rpp_tree.Tree.{Skip, End, Then, Procedure, nodes}
use Rattle.meaning_reached.specs.class_rules.declared.kind.Kind.{Kind}
use Rattle.meaning_reached.specs.class_rules.declared.kind.Kind.TheVariants as kind
use Rattle.meaning_reached.specs.class_rules.Table.{table_of}
use Rattle.meaning_reached.specs.class_rules.Classes.{class_number, class_fields, method_named}
use Rattle.meaning_reached.specs.class_rules.Statements.{verdict_passed, in_turn, test_rules, check_statement, check_statements}
use Rattle.meaning_reached.specs.class_rules.Program.{setting_in}
use Rattle.meaning_reached.specs.buddy_book.Place.{Taken, count_taken, place}
use Rattle.meaning_reached.specs.roopl_semantics.Operators.{updated}
use Rattle.meaning_reached.specs.roopl_semantics.Run.{Run, after_cost, Done, ◌>>=◌, spend, fault_if}
use Rattle.meaning_reached.specs.roopl_semantics.Store.{Value, Word, Nil, Name, Head, OfClass, OfInts, OfObjects, Object, Store, State}
use Rattle.meaning_reached.specs.roopl_semantics.Store.{number_of, is_nil, is_zero, same_value, zero_values, cleared, object_named}
use Rattle.meaning_reached.specs.roopl_semantics.Store.{object_at, without}
use Rattle.meaning_reached.specs.roopl_semantics.Value.{Cell, Slot, Part, read, written, value as value_in, evaluated, found}
use Rattle.meaning_reached.specs.roopl_semantics.Value.{cell_named, NIL}
use Rattle.meaning_reached.specs.roopl_semantics.Elements.{elements, index_elements, own_element, kept_apart}
use Rattle.meaning_reached.specs.roopl_semantics.Execution.{Setting, Runner, holds, opened, closed, moved_out, moved_back, in_direction}
use Rattle.meaning_reached.specs.roopl_semantics.Execution.{new_object, order_of_cells, count_changed, one_less, constructed, element_call}
use Rattle.meaning_reached.specs.roopl_semantics.Execution.{cells_named, class_of, is_too_deep, invoked, allocated, freed, new_array}
use Rattle.meaning_reached.specs.roopl_semantics.Execution.{delete_array, with_local, turn_end, turns, statement, exec, same_cell}
use Rattle.meaning_reached.specs.roopl_semantics.Execution.{is_of_class, all_zero, FI, LOOP, NOT_NIL, COUNT}
use Rattle.meaning_reached.specs.roopl_semantics.Execution.{NOT_EMPTY, HEAP_FULL, NOT_SAME, CLASS_DIFFERS}
use Rattle.meaning_reached.specs.roopl_semantics.Execution.{LENGTH_DIFFERS, LENGTH, TOO_DEEP, TOUCHED}
use Rattle.meaning_reached.proofs.meaning_sound_laws.Cells.{changed_objects}
use Rattle.meaning_reached.proofs.meaning_sound_laws.Classes.{KnowsClasses}
use Rattle.meaning_reached.proofs.class_rules_laws.PassedRules.{both_passed}
use Rattle.meaning_reached.proofs.meaning_sound_laws.Runs.{ends_done as e2_done}
use Rattle.meaning_reached.proofs.meaning_sound_laws.Keeping.{exec_keeps}
use Rattle.meaning_inverse.proofs.Runs.{given_done, passed_check}
use Rattle.meaning_inverse.proofs.Later.{Ends, ends_then, ends_on, ends_done, ends_more, IsSound, keeps_exec}
use Rattle.meaning_inverse.proofs.Later.{later_moved_out}
use Rattle.meaning_inverse.proofs.Places.{named_dropped, added}
use Rattle.meaning_inverse.proofs.Heap.{length_replicate}
use Rattle.meaning_inverse.proofs.Ground.{entered}
use Rattle.meaning_inverse.specs.ArrayLengths.{ArraysHaveElements, is_class_head}
use Rattle.meaning_inverse.proofs.Known.{Context, Checked, Good}
use Rattle.meaning_inverse.proofs.Facts.{first_rule}
use Rattle.meaning_inverse.proofs.Entries.{Entry, local_entry, construct_entry, element_entry, own_call, object_call}
use Rattle.meaning_inverse.proofs.Entries.{IsCallIn, call_inner}
use Rattle.meaning_reached.proofs.roopl_semantics_laws.Changed.{with_cell}

abbrev HasElements : Object → Type 0
HasElements o = is_class_head o.head ≡ false → is_less (length o.cells) 1 ≡ false

elements_each : (store : Store) → ArraysHaveElements store → (m : ℕ) (o : Object) → object_named store m ≡ Some o
    → HasElements o
elements_each store f m o e = λ h. f.long m o e h

elements_all : (store : Store) → ((m : ℕ) (o : Object) → object_named store m ≡ Some o → HasElements o)
    → ArraysHaveElements store
elements_all store h = record { long = λ m o e a. h m o e a }

pub elements_written : (st : State) (c : Cell) (v : Value) → ArraysHaveElements st.store
    → ArraysHaveElements (written st c v).store
elements_written st (Slot i) v f = f
elements_written st (Part n i) v f =
    elements_all (written st (Part n i) v).store (changed_objects (λ o. HasElements o) st.store n (with_cell i v)
    (elements_each st.store f)
    (λ o e h. ap (λ k. is_less k 1) (length-set o.cells i v) ∙ elements_each st.store f n o e h))

elements_counted : (change : ℕ → ℕ) (st : State) (n : ℕ) → ArraysHaveElements st.store
    → ArraysHaveElements (count_changed change st n).store
elements_counted change st n f =
    elements_all (count_changed change st n).store (changed_objects (λ o. HasElements o) st.store n
    (λ o. record o { count = change o.count }) (elements_each st.store f)
    (λ o e h. elements_each st.store f n o e h))

elements_added : (store : Store) (d : ℕ) (object : Object) → HasElements object → ArraysHaveElements store
    → ArraysHaveElements ((d, object) ∷ store)
elements_added store d object new f = elements_all ((d, object) ∷ store) (λ m o e. by m o (nat_eq d m) e)
  where
    by : (m : ℕ) (o : Object) (t : Bool) → (if t then Some object else object_named store m) ≡ Some o → HasElements o
    by m o true e = (let P : Object → Type 0 = λ x. HasElements x in let same : object ≡ o = cc in subst P same new)
    by m o false e = elements_each store f m o e

pub elements_freed : (setting : Setting) (cell : Cell) (n : ℕ) (st : State) → IsSound st → ArraysHaveElements st.store
    → ArraysHaveElements (freed setting cell n st).store
elements_freed setting cell n st s f =
    elements_written _ cell Nil (elements_all (without st.store n)
    (λ m o e. elements_each st.store f m o (named_dropped st.store n m o s.unique e).1))

pub elements_moved_out : (cells : List Cell) (st : State) → ArraysHaveElements st.store
    → ArraysHaveElements (moved_out cells st).store
elements_moved_out [] st f = f
elements_moved_out (c ∷ cells) st f = elements_moved_out cells _ (elements_written st c (cleared (read st c)) f)

abbrev EndsWithElements : State → Type 0
EndsWithElements end = ArraysHaveElements end.store

elements_moved_back : (cells : List Cell) (values : List Value) (st : State) → ArraysHaveElements st.store
    → Ends (moved_back cells values st) EndsWithElements
elements_moved_back [] values st f = ends_done st 0 EndsWithElements f
elements_moved_back (c ∷ cells) [] st f = ends_done st 0 EndsWithElements f
elements_moved_back (c ∷ cells) (v ∷ values) st f = ends_then (fault_if TOUCHED (not (is_zero (read st c)))) _ _
    (λ u. elements_moved_back cells values (written st c v) (elements_written st c v f))

-- a check that passed, an evaluation, a place
pub checked_ends : (code : ℕ) (t : Bool) → Ends (fault_if code t) (λ u. t ≡ false)
checked_ends code t = record { by = λ u c e. (passed_check code t u c e).0 }

evaluated_ends : (setting : Setting) (e : Expression) (st : State)
    → Ends (evaluated setting.program e st) (λ v. value_in setting.program st e ≡ Ok v)
evaluated_ends setting e st = record { by = λ v c h. (given_done (nodes e) (value_in setting.program st e) v c h).0 }

-- runners that keep good states good
pub record GoodAll (setting : Setting) (run : Runner) : Type 0 where
  pub by : (C : Context setting) (body : Statements) (st : State) → Checked setting C body → Good setting C st
      → Ends (run body st) (Good setting C)

module _ (setting : Setting) (classes : KnowsClasses setting.program) (run : Runner) (all : GoodAll setting run) where
  chosen : (C : Context setting) (t : Bool) (a b : Statements) → Checked setting C a → Checked setting C b
      → Checked setting C (cond t a b)
  chosen C true a b h k = h
  chosen C false a b h k = k

  elements_scope : (name : List ℕ) (value : Expression) (body : Statements) (end_value : Expression) (st : State)
      → IsSound st → ArraysHaveElements st.store → ((v : Value) → value_in setting.program st value ≡ Ok v
      → Entry setting body (opened name v st))
      → Ends (with_local setting run name value body end_value st) EndsWithElements
  elements_scope name value body end_value st drawn f entry =
      ends_on (evaluated setting.program value st) _ (λ v. value_in setting.program st value ≡ Ok v) EndsWithElements
      (evaluated_ends setting value st) (λ v is.
      let e = entry v is in
      ends_on (run body (opened name v st)) _ (Good setting e.inner) EndsWithElements
      (all.by e.inner body (opened name v st) e.checked (record {
        sound = e.sound;
        drawn = record {
          unique = drawn.unique;
          drawn = drawn.drawn;
          positive = drawn.positive;
        };
        arrays = f;
      })) (λ end g.
      ends_then (evaluated setting.program end_value end) _ _
      (λ w. ends_then _ _ _ (λ u. ends_done (closed end) 0 EndsWithElements g.arrays))))

  elements_turns : (C : Context setting) (n : ℕ) (entry : Expression) (first again : Statements) (exit : Expression)
      (st : State) → Checked setting C first → Checked setting C again → Good setting C st
      → Ends (turns setting n run entry first again exit st) EndsWithElements
  elements_turns C zero entry first again exit st h k g = ends_more EndsWithElements
  elements_turns C (suc n) entry first again exit st h k g =
      ends_on (run first st) _ (Good setting C) EndsWithElements (all.by C first st h g)
      (λ end g'. ends_then (evaluated setting.program exit end) _ _
      (λ v. by (λ next gn. elements_turns C n entry first again exit next h k gn) end g' (holds v)))
    where
      by : ((next : State) → Good setting C next → Ends (turns setting n run entry first again exit next)
          EndsWithElements) → (end : State) → Good setting C end → (t : Bool)
          → Ends (turn_end setting run entry again (turns setting n run entry first again exit) t end) EndsWithElements
      by more end g' true = ends_done end 0 EndsWithElements g'.arrays
      by more end g' false = ends_on (run again end) _ (Good setting C) EndsWithElements (all.by C again end k g')
          (λ next gn. ends_then (evaluated setting.program entry next) _ _
          (λ v. ends_then (fault_if LOOP (holds v)) _ _ (λ u. more next gn)))

  elements_allocated : (size : ℕ) (cell : Cell) (head : Head) (cells : List Value) (st : State)
      → HasElements (new_object head cells) → ArraysHaveElements st.store
      → Ends (allocated setting size cell head cells st) EndsWithElements
  elements_allocated size cell head cells st new f =
      ends_then (fault_if HEAP_FULL (nat_lt setting.limits.heap (order_of_cells size) || is_none
      (place setting.limits.heap (Taken (2 + count_taken st.log) (order_of_cells size) ∷ st.log)))) _ _
      (λ u. ends_done (written (added st size head cells) cell (Name (2 + count_taken st.log))) 0 EndsWithElements
      (elements_written (added st size head cells) cell (Name (2 + count_taken st.log))
      (elements_added st.store (2 + count_taken st.log) (new_object head cells) new f)))

  elements_new_array : (target : Lvalue) (size : Expression) (head : ℕ → Head) (element : Value) (st : State)
      → ArraysHaveElements st.store → Ends (new_array setting target size head element st) EndsWithElements
  elements_new_array target size head element st f =
      ends_then (found setting.program target st) _ _ (λ cell. ends_then (evaluated setting.program size st) _ _
      (λ v. ends_then (fault_if NOT_NIL (not (is_nil (read st cell)))) _ _ (λ a.
      ends_on (fault_if LENGTH (is_less (number_of v) 1)) _ (λ u. is_less (number_of v) 1 ≡ false)
      EndsWithElements (checked_ends LENGTH (is_less (number_of v) 1))
      (λ b long. ends_then (spend (setting.limits.heap + 1)) _ _ (λ c.
      ends_on (allocated setting (number_of v) cell (head (number_of v)) (replicate (number_of v) element) st) _
      EndsWithElements EndsWithElements
      (elements_allocated (number_of v) cell (head (number_of v)) (replicate (number_of v) element) st
      (λ h. ap (λ k. is_less k 1) (length_replicate (number_of v) element) ∙ long) f)
      (λ end fine. ends_then (spend (number_of v)) _ _ (λ d. ends_done end 0 EndsWithElements fine)))))))

  elements_delete_array : (target : Lvalue) (size : Expression) (st : State) → IsSound st → ArraysHaveElements st.store
      → Ends (delete_array setting target size st) EndsWithElements
  elements_delete_array target size st s f =
      ends_then (found setting.program target st) _ _ (λ cell. ends_then (evaluated setting.program size st) _ _
      (λ v. ends_then (fault_if NIL (is_nil (read st cell))) _ _ (λ a.
      ends_then (fault_if LENGTH_DIFFERS (not (nat_eq
      (length (object_at st.store (number_of (read st cell))).cells) (number_of v)))) _ _
      (λ b. ends_then (fault_if COUNT (not (nat_eq (object_at st.store (number_of (read st cell))).count 1)))
      _ _ (λ c.
      ends_then (spend (setting.limits.heap + 1 + length (object_at st.store (number_of (read st cell))).cells)) _ _
      (λ d. ends_then (fault_if NOT_EMPTY (not (all_zero
      (object_at st.store (number_of (read st cell))).cells))) _ _ (λ x.
      ends_done (freed setting cell (number_of (read st cell)) st) 0 EndsWithElements
      (elements_freed setting cell (number_of (read st cell)) st s f))))))))

  elements_invoked : (C : Context setting) (back : Bool) (method : Procedure) (self own : ℕ) (params : List Var)
      (receiver args : List Cell) (kinds : List Kind) (st : State) → Good setting C st
      → IsCallIn setting classes C st method self own params receiver args kinds
      → Ends (invoked setting run back method self receiver args st) EndsWithElements
  elements_invoked C back method self own params receiver args kinds st g call =
      let caller = moved_out (receiver ++ args) st in
      let entry = entered method self receiver args st in
      let inner = call_inner setting classes C method self own params receiver args kinds st call in
      let out = later_moved_out (receiver ++ args) st g.drawn in
      ends_on (run (in_direction back method.body) entry) _ (Good setting inner.inner) EndsWithElements
      (all.by inner.inner (in_direction back method.body) entry (inner.checked back)
      (record {
        sound = inner.sound;
        drawn = record {
          unique = out.sound.unique;
          drawn = out.sound.drawn;
          positive = out.sound.positive;
        };
        arrays = elements_moved_out (receiver ++ args) st g.arrays;
      }))
      (λ end good. elements_moved_back (receiver ++ args) (map (read st) receiver
      ++ map (λ binding. binding.value) end.frame) (record caller { store = end.store; log = end.log })
      good.arrays)

  elements_statement : (C : Context setting) (n : ℕ) (s : Statement) (st : State) → Checked setting C (Then s End)
      → Good setting C st → Ends (statement setting n run s st) EndsWithElements
  elements_statement C n (Update at op target value) st h g =
      ends_then (found setting.program target st) _ _ (λ cell. ends_then (evaluated setting.program value st) _ _
      (λ v. ends_then (kept_apart setting.program (own_element target) (index_elements target ++ elements value)
      st) _ _ (λ z. ends_done (written st cell (Word (updated op (number_of (read st cell)) (number_of v)))) 0
      EndsWithElements (elements_written st cell (Word (updated op (number_of (read st cell)) (number_of v)))
      g.arrays))))
  elements_statement C n (Swap at left right) st h g =
      ends_then (found setting.program left st) _ _ (λ a. ends_then (found setting.program right st) _ _
      (λ b. ends_then (kept_apart setting.program (own_element left ++ own_element right)
      (index_elements left ++ index_elements right) st) _ _
      (λ z. ends_done (written (written st a (read st b)) b (read st a)) 0 EndsWithElements
      (elements_written (written st a (read st b)) b (read st a)
      (elements_written st a (read st b) g.arrays)))))
  elements_statement C n (If at test taken other after) st h g =
      let typing = setting_in setting.program (table_of setting.program) C.class in
      let a = both_passed (test_rules typing C.locals test after)
      (in_turn (check_statements typing C.locals taken) (check_statements typing C.locals other))
      (first_rule setting C (If at test taken other after) h) in
      let b = both_passed (check_statements typing C.locals taken) (check_statements typing C.locals other) a.1 in
      ends_then (evaluated setting.program test st) _ _ (λ v. ends_on (run (cond (holds v) taken other) st) _
      (Good setting C) EndsWithElements (all.by C (cond (holds v) taken other) st
      (chosen C (holds v) taken other (record { passes = b.0; plain = h.plain.0.1 })
      (record { passes = b.1; plain = h.plain.0.2 })) g) (λ end good.
      ends_then (evaluated setting.program after end) _ _ (λ w. ends_then
      (fault_if FI (if holds v then not (holds w) else holds w)) _ _
      (λ u. ends_done end 0 EndsWithElements good.arrays))))
  elements_statement C n (From at entry first again exit) st h g =
      let typing = setting_in setting.program (table_of setting.program) C.class in
      let a = both_passed (test_rules typing C.locals entry exit)
      (in_turn (check_statements typing C.locals first) (check_statements typing C.locals again))
      (first_rule setting C (From at entry first again exit) h) in
      let b = both_passed (check_statements typing C.locals first) (check_statements typing C.locals again) a.1 in
      ends_then (evaluated setting.program entry st) _ _ (λ v. ends_then (fault_if LOOP (not (holds v))) _ _
      (λ u. elements_turns C n entry first again exit st (record { passes = b.0; plain = h.plain.0.1 })
      (record { passes = b.1; plain = h.plain.0.2 }) g))
  elements_statement C n (Construct at class name body end) st h g =
      elements_scope name.text (Null at) (constructed at class name body) (Null at) st g.drawn g.arrays
      (λ v is. nil_entry name.text (constructed at class name body) v is
      (construct_entry setting classes C at class name body end st h g.sound))
    where
      nil_entry : (name : List ℕ) (body : Statements) (v : Value) → value_in setting.program st (Null at) ≡ Ok v
          → Entry setting body (opened name Nil st) → Entry setting body (opened name v st)
      nil_entry name body v is e = (let same : Nil ≡ v = cc in let P : Value
          → Type 0 = λ x. Entry setting body (opened name x st) in subst P same e)
  elements_statement C n (Local at var value body end_var end_value) st h g =
      elements_scope var.name.text value body end_value st g.drawn g.arrays
      (λ v is. local_entry setting classes C at var value body end_var end_value st v h g.sound is)
  elements_statement C n (New at (AnObject class) target) st h g =
      let number = unwrap_or (class_number setting.program class.text) 0 in
      let cells = zero_values (class_fields setting.program number) in
      ends_then (found setting.program target st) _ _ (λ cell. ends_then
      (kept_apart setting.program (own_element target) (index_elements target) st) _ _
      (λ z. ends_then (fault_if NOT_NIL (not (is_nil (read st cell)))) _ _
      (λ u. ends_then (spend (setting.limits.heap + 1)) _ _
      (λ w. elements_allocated (length cells) cell (OfClass number) cells st (λ z. cc) g.arrays))))
  elements_statement C n (New at (Ints size) target) st h g = elements_new_array target size OfInts (Word 0) st g.arrays
  elements_statement C n (New at (Objects class size) target) st h g =
      elements_new_array target size (OfObjects (unwrap_or (class_number setting.program class.text) 0)) Nil st g.arrays
  elements_statement C n (Delete at (AnObject class) target) st h g =
      ends_then (found setting.program target st) _ _ (λ cell. ends_then
      (kept_apart setting.program (own_element target) (index_elements target) st) _ _
      (λ z. ends_then (fault_if NIL (is_nil (read st cell))) _ _ (λ a.
      ends_then (fault_if CLASS_DIFFERS (not (is_of_class (object_at st.store (number_of (read st cell))).head
      (class_number setting.program class.text)))) _ _ (λ b.
      ends_then (fault_if COUNT (not (nat_eq (object_at st.store (number_of (read st cell))).count 1))) _ _
      (λ c. ends_then (spend (setting.limits.heap + 1)) _ _ (λ d.
      ends_then (fault_if NOT_EMPTY (not (all_zero (object_at st.store (number_of (read st cell))).cells))) _ _
      (λ x. ends_done (freed setting cell (number_of (read st cell)) st) 0 EndsWithElements
      (elements_freed setting cell (number_of (read st cell)) st g.drawn g.arrays))))))))
  elements_statement C n (Delete at (Ints size) target) st h g = elements_delete_array target size st g.drawn g.arrays
  elements_statement C n (Delete at (Objects class size) target) st h g =
      elements_delete_array target size st g.drawn g.arrays
  elements_statement C n (Copy at kind source target) st h g =
      ends_then (found setting.program source st) _ _ (λ a. ends_then (found setting.program target st) _ _
      (λ b. ends_then (kept_apart setting.program (own_element target)
      (index_elements source ++ index_elements target) st) _ _
      (λ z. ends_then (fault_if NIL (is_nil (read st a))) _ _
      (λ u. ends_then (fault_if NOT_NIL (not (is_nil (read st b)))) _ _ (λ w.
      ends_done (count_changed suc (written st b (read st a)) (number_of (read st a))) 0 EndsWithElements
      (elements_counted suc (written st b (read st a)) (number_of (read st a))
      (elements_written st b (read st a) g.arrays)))))))
  elements_statement C n (Uncopy at kind source target) st h g =
      ends_then (found setting.program source st) _ _ (λ a. ends_then (found setting.program target st) _ _
      (λ b. ends_then (kept_apart setting.program (own_element target)
      (index_elements source ++ index_elements target) st) _ _
      (λ z. ends_then (fault_if NIL (is_nil (read st a))) _ _ (λ u.
      ends_then (fault_if NOT_SAME (not (same_value (read st a) (read st b)) || same_cell a b)) _ _ (λ w.
      ends_done (count_changed one_less (written st b Nil) (number_of (read st a))) 0 EndsWithElements
      (elements_counted one_less (written st b Nil) (number_of (read st a))
      (elements_written st b Nil g.arrays)))))))
  elements_statement C n (Call at back None method args) st h g =
      let c = own_call setting classes C at back method args st h g.sound in
      let P : ℕ → Type 0 = λ k. Ends (invoked setting run back (method_named setting.program k method.text) st.self []
      (cells_named setting st args) st) EndsWithElements in
      ends_then (spend (length args)) _ _ (λ u. ends_then (fault_if TOO_DEEP (is_too_deep setting st)) _ _ (λ w.
      subst P (sym c.class_is) (elements_invoked C back (method_named setting.program c.own method.text) st.self c.own
      c.params [] (cells_named setting st args) [] st g c.call)))
  elements_statement C n (Call at back (Some (Whole name)) method args) st h g =
      let cell = cell_named setting.program st name.text in
      let self = number_of (read st cell) in
      ends_then (spend (length args)) _ _ (λ u. ends_on (fault_if NIL (is_nil (read st cell))) _
      (λ u. is_nil (read st cell) ≡ false) EndsWithElements (checked_ends NIL (is_nil (read st cell)))
      (λ w some. ends_then (fault_if TOO_DEEP (is_too_deep setting st)) _ _ (λ x.
      let c = object_call setting classes C at back name method args st h g.sound some in
      let P : ℕ → Type 0 = λ k. Ends (invoked setting run back (method_named setting.program k method.text) c.self
      (cell ∷ []) (cells_named setting st args) st) EndsWithElements in
      let Q : ℕ → Type 0 = λ k. Ends (invoked setting run back
      (method_named setting.program (class_of setting st k) method.text) k (cell ∷ [])
      (cells_named setting st args) st) EndsWithElements in
      subst Q (sym (ap number_of c.holds)) (subst P (sym c.class_is)
      (elements_invoked C back (method_named setting.program c.own method.text) c.self c.own c.params (cell ∷ [])
      (cells_named setting st args) (kind.Class c.static ∷ []) st g c.call)))))
  elements_statement C n (Call at back (Some (Item name index)) method args) st h g =
      elements_scope [] (Null at) (element_call at back name index method args) (Null at) st g.drawn g.arrays
      (λ v is. nil_entry v is (element_entry setting classes C at back name index method args st h g.sound))
    where
      nil_entry : (v : Value) → value_in setting.program st (Null at) ≡ Ok v
          → Entry setting (element_call at back name index method args) (opened [] Nil st)
          → Entry setting (element_call at back name index method args) (opened [] v st)
      nil_entry v is e = (let same : Nil ≡ v = cc in let P : Value
          → Type 0 = λ x. Entry setting (element_call at back name index method args) (opened [] x st) in
          subst P same e)
  elements_statement C n (Skip at) st h g = ends_done st 0 EndsWithElements g.arrays

-- one statement as a block
lone : (r : Run State) (end : State) (c : ℕ) → r ≡ Done end c
    → after_cost 1 (r >>= (λ st. Done st 0)) ≡ Done end (1 + (c + 0))
lone r end c e = ap (λ x. after_cost 1 (x >>= (λ st. Done st 0))) e

pub first_checked : (setting : Setting) (C : Context setting) (first : Statement) (rest : Statements)
    → Checked setting C (Then first rest) → Checked setting C (Then first End)
first_checked setting C first rest h =
    let typing = setting_in setting.program (table_of setting.program) C.class in
    let both = both_passed (check_statement typing C.locals first) (check_statements typing C.locals rest) h.passes in
    record { passes = ap (λ v. in_turn v verdict_passed) both.0; plain = (h.plain.0, tt) }

pub rest_checked : (setting : Setting) (C : Context setting) (first : Statement) (rest : Statements)
    → Checked setting C (Then first rest) → Checked setting C rest
rest_checked setting C first rest h =
    let typing = setting_in setting.program (table_of setting.program) C.class in
    record {
      passes = (both_passed (check_statement typing C.locals first) (check_statements typing C.locals rest)
          h.passes).1;
      plain = h.plain.1;
    }

-- a checked block keeps good states good
good_of : (setting : Setting) (classes : KnowsClasses setting.program) (C : Context setting) (n : ℕ) (body : Statements)
    (st end : State) (cost : ℕ) → Checked setting C body → Good setting C st → exec setting n body st ≡ Done end cost
    → ArraysHaveElements end.store → Good setting C end
good_of setting classes C n body st end cost h g e f =
    record {
      sound = (e2_done _ (exec setting n body st) end cost
          ((exec_keeps setting classes n).by C.extra C.locals C.shape C.class body st C.inside C.means h.passes
          h.plain g.sound) e).sound;
      drawn = ((keeps_exec setting n body st).by end cost e g.drawn).sound;
      arrays = f;
    }

good_exec : (setting : Setting) (classes : KnowsClasses setting.program) (n : ℕ) → GoodAll setting (exec setting n)
good_exec setting classes zero = record { by = by }
  where
    by : (C : Context setting) (body : Statements) (st : State) → Checked setting C body → Good setting C st
        → Ends (exec setting zero body st) (Good setting C)
    by C End st h g = ends_done st 0 (Good setting C) g
    by C (Then first rest) st h g = ends_more (Good setting C)
good_exec setting classes (suc n) = record { by = by (good_exec setting classes n) }
  where
    by : GoodAll setting (exec setting n) → (C : Context setting) (body : Statements) (st : State)
        → Checked setting C body → Good setting C st → Ends (exec setting (suc n) body st) (Good setting C)
    by all C End st h g = ends_done st 0 (Good setting C) g
    by all C (Then first rest) st h g =
        let only = first_checked setting C first rest h in
        ends_then (spend 1) _ _ (λ u. ends_on (statement setting n (exec setting n) first st) _ (Good setting C)
        (Good setting C)
        (record {
          by = λ mid c e. good_of setting classes C (suc n) (Then first End) st mid (1 + (c + 0)) only g
              (lone (statement setting n (exec setting n) first st) mid c e)
              ((elements_statement setting classes (exec setting n) all C n first st only g).by mid c e);
        })
        (λ mid good. all.by C rest mid (rest_checked setting C first rest h) good))

pub good_after : (setting : Setting) (classes : KnowsClasses setting.program) (C : Context setting) (n : ℕ)
    (body : Statements) (st end : State) (cost : ℕ) → Checked setting C body → Good setting C st
    → exec setting n body st ≡ Done end cost → Good setting C end
good_after setting classes C n body st end cost h g e = ((good_exec setting classes n).by C body st h g).by end cost e
