-- Each form of statement keeps every live object reached, if the blocks inside it do.
use Rattle.std.proofs.Common.{◌≡◌, ◌∙◌, sym, ap, subst, refl, ℕ, zero, suc, ◌+◌, ◌<◌, Bool, true, false, List, [], ◌∷◌}
use Rattle.std.proofs.Common.{map, length, Some, None, arith}
use Rattle.std.proofs.lemmas.Bool.{or_left}
use Rattle.std.proofs.lemmas.List.{length-map, length-replicate}
use Rattle.std.specs.Prelude.{nat_eq, nat_lt, is_none, not, ◌&&◌, ◌||◌, ◌++◌, if◌then◌else◌, replicate, Ok}
use Rattle.std.specs.Option.{unwrap_or}
use Rattle.meaning_sound.specs.rpp_words.Words.{is_less}
use Rattle.meaning_sound.specs.rpp_tree.declared.tree.Ident.{Ident}
use Rattle.meaning_sound.specs.rpp_tree.declared.tree.Var.{Var}
use Rattle.meaning_sound.specs.rpp_tree.declared.tree.VarType.{VarType}
use Rattle.meaning_sound.specs.rpp_tree.declared.tree.UpdateOp.{UpdateOp}
use Rattle.meaning_sound.specs.rpp_tree.Tree.{Expression, Lvalue, Whole, Object as AnObject, Ints, Objects, Statements}
use Rattle.meaning_sound.specs.rpp_tree.Tree.{Update, Swap}
use Rattle.meaning_sound.specs.rpp_tree.Tree.{If, From, New, Delete, Copy, Uncopy, Call, Source, nodes, index_nodes}
use Rattle.meaning_sound.specs.class_rules.declared.kind.Kind.{Kind}
use Rattle.meaning_sound.specs.class_rules.declared.kind.Kind.TheVariants as kind
use Rattle.meaning_sound.specs.class_rules.Classes.{class_fields, class_number, method_named}
use Rattle.meaning_sound.specs.class_rules.Overrides.{parameters_of}
use Rattle.meaning_sound.specs.class_rules.Table.{table_of, dispatch_in}
use Rattle.meaning_sound.specs.class_rules.Refusal.{type_differs, unknown_name}
use Rattle.meaning_sound.specs.class_rules.Scope.{Typing, Local, Locals, kind_in}
use Rattle.meaning_sound.specs.class_rules.Expressions.{is_int, type_of, place_type}
use Rattle.meaning_sound.specs.class_rules.Statements.{verdict_passed, required, same_kind, update_rules, swap_rules}
use Rattle.meaning_sound.specs.class_rules.Statements.{make_rules, copy_rules}
use Rattle.meaning_sound.specs.class_rules.Statements.{call_rules, check_statements}
use Rattle.meaning_sound.specs.class_rules.Program.{setting_in}
use Rattle.meaning_sound.specs.buddy_book.Place.{count_taken, place}
use Rattle.meaning_sound.specs.roopl_semantics.Operators.{updated}
use Rattle.meaning_sound.specs.roopl_semantics.Run.{Run, ◌>>=◌, give, spend, fault_if}
use Rattle.meaning_sound.specs.roopl_semantics.Store.{Value, Word, Nil, Name, Head, OfClass, OfInts, OfObjects, Store}
use Rattle.meaning_sound.specs.roopl_semantics.Store.{State}
use Rattle.meaning_sound.specs.roopl_semantics.Store.{number_of, is_nil, same_value, zero_value, zero_values, object_at}
use Rattle.meaning_sound.specs.roopl_semantics.Value.{Cell, Slot, read, written, own_class, cell_named, value_at}
use Rattle.meaning_sound.specs.roopl_semantics.Value.{value as value_in}
use Rattle.meaning_sound.specs.roopl_semantics.Value.{cell_of, NIL}
use Rattle.meaning_sound.specs.roopl_semantics.Execution.{Setting, Runner, holds, LOOP, FI, DELOCAL, NOT_NIL}
use Rattle.meaning_sound.specs.roopl_semantics.Execution.{COUNT, NOT_EMPTY, HEAP_FULL, CLASS_DIFFERS}
use Rattle.meaning_sound.specs.roopl_semantics.Execution.{LENGTH_DIFFERS, LENGTH, NOT_SAME, TOO_DEEP}
use Rattle.meaning_sound.specs.roopl_semantics.Execution.{same_cell, is_of_class, all_zero, allocated, freed}
use Rattle.meaning_sound.specs.roopl_semantics.Execution.{count_changed, one_less}
use Rattle.meaning_sound.specs.roopl_semantics.Execution.{new_array, delete_array, order_of_cells, opened, closed}
use Rattle.meaning_sound.specs.roopl_semantics.Execution.{with_local}
use Rattle.meaning_sound.specs.roopl_semantics.Execution.{turn_end, turns, cells_named, class_of, is_too_deep, invoked}
use Rattle.meaning_sound.specs.roopl_semantics.Execution.{statement}
use Rattle.meaning_sound.specs.roopl_semantics.Elements.{SHARED_ARRAY, elements, index_elements, own_element}
use Rattle.meaning_sound.specs.roopl_semantics.Elements.{share_array}
use Rattle.meaning_sound.specs.roopl_semantics.Elements.{read_cost}
use Rattle.meaning_sound.specs.roopl_semantics.Laws.{one_if_name}
use Rattle.meaning_sound.specs.class_rules.Inheritance.{kind_of_var}
use Rattle.meaning_sound.specs.Sound.{is_of_kind, cell_kinds, AllFit, cell_kind, Sound, Keeps, Typed}
use Rattle.meaning_sound.specs.Plain.{IsPlain}
use Rattle.meaning_sound.specs.Kept.{MeansSame}
use Rattle.meaning_sound.proofs.Stores.{none_above}
use Rattle.meaning_sound.proofs.Cells.{typed_of, read_fits, typed_written, kind_stays}
use Rattle.meaning_sound.proofs.Classes.{KnowsClasses}
use Rattle.meaning_sound.proofs.Names.{is_object, cell_named_kind, meant}
use Rattle.meaning_sound.proofs.Runs.{Ends, ends_after, ends_then, ends_check, ends_checked, ends_given}
use Rattle.meaning_sound.proofs.class_rules_laws.PassedRules.{handed_on, both_passed, held as was_held, both_true}
use Rattle.meaning_sound.proofs.class_rules_laws.PassedRules.{int_kind, kinds_same}
use Rattle.meaning_sound.proofs.class_rules_laws.PassedRules.{some_of}
use Rattle.meaning_sound.proofs.Values.{int_value, cell_found, place_fits}
use Rattle.meaning_sound.proofs.Writes.{nil_is}
use Rattle.meaning_sound.proofs.Blocks.{KeepsAll}
use Rattle.meaning_sound.proofs.Locals.{passes_not, IsLocalEnd, HoldsNone, begins, ends_with, means_under}
use Rattle.meaning_sound.proofs.Locals.{opened_sound, same_value_is}
use Rattle.meaning_sound.proofs.Objects.{bigger, bigger_typed, cell_bigger, read_bigger}
use Rattle.meaning_sound.proofs.Removal.{reference, one_name, not_less}
use Rattle.meaning_sound.proofs.Makes.{zeros_fit, same_fit, made_place, no_int_takes, name_is, copy_parts}
use Rattle.meaning_sound.proofs.Calls.{apart_after, all_apart_after, all_mean, args_have, apart_cells}
use Rattle.meaning_sound.proofs.Calls.{all_apart_cells, all_own_cells, meant_own, call_parts, receiver_parts}
use Rattle.meaning_reached.specs.Reached.{is_value_within, Reaches}
use Rattle.meaning_reached.proofs.Rooted.{IsVisible, visible}
use Rattle.meaning_reached.proofs.Changes.{cell_turned, opened_reaches, closed_reaches, write_reaches, swap_reaches}
use Rattle.meaning_reached.proofs.Creations.{grown_reaches, shrunk_reaches, copy_reaches, uncopy_reaches}
use Rattle.meaning_reached.proofs.Callings.{ReachesAll, ends_both, invoked_reaches}

none_within : (names : ℕ → Bool) (v : Value) → HoldsNone v → is_value_within names v ≡ true
none_within names (Word w) h = refl
none_within names Nil h = refl
none_within names (Name n) h = absurd (let a = h n in let b = one_name n in omega arith)

module _ (setting : Setting) (classes : KnowsClasses setting.program) (run : Runner) (keeps : KeepsAll setting run)
    (reaches : ReachesAll setting run) (extra : ℕ → ℕ) (locals shape : Locals) (class : ℕ)
    (inside : class < length setting.program.classes) (means : MeansSame locals shape) where
  abbrev program : Source
  program = setting.program

  abbrev typing : Typing
  typing = setting_in program (table_of program) class

  abbrev Good : State → Type 0
  Good end = Reaches extra end

  abbrev IsSound : State → Type 0
  IsSound st = Sound setting extra shape class st

  seen : (st : State) (target : Lvalue) (k : Kind) (cell : Cell) → IsSound st → place_type typing locals target ≡ Ok k
      → cell_of program st target ≡ Ok cell → IsVisible program shape st k cell
  seen st target k cell s h e = visible setting classes extra locals shape class inside means st target k cell
      (typed_of setting extra shape class st s) h e

  there : (st : State) (target : Lvalue) (k : Kind) (cell : Cell) → IsSound st → place_type typing locals target ≡ Ok k
      → cell_of program st target ≡ Ok cell → cell_kind program shape st.store cell ≡ Some k
  there st target k cell s h e = cell_found program shape st.store k (cell_of program st target) cell
      (place_fits setting classes extra locals shape class inside means st target k
      (typed_of setting extra shape class st s) h) e

  -- a block that is run
  ran : (body : Statements) (st : State) → check_statements typing locals body ≡ verdict_passed → IsPlain body
      → IsSound st
      → Good st → Ends (λ end. Keeps setting extra shape class st end × Good end) (run body st)
  ran body st h p s r = ends_both (Keeps setting extra shape class st) Good (run body st)
      (keeps.by extra locals shape class body st inside means h p s)
      (reaches.by extra locals shape class body st inside means h p s r)

  pub update_reached : (n at : ℕ) (op : UpdateOp) (target : Lvalue) (value : Expression) (st : State)
      → update_rules typing locals at target value ≡ verdict_passed → IsSound st → Good st
      → Ends Good (statement setting n run (Update at op target value) st)
  update_reached n at op target value st h s r =
      let t = typed_of setting extra shape class st s in
      let p = handed_on (place_type typing locals target) _ tt h in
      let v = handed_on (type_of typing locals value) _ tt p.goes in
      let rules = both_passed (required (is_int p.value && is_int v.value) (type_differs at)) _ v.goes in
      let ints = both_true (is_int p.value) (is_int v.value) (was_held _ _ rules.0) in
      ends_given Good (index_nodes target) (cell_of program st target) _ (λ cell e.
      ends_given Good (nodes value) (value_in program st value) _ (λ x f.
      let place : cell_kind program shape st.store cell ≡ Some kind.Int = there st target p.value cell s p.is e
      ∙ ap (λ z. Some z) (int_kind p.value ints.0) in
      let was = int_value program st.store (read st cell) (read_fits setting extra shape class st cell kind.Int t place)
      in
      let changed = own_element target in
      let reads = index_elements target ++ elements value in
      let word = Word (updated op (number_of (read st cell)) (number_of x)) in
      ends_checked Good (read_cost changed reads) SHARED_ARRAY (share_array program st changed reads)
      (λ u. give (written st cell word)) (λ q.
      write_reaches setting extra shape class st cell word (λ names c q. ap (is_value_within names) was.is) r)))

  pub swap_reached : (n at : ℕ) (left right : Lvalue) (st : State)
      → swap_rules typing locals at left right ≡ verdict_passed
      → IsSound st → Good st → Ends Good (statement setting n run (Swap at left right) st)
  swap_reached n at left right st h s r =
      let t = typed_of setting extra shape class st s in
      let l = handed_on (place_type typing locals left) _ tt h in
      let w = handed_on (place_type typing locals right) _ tt l.goes in
      let rules = both_passed (required (same_kind l.value w.value) (type_differs at)) _ w.goes in
      let same = kinds_same l.value w.value (was_held _ _ rules.0) in
      let right_is : place_type typing locals right ≡ Ok l.value = w.is ∙ ap (λ z. Ok z) (sym same) in
      ends_given Good (index_nodes left) (cell_of program st left) _ (λ a e.
      ends_given Good (index_nodes right) (cell_of program st right) _ (λ b f.
      let ha = there st left l.value a s l.is e in
      let hb = there st right l.value b s right_is f in
      let y = read st b in
      let changed = own_element left ++ own_element right in
      let reads = index_elements left ++ index_elements right in
      let ends : Unit {0} → Run State = λ u. give (written (written st a y) b (read st a)) in
      ends_checked Good (read_cost changed reads) SHARED_ARRAY (share_array program st changed reads) ends (λ q.
      let t1 = typed_written setting extra shape class st a l.value y t ha
      (read_fits setting extra shape class st b l.value t hb) in
      swap_reaches setting extra shape class st a b l.value t ha hb (seen st left l.value a s l.is e)
      (seen st right l.value b s right_is f) (written st a y) refl t1
      (kind_stays setting extra shape class st a y b ∙ hb) r)))

  chosen : (P : Statements → Type 0) (b : Bool) (taken other : Statements) → P taken → P other
      → P (if b then taken else other)
  chosen P true taken other h k = h
  chosen P false taken other h k = k

  pub if_reached : (n at : ℕ) (test : Expression) (taken other : Statements) (after : Expression) (st : State)
      → check_statements typing locals taken ≡ verdict_passed → check_statements typing locals other ≡ verdict_passed
      → IsPlain taken
      → IsPlain other
      → IsSound st → Good st → Ends Good (statement setting n run (If at test taken other after) st)
  if_reached n at test taken other after st ht ho pt po s r =
      ends_given Good (nodes test) (value_in program st test) _ (λ v e.
      ends_then Good Good (run (if holds v then taken else other) st) _
      (reaches.by extra locals shape class (if holds v then taken else other) st inside means
      (chosen (λ b. check_statements typing locals b ≡ verdict_passed) (holds v) taken other ht ho)
      (chosen IsPlain (holds v) taken other pt po) s r)
      (λ end k. ends_given Good (nodes after) (value_in program end after) _
      (λ w f. ends_check Good FI (if holds v then not (holds w) else holds w) (λ x. give end) (λ q. k))))

  turn_end_reached : (entry : Expression) (again : Statements) (next : State → Run State)
      → check_statements typing locals again ≡ verdict_passed → IsPlain again
      → ((st : State) → IsSound st → Good st → Ends Good (next st)) → (exits : Bool) (st : State) → IsSound st → Good st
      → Ends Good (turn_end setting run entry again next exits st)
  turn_end_reached entry again next h p rest true st s r = r
  turn_end_reached entry again next h p rest false st s r =
      ends_then (λ end. Keeps setting extra shape class st end × Good end) Good (run again st) _ (ran again st h p s r)
      (λ end e. ends_given Good (nodes entry) (value_in program end entry) _
      (λ v f. ends_check Good LOOP (holds v) (λ x. next end) (λ q. rest end e.0.sound e.1)))

  turns_reached : (n : ℕ) (entry : Expression) (first again : Statements) (exit : Expression)
      → check_statements typing locals first ≡ verdict_passed → check_statements typing locals again ≡ verdict_passed
      → IsPlain first
      → IsPlain again → (st : State) → IsSound st → Good st → Ends Good (turns setting n run entry first again exit st)
  turns_reached zero entry first again exit hf ha pf pa st s r = tt
  turns_reached (suc n) entry first again exit hf ha pf pa st s r =
      ends_then (λ end. Keeps setting extra shape class st end × Good end) Good (run first st) _
      (ran first st hf pf s r)
      (λ end e. ends_given Good (nodes exit) (value_in program end exit) _ (λ v f.
      turn_end_reached entry again (turns setting n run entry first again exit) ha pa
      (turns_reached n entry first again exit hf ha pf pa) (holds v) end e.0.sound e.1))

  pub from_reached : (n at : ℕ) (entry : Expression) (first again : Statements) (exit : Expression) (st : State)
      → check_statements typing locals first ≡ verdict_passed → check_statements typing locals again ≡ verdict_passed
      → IsPlain first
      → IsPlain again
      → IsSound st → Good st → Ends Good (statement setting n run (From at entry first again exit) st)
  from_reached n at entry first again exit st hf ha pf pa s r =
      ends_given Good (nodes entry) (value_in program st entry) _
      (λ v e. ends_check Good LOOP (not (holds v)) (λ x. turns setting n run entry first again exit st) (λ q.
      turns_reached n entry first again exit hf ha pf pa st s r))

  pub with_local_reached : (name : List ℕ) (k : Kind) (value : Expression) (body : Statements) (end_value : Expression)
      (st : State)
      → IsLocalEnd typing locals name k value → IsLocalEnd typing locals name k end_value
      → check_statements typing (record { name = name; kind = k } ∷ locals) body ≡ verdict_passed → IsPlain body
      → IsSound st → Good st → Ends Good (with_local setting run name value body end_value st)
  with_local_reached name k value body end_value st first last checked plain s r =
      let l : Local = record { name = name; kind = k } in
      let t = typed_of setting extra shape class st s in
      ends_given Good (nodes value) (value_in program st value) _ (λ v e.
      let b = begins setting classes run keeps extra locals shape class inside means st name k value v t first e in
      let under = means_under l locals shape means in
      let so = opened_sound setting extra shape class st name k v s b.0 b.1 in
      ends_then (λ end. Keeps setting extra (l ∷ shape) class (opened name v st) end × Good end) Good
      (run body (opened name v st)) _
      (ends_both (Keeps setting extra (l ∷ shape) class (opened name v st)) Good (run body (opened name v st))
      (keeps.by extra (l ∷ locals) (l ∷ shape) class body (opened name v st) inside under checked plain so)
      (reaches.by extra (l ∷ locals) (l ∷ shape) class body (opened name v st) inside under checked plain so
      (opened_reaches extra name v st r)))
      (λ end kept. ends_given Good (nodes end_value) (value_in program end end_value) _ (λ w f.
      ends_check Good DELOCAL (not (same_value (read end (Slot 0)) w)) (λ x. give (closed end)) (λ q.
      let te = typed_of setting extra (l ∷ shape) class end kept.0.sound in
      let no_name = ends_with setting classes run keeps extra locals shape class inside means end name k end_value w te
      last f in
      let same : value_at end.frame 0 ≡ w = same_value_is (value_at end.frame 0) w (passes_not _ q) in
      closed_reaches extra end (λ names. ap (is_value_within names) same ∙ none_within names w no_name) kept.1))))

  -- ---- new

  allocated_reached : (st : State) (head : Head) (cells : List Value) (size : ℕ) (cell : Cell) (k : Kind)
      → size ≡ length (cell_kinds program head) → IsSound st → cell_kind program shape st.store cell ≡ Some k
      → IsVisible program shape st k cell → not (is_nil (read st cell)) ≡ false
      → ((store : Store) → AllFit program store (cell_kinds program head) cells) → Good st
      → Ends Good (allocated setting size cell head cells st)
  allocated_reached st head cells size cell k sized s h v empty fit r =
      subst (λ n. Ends Good (allocated setting n cell head cells st)) (sym sized)
      (ends_check Good HEAP_FULL (nat_lt setting.limits.heap (order_of_cells (length (cell_kinds program head)))
      || is_none (place setting.limits.heap (big.log)))
      (λ x. give (written big cell (Name (2 + count_taken st.log)))) (λ q.
      let tb = bigger_typed setting extra shape class st head cells t fit
      (second (nat_lt setting.limits.heap (order_of_cells (length (cell_kinds program head)))) q) in
      grown_reaches setting extra shape class st (2 + count_taken st.log)
      (Rattle.meaning_sound.specs.roopl_semantics.Execution.new_object head cells) big.log cell k v s.self_held
      (none_above (2 + count_taken st.log) st.store (2 + count_taken st.log) s.fresh (omega arith)) tb
      (cell_bigger setting extra shape class st head cells cell k t h)
      (λ holder array ha. (
        read_bigger setting extra shape class st head cells holder array t ha,
        cell_bigger setting extra shape class st head cells holder array t ha,
      ))
      (ap (is_value_within (λ n. false)) (read_bigger setting extra shape class st head cells cell k t h
      ∙ nil_is (read st cell) empty)) r))
    where
      second : (a : Bool) {b : Bool} → (a || b) ≡ false → b ≡ false
      second true e = absurd (cc)
      second false e = e

      t : Typed setting extra shape class st
      t = typed_of setting extra shape class st s

      big : State
      big = bigger setting extra shape class st head cells

  pub new_object_reached : (n at : ℕ) (name : Ident) (target : Lvalue) (st : State)
      → make_rules typing locals at (AnObject name) target ≡ verdict_passed → IsSound st → Good st
      → Ends Good (statement setting n run (New at (AnObject name) target) st)
  new_object_reached n at name target st h s r =
      let p = made_place typing locals at (AnObject name) target h in
      let number = unwrap_or (class_number program name.text) 0 in
      ends_given Good (index_nodes target) (cell_of program st target) _ (λ cell e.
      let makes : Unit {0} → Run State = λ x. spend (setting.limits.heap + 1) >>=
      (λ y. allocated setting (length (zero_values (class_fields program number))) cell (OfClass number)
      (zero_values (class_fields program number)) st) in
      ends_checked Good (read_cost (own_element target) (index_elements target)) SHARED_ARRAY
      (share_array program st (own_element target) (index_elements target))
      (λ x. fault_if NOT_NIL (not (is_nil (read st cell))) >>= makes) (λ z.
      ends_check Good NOT_NIL (not (is_nil (read st cell))) makes (λ q.
      ends_after Good (setting.limits.heap + 1) _
      (allocated_reached st (OfClass number) (zero_values (class_fields program number))
      (length (zero_values (class_fields program number))) cell p.type
      (sizes (class_fields program number)) s (there st target p.type cell s p.is e)
      (seen st target p.type cell s p.is e) q (λ store. zeros_fit program store (class_fields program number)) r))))
    where
      sizes : (vars : List Var) → length (zero_values vars) ≡ length (map (kind_of_var program) vars)
      sizes vars = length-map vars (λ var. zero_value var.kind) ∙ sym (length-map vars (kind_of_var program))

  new_array_reached : (target : Lvalue) (size : Expression) (head : ℕ → Head) (element : Value) (k : Kind)
      (elements : Kind) (st : State) → place_type typing locals target ≡ Ok k
      → ((n : ℕ) → cell_kinds program (head n) ≡ replicate n elements)
      → ((store : Store) → is_of_kind program store element elements ≡ true)
      → IsSound st → Good st → Ends Good (new_array setting target size head element st)
  new_array_reached target size head element k elements st h kinds element_fits s r =
      ends_given Good (index_nodes target) (cell_of program st target) _ (λ cell e.
      ends_given Good (nodes size) (value_in program st size) _ (λ v f.
      let n = number_of v in
      ends_check Good NOT_NIL (not (is_nil (read st cell))) (λ x. made cell n) (λ q.
      let after : Unit {0} → Run State = λ x. spend (setting.limits.heap + 1) >>=
      (λ y. allocated setting n cell (head n) (replicate n element) st >>= (λ st'. spend n >>= (λ z. give st'))) in
      ends_check Good LENGTH (is_less n 1) after (λ u.
      ends_after Good (setting.limits.heap + 1) _
      (ends_then Good Good (allocated setting n cell (head n) (replicate n element) st)
      (λ st'. spend n >>= (λ z. give st'))
      (allocated_reached st (head n) (replicate n element) n cell k
      (sym (ap length (kinds n) ∙ length-replicate n elements)) s (there st target k cell s h e)
      (seen st target k cell s h e) q
      (λ store. subst (λ ks. AllFit program store ks (replicate n element)) (sym (kinds n))
      (same_fit program store elements element n (element_fits store))) r)
      (λ st' kept. kept))))))
    where
      made : Cell → ℕ → Run State
      made cell n = fault_if LENGTH (is_less n 1) >>=
          (λ x. spend (setting.limits.heap + 1) >>= (λ y. allocated setting n cell (head n) (replicate n element) st >>=
          (λ st'. spend n >>= (λ z. give st'))))

  pub new_ints_reached : (n at : ℕ) (size : Expression) (target : Lvalue) (st : State)
      → make_rules typing locals at (Ints size) target ≡ verdict_passed → IsSound st → Good st
      → Ends Good (statement setting n run (New at (Ints size) target) st)
  new_ints_reached n at size target st h s r =
      let p = made_place typing locals at (Ints size) target h in
      new_array_reached target size OfInts (Word 0) p.type kind.Int st p.is (λ n. refl) (λ store. refl) s r

  pub new_objects_reached : (n at : ℕ) (name : Ident) (size : Expression) (target : Lvalue) (st : State)
      → make_rules typing locals at (Objects name size) target ≡ verdict_passed → IsSound st → Good st
      → Ends Good (statement setting n run (New at (Objects name size) target) st)
  new_objects_reached n at name size target st h s r =
      let p = made_place typing locals at (Objects name size) target h in
      let number = unwrap_or (class_number program name.text) 0 in
      new_array_reached target size (OfObjects number) Nil p.type (kind.Class number) st p.is (λ n. refl)
      (λ store. refl) s r

  -- ---- delete

  gone : (st : State) (cell : Cell) (k : Kind) → IsSound st → cell_kind program shape st.store cell ≡ Some k
      → is_int k ≡ false → is_nil (read st cell) ≡ false
      → not (all_zero (object_at st.store (number_of (read st cell))).cells) ≡ false → Good st
      → Good (freed setting cell (number_of (read st cell)) st)
  gone st cell k s h no_int no_nil zeros r =
      let t = typed_of setting extra shape class st s in
      let n = reference program st.store (read st cell) k (read_fits setting extra shape class st cell k t h) no_int
      no_nil in
      shrunk_reaches setting extra shape class st cell (number_of (read st cell)) _ t (name_is (read st cell) n)
      (not_less _ zeros) r

  pub delete_object_reached : (n at : ℕ) (name : Ident) (target : Lvalue) (st : State)
      → make_rules typing locals at (AnObject name) target ≡ verdict_passed → IsSound st → Good st
      → Ends Good (statement setting n run (Delete at (AnObject name) target) st)
  delete_object_reached n at name target st h s r =
      let p = made_place typing locals at (AnObject name) target h in
      ends_given Good (index_nodes target) (cell_of program st target) _ (λ cell e.
      let object = object_at st.store (number_of (read st cell)) in
      let end : Unit {0} → Run State = λ x. give (freed setting cell (number_of (read st cell)) st) in
      let empty : Unit {0} → Run State = λ x. spend (setting.limits.heap + 1) >>=
      (λ y. fault_if NOT_EMPTY (not (all_zero object.cells)) >>= end) in
      let one : Unit {0} → Run State = λ x. fault_if COUNT (not (nat_eq object.count 1)) >>= empty in
      let same : Unit {0} → Run State = λ x. fault_if CLASS_DIFFERS
      (not (is_of_class object.head (class_number program name.text))) >>= one in
      ends_checked Good (read_cost (own_element target) (index_elements target)) SHARED_ARRAY
      (share_array program st (own_element target) (index_elements target))
      (λ x. fault_if NIL (is_nil (read st cell)) >>= same) (λ z.
      ends_check Good NIL (is_nil (read st cell)) same (λ q.
      ends_check Good CLASS_DIFFERS (not (is_of_class object.head (class_number program name.text))) one (λ w.
      ends_check Good COUNT (not (nat_eq object.count 1)) empty (λ u.
      ends_after Good (setting.limits.heap + 1) _ (ends_check Good NOT_EMPTY (not (all_zero object.cells)) end
      (λ v.
      gone st cell p.type s (there st target p.type cell s p.is e)
      (no_int_takes (table_of program) (AnObject name) p.type p.takes_it) q v r)))))))

  delete_array_reached : (target : Lvalue) (size : Expression) (k : Kind) (st : State)
      → place_type typing locals target ≡ Ok k → is_int k ≡ false → IsSound st → Good st
      → Ends Good (delete_array setting target size st)
  delete_array_reached target size k st h no_int s r =
      ends_given Good (index_nodes target) (cell_of program st target) _ (λ cell e.
      ends_given Good (nodes size) (value_in program st size) _ (λ v f.
      let array = object_at st.store (number_of (read st cell)) in
      let end : Unit {0} → Run State = λ x. give (freed setting cell (number_of (read st cell)) st) in
      let empty : Unit {0} → Run State = λ x. spend (setting.limits.heap + 1 + length array.cells) >>=
      (λ y. fault_if NOT_EMPTY (not (all_zero array.cells)) >>= end) in
      let one : Unit {0} → Run State = λ x. fault_if COUNT (not (nat_eq array.count 1)) >>= empty in
      let same : Unit {0} → Run State = λ x. fault_if LENGTH_DIFFERS
      (not (nat_eq (length array.cells) (number_of v))) >>= one in
      ends_check Good NIL (is_nil (read st cell)) same (λ q.
      ends_check Good LENGTH_DIFFERS (not (nat_eq (length array.cells) (number_of v))) one (λ z.
      ends_check Good COUNT (not (nat_eq array.count 1)) empty (λ u.
      ends_after Good (setting.limits.heap + 1 + length array.cells) _
      (ends_check Good NOT_EMPTY (not (all_zero array.cells)) end (λ w.
      gone st cell k s (there st target k cell s h e) no_int q w r)))))))

  pub delete_ints_reached : (n at : ℕ) (size : Expression) (target : Lvalue) (st : State)
      → make_rules typing locals at (Ints size) target ≡ verdict_passed → IsSound st → Good st
      → Ends Good (statement setting n run (Delete at (Ints size) target) st)
  delete_ints_reached n at size target st h s r =
      let p = made_place typing locals at (Ints size) target h in
      delete_array_reached target size p.type st p.is (no_int_takes (table_of program) (Ints size) p.type p.takes_it) s
      r

  pub delete_objects_reached : (n at : ℕ) (name : Ident) (size : Expression) (target : Lvalue) (st : State)
      → make_rules typing locals at (Objects name size) target ≡ verdict_passed → IsSound st → Good st
      → Ends Good (statement setting n run (Delete at (Objects name size) target) st)
  delete_objects_reached n at name size target st h s r =
      let p = made_place typing locals at (Objects name size) target h in
      delete_array_reached target size p.type st p.is (no_int_takes (table_of program) (Objects name size) p.type
      p.takes_it) s r

  -- ---- copy and uncopy

  pub copy_reached : (n at : ℕ) (of_type : VarType) (source target : Lvalue) (st : State) → Good st
      → Ends Good (statement setting n run (Copy at of_type source target) st)
  copy_reached n at of_type source target st r =
      ends_given Good (index_nodes source) (cell_of program st source) _ (λ a e.
      ends_given Good (index_nodes target) (cell_of program st target) _ (λ b f.
      let end : Unit {0} → Run State = λ x. give (count_changed suc (written st b (read st a)) (number_of (read st a)))
      in
      let changed = own_element target in
      let reads = index_elements source ++ index_elements target in
      let rest : Unit {0} → Run State = λ x. fault_if NOT_NIL (not (is_nil (read st b))) >>= end in
      ends_checked Good (read_cost changed reads) SHARED_ARRAY (share_array program st changed reads)
      (λ x. fault_if NIL (is_nil (read st a)) >>= rest) (λ u.
      ends_check Good NIL (is_nil (read st a)) rest (λ q.
      ends_check Good NOT_NIL (not (is_nil (read st b))) end (λ z.
      copy_reaches setting extra shape class st b (read st a) (number_of (read st a)) (nil_is (read st b) z) r)))))

  pub uncopy_reached : (n at : ℕ) (of_type : VarType) (source target : Lvalue) (st : State)
      → copy_rules typing locals at of_type source target ≡ verdict_passed → IsSound st → Good st
      → Ends Good (statement setting n run (Uncopy at of_type source target) st)
  uncopy_reached n at of_type source target st h s r =
      let p = copy_parts setting classes run extra locals shape class inside means at of_type source target h in
      ends_given Good (index_nodes source) (cell_of program st source) _ (λ a e.
      ends_given Good (index_nodes target) (cell_of program st target) _ (λ b f.
      let end : Unit {0} → Run State = λ x. give (count_changed one_less (written st b Nil) (number_of (read st a))) in
      let changed = own_element target in
      let reads = index_elements source ++ index_elements target in
      let rest : Unit {0} → Run State = λ x. fault_if NOT_SAME
      (not (same_value (read st a) (read st b)) || same_cell a b) >>= end in
      ends_checked Good (read_cost changed reads) SHARED_ARRAY (share_array program st changed reads)
      (λ x. fault_if NIL (is_nil (read st a)) >>= rest) (λ u.
      ends_check Good NIL (is_nil (read st a)) rest (λ q.
      ends_check Good NOT_SAME (not (same_value (read st a) (read st b)) || same_cell a b) end (λ z.
      let both = neither (same_value (read st a) (read st b)) (same_cell a b) z in
      uncopy_reaches setting extra shape class st a b p.first p.second (number_of (read st a))
      (seen st source p.first a s p.source_is e) s.self_held (there st target p.second b s p.target_is f)
      (λ y. sym p.as_array ∙ y)
      (sym (same_value_is (read st a) (read st b) both.0)) (cell_turned a b both.1) r)))))
    where
      neither : (x y : Bool) → (not x || y) ≡ false → (x ≡ true) × (y ≡ false)
      neither true y z = (refl, z)
      neither false y z = absurd (cc)

  -- ---- calls

  pub call_self_reached : (n at : ℕ) (back : Bool) (method : Ident) (args : List Ident) (st : State)
      → call_rules typing locals at None method args ≡ verdict_passed → IsSound st → Good st
      → Ends Good (statement setting n run (Call at back None method args) st)
  call_self_reached n at back method args st h s r =
      let t = typed_of setting extra shape class st s in
      let p = call_parts setting classes run keeps extra locals shape class inside means at None method args class h in
      let object = is_object program class st.store st.self t.self_is in
      let params = parameters_of program (dispatch_in typing.table class p.slot) in
      let cells = cells_named setting st args in
      let mean = all_mean setting classes run keeps extra locals shape class inside means true at args st t p.known in
      let run_it : Unit {0} → Run State = λ x. invoked setting run back
      (method_named program (own_class st) method.text) st.self [] cells st in
      ends_after Good (length args) _ (ends_check Good TOO_DEEP (is_too_deep setting st) run_it (λ q.
      subst (λ c. Ends Good (invoked setting run back (method_named program c method.text) st.self [] cells st))
      (sym object.class_is)
      (invoked_reaches setting classes run keeps reaches extra shape class back
      (method_named program object.own method.text) st.self object.own params [] cells [] st (record {
        sound = s;
        found = classes.found object.own class p.slot method.text object.above p.slot_is;
        receiver_has = tt;
        args_have = args_have setting classes run keeps extra locals shape class inside means true at params args st t
            p.known p.fit p.as_many;
        apart = all_apart_cells setting classes run keeps extra locals shape class inside means st args mean
            (all_apart_after [] args p.new);
        owned = all_own_cells setting classes run keeps extra locals shape class inside means st args mean;
        object = object.head;
        self_held = let a = s.self_held in omega arith;
      }) r)))

  pub call_object_reached : (n at : ℕ) (back : Bool) (name method : Ident) (args : List Ident) (st : State)
      → call_rules typing locals at (Some (Whole name)) method args ≡ verdict_passed → IsSound st → Good st
      → Ends Good (statement setting n run (Call at back (Some (Whole name)) method args) st)
  call_object_reached n at back name method args st h s z =
      let t = typed_of setting extra shape class st s in
      let r = receiver_parts setting classes run keeps extra locals shape class inside means at (Whole name) method args
      h in
      let p = call_parts setting classes run keeps extra locals shape class inside means at (Some (Whole name)) method
      args r.static r.rules in
      let known : kind_in typing locals name.text ≡ Some (kind.Class r.static) =
      some_of (kind_in typing locals name.text) (unknown_name name.at) (kind.Class r.static) r.is in
      let cell = cell_named program st name.text in
      let cell_is = cell_named_kind setting classes extra locals shape class inside means st name.text
      (kind.Class r.static) t known in
      let cell_meant = meant setting classes extra locals shape class inside means st name.text (kind.Class r.static) t
      known in
      let fit = read_fits setting extra shape class st cell (kind.Class r.static) t cell_is in
      let params = parameters_of program (dispatch_in typing.table r.static p.slot) in
      let cells = cells_named setting st args in
      let mean = all_mean setting classes run keeps extra locals shape class inside means false at args st t p.known in
      let self = number_of (read st cell) in
      let run_it : Unit {0} → Run State = λ x. invoked setting run back
      (method_named program (class_of setting st self) method.text) self (cell ∷ []) cells st in
      ends_after Good (length args) _ (
      ends_check Good NIL (is_nil (read st cell)) (λ x. fault_if TOO_DEEP (is_too_deep setting st) >>=
      run_it) (λ u.
      ends_check Good TOO_DEEP (is_too_deep setting st) run_it (λ q.
      let nm = reference program st.store (read st cell) (kind.Class r.static) fit refl u in
      let is_name = name_is (read st cell) nm in
      let object = is_object program r.static st.store self
      (subst (λ v. is_of_kind program st.store v (kind.Class r.static) ≡ true) is_name fit) in
      subst (λ c. Ends Good (invoked setting run back (method_named program c method.text) self (cell ∷ []) cells st))
      (sym object.class_is)
      (invoked_reaches setting classes run keeps reaches extra shape class back
      (method_named program object.own method.text) self object.own params (cell ∷ []) cells
      (kind.Class r.static ∷ []) st (record {
        sound = s;
        found = classes.found object.own r.static p.slot method.text object.above p.slot_is;
        receiver_has = (cell_is, tt);
        args_have = args_have setting classes run keeps extra locals shape class inside means false at params args st t
            p.known p.fit p.as_many;
        apart = (
          apart_cells setting classes run keeps extra locals shape class inside means st name cell args
              cell_meant mean (apart_after (name ∷ []) args name p.new
              (or_left (Rattle.std.specs.Str.bytes_eq name.text name.text) false
              (Rattle.meaning_sound.proofs.class_rules_laws.FirstPlaces.equal_name name.text name.text refl))),
          all_apart_cells setting classes run keeps extra locals shape class inside means st args mean
              (all_apart_after (name ∷ []) args p.new),
        );
        owned = (
          meant_own setting classes run keeps extra locals shape class inside means st name.text cell cell_meant,
          all_own_cells setting classes run keeps extra locals shape class inside means st args mean,
        );
        object = object.head;
        self_held = let a = ap (one_if_name self) is_name in let b = one_name self in omega arith;
      }) z))))
