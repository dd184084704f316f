-- The machine follows the semantics.
use Rattle.std.proofs.Common.{ℕ, zero, suc, ◌+◌, ◌≤◌, ◌<◌, sym, subst, append_assoc, ◌∙◌, arith, Bool, true, false, not}
use Rattle.std.proofs.Common.{◌||◌, List, [], ◌∷◌, ◌++◌, length, Option, Some, None, if◌then◌else◌}
use Rattle.std.specs.Prelude.{nat_eq, replicate}
use Rattle.std.specs.Option.{unwrap_or}
use Rattle.meaning_points.specs.rpp_words.Words.{is_less}
use Rattle.meaning_points.specs.rpp_tree.declared.tree.Ident.{Ident}
use Rattle.meaning_points.specs.rpp_tree.declared.tree.VarType.{VarType}
use Rattle.meaning_points.specs.rpp_tree.declared.tree.UpdateOp.{UpdateOp}
use Rattle.meaning_points.specs.rpp_tree.Tree.{Expression, Number, Null, Variable, Element, Binary, nodes, index_nodes}
use Rattle.meaning_points.specs.rpp_tree.Tree.{Lvalue, Whole}
use Rattle.meaning_points.specs.rpp_tree.Tree.{Item, Object as AnObject, Ints, Objects, Statement, Statements, Update}
use Rattle.meaning_points.specs.rpp_tree.Tree.{Swap, If, From}
use Rattle.meaning_points.specs.rpp_tree.Tree.{Construct, Local, New, Delete, Copy, Uncopy, Call, Skip, End, Then}
use Rattle.meaning_points.specs.rpp_tree.Tree.{Procedure}
use Rattle.meaning_points.specs.class_rules.Classes.{class_number, class_fields, method_named}
use Rattle.meaning_points.specs.roopl_semantics.Run.{Run, Done, Fault, More, after_cost, ◌>>=◌, give, spend, fault_if}
use Rattle.meaning_points.specs.roopl_semantics.Store.{Value, Word, Nil, Head, OfClass, OfInts, OfObjects, Object}
use Rattle.meaning_points.specs.roopl_semantics.Store.{object_at}
use Rattle.meaning_points.specs.roopl_semantics.Store.{zero_values, State, is_nil, is_zero, number_of, same_value}
use Rattle.meaning_points.specs.roopl_semantics.Value.{Cell, Slot, NIL, cell_named, own_class, read, written, evaluated}
use Rattle.meaning_points.specs.roopl_semantics.Value.{found}
use Rattle.meaning_points.specs.roopl_semantics.Value.{value as value_in, cell_of}
use Rattle.meaning_points.specs.roopl_semantics.Elements.{elements, index_elements, own_element, kept_apart, read_cost}
use Rattle.meaning_points.specs.roopl_semantics.Elements.{share_array}
use Rattle.meaning_points.specs.roopl_semantics.Elements.{SHARED_ARRAY}
use Rattle.meaning_points.specs.roopl_semantics.Execution.{Setting, holds, freed, all_zero, is_of_class, same_cell}
use Rattle.meaning_points.specs.roopl_semantics.Execution.{NOT_NIL}
use Rattle.meaning_points.specs.roopl_semantics.Execution.{COUNT, NOT_EMPTY, NOT_SAME, CLASS_DIFFERS}
use Rattle.meaning_points.specs.roopl_semantics.Execution.{LENGTH_DIFFERS, LENGTH, opened, closed, moved_back}
use Rattle.meaning_points.specs.roopl_semantics.Execution.{allocated}
use Rattle.meaning_points.specs.roopl_semantics.Execution.{new_array, delete_array, cells_named, class_of, is_too_deep}
use Rattle.meaning_points.specs.roopl_semantics.Execution.{constructed}
use Rattle.meaning_points.specs.roopl_semantics.Execution.{element_name, element_call, FI, LOOP, DELOCAL}
use Rattle.meaning_points.specs.roopl_semantics.Execution.{TOO_DEEP, TOUCHED, turns, turn_end, with_local, invoked}
use Rattle.meaning_points.specs.roopl_semantics.Execution.{statement, exec}
use Rattle.meaning_points.specs.Points.{Point, points_behind, begin_points, called_points, local_points, again_points}
use Rattle.meaning_points.specs.Points.{turn_points}
use Rattle.meaning_points.specs.Points.{call_points, inner_points, points}
use Rattle.meaning_machine.specs.Machine.{Config, Open, Chosen, First, Again, Holding, past_it, turned_first}
use Rattle.meaning_machine.specs.Machine.{held_local, entered, called, begun, walk}
use Rattle.meaning_machine.specs.MachineLaws.{MachineIsMeaning, MachineFollows, config_before, config_after}
use Rattle.meaning_machine.proofs.Steps.{after_zero, IsSure, sure_after, sure_then, sure_done, sure_given, Goes, spent}
use Rattle.meaning_machine.proofs.Steps.{fewer, over, over_silently, over_value, go, stay, waits, at_once, on}
use Rattle.meaning_machine.proofs.Steps.{on_silently}

sure_fault_if : (code : ℕ) (b : Bool) → IsSure (fault_if code b)
sure_fault_if code true = record { by = tt }
sure_fault_if code false = record { by = tt }

some_nodes : (e : Expression) → 0 < nodes e
some_nodes (Number at word) = omega arith
some_nodes (Null at) = omega arith
some_nodes (Variable name) = omega arith
some_nodes (Element name index) = omega arith
some_nodes (Binary at op l r) = omega arith

sure_moved : (cells : List Cell) (values : List Value) (st : State) → IsSure (moved_back cells values st)
sure_moved [] values st = sure_done st 0
sure_moved (cell ∷ cells) [] st = sure_done st 0
sure_moved (cell ∷ cells) (v ∷ values) st =
    sure_then (fault_if TOUCHED (not (is_zero (read st cell)))) _ (sure_fault_if _ _)
    (λ u. sure_moved cells values (written st cell v))

module _ (setting : Setting) (n : ℕ)
    (block : (past b : Statements) (params : ℕ) (around : List Open) (st : State)
    → Goes setting n (give (config_before past b params around st)) (config_after past b params around)
    (exec setting n b st)
    (points setting n params b st)) where
  sure_value : (e : Expression) (st : State) → IsSure (evaluated setting.program e st)
  sure_value e st = sure_given (nodes e) (value_in setting.program st e)

  -- a block with a local variable
  local : (x : Config) (s : Statement) (rest : Statements) (name : List ℕ) (value : Expression) (body : Statements)
      (end_value : Expression)
      → Goes setting n (held_local setting x s rest name value body end_value) (past_it x s rest)
      (with_local setting (exec setting n) name value body end_value x.state)
      (local_points setting (points setting n) x.params name value body x.state)
  local x s rest name value body end_value =
      over setting n (evaluated setting.program value x.state) _ _ _ _ (sure_value value x.state) (λ v.
      let o : Open = record { past = x.past; here = s; rest = rest; part = Holding name value end_value } in
      on_silently setting n _ (config_after End body x.params (o ∷ x.around)) _
      (exec setting n body (opened name v x.state)) _
      _ (block End body x.params (o ∷ x.around) (opened name v x.state)) (λ end.
      go setting n (config_after End body x.params (o ∷ x.around) end) _ _ []
      (over_silently setting n (evaluated setting.program end_value end) _ _ _ (sure_value end_value end) (λ w.
      over_silently setting n (fault_if DELOCAL (not (same_value (read end (Slot 0)) w))) _ _ _
      (sure_fault_if _ _) (λ u.
      stay setting n (past_it x s rest) (closed end))))))

  -- a method runs
  method : (x : Config) (s : Statement) (rest : Statements) (back : Bool) (m : Procedure) (self : ℕ)
      (receiver args : List Cell)
      → Goes setting n (give (entered setting x s rest back m self receiver args)) (past_it x s rest)
      (invoked setting (exec setting n) back m self receiver args x.state)
      (called_points setting (points setting n) back m self receiver args x.state)
  method x s rest back m self receiver args =
      let e : Config = entered setting x s rest back m self receiver args in
      on_silently setting n _ (config_after End e.rest e.params e.around) _ (exec setting n e.rest e.state) _ _
      (block End e.rest e.params e.around e.state) (λ end.
      go setting n (config_after End e.rest e.params e.around end) _ _ []
      (at_once setting n (past_it x s rest) _ (sure_moved (receiver ++ args) _ _)))

  call : (x : Config) (s : Statement) (rest : Statements) (at : ℕ) (back : Bool) (receiver : Option Lvalue)
      (name : Ident) (args : List Ident)
      → Goes setting n (called setting x s rest at back receiver name args) (past_it x s rest)
      (statement setting n (exec setting n) (Call at back receiver name args) x.state)
      (call_points setting (points setting n) x.params at back receiver name args x.state)
  call x s rest at back None name args =
      over setting n (spend (length args)) _ _ _ (λ u. call_points setting (points setting n) x.params at back None name
      args x.state) (sure_done tt (length args)) (λ u.
      over setting n (fault_if TOO_DEEP (is_too_deep setting x.state)) _ _ _ _ (sure_fault_if _ _) (λ w.
      method x s rest back (method_named setting.program (own_class x.state) name.text) x.state.self []
      (cells_named setting x.state args)))
  call x s rest at back (Some (Whole held)) name args =
      let cell = cell_named setting.program x.state held.text in
      let self = number_of (read x.state cell) in
      over setting n (spend (length args)) _ _ _ (λ u. call_points setting (points setting n) x.params at back
      (Some (Whole held)) name args x.state) (sure_done tt (length args)) (λ u.
      over setting n (fault_if NIL (is_nil (read x.state cell))) _ _ _ _ (sure_fault_if _ _) (λ u.
      over setting n (fault_if TOO_DEEP (is_too_deep setting x.state)) _ _ _ _ (sure_fault_if _ _) (λ w.
      method x s rest back (method_named setting.program (class_of setting x.state self) name.text) self (cell ∷ [])
      (cells_named setting x.state args))))
  call x s rest at back (Some (Item held index)) name args =
      local x s rest (element_name at).text (Null at) (element_call at back held index name args) (Null at)

  -- a loop
  module _ (x : Config) (s : Statement) (rest : Statements) (entry : Expression) (first again : Statements)
      (exit : Expression) where
    abbrev one : Open
    one = record { past = x.past; here = s; rest = rest; part = First entry first again exit }

    abbrev two : Open
    two = record { past = x.past; here = s; rest = rest; part = Again entry first again exit }

    second : (m : ℕ) → m ≤ n → (more : State → Run State) (list : State → List Point)
        → ((st : State) → Goes setting m (give (config_before End first x.params (one ∷ x.around) st))
        (past_it x s rest)
        (more st) (list st))
        → (b : Bool) (st : State)
        → Goes setting m (give (turned_first setting (config_after End first x.params (one ∷ x.around) st) one x.around
        (Again entry first again exit) again b)) (past_it x s rest)
        (turn_end setting (exec setting n) entry again more b st)
        (again_points setting (exec setting n) (points setting n) x.params entry again list b st)
    second m le more list goes true st = stay setting m (past_it x s rest) st
    second m le more list goes false st =
        on setting m _ (config_after End again x.params (two ∷ x.around)) _ (exec setting n again st) _ _ _
        (fewer setting m n _ _ (exec setting n again st) _ le (block End again x.params (two ∷ x.around) st)) (λ end.
        go setting m (config_after End again x.params (two ∷ x.around) end) _ _ _
        (over setting m (evaluated setting.program entry end) _ _ _ _ (sure_value entry end) (λ v.
        over setting m (fault_if LOOP (holds v)) _ _ _ _ (sure_fault_if _ _) (λ u. goes end))))

    loop : (m : ℕ) → m ≤ n → (st : State)
        → Goes setting m (give (config_before End first x.params (one ∷ x.around) st)) (past_it x s rest)
        (turns setting m (exec setting n) entry first again exit st)
        (turn_points setting m (exec setting n) (points setting n) x.params entry first again exit st)
    loop zero le st = waits setting {A = State} _ (past_it x s rest)
    loop (suc m) le st =
        on setting (suc m) _ (config_after End first x.params (one ∷ x.around)) _ (exec setting n first st) _ _ _
        (fewer setting (suc m) n _ _ (exec setting n first st) _ le (block End first x.params (one ∷ x.around) st))
        (λ end.
        go setting (suc m) (config_after End first x.params (one ∷ x.around) end) _ _ _
        (over_value setting (suc m) m (nodes exit) (value_in setting.program end exit) _ _ _ _
        (let p = some_nodes exit in omega arith) (λ v.
        second m (omega arith) (turns setting m (exec setting n) entry first again exit)
        (turn_points setting m (exec setting n) (points setting n) x.params entry first again exit)
        (loop m (omega arith)) (holds v) end)))

  -- ---- statements that hold no others

  sure_found : (target : Lvalue) (st : State) → IsSure (found setting.program target st)
  sure_found target st = sure_given (index_nodes target) (cell_of setting.program st target)

  sure_apart : (changed reads : List Ident) (st : State) → IsSure (kept_apart setting.program changed reads st)
  sure_apart changed reads st = sure_after (read_cost changed reads)
      (fault_if SHARED_ARRAY (share_array setting.program st changed reads)) (sure_fault_if _ _)

  sure_allocated : (size : ℕ) (cell : Cell) (head : Head) (cells : List Value) (st : State)
      → IsSure (allocated setting size cell head cells st)
  sure_allocated size cell head cells st = sure_then (fault_if _ _) _ (sure_fault_if _ _) (λ u. sure_done _ 0)

  sure_new_array : (target : Lvalue) (size : Expression) (head : ℕ → Head) (element : Value) (st : State)
      → IsSure (new_array setting target size head element st)
  sure_new_array target size head element st =
      sure_then (found setting.program target st) _ (sure_found target st) (λ cell.
      sure_then (evaluated setting.program size st) _ (sure_value size st) (λ v.
      sure_then (fault_if NOT_NIL (not (is_nil (read st cell)))) _ (sure_fault_if _ _) (λ u.
      sure_then (fault_if LENGTH (is_less (number_of v) 1)) _ (sure_fault_if _ _) (λ u.
      sure_after (setting.limits.heap + 1) (allocated setting (number_of v) cell (head (number_of v))
      (replicate (number_of v) element) st >>= (λ st'. after_cost (number_of v) (give st')))
      (sure_then (allocated setting (number_of v) cell (head (number_of v)) (replicate (number_of v) element) st) _
      (sure_allocated (number_of v) cell (head (number_of v)) (replicate (number_of v) element) st) (λ st'.
      sure_after (number_of v) (give st') (sure_done st' 0)))))))

  sure_delete_array : (target : Lvalue) (size : Expression) (st : State) → IsSure (delete_array setting target size st)
  sure_delete_array target size st =
      sure_then (found setting.program target st) _ (sure_found target st) (λ cell.
      sure_then (evaluated setting.program size st) _ (sure_value size st) (λ v.
      let name : ℕ = number_of (read st cell) in
      let array : Object = object_at st.store name in
      sure_then (fault_if NIL (is_nil (read st cell))) _ (sure_fault_if _ _) (λ u.
      sure_then (fault_if LENGTH_DIFFERS (not (nat_eq (length array.cells) (number_of v)))) _ (sure_fault_if _ _)
      (λ u.
      sure_then (fault_if COUNT (not (nat_eq array.count 1))) _ (sure_fault_if _ _) (λ u.
      sure_after (setting.limits.heap + 1 + length array.cells)
      (fault_if NOT_EMPTY (not (all_zero array.cells)) >>= (λ u. give (freed setting cell name st)))
      (sure_then (fault_if NOT_EMPTY (not (all_zero array.cells))) _ (sure_fault_if _ _)
      (λ u. sure_done (freed setting cell name st) 0)))))))

  sure_update : (at : ℕ) (op : UpdateOp) (target : Lvalue) (value : Expression) (st : State)
      → IsSure (statement setting n (exec setting n) (Update at op target value) st)
  sure_update at op target value st =
      sure_then (found setting.program target st) _ (sure_found target st) (λ cell.
      sure_then (evaluated setting.program value st) _ (sure_value value st) (λ v.
      sure_then (kept_apart setting.program (own_element target) (index_elements target ++ elements value) st) _
      (sure_apart (own_element target) (index_elements target ++ elements value) st) (λ u. sure_done _ 0)))

  sure_swap : (at : ℕ) (l r : Lvalue) (st : State) → IsSure (statement setting n (exec setting n) (Swap at l r) st)
  sure_swap at l r st =
      sure_then (found setting.program l st) _ (sure_found l st) (λ a.
      sure_then (found setting.program r st) _ (sure_found r st) (λ b.
      sure_then (kept_apart setting.program (own_element l ++ own_element r) (index_elements l ++ index_elements r) st)
      _ (sure_apart (own_element l ++ own_element r) (index_elements l ++ index_elements r) st)
      (λ u. sure_done _ 0)))

  sure_new : (at : ℕ) (class : Ident) (target : Lvalue) (st : State)
      → IsSure (statement setting n (exec setting n) (New at (AnObject class) target) st)
  sure_new at class target st =
      let number : ℕ = unwrap_or (class_number setting.program class.text) 0 in
      let cells : List Value = zero_values (class_fields setting.program number) in
      sure_then (found setting.program target st) _ (sure_found target st) (λ cell.
      sure_then (kept_apart setting.program (own_element target) (index_elements target) st) _
      (sure_apart (own_element target) (index_elements target) st) (λ u.
      sure_then (fault_if NOT_NIL (not (is_nil (read st cell)))) _ (sure_fault_if _ _) (λ u.
      sure_after (setting.limits.heap + 1) (allocated setting (length cells) cell (OfClass number) cells st)
      (sure_allocated (length cells) cell (OfClass number) cells st))))

  sure_delete : (at : ℕ) (class : Ident) (target : Lvalue) (st : State)
      → IsSure (statement setting n (exec setting n) (Delete at (AnObject class) target) st)
  sure_delete at class target st =
      sure_then (found setting.program target st) _ (sure_found target st) (λ cell.
      let name : ℕ = number_of (read st cell) in
      let object : Object = object_at st.store name in
      sure_then (kept_apart setting.program (own_element target) (index_elements target) st) _
      (sure_apart (own_element target) (index_elements target) st) (λ u.
      sure_then (fault_if NIL (is_nil (read st cell))) _ (sure_fault_if _ _) (λ u.
      sure_then (fault_if CLASS_DIFFERS (not (is_of_class object.head (class_number setting.program class.text))))
      _ (sure_fault_if _ _) (λ u.
      sure_then (fault_if COUNT (not (nat_eq object.count 1))) _ (sure_fault_if _ _) (λ u.
      sure_after (setting.limits.heap + 1) (fault_if NOT_EMPTY (not (all_zero object.cells)) >>=
      (λ u. give (freed setting cell name st)))
      (sure_then (fault_if NOT_EMPTY (not (all_zero object.cells))) _ (sure_fault_if _ _)
      (λ u. sure_done (freed setting cell name st) 0)))))))

  sure_copy : (at : ℕ) (kind : VarType) (source target : Lvalue) (st : State)
      → IsSure (statement setting n (exec setting n) (Copy at kind source target) st)
  sure_copy at kind source target st =
      sure_then (found setting.program source st) _ (sure_found source st) (λ a.
      sure_then (found setting.program target st) _ (sure_found target st) (λ b.
      sure_then (kept_apart setting.program (own_element target) (index_elements source ++ index_elements target) st) _
      (sure_apart (own_element target) (index_elements source ++ index_elements target) st) (λ u.
      sure_then (fault_if NIL (is_nil (read st a))) _ (sure_fault_if _ _) (λ u.
      sure_then (fault_if NOT_NIL (not (is_nil (read st b)))) _ (sure_fault_if _ _) (λ u. sure_done _ 0)))))

  sure_uncopy : (at : ℕ) (kind : VarType) (source target : Lvalue) (st : State)
      → IsSure (statement setting n (exec setting n) (Uncopy at kind source target) st)
  sure_uncopy at kind source target st =
      sure_then (found setting.program source st) _ (sure_found source st) (λ a.
      sure_then (found setting.program target st) _ (sure_found target st) (λ b.
      sure_then (kept_apart setting.program (own_element target) (index_elements source ++ index_elements target) st) _
      (sure_apart (own_element target) (index_elements source ++ index_elements target) st) (λ u.
      sure_then (fault_if NIL (is_nil (read st a))) _ (sure_fault_if _ _) (λ u.
      sure_then (fault_if NOT_SAME (not (same_value (read st a) (read st b)) || same_cell a b)) _
      (sure_fault_if _ _) (λ u. sure_done _ 0)))))

  -- ---- statements

  done : (x : Config) (s : Statement) (rest : Statements)
      → Goes setting n (begun setting x s rest) (past_it x s rest) (statement setting n (exec setting n) s x.state)
      (inner_points setting n (exec setting n) (points setting n) x.params s x.state)
  done x (Update at op target value) rest = at_once setting n (past_it x (Update at op target value) rest) _
      (sure_update at op target value x.state)
  done x (Swap at l r) rest = at_once setting n (past_it x (Swap at l r) rest) _ (sure_swap at l r x.state)
  done x (If at test taken other end_test) rest =
      over setting n (evaluated setting.program test x.state) _ _ _ _ (sure_value test x.state) (λ v.
      let s : Statement = If at test taken other end_test in
      let body : Statements = if holds v then taken else other in
      let o : Open = record { past = x.past; here = s; rest = rest; part = Chosen (holds v) test end_test } in
      on_silently setting n _ (config_after End body x.params (o ∷ x.around)) _ (exec setting n body x.state) _ _
      (block End body x.params (o ∷ x.around) x.state) (λ end.
      go setting n (config_after End body x.params (o ∷ x.around) end) _ _ []
      (over_silently setting n (evaluated setting.program end_test end) _ _ _ (sure_value end_test end) (λ w.
      over_silently setting n (fault_if FI (if holds v then not (holds w) else holds w)) _ _ _ (sure_fault_if _ _)
      (λ u.
      stay setting n (past_it x s rest) end)))))
  done x (From at entry first again exit) rest =
      over setting n (evaluated setting.program entry x.state) _ _ _ _ (sure_value entry x.state) (λ v.
      over setting n (fault_if LOOP (not (holds v))) _ _ _ _ (sure_fault_if _ _) (λ u.
      loop x (From at entry first again exit) rest entry first again exit n (omega arith) x.state))
  done x (Construct at class name body end) rest =
      local x (Construct at class name body end) rest name.text (Null at) (constructed at class name body) (Null at)
  done x (Local at var value body end_var end_value) rest =
      local x (Local at var value body end_var end_value) rest var.name.text value body end_value
  done x (New at (AnObject class) target) rest = at_once setting n (past_it x (New at (AnObject class) target) rest) _
      (sure_new at class target x.state)
  done x (New at (Ints size) target) rest = at_once setting n (past_it x (New at (Ints size) target) rest) _
      (sure_new_array target size OfInts (Word 0) x.state)
  done x (New at (Objects class size) target) rest = at_once setting n
      (past_it x (New at (Objects class size) target) rest) _
      (sure_new_array target size (OfObjects (unwrap_or (class_number setting.program class.text) 0)) Nil x.state)
  done x (Delete at (AnObject class) target) rest = at_once setting n
      (past_it x (Delete at (AnObject class) target) rest) _ (sure_delete at class target x.state)
  done x (Delete at (Ints size) target) rest = at_once setting n (past_it x (Delete at (Ints size) target) rest) _
      (sure_delete_array target size x.state)
  done x (Delete at (Objects class size) target) rest = at_once setting n
      (past_it x (Delete at (Objects class size) target) rest) _ (sure_delete_array target size x.state)
  done x (Copy at kind source target) rest = at_once setting n (past_it x (Copy at kind source target) rest) _
      (sure_copy at kind source target x.state)
  done x (Uncopy at kind source target) rest = at_once setting n (past_it x (Uncopy at kind source target) rest) _
      (sure_uncopy at kind source target x.state)
  done x (Call at back receiver name args) rest = call x (Call at back receiver name args) rest at back receiver name
      args
  done x (Skip at) rest = at_once setting n (past_it x (Skip at) rest) (give x.state) (sure_done x.state 0)

-- ---- blocks

block : (setting : Setting) (n : ℕ) (past b : Statements) (params : ℕ) (around : List Open) (st : State)
    → Goes setting n (give (config_before past b params around st)) (config_after past b params around)
    (exec setting n b st)
    (points setting n params b st)
block setting n past End params around st = stay setting n (config_after past End params around) st
block setting zero past (Then first rest) params around st =
    waits setting {A = State} _ (config_after past (Then first rest) params around)
block setting (suc n) past (Then first rest) params around st =
    let x : Config = config_before past (Then first rest) params around st in
    let ps : List Point = inner_points setting n (exec setting n) (points setting n) params first st in
    let qs : List Point = points_behind (statement setting n (exec setting n) first st) (points setting n params rest)
    in
    let P : List Point → Type 0 = λ l. Goes setting (suc n) (give x) (config_after past (Then first rest) params around)
    (exec setting (suc n) (Then first rest) st) l in
    subst P (sym (append_assoc (begin_points params first st) ps qs))
    (go setting (suc n) x (config_after past (Then first rest) params around)
    (exec setting (suc n) (Then first rest) st)
    (ps ++ qs)
    (spent setting (suc n) n 1 (begun setting x first rest) (config_after past (Then first rest) params around)
    (statement setting n (exec setting n) first st >>= exec setting n rest) (ps ++ qs) (omega arith)
    (on setting n (begun setting x first rest) (past_it x first rest)
    (config_after past (Then first rest) params around)
    (statement setting n (exec setting n) first st) (exec setting n rest) ps (points setting n params rest)
    (done setting n (block setting n) x first rest)
    (λ end. block setting n (Then first past) rest params around end))))

-- ---- the law

followed_by : (setting : Setting) (bound : ℕ) (x : Config) (y : State → Config) (r : Run State) (ps : List Point)
    → Goes setting bound (give x) y r ps → MachineFollows setting bound x y r ps
followed_by setting bound x y (Done end cost) ps g = record
    { steps = g.steps; walks = sym (after_zero (walk setting g.steps x)) ∙ g.walks; points = g.points }
followed_by setting bound x y (Fault code cost) ps g =
    record { steps = g.steps; walks = sym (after_zero (walk setting g.steps x)) ∙ g.walks; points = g.points }
followed_by setting bound x y More ps g =
    record {
      to = g.to;
      steps = g.steps;
      cost = g.cost;
      walks = sym (after_zero (walk setting g.steps x))
          ∙ g.walks;
      enough = g.enough;
      points = g.points;
    }

pub followed : MachineIsMeaning
followed setting bound params past body around st =
    followed_by setting bound _ (config_after past body params around) (exec setting bound body st)
    (points setting bound params body st) (block setting bound past body params around st)
