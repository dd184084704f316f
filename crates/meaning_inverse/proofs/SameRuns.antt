-- A block runs in the inverse program as the block with its calls turned runs in the program.
use Rattle.std.proofs.Common.{◌≡◌, ℕ, zero, suc, ◌+◌, refl, ap, ◌∙◌, true, false, Bool, not, ◌||◌, List, [], ◌∷◌, ◌++◌}
use Rattle.std.proofs.Common.{length, Option, Some, None, unwrap_or, Result, Ok, Err, if◌then◌else◌}
use Rattle.std.proofs.Math.Path.{fun_ext}
use Rattle.meaning_reached.specs.rpp_words.declared.input.Limits.{Limits}
use Rattle.meaning_reached.specs.rpp_tree.declared.tree.Ident.{Ident}
use Rattle.meaning_reached.specs.rpp_tree.declared.tree.Var.{Var}
use Rattle.meaning_reached.specs.rpp_tree.Tree.{Expression, Number, Null, Variable, Element, Binary, Lvalue, Whole, Item}
use Rattle.meaning_reached.specs.rpp_tree.Tree.{Object as AnObject, Ints, Objects, Statement, Statements, Update, Swap, If, From}
use Rattle.meaning_reached.specs.rpp_tree.Tree.{Construct, Local, New, Delete, Copy, Uncopy, Call, Skip, End, Then, Procedure, Source}
use Rattle.meaning_reached.specs.rpp_tree.Tree.{nodes, index_nodes}
use Rattle.meaning_reached.specs.class_rules.Members.{field_of}
use Rattle.meaning_reached.specs.class_rules.Classes.{class_number, class_fields, method_named}
use Rattle.meaning_reached.specs.inverse_rules.Inverse.{inverse_as, inverse, inverse_procedure, inverse_program}
use Rattle.meaning_reached.specs.roopl_semantics.Run.{Run, after_cost, ◌>>=◌, given, spend, fault_if}
use Rattle.meaning_reached.specs.roopl_semantics.Store.{object_at, is_nil, Value, Head, OfClass, OfInts, OfObjects, State, Word, Nil}
use Rattle.meaning_reached.specs.roopl_semantics.Store.{zero_values, number_of, same_value}
use Rattle.meaning_reached.specs.roopl_semantics.Value.{NIL, Cell, Part, own_class, slot_or_field, slot_of, cell_named, read}
use Rattle.meaning_reached.specs.roopl_semantics.Value.{variable_value, element_cell, element_of, read_cell, combined}
use Rattle.meaning_reached.specs.roopl_semantics.Value.{value as value_in, cell_of, evaluated, found}
use Rattle.meaning_reached.specs.roopl_semantics.Elements.{elements, index_elements, own_element, same_array, is_among, share_array}
use Rattle.meaning_reached.specs.roopl_semantics.Elements.{read_cost, kept_apart, SHARED_ARRAY}
use Rattle.meaning_reached.specs.roopl_semantics.Execution.{NOT_NIL, CLASS_DIFFERS, TOO_DEEP, is_of_class}
use Rattle.meaning_reached.specs.roopl_semantics.Execution.{is_too_deep, Setting, Runner, holds, opened, in_direction, constructed}
use Rattle.meaning_reached.specs.roopl_semantics.Execution.{element_call, element_name, cells_named, class_of, invoked, allocated}
use Rattle.meaning_reached.specs.roopl_semantics.Execution.{new_array, delete_array, with_local, turn_end, turns, statement, exec}
use Rattle.meaning_inverse.proofs.SameTable.{fields_kept, number_kept, method_kept}
use Rattle.meaning_inverse.proofs.Turned.{turned, turned_statement, turned_joined, turned_inverse, inverse_of_inverse}
use Rattle.meaning_inverse.proofs.Turned.{turned_twice}

-- runs that go on alike
same_bound : {A B : Type 0} (x y : Run A) (f g : A → Run B) → x ≡ y → ((a : A) → f a ≡ g a) → (x >>= f) ≡ (y >>= g)
same_bound x y f g e h = ap (λ r. r >>= f) e ∙ ap (λ k. y >>= k) (fun_ext h)

goes_on : {A B : Type 0} (x : Run A) (f g : A → Run B) → ((a : A) → f a ≡ g a) → (x >>= f) ≡ (x >>= g)
goes_on x f g h = ap (λ k. x >>= k) (fun_ext h)

module _ (program : Source) where
  abbrev other : Source
  other = inverse_program program

  -- ---- values and places

  cell_same : (st : State) (name : List ℕ) → cell_named other st name ≡ cell_named program st name
  cell_same st name = by (slot_of st.frame name)
    where
      by : (o : Option ℕ) → slot_or_field other st name o ≡ slot_or_field program st name o
      by (Some index) = refl
      by None = ap (λ (vars : List Var). Part st.self (unwrap_or (field_of vars name) 0))
          (fields_kept program (own_class st))

  variable_same : (st : State) (name : List ℕ) → variable_value other st name ≡ variable_value program st name
  variable_same st name = ap (read st) (cell_same st name)

  element_same : (st : State) (name : List ℕ) (index : Result Value ℕ)
      → element_of other st name index ≡ element_of program st name index
  element_same st name (Ok index) = ap (λ v. element_cell st v (number_of index)) (variable_same st name)
  element_same st name (Err fault) = refl

  value_same : (st : State) (e : Expression) → value_in other st e ≡ value_in program st e
  value_same st (Number at word) = refl
  value_same st (Null at) = refl
  value_same st (Variable name) = ap (λ v. Ok v) (variable_same st name.text)
  value_same st (Element name index) =
      ap (λ i. read_cell st (element_of other st name.text i)) (value_same st index)
      ∙ ap (read_cell st) (element_same st name.text (value_in program st index))
  value_same st (Binary at op left right) =
      ap (λ l. combined op l (value_in other st right)) (value_same st left)
      ∙ ap (combined op (value_in program st left)) (value_same st right)

  place_same : (st : State) (target : Lvalue) → cell_of other st target ≡ cell_of program st target
  place_same st (Whole name) = ap (λ c. Ok c) (cell_same st name.text)
  place_same st (Item name index) = ap (element_of other st name.text) (value_same st index)
      ∙ element_same st name.text (value_in program st index)

  evaluated_same : (e : Expression) (st : State) → evaluated other e st ≡ evaluated program e st
  evaluated_same e st = ap (λ v. after_cost (nodes e) (given v)) (value_same st e)

  found_same : (target : Lvalue) (st : State) → found other target st ≡ found program target st
  found_same target st = ap (λ c. after_cost (index_nodes target) (given c)) (place_same st target)

  array_same : (st : State) (name another : Ident) → same_array other st name another
      ≡ same_array program st name another
  array_same st name another = ap (λ v. same_value v (variable_value other st another.text))
      (variable_same st name.text) ∙ ap (same_value (variable_value program st name.text))
      (variable_same st another.text)

  among_same : (st : State) (name : Ident) (others : List Ident)
      → is_among other st name others ≡ is_among program st name others
  among_same st name [] = refl
  among_same st name (another ∷ others) = ap (λ t. t || is_among other st name others) (array_same st name another)
      ∙ ap (λ t. same_array program st name another || t) (among_same st name others)

  share_same : (st : State) (changed reads : List Ident)
      → share_array other st changed reads ≡ share_array program st changed reads
  share_same st [] reads = refl
  share_same st (name ∷ changed) reads = ap (λ t. t || share_array other st changed reads) (among_same st name reads)
      ∙ ap (λ t. is_among program st name reads || t) (share_same st changed reads)

  apart_same : (changed reads : List Ident) (st : State)
      → kept_apart other changed reads st ≡ kept_apart program changed reads st
  apart_same changed reads st = ap (λ t. spend (read_cost changed reads) >>= (λ u. fault_if SHARED_ARRAY t))
      (share_same st changed reads)

  module _ (limits : Limits) where
    abbrev here : Setting
    here = record { program = program; limits = limits }

    abbrev there : Setting
    there = record { program = other; limits = limits }

    cells_same : (st : State) (names : List Ident) → cells_named there st names ≡ cells_named here st names
    cells_same st [] = refl
    cells_same st (name ∷ names) = ap (λ c. c ∷ cells_named there st names) (cell_same st name.text)
        ∙ ap (λ l. cell_named program st name.text ∷ l) (cells_same st names)

    -- ---- arrays

    new_array_same : (target : Lvalue) (size : Expression) (head : ℕ → Head) (element : Value) (st : State)
        → new_array there target size head element st ≡ new_array here target size head element st
    new_array_same target size head element st =
        same_bound _ _ _ _ (found_same target st) (λ cell. same_bound _ _ _ _ (evaluated_same size st) (λ v. refl))

    delete_array_same : (target : Lvalue) (size : Expression) (st : State)
        → delete_array there target size st ≡ delete_array here target size st
    delete_array_same target size st =
        same_bound _ _ _ _ (found_same target st) (λ cell. same_bound _ _ _ _ (evaluated_same size st) (λ v. refl))

    -- a runner that runs each block as another runs the turned block
    abbrev RunsTurned : Runner → Runner → Type 0
    RunsTurned run' run = (b : Statements) (st : State) → run' b st ≡ run (turned b) st

    module _ (run' run : Runner) (same : RunsTurned run' run) where
      scope_same : (name : List ℕ) (value : Expression) (body inner : Statements) (end_value : Expression) (st : State)
          → turned body ≡ inner → with_local there run' name value body end_value st
          ≡ with_local here run name value inner end_value st
      scope_same name value body inner end_value st is =
          same_bound _ _ _ _ (evaluated_same value st) (λ v.
          same_bound _ _ _ _ (same body (opened name v st) ∙ ap (λ b. run b (opened name v st)) is) (λ end.
          same_bound _ _ _ _ (evaluated_same end_value end) (λ w. refl)))

      called_same : (back : Bool) (body : Statements) (st : State)
          → run' (in_direction back (inverse_as false body)) st ≡ run (in_direction (not back) body) st
      called_same true body st = same (inverse (inverse_as false body)) st
          ∙ ap (λ b. run b st) (ap turned (inverse_of_inverse body) ∙ turned_twice body)
      called_same false body st = same (inverse_as false body) st ∙ ap (λ b. run b st) (turned_inverse body)

      invoked_same : (back : Bool) (method : Procedure) (self : ℕ) (receiver args : List Cell) (st : State)
          → invoked there run' back (inverse_procedure method) self receiver args st
          ≡ invoked here run (not back) method self receiver args st
      invoked_same back method self receiver args st = same_bound _ _ _ _ (called_same back method.body _) (λ end. refl)

      turns_same : (n : ℕ) (entry : Expression) (first again : Statements) (exit : Expression) (st : State)
          → turns there n run' entry first again exit st ≡ turns here n run entry (turned first) (turned again) exit st
      turns_same zero entry first again exit st = refl
      turns_same (suc n) entry first again exit st =
          same_bound _ _ _ _ (same first st) (λ end. same_bound _ _ _ _ (evaluated_same exit end)
          (λ v. by (λ next. turns_same n entry first again exit next) end (holds v)))
        where
          by : ((next : State) → turns there n run' entry first again exit next
              ≡ turns here n run entry (turned first) (turned again) exit next) → (end : State) (t : Bool)
              → turn_end there run' entry again (turns there n run' entry first again exit) t end
              ≡ turn_end here run entry (turned again) (turns here n run entry (turned first) (turned again) exit) t
              end
          by more end true = refl
          by more end false = same_bound _ _ _ _ (same again end)
              (λ next. same_bound _ _ _ _ (evaluated_same entry next) (λ v. goes_on _ _ _ (λ u. more next)))

      chosen_same : (t : Bool) (taken another : Statements) (st : State)
          → run' (if t then taken else another) st ≡ run (if t then turned taken else turned another) st
      chosen_same true taken another st = same taken st
      chosen_same false taken another st = same another st

      constructed_turned : (at : ℕ) (class name : Ident) (body : Statements)
          → turned (constructed at class name body) ≡ constructed at class name (turned body)
      constructed_turned at class name body = ap (Then (New at (AnObject class) (Whole name)))
          (turned_joined body (Then (Delete at (AnObject class) (Whole name)) End))

      statement_same : (n : ℕ) (s : Statement) (st : State)
          → statement there n run' s st ≡ statement here n run (turned_statement s) st
      statement_same n (Update at op target value) st =
          same_bound _ _ _ _ (found_same target st) (λ cell. same_bound _ _ _ _ (evaluated_same value st)
          (λ v. same_bound _ _ _ _ (apart_same (own_element target) (index_elements target ++ elements value) st)
          (λ u. refl)))
      statement_same n (Swap at left right) st =
          same_bound _ _ _ _ (found_same left st) (λ a. same_bound _ _ _ _ (found_same right st)
          (λ b. same_bound _ _ _ _ (apart_same (own_element left ++ own_element right)
          (index_elements left ++ index_elements right) st) (λ u. refl)))
      statement_same n (If at test taken another after) st =
          same_bound _ _ _ _ (evaluated_same test st) (λ v. same_bound _ _ _ _ (chosen_same (holds v) taken another st)
          (λ end. same_bound _ _ _ _ (evaluated_same after end) (λ w. refl)))
      statement_same n (From at entry first again exit) st =
          same_bound _ _ _ _ (evaluated_same entry st) (λ v. goes_on _ _ _
          (λ u. turns_same n entry first again exit st))
      statement_same n (Construct at class name body end) st =
          scope_same name.text (Null at) (constructed at class name body) (constructed at class name (turned body))
          (Null at) st (constructed_turned at class name body)
      statement_same n (Local at var value body end_var end_value) st =
          scope_same var.name.text value body (turned body) end_value st refl
      statement_same n (New at (AnObject class) target) st =
          same_bound _ _ _ _ (found_same target st) (λ cell. same_bound _ _ _ _
          (apart_same (own_element target) (index_elements target) st)
          (λ u. goes_on (fault_if NOT_NIL (not (is_nil (read st cell)))) _ _
          (λ v. ap (after_cost (limits.heap + 1)) (
          ap (λ (o : Option ℕ). let cells = zero_values (class_fields other (unwrap_or o 0)) in
          allocated here (length cells) cell (OfClass (unwrap_or o 0)) cells st) (number_kept program class.text)
          ∙ ap (λ (vars : List Var). let cells = zero_values vars in
          allocated here (length cells) cell (OfClass (unwrap_or (class_number program class.text) 0)) cells st)
          (fields_kept program (unwrap_or (class_number program class.text) 0))))))
      statement_same n (New at (Ints size) target) st = new_array_same target size OfInts (Word 0) st
      statement_same n (New at (Objects class size) target) st =
          new_array_same target size (OfObjects (unwrap_or (class_number other class.text) 0)) Nil st
          ∙ ap (λ (o : Option ℕ). new_array here target size (OfObjects (unwrap_or o 0)) Nil st)
          (number_kept program class.text)
      statement_same n (Delete at (AnObject class) target) st =
          same_bound _ _ _ _ (found_same target st) (λ cell. same_bound _ _ _ _
          (apart_same (own_element target) (index_elements target) st)
          (λ u. goes_on (fault_if NIL (is_nil (read st cell))) _ _ (λ v.
          same_bound _ _ _ _ (ap (λ (o : Option ℕ). fault_if CLASS_DIFFERS
          (not (is_of_class (object_at st.store (number_of (read st cell))).head o)))
          (number_kept program class.text)) (λ w. refl))))
      statement_same n (Delete at (Ints size) target) st = delete_array_same target size st
      statement_same n (Delete at (Objects class size) target) st = delete_array_same target size st
      statement_same n (Copy at kind source target) st =
          same_bound _ _ _ _ (found_same source st) (λ a. same_bound _ _ _ _ (found_same target st)
          (λ b. same_bound _ _ _ _ (apart_same (own_element target)
          (index_elements source ++ index_elements target) st) (λ u. refl)))
      statement_same n (Uncopy at kind source target) st =
          same_bound _ _ _ _ (found_same source st) (λ a. same_bound _ _ _ _ (found_same target st)
          (λ b. same_bound _ _ _ _ (apart_same (own_element target)
          (index_elements source ++ index_elements target) st) (λ u. refl)))
      statement_same n (Call at back None method args) st =
          ap (after_cost (length args)) (goes_on (fault_if TOO_DEEP (is_too_deep here st)) _ _ (λ v.
          ap (λ m. invoked there run' back m st.self [] (cells_named there st args) st)
          (method_kept program (own_class st) method.text)
          ∙ ap (λ l. invoked there run' back (inverse_procedure (method_named program (own_class st) method.text))
          st.self [] l st) (cells_same st args)
          ∙ invoked_same back (method_named program (own_class st) method.text) st.self [] (cells_named here st args)
          st))
      statement_same n (Call at back (Some (Whole name)) method args) st =
          ap (after_cost (length args)) (
          ap (λ cell. let self = number_of (read st cell) in
          fault_if NIL (is_nil (read st cell)) >>= (λ x. fault_if TOO_DEEP (is_too_deep here st) >>= (λ y.
          invoked there run' back (method_named other (class_of here st self) method.text) self (cell ∷ [])
          (cells_named there st args) st))) (cell_same st name.text)
          ∙ (let cell = cell_named program st name.text in let self = number_of (read st cell) in
          goes_on (fault_if NIL (is_nil (read st cell))) _ _
          (λ x. goes_on (fault_if TOO_DEEP (is_too_deep here st)) _ _ (λ y.
          ap (λ m. invoked there run' back m self (cell ∷ []) (cells_named there st args) st)
          (method_kept program (class_of here st self) method.text)
          ∙ ap (λ l. invoked there run' back (inverse_procedure
          (method_named program (class_of here st self) method.text)) self (cell ∷ []) l st)
          (cells_same st args)
          ∙ invoked_same back (method_named program (class_of here st self) method.text) self (cell ∷ [])
          (cells_named here st args) st))))
      statement_same n (Call at back (Some (Item name index)) method args) st =
          scope_same (element_name at).text (Null at) (element_call at back name index method args)
          (element_call at (not back) name index method args) (Null at) st refl
      statement_same n (Skip at) st = refl

    -- a block of the inverse program does what the turned block does in the program
    pub runs_turned : (n : ℕ) (b : Statements) (st : State) → exec there n b st ≡ exec here n (turned b) st
    runs_turned n End st = refl
    runs_turned zero (Then first rest) st = refl
    runs_turned (suc n) (Then first rest) st =
        ap (after_cost 1) (same_bound _ _ _ _ (statement_same (exec there n) (exec here n) (runs_turned n) n first st)
        (λ next. runs_turned n rest next))
