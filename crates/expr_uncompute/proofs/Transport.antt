-- What a relation gives of the state after a write, it gives by the addresses of the state before.
use Rattle.std.proofs.Common.{◌≡◌, ℕ, ◌+◌, false, List, ◌++◌, refl, sym, ap, ◌∙◌}
use Rattle.std.specs.Prelude.{slice_index, slice_set, Result, Ok, Err}
use Rattle.register_expressions.specs.code_conventions.declared.memory.TheConstants.{HEADER_WORDS}
use Rattle.register_expressions.specs.pisa_isa.Machine.{Memory}
use Rattle.register_expressions.specs.rpp_tree.declared.tree.BinOp.{BinOp}
use Rattle.register_expressions.specs.rpp_tree.declared.tree.UpdateOp.{UpdateOp}
use Rattle.register_expressions.specs.rpp_tree.Tree.{Expression, Number, Null, Variable, Element, Binary, Lvalue, Whole, Item, Source}
use Rattle.register_expressions.specs.roopl_semantics.Operators.{updated}
use Rattle.register_expressions.specs.roopl_semantics.Store.{Value, Word, Nil, Name, State, number_of}
use Rattle.register_expressions.specs.roopl_semantics.Value.{Cell, Slot, Part, cell_named, variable_value, read}
use Rattle.register_expressions.specs.roopl_semantics.Value.{written, value, cell_of}
use Rattle.register_expressions.specs.roopl_semantics.Elements.{elements, index_elements, own_element, share_array}
use Rattle.register_expressions.specs.roopl_semantics.Execution.{Setting}
use Rattle.register_expressions.specs.refine_form.declared.spot.Spot.{Spot}
use Rattle.register_expressions.specs.Code.{words}
use Rattle.expr_uncompute.specs.Code.{place_words}
use Rattle.register_expressions.specs.Number.{Bases, lvalue_read, index_of}
use Rattle.register_expressions.specs.Laws.{bases_of}
use Rattle.expr_uncompute.specs.Laws.{swapped_at}
use Rattle.expr_uncompute.specs.Promises.{CanEvaluate}
use Rattle.expr_uncompute.specs.Means.{shown, cell_address, AreOperands, words as both_words, compared, OperandsOf}
use Rattle.expr_uncompute.specs.Means.{IsInt, StandsArray, Means, MeansPlace, TellsShares, SameValues, SameCells}
use Rattle.expr_uncompute.proofs.Sharing.{update_shares_is, swap_shares_is}
use Rattle.expr_uncompute.proofs.StatementRows.{UpdateFacts, SwapFacts}

module _ (address slot address' slot' : ℕ → ℕ) (sa : (n : ℕ) → address n ≡ address' n) (ss : (i : ℕ) → slot i ≡ slot' i)
  where
    shown_by : (v : Value) → shown address slot v ≡ shown address' slot' v
    shown_by (Word w) = refl
    shown_by Nil = refl
    shown_by (Name n) = sa n

    cell_by : (cell : Cell) → cell_address address slot cell ≡ cell_address address' slot' cell
    cell_by (Slot i) = ss i
    cell_by (Part n i) = ap (λ a. a + i + HEADER_WORDS) (sa n)

    operands_by : (o : BinOp) (l r : Value) → AreOperands address slot o l r → AreOperands address' slot' o l r
    operands_by o l r (both_words a b) = both_words (a ∙ shown_by l) (b ∙ shown_by r)
    operands_by o l r (compared e f g) = compared e (λ q. sym (shown_by l) ∙ f q ∙ shown_by r)
        (λ q. g (shown_by l ∙ q ∙ sym (shown_by r)))

    operands_of_by : (o : BinOp) (l r : Result Value ℕ) → OperandsOf address slot o l r
        → OperandsOf address' slot' o l r
    operands_of_by o (Err f) y h = tt
    operands_of_by o (Ok l) (Err f) h = tt
    operands_of_by o (Ok l) (Ok r) h = operands_by o l r h

    int_by : (r : Result Value ℕ) → IsInt address slot r → IsInt address' slot' r
    int_by (Err f) h = tt
    int_by (Ok v) h = h ∙ shown_by v

    module _ (program : Source) (st : State) (spot : List ℕ → Spot) (b : Bases) (cells : List ℕ) where
      array_by : (v : Value) → StandsArray address slot program st spot b cells v
          → StandsArray address' slot' program st spot b cells v
      array_by (Word w) h = absurd h
      array_by Nil h = tt
      array_by (Name n) h = (
        λ e. h.0 (sa n ∙ e),
        ap (slice_index cells) (sym (sa n)) ∙ h.1,
        λ i l. ap (λ a. slice_index cells (a + i + HEADER_WORDS)) (sym (sa n)) ∙ h.2 i l
            ∙ shown_by (read st (Part n i)),
      )

      pub means_by : (e : Expression) → Means address slot program st spot b cells e
          → Means address' slot' program st spot b cells e
      means_by (Number at word) h = tt
      means_by (Null at) h = tt
      means_by (Variable name) h = h ∙ shown_by (variable_value program st name.text)
      means_by (Element name index) h = (
        h.0 ∙ shown_by (variable_value program st name.text),
        array_by (variable_value program st name.text) h.1,
        int_by (value program st index) h.2,
        means_by index h.3,
      )
      means_by (Binary at o left right) h = (
        means_by left h.0,
        means_by right h.1,
        operands_of_by o (value program st left) (value program st right) h.2,
      )

      pub place_means_by : (target : Lvalue) → MeansPlace address slot program st spot b cells target
          → MeansPlace address' slot' program st spot b cells target
      place_means_by (Whole name) h = h ∙ cell_by (cell_named program st name.text)
      place_means_by (Item name index) h = (
        h.0 ∙ shown_by (variable_value program st name.text),
        array_by (variable_value program st name.text) h.1,
        int_by (value program st index) h.2,
        means_by index h.3,
      )

-- ---- what is left to show for an update and a swap

module _ (setting : Setting) (address slot : State → ℕ → ℕ) (R : State → Memory → Type 0) (spot : List ℕ → Spot)
    (free : ℕ) where
  abbrev after_update : UpdateOp → State → Cell → Value → State
  after_update o st cell v = written st cell (Word (updated o (number_of (read st cell)) (number_of v)))

  abbrev cells_after : UpdateOp → State → Memory → Cell → Value → List ℕ
  cells_after o st m cell v = slice_set m.cells (cell_address (address st) (slot st) cell)
      (updated o (number_of (read st cell)) (number_of v))

  -- of the relation: what an update reads is in the memory, and the write leads to a related
  -- memory; of the source: the write changes no value that is read
  pub record UpdateNeeds (target : Lvalue) (e : Expression) : Type 0 where
    pub tells : (st : State) (m : Memory) → R st m → TellsShares (address st) (slot st) setting.program st spot
        (bases_of m) m.cells target (index_of target) e
    pub can : (st : State) (m : Memory) → R st m → CanEvaluate spot free (place_words target + words e)
        (lvalue_read target)
        e m
    pub place_means : (st : State) (m : Memory) → R st m → MeansPlace (address st) (slot st) setting.program st spot
        (bases_of m) m.cells target
    pub value_means : (st : State) (m : Memory) → R st m → Means (address st) (slot st) setting.program st spot
        (bases_of m) m.cells e
    pub int_value : (st : State) (m : Memory) (v : Value) → R st m → value setting.program st e ≡ Ok v
        → number_of v ≡ shown (address st) (slot st) v
    pub int_cell : (st : State) (m : Memory) (cell : Cell) → R st m → cell_of setting.program st target ≡ Ok cell
        → slice_index m.cells (cell_address (address st) (slot st) cell) ≡ number_of (read st cell)
    pub after : (o : UpdateOp) (st : State) (m : Memory) (cell : Cell) (v : Value) → R st m
        → cell_of setting.program st target ≡ Ok cell → value setting.program st e ≡ Ok v
        → share_array setting.program st (own_element target) (index_elements target ++ elements e) ≡ false
        → R (after_update o st cell v) (record m { cells = cells_after o st m cell v })
    pub same_addresses : (st : State) (cell : Cell) (v : Value) (n : ℕ) → address (written st cell v) n ≡ address st n
    pub same_slots : (st : State) (cell : Cell) (v : Value) (i : ℕ) → slot (written st cell v) i ≡ slot st i
    pub same_cells : (o : UpdateOp) (st : State) (m : Memory) (cell : Cell) (v : Value) → R st m
        → cell_of setting.program st target ≡ Ok cell → value setting.program st e ≡ Ok v
        → share_array setting.program st (own_element target) (index_elements target ++ elements e) ≡ false
        → SameCells setting.program st (after_update o st cell v) target
    pub same_values : (o : UpdateOp) (st : State) (m : Memory) (cell : Cell) (v : Value) → R st m
        → cell_of setting.program st target ≡ Ok cell → value setting.program st e ≡ Ok v
        → share_array setting.program st (own_element target) (index_elements target ++ elements e) ≡ false
        → SameValues setting.program st (after_update o st cell v) e
    pub same_arrays : (o : UpdateOp) (st : State) (m : Memory) (cell : Cell) (v : Value) → R st m
        → cell_of setting.program st target ≡ Ok cell → value setting.program st e ≡ Ok v
        → share_array setting.program st (own_element target) (index_elements target ++ elements e) ≡ false
        → share_array setting.program (after_update o st cell v) (own_element target)
        (index_elements target ++ elements e) ≡ false

  pub update_facts : (op : UpdateOp) (target : Lvalue) (e : Expression) → UpdateNeeds target e
      → UpdateFacts setting address slot R spot free op target e
  update_facts op target e h = record {
    tells = h.tells;
    can = h.can;
    place_means = h.place_means;
    value_means = h.value_means;
    int_value = h.int_value;
    int_cell = h.int_cell;
    updating = λ o st m cell v r nc nv ns.
        let st' : State = after_update o st cell v in
        let m' : Memory = record m { cells = cells_after o st m cell v } in
        let r' = h.after o st m cell v r nc nv ns in
        let w : Value = Word (updated o (number_of (read st cell)) (number_of v)) in
        let can' = h.can st' m' r' in
        record {
          can = h.can st m r;
          place_means = h.place_means st m r;
          value_means = h.value_means st m r;
          place_means_after = place_means_by (address st') (slot st') (address st) (slot st)
              (h.same_addresses st cell w) (h.same_slots st cell w) setting.program st' spot (bases_of m) m'.cells
              target (h.place_means st' m' r');
          value_means_after = means_by (address st') (slot st') (address st) (slot st) (h.same_addresses st cell w)
              (h.same_slots st cell w) setting.program st' spot (bases_of m) m'.cells e (h.value_means st' m' r');
          place_sees_after = can'.first;
          value_sees_after = can'.second;
          same_cells = h.same_cells o st m cell v r nc nv ns;
          same_values = h.same_values o st m cell v r nc nv ns;
          apart = update_shares_is (address st) (slot st) setting.program st spot (bases_of m) m.cells target e
              (h.place_means st m r) (h.value_means st m r) (h.tells st m r) ∙ ns;
          apart_after = update_shares_is (address st') (slot st') setting.program st' spot (bases_of m) m'.cells target
              e (h.place_means st' m' r') (h.value_means st' m' r') (h.tells st' m' r')
              ∙ h.same_arrays o st m cell v r nc nv ns;
        };
    after = h.after;
  }

  abbrev after_swap : State → (x y : Cell) → State
  after_swap st x y = written (written st x (read st y)) y (read st x)

  abbrev cells_swapped : State → Memory → (x y : Cell) → List ℕ
  cells_swapped st m x y = swapped_at (cell_address (address st) (slot st) x) (cell_address (address st) (slot st) y)
      m.cells

  pub record SwapNeeds (left right : Lvalue) : Type 0 where
    pub left_tells : (st : State) (m : Memory) → R st m → TellsShares (address st) (slot st) setting.program st spot
        (bases_of m) m.cells left (index_of left) (index_of right)
    pub right_tells : (st : State) (m : Memory) → R st m → TellsShares (address st) (slot st) setting.program st spot
        (bases_of m) m.cells right (index_of left) (index_of right)
    pub can : (st : State) (m : Memory) → R st m → CanEvaluate spot free (place_words left + place_words right)
        (lvalue_read left) (lvalue_read right) m
    pub left_means : (st : State) (m : Memory) → R st m → MeansPlace (address st) (slot st) setting.program st spot
        (bases_of m) m.cells left
    pub right_means : (st : State) (m : Memory) → R st m → MeansPlace (address st) (slot st) setting.program st spot
        (bases_of m) m.cells right
    pub after : (st : State) (m : Memory) (x y : Cell) → R st m → cell_of setting.program st left ≡ Ok x
        → cell_of setting.program st right ≡ Ok y → share_array setting.program st
        (own_element left ++ own_element right) (index_elements left ++ index_elements right) ≡ false
        → R (after_swap st x y) (record m { cells = cells_swapped st m x y })
    pub same_addresses : (st : State) (cell : Cell) (v : Value) (n : ℕ) → address (written st cell v) n ≡ address st n
    pub same_slots : (st : State) (cell : Cell) (v : Value) (i : ℕ) → slot (written st cell v) i ≡ slot st i
    pub left_same : (st : State) (m : Memory) (x y : Cell) → R st m → cell_of setting.program st left ≡ Ok x
        → cell_of setting.program st right ≡ Ok y → share_array setting.program st
        (own_element left ++ own_element right) (index_elements left ++ index_elements right) ≡ false
        → SameCells setting.program st (after_swap st x y) left
    pub right_same : (st : State) (m : Memory) (x y : Cell) → R st m → cell_of setting.program st left ≡ Ok x
        → cell_of setting.program st right ≡ Ok y → share_array setting.program st
        (own_element left ++ own_element right) (index_elements left ++ index_elements right) ≡ false
        → SameCells setting.program st (after_swap st x y) right
    pub same_arrays : (st : State) (m : Memory) (x y : Cell) → R st m → cell_of setting.program st left ≡ Ok x
        → cell_of setting.program st right ≡ Ok y → share_array setting.program st
        (own_element left ++ own_element right) (index_elements left ++ index_elements right) ≡ false
        → share_array setting.program (after_swap st x y) (own_element left ++ own_element right)
        (index_elements left ++ index_elements right) ≡ false

  pub swap_facts : (left right : Lvalue) → SwapNeeds left right → SwapFacts setting address slot R spot free left right
  swap_facts left right h = record {
    left_tells = h.left_tells;
    right_tells = h.right_tells;
    can = h.can;
    left_means = h.left_means;
    right_means = h.right_means;
    swapping = λ st m x y r nx ny ns.
        let st' : State = after_swap st x y in
        let m' : Memory = record m { cells = cells_swapped st m x y } in
        let r' = h.after st m x y r nx ny ns in
        let sa : (n : ℕ) → address st' n ≡ address st n = λ n. h.same_addresses (written st x (read st y)) y (read st x)
        n ∙ h.same_addresses st x (read st y) n in
        let ss : (i : ℕ) → slot st' i ≡ slot st i = λ i. h.same_slots (written st x (read st y)) y (read st x) i
        ∙ h.same_slots st x (read st y) i in
        let can' = h.can st' m' r' in
        record {
          can = h.can st m r;
          left_means = h.left_means st m r;
          right_means = h.right_means st m r;
          left_means_after = place_means_by (address st') (slot st') (address st) (slot st) sa ss setting.program st'
              spot (bases_of m) m'.cells left (h.left_means st' m' r');
          right_means_after = place_means_by (address st') (slot st') (address st) (slot st) sa ss setting.program st'
              spot (bases_of m) m'.cells right (h.right_means st' m' r');
          left_sees_after = can'.first;
          right_sees_after = can'.second;
          left_same = h.left_same st m x y r nx ny ns;
          right_same = h.right_same st m x y r nx ny ns;
          apart = swap_shares_is (address st) (slot st) setting.program st spot (bases_of m) m.cells left right
              (h.left_means st m r) (h.right_means st m r) (h.left_tells st m r) (h.right_tells st m r) ∙ ns;
          apart_after = swap_shares_is (address st') (slot st') setting.program st' spot (bases_of m) m'.cells left
              right (h.left_means st' m' r') (h.right_means st' m' r') (h.left_tells st' m' r')
              (h.right_tells st' m' r') ∙ h.same_arrays st m x y r nx ny ns;
        };
    after = h.after;
  }
