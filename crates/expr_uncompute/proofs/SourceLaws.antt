-- The laws against the source: values, conditions, updates and swaps under what a relation of
-- memory and state gives.
use Rattle.std.proofs.Common.{◌≡◌, ℕ, ◌+◌, Bool, true, false, List, sym, ap, ◌∙◌, subst}
use Rattle.std.specs.Prelude.{slice_index, slice_set, Ok, Err}
use Rattle.register_expressions.specs.rpp_tree.declared.tree.UpdateOp.{UpdateOp}
use Rattle.register_expressions.specs.rpp_tree.Tree.{Expression, Number, Null, Variable, Element, Binary, Lvalue, Whole, Item, Source}
use Rattle.register_expressions.specs.pisa_isa.Machine.{Memory}
use Rattle.register_expressions.specs.paired_code.Machine.{Image}
use Rattle.register_expressions.specs.paired_code.Pieces.{Done, Runs}
use Rattle.register_expressions.specs.paired_code.declared.part.Symbol.{Symbol}
use Rattle.register_expressions.specs.roopl_semantics.Operators.{updated}
use Rattle.register_expressions.specs.roopl_semantics.Store.{Value, State, number_of}
use Rattle.register_expressions.specs.roopl_semantics.Value.{Cell, read, value, cell_of}
use Rattle.register_expressions.specs.refine_form.declared.spot.Spot.{Spot}
use Rattle.register_expressions.specs.Code.{words}
use Rattle.expr_uncompute.specs.Code.{place_words}
use Rattle.register_expressions.specs.roopl_semantics.Elements.{SHARED_ARRAY}
use Rattle.register_expressions.specs.Number.{Bases, number, lvalue_read, index_of, place_address, update_shares}
use Rattle.register_expressions.specs.Number.{swap_shares, Sees, Same, SamePlace}
use Rattle.expr_uncompute.specs.Steps.{value_steps, test_steps, place_steps, fetch_steps, apart_steps, both_apart_steps}
use Rattle.expr_uncompute.specs.Steps.{update_steps, swap_steps}
use Rattle.register_expressions.specs.Laws.{bases_of, Ready, Xored, truth_of}
use Rattle.expr_uncompute.specs.Laws.{turned_operator, updated_at, swapped_at, UpdateStays, BothStay}
use Rattle.expr_uncompute.specs.Promises.{free_at, SeesIn, ExpressionLaw, ConditionLaw, UpdateLaw, SwapLaw, CanEvaluate, IsTrap}
use Rattle.expr_uncompute.specs.Means.{shown, shown_result, cell_address, cell_result, Means, MeansPlace, SameValues}
use Rattle.expr_uncompute.specs.Means.{SameCells}
use Rattle.expr_uncompute.proofs.Meaning.{number_is, place_is}

module _ (address slot : ℕ → ℕ) (program : Source) (spot : List ℕ → Spot) (free : ℕ) where
  -- a value
  pub source_value : (into : ℕ) (e : Expression) (p : List Symbol) → ExpressionLaw spot free into e p
      → (im : Image) (d : Bool) (m : Memory) (st : State) → Ready free (words e) m → SeesIn spot free m e
      → Means address slot program st spot (bases_of m) m.cells e
      → Xored into (value_steps e) m (shown_result address slot (value program st e)) im p d
  source_value into e p law im d m st r s h =
      subst (λ z. Xored into (value_steps e) m z im p d) (number_is address slot program st spot (bases_of m) m.cells e
      h) (law.xors im d m r s)

  -- a condition
  pub source_test : (into : ℕ) (e : Expression) (p : List Symbol) → ConditionLaw spot free into e p
      → (im : Image) (d : Bool) (m : Memory) (st : State) → Ready free (words e) m → SeesIn spot free m e
      → Means address slot program st spot (bases_of m) m.cells e
      → Xored into (test_steps e) m (truth_of (shown_result address slot (value program st e))) im p d
  source_test into e p law im d m st r s h =
      subst (λ z. Xored into (test_steps e) m (truth_of z) im p d)
      (number_is address slot program st spot (bases_of m) m.cells e h) (law.xors im d m r s)

  -- ---- two states

  module _ (b : Bases) (cells cells' : List ℕ) (st st' : State) where
    same_of : (e : Expression) → Means address slot program st spot b cells e
        → Means address slot program st' spot b cells' e → value program st' e ≡ value program st e
        → number spot b cells' e ≡ number spot b cells e
    same_of e h h' v = number_is address slot program st' spot b cells' e h' ∙ ap (shown_result address slot) v
        ∙ sym (number_is address slot program st spot b cells e h)

    -- if the values are the same, so are the numbers
    pub same_numbers : (e : Expression) → Means address slot program st spot b cells e
        → Means address slot program st' spot b cells' e → SameValues program st st' e → Same spot b cells cells' e
    same_numbers (Number at word) h h' v = tt
    same_numbers (Null at) h h' v = tt
    same_numbers (Variable name) h h' v = h' ∙ ap (shown address slot) v ∙ sym h
    same_numbers (Element name index) h h' v = (same_of (Element name index) h h' v.0, same_numbers index h.3 h'.3 v.1)
    same_numbers (Binary at o left right) h h' v = (
      same_of (Binary at o left right) h h' v.0,
      same_numbers left h.0 h'.0 v.1,
      same_numbers right h.1 h'.1 v.2,
    )

    pub same_places : (target : Lvalue) → MeansPlace address slot program st spot b cells target
        → MeansPlace address slot program st' spot b cells' target → SameCells program st st' target
        → SamePlace spot b cells cells' target
    same_places (Whole name) h h' c = tt
    same_places (Item name index) h h' c = (
      place_is address slot program st' spot b cells' (Item name index) h' ∙ ap (cell_result address slot) c.0
          ∙ sym (place_is address slot program st spot b cells (Item name index) h),
      same_numbers index h.3 h'.3 c.1,
    )

  -- ---- updates

  -- what holds for a state and its memory, and for the state after the write and its memory
  pub record Updating (target : Lvalue) (e : Expression) (m : Memory) (st st' : State) (cells' : List ℕ) : Type 0 where
    pub can : CanEvaluate spot free (place_words target + words e) (lvalue_read target) e m
    pub place_means : MeansPlace address slot program st spot (bases_of m) m.cells target
    pub value_means : Means address slot program st spot (bases_of m) m.cells e
    pub place_means_after : MeansPlace address slot program st' spot (bases_of m) cells' target
    pub value_means_after : Means address slot program st' spot (bases_of m) cells' e
    pub place_sees_after : Sees spot (bases_of m) (free_at free m) cells' (lvalue_read target)
    pub value_sees_after : Sees spot (bases_of m) (free_at free m) cells' e
    pub same_cells : SameCells program st st' target
    pub same_values : SameValues program st st' e
    pub apart : update_shares spot (bases_of m) m.cells target e ≡ false
    pub apart_after : update_shares spot (bases_of m) cells' target e ≡ false

  pub source_update : (op : UpdateOp) (target : Lvalue) (e : Expression) (p : List Symbol)
      → UpdateLaw spot free op target e p → (im : Image) (d : Bool) (m : Memory) (st st' : State) (cell : Cell)
      (v : Value) (cells' : List ℕ) → cell_of program st target ≡ Ok cell → value program st e ≡ Ok v
      → number_of v ≡ shown address slot v → slice_index m.cells (cell_address address slot cell)
      ≡ number_of (read st cell) → cells' ≡ slice_set m.cells (cell_address address slot cell)
      (updated (turned_operator d op) (number_of (read st cell)) (number_of v)) → Updating target e m st st' cells'
      → Runs im p d m (Done (record m { cells = cells' }) (update_steps target e))
  source_update op target e p law im d m st st' cell v cells' nc nv int word is h =
      let a : ℕ = cell_address address slot cell in
      let na : place_address spot (bases_of m) m.cells target ≡ Ok a =
      place_is address slot program st spot (bases_of m) m.cells target h.place_means
      ∙ ap (cell_result address slot) nc in
      let nn : number spot (bases_of m) m.cells e ≡ Ok (shown address slot v) =
      number_is address slot program st spot (bases_of m) m.cells e h.value_means
      ∙ ap (shown_result address slot) nv in
      let same : updated_at d op a (shown address slot v) m.cells ≡ cells' =
      ap (λ x. slice_set m.cells a (updated (turned_operator d op) x (shown address slot v))) word
      ∙ ap (λ x. slice_set m.cells a (updated (turned_operator d op) (number_of (read st cell)) x)) (sym int) ∙ sym is in
      let stays : UpdateStays spot (bases_of m) (free_at free m) target e m.cells cells' = record {
        place_sees = h.place_sees_after;
        value_sees = h.value_sees_after;
        place_same = same_places (bases_of m) m.cells cells' st st' target h.place_means h.place_means_after
            h.same_cells;
        value_same = same_numbers (bases_of m) m.cells cells' st st' e h.value_means h.value_means_after h.same_values;
        apart = h.apart_after;
      } in
      subst (λ z. Runs im p d m (Done (with_cells z m) (update_steps target e))) same
      (law.updates im d m h.can a (shown address slot v) na nn h.apart
      (subst (UpdateStays spot (bases_of m) (free_at free m) target e m.cells) (sym same) stays))
    where
      with_cells : List ℕ → Memory → Memory
      with_cells cells z = record z { cells = cells }

  -- the faults of an update, in their order
  pub source_update_place : (op : UpdateOp) (target : Lvalue) (e : Expression) (p : List Symbol)
      → UpdateLaw spot free op target e p → (im : Image) (d : Bool) (m : Memory) (st : State) (c : ℕ)
      → CanEvaluate spot free (place_words target + words e) (lvalue_read target) e m
      → MeansPlace address slot program st spot (bases_of m) m.cells target → cell_of program st target ≡ Err c
      → IsTrap im p d m c (place_steps target)
  source_update_place op target e p law im d m st c can h n =
      law.place_faults im d m can c (place_is address slot program st spot (bases_of m) m.cells target h
      ∙ ap (cell_result address slot) n)

  pub source_update_value : (op : UpdateOp) (target : Lvalue) (e : Expression) (p : List Symbol)
      → UpdateLaw spot free op target e p → (im : Image) (d : Bool) (m : Memory) (st : State) (cell : Cell) (c : ℕ)
      → CanEvaluate spot free (place_words target + words e) (lvalue_read target) e m
      → MeansPlace address slot program st spot (bases_of m) m.cells target
      → Means address slot program st spot (bases_of m) m.cells e → cell_of program st target ≡ Ok cell
      → value program st e ≡ Err c
      → IsTrap im p d m c (place_steps target + fetch_steps e)
  source_update_value op target e p law im d m st cell c can h k nc n =
      law.value_faults im d m can (cell_address address slot cell) c
      (place_is address slot program st spot (bases_of m) m.cells target h ∙ ap (cell_result address slot) nc)
      (number_is address slot program st spot (bases_of m) m.cells e k ∙ ap (shown_result address slot) n)

  pub source_update_sharing : (op : UpdateOp) (target : Lvalue) (e : Expression) (p : List Symbol)
      → UpdateLaw spot free op target e p → (im : Image) (d : Bool) (m : Memory) (st : State) (cell : Cell) (v : Value)
      → CanEvaluate spot free (place_words target + words e) (lvalue_read target) e m
      → MeansPlace address slot program st spot (bases_of m) m.cells target
      → Means address slot program st spot (bases_of m) m.cells e → cell_of program st target ≡ Ok cell
      → value program st e ≡ Ok v → update_shares spot (bases_of m) m.cells target e ≡ true
      → IsTrap im p d m SHARED_ARRAY (place_steps target + fetch_steps e + apart_steps target (index_of target) e)
  source_update_sharing op target e p law im d m st cell v can h k nc n shared =
      law.sharing_faults im d m can (cell_address address slot cell) (shown address slot v)
      (place_is address slot program st spot (bases_of m) m.cells target h ∙ ap (cell_result address slot) nc)
      (number_is address slot program st spot (bases_of m) m.cells e k ∙ ap (shown_result address slot) n) shared

  -- ---- swaps

  pub record Swapping (left right : Lvalue) (m : Memory) (st st' : State) (cells' : List ℕ) : Type 0 where
    pub can : CanEvaluate spot free (place_words left + place_words right) (lvalue_read left) (lvalue_read right) m
    pub left_means : MeansPlace address slot program st spot (bases_of m) m.cells left
    pub right_means : MeansPlace address slot program st spot (bases_of m) m.cells right
    pub left_means_after : MeansPlace address slot program st' spot (bases_of m) cells' left
    pub right_means_after : MeansPlace address slot program st' spot (bases_of m) cells' right
    pub left_sees_after : Sees spot (bases_of m) (free_at free m) cells' (lvalue_read left)
    pub right_sees_after : Sees spot (bases_of m) (free_at free m) cells' (lvalue_read right)
    pub left_same : SameCells program st st' left
    pub right_same : SameCells program st st' right
    pub apart : swap_shares spot (bases_of m) m.cells left right ≡ false
    pub apart_after : swap_shares spot (bases_of m) cells' left right ≡ false

  pub source_swap : (left right : Lvalue) (p : List Symbol) → SwapLaw spot free left right p
      → (im : Image) (d : Bool) (m : Memory) (st st' : State) (x y : Cell) (cells' : List ℕ)
      → cell_of program st left ≡ Ok x → cell_of program st right ≡ Ok y
      → cells' ≡ swapped_at (cell_address address slot x) (cell_address address slot y) m.cells
      → Swapping left right m st st' cells'
      → Runs im p d m (Done (record m { cells = cells' }) (swap_steps left right))
  source_swap left right p law im d m st st' x y cells' nx ny is h =
      let a : ℕ = cell_address address slot x in
      let a' : ℕ = cell_address address slot y in
      let na : place_address spot (bases_of m) m.cells left ≡ Ok a =
      place_is address slot program st spot (bases_of m) m.cells left h.left_means
      ∙ ap (cell_result address slot) nx in
      let na' : place_address spot (bases_of m) m.cells right ≡ Ok a' =
      place_is address slot program st spot (bases_of m) m.cells right h.right_means
      ∙ ap (cell_result address slot) ny in
      let stays : BothStay spot (bases_of m) (free_at free m) left right m.cells cells' = record {
        left_sees = h.left_sees_after;
        right_sees = h.right_sees_after;
        left_same = same_places (bases_of m) m.cells cells' st st' left h.left_means h.left_means_after h.left_same;
        right_same = same_places (bases_of m) m.cells cells' st st' right h.right_means h.right_means_after
            h.right_same;
        apart = h.apart_after;
      } in
      subst (λ z. Runs im p d m (Done (with_cells z m) (swap_steps left right))) (sym is)
      (law.swaps im d m h.can a a' na na' h.apart (subst
      (BothStay spot (bases_of m) (free_at free m) left right m.cells) is stays))
    where
      with_cells : List ℕ → Memory → Memory
      with_cells cells z = record z { cells = cells }

  pub source_swap_left : (left right : Lvalue) (p : List Symbol) → SwapLaw spot free left right p
      → (im : Image) (d : Bool) (m : Memory) (st : State) (c : ℕ)
      → CanEvaluate spot free (place_words left + place_words right) (lvalue_read left) (lvalue_read right) m
      → MeansPlace address slot program st spot (bases_of m) m.cells left → cell_of program st left ≡ Err c
      → IsTrap im p d m c (place_steps left)
  source_swap_left left right p law im d m st c can h n =
      law.left_faults im d m can c (place_is address slot program st spot (bases_of m) m.cells left h
      ∙ ap (cell_result address slot) n)

  pub source_swap_right : (left right : Lvalue) (p : List Symbol) → SwapLaw spot free left right p
      → (im : Image) (d : Bool) (m : Memory) (st : State) (x : Cell) (c : ℕ)
      → CanEvaluate spot free (place_words left + place_words right) (lvalue_read left) (lvalue_read right) m
      → MeansPlace address slot program st spot (bases_of m) m.cells left
      → MeansPlace address slot program st spot (bases_of m) m.cells right → cell_of program st left ≡ Ok x
      → cell_of program st right ≡ Err c
      → IsTrap im p d m c (place_steps left + place_steps right)
  source_swap_right left right p law im d m st x c can h k nx n =
      law.right_faults im d m can (cell_address address slot x) c
      (place_is address slot program st spot (bases_of m) m.cells left h ∙ ap (cell_result address slot) nx)
      (place_is address slot program st spot (bases_of m) m.cells right k ∙ ap (cell_result address slot) n)

  pub source_swap_sharing : (left right : Lvalue) (p : List Symbol) → SwapLaw spot free left right p
      → (im : Image) (d : Bool) (m : Memory) (st : State) (x y : Cell)
      → CanEvaluate spot free (place_words left + place_words right) (lvalue_read left) (lvalue_read right) m
      → MeansPlace address slot program st spot (bases_of m) m.cells left
      → MeansPlace address slot program st spot (bases_of m) m.cells right → cell_of program st left ≡ Ok x
      → cell_of program st right ≡ Ok y → swap_shares spot (bases_of m) m.cells left right ≡ true
      → IsTrap im p d m SHARED_ARRAY (place_steps left + place_steps right + both_apart_steps left right)
  source_swap_sharing left right p law im d m st x y can h k nx ny shared =
      law.sharing_faults im d m can (cell_address address slot x) (cell_address address slot y)
      (place_is address slot program st spot (bases_of m) m.cells left h ∙ ap (cell_result address slot) nx)
      (place_is address slot program st spot (bases_of m) m.cells right k ∙ ap (cell_result address slot) ny) shared
