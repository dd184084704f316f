-- Updates and swaps against the source's rows, in both directions, with faults, counts and steps,
-- from what a relation gives.
use Rattle.std.proofs.Common.{◌≡◌, ℕ, ◌+◌, ◌≤◌, Bool, true, false, List, ◌++◌, refl, sym, ◌∙◌, subst, arith}
use Rattle.std.specs.Prelude.{slice_index, slice_set, Result, Ok, Err}
use Rattle.register_expressions.specs.rpp_tree.declared.tree.UpdateOp.{UpdateOp}
use Rattle.register_expressions.specs.rpp_tree.Tree.{Expression, Lvalue, Update, Swap, nodes, index_nodes}
use Rattle.register_expressions.specs.pisa_isa.Machine.{Memory}
use Rattle.register_expressions.specs.paired_code.declared.part.Symbol.{Symbol}
use Rattle.register_expressions.specs.paired_code.Machine.{Image}
use Rattle.register_expressions.specs.paired_code.Pieces.{Will}
use Rattle.register_expressions.specs.paired_code.Does.{Rates, Meets, fine, faults, Does}
use Rattle.register_expressions.proofs.paired_code_laws.Laws.{will_of}
use Rattle.register_expressions.specs.roopl_semantics.Operators.{updated}
use Rattle.register_expressions.specs.roopl_semantics.Run.{Run, after_cost, given, give, spend, fault_if, ◌>>=◌}
use Rattle.register_expressions.specs.roopl_semantics.Store.{Value, Word, State, number_of}
use Rattle.register_expressions.specs.roopl_semantics.Value.{Cell, read, written, value, cell_of}
use Rattle.register_expressions.specs.roopl_semantics.Elements.{elements, index_elements, own_element, share_array}
use Rattle.register_expressions.specs.roopl_semantics.Elements.{read_cost, SHARED_ARRAY}
use Rattle.register_expressions.specs.roopl_semantics.Execution.{Setting, Runner, statement}
use Rattle.register_expressions.specs.refine_form.declared.spot.Spot.{Spot}
use Rattle.register_expressions.specs.refine_form.Form.{run_result, turned_statement as facing}
use Rattle.register_expressions.specs.Code.{words}
use Rattle.expr_uncompute.specs.Code.{place_words}
use Rattle.register_expressions.specs.Number.{lvalue_read, index_of}
use Rattle.expr_uncompute.specs.Steps.{place_steps, fetch_steps, apart_steps, both_apart_steps, update_steps}
use Rattle.expr_uncompute.specs.Steps.{swap_steps}
use Rattle.register_expressions.specs.Laws.{bases_of}
use Rattle.expr_uncompute.specs.Laws.{turned_operator, swapped_at}
use Rattle.expr_uncompute.specs.Promises.{UpdateLaw, SwapLaw, CanEvaluate}
use Rattle.expr_uncompute.specs.Means.{shown, cell_address, Means, MeansPlace, TellsShares}
use Rattle.expr_uncompute.proofs.Sharing.{update_shares_is, swap_shares_is}
use Rattle.expr_uncompute.proofs.SourceLaws.{Updating, Swapping, source_update, source_update_place}
use Rattle.expr_uncompute.proofs.SourceLaws.{source_update_value, source_update_sharing, source_swap, source_swap_left}
use Rattle.expr_uncompute.proofs.SourceLaws.{source_swap_right, source_swap_sharing}
use Rattle.expr_uncompute.proofs.Rated.{less, rated}
use Rattle.expr_uncompute.proofs.Bounds.{update_most, update_sharing_most, update_least, swap_most, swap_sharing_most}
use Rattle.expr_uncompute.proofs.Bounds.{swap_least, place_less, place_most, fetch_most}

-- the check of arrays, with its count
abbrev kept_by : ℕ → Bool → Run (Unit {0})
kept_by cost shared = spend cost >>= λ _. fault_if SHARED_ARRAY shared

module _ (setting : Setting) (address slot : State → ℕ → ℕ) (R : State → Memory → Type 0) (spot : List ℕ → Spot)
    (free : ℕ) where
  -- what an update needs of the relation
  pub record UpdateFacts (op : UpdateOp) (target : Lvalue) (e : Expression) : Type 0 where
    pub tells : (st : State) (m : Memory) → R st m → TellsShares (address st) (slot st) setting.program st spot
        (bases_of m) m.cells target (index_of target) e
    pub can : (st : State) (m : Memory) → R st m → CanEvaluate spot free (place_words target + words e)
        (lvalue_read target)
        e m
    pub place_means : (st : State) (m : Memory) → R st m → MeansPlace (address st) (slot st) setting.program st spot
        (bases_of m) m.cells target
    pub value_means : (st : State) (m : Memory) → R st m → Means (address st) (slot st) setting.program st spot
        (bases_of m) m.cells e
    pub int_value : (st : State) (m : Memory) (v : Value) → R st m → value setting.program st e ≡ Ok v
        → number_of v ≡ shown (address st) (slot st) v
    pub int_cell : (st : State) (m : Memory) (cell : Cell) → R st m → cell_of setting.program st target ≡ Ok cell
        → slice_index m.cells (cell_address (address st) (slot st) cell) ≡ number_of (read st cell)
    pub updating :
        (o : UpdateOp) (st : State) (m : Memory) (cell : Cell) (v : Value) → R st m
        → cell_of setting.program st target ≡ Ok cell → value setting.program st e ≡ Ok v
        → share_array setting.program st (own_element target) (index_elements target ++ elements e) ≡ false
        → Updating (address st) (slot st) setting.program spot free target e m st
        (written st cell (Word (updated o (number_of (read st cell)) (number_of v))))
        (slice_set m.cells (cell_address (address st) (slot st) cell)
        (updated o (number_of (read st cell)) (number_of v)))
    pub after :
        (o : UpdateOp) (st : State) (m : Memory) (cell : Cell) (v : Value) → R st m
        → cell_of setting.program st target ≡ Ok cell → value setting.program st e ≡ Ok v
        → share_array setting.program st (own_element target) (index_elements target ++ elements e) ≡ false
        → R (written st cell (Word (updated o (number_of (read st cell)) (number_of v))))
        (record m {
          cells = slice_set m.cells (cell_address (address st) (slot st) cell)
              (updated o (number_of (read st cell)) (number_of v));
        })

  -- the row of an update
  abbrev update_row : UpdateOp → Lvalue → Expression → State → Bool → Result Cell ℕ → Result Value ℕ → Run State
  update_row o target e st shared rc rv =
      after_cost 1 (after_cost (index_nodes target) (given rc) >>= λ cell. after_cost (nodes e) (given rv) >>= λ v.
      kept_by (read_cost (own_element target) (index_elements target ++ elements e)) shared >>= λ _. give
      (written st cell (Word (updated o (number_of (read st cell)) (number_of v)))))

  module _ (b : Rates) (some : 1 ≤ b.counts) (many : 162 ≤ b.steps) (op : UpdateOp) (target : Lvalue) (e : Expression)
      (p : List Symbol) (law : UpdateLaw spot free op target e p) (facts : UpdateFacts op target e) (im : Image) (n : ℕ)
    where
      update_meets : (d : Bool) (st : State) (m : Memory) → R st m
          → (shared : Bool) (rc : Result Cell ℕ) (rv : Result Value ℕ)
          → share_array setting.program st (own_element target) (index_elements target ++ elements e) ≡ shared
          → cell_of setting.program st target ≡ rc → value setting.program st e ≡ rv
          → Will im p d m (Meets R b n 0 (run_result (update_row (turned_operator d op) target e st shared rc rv)))
      update_meets d st m h shared (Err c) rv ns nc nv =
          let t = source_update_place (address st) (slot st) setting.program spot free op target e p law im d m st c
          (facts.can st m h) (facts.place_means st m h) nc in
          will_of im p d m _ _ t.2 (faults (let k = rated 162 b.steps (place_steps target) (1 + index_nodes target) many
          (let l = place_less target in omega arith) in omega (arith, t.1)))
      update_meets d st m h shared (Ok cell) (Err c) ns nc nv =
          let t = source_update_value (address st) (slot st) setting.program spot free op target e p law im d m st cell
          c
          (facts.can st m h) (facts.place_means st m h) (facts.value_means st m h) nc nv in
          will_of im p d m _ _ t.2 (faults (let k = rated 162 b.steps (place_steps target + fetch_steps e)
          (1 + index_nodes target + nodes e) many (let l = place_less target in let l' = fetch_most e in
          omega arith) in omega (arith, t.1)))
      update_meets d st m h true (Ok cell) (Ok v) ns nc nv =
          let is = update_shares_is (address st) (slot st) setting.program st spot (bases_of m) m.cells target e
          (facts.place_means st m h) (facts.value_means st m h) (facts.tells st m h) ∙ ns in
          let t = source_update_sharing (address st) (slot st) setting.program spot free op target e p law im d m st
          cell
          v (facts.can st m h) (facts.place_means st m h) (facts.value_means st m h) nc nv is in
          will_of im p d m _ _ t.2 (faults (let k = rated 162 b.steps
          (place_steps target + fetch_steps e + apart_steps target (index_of target) e)
          (1 + index_nodes target + nodes e + read_cost (own_element target)
          (index_elements target ++ elements e)) many (update_sharing_most target e) in omega (arith, t.1)))
      update_meets d st m h false (Ok cell) (Ok v) ns nc nv =
          let run = source_update (address st) (slot st) setting.program spot free op target e p law im d m st _ cell v
          _
          nc nv (facts.int_value st m v h nv) (facts.int_cell st m cell h nc) refl
          (facts.updating (turned_operator d op) st m cell v h nc nv ns) in
          will_of im p d m _ _ run (fine (facts.after (turned_operator d op) st m cell v h nc nv ns)
          (less b.counts (update_steps target e) _ some (let l = update_least target e in omega arith))
          (let k = rated 162 b.steps (update_steps target e)
          (1 + index_nodes target + nodes e + read_cost (own_element target)
          (index_elements target ++ elements e)) many (update_most target e) in omega arith))

      statement_is : (d : Bool) (at k : ℕ) (run : Runner) (st : State)
          → after_cost 1 (statement setting k run (facing d (Update at op target e)) st)
          ≡ update_row (turned_operator d op) target e st (share_array setting.program st (own_element target)
          (index_elements target ++ elements e)) (cell_of setting.program st target) (value setting.program st e)
      statement_is false at k run st = refl
      statement_is true at k run st = refl

      -- so an update's fragment does what the source does
      pub update_does : (d : Bool) (at k : ℕ) (run : Runner)
          → Does im p d R R b n 0 (λ st. run_result (after_cost 1
          (statement setting k run (facing d (Update at op target e))
          st)))
      update_does d at k run = record {
        does = λ st m h. subst (λ r. Will im p d m (Meets R b n 0 (run_result r))) (sym (statement_is d at k run st))
            (update_meets d st m h (share_array setting.program st (own_element target)
            (index_elements target ++ elements e)) (cell_of setting.program st target) (value setting.program st e)
            refl refl refl);
      }

  -- what a swap needs of the relation
  pub record SwapFacts (left right : Lvalue) : Type 0 where
    pub left_tells : (st : State) (m : Memory) → R st m → TellsShares (address st) (slot st) setting.program st spot
        (bases_of m) m.cells left (index_of left) (index_of right)
    pub right_tells : (st : State) (m : Memory) → R st m → TellsShares (address st) (slot st) setting.program st spot
        (bases_of m) m.cells right (index_of left) (index_of right)
    pub can : (st : State) (m : Memory) → R st m → CanEvaluate spot free (place_words left + place_words right)
        (lvalue_read left) (lvalue_read right) m
    pub left_means : (st : State) (m : Memory) → R st m → MeansPlace (address st) (slot st) setting.program st spot
        (bases_of m) m.cells left
    pub right_means : (st : State) (m : Memory) → R st m → MeansPlace (address st) (slot st) setting.program st spot
        (bases_of m) m.cells right
    pub swapping :
        (st : State) (m : Memory) (x y : Cell) → R st m → cell_of setting.program st left ≡ Ok x
        → cell_of setting.program st right ≡ Ok y → share_array setting.program st
        (own_element left ++ own_element right) (index_elements left ++ index_elements right) ≡ false
        → Swapping (address st) (slot st) setting.program spot free left right m st
        (written (written st x (read st y)) y (read st x))
        (swapped_at (cell_address (address st) (slot st) x) (cell_address (address st) (slot st) y) m.cells)
    pub after :
        (st : State) (m : Memory) (x y : Cell) → R st m → cell_of setting.program st left ≡ Ok x
        → cell_of setting.program st right ≡ Ok y → share_array setting.program st
        (own_element left ++ own_element right) (index_elements left ++ index_elements right) ≡ false
        → R (written (written st x (read st y)) y (read st x))
        (record m {
          cells = swapped_at (cell_address (address st) (slot st) x)
              (cell_address (address st) (slot st) y) m.cells;
        })

  abbrev swap_row : (left right : Lvalue) → State → Bool → (rx ry : Result Cell ℕ) → Run State
  swap_row left right st shared rx ry =
      after_cost 1 (after_cost (index_nodes left) (given rx) >>= λ x. after_cost (index_nodes right) (given ry) >>= λ y.
      kept_by (read_cost (own_element left ++ own_element right) (index_elements left ++ index_elements right))
      shared >>= λ _. give (written (written st x (read st y)) y (read st x)))

  module _ (b : Rates) (some : 1 ≤ b.counts) (many : 304 ≤ b.steps) (left right : Lvalue) (p : List Symbol)
      (law : SwapLaw spot free left right p) (facts : SwapFacts left right) (im : Image) (n : ℕ) where
    swap_meets : (d : Bool) (st : State) (m : Memory) → R st m → (shared : Bool) (rx ry : Result Cell ℕ)
        → share_array setting.program st (own_element left ++ own_element right)
        (index_elements left ++ index_elements right) ≡ shared → cell_of setting.program st left ≡ rx
        → cell_of setting.program st right ≡ ry
        → Will im p d m (Meets R b n 0 (run_result (swap_row left right st shared rx ry)))
    swap_meets d st m h shared (Err c) ry ns nx ny =
        let t = source_swap_left (address st) (slot st) setting.program spot free left right p law im d m st c
        (facts.can st m h) (facts.left_means st m h) nx in
        will_of im p d m _ _ t.2 (faults (let k = rated 304 b.steps (place_steps left) (1 + index_nodes left) many
        (let l = place_most left in omega arith) in omega (arith, t.1)))
    swap_meets d st m h shared (Ok x) (Err c) ns nx ny =
        let t = source_swap_right (address st) (slot st) setting.program spot free left right p law im d m st x c
        (facts.can st m h) (facts.left_means st m h) (facts.right_means st m h) nx ny in
        will_of im p d m _ _ t.2 (faults (let k = rated 304 b.steps (place_steps left + place_steps right)
        (1 + index_nodes left + index_nodes right) many
        (let l = place_most left in let l' = place_most right in omega arith) in omega (arith, t.1)))
    swap_meets d st m h true (Ok x) (Ok y) ns nx ny =
        let is = swap_shares_is (address st) (slot st) setting.program st spot (bases_of m) m.cells left right
        (facts.left_means st m h) (facts.right_means st m h) (facts.left_tells st m h) (facts.right_tells st m h)
        ∙ ns in
        let t = source_swap_sharing (address st) (slot st) setting.program spot free left right p law im d m st x y
        (facts.can st m h) (facts.left_means st m h) (facts.right_means st m h) nx ny is in
        will_of im p d m _ _ t.2 (faults (let k = rated 304 b.steps
        (place_steps left + place_steps right + both_apart_steps left right)
        (1 + index_nodes left + index_nodes right + read_cost (own_element left ++ own_element right)
        (index_elements left ++ index_elements right)) many (swap_sharing_most left right) in
        omega (arith, t.1)))
    swap_meets d st m h false (Ok x) (Ok y) ns nx ny =
        let run = source_swap (address st) (slot st) setting.program spot free left right p law im d m st _ x y _ nx ny
        refl (facts.swapping st m x y h nx ny ns) in
        will_of im p d m _ _ run (fine (facts.after st m x y h nx ny ns)
        (less b.counts (swap_steps left right) _ some (let l = swap_least left right in omega arith))
        (let k = rated 304 b.steps (swap_steps left right)
        (1 + index_nodes left + index_nodes right + read_cost (own_element left ++ own_element right)
        (index_elements left ++ index_elements right)) many (swap_most left right) in omega arith))

    swap_is : (d : Bool) (at k : ℕ) (run : Runner) (st : State)
        → after_cost 1 (statement setting k run (facing d (Swap at left right)) st)
        ≡ swap_row left right st (share_array setting.program st (own_element left ++ own_element right)
        (index_elements left ++ index_elements right)) (cell_of setting.program st left)
        (cell_of setting.program st right)
    swap_is false at k run st = refl
    swap_is true at k run st = refl

    pub swap_does : (d : Bool) (at k : ℕ) (run : Runner) → Does im p d R R b n 0
        (λ st. run_result (after_cost 1 (statement setting k run (facing d (Swap at left right)) st)))
    swap_does d at k run = record {
      does = λ st m h. subst (λ r. Will im p d m (Meets R b n 0 (run_result r))) (sym (swap_is d at k run st))
          (swap_meets d st m h (share_array setting.program st (own_element left ++ own_element right)
          (index_elements left ++ index_elements right)) (cell_of setting.program st left)
          (cell_of setting.program st right) refl refl refl);
    }
