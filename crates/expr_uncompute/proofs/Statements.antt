-- The laws of updates and swaps, over memories and in both directions.
use Rattle.std.proofs.Common.{◌≡◌, ◌≢◌, ℕ, ◌+◌, ◌^◌, ◌<◌, ◌≤◌, Bool, true, false, List, length, length-set, refl, sym}
use Rattle.std.proofs.Common.{ap, ◌∙◌, subst, arith, ⊎_elim}
use Rattle.std.specs.Prelude.{slice_index, slice_set, Ok, Err}
use Rattle.std.proofs.lemmas.List.{get_or-set_same, get_or-set_other, set_comm, set-set, set-get_or}
use Rattle.std.proofs.lemmas.Nat.{xor_lt}
use Rattle.std.proofs.lemmas.Bool.{cases_eq}
use Rattle.register_expressions.proofs.rpp_words_laws.Laws.{difference_of-sum_of, sum_of-difference_of, xor-twice}
use Rattle.register_expressions.specs.rpp_tree.declared.tree.UpdateOp.{UpdateOp}
use Rattle.register_expressions.specs.rpp_tree.declared.tree.UpdateOp.TheVariants as update
use Rattle.register_expressions.specs.rpp_tree.Tree.{Expression, Lvalue, Whole, Item}
use Rattle.register_expressions.specs.inverse_rules.Inverse.{inverse_operator}
use Rattle.register_expressions.specs.pisa_isa.Machine.{Memory}
use Rattle.register_expressions.specs.paired_code.Machine.{Image, memory_reg}
use Rattle.register_expressions.specs.paired_code.Pieces.{Done, Trapped, Runs}
use Rattle.register_expressions.specs.paired_code.declared.part.Symbol.{Symbol}
use Rattle.register_expressions.specs.roopl_semantics.Operators.{updated}
use Rattle.register_expressions.specs.refine_form.declared.spot.Spot.{Spot}
use Rattle.register_expressions.specs.Code.{words}
use Rattle.expr_uncompute.specs.Code.{place_words, update_cells, swap_cells}
use Rattle.register_expressions.specs.Number.{Bases, number, lvalue_read, index_of, place_address, update_shares}
use Rattle.register_expressions.specs.Number.{swap_shares, Sees, SamePlace}
use Rattle.expr_uncompute.specs.Steps.{place_steps, fetch_steps, apart_steps, both_apart_steps, update_steps}
use Rattle.expr_uncompute.specs.Steps.{swap_steps}
use Rattle.register_expressions.specs.Laws.{bases_of, Ready}
use Rattle.expr_uncompute.specs.Laws.{turned_operator, updated_at, swapped_at, UpdateStays, BothStay}
use Rattle.register_expressions.proofs.Goes.{TrapsBoth}
use Rattle.register_expressions.proofs.Scratch.{keeping, mem}
use Rattle.register_expressions.proofs.Numbers.{words_set, number_word}
use Rattle.expr_uncompute.proofs.Stored.{same_number}
use Rattle.expr_uncompute.proofs.Whole.{as_mem}
use Rattle.expr_uncompute.proofs.Written.{FitFrom, same_turned, place_turned}
use Rattle.expr_uncompute.proofs.Updates.{place_low, update_goes, update_traps_place, update_traps_value}
use Rattle.expr_uncompute.proofs.Updates.{update_traps_sharing, swap_goes, swap_traps_first, swap_traps_second}
use Rattle.expr_uncompute.proofs.Updates.{swap_traps_sharing}
use Rattle.register_expressions.specs.code_conventions.declared.faults.TheConstants.{SHARED_ARRAY}
use Rattle.register_expressions.specs.code_conventions.declared.registers.TheConstants.{FRAME}

updated_word : (op : UpdateOp) (x v : ℕ) → x < 2 ^ 32 → v < 2 ^ 32 → updated op x v < 2 ^ 32
updated_word update.Add x v h k = omega arith
updated_word update.Sub x v h k = omega arith
updated_word update.Xor x v h k = xor_lt 32 x v h k

updated_back : (op : UpdateOp) (x v : ℕ) → x < 2 ^ 32 → v < 2 ^ 32
    → updated op (updated (inverse_operator op) x v) v ≡ x
updated_back update.Add x v h k = sum_of-difference_of x v h k
updated_back update.Sub x v h k = difference_of-sum_of x v h k
updated_back update.Xor x v h k = xor-twice x v

abbrev with_cells : List ℕ → Memory → Memory
with_cells cells z = record z { cells = cells }

-- swapped twice
swapped_back : (zs : List ℕ) (p q : ℕ) → p < length zs → q < length zs → zs ≡ swapped_at p q (swapped_at p q zs)
swapped_back zs p q h k = ⊎_elim (λ e. one e) (λ n. two n) (cases_eq p q)
  where
    one : p ≡ q → zs ≡ swapped_at p q (swapped_at p q zs)
    one e =
        let same : (ys : List ℕ) → swapped_at p q ys ≡ ys = λ ys. ap (λ q. swapped_at p q ys) (sym e)
        ∙ set-set ys p (slice_index ys p) (slice_index ys p) ∙ set-get_or ys p 0 in
        sym (same (swapped_at p q zs) ∙ same zs)

    two : p ≢ q → zs ≡ swapped_at p q (swapped_at p q zs)
    two n =
        let x : ℕ = slice_index zs p in
        let y : ℕ = slice_index zs q in
        let n' : q ≢ p = λ e. n (sym e) in
        let ys : List ℕ = slice_set (slice_set zs p y) q x in
        let at_q : slice_index ys q ≡ x = get_or-set_same (slice_set zs p y) q x 0 (rw (length-set zs p y) k) in
        let at_p : slice_index ys p ≡ y = get_or-set_other (slice_set zs p y) q p x 0 n ∙ get_or-set_same zs p y 0 h in
        sym (
        ap (λ z. slice_set (slice_set ys p z) q (slice_index ys p)) at_q
        ∙ ap (λ z. slice_set (slice_set ys p x) q z) at_p
        ∙ ap (λ z. slice_set z q y) (set_comm (slice_set zs p y) q p x x n'
        ∙ ap (λ z. slice_set z q x) (set-set zs p y x ∙ set-get_or zs p 0))
        ∙ set-set zs q x y
        ∙ set-get_or zs q 0)

module _ (spot : List ℕ → Spot) (free : ℕ) (m : Memory) where
  abbrev b : Bases
  b = bases_of m

  abbrev low : ℕ
  low = memory_reg m FRAME + free

  pub fit_from : (target : Lvalue) (n : ℕ) → Ready free (place_words target + n) m
      → Sees spot (bases_of m) (memory_reg m FRAME + free) m.cells (lvalue_read target)
      → FitFrom spot free (bases_of m) target n m.cells
  fit_from target n h s = record {
    all = h.words;
    sees = s;
    fits = let l = h.inside in omega arith;
    small = h.small;
    empty = λ a lo hi. h.empty a (omega arith) (omega arith);
  }

  pub place_kept : (target : Lvalue) (zs zs' : List ℕ) (a : ℕ) → SamePlace spot (bases_of m) zs zs' target
      → place_address spot (bases_of m) zs target ≡ Ok a → place_address spot (bases_of m) zs' target ≡ Ok a
  place_kept (Whole name) zs zs' a h n = n
  place_kept (Item name index) zs zs' a h n = h.0 ∙ n

  -- a run over the registers as they are known
  run_cells : (n : ℕ) → Ready free n m → (im : Image) (d : Bool) (p : List Symbol) (cells : List ℕ) (k : ℕ)
      → Runs im p d (mem (bases_of m) (memory_reg m) (keeping 0 0 0) m.cells)
      (Done (mem (bases_of m) (memory_reg m) (keeping 0 0 0) cells) k)
      → Runs im p d m (Done (record m { cells = cells }) k)
  run_cells n h im d p cells k r =
      let same = as_mem free n m h in
      let t : record m { cells = cells } ≡ mem (bases_of m) (memory_reg m) (keeping 0 0 0) cells =
      ap (with_cells cells) same in
      subst (λ z. Runs im p d z (Done (record m { cells = cells }) k)) (sym same)
      (subst (λ z. Runs im p d (mem (bases_of m) (memory_reg m) (keeping 0 0 0) m.cells) (Done z k)) (sym t) r)

  pub run_traps : (n : ℕ) → Ready free n m → (im : Image) (d : Bool) (p : List Symbol) (x c : ℕ)
      → TrapsBoth p x c (mem (bases_of m) (memory_reg m) (keeping 0 0 0) m.cells)
      → (k : ℕ) × (k ≤ x) × Runs im p d m (Trapped c k)
  run_traps n h im d p x c t = let a = t.runs im d in (
    a.0,
    a.1,
    subst (λ z. Runs im p d z (Trapped c a.0)) (sym (as_mem free n m h)) a.2,
  )

  -- one word written below
  fit_set : (target : Lvalue) (n a y : ℕ) → FitFrom spot free (bases_of m) target n m.cells
      → a < memory_reg m FRAME + free → y < 2 ^ 32
      → Sees spot (bases_of m) (memory_reg m FRAME + free) (slice_set m.cells a y) (lvalue_read target)
      → FitFrom spot free (bases_of m) target n (slice_set m.cells a y)
  fit_set target n a y h l w s = record {
    all = words_set m.cells a y h.all w;
    sees = s;
    fits = rw (length-set m.cells a y) h.fits;
    small = rw (length-set m.cells a y) h.small;
    empty = λ k lo hi. get_or-set_other m.cells a k y 0 (λ e. omega arith) ∙ h.empty k lo hi;
  }

  fit_two : (target : Lvalue) (n a y a' y' : ℕ) → FitFrom spot free (bases_of m) target n m.cells
      → a < memory_reg m FRAME + free
      → y < 2 ^ 32 → a' < memory_reg m FRAME + free → y' < 2 ^ 32 → Sees spot (bases_of m) (memory_reg m FRAME + free)
      (slice_set (slice_set m.cells a y) a' y') (lvalue_read target)
      → FitFrom spot free (bases_of m) target n (slice_set (slice_set m.cells a y) a' y')
  fit_two target n a y a' y' h l w l' w' s = record {
    all = words_set (slice_set m.cells a y) a' y' (words_set m.cells a y h.all w) w';
    sees = s;
    fits = rw (length-set (slice_set m.cells a y) a' y', length-set m.cells a y) h.fits;
    small = rw (length-set (slice_set m.cells a y) a' y', length-set m.cells a y) h.small;
    empty = λ k lo hi. get_or-set_other (slice_set m.cells a y) a' k y' 0 (λ e. omega arith)
        ∙ get_or-set_other m.cells a k y 0 (λ e. omega arith) ∙ h.empty k lo hi;
  }

  module _ (op : UpdateOp) (target : Lvalue) (value : Expression)
      (ready : Ready free (place_words target + words value) m)
      (place_sees : Sees spot (bases_of m) (memory_reg m FRAME + free) m.cells (lvalue_read target))
      (value_sees : Sees spot (bases_of m) (memory_reg m FRAME + free) m.cells value) (im : Image) where
    -- forward the update is made, backward that by the inverse operator
    pub update_law : (d : Bool) (a v : ℕ) → place_address spot (bases_of m) m.cells target ≡ Ok a
        → number spot (bases_of m) m.cells value ≡ Ok v → update_shares spot (bases_of m) m.cells target value ≡ false
        → UpdateStays spot (bases_of m) (memory_reg m FRAME + free) target value m.cells (updated_at d op a v m.cells)
        → Runs im (update_cells spot free op target value) d m
        (Done (record m { cells = updated_at d op a v m.cells }) (update_steps target value))
    update_law d a v na nv apart stays = run_cells (place_words target + words value) ready im d _ _ _ (either d stays)
      where
        fit : FitFrom spot free (bases_of m) target (words value) m.cells
        fit = fit_from target (words value) ready place_sees

        al : a < memory_reg m FRAME + free
        al = place_low spot free (bases_of m) target a m.cells place_sees na

        vw : v < 2 ^ 32
        vw = number_word spot (bases_of m) (memory_reg m FRAME + free) m.cells ready.words value value_sees v nv

        fit' : (d : Bool) → UpdateStays spot (bases_of m) (memory_reg m FRAME + free) target value m.cells
            (updated_at d op a v m.cells)
            → FitFrom spot free (bases_of m) target (words value) (updated_at d op a v m.cells)
        fit' d s = fit_set target (words value) a _ fit al (updated_word (turned_operator d op) (slice_index m.cells a)
            v
            (ready.words a) vw) s.place_sees

        either : (d : Bool) → UpdateStays spot (bases_of m) (memory_reg m FRAME + free) target value m.cells
            (updated_at d op a v m.cells) → Runs im (update_cells spot free op target value) d
            (mem (bases_of m) (memory_reg m) (keeping 0 0 0) m.cells)
            (Done (mem (bases_of m) (memory_reg m) (keeping 0 0 0) (updated_at d op a v m.cells))
            (update_steps target value))
        either false s =
            let zs' : List ℕ = updated_at false op a v m.cells in
            (update_goes spot free (bases_of m) (memory_reg m) op target value m.cells zs' a v fit (fit' false s)
            value_sees
            s.value_sees na (place_kept target m.cells zs' a s.place_same na) nv
            (same_number spot free (bases_of m) value m.cells zs' s.value_same ∙ nv) s.place_same s.value_same
            apart s.apart refl).ahead im
        either true s =
            let zs : List ℕ = m.cells in
            let x : ℕ = slice_index zs a in
            let y : ℕ = updated (inverse_operator op) x v in
            let zs' : List ℕ = slice_set zs a y in
            let fits = ready.inside in
            let there : slice_index zs' a ≡ y = get_or-set_same zs a y 0 (let l = al in omega arith) in
            let back : zs ≡ slice_set zs' a (updated op (slice_index zs' a) v) =
            sym (ap (λ z. slice_set zs' a (updated op z v)) there
            ∙ ap (slice_set zs' a) (updated_back op x v (ready.words a) vw) ∙ set-set zs a y x
            ∙ set-get_or zs a 0) in
            (update_goes spot free (bases_of m) (memory_reg m) op target value zs' zs a v (fit' true s) fit s.value_sees
            value_sees (place_kept target zs zs' a s.place_same na) na
            (same_number spot free (bases_of m) value zs zs' s.value_same ∙ nv) nv
            (place_turned spot free (bases_of m) target zs zs' s.place_same)
            (same_turned spot free (bases_of m) value zs zs' s.value_same) s.apart apart back).back im

    -- a fault of the place, and then one of the value
    pub update_place_fault : (d : Bool) (c : ℕ) → place_address spot (bases_of m) m.cells target ≡ Err c
        → (k : ℕ) × (k ≤ place_steps target) × Runs im (update_cells spot free op target value) d m (Trapped c k)
    update_place_fault d c n = run_traps (place_words target + words value) ready im d _ _ c
        (update_traps_place spot free (bases_of m) (memory_reg m) op target value m.cells c
        (fit_from target (words value) ready place_sees) n)

    pub update_value_fault : (d : Bool) (a c : ℕ) → place_address spot (bases_of m) m.cells target ≡ Ok a
        → number spot (bases_of m) m.cells value ≡ Err c → (k : ℕ) × (k ≤ place_steps target + fetch_steps value)
        × Runs im (update_cells spot free op target value) d m (Trapped c k)
    update_value_fault d a c na n = run_traps (place_words target + words value) ready im d _ _ c
        (update_traps_value spot free (bases_of m) (memory_reg m) op target value m.cells a c
        (fit_from target (words value) ready place_sees) value_sees na n)

    -- and then one of a shared array
    pub update_sharing_fault : (d : Bool) (a v : ℕ) → place_address spot (bases_of m) m.cells target ≡ Ok a
        → number spot (bases_of m) m.cells value ≡ Ok v → update_shares spot (bases_of m) m.cells target value ≡ true
        → (k : ℕ) × (k ≤ place_steps target + fetch_steps value + apart_steps target (index_of target) value)
        × Runs im (update_cells spot free op target value) d m (Trapped SHARED_ARRAY k)
    update_sharing_fault d a v na nv shared = run_traps (place_words target + words value) ready im d _ _ 16
        (update_traps_sharing spot free (bases_of m) (memory_reg m) op target value m.cells a v
        (fit_from target (words value) ready place_sees) value_sees na nv shared)

  module _ (left right : Lvalue) (ready : Ready free (place_words left + place_words right) m)
      (left_sees : Sees spot (bases_of m) (memory_reg m FRAME + free) m.cells (lvalue_read left))
      (right_sees : Sees spot (bases_of m) (memory_reg m FRAME + free) m.cells (lvalue_read right)) (im : Image) where
    -- either way the words are swapped; one cell stays
    pub swap_law : (d : Bool) (p q : ℕ) → place_address spot (bases_of m) m.cells left ≡ Ok p
        → place_address spot (bases_of m) m.cells right ≡ Ok q
        → swap_shares spot (bases_of m) m.cells left right ≡ false
        → BothStay spot (bases_of m) (memory_reg m FRAME + free) left right m.cells (swapped_at p q m.cells)
        → Runs im (swap_cells spot free left right) d m (Done (record m { cells = swapped_at p q m.cells })
        (swap_steps left right))
    swap_law d p q np nq apart s = run_cells (place_words left + place_words right) ready im d _ _ _ (either d)
      where
        zs' : List ℕ
        zs' = swapped_at p q m.cells

        fit : FitFrom spot free (bases_of m) left (place_words right) m.cells
        fit = fit_from left (place_words right) ready left_sees

        pl : p < memory_reg m FRAME + free
        pl = place_low spot free (bases_of m) left p m.cells left_sees np

        ql : q < memory_reg m FRAME + free
        ql = place_low spot free (bases_of m) right q m.cells right_sees nq

        fit' : FitFrom spot free (bases_of m) left (place_words right) (swapped_at p q m.cells)
        fit' = fit_two left (place_words right) p _ q _ fit pl (ready.words q) ql (ready.words p) s.left_sees

        either : (d : Bool) → Runs im (swap_cells spot free left right) d
            (mem (bases_of m) (memory_reg m) (keeping 0 0 0) m.cells)
            (Done (mem (bases_of m) (memory_reg m) (keeping 0 0 0) (swapped_at p q m.cells)) (swap_steps left right))
        either false =
            (swap_goes spot free (bases_of m) (memory_reg m) left right m.cells (swapped_at p q m.cells) p q fit fit'
            right_sees s.right_sees np (place_kept left m.cells _ p s.left_same np) nq
            (place_kept right m.cells _ q s.right_same nq) s.left_same s.right_same apart s.apart refl).ahead im
        either true =
            let fits = ready.inside in
            let l = pl in
            let l' = ql in
            let back = swapped_back m.cells p q (omega arith) (omega arith) in
            (swap_goes spot free (bases_of m) (memory_reg m) left right (swapped_at p q m.cells) m.cells p q fit' fit
            s.right_sees right_sees (place_kept left m.cells _ p s.left_same np) np
            (place_kept right m.cells _ q s.right_same nq) nq
            (place_turned spot free (bases_of m) left m.cells _ s.left_same)
            (place_turned spot free (bases_of m) right m.cells _ s.right_same) s.apart apart back).back im

    pub swap_left_fault : (d : Bool) (c : ℕ) → place_address spot (bases_of m) m.cells left ≡ Err c
        → (k : ℕ) × (k ≤ place_steps left) × Runs im (swap_cells spot free left right) d m (Trapped c k)
    swap_left_fault d c n = run_traps (place_words left + place_words right) ready im d _ _ c
        (swap_traps_first spot free (bases_of m) (memory_reg m) left right m.cells c
        (fit_from left (place_words right) ready left_sees) n)

    pub swap_right_fault : (d : Bool) (p c : ℕ) → place_address spot (bases_of m) m.cells left ≡ Ok p
        → place_address spot (bases_of m) m.cells right ≡ Err c
        → (k : ℕ) × (k ≤ place_steps left + place_steps right)
        × Runs im (swap_cells spot free left right) d m (Trapped c k)
    swap_right_fault d p c np n = run_traps (place_words left + place_words right) ready im d _ _ c
        (swap_traps_second spot free (bases_of m) (memory_reg m) left right m.cells p c
        (fit_from left (place_words right) ready left_sees) right_sees np n)

    pub swap_sharing_fault : (d : Bool) (p q : ℕ) → place_address spot (bases_of m) m.cells left ≡ Ok p
        → place_address spot (bases_of m) m.cells right ≡ Ok q → swap_shares spot (bases_of m) m.cells left right ≡ true
        → (k : ℕ) × (k ≤ place_steps left + place_steps right + both_apart_steps left right)
        × Runs im (swap_cells spot free left right) d m (Trapped SHARED_ARRAY k)
    swap_sharing_fault d p q np nq shared = run_traps (place_words left + place_words right) ready im d _ _ 16
        (swap_traps_sharing spot free (bases_of m) (memory_reg m) left right m.cells p q
        (fit_from left (place_words right) ready left_sees) right_sees np nq shared)
