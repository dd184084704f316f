-- Copies against the source's rows, in both directions, with faults, counts and steps, from what a
-- relation gives.
use Rattle.std.proofs.Common.{◌≡◌, ◌≢◌, ℕ, suc, ◌+◌, ◌-◌, ◌*◌, ◌^◌, ◌<◌, ◌≤◌, Bool, true, false, List, ◌++◌, length}
use Rattle.std.proofs.Common.{refl, sym, ap, ◌∙◌, subst, arith}
use Rattle.std.specs.Prelude.{slice_index, nat_eq, not, ◌||◌, Result, Ok, Err}
use Rattle.std.proofs.lemmas.Bool.Decides.{nat_tests}
use Rattle.refine_heap.specs.rpp_tree.declared.tree.VarType.{VarType}
use Rattle.refine_heap.specs.rpp_tree.Tree.{Lvalue, Copy, Uncopy, index_nodes}
use Rattle.refine_heap.specs.pisa_isa.Machine.{Memory}
use Rattle.refine_heap.specs.paired_code.declared.part.Symbol.{Symbol}
use Rattle.refine_heap.specs.paired_code.Machine.{Image}
use Rattle.refine_heap.specs.paired_code.Layout.{mirror_cells}
use Rattle.refine_heap.specs.paired_code.Pieces.{Outcome, Will}
use Rattle.refine_heap.specs.paired_code.Does.{Rates, Fine, Fault, Meets, fine, Does}
use Rattle.refine_heap.proofs.paired_code_laws.Laws.{will_more}
use Rattle.refine_heap.proofs.paired_code_laws.Mirrored.{will_mirror}
use Rattle.static_layout.specs.roopl_semantics.Run.{Run, after_cost, given, give, spend, fault_if, ◌>>=◌}
use Rattle.static_layout.specs.roopl_semantics.Store.{Value, Word, Nil, Name, State, number_of, is_nil, same_value, object_at}
use Rattle.static_layout.specs.roopl_semantics.Value.{Cell, read, written, cell_of, NIL}
use Rattle.static_layout.specs.roopl_semantics.Elements.{index_elements, own_element, share_array, read_cost, SHARED_ARRAY}
use Rattle.static_layout.specs.roopl_semantics.Execution.{Setting, Runner, statement, count_changed, one_less, same_cell, NOT_NIL}
use Rattle.static_layout.specs.roopl_semantics.Execution.{NOT_SAME}
use Rattle.expr_uncompute.specs.refine_form.declared.spot.Spot.{Spot}
use Rattle.expr_uncompute.specs.refine_form.Form.{run_result, turned_statement as facing}
use Rattle.expr_uncompute.specs.Code.{place_words}
use Rattle.expr_uncompute.specs.register_expressions.Number.{place_address, lvalue_read, index_of, shares}
use Rattle.expr_uncompute.specs.Steps.{place_steps}
use Rattle.expr_uncompute.specs.register_expressions.Laws.{bases_of}
use Rattle.expr_uncompute.specs.Promises.{free_at, CanEvaluate}
use Rattle.expr_uncompute.specs.Found.{LeavesWithin, leaves_within, TrapsWithin, PlacesStay, found_places_steps}
use Rattle.expr_uncompute.specs.Means.{shown, cell_address, cell_result, MeansPlace, TellsShares, SameCells}
use Rattle.expr_uncompute.proofs.Bounds.{place_less, found_places_most, found_places_least}
use Rattle.expr_uncompute.proofs.Meaning.{place_is}
use Rattle.expr_uncompute.proofs.Sharing.{places_share_is}
use Rattle.expr_uncompute.proofs.SourceLaws.{same_places}
use Rattle.expr_uncompute.proofs.Rated.{rated, less, trap_meets, stop_meets}
use Rattle.expr_uncompute.proofs.Transport.{place_means_by}
use Rattle.expr_uncompute.proofs.Updates.{place_low}
use Rattle.object_codegen.specs.Promises.{referring, unreferring, Places, CopyLaw, copy_steps}

-- a value of a class or an array type: nil, or an object id that has an address
abbrev pub Refers : (ℕ → ℕ) → Value → Type 0
Refers address (Word w) = ⊥
Refers address Nil = Unit {0}
Refers address (Name n) = address n ≢ 0

-- ---- the rows

abbrev copy_end : State → Cell → Value → Value → Run State
copy_end st b x y = fault_if NIL (is_nil x) >>= λ _.
    (fault_if NOT_NIL (not (is_nil y)) >>= λ _. give (count_changed suc (written st b x) (number_of x)))

abbrev uncopy_end : State → (a b : Cell) → Value → Value → Run State
uncopy_end st a b x y = fault_if NIL (is_nil x) >>= λ _.
    (fault_if NOT_SAME (not (same_value x y) || same_cell a b) >>= λ _. give
    (count_changed one_less (written st b Nil) (number_of x)))

abbrev end_of : Bool → State → (a b : Cell) → Value → Value → Run State
end_of false st a b x y = copy_end st b x y
end_of true st a b x y = uncopy_end st a b x y

abbrev kept_by : ℕ → Bool → Run State → Run State
kept_by cost shared next = (spend cost >>= λ _. fault_if SHARED_ARRAY shared) >>= λ _. next

abbrev pair_row : (source target : Lvalue) → (rx ry : Result Cell ℕ) → (Cell → Cell → Run State) → Run State
pair_row source target rx ry next = after_cost 1 (after_cost (index_nodes source) (given rx) >>= λ a.
    (after_cost (index_nodes target) (given ry) >>= λ b. next a b))

module _ (setting : Setting) (address slot : State → ℕ → ℕ) (R : State → Memory → Type 0) (spot : List ℕ → Spot)
    (free : ℕ) (source target : Lvalue) where
  abbrev at : State → Cell → ℕ
  at st a = cell_address (address st) (slot st) a

  abbrev count_of : State → ℕ → ℕ
  count_of st n = (object_at st.store n).count

  abbrev after_copy : State → Cell → ℕ → State
  after_copy st b n = count_changed suc (written st b (Name n)) n

  abbrev after_uncopy : State → Cell → ℕ → State
  after_uncopy st b n = count_changed one_less (written st b Nil) n

  abbrev sharing : State → Bool
  sharing st = share_array setting.program st (own_element target) (index_elements source ++ index_elements target)

  abbrev reads : ℕ
  reads = read_cost (own_element target) (index_elements source ++ index_elements target)

  -- the address of an object to which an lvalue refers
  pub record StandsAt (st : State) (m : Memory) (a b : Cell) (n : ℕ) : Type 0 where
    pub inside : address st n + 1 < free_at free m
    pub source_apart : at st a ≢ address st n + 1
    pub target_apart : at st b ≢ address st n + 1
    pub count : slice_index m.cells (address st n + 1) ≡ count_of st n
    pub some : 1 ≤ count_of st n
    pub more : count_of st n + 1 < 2 ^ 32

  -- the state after it has the same addresses, and the places are where they were
  pub record Keeps (st st' : State) : Type 0 where
    pub addresses : (n : ℕ) → address st' n ≡ address st n
    pub slots : (i : ℕ) → slot st' i ≡ slot st i
    pub source_same : SameCells setting.program st st' source
    pub target_same : SameCells setting.program st st' target
    pub apart : sharing st' ≡ false

  -- what a copy and its inverse need of the relation
  pub record CopyFacts : Type 0 where
    pub can : (st : State) (m : Memory) → R st m → CanEvaluate spot free (place_words source + place_words target)
        (lvalue_read source) (lvalue_read target) m
    pub source_means : (st : State) (m : Memory) → R st m
        → MeansPlace (address st) (slot st) setting.program st spot (bases_of m) m.cells source
    pub target_means : (st : State) (m : Memory) → R st m
        → MeansPlace (address st) (slot st) setting.program st spot (bases_of m) m.cells target
    pub tells : (st : State) (m : Memory) → R st m → TellsShares (address st) (slot st) setting.program st spot
        (bases_of m) m.cells target (index_of source) (index_of target)
    pub source_refers : (st : State) (m : Memory) (a : Cell) → R st m → cell_of setting.program st source ≡ Ok a
        → Refers (address st) (read st a)
    pub target_refers : (st : State) (m : Memory) (b : Cell) → R st m → cell_of setting.program st target ≡ Ok b
        → Refers (address st) (read st b)
    pub source_word : (st : State) (m : Memory) (a : Cell) → R st m → cell_of setting.program st source ≡ Ok a
        → slice_index m.cells (at st a) ≡ shown (address st) (slot st) (read st a)
    pub target_word : (st : State) (m : Memory) (b : Cell) → R st m → cell_of setting.program st target ≡ Ok b
        → slice_index m.cells (at st b) ≡ shown (address st) (slot st) (read st b)
    pub stands : (st : State) (m : Memory) (a b : Cell) (n : ℕ) → R st m → cell_of setting.program st source ≡ Ok a
        → cell_of setting.program st target ≡ Ok b → read st a ≡ Name n → StandsAt st m a b n
    pub one_name : (st : State) (m : Memory) (a b : Cell) (n n' : ℕ) → R st m → cell_of setting.program st source ≡ Ok a
        → cell_of setting.program st target ≡ Ok b → read st a ≡ Name n → read st b ≡ Name n'
        → address st n ≡ address st n' → n ≡ n'
    pub one_cell : (st : State) (m : Memory) (a b : Cell) → R st m → cell_of setting.program st source ≡ Ok a
        → cell_of setting.program st target ≡ Ok b → same_cell a b ≡ true → at st a ≡ at st b
    pub two_cells : (st : State) (m : Memory) (a b : Cell) → R st m → cell_of setting.program st source ≡ Ok a
        → cell_of setting.program st target ≡ Ok b → same_cell a b ≡ false → at st a ≢ at st b
    pub copied : (st : State) (m : Memory) (a b : Cell) (n : ℕ) → R st m → cell_of setting.program st source ≡ Ok a
        → cell_of setting.program st target ≡ Ok b → sharing st ≡ false → read st a ≡ Name n → read st b ≡ Nil
        → R (after_copy st b n) (record m { cells = referring (at st b) (address st n) (count_of st n + 1) m.cells })
        × Keeps st (after_copy st b n)
    pub uncopied : (st : State) (m : Memory) (a b : Cell) (n : ℕ) → R st m → cell_of setting.program st source ≡ Ok a
        → cell_of setting.program st target ≡ Ok b → sharing st ≡ false → read st a ≡ Name n → read st b ≡ Name n
        → same_cell a b ≡ false
        → R (after_uncopy st b n) (record m {
          cells = unreferring (at st b) (address st n) (count_of st n - 1) m.cells;
        }) × Keeps st (after_uncopy st b n)

  module _ (rates : Rates) (some : 1 ≤ rates.counts) (many : 370 ≤ rates.steps) (p : List Symbol)
      (law : CopyLaw spot free source target p) (facts : CopyFacts) (im : Image) (n0 : ℕ) where
    abbrev cost : ℕ
    cost = 1 + index_nodes source + index_nodes target + read_cost (own_element target)
        (index_elements source ++ index_elements target)

    source_at : (st : State) (m : Memory) (r : R st m) (rx : Result Cell ℕ) → cell_of setting.program st source ≡ rx
        → place_address spot (bases_of m) m.cells source ≡ cell_result (address st) (slot st) rx
    source_at st m r rx e = place_is (address st) (slot st) setting.program st spot (bases_of m) m.cells source
        (facts.source_means st m r) ∙ ap (cell_result (address st) (slot st)) e

    target_at : (st : State) (m : Memory) (r : R st m) (ry : Result Cell ℕ) → cell_of setting.program st target ≡ ry
        → place_address spot (bases_of m) m.cells target ≡ cell_result (address st) (slot st) ry
    target_at st m r ry e = place_is (address st) (slot st) setting.program st spot (bases_of m) m.cells target
        (facts.target_means st m r) ∙ ap (cell_result (address st) (slot st)) e

    shares_is : (st : State) (m : Memory) → R st m → shares spot (bases_of m) m.cells target (index_of source)
        (index_of target) ≡ sharing st
    shares_is st m r = places_share_is (address st) (slot st) setting.program st spot (bases_of m) m.cells source target
        (facts.source_means st m r) (facts.target_means st m r) (facts.tells st m r)

    leave_meets : (d : Bool) (m m' : Memory) (st' : State) (c : ℕ) → R st' m'
        → c ≡ 1 + index_nodes source + index_nodes target + read_cost (own_element target)
        (index_elements source ++ index_elements target) → Will im p d m
        (LeavesWithin m' (copy_steps source target) (copy_steps source target))
        → Will im p d m (Meets R rates n0 0 (Fine st' c))
    leave_meets d m m' st' c r e w = will_more im p d m _ _ over w
      where
        over : (o : Outcome) → LeavesWithin m' (copy_steps source target) (copy_steps source target) o
            → Meets R rates n0 0 (Fine st' c) o
        over _ (leaves_within k lo hi) =
            let most = found_places_most source target in
            let least = found_places_least source target in
            let up : copy_steps source target ≤ 370 * c = omega arith in
            let u = rated 370 rates.steps (copy_steps source target) c many up in
            fine r (less rates.counts k c some (omega arith)) (omega arith)

    module _ (st : State) (m : Memory) (a b : Cell) (r : R st m) (na : cell_of setting.program st source ≡ Ok a)
        (nb : cell_of setting.program st target ≡ Ok b) where
      places : sharing st ≡ false → Places spot free source target m (at st a) (at st b)
      places e = record {
        can = facts.can st m r;
        source_at = source_at st m r (Ok a) na;
        target_at = target_at st m r (Ok b) nb;
        apart = shares_is st m r ∙ e;
      }

      p_low : at st a < free_at free m
      p_low = place_low spot free (bases_of m) source (at st a) m.cells (facts.can st m r).first
          (source_at st m r (Ok a) na)

      q_low : at st b < free_at free m
      q_low = place_low spot free (bases_of m) target (at st b) m.cells (facts.can st m r).second
          (target_at st m r (Ok b) nb)

      low_in : free_at free m ≤ length m.cells
      low_in = let i = (facts.can st m r).ready.inside in omega arith

      stay : (st' : State) (cells' : List ℕ) → R st' (record m { cells = cells' }) → Keeps st st'
          → PlacesStay spot (bases_of m) (free_at free m) source target m.cells cells'
      stay st' cells' r' h =
          let can' = facts.can st' (record m { cells = cells' }) r' in
          record {
            source_sees = can'.first;
            target_sees = can'.second;
            source_same = same_places (address st) (slot st) setting.program spot free (bases_of m) m.cells cells' st
                st' source (facts.source_means st m r) (place_means_by (address st') (slot st') (address st) (slot st)
                h.addresses h.slots setting.program st' spot (bases_of m) cells' source
                (facts.source_means st' (record m { cells = cells' }) r')) h.source_same;
            target_same = same_places (address st) (slot st) setting.program spot free (bases_of m) m.cells cells' st
                st' target (facts.target_means st m r) (place_means_by (address st') (slot st') (address st) (slot st)
                h.addresses h.slots setting.program st' spot (bases_of m) cells' target
                (facts.target_means st' (record m { cells = cells' }) r')) h.target_same;
            apart = shares_is st' (record m { cells = cells' }) r' ∙ h.apart;
          }

      name_word : (n : ℕ) → read st a ≡ Name n → slice_index m.cells (at st a) ≡ address st n
      name_word n e = facts.source_word st m a r na ∙ ap (shown (address st) (slot st)) e

      name_some : (n : ℕ) → read st a ≡ Name n → address st n ≢ 0
      name_some n e = subst (Refers (address st)) e (facts.source_refers st m a r na)

      name_small : (n : ℕ) → read st a ≡ Name n → address st n < 2 ^ 31
      name_small n e =
          let s = facts.stands st m a b n r na nb e in
          let i = s.inside in
          let l = low_in in
          let z = (facts.can st m r).ready.small in
          omega arith

      target_is : (y : Value) → read st b ≡ y → slice_index m.cells (at st b) ≡ shown (address st) (slot st) y
      target_is y e = facts.target_word st m b r nb ∙ ap (shown (address st) (slot st)) e

      -- a fault with the cost of the places
      fault_meets : (d : Bool) (code extra c : ℕ) → extra ≤ 19
          → c ≡ 1 + index_nodes source + index_nodes target + read_cost (own_element target)
          (index_elements source ++ index_elements target) → Will im p d m
          (TrapsWithin code (found_places_steps source target + extra))
          → Will im p d m (Meets R rates n0 0 (Fault code c))
      fault_meets d code extra c l e t = let most = found_places_most source target in
          stop_meets R rates 370 many im p n0 d m code c (found_places_steps source target + extra) (omega arith) t

      copy_by : (x y : Value) → read st a ≡ x → read st b ≡ y → sharing st ≡ false
          → Will im p false m (Meets R rates n0 0 (run_result (pair_row source target (Ok a) (Ok b)
          (λ a b. kept_by reads false (copy_end st b x y)))))
      copy_by (Word w) y ea eb sh = absurd (subst (Refers (address st)) ea (facts.source_refers st m a r na))
      copy_by Nil y ea eb sh = fault_meets false 5 2 _ (omega arith) (omega arith)
          (law.nil_faults im false m (at st a) (at st b) (places sh)
          (facts.source_word st m a r na ∙ ap (shown (address st) (slot st)) ea))
      copy_by (Name n) (Word w) ea eb sh = absurd (subst (Refers (address st)) eb (facts.target_refers st m b r nb))
      copy_by (Name n) Nil ea eb sh =
          let h = facts.copied st m a b n r na nb sh ea eb in
          let s = facts.stands st m a b n r na nb ea in
          let cells' : List ℕ = referring (at st b) (address st n) (count_of st n + 1) m.cells in
          leave_meets false m _ (after_copy st b n) _ h.0 (omega arith)
          (law.copies im m (at st a) (at st b) (address st n) (count_of st n) (places sh)
          (record {
            low_in = low_in;
            p_in = p_low;
            q_in = q_low;
            count_in = s.inside;
            small = (facts.can st m r).ready.small;
            source = name_word n ea;
            some = name_some n ea;
            target = target_is Nil eb;
            count = s.count;
            more = s.more;
            p_apart = s.source_apart;
            q_apart = s.target_apart;
          })
          (stay (after_copy st b n) cells' h.0 h.1))
      copy_by (Name n) (Name n') ea eb sh =
          fault_meets false 4 6 _ (omega arith) (omega arith)
          (law.not_nil_faults im m (at st a) (at st b) (address st n) (places sh) (name_word n ea) (name_small n ea)
          (name_some n ea) (λ e. subst (Refers (address st)) eb (facts.target_refers st m b r nb)
          (sym (target_is (Name n') eb) ∙ e)))

      names_by : (n n' : ℕ) (t u : Bool) → nat_eq n n' ≡ t → same_cell a b ≡ u → read st a ≡ Name n
          → read st b ≡ Name n' → sharing st ≡ false
          → Will im p true m (Meets R rates n0 0 (run_result (pair_row source target (Ok a) (Ok b)
          (λ a b. kept_by reads false (fault_if NIL false >>= λ _.
          (fault_if NOT_SAME (not t || u) >>= λ _. give (after_uncopy st b n)))))))
      names_by n n' false u et eu ea eb sh =
          let ne : n ≢ n' = grind (arith, nat_tests) in
          fault_meets true 10 11 _ (omega arith) (omega arith)
          (law.not_same_faults im m (at st a) (at st b) (address st n) (address st n') (places sh) (name_word n ea)
          (target_is (Name n') eb) (name_small n ea) (name_some n ea)
          (λ e. ne (facts.one_name st m a b n n' r na nb ea eb e)))
      names_by n n' true true et eu ea eb sh =
          let one : at st b ≡ at st a = sym (facts.one_cell st m a b r na nb eu) in
          fault_meets true 10 19 _ (omega arith) (omega arith)
          (law.one_place_faults im m (at st a) (address st n)
          (subst (Places spot free source target m (at st a)) one (places sh)) (name_word n ea) (name_small n ea)
          (name_some n ea))
      names_by n n' true false et eu ea eb sh =
          let same : n ≡ n' = grind (arith, nat_tests) in
          let eb' : read st b ≡ Name n = eb ∙ ap Name (sym same) in
          let h = facts.uncopied st m a b n r na nb sh ea eb' eu in
          let s = facts.stands st m a b n r na nb ea in
          let first = s.some in
          let up : count_of st n - 1 + 1 ≡ count_of st n = omega arith in
          leave_meets true m _ (after_uncopy st b n) _ h.0 (omega arith)
          (law.uncopies im m (at st a) (at st b) (address st n) (count_of st n - 1) (places sh)
          (record {
            low_in = low_in;
            p_in = p_low;
            q_in = q_low;
            count_in = s.inside;
            small = (facts.can st m r).ready.small;
            source = name_word n ea;
            some = name_some n ea;
            target = target_is (Name n) eb';
            count = s.count ∙ sym up;
            more = let l = s.more in omega arith;
            apart = facts.two_cells st m a b r na nb eu;
            p_apart = s.source_apart;
            q_apart = s.target_apart;
          })
          (stay (after_uncopy st b n) _ h.0 h.1))

      uncopy_by : (x y : Value) → read st a ≡ x → read st b ≡ y → sharing st ≡ false
          → Will im p true m (Meets R rates n0 0 (run_result (pair_row source target (Ok a) (Ok b)
          (λ a b. kept_by reads false (uncopy_end st a b x y)))))
      uncopy_by (Word w) y ea eb sh = absurd (subst (Refers (address st)) ea (facts.source_refers st m a r na))
      uncopy_by Nil y ea eb sh = fault_meets true 5 2 _ (omega arith) (omega arith)
          (law.nil_faults im true m (at st a) (at st b) (places sh)
          (facts.source_word st m a r na ∙ ap (shown (address st) (slot st)) ea))
      uncopy_by (Name n) (Word w) ea eb sh = absurd (subst (Refers (address st)) eb (facts.target_refers st m b r nb))
      uncopy_by (Name n) Nil ea eb sh =
          fault_meets true 10 11 _ (omega arith) (omega arith)
          (law.not_same_faults im m (at st a) (at st b) (address st n) 0 (places sh) (name_word n ea)
          (target_is Nil eb) (name_small n ea) (name_some n ea) (name_some n ea))
      uncopy_by (Name n) (Name n') ea eb sh = names_by n n' (nat_eq n n') (same_cell a b) refl refl ea eb sh

      -- if no array is shared, or one is
      ends_by : (d shared : Bool) → sharing st ≡ shared → Will im p d m
          (Meets R rates n0 0 (run_result (pair_row source target (Ok a) (Ok b)
          (λ a b. kept_by reads shared (end_of d st a b (read st a) (read st b))))))
      ends_by false false e = copy_by (read st a) (read st b) refl refl e
      ends_by true false e = uncopy_by (read st a) (read st b) refl refl e
      ends_by d true e =
          let most = found_places_most source target in
          trap_meets R rates 370 many im p n0 d m 16 _ (found_places_steps source target) (omega arith)
          (law.sharing_faults im d m (facts.can st m r) (at st a) (at st b) (source_at st m r (Ok a) na)
          (target_at st m r (Ok b) nb) (shares_is st m r ∙ e))

    pair_meets : (d : Bool) (st : State) (m : Memory) → R st m → (rx ry : Result Cell ℕ)
        → cell_of setting.program st source ≡ rx → cell_of setting.program st target ≡ ry
        → Will im p d m (Meets R rates n0 0 (run_result (pair_row source target rx ry
        (λ a b. kept_by reads (sharing st) (end_of d st a b (read st a) (read st b))))))
    pair_meets d st m r (Err c) ry nx ny =
        let one = place_less source in
        trap_meets R rates 370 many im p n0 d m c _ (place_steps source) (omega arith)
        (law.source_faults im d m (facts.can st m r) c (source_at st m r (Err c) nx))
    pair_meets d st m r (Ok a) (Err c) nx ny =
        let one = place_less source in
        let two = place_less target in
        trap_meets R rates 370 many im p n0 d m c _ (place_steps source + place_steps target) (omega arith)
        (law.target_faults im d m (facts.can st m r) (at st a) c (source_at st m r (Ok a) nx)
        (target_at st m r (Err c) ny))
    pair_meets d st m r (Ok a) (Ok b) nx ny = ends_by st m a b r nx ny d (sharing st) refl

    copy_is : (d : Bool) (here n : ℕ) (kind : VarType) (run : Runner) (st : State)
        → after_cost 1 (statement setting n run (facing d (Copy here kind source target)) st)
        ≡ pair_row source target (cell_of setting.program st source) (cell_of setting.program st target)
        (λ a b. kept_by reads (sharing st) (end_of d st a b (read st a) (read st b)))
    copy_is false here n kind run st = refl
    copy_is true here n kind run st = refl

    -- the fragment of a copy does what the source says of it, and run backward what it says of its
    -- inverse
    pub copy_does : (d : Bool) (here n : ℕ) (kind : VarType) (run : Runner)
        → Does im p d R R rates n0 0 (λ st. run_result (after_cost 1
        (statement setting n run (facing d (Copy here kind source target)) st)))
    copy_does d here n kind run = record {
      does = λ st m h. subst (λ r. Will im p d m (Meets R rates n0 0 (run_result r))) (sym (copy_is d here n kind run st))
          (pair_meets d st m h (cell_of setting.program st source) (cell_of setting.program st target) refl refl);
    }

    uncopy_is : (d : Bool) (here : ℕ) (kind : VarType) → facing d (Uncopy here kind source target)
        ≡ facing (not d) (Copy here kind source target)
    uncopy_is false here kind = refl
    uncopy_is true here kind = refl

    -- and its inverse that of an uncopy
    pub uncopy_does : (d : Bool) (here n : ℕ) (kind : VarType) (run : Runner)
        → Does im (mirror_cells p) d R R rates n0 0 (λ st. run_result
        (after_cost 1 (statement setting n run (facing d (Uncopy here kind source target)) st)))
    uncopy_does d here n kind run = record {
      does = λ st m h. will_mirror im p d m _ (subst (λ s. Will im p (not d) m
          (Meets R rates n0 0 (run_result (after_cost 1 (statement setting n run s st))))) (sym (uncopy_is d here kind))
          ((copy_does (not d) here n kind run).does st m h));
    }
