-- `new` and `delete` of arrays against the source's rows, in both directions, with faults, counts
-- and steps, from what a relation gives.
use Rattle.std.proofs.Common.{◌≡◌, ◌≢◌, ℕ, ◌+◌, ◌*◌, ◌^◌, ◌<◌, ◌≤◌, Bool, true, false, List, refl, sym, ap, ◌∙◌, subst}
use Rattle.std.proofs.Common.{arith}
use Rattle.std.specs.Prelude.{slice_index, nat_eq, not, replicate, Result, Ok, Err}
use Rattle.std.proofs.lemmas.Bool.Decides.{nat_tests}
use Rattle.std.proofs.lemmas.Int.{ints}
use Rattle.refine_heap.specs.code_conventions.declared.memory.TheConstants.{HEADER_WORDS}
use Rattle.refine_heap.specs.rpp_words.Words.{is_less}
use Rattle.refine_heap.specs.rpp_tree.declared.tree.Ident.{Ident}
use Rattle.refine_heap.specs.rpp_tree.Tree.{Expression, Whole, Ints, Objects, New, Delete, nodes}
use Rattle.refine_heap.specs.buddy_pisa.Promise.{most_steps}
use Rattle.refine_heap.specs.pisa_isa.Machine.{Memory}
use Rattle.refine_heap.specs.paired_code.declared.part.Symbol.{Symbol}
use Rattle.refine_heap.specs.paired_code.Machine.{Image}
use Rattle.refine_heap.specs.paired_code.Layout.{mirror_cells}
use Rattle.refine_heap.specs.paired_code.Pieces.{Outcome, Will}
use Rattle.refine_heap.specs.paired_code.Does.{Rates, Fine, Fault, Meets, fine, Does}
use Rattle.refine_heap.proofs.paired_code_laws.Laws.{will_more}
use Rattle.refine_heap.proofs.paired_code_laws.Mirrored.{will_mirror}
use Rattle.static_layout.specs.roopl_semantics.Run.{Run, after_cost, given, give, spend, fault_if, ◌>>=◌}
use Rattle.static_layout.specs.roopl_semantics.Store.{Value, Word, Nil, Name, Head, OfInts, OfObjects, State, number_of}
use Rattle.static_layout.specs.roopl_semantics.Store.{is_nil}
use Rattle.static_layout.specs.roopl_semantics.Value.{Cell, cell_named, read, value, NIL}
use Rattle.static_layout.specs.roopl_semantics.Execution.{Setting, Runner, statement, freed, NOT_NIL, COUNT}
use Rattle.static_layout.specs.roopl_semantics.Execution.{NOT_EMPTY, HEAP_FULL, LENGTH_DIFFERS, LENGTH}
use Rattle.expr_uncompute.specs.refine_form.declared.spot.Spot.{Spot}
use Rattle.expr_uncompute.specs.refine_form.Form.{run_result, turned_statement as facing}
use Rattle.expr_uncompute.specs.register_expressions.Code.{words}
use Rattle.expr_uncompute.specs.Code.{place_words}
use Rattle.expr_uncompute.specs.register_expressions.Number.{number, place_address}
use Rattle.expr_uncompute.specs.Steps.{place_steps, fetch_steps}
use Rattle.expr_uncompute.specs.register_expressions.Laws.{bases_of}
use Rattle.expr_uncompute.specs.Laws.{UpdateStays}
use Rattle.expr_uncompute.specs.Promises.{free_at}
use Rattle.expr_uncompute.specs.Found.{LeavesWithin, leaves_within, TrapsWithin, found_value_steps}
use Rattle.expr_uncompute.specs.Means.{shown, shown_result, cell_address, SameValues}
use Rattle.expr_uncompute.proofs.Bounds.{fetch_most, found_value_most, found_value_least}
use Rattle.expr_uncompute.proofs.Meaning.{number_is}
use Rattle.object_codegen.specs.declared.shape.Shape.TheVariants.{Lengthy}
use Rattle.refine_heap.specs.buddy_book.Book.{order_for}
use Rattle.object_codegen.specs.News.{filled_words, whole_steps, Makes, ArrayLaw}
use Rattle.expr_uncompute.proofs.Rated.{rated, less, trap_meets, stop_meets}
use Rattle.object_codegen.proofs.CopyRows.{Refers}
use Rattle.object_codegen.proofs.MakeFacts.{length_at, count_at, is_empty, is_full, made, number_in, KeepsNames}
use Rattle.object_codegen.proofs.MakeFacts.{ArrayStands, ArrayFacts}
use Rattle.object_codegen.proofs.MakeKept.{kept_numbers}

-- the signs of a length
below_one : (v : ℕ) → v < 2 ^ 32 → is_less v 1 ≡ true → is_less 0 v ≡ false
below_one v h e = grind (arith, ints, nat_tests)

pub from_one_on : (v : ℕ) → v < 2 ^ 32 → is_less v 1 ≡ false → (v < 2 ^ 31) × (v ≢ 0)
from_one_on v h e = grind (arith, ints, nat_tests)

-- ---- the rows

abbrev sized_row : Expression → Cell → Result Value ℕ → (Value → Run State) → Run State
sized_row size cell rv next = after_cost 1 (after_cost 0 (given (Ok cell)) >>= λ cell.
    (after_cost (nodes size) (given rv) >>= next))

abbrev new_last : ℕ → (below full : Bool) → ℕ → State → Run State
new_last heap below full n st =
    fault_if LENGTH below >>= λ _. (spend (heap + 1) >>= λ _.
    ((fault_if HEAP_FULL full >>= λ _. give st) >>= λ st'. (spend n >>= λ _. give st')))

abbrev new_end : ℕ → (below full : Bool) → Value → ℕ → State → Run State
new_end heap below full w n st = fault_if NOT_NIL (not (is_nil w)) >>= λ _. new_last heap below full n st

abbrev delete_last : ℕ → (same one empty : Bool) → ℕ → State → Run State
delete_last heap same one empty l st =
    fault_if LENGTH_DIFFERS (not same) >>= λ _. (fault_if COUNT (not one) >>= λ _.
    (spend (heap + 1 + l) >>= λ _. (fault_if NOT_EMPTY (not empty) >>= λ _. give st)))

module _ (setting : Setting) (head : ℕ → Head) (element : Value) where
  abbrev with_new : ℕ → Cell → State → State
  with_new n cell st = made n (head n) (replicate n element) cell st

  abbrev delete_end : State → Cell → Value → ℕ → Run State
  delete_end st cell w n =
      fault_if NIL (is_nil w) >>= λ _. delete_last setting.limits.heap (nat_eq (length_at st (number_of w)) n)
      (nat_eq (count_at st (number_of w)) 1) (is_empty st (number_of w)) (length_at st (number_of w))
      (freed setting cell (number_of w) st)

  abbrev end_of : Bool → State → Cell → Value → ℕ → Run State
  end_of false st cell w n = new_end setting.limits.heap (is_less n 1) (is_full setting n st) w n (with_new n cell st)
  end_of true st cell w n = delete_end st cell w n

module _ (setting : Setting) (address slot : State → ℕ → ℕ) (R : State → Memory → Type 0) (spot : List ℕ → Spot)
    (free object frame : ℕ) (im : Image) (head : ℕ → Head) (element : Value) (name : Ident) (size : Expression)
    (rates : Rates) (some : 1 ≤ rates.counts) (many : 500 ≤ rates.steps) (p : List Symbol)
    (law : ArrayLaw spot free (Whole name) size p) (facts : ArrayFacts setting address slot R spot free object frame
    im head element name size) (n0 : ℕ) where
  abbrev own : State → Cell
  own st = cell_named setting.program st name.text

  abbrev at : State → ℕ
  at st = cell_address (address st) (slot st) (cell_named setting.program st name.text)

  place_at_is : (st : State) (m : Memory) → R st m → place_address spot (bases_of m) m.cells (Whole name) ≡ Ok (at st)
  place_at_is st m r = ap Ok (facts.means st m r)

  number_at : (st : State) (m : Memory) → R st m → (v : Value) → value setting.program st size ≡ Ok v
      → number spot (bases_of m) m.cells size ≡ Ok (number_of v)
  number_at st m r v e =
      number_is (address st) (slot st) setting.program st spot (bases_of m) m.cells size (facts.size_means st m r)
      ∙ ap (shown_result (address st) (slot st)) e ∙ ap Ok (sym (facts.is_int st m v r e))

  leave_meets : (d : Bool) (m m' : Memory) (st' : State) (n c : ℕ) → R st' m'
      → c ≡ 1 + nodes size + (setting.limits.heap + 1) + n
      → Will im p d m (LeavesWithin m' (whole_steps (found_value_steps (Whole name) size) Lengthy n
      (setting.limits.heap + 1)) (whole_steps (found_value_steps (Whole name) size) Lengthy n
      (most_steps setting.limits.heap + 7))) → Will im p d m (Meets R rates n0 0 (Fine st' c))
  leave_meets d m m' st' n c r e w = will_more im p d m _ _ over w
    where
      over : (o : Outcome) → LeavesWithin m' (whole_steps (found_value_steps (Whole name) size) Lengthy n
          (setting.limits.heap + 1)) (whole_steps (found_value_steps (Whole name) size) Lengthy n
          (most_steps setting.limits.heap + 7)) o → Meets R rates n0 0 (Fine st' c) o
      over _ (leaves_within k lo hi) =
          let up = found_value_most (Whole name) size in
          let low = found_value_least (Whole name) size in
          let all : k ≤ 500 * c = omega arith in
          let u = rated 500 rates.steps k c many all in
          fine r (less rates.counts k c some (omega arith)) (omega arith)

  -- a place and a length found in a state and in the one after it
  stay : (st st' : State) (m : Memory) (cells' : List ℕ) → R st m → R st' (record m { cells = cells' })
      → KeepsNames setting address slot R spot free object frame im st st' → SameValues setting.program st st' size
      → UpdateStays spot (bases_of m) (free_at free m) (Whole name) size m.cells cells'
  stay st st' m cells' r r' keeps same = record {
    place_sees = (facts.can st' (record m { cells = cells' }) r').first;
    value_sees = (facts.can st' (record m { cells = cells' }) r').second;
    place_same = tt;
    value_same = kept_numbers (address st) (slot st) (address st') (slot st') setting.program st st' keeps spot
        (bases_of m) m.cells cells' size (facts.size_means st m r)
        (facts.size_means st' (record m { cells = cells' }) r') same;
    apart = refl;
  }

  module _ (st : State) (m : Memory) (v : Value) (r : R st m) (nv : value setting.program st size ≡ Ok v) where
    makes : Makes im m object frame (free_at free m) (place_words (Whole name) + words size)
        (found_value_steps (Whole name) size) (at st) (number_of v) (order_for (HEADER_WORDS + number_of v)) Lengthy
        (UpdateStays spot (bases_of m) (free_at free m) (Whole name) size m.cells) p
    makes = law.makes im m object frame (at st) (number_of v) (facts.regs_are st m r) (facts.can st m r)
        (place_at_is st m r) (number_at st m r v nv) refl

    word_at : (w : Value) → read st (own st) ≡ w → slice_index m.cells (at st) ≡ shown (address st) (slot st) w
    word_at w e = facts.word st m r ∙ ap (shown (address st) (slot st)) e

    -- a fault with the cost of the place and the length
    fault_meets : (d : Bool) (code extra c : ℕ) → extra ≤ 15 → c ≡ 1 + nodes size
        → Will im p d m (TrapsWithin code (found_value_steps (Whole name) size + extra))
        → Will im p d m (Meets R rates n0 0 (Fault code c))
    fault_meets d code extra c l e t = let up = found_value_most (Whole name) size in
        stop_meets R rates 500 many im p n0 d m code c (found_value_steps (Whole name) size + extra) (omega arith) t

    new_by : (w : Value) (below full : Bool) → read st (own st) ≡ w → is_less (number_of v) 1 ≡ below
        → is_full setting (number_of v) st ≡ full
        → Will im p false m (Meets R rates n0 0 (run_result (sized_row size (own st) (Ok v)
        (λ v. new_end setting.limits.heap below full w (number_of v)
        (with_new setting head element (number_of v) (own st) st)))))
    new_by (Word x) below full e eb ef = absurd (subst (Refers (address st)) e (facts.refers st m r))
    new_by (Name array) below full e eb ef =
        fault_meets false 4 2 _ (omega arith) (omega arith)
        (makes.not_nil_faults (λ q. subst (Refers (address st)) e (facts.refers st m r)
        (sym (word_at (Name array) e) ∙ q)))
    new_by Nil true full e eb ef =
        fault_meets false 13 5 _ (omega arith) (omega arith)
        (law.length_faults im m object frame (at st) (number_of v) (facts.regs_are st m r) (facts.can st m r)
        (place_at_is st m r) (number_at st m r v nv) refl (word_at Nil e)
        (below_one (number_of v) (facts.is_word st m v r nv) eb))
    new_by Nil false true e eb ef =
        let up = found_value_most (Whole name) size in
        stop_meets R rates 500 many im p n0 false m 8 _ _ (omega arith)
        (makes.full_faults (most_steps setting.limits.heap + 7)
        (from_one_on (number_of v) (facts.is_word st m v r nv) eb) (word_at Nil e)
        (facts.lacks st m v r nv e eb ef))
    new_by Nil false false e eb ef =
        let h = facts.makes st m v r nv e eb ef in
        leave_meets false m _ (with_new setting head element (number_of v) (own st) st) (number_of v) _ h.after
        (omega arith)
        (makes.news h.x (setting.limits.heap + 1) (most_steps setting.limits.heap + 7) h.taken
        (from_one_on (number_of v) (facts.is_word st m v r nv) eb) h.takes h.allocates
        (stay st (with_new setting head element (number_of v) (own st) st) m
        (filled_words (at st) h.x (number_of v) h.taken)
        r h.after h.keeps (facts.made_same st m v r nv e eb ef)))

    delete_by : (w : Value) → read st (own st) ≡ w → Will im p true m
        (Meets R rates n0 0 (run_result (sized_row size (own st) (Ok v)
        (λ v. delete_end setting head element st (own st) w (number_of v)))))
    delete_by (Word x) e = absurd (subst (Refers (address st)) e (facts.refers st m r))
    delete_by Nil e = fault_meets true 5 4 _ (omega arith) (omega arith) (makes.nil_faults (word_at Nil e))
    delete_by (Name array) e = last (nat_eq (length_at st array) (number_of v)) (nat_eq (count_at st array) 1)
        (is_empty st array) refl refl refl
      where
        some_at : address st array ≢ 0
        some_at = subst (Refers (address st)) e (facts.refers st m r)

        s : ArrayStands setting address slot R spot free object frame im head element name size st m array
        s = facts.stands st m array r e

        last : (same one empty : Bool) → nat_eq (length_at st array) (number_of v) ≡ same
            → nat_eq (count_at st array) 1 ≡ one → is_empty st array ≡ empty
            → Will im p true m (Meets R rates n0 0 (run_result (sized_row size (own st) (Ok v)
            (λ v. fault_if NIL false >>= λ _. delete_last setting.limits.heap same one empty
            (length_at st array) (freed setting (own st) array st)))))
        last false one empty es eo ez =
            let i = s.there.inside in
            let w = s.there.small in
            let differs : length_at st array ≢ number_of v = grind (arith, nat_tests) in
            fault_meets true 12 8 _ (omega arith) (omega arith)
            (makes.other_faults (address st array) (word_at (Name array) e) (omega arith) (omega arith) some_at
            (λ q. differs (sym s.mark ∙ q)))
        last true false empty es eo ez =
            let i = s.there.inside in
            let w = s.there.small in
            let same : length_at st array ≡ number_of v = grind (arith, nat_tests) in
            let others : count_at st array ≢ 1 = grind (arith, nat_tests) in
            fault_meets true 6 15 _ (omega arith) (omega arith)
            (makes.count_faults (address st array) (word_at (Name array) e) (omega arith) (omega arith) some_at
            (s.mark ∙ same) (λ q. others (sym s.there.count ∙ q)))
        last true true false es eo ez =
            let i = s.there.inside in
            let w = s.there.small in
            let same : length_at st array ≡ number_of v = grind (arith, nat_tests) in
            let f = s.there.full ez in
            let f1 = f.1 in
            let one : count_at st array ≡ 1 = grind (arith, nat_tests) in
            let up = found_value_most (Whole name) size in
            stop_meets R rates 500 many im p n0 true m 7 _ _ (omega arith)
            (makes.not_empty_faults (address st array) (address st array + HEADER_WORDS + f.0) (word_at (Name array) e)
            (omega arith) (omega arith) some_at (s.mark ∙ same) (s.there.count ∙ one) (omega arith) (omega arith)
            f.2)
        last true true true es eo ez =
            let i = s.there.small in
            let y = s.some in
            let same : length_at st array ≡ number_of v = grind (arith, nat_tests) in
            let one : count_at st array ≡ 1 = grind (arith, nat_tests) in
            let h = facts.frees st m v array r nv e same one ez in
            let fit : (number_of v < 2 ^ 31) × (number_of v ≢ 0) = (omega arith, λ z. omega arith) in
            leave_meets true m _ (freed setting (own st) array st) (number_of v) _ h.after (omega arith)
            (makes.deletes (address st array) (setting.limits.heap + 1) (most_steps setting.limits.heap + 7) h.given
            h.taken fit h.was h.takes h.allocates
            (stay st (freed setting (own st) array st) m h.given r h.after h.keeps
            (facts.freed_same st m v array r nv e same one ez)) h.changes)

    ends_by : (d : Bool) → Will im p d m (Meets R rates n0 0
        (run_result (sized_row size (own st) (Ok v) (λ v. end_of setting head element d st (own st) (read st (own st))
        (number_of v)))))
    ends_by false = new_by (read st (own st)) (is_less (number_of v) 1) (is_full setting (number_of v) st) refl refl
        refl
    ends_by true = delete_by (read st (own st)) refl

  -- a new along and a delete back, from any related memory
  pub array_meets : (d : Bool) (st : State) (m : Memory) → R st m → (rv : Result Value ℕ)
      → value setting.program st size ≡ rv → Will im p d m
      (Meets R rates n0 0 (run_result (sized_row size (own st) rv
      (λ v. end_of setting head element d st (own st) (read st (own st)) (number_of v)))))
  array_meets d st m r (Err c) nv =
      let one = fetch_most size in
      trap_meets R rates 500 many im p n0 d m c _ (place_steps (Whole name) + fetch_steps size) (omega arith)
      (law.length_value_faults im d m (facts.can st m r) (at st) c (place_at_is st m r)
      (number_is (address st) (slot st) setting.program st spot (bases_of m) m.cells size
      (facts.size_means st m r) ∙ ap (shown_result (address st) (slot st)) nv))
  array_meets d st m r (Ok v) nv = ends_by st m v r nv d

-- ---- the statements

module _ (setting : Setting) (address slot : State → ℕ → ℕ) (R : State → Memory → Type 0) (spot : List ℕ → Spot)
    (free object frame : ℕ) (im : Image) (name : Ident) (size : Expression) (rates : Rates) (some : 1 ≤ rates.counts)
    (many : 500 ≤ rates.steps) (p : List Symbol) (law : ArrayLaw spot free (Whole name) size p) (n0 : ℕ) where
  -- arrays of int
  module _ (facts : ArrayFacts setting address slot R spot free object frame im OfInts (Word 0) name size) where
    ints_are : (d : Bool) (here n : ℕ) (run : Runner) (st : State)
        → after_cost 1 (statement setting n run (facing d (New here (Ints size) (Whole name))) st)
        ≡ sized_row size (cell_named setting.program st name.text) (value setting.program st size)
        (λ v. end_of setting OfInts (Word 0) d st (cell_named setting.program st name.text)
        (read st (cell_named setting.program st name.text)) (number_of v))
    ints_are false here n run st = refl
    ints_are true here n run st = refl

    -- the fragment of a new does what the source says of it, and run backward what it says of its
    -- inverse
    pub new_ints_does : (d : Bool) (here n : ℕ) (run : Runner)
        → Does im p d R R rates n0 0 (λ st. run_result (after_cost 1
        (statement setting n run (facing d (New here (Ints size) (Whole name))) st)))
    new_ints_does d here n run = record {
      does = λ st m h. subst (λ r. Will im p d m (Meets R rates n0 0 (run_result r))) (sym (ints_are d here n run st))
          (array_meets setting address slot R spot free object frame im OfInts (Word 0) name size rates some many p law
          facts n0 d st m h (value setting.program st size) refl);
    }

    delete_ints_is : (d : Bool) (here : ℕ) → facing d (Delete here (Ints size) (Whole name))
        ≡ facing (not d) (New here (Ints size) (Whole name))
    delete_ints_is false here = refl
    delete_ints_is true here = refl

    -- and its inverse that of a delete
    pub delete_ints_does : (d : Bool) (here n : ℕ) (run : Runner)
        → Does im (mirror_cells p) d R R rates n0 0 (λ st. run_result
        (after_cost 1 (statement setting n run (facing d (Delete here (Ints size) (Whole name))) st)))
    delete_ints_does d here n run = record {
      does = λ st m h. will_mirror im p d m _ (subst (λ s. Will im p (not d) m
          (Meets R rates n0 0 (run_result (after_cost 1 (statement setting n run s st))))) (sym (delete_ints_is d here))
          ((new_ints_does (not d) here n run).does st m h));
    }

  -- arrays of references
  module _ (class : Ident) (facts : ArrayFacts setting address slot R spot free object frame im
      (OfObjects (number_in setting class)) Nil name size) where
    objects_are : (d : Bool) (here n : ℕ) (run : Runner) (st : State)
        → after_cost 1 (statement setting n run (facing d (New here (Objects class size) (Whole name))) st)
        ≡ sized_row size (cell_named setting.program st name.text) (value setting.program st size)
        (λ v. end_of setting (OfObjects (number_in setting class)) Nil d st
        (cell_named setting.program st name.text) (read st (cell_named setting.program st name.text))
        (number_of v))
    objects_are false here n run st = refl
    objects_are true here n run st = refl

    pub new_objects_does : (d : Bool) (here n : ℕ) (run : Runner)
        → Does im p d R R rates n0 0 (λ st. run_result (after_cost 1
        (statement setting n run (facing d (New here (Objects class size) (Whole name))) st)))
    new_objects_does d here n run = record {
      does = λ st m h. subst (λ r. Will im p d m (Meets R rates n0 0 (run_result r)))
          (sym (objects_are d here n run st))
          (array_meets setting address slot R spot free object frame im (OfObjects (number_in setting class)) Nil name
          size rates some many p law facts n0 d st m h (value setting.program st size) refl);
    }

    delete_objects_is : (d : Bool) (here : ℕ) → facing d (Delete here (Objects class size) (Whole name))
        ≡ facing (not d) (New here (Objects class size) (Whole name))
    delete_objects_is false here = refl
    delete_objects_is true here = refl

    pub delete_objects_does : (d : Bool) (here n : ℕ) (run : Runner)
        → Does im (mirror_cells p) d R R rates n0 0 (λ st. run_result
        (after_cost 1 (statement setting n run (facing d (Delete here (Objects class size) (Whole name))) st)))
    delete_objects_does d here n run = record {
      does = λ st m h. will_mirror im p d m _ (subst (λ s. Will im p (not d) m
          (Meets R rates n0 0 (run_result (after_cost 1 (statement setting n run s st)))))
          (sym (delete_objects_is d here)) ((new_objects_does (not d) here n run).does st m h));
    }
