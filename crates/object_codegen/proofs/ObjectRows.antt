-- `new` and `delete` of objects against the source's rows, in both directions, with faults, counts
-- and steps, from what a relation gives.
use Rattle.std.proofs.Common.{◌≡◌, ◌≢◌, ℕ, ◌+◌, ◌*◌, ◌≤◌, Bool, true, false, List, length, refl, sym, ap, ◌∙◌, subst}
use Rattle.std.proofs.Common.{arith, append-nil}
use Rattle.std.specs.Prelude.{slice_index, nat_eq, not, Result, Ok, Err}
use Rattle.std.proofs.lemmas.Bool.Decides.{nat_tests}
use Rattle.refine_heap.specs.code_conventions.declared.memory.TheConstants.{HEADER_WORDS}
use Rattle.refine_heap.specs.rpp_tree.declared.tree.Ident.{Ident}
use Rattle.refine_heap.specs.rpp_tree.Tree.{Null, Lvalue, Object as AnObject, New, Delete, index_nodes}
use Rattle.refine_heap.specs.buddy_pisa.Promise.{most_steps}
use Rattle.refine_heap.specs.pisa_isa.Machine.{Memory}
use Rattle.refine_heap.specs.paired_code.declared.part.Symbol.{Symbol}
use Rattle.refine_heap.specs.paired_code.Machine.{Image}
use Rattle.refine_heap.specs.paired_code.Layout.{mirror_cells}
use Rattle.refine_heap.specs.paired_code.Pieces.{Outcome, Will}
use Rattle.refine_heap.specs.paired_code.Does.{Rates, Fine, Fault, Meets, fine, Does}
use Rattle.refine_heap.proofs.paired_code_laws.Laws.{will_more}
use Rattle.refine_heap.proofs.paired_code_laws.Mirrored.{will_mirror}
use Rattle.static_layout.specs.roopl_semantics.Run.{Run, after_cost, given, give, spend, fault_if, ◌>>=◌}
use Rattle.static_layout.specs.roopl_semantics.Store.{Value, Word, Nil, Name, OfClass, State, number_of, is_nil}
use Rattle.static_layout.specs.roopl_semantics.Value.{Cell, read, cell_of, NIL}
use Rattle.static_layout.specs.roopl_semantics.Elements.{index_elements, own_element, share_array, read_cost}
use Rattle.static_layout.specs.roopl_semantics.Elements.{SHARED_ARRAY}
use Rattle.static_layout.specs.roopl_semantics.Execution.{Setting, Runner, statement, freed, NOT_NIL, COUNT}
use Rattle.static_layout.specs.roopl_semantics.Execution.{NOT_EMPTY, HEAP_FULL, CLASS_DIFFERS}
use Rattle.expr_uncompute.specs.refine_form.declared.spot.Spot.{Spot}
use Rattle.expr_uncompute.specs.refine_form.Form.{run_result, turned_statement as facing}
use Rattle.expr_uncompute.specs.Code.{place_words}
use Rattle.expr_uncompute.specs.register_expressions.Number.{place_address, update_shares}
use Rattle.expr_uncompute.specs.Steps.{place_steps}
use Rattle.expr_uncompute.specs.register_expressions.Laws.{bases_of}
use Rattle.expr_uncompute.specs.Laws.{UpdateStays}
use Rattle.expr_uncompute.specs.Promises.{free_at}
use Rattle.expr_uncompute.specs.Found.{LeavesWithin, leaves_within, TrapsWithin, found_place_steps}
use Rattle.expr_uncompute.specs.Means.{shown, cell_address, cell_result, SameCells}
use Rattle.expr_uncompute.proofs.Bounds.{place_less, found_place_most, found_place_least}
use Rattle.expr_uncompute.proofs.Meaning.{place_is}
use Rattle.expr_uncompute.proofs.Sharing.{update_shares_is}
use Rattle.object_codegen.specs.declared.shape.Shape.TheVariants.{Fixed}
use Rattle.object_codegen.specs.News.{filled_words, whole_steps, Makes, ObjectLaw}
use Rattle.object_codegen.proofs.Bounds.{zeros_most}
use Rattle.expr_uncompute.proofs.Rated.{rated, less, trap_meets, stop_meets}
use Rattle.object_codegen.proofs.CopyRows.{Refers}
use Rattle.object_codegen.proofs.MakeFacts.{made, number_in, count_at, is_empty, fresh_cells, same_class, is_full}
use Rattle.object_codegen.proofs.MakeFacts.{KeepsNames, ObjectStands, ObjectFacts}
use Rattle.object_codegen.proofs.MakeKept.{kept_places}

-- ---- the rows

abbrev kept_by : ℕ → Bool → Run State → Run State
kept_by cost shared next = (spend cost >>= λ _. fault_if SHARED_ARRAY shared) >>= λ _. next

abbrev one_row : Lvalue → Result Cell ℕ → (Cell → Run State) → Run State
one_row target rc next = after_cost 1 (after_cost (index_nodes target) (given rc) >>= next)

abbrev new_end : ℕ → Bool → Value → State → Run State
new_end heap full v st = fault_if NOT_NIL (not (is_nil v)) >>= λ _.
    (spend (heap + 1) >>= λ _. (fault_if HEAP_FULL full >>= λ _. give st))

abbrev delete_last : ℕ → (same one empty : Bool) → State → Run State
delete_last heap same one empty st =
    fault_if CLASS_DIFFERS (not same) >>= λ _. (fault_if COUNT (not one) >>= λ _.
    (spend (heap + 1) >>= λ _. (fault_if NOT_EMPTY (not empty) >>= λ _. give st)))

module _ (setting : Setting) (class : Ident) where
  abbrev delete_end : State → Cell → Value → Run State
  delete_end st cell v =
      fault_if NIL (is_nil v) >>= λ _. delete_last setting.limits.heap (same_class setting class st (number_of v))
      (nat_eq (count_at st (number_of v)) 1) (is_empty st (number_of v)) (freed setting cell (number_of v) st)

  abbrev with_new : Cell → State → State
  with_new cell st = made (length (fresh_cells setting class)) (OfClass (number_in setting class))
      (fresh_cells setting class) cell st

  abbrev end_of : Bool → State → Cell → Value → Run State
  end_of false st cell v = new_end setting.limits.heap (is_full setting (length (fresh_cells setting class)) st) v
      (with_new cell st)
  end_of true st cell v = delete_end st cell v

module _ (setting : Setting) (address slot : State → ℕ → ℕ) (R : State → Memory → Type 0) (spot : List ℕ → Spot)
    (free object frame : ℕ) (im : Image) (class : Ident) (target : Lvalue) (table fields order : ℕ)
    (rates : Rates) (some : 1 ≤ rates.counts) (many : 500 ≤ rates.steps) (from_one : 1 ≤ setting.limits.heap)
    (few_fields : fields ≤ 64) (p : List Symbol) (law : ObjectLaw spot free table fields order target p)
    (facts : ObjectFacts setting address slot R spot free object frame im class target table fields order) (n0 : ℕ)
  where
    abbrev at : State → Cell → ℕ
    at st cell = cell_address (address st) (slot st) cell

    abbrev sharing : State → Bool
    sharing st = share_array setting.program st (own_element target) (index_elements target)

    abbrev reads : ℕ
    reads = read_cost (own_element target) (index_elements target)

    abbrev heap : ℕ
    heap = setting.limits.heap

    place_at_is : (st : State) (m : Memory) (r : R st m) (rc : Result Cell ℕ) → cell_of setting.program st target ≡ rc
        → place_address spot (bases_of m) m.cells target ≡ cell_result (address st) (slot st) rc
    place_at_is st m r rc e = place_is (address st) (slot st) setting.program st spot (bases_of m) m.cells target
        (facts.means st m r) ∙ ap (cell_result (address st) (slot st)) e

    shares_is : (st : State) (m : Memory) → R st m → update_shares spot (bases_of m) m.cells target (Null 0)
        ≡ sharing st
    shares_is st m r =
        update_shares_is (address st) (slot st) setting.program st spot (bases_of m) m.cells target (Null 0)
        (facts.means st m r) tt (facts.tells st m r)
        ∙ ap (share_array setting.program st (own_element target)) (append-nil (index_elements target))

    abbrev least : ℕ
    least = whole_steps (found_place_steps target) (Fixed table fields) fields (setting.limits.heap + 1)

    abbrev most : ℕ
    most = whole_steps (found_place_steps target) (Fixed table fields) fields (most_steps setting.limits.heap + 7)

    leave_meets : (d : Bool) (m m' : Memory) (st' : State) (c : ℕ) → R st' m'
        → c ≡ 1 + index_nodes target + reads + (setting.limits.heap + 1) → Will im p d m (LeavesWithin m' least most)
        → Will im p d m (Meets R rates n0 0 (Fine st' c))
    leave_meets d m m' st' c r e w = will_more im p d m _ _ over w
      where
        over : (o : Outcome) → LeavesWithin m' least most o → Meets R rates n0 0 (Fine st' c) o
        over _ (leaves_within k lo hi) =
            let up = found_place_most target in
            let low = found_place_least target in
            let zeros = zeros_most table fields fields in
            let all : k ≤ 500 * c = omega arith in
            let u = rated 500 rates.steps k c many all in
            fine r (less rates.counts k c some (omega arith)) (omega arith)

    -- a place found in a state and in the one after it
    stay : (st st' : State) (m : Memory) (cells' : List ℕ) → R st m → R st' (record m { cells = cells' })
        → KeepsNames setting address slot R spot free object frame im st st' → SameCells setting.program st st' target
        → sharing st' ≡ false
        → UpdateStays spot (bases_of m) (free_at free m) target (Null 0) m.cells cells'
    stay st st' m cells' r r' keeps same apart = record {
      place_sees = (facts.can st' (record m { cells = cells' }) r').first;
      value_sees = tt;
      place_same = kept_places (address st) (slot st) (address st') (slot st') setting.program st st' keeps spot
          (bases_of m) m.cells cells' target (facts.means st m r) (facts.means st' (record m { cells = cells' }) r')
          same;
      value_same = tt;
      apart = shares_is st' (record m { cells = cells' }) r' ∙ apart;
    }

    module _ (st : State) (m : Memory) (cell : Cell) (r : R st m) (nc : cell_of setting.program st target ≡ Ok cell)
      where
        makes : sharing st ≡ false → Makes im m object frame (free_at free m) (place_words target)
            (found_place_steps target) (at st cell) 0 order (Fixed table fields)
            (UpdateStays spot (bases_of m) (free_at free m) target (Null 0) m.cells) p
        makes e = law.makes im m object frame (at st cell) (facts.regs_are st m r) (facts.can st m r)
            (place_at_is st m r (Ok cell) nc) (shares_is st m r ∙ e)

        word_at : (v : Value) → read st cell ≡ v → slice_index m.cells (at st cell) ≡ shown (address st) (slot st) v
        word_at v e = facts.word st m cell r nc ∙ ap (shown (address st) (slot st)) e

        -- a fault with the cost of the place
        fault_meets : (d : Bool) (code extra c : ℕ) → extra ≤ 15 → c ≡ 1 + index_nodes target + reads
            → Will im p d m (TrapsWithin code (found_place_steps target + extra))
            → Will im p d m (Meets R rates n0 0 (Fault code c))
        fault_meets d code extra c l e t = let up = found_place_most target in
            stop_meets R rates 500 many im p n0 d m code c (found_place_steps target + extra) (omega arith) t

        new_by : (v : Value) (full : Bool) → read st cell ≡ v
            → is_full setting (length (fresh_cells setting class)) st ≡ full → sharing st ≡ false
            → Will im p false m (Meets R rates n0 0 (run_result (one_row target (Ok cell)
            (λ c. kept_by reads false (new_end setting.limits.heap full v (with_new setting class c st))))))
        new_by (Word w) full e ef sh = absurd (subst (Refers (address st)) e (facts.refers st m cell r nc))
        new_by (Name name) full e ef sh =
            fault_meets false 4 2 _ (omega arith) (omega arith)
            ((makes sh).not_nil_faults (λ q. subst (Refers (address st)) e (facts.refers st m cell r nc)
            (sym (word_at (Name name) e) ∙ q)))
        new_by Nil true e ef sh =
            let up = found_place_most target in
            stop_meets R rates 500 many im p n0 false m 8 _ _ (omega arith)
            ((makes sh).full_faults (most_steps setting.limits.heap + 7) tt (word_at Nil e)
            (facts.lacks st m cell r nc e ef))
        new_by Nil false e ef sh =
            let h = facts.makes st m cell r nc sh e ef in
            let s = facts.made_same st m cell r nc sh e ef in
            leave_meets false m _ (with_new setting class cell st) _ h.after (omega arith)
            ((makes sh).news h.x (setting.limits.heap + 1) (most_steps setting.limits.heap + 7) h.taken tt h.takes
            h.allocates
            (stay st (with_new setting class cell st) m (filled_words (at st cell) h.x table h.taken) r h.after h.keeps
            s.0
            s.1))

        delete_by : (v : Value) → read st cell ≡ v → sharing st ≡ false
            → Will im p true m (Meets R rates n0 0 (run_result (one_row target (Ok cell)
            (λ c. kept_by reads false (delete_end setting class st c v)))))
        delete_by (Word w) e sh = absurd (subst (Refers (address st)) e (facts.refers st m cell r nc))
        delete_by Nil e sh = fault_meets true 5 4 _ (omega arith) (omega arith) ((makes sh).nil_faults (word_at Nil e))
        delete_by (Name name) e sh = last (same_class setting class st name) (nat_eq (count_at st name) 1)
            (is_empty st name) refl refl refl
          where
            some_at : address st name ≢ 0
            some_at = subst (Refers (address st)) e (facts.refers st m cell r nc)

            s : ObjectStands setting address slot R spot free object frame im class target table fields order st m name
            s = facts.stands st m cell name r nc e

            last : (same one empty : Bool) → same_class setting class st name ≡ same → nat_eq (count_at st name) 1 ≡ one
                → is_empty st name ≡ empty
                → Will im p true m (Meets R rates n0 0 (run_result (one_row target (Ok cell)
                (λ c. kept_by reads false (fault_if NIL false >>= λ _. delete_last setting.limits.heap same
                one empty (freed setting c name st))))))
            last false one empty es eo ez =
                let i = s.there.inside in
                let w = s.there.small in
                fault_meets true 11 8 _ (omega arith) (omega arith)
                ((makes sh).other_faults (address st name) (word_at (Name name) e) (omega arith) (omega arith) some_at
                (s.other es))
            last true false empty es eo ez =
                let i = s.there.inside in
                let w = s.there.small in
                let others : count_at st name ≢ 1 = grind (arith, nat_tests) in
                fault_meets true 6 15 _ (omega arith) (omega arith)
                ((makes sh).count_faults (address st name) (word_at (Name name) e) (omega arith) (omega arith) some_at
                (s.mark es) (λ q. others (sym s.there.count ∙ q)))
            last true true false es eo ez =
                let i = s.there.inside in
                let w = s.there.small in
                let n = s.size es in
                let f = s.there.full ez in
                let f1 = f.1 in
                let one : count_at st name ≡ 1 = grind (arith, nat_tests) in
                let up = found_place_most target in
                stop_meets R rates 500 many im p n0 true m 7 _ _ (omega arith)
                ((makes sh).not_empty_faults (address st name) (address st name + HEADER_WORDS + f.0)
                (word_at (Name name) e)
                (omega arith) (omega arith) some_at (s.mark es) (s.there.count ∙ one) (omega arith) (omega arith) f.2)
            last true true true es eo ez =
                let one : count_at st name ≡ 1 = grind (arith, nat_tests) in
                let h = facts.frees st m cell name r nc sh e es one ez in
                let k = facts.freed_same st m cell name r nc sh e es one ez in
                leave_meets true m _ (freed setting cell name st) _ h.after (omega arith)
                ((makes sh).deletes (address st name) (setting.limits.heap + 1) (most_steps setting.limits.heap + 7)
                h.given
                h.taken tt h.was h.takes h.allocates
                (stay st (freed setting cell name st) m h.given r h.after h.keeps k.0 k.1) h.changes)

        -- if no array is shared, or one is
        ends_by : (d shared : Bool) → sharing st ≡ shared → Will im p d m
            (Meets R rates n0 0 (run_result (one_row target (Ok cell)
            (λ c. kept_by reads shared (end_of setting class d st c (read st c))))))
        ends_by false false e = new_by (read st cell) (is_full setting (length (fresh_cells setting class)) st) refl
            refl
            e
        ends_by true false e = delete_by (read st cell) refl e
        ends_by d true e =
            let up = found_place_most target in
            trap_meets R rates 500 many im p n0 d m 16 _ (found_place_steps target) (omega arith)
            (law.sharing_faults im d m (facts.can st m r) (at st cell) (place_at_is st m r (Ok cell) nc)
            (shares_is st m r ∙ e))

    one_meets : (d : Bool) (st : State) (m : Memory) → R st m → (rc : Result Cell ℕ)
        → cell_of setting.program st target ≡ rc → Will im p d m
        (Meets R rates n0 0 (run_result (one_row target rc (λ c. kept_by reads (sharing st)
        (end_of setting class d st c (read st c))))))
    one_meets d st m r (Err c) nc =
        let one = place_less target in
        trap_meets R rates 500 many im p n0 d m c _ (place_steps target) (omega arith)
        (law.place_faults im d m (facts.can st m r) c (place_at_is st m r (Err c) nc))
    one_meets d st m r (Ok cell) nc = ends_by st m cell r nc d (sharing st) refl

    new_is : (d : Bool) (here n : ℕ) (run : Runner) (st : State)
        → after_cost 1 (statement setting n run (facing d (New here (AnObject class) target)) st)
        ≡ one_row target (cell_of setting.program st target)
        (λ c. kept_by reads (sharing st) (end_of setting class d st c (read st c)))
    new_is false here n run st = refl
    new_is true here n run st = refl

    -- the fragment of a new does what the source says of it, and run backward what it says of its
    -- inverse
    pub new_does : (d : Bool) (here n : ℕ) (run : Runner) → Does im p d R R rates n0 0
        (λ st. run_result (after_cost 1 (statement setting n run (facing d (New here (AnObject class) target)) st)))
    new_does d here n run = record {
      does = λ st m h. subst (λ r. Will im p d m (Meets R rates n0 0 (run_result r))) (sym (new_is d here n run st))
          (one_meets d st m h (cell_of setting.program st target) refl);
    }

    delete_is : (d : Bool) (here : ℕ) → facing d (Delete here (AnObject class) target)
        ≡ facing (not d) (New here (AnObject class) target)
    delete_is false here = refl
    delete_is true here = refl

    -- and its inverse that of a delete
    pub delete_does : (d : Bool) (here n : ℕ) (run : Runner)
        → Does im (mirror_cells p) d R R rates n0 0 (λ st. run_result
        (after_cost 1 (statement setting n run (facing d (Delete here (AnObject class) target)) st)))
    delete_does d here n run = record {
      does = λ st m h. will_mirror im p d m _ (subst (λ s. Will im p (not d) m
          (Meets R rates n0 0 (run_result (after_cost 1 (statement setting n run s st))))) (sym (delete_is d here))
          ((new_does (not d) here n run).does st m h));
    }
