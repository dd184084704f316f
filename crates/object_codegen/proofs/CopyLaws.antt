-- Copies and uncopies over memories.
use Rattle.std.proofs.Common.{◌≡◌, ◌≢◌, ℕ, ◌+◌, ◌^◌, ◌<◌, ◌≤◌, Bool, true, false, List, ◌++◌, length, refl, sym, ap}
use Rattle.std.proofs.Common.{◌∙◌, subst, arith}
use Rattle.std.specs.Prelude.{slice_index}
use Rattle.refine_heap.specs.rpp_tree.Tree.{Lvalue}
use Rattle.refine_heap.specs.pisa_isa.Machine.{Memory}
use Rattle.refine_heap.specs.paired_code.declared.part.Symbol.{Symbol}
use Rattle.refine_heap.specs.paired_code.Machine.{Image, memory_reg}
use Rattle.refine_heap.specs.paired_code.Layout.{mirror_cells}
use Rattle.refine_heap.specs.paired_code.Pieces.{Done, Will}
use Rattle.refine_heap.proofs.paired_code_laws.Laws.{will_of}
use Rattle.expr_uncompute.specs.refine_form.declared.spot.Spot.{Spot}
use Rattle.expr_uncompute.specs.Code.{place_words}
use Rattle.expr_uncompute.specs.register_expressions.Laws.{bases_of}
use Rattle.expr_uncompute.specs.Promises.{free_at}
use Rattle.expr_uncompute.specs.Found.{found_memory, Filled, PlacesStay, PlacesAroundLaw, Encloses, LeavesWithin}
use Rattle.expr_uncompute.specs.Found.{leaves_within, TrapsWithin, found_places_steps}
use Rattle.expr_uncompute.proofs.register_expressions_laws.Goes.{Traps, goes_to}
use Rattle.expr_uncompute.proofs.register_expressions_laws.Scratch.{keeping, mem}
use Rattle.expr_uncompute.proofs.Updates.{place_low}
use Rattle.expr_uncompute.proofs.FoundLaws.{shown_as}
use Rattle.object_codegen.specs.Code.{copy_checks, uncopy_checks, copy_alter, copy_mid}
use Rattle.object_codegen.specs.Promises.{referring, unreferring, Copies, Shares, Places, CopyLaw, copy_steps}
use Rattle.object_codegen.proofs.Leading.{fault_ahead, fault_back}
use Rattle.object_codegen.proofs.Over.{over_two, changes_two}
use Rattle.object_codegen.proofs.Uncopied.{uncopied, copied_again}
use Rattle.object_codegen.proofs.Copying.{copy_goes, copy_nil, copy_not_nil, uncopy_nil, uncopy_other, uncopy_one}
use Rattle.refine_heap.specs.code_conventions.declared.faults.TheConstants.{NIL, NOT_NIL, NOT_SAME}

-- what a copy needs below the free words is there when they are filled
copies_filled : (low n p q x c : ℕ) (cells ys : List ℕ) → Filled low n cells ys → Copies low p q x c cells
    → Copies low p q x c ys
copies_filled low n p q x c cells ys f h = record {
  low_in = rw f.count h.low_in;
  p_in = h.p_in;
  q_in = h.q_in;
  count_in = h.count_in;
  small = rw f.count h.small;
  source = f.below p h.p_in ∙ h.source;
  some = h.some;
  target = f.below q h.q_in ∙ h.target;
  count = f.below (x + 1) h.count_in ∙ h.count;
  more = h.more;
  p_apart = h.p_apart;
  q_apart = h.q_apart;
}

shares_filled : (low n p q x c : ℕ) (cells ys : List ℕ) → Filled low n cells ys → Shares low p q x c cells
    → Shares low p q x c ys
shares_filled low n p q x c cells ys f h = record {
  low_in = rw f.count h.low_in;
  p_in = h.p_in;
  q_in = h.q_in;
  count_in = h.count_in;
  small = rw f.count h.small;
  source = f.below p h.p_in ∙ h.source;
  some = h.some;
  target = f.below q h.q_in ∙ h.target;
  count = f.below (x + 1) h.count_in ∙ h.count;
  more = h.more;
  apart = h.apart;
  p_apart = h.p_apart;
  q_apart = h.q_apart;
}

module _ (spot : List ℕ → Spot) (free : ℕ) (source target : Lvalue) (p : List Symbol)
    (law : PlacesAroundLaw spot free source target copy_mid p) where
  module _ (im : Image) (m : Memory) (a a' : ℕ) (at : Places spot free source target m a a') where
    abbrev room : ℕ
    room = place_words source + place_words target

    found_is : (ys : List ℕ) → mem (bases_of m) (memory_reg m) (keeping 0 a a') ys ≡ found_memory 0 a a' ys m
    found_is ys = shown_as spot free m room at.can.ready 0 a a' ys

    encloses : (d : Bool) → Encloses im d m (free_at free m) (place_words source + place_words target)
        (found_places_steps source target) 0 a a' (PlacesStay spot (bases_of m) (free_at free m) source target m.cells)
        copy_mid p
    encloses d = law.encloses im d m at.can a a' at.source_at at.target_at at.apart

    a_low : a < free_at free m
    a_low = place_low spot free (bases_of m) source a m.cells at.can.first at.source_at

    a'_low : a' < free_at free m
    a'_low = place_low spot free (bases_of m) target a' m.cells at.can.second at.target_at

    inside : (ys : List ℕ) → Filled (free_at free m) (place_words source + place_words target) m.cells ys
        → free_at free m ≤ length ys
    inside ys f = let i = at.can.ready.inside in rw f.count (omega arith)

    pub copied : (x c : ℕ) → Copies (free_at free m) a a' x c m.cells
        → PlacesStay spot (bases_of m) (free_at free m) source target m.cells (referring a' x (c + 1) m.cells)
        → Will im p false m (LeavesWithin (record m { cells = referring a' x (c + 1) m.cells })
        (copy_steps source target) (copy_steps source target))
    copied x c h s =
        (encloses false).leads (referring a' x (c + 1) m.cells) 42 42
        (changes_two (free_at free m) m.cells a' x (x + 1) (c + 1) at.can.ready.words h.q_in h.count_in
        (let i = h.count_in in let l = h.low_in in let k = h.small in omega arith) h.more) s
        (λ ys ys' f f' ch.
        let e : ys' ≡ referring a' x (c + 1) ys = over_two (free_at free m) room m.cells ys f ys' a' x (x + 1) (c + 1)
        h.q_in h.count_in f' ch in
        let g = copy_goes (bases_of m) (memory_reg m) a a' (free_at free m) x c ys
        (copies_filled (free_at free m) room a a' x c m.cells ys f h) in
        will_of im copy_mid false (found_memory 0 a a' ys m) (Done (found_memory 0 a a' ys' m) 42) _
        ((goes_to refl (found_is ys) (ap (mem (bases_of m) (memory_reg m) (keeping 0 a a')) (sym e) ∙ found_is ys')
        g).ahead im) (leaves_within 42 (omega arith) (omega arith)))

    pub uncopied_again : (x c : ℕ) → Shares (free_at free m) a a' x c m.cells
        → PlacesStay spot (bases_of m) (free_at free m) source target m.cells (unreferring a' x c m.cells)
        → Will im p true m (LeavesWithin (record m { cells = unreferring a' x c m.cells }) (copy_steps source target)
        (copy_steps source target))
    uncopied_again x c h s =
        (encloses true).leads (unreferring a' x c m.cells) 42 42
        (changes_two (free_at free m) m.cells a' 0 (x + 1) c at.can.ready.words h.q_in h.count_in (omega arith)
        (let i = h.more in omega arith)) s
        (λ ys ys' f f' ch.
        let t = shares_filled (free_at free m) room a a' x c m.cells ys f h in
        let e : ys' ≡ unreferring a' x c ys = over_two (free_at free m) room m.cells ys f ys' a' 0 (x + 1) c h.q_in
        h.count_in f' ch in
        let g = copy_goes (bases_of m) (memory_reg m) a a' (free_at free m) x c (unreferring a' x c ys)
        (uncopied (free_at free m) a a' x c ys t) in
        let back = ap (mem (bases_of m) (memory_reg m) (keeping 0 a a')) (copied_again (free_at free m) a a' x c ys t)
        ∙ found_is ys in
        will_of im copy_mid true (found_memory 0 a a' ys m) (Done (found_memory 0 a a' ys' m) 42) _
        ((goes_to refl (ap (mem (bases_of m) (memory_reg m) (keeping 0 a a')) (sym e) ∙ found_is ys') back g).back im)
        (leaves_within 42 (omega arith) (omega arith)))

    -- ---- faults

    -- a check before the copy
    before : (code n : ℕ) (ys : List ℕ) → Traps copy_checks n code (mem (bases_of m) (memory_reg m) (keeping 0 a a') ys)
        → Will im copy_mid false (found_memory 0 a a' ys m) (TrapsWithin code n)
    before code n ys t = subst (λ z. Will im copy_mid false z (TrapsWithin code n)) (found_is ys)
        (fault_ahead (copy_alter ++ mirror_cells uncopy_checks) t im)

    -- one before the inverse
    behind : (code n : ℕ) (ys : List ℕ) → Traps uncopy_checks n code (mem (bases_of m) (memory_reg m) (keeping 0 a a') ys)
        → Will im copy_mid true (found_memory 0 a a' ys m) (TrapsWithin code n)
    behind code n ys t = subst (λ z. Will im copy_mid true z (TrapsWithin code n)) (found_is ys)
        (fault_back copy_checks copy_alter t im)

    pub nil_fault_of : (d : Bool) → slice_index m.cells a ≡ 0
        → Will im p d m (TrapsWithin NIL (found_places_steps source target + 2))
    nil_fault_of false e = (encloses false).traps NIL 2 (λ ys f. before NIL 2 ys
        (copy_nil (bases_of m) (memory_reg m) a a' ys (let i = inside ys f in let l = a_low in omega arith)
        (f.below a a_low ∙ e)))
    nil_fault_of true e = (encloses true).traps NIL 2 (λ ys f. behind NIL 2 ys
        (uncopy_nil (bases_of m) (memory_reg m) a a' ys (let i = inside ys f in let l = a_low in omega arith)
        (f.below a a_low ∙ e)))

    pub not_nil_fault_of : (x : ℕ) → slice_index m.cells a ≡ x → x < 2 ^ 31 → x ≢ 0 → slice_index m.cells a' ≢ 0
        → Will im p false m (TrapsWithin NOT_NIL (found_places_steps source target + 6))
    not_nil_fault_of x e l n n' =
        (encloses false).traps NOT_NIL 6 (λ ys f.
        let i = inside ys f in
        let k = a_low in
        let k' = a'_low in
        before NOT_NIL 6 ys (copy_not_nil (bases_of m) (memory_reg m) a a' ys x (omega arith) (omega arith)
        (f.below a a_low ∙ e) l
        n (λ z. n' (sym (f.below a' a'_low) ∙ z))))

    pub not_same_fault_of : (x y : ℕ) → slice_index m.cells a ≡ x → slice_index m.cells a' ≡ y → x < 2 ^ 31 → x ≢ 0
        → x ≢ y → Will im p true m (TrapsWithin NOT_SAME (found_places_steps source target + 11))
    not_same_fault_of x y e e' l n n' =
        (encloses true).traps NOT_SAME 11 (λ ys f.
        let i = inside ys f in
        let k = a_low in
        let k' = a'_low in
        behind NOT_SAME 11 ys (uncopy_other (bases_of m) (memory_reg m) a a' ys x y (omega arith) (omega arith)
        (f.below a a_low ∙ e)
        (f.below a' a'_low ∙ e') l n n'))

    pub one_place_fault_of : (x : ℕ) → a ≡ a' → slice_index m.cells a ≡ x → x < 2 ^ 31 → x ≢ 0
        → Will im p true m (TrapsWithin NOT_SAME (found_places_steps source target + 19))
    one_place_fault_of x q e l n =
        (encloses true).traps NOT_SAME 19 (λ ys f.
        let i = inside ys f in
        let k = a_low in
        let k' = a'_low in
        behind NOT_SAME 19 ys (uncopy_one (bases_of m) (memory_reg m) a a' ys x (omega arith) (omega arith)
        (rw f.count at.can.ready.small) (f.below a a_low ∙ e) (ap (slice_index ys) (sym q) ∙ f.below a a_low ∙ e)
        l n q))

  pub copy_law : CopyLaw spot free source target p
  copy_law = record {
    copies = λ im m a a' x c at h s. copied im m a a' at x c h s;
    uncopies = λ im m a a' x c at h s. uncopied_again im m a a' at x c h s;
    source_faults = law.source_faults;
    target_faults = law.target_faults;
    sharing_faults = law.sharing_faults;
    nil_faults = λ im d m a a' at e. nil_fault_of im m a a' at d e;
    not_nil_faults = λ im m a a' x at e l n n'. not_nil_fault_of im m a a' at x e l n n';
    not_same_faults = λ im m a a' x y at e e' l n n'. not_same_fault_of im m a a' at x y e e' l n n';
    one_place_faults = λ im m a x at e l n. one_place_fault_of im m a a at x refl e l n;
  }
