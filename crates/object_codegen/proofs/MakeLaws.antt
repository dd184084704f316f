-- New and delete over memories.
use Rattle.std.proofs.Common.{◌≡◌, ◌≢◌, ℕ, ◌+◌, ◌*◌, ◌^◌, ◌<◌, ◌≤◌, Bool, true, false, List, [], ◌∷◌, length, refl, sym}
use Rattle.std.proofs.Common.{ap, ◌∙◌, subst, arith}
use Rattle.std.specs.Prelude.{slice_index}
use Rattle.refine_heap.specs.code_conventions.declared.memory.TheConstants.{HEADER_WORDS}
use Rattle.refine_heap.specs.buddy_book.Book.{order_for}
use Rattle.refine_heap.specs.rpp_tree.Tree.{Expression, Null, Lvalue}
use Rattle.refine_heap.specs.pisa_isa.Machine.{Memory}
use Rattle.refine_heap.specs.paired_code.declared.part.Symbol.{Symbol}
use Rattle.refine_heap.specs.paired_code.Machine.{Image}
use Rattle.refine_heap.specs.paired_code.Pieces.{Will}
use Rattle.expr_uncompute.specs.refine_form.Form.{registers}
use Rattle.expr_uncompute.specs.refine_form.declared.spot.Spot.{Spot}
use Rattle.expr_uncompute.specs.register_expressions.Code.{words, xori}
use Rattle.expr_uncompute.specs.Code.{place_words}
use Rattle.expr_uncompute.specs.register_expressions.Number.{Bases}
use Rattle.expr_uncompute.specs.register_expressions.Laws.{bases_of}
use Rattle.expr_uncompute.specs.Laws.{UpdateStays}
use Rattle.expr_uncompute.specs.Promises.{free_at}
use Rattle.expr_uncompute.specs.Found.{found_memory, Filled, Changes, Encloses, PlaceAroundLaw, ValueAroundLaw}
use Rattle.expr_uncompute.specs.Found.{LeavesWithin}
use Rattle.expr_uncompute.specs.Found.{TrapsWithin, found_place_steps, found_value_steps}
use Rattle.expr_uncompute.proofs.register_expressions_laws.Goes.{Goes, goes_set}
use Rattle.expr_uncompute.proofs.register_expressions_laws.Scratch.{keeping, mem}
use Rattle.expr_uncompute.proofs.Updates.{place_low}
use Rattle.object_codegen.specs.declared.shape.Shape.{Shape}
use Rattle.object_codegen.specs.declared.shape.Shape.TheVariants.{Fixed, Lengthy}
use Rattle.object_codegen.specs.Code.{order, order_cells, new_mid, mark_of, mark_fault, block_size_of}
use Rattle.object_codegen.specs.News.{Allocates, Lacks, Takes, filled_words, IsShape, IsLength, check_steps, move_steps}
use Rattle.object_codegen.specs.News.{order_steps, middle_steps, Makes, ObjectLaw, ArrayLaw}
use Rattle.object_codegen.proofs.Leading.{Leads}
use Rattle.object_codegen.proofs.Filling.{nothing_else, calling}
use Rattle.object_codegen.proofs.NewLaws.{Room, new_leads, new_not_nil, new_full, new_length, deleted_nil}
use Rattle.object_codegen.proofs.NewLaws.{deleted_other, deleted_shared, deleted_full}
use Rattle.object_codegen.proofs.SizeOrdering.{ordering}
use Rattle.object_codegen.proofs.Taken.{emptied, filled_changes, emptied_fills, emptied_above, filled_again}
use Rattle.refine_heap.specs.code_conventions.declared.faults.TheConstants.{COUNT, HEAP_FULL, LENGTH, NIL, NOT_EMPTY}
use Rattle.refine_heap.specs.code_conventions.declared.faults.TheConstants.{NOT_NIL}

-- a mark is a word
mark_word : (v : ℕ) (shape : Shape) → IsShape shape → IsLength v shape → mark_of v shape < 2 ^ 32
mark_word v (Fixed table fields) s l = s.0
mark_word v Lengthy s l = let h = l.0 in omega arith

-- a place and a length in their registers, all others 0
found_is : (m : Memory) (object frame v a : ℕ) (ys : List ℕ) → m.regs ≡ registers 0 object frame 0 0 0 0 0
    → mem (record { object = object; frame = frame }) nothing_else (keeping v a 0) ys ≡ found_memory v a 0 ys m
found_is m object frame v a ys e = sym (ap (λ r. found_memory v a 0 ys (record { regs = r; cells = ys })) e)

module _ (im : Image) (m : Memory) (object frame low n steps a v o : ℕ) (shape : Shape) (is_shape : IsShape shape)
    (Kept : List ℕ → Type 0) (orders p : List Symbol)
    (encloses : (d : Bool) → Encloses im d m low n steps v a 0 Kept (new_mid shape orders) p)
    (finds : IsLength v shape → (ys : List ℕ) → Goes orders (order_steps shape)
    (calling (record { object = object; frame = frame }) 0 0 a v shape ys)
    (calling (record { object = object; frame = frame }) o 0 a v shape ys))
    (regs_are : m.regs ≡ registers 0 object frame 0 0 0 0 0) (inside : low ≤ length m.cells)
    (small : length m.cells ≤ 2 ^ 31) (a_low : a < low) where
  abbrev b : Bases
  b = record { object = object; frame = frame }

  abbrev at : List ℕ → Memory
  at ys = mem (record { object = object; frame = frame }) nothing_else (keeping v a 0) ys

  same : (ys : List ℕ) → at ys ≡ found_memory v a 0 ys m
  same ys = found_is m object frame v a ys regs_are

  -- the space of a block
  roomy : (x : ℕ) (cells taken zs : List ℕ) → length cells ≡ length m.cells
      → Takes low (block_size_of v shape) a x cells taken → Filled low n taken zs
      → Room b a v x (block_size_of v shape) zs
  roomy x cells taken zs e t f =
      let w = t.within in
      let c = t.changes.count in
      let k = f.count in
      record {
        blank = record {
          x_in = omega arith;
          p_in = omega arith;
          small = omega arith;
          first = f.below x (omega arith) ∙ t.zero x (omega arith) (omega arith);
          count = f.below (x + 1) (omega arith) ∙ t.zero (x + 1) (omega arith) (omega arith);
          nil = f.below a a_low ∙ t.nil;
          apart = t.outside x (omega arith) (omega arith);
          p_apart = t.outside (x + 1) (omega arith) (omega arith);
        };
        some = t.some;
        within = omega arith;
        ends = t.ends;
        zero = λ i lo hi. f.below i (omega arith) ∙ t.zero i (omega arith) hi;
        outside = λ i lo hi. t.outside i (omega arith) hi;
      }

  -- the middle, from filled cells to those with the block
  leads : (x least most : ℕ) (cells taken ys zs : List ℕ) → length cells ≡ length m.cells → IsLength v shape
      → Takes low (block_size_of v shape) a x cells taken → Allocates im object frame o x a v shape low n least most
      cells
      taken → Filled low n cells ys → Filled low n taken zs → Changes low ys zs
      → Leads im (new_mid shape orders) (middle_steps shape (block_size_of v shape) least)
      (middle_steps shape (block_size_of v shape) most) (at ys) (at (filled_words a x (mark_of v shape) zs))
  leads x least most cells taken ys zs e l t alloc f g c =
      let k = f.count in
      new_leads b a v im shape is_shape orders (order_steps shape) ys zs o x (block_size_of v shape) least most refl l
      (omega arith) (f.below a a_low ∙ t.nil_before) (roomy x cells taken zs e t g) (finds l)
      (record { leads = record { ahead = alloc.takes ys zs f g c; back = alloc.gives ys zs f g c } })

  pub news : (x least most : ℕ) (taken : List ℕ) → IsLength v shape
      → Takes low (block_size_of v shape) a x m.cells taken
      → Allocates im object frame o x a v shape low n least most m.cells taken
      → Kept (filled_words a x (mark_of v shape) taken)
      → Will im p false m (LeavesWithin (record m { cells = filled_words a x (mark_of v shape) taken })
      (steps + (middle_steps shape (block_size_of v shape) least + steps))
      (steps + (middle_steps shape (block_size_of v shape) most + steps)))
  news x least most taken l t alloc kept =
      (encloses false).leads (filled_words a x (mark_of v shape) taken)
      (middle_steps shape (block_size_of v shape) least)
      (middle_steps shape (block_size_of v shape) most) (filled_changes low (block_size_of v shape) a x
      (mark_of v shape)
      m.cells taken inside t (mark_word v shape is_shape l)) kept
      (λ ys ys' f f' c.
      let mark : ℕ = mark_of v shape in
      let zs : List ℕ = emptied a x ys' in
      let g : Filled low n taken zs = emptied_fills low (block_size_of v shape) a x mark m.cells taken inside t n ys' f'
      in
      let count : length zs ≡ length ys = let q = g.count in let r = f.count in let s = t.changes.count in
      omega arith in
      let change : Changes low ys zs = record {
        count = count;
        words = g.words;
        above = λ i h. emptied_above low (block_size_of v shape) a x mark m.cells taken inside t n ys' f' i h
            ∙ c.above i h;
      } in
      let on = (leads x least most m.cells taken ys zs refl l t alloc f g change).ahead in
      let there : at (filled_words a x mark zs) ≡ found_memory v a 0 ys' m =
      ap (λ z. at z) (filled_again low (block_size_of v shape) a x mark m.cells taken inside t n ys' f') ∙ same ys' in
      subst (λ z. Will im (new_mid shape orders) false (found_memory v a 0 ys m)
      (LeavesWithin z (middle_steps shape (block_size_of v shape) least)
      (middle_steps shape (block_size_of v shape) most)))
      there
      (subst (λ z. Will im (new_mid shape orders) false z (LeavesWithin (at (filled_words a x mark zs))
      (middle_steps shape (block_size_of v shape) least) (middle_steps shape (block_size_of v shape) most))) (same ys)
      on))

  pub deletes : (x least most : ℕ) (given taken : List ℕ) → IsLength v shape
      → m.cells ≡ filled_words a x (mark_of v shape) taken → Takes low (block_size_of v shape) a x given taken
      → Allocates im object frame o x a v shape low n least most given taken → Kept given → Changes low m.cells given
      → Will im p true m (LeavesWithin (record m { cells = given })
      (steps + (middle_steps shape (block_size_of v shape) least + steps))
      (steps + (middle_steps shape (block_size_of v shape) most + steps)))
  deletes x least most given taken l e t alloc kept back =
      (encloses true).leads given (middle_steps shape (block_size_of v shape) least)
      (middle_steps shape (block_size_of v shape) most) back kept
      (λ ys ys' f f' c.
      let mark : ℕ = mark_of v shape in
      let inside' : low ≤ length given = let q = back.count in omega arith in
      let fe : Filled low n (filled_words a x mark taken) ys = subst (λ z. Filled low n z ys) e f in
      let zs : List ℕ = emptied a x ys in
      let g : Filled low n taken zs = emptied_fills low (block_size_of v shape) a x mark given taken inside' t n ys fe
      in
      let count : length zs ≡ length ys' = let q = g.count in let r = f'.count in let s = t.changes.count in
      omega arith in
      let change : Changes low ys' zs = record {
        count = count;
        words = g.words;
        above = λ i h. emptied_above low (block_size_of v shape) a x mark given taken inside' t n ys fe i h
            ∙ sym (c.above i h);
      } in
      let on = (leads x least most given taken ys' zs back.count l t alloc f' g change).back in
      let here : at (filled_words a x mark zs) ≡ found_memory v a 0 ys m =
      ap (λ z. at z) (filled_again low (block_size_of v shape) a x mark given taken inside' t n ys fe) ∙ same ys in
      subst (λ z. Will im (new_mid shape orders) true z (LeavesWithin (found_memory v a 0 ys' m)
      (middle_steps shape (block_size_of v shape) least) (middle_steps shape (block_size_of v shape) most))) here
      (subst (λ z. Will im (new_mid shape orders) true (at (filled_words a x mark zs))
      (LeavesWithin z (middle_steps shape (block_size_of v shape) least)
      (middle_steps shape (block_size_of v shape) most)))
      (same ys') on))

  -- ---- faults

  stops : (d : Bool) (code most : ℕ) → ((ys : List ℕ) → Filled low n m.cells ys
      → Will im (new_mid shape orders) d (at ys) (TrapsWithin code most))
      → Will im p d m (TrapsWithin code (steps + most))
  stops d code most t = (encloses d).traps code most (λ ys f. subst
      (λ z. Will im (new_mid shape orders) d z (TrapsWithin code most)) (same ys) (t ys f))

  there : (ys : List ℕ) → Filled low n m.cells ys → a < length ys
  there ys f = let k = f.count in omega arith

  pub not_nil : slice_index m.cells a ≢ 0 → Will im p false m (TrapsWithin NOT_NIL (steps + 2))
  not_nil h = stops false 4 2 (λ ys f. new_not_nil b a v im shape is_shape orders (order_steps shape) ys (there ys f)
      (λ e. h (sym (f.below a a_low) ∙ e)))

  pub full : (most : ℕ) → IsLength v shape → slice_index m.cells a ≡ 0
      → Lacks im object frame o a v shape low n most m.cells
      → Will im p false m (TrapsWithin HEAP_FULL (steps + (check_steps shape +
      ((move_steps shape + order_steps shape) + most))))
  full most l e k = stops false 8 _ (λ ys f. new_full b a v im shape is_shape orders (order_steps shape) ys o most l
      (there ys f) (f.below a a_low ∙ e) (finds l ys) (k.lacks ys f))

  pub nil : slice_index m.cells a ≡ 0 → Will im p true m (TrapsWithin NIL (steps + 4))
  nil e = stops true 5 4 (λ ys f. deleted_nil b a v im shape is_shape orders (order_steps shape) ys 0 (there ys f)
      (f.below a a_low ∙ e) refl)

  pub other : (x : ℕ) → slice_index m.cells a ≡ x → x < low → x < 2 ^ 31 → x ≢ 0
      → slice_index m.cells x ≢ mark_of v shape → Will im p true m (TrapsWithin (mark_fault shape) (steps + 8))
  other x e l s some h =
      stops true (mark_fault shape) 8 (λ ys f. let k = f.count in
      deleted_other b a v im shape is_shape orders (order_steps shape) ys x (there ys f) (f.below a a_low ∙ e) s
      some (omega arith) (λ q. h (sym (f.below x l) ∙ q)))

  pub counted : (x : ℕ) → slice_index m.cells a ≡ x → x + 1 < low → x < 2 ^ 31 → x ≢ 0
      → slice_index m.cells x ≡ mark_of v shape → slice_index m.cells (x + 1) ≢ 1
      → Will im p true m (TrapsWithin COUNT (steps + 15))
  counted x e l s some q h =
      stops true 6 15 (λ ys f. let k = f.count in deleted_shared b a v im shape is_shape orders (order_steps shape) ys x
      (there ys f) (f.below a a_low ∙ e) s some (omega arith) (f.below x (omega arith) ∙ q)
      (λ r. h (sym (f.below (x + 1) l) ∙ r)))

  pub not_empty : (x i : ℕ) → slice_index m.cells a ≡ x → x + HEADER_WORDS + block_size_of v shape ≤ low
      → x + HEADER_WORDS + block_size_of v shape < 2 ^ 31 → x ≢ 0 → slice_index m.cells x ≡ mark_of v shape
      → slice_index m.cells (x + 1) ≡ 1 → x + HEADER_WORDS ≤ i → i < x + HEADER_WORDS + block_size_of v shape
      → slice_index m.cells i ≢ 0
      → Will im p true m (TrapsWithin NOT_EMPTY (steps + (27 + 13 * block_size_of v shape)))
  not_empty x i e w s some q c lo hi h =
      stops true 7 _ (λ ys f. let k = f.count in deleted_full b a v im shape is_shape orders (order_steps shape) ys x
      (there ys f) (f.below a a_low ∙ e) (omega arith) some (block_size_of v shape) i refl (omega arith) s
      (f.below x (omega arith) ∙ q) (f.below (x + 1) (omega arith) ∙ c) lo hi
      (λ z. h (sym (f.below i (omega arith)) ∙ z)))

  pub makes : Makes im m object frame low n steps a v o shape Kept p
  makes = record {
    news = news;
    deletes = deletes;
    not_nil_faults = not_nil;
    full_faults = full;
    nil_faults = nil;
    other_faults = other;
    count_faults = counted;
    not_empty_faults = not_empty;
  }

-- ---- objects

pub object_law : (spot : List ℕ → Spot) (free table fields o : ℕ) (target : Lvalue) (p : List Symbol) → table < 2 ^ 32
    → fields < 2 ^ 32 → o < 2 ^ 32 → PlaceAroundLaw spot free target (new_mid (Fixed table fields) (xori order o ∷ []))
    p → ObjectLaw spot free table fields o target p
object_law spot free table fields o target p t f w law = record {
  makes = λ im m object frame a regs_are can at apart.
      let i = can.ready.inside in
      makes im m object frame (free_at free m) (place_words target) (found_place_steps target) a 0 o
      (Fixed table fields) (t, f) (UpdateStays spot (bases_of m) (free_at free m) target (Null 0) m.cells)
      (xori order o ∷ []) p
      (λ d. law.encloses im d m can a at apart)
      (λ l ys. goes_set _ (λ z. calling (record { object = object; frame = frame }) z 0 a 0 (Fixed table fields) ys) o
      refl w (λ z. refl) (λ z. refl))
      regs_are (omega arith) can.ready.small (place_low spot free (bases_of m) target a m.cells can.first at);
  place_faults = law.place_faults;
  sharing_faults = law.sharing_faults;
}

-- ---- arrays

pub array_law : (spot : List ℕ → Spot) (free : ℕ) (target : Lvalue) (size : Expression) (p : List Symbol)
    → ValueAroundLaw spot free target size (new_mid Lengthy order_cells) p → ArrayLaw spot free target size p
array_law spot free target size p law = record {
  makes = λ im m object frame a v regs_are can at value apart.
      let i = can.ready.inside in
      makes im m object frame (free_at free m) (place_words target + words size) (found_value_steps target size) a v
      (order_for (HEADER_WORDS + v)) Lengthy tt (UpdateStays spot (bases_of m) (free_at free m) target size m.cells)
      order_cells p
      (λ d. law.encloses im d m can a v at value apart)
      (λ l ys. ordering (record { object = object; frame = frame }) a v ys l.0 l.1)
      regs_are (omega arith) can.ready.small (place_low spot free (bases_of m) target a m.cells can.first at);
  length_faults = λ im m object frame a v regs_are can at value apart e t.
      let i = can.ready.inside in
      let low = place_low spot free (bases_of m) target a m.cells can.first at in
      (law.encloses im false m can a v at value apart).traps LENGTH 5
      (λ ys f. subst (λ z. Will im (new_mid Lengthy order_cells) false z (TrapsWithin LENGTH 5))
      (found_is m object frame v a ys regs_are) (new_length (record { object = object; frame = frame }) a v im
      order_cells ys t (let k = f.count in omega arith) (f.below a low ∙ e)));
  place_faults = law.place_faults;
  length_value_faults = law.value_faults;
  sharing_faults = law.sharing_faults;
}
