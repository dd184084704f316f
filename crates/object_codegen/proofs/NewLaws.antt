-- The middle of `new` and `delete`.
use Rattle.std.proofs.Common.{◌≡◌, ◌≢◌, ℕ, ◌+◌, ◌*◌, ◌^◌, ◌<◌, ◌≤◌, true, false, List, [], ◌∷◌, ◌++◌, length}
use Rattle.std.proofs.Common.{length-set, sym, ◌∙◌, arith}
use Rattle.std.specs.Prelude.{slice_index, slice_set}
use Rattle.std.proofs.lemmas.List.{get_or-set_same, get_or-set_other}
use Rattle.refine_heap.specs.code_conventions.declared.memory.TheConstants.{HEADER_WORDS}
use Rattle.refine_heap.specs.rpp_words.Words.{is_less}
use Rattle.refine_heap.specs.pisa_isa.Machine.{Memory}
use Rattle.refine_heap.specs.code_conventions.declared.registers.TheConstants.{AMOUNT}
use Rattle.refine_heap.specs.paired_code.declared.part.Symbol.{Symbol}
use Rattle.refine_heap.specs.paired_code.declared.part.Symbol.TheVariants.{Enter}
use Rattle.refine_heap.specs.paired_code.Machine.{Image}
use Rattle.refine_heap.specs.paired_code.Layout.{mirror_cells}
use Rattle.refine_heap.specs.paired_code.Pieces.{Will}
use Rattle.expr_uncompute.specs.register_expressions.Number.{Bases}
use Rattle.expr_uncompute.specs.Found.{TrapsWithin}
use Rattle.expr_uncompute.proofs.register_expressions_laws.Comparing.{above}
use Rattle.expr_uncompute.proofs.register_expressions_laws.Goes.{Goes, Traps, goes_seq, goes_mirror, traps_then, traps_first}
use Rattle.expr_uncompute.proofs.register_expressions_laws.Scratch.{keeping, mem}
use Rattle.object_codegen.specs.declared.shape.Shape.{Shape}
use Rattle.object_codegen.specs.declared.shape.Shape.TheVariants.{Fixed, Lengthy}
use Rattle.object_codegen.specs.Code.{mark_of, mark_fault, block_size_of, positive, new_checks, delete_checks, new_alter}
use Rattle.object_codegen.specs.Code.{new_mid}
use Rattle.object_codegen.specs.News.{filled_words, IsShape, IsLength, check_steps, move_steps, zeros_steps}
use Rattle.object_codegen.proofs.Touching.{by_place, nil_goes, nil_traps, goes_positive, traps_positive}
use Rattle.object_codegen.proofs.Deleting.{delete_nil, delete_other, delete_shared, delete_full, delete_passes}
use Rattle.object_codegen.proofs.Leading.{Leads, goes_leads, leads_seq, falls_first, goes_falls, fault_ahead}
use Rattle.object_codegen.proofs.Leading.{fault_back}
use Rattle.object_codegen.proofs.Filling.{nothing_else, calling, Called, Blank, alter_leads, alter_falls}
use Rattle.refine_heap.specs.code_conventions.declared.faults.TheConstants.{COUNT, HEAP_FULL, LENGTH, NIL, NOT_EMPTY}
use Rattle.refine_heap.specs.code_conventions.declared.faults.TheConstants.{NOT_NIL}

-- what the middle costs, if the allocator makes t steps
abbrev pub mid_steps : Shape → (n orders t : ℕ) → ℕ
mid_steps shape n orders t = check_steps shape + (((move_steps shape + orders) +
    ((t + 7) + (move_steps shape + orders))) + (22 + zeros_steps shape n))

module _ (b : Bases) (p v : ℕ) where
  abbrev found : List ℕ → Memory
  found zs = mem b nothing_else (keeping v p 0) zs

  pub checks_pass : (shape : Shape) (zs : List ℕ) → IsLength v shape → p < length zs → slice_index zs p ≡ 0
      → Goes (new_checks shape) (check_steps shape) (found zs) (found zs)
  checks_pass (Fixed table fields) zs l h e = nil_goes b nothing_else (keeping v p 0)
      (by_place b nothing_else (keeping v p 0) 0) 4 zs h e
  checks_pass Lengthy zs l h e =
      let t : is_less 0 v ≡ true = above v l.0 l.1 in
      goes_seq (nil_goes b nothing_else (keeping v p 0) (by_place b nothing_else (keeping v p 0) 0) 4 zs h e)
      (goes_positive AMOUNT 13 _ t)

  pub checks_not_nil : (shape : Shape) (zs : List ℕ) → p < length zs → slice_index zs p ≢ 0
      → Traps (new_checks shape) 2 4 (found zs)
  checks_not_nil (Fixed table fields) zs h n = nil_traps b nothing_else (keeping v p 0)
      (by_place b nothing_else (keeping v p 0) 0) 4 zs h n
  checks_not_nil Lengthy zs h n = traps_first positive (nil_traps b nothing_else (keeping v p 0)
      (by_place b nothing_else (keeping v p 0) 0) 4 zs h n)

  pub checks_length : (zs : List ℕ) → is_less 0 v ≡ false → p < length zs → slice_index zs p ≡ 0
      → Traps (new_checks Lengthy) 5 13 (found zs)
  checks_length zs t h e = traps_then (nil_goes b nothing_else (keeping v p 0)
      (by_place b nothing_else (keeping v p 0) 0) 4 zs h e)
      (traps_positive AMOUNT 13 _ t)

  -- a block of zeros for so many cells
  pub record Room (x n : ℕ) (zs : List ℕ) : Type 0 where
    pub blank : Blank b p v x zs
    pub some : x ≢ 0
    pub within : x + HEADER_WORDS + n ≤ length zs
    pub ends : x + HEADER_WORDS + n < 2 ^ 31
    pub zero : (a : ℕ) → x + HEADER_WORDS ≤ a → a < x + HEADER_WORDS + n → slice_index zs a ≡ 0
    pub outside : (a : ℕ) → x + HEADER_WORDS ≤ a → a < x + HEADER_WORDS + n → p ≢ a

  module _ (im : Image) (shape : Shape) (is_shape : IsShape shape) (orders : List Symbol) (k : ℕ) where
    -- along a new, back a delete
    pub new_leads : (zs zt : List ℕ) (o x n lo hi : ℕ) → block_size_of v shape ≡ n → IsLength v shape → p < length zs
        → slice_index zs p ≡ 0 → Room x n zt
        → ((ys : List ℕ) → Goes orders k (calling b 0 0 p v shape ys) (calling b o 0 p v shape ys))
        → Called im b lo hi o x p v shape zs zt
        → Leads im (new_mid shape orders) (mid_steps shape n k lo) (mid_steps shape n k hi) (found zs)
        (found (filled_words p x (mark_of v shape) zt))
    new_leads zs zt o x n lo hi n_is is_length p_in nil r found_order alloc =
        let bl = r.blank in
        let i = r.within in
        let mark : ℕ = mark_of v shape in
        let z1 : List ℕ = slice_set zt x (mark_of v shape) in
        let z2 : List ℕ = slice_set (slice_set zt x (mark_of v shape)) (x + 1) 1 in
        let ys : List ℕ = filled_words p x (mark_of v shape) zt in
        let l1 : length (slice_set zt x (mark_of v shape)) ≡ length zt = length-set zt x (mark_of v shape) in
        let l2 : length (slice_set (slice_set zt x (mark_of v shape)) (x + 1) 1) ≡ length zt =
        length-set (slice_set zt x (mark_of v shape)) (x + 1) 1 ∙ l1 in
        let l3 : length (filled_words p x (mark_of v shape) zt) ≡ length zt = length-set z2 p x ∙ l2 in
        let p2 : p < length (slice_set (slice_set zt x (mark_of v shape)) (x + 1) 1) = let h = bl.p_in in omega arith in
        let x1 : x + 1 < length (slice_set zt x (mark_of v shape)) = omega arith in
        let source : slice_index (filled_words p x (mark_of v shape) zt) p ≡ x = get_or-set_same z2 p x 0 p2 in
        let mark_is : slice_index (filled_words p x (mark_of v shape) zt) x ≡ mark_of v shape =
        get_or-set_other z2 p x x 0 (λ q. bl.apart (sym q)) ∙ get_or-set_other z1 (x + 1) x 1 0 (λ q. omega arith)
        ∙ get_or-set_same zt x mark 0 (omega arith) in
        let count_is : slice_index (filled_words p x (mark_of v shape) zt) (x + 1) ≡ 1 =
        get_or-set_other z2 p (x + 1) x 0 (λ q. bl.p_apart (sym q)) ∙ get_or-set_same z1 (x + 1) 1 0 x1 in
        let zero : (a : ℕ) → x + HEADER_WORDS ≤ a → a < x + HEADER_WORDS + n
        → slice_index (filled_words p x (mark_of v shape) zt) a ≡ 0 =
        λ a h l. get_or-set_other z2 p a x 0 (λ q. r.outside a h l (sym q))
        ∙ get_or-set_other z1 (x + 1) a 1 0 (λ q. omega arith) ∙ get_or-set_other zt x a mark 0 (λ q. omega arith)
        ∙ r.zero a h l in
        let ends = r.ends in
        let passes = delete_passes b nothing_else v p x shape ys is_shape (let h = bl.p_in in omega arith) source
        (omega arith) r.some n n_is (omega arith) ends mark_is count_is zero in
        leads_seq (goes_leads im (checks_pass shape zs is_length p_in nil))
        (leads_seq (alter_leads b p v o x shape is_shape zt bl im lo hi k orders zs found_order alloc)
        (goes_leads im (goes_mirror passes)))

    -- ---- faults of a new

    pub new_not_nil : (zs : List ℕ) → p < length zs → slice_index zs p ≢ 0
        → Will im (new_mid shape orders) false (found zs) (TrapsWithin NOT_NIL 2)
    new_not_nil zs h n = fault_ahead (new_alter shape orders ++ mirror_cells (delete_checks shape))
        (checks_not_nil shape zs h n) im

    pub new_full : (zs : List ℕ) (o hi : ℕ) → IsLength v shape → p < length zs → slice_index zs p ≡ 0
        → Goes orders k (calling b 0 0 p v shape zs) (calling b o 0 p v shape zs)
        → Will im (Enter 0 false ∷ []) false (calling b o 0 p v shape zs) (TrapsWithin HEAP_FULL hi)
        → Will im (new_mid shape orders) false (found zs) (TrapsWithin HEAP_FULL
        (check_steps shape + ((move_steps shape + k) + hi)))
    new_full zs o hi is_length h e found_order full =
        goes_falls (checks_pass shape zs is_length h e) (falls_first (mirror_cells (delete_checks shape))
        (alter_falls b p v im o hi k shape orders zs found_order full))

    -- ---- faults of a delete

    module _ (zs : List ℕ) (x : ℕ) (p_in : p < length zs) (source : slice_index zs p ≡ x) where
      pub deleted_nil : x ≡ 0 → Will im (new_mid shape orders) true (found zs) (TrapsWithin NIL 4)
      deleted_nil e = fault_back (new_checks shape) (new_alter shape orders)
          (delete_nil b nothing_else v p x shape zs is_shape p_in source e) im

      pub deleted_other : x < 2 ^ 31 → x ≢ 0 → x < length zs → slice_index zs x ≢ mark_of v shape
          → Will im (new_mid shape orders) true (found zs) (TrapsWithin (mark_fault shape) 8)
      deleted_other small some h n = fault_back (new_checks shape) (new_alter shape orders)
          (delete_other b nothing_else v p x shape zs is_shape p_in source small some h n) im

      pub deleted_shared : x < 2 ^ 31 → x ≢ 0 → x + 1 < length zs → slice_index zs x ≡ mark_of v shape
          → slice_index zs (x + 1) ≢ 1 → Will im (new_mid shape orders) true (found zs) (TrapsWithin COUNT 15)
      deleted_shared small some h e n = fault_back (new_checks shape) (new_alter shape orders)
          (delete_shared b nothing_else v p x shape zs is_shape p_in source small some h e n) im

      pub deleted_full : x < 2 ^ 31 → x ≢ 0 → (n a : ℕ) → block_size_of v shape ≡ n → x + HEADER_WORDS + n ≤ length zs
          → x + HEADER_WORDS + n < 2 ^ 31 → slice_index zs x ≡ mark_of v shape → slice_index zs (x + 1) ≡ 1
          → x + HEADER_WORDS ≤ a
          → a < x + HEADER_WORDS + n → slice_index zs a ≢ 0
          → Will im (new_mid shape orders) true (found zs) (TrapsWithin NOT_EMPTY (27 + 13 * n))
      deleted_full small some n a n_is within ends e c lo hi nz =
          fault_back (new_checks shape) (new_alter shape orders)
          (delete_full b nothing_else v p x shape zs is_shape p_in source small some n n_is within ends a e c lo hi nz)
          im

  -- the length is not above 0
  pub new_length : (im : Image) (orders : List Symbol) (zs : List ℕ) → is_less 0 v ≡ false → p < length zs
      → slice_index zs p ≡ 0 → Will im (new_mid Lengthy orders) false (found zs) (TrapsWithin LENGTH 5)
  new_length im orders zs t h e = fault_ahead (new_alter Lengthy orders ++ mirror_cells (delete_checks Lengthy))
      (checks_length zs t h e) im
