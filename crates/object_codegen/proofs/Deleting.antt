-- What is tried before a delete.
use Rattle.std.proofs.Common.{◌≡◌, ◌≢◌, ℕ, zero, suc, ◌+◌, ◌*◌, ◌^◌, ◌<◌, ◌≤◌, ◌⊎◌, inl, inr, ⊎_elim, Bool, true, false}
use Rattle.std.proofs.Common.{List, [], ◌∷◌, ◌++◌, length, refl, sym, ap, ◌∙◌, subst, arith}
use Rattle.std.specs.Prelude.{slice_index, slice_set, bit_xor, nat_le, if◌then◌else◌}
use Rattle.std.specs.Int.Bits.{xor_zero_l}
use Rattle.std.proofs.lemmas.Bool.{cases_lt, cases_eq}
use Rattle.refine_heap.specs.code_conventions.declared.memory.TheConstants.{HEADER_WORDS}
use Rattle.refine_heap.specs.rpp_words.Words.{is_less, sum_of}
use Rattle.refine_heap.proofs.rpp_words_laws.Laws.{xor-twice}
use Rattle.refine_heap.specs.pisa_isa.Machine.{Memory}
use Rattle.refine_heap.specs.code_conventions.declared.registers.TheConstants.{AMOUNT, CONTENT, FIRST_WORD, OUTCOME, PLACE}
use Rattle.refine_heap.specs.code_conventions.declared.registers.TheConstants.{RIGHT_TRUTH}
use Rattle.refine_heap.specs.paired_code.Layout.{mirror_cells}
use Rattle.expr_uncompute.specs.register_expressions.Code.{exch, addi, xori}
use Rattle.expr_uncompute.specs.register_expressions.Number.{Bases}
use Rattle.expr_uncompute.proofs.register_expressions_laws.Comparing.{above, not_above}
use Rattle.expr_uncompute.proofs.register_expressions_laws.Goes.{Goes, Traps, nothing, goes_cons, goes_seq, goes_around, goes_mirror}
use Rattle.expr_uncompute.proofs.register_expressions_laws.Goes.{goes_to, goes_set, goes_xor_to, goes_add, goes_addi, traps_mid, traps_then}
use Rattle.expr_uncompute.proofs.register_expressions_laws.Goes.{traps_first, traps_more}
use Rattle.expr_uncompute.proofs.register_expressions_laws.Scratch.{keeping, mem}
use Rattle.object_codegen.specs.declared.news.TheConstants.{FEW_FIELDS}
use Rattle.object_codegen.specs.declared.shape.Shape.{Shape}
use Rattle.object_codegen.specs.declared.shape.Shape.TheVariants.{Fixed, Lengthy}
use Rattle.object_codegen.specs.Code.{mark_cell, mark_fault, mark_of, block_size_of, grow_cell, load_cells, some_reference}
use Rattle.object_codegen.specs.Code.{same_mark, single, ends_cells, walked_cells, field_cells, fields_cells}
use Rattle.object_codegen.specs.Code.{zeros_cells, delete_checks}
use Rattle.object_codegen.specs.News.{IsShape, zeros_steps}
use Rattle.object_codegen.proofs.Touching.{at, by_place, by_first, opened, load_goes, nil_goes, nil_traps, goes_zero}
use Rattle.object_codegen.proofs.Touching.{traps_zero, goes_positive, traps_positive}
use Rattle.object_codegen.proofs.Walking.{walk_goes, walk_traps}

xor_self : (x : ℕ) → bit_xor x x ≡ 0
xor_self x = ap (λ z. bit_xor z x) (sym (xor_zero_l x)) ∙ xor-twice 0 x

xor_other : (x y : ℕ) → x ≢ y → bit_xor x y ≢ 0
xor_other x y n z = n (sym (xor-twice x y) ∙ ap (λ w. bit_xor w y) z ∙ xor_zero_l y)

module _ (b : Bases) (f : ℕ → ℕ) (v p x : ℕ) (shape : Shape) (zs : List ℕ) (is_shape : IsShape shape)
    (p_in : p < length zs) (source : slice_index zs p ≡ x) where
  abbrev here : (o c w : ℕ) → List ℕ → Memory
  here o c w ys = at b f (keeping v p 0) o c w ys

  load : Goes (load_cells PLACE) 3 (here 0 0 0 zs) (here 0 0 x zs)
  load = load_goes b f (keeping v p 0) (by_place b f (keeping v p 0)) zs x 0 x p_in source (xor_zero_l x)

  -- ---- 5

  pub delete_nil : x ≡ 0 → Traps (delete_checks shape) 4 5 (here 0 0 0 zs)
  delete_nil e = traps_mid load (traps_first (same_mark shape ++ (single ++ zeros_cells shape))
      (traps_positive FIRST_WORD 5 _ (ap (is_less 0) e ∙ not_above)))

  module _ (small : x < 2 ^ 31) (some : x ≢ 0) where
    some_passes : Goes some_reference 2 (here 0 0 x zs) (here 0 0 x zs)
    some_passes = goes_positive FIRST_WORD 5 _ (above x small some)

    -- ---- 11 and 12

    marks : (s : Shape) → IsShape s → (ys : List ℕ) (y w : ℕ) → bit_xor y (mark_of v s) ≡ w
        → Goes (mark_cell AMOUNT s ∷ []) 1 (here 0 y x ys) (here 0 w x ys)
    marks (Fixed table fields) h ys y w e = goes_xor_to _ (λ z. here 0 z x ys) y table w e refl h.0 (λ z. refl)
        (λ z. refl)
    marks Lengthy h ys y w e = goes_xor_to _ (λ z. here 0 z x ys) y v w e refl (omega arith) (λ z. refl) (λ z. refl)

    mark_row : (y w : ℕ) → x < length zs → slice_index zs x ≡ y → bit_xor y (mark_of v shape) ≡ w
        → Goes (exch CONTENT FIRST_WORD ∷ mark_cell AMOUNT shape ∷ []) 2 (here 0 0 x zs) (here 0 w x (slice_set zs x 0))
    mark_row y w h e k = goes_cons (opened b f (keeping v p 0) (by_first b f (keeping v p 0) x) zs y h e)
        (marks shape is_shape (slice_set zs x 0) y w k)

    mark_passes : x < length zs → slice_index zs x ≡ mark_of v shape
        → Goes (same_mark shape) 6 (here 0 0 x zs) (here 0 0 x zs)
    mark_passes h e =
        let row = mark_row (mark_of v shape) 0 h e (xor_self (mark_of v shape)) in
        goes_around row (goes_zero CONTENT (mark_fault shape) _ refl) row

    pub delete_other : x < length zs → slice_index zs x ≢ mark_of v shape
        → Traps (delete_checks shape) 8 (mark_fault shape) (here 0 0 0 zs)
    delete_other h n =
        traps_mid load (traps_then some_passes (traps_first (single ++ zeros_cells shape)
        (traps_mid (mark_row (slice_index zs x) _ h refl refl)
        (traps_zero CONTENT (mark_fault shape) _ (xor_other (slice_index zs x) (mark_of v shape) n)))))

    -- ---- 6

    single_row : (y w : ℕ) → x + 1 < length zs → slice_index zs (x + 1) ≡ y → bit_xor y 1 ≡ w
        → Goes (addi FIRST_WORD 1 ∷ exch CONTENT FIRST_WORD ∷ xori CONTENT 1 ∷ []) 3 (here 0 0 x zs)
        (here 0 w (x + 1) (slice_set zs (x + 1) 0))
    single_row y w h e k =
        goes_cons (goes_addi _ (λ z. here 0 0 z zs) x 1 (omega arith) refl (omega arith) (λ z. refl) (λ z. refl))
        (goes_cons (opened b f (keeping v p 0) (by_first b f (keeping v p 0) (x + 1)) zs y h e)
        (goes_xor_to _ (λ z. here 0 z (x + 1) (slice_set zs (x + 1) 0)) y 1 w k refl (omega arith) (λ z. refl)
        (λ z. refl)))

    single_passes : x + 1 < length zs → slice_index zs (x + 1) ≡ 1 → Goes single 8 (here 0 0 x zs) (here 0 0 x zs)
    single_passes h e = let row = single_row 1 0 h e (xor_self 1) in goes_around row (goes_zero CONTENT 6 _ refl) row

    pub delete_shared : x + 1 < length zs → slice_index zs x ≡ mark_of v shape → slice_index zs (x + 1) ≢ 1
        → Traps (delete_checks shape) 15 6 (here 0 0 0 zs)
    delete_shared h e n =
        traps_mid load (traps_then some_passes (traps_then (mark_passes (omega arith) e)
        (traps_first (zeros_cells shape) (traps_mid (single_row (slice_index zs (x + 1)) _ h refl refl)
        (traps_zero CONTENT 6 _ (xor_other (slice_index zs (x + 1)) 1 n))))))

    -- ---- 7

    module _ (n : ℕ) (n_is : block_size_of v shape ≡ n) (within : x + HEADER_WORDS + n ≤ length zs)
        (ends : x + HEADER_WORDS + n < 2 ^ 31) where
      -- the end and the word
      abbrev walked : (l r o w : ℕ) → Memory
      walked l r o w = mem b f (record (keeping v p 0) { left = l; right = r; outcome = o; content = 0; first = w }) zs

      grows : (s : Shape) → IsShape s → block_size_of v s ≡ n → (l : ℕ)
          → Goes (grow_cell RIGHT_TRUTH s ∷ []) 1 (walked l (x + HEADER_WORDS) 0 (x + HEADER_WORDS))
          (walked l (x + HEADER_WORDS + n) 0 (x + HEADER_WORDS))
      grows (Fixed table fields) h e l = goes_to refl refl
          (ap (λ z. walked l (x + HEADER_WORDS + z) 0 (x + HEADER_WORDS)) e)
          (goes_addi _ (λ z. walked l z 0 (x + HEADER_WORDS)) (x + HEADER_WORDS) fields (let k = e in omega arith) refl
          h.1 (λ z. refl)
          (λ z. refl))
      grows Lengthy h e l =
          let s : sum_of (x + HEADER_WORDS) v ≡ x + HEADER_WORDS + n = let k = e in omega arith in
          goes_to refl refl (ap (λ z. walked l z 0 (x + HEADER_WORDS)) s)
          (goes_add _ (λ z. walked l z 0 (x + HEADER_WORDS)) (x + HEADER_WORDS) v (omega arith)
          (let k = e in omega arith) refl
          (omega arith) (λ z. refl) (λ z. refl))

      steps_on : (s : Shape) → IsShape s → block_size_of v s ≡ n → (l r : ℕ)
          → Goes (grow_cell FIRST_WORD s ∷ []) 1 (walked l r 0 (x + HEADER_WORDS)) (walked l r 0 (x + HEADER_WORDS + n))
      steps_on (Fixed table fields) h e l r = goes_to refl refl (ap (λ z. walked l r 0 (x + HEADER_WORDS + z)) e)
          (goes_addi _ (λ z. walked l r 0 z) (x + HEADER_WORDS) fields (let k = e in omega arith) refl h.1 (λ z. refl)
          (λ z. refl))
      steps_on Lengthy h e l r =
          let s : sum_of (x + HEADER_WORDS) v ≡ x + HEADER_WORDS + n = let k = e in omega arith in
          goes_to refl refl (ap (λ z. walked l r 0 z) s) (goes_add _ (λ z. walked l r 0 z) (x + HEADER_WORDS) v
          (omega arith)
          (let k = e in omega arith) refl (omega arith) (λ z. refl) (λ z. refl))

      ends_go : (s : Shape) → IsShape s → block_size_of v s ≡ n → Goes (ends_cells s) 4 (here 0 0 x zs)
          (walked (x + HEADER_WORDS) (x + HEADER_WORDS + n) 0 (x + HEADER_WORDS))
      ends_go s h e =
          goes_cons (goes_addi _ (λ z. walked 0 0 0 z) x HEADER_WORDS (omega arith) refl (omega arith) (λ z. refl)
          (λ z. refl))
          (goes_cons (goes_set _ (λ z. walked z 0 0 (x + HEADER_WORDS)) (x + HEADER_WORDS) refl (omega arith)
          (λ z. refl) (λ z. refl))
          (goes_cons (goes_set _ (λ z. walked (x + HEADER_WORDS) z 0 (x + HEADER_WORDS)) (x + HEADER_WORDS) refl
          (omega arith) (λ z. refl) (λ z. refl))
          (grows s h e (x + HEADER_WORDS))))

      flag_goes : (w : ℕ) → Goes (xori OUTCOME 1 ∷ []) 1 (walked (x + HEADER_WORDS) (x + HEADER_WORDS + n) 0 w)
          (walked (x + HEADER_WORDS) (x + HEADER_WORDS + n) 1 w)
      flag_goes w = goes_set _ (λ z. walked (x + HEADER_WORDS) (x + HEADER_WORDS + n) z w) 1 refl (omega arith)
          (λ z. refl) (λ z. refl)

      -- all cells are 0
      abbrev AreZero : ℕ → Type 0
      AreZero k = (a : ℕ) → x + HEADER_WORDS ≤ a → a < x + HEADER_WORDS + k → slice_index zs a ≡ 0

      walked_pass : (s : Shape) → IsShape s → block_size_of v s ≡ n → AreZero n
          → Goes (walked_cells s) (19 + 13 * n) (here 0 0 x zs) (here 0 0 x zs)
      walked_pass s h e z =
          goes_to (omega arith) refl refl (goes_around (ends_go s h e)
          (goes_seq (goes_around (flag_goes (x + HEADER_WORDS))
          (walk_goes b f v p (x + HEADER_WORDS) (x + HEADER_WORDS + n) zs (omega arith) ends
          within z n refl) (flag_goes (x + HEADER_WORDS + n))) (goes_mirror
          (steps_on s h e (x + HEADER_WORDS) (x + HEADER_WORDS + n)))) (ends_go s h e))

      walked_traps : (s : Shape) → IsShape s → block_size_of v s ≡ n → (j : ℕ) → x + HEADER_WORDS ≤ j
          → j < x + HEADER_WORDS + n → slice_index zs j ≢ 0 → Traps (walked_cells s) (8 + 13 * n) 7 (here 0 0 x zs)
      walked_traps s h e j lo hi nz =
          traps_more (omega arith) (traps_mid (ends_go s h e)
          (traps_first (mirror_cells (grow_cell FIRST_WORD s ∷ []))
          (traps_mid (flag_goes (x + HEADER_WORDS)) (walk_traps b f v p (x + HEADER_WORDS) (x + HEADER_WORDS + n) zs
          (omega arith) ends within j n refl lo hi nz))))

      -- one field after the other
      field_up : (k : ℕ) → k < n → Goes (addi FIRST_WORD (HEADER_WORDS + k) ∷ []) 1 (here 0 0 x zs)
          (here 0 0 (x + (HEADER_WORDS + k)) zs)
      field_up k l = goes_addi _ (λ z. here 0 0 z zs) x (HEADER_WORDS + k) (omega arith) refl (omega arith) (λ z. refl)
          (λ z. refl)

      field_pass : (k : ℕ) → k < n → slice_index zs (x + (HEADER_WORDS + k)) ≡ 0
          → Goes (field_cells k) 6 (here 0 0 x zs) (here 0 0 x zs)
      field_pass k l e = goes_around (field_up k l)
          (nil_goes b f (keeping v p 0) (by_first b f (keeping v p 0) (x + (HEADER_WORDS + k))) 7 zs (omega arith) e)
          (field_up k l)

      field_traps : (k : ℕ) → k < n → slice_index zs (x + (HEADER_WORDS + k)) ≢ 0
          → Traps (field_cells k) 3 7 (here 0 0 x zs)
      field_traps k l e = traps_mid (field_up k l)
          (nil_traps b f (keeping v p 0) (by_first b f (keeping v p 0) (x + (HEADER_WORDS + k))) 7 zs (omega arith) e)

      fields_pass : (k : ℕ) → k ≤ n → AreZero k → Goes (fields_cells k) (6 * k) (here 0 0 x zs) (here 0 0 x zs)
      fields_pass zero l z = nothing (here 0 0 x zs)
      fields_pass (suc k) l z = goes_to (omega arith) refl refl
          (goes_seq (fields_pass k (omega arith) (λ a lo hi. z a lo (omega arith)))
          (field_pass k (omega arith) (z (x + (HEADER_WORDS + k)) (omega arith) (omega arith))))

      -- so many fields are 0, or one of them is not
      one_more : (k : ℕ) → AreZero k → slice_index zs (x + (HEADER_WORDS + k)) ≡ 0 → AreZero (suc k)
      one_more k z e a lo hi = ⊎_elim (λ l. z a lo l)
          (λ g. let same : x + (HEADER_WORDS + k) ≡ a = omega arith in subst (λ i. slice_index zs i ≡ 0) same e)
          (cases_lt a (x + HEADER_WORDS + k))

      fields_tried : (k : ℕ) → k ≤ n → AreZero k ⊎ Traps (fields_cells k) (6 * k) 7 (here 0 0 x zs)
      fields_tried zero l = inl (λ a lo hi. absurd (omega arith))
      fields_tried (suc k) l = ⊎_elim (λ z. last z) (λ t. inr
          (traps_more (omega arith) (traps_first (field_cells k) t)))
          (fields_tried k (omega arith))
        where
          last : AreZero k → AreZero (suc k) ⊎ Traps (fields_cells (suc k)) (6 * suc k) 7 (here 0 0 x zs)
          last z = ⊎_elim (λ e. inl (one_more k z e))
              (λ e. inr (traps_more (omega arith) (traps_then (fields_pass k (omega arith) z)
              (field_traps k (omega arith) e))))
              (cases_eq (slice_index zs (x + (HEADER_WORDS + k))) 0)

      fields_traps : (j : ℕ) → x + HEADER_WORDS ≤ j → j < x + HEADER_WORDS + n → slice_index zs j ≢ 0
          → Traps (fields_cells n) (6 * n) 7 (here 0 0 x zs)
      fields_traps j lo hi nz = ⊎_elim (λ z. absurd (nz (z j lo hi))) (λ t. t) (fields_tried n (omega arith))

      -- by the shape
      zeros_pass : (s : Shape) → IsShape s → block_size_of v s ≡ n → AreZero n
          → Goes (zeros_cells s) (zeros_steps s n) (here 0 0 x zs) (here 0 0 x zs)
      zeros_pass (Fixed table fields) h e z = by_count (nat_le fields FEW_FIELDS)
        where
          by_count : (t : Bool) → Goes (if t then fields_cells fields else walked_cells (Fixed table fields))
              (if t then 6 * n else 19 + 13 * n) (here 0 0 x zs) (here 0 0 x zs)
          by_count true = subst (λ k. Goes (fields_cells k) (6 * n) (here 0 0 x zs) (here 0 0 x zs)) (sym e)
              (fields_pass n (omega arith) z)
          by_count false = walked_pass (Fixed table fields) h e z
      zeros_pass Lengthy h e z = walked_pass Lengthy h e z

      zeros_trap : (s : Shape) → IsShape s → block_size_of v s ≡ n → (j : ℕ) → x + HEADER_WORDS ≤ j
          → j < x + HEADER_WORDS + n → slice_index zs j ≢ 0 → Traps (zeros_cells s) (8 + 13 * n) 7 (here 0 0 x zs)
      zeros_trap (Fixed table fields) h e j lo hi nz = by_count (nat_le fields FEW_FIELDS)
        where
          by_count : (t : Bool) → Traps (if t then fields_cells fields else walked_cells (Fixed table fields))
              (8 + 13 * n) 7 (here 0 0 x zs)
          by_count true = subst (λ k. Traps (fields_cells k) (8 + 13 * n) 7 (here 0 0 x zs)) (sym e)
              (traps_more (omega arith) (fields_traps j lo hi nz))
          by_count false = walked_traps (Fixed table fields) h e j lo hi nz
      zeros_trap Lengthy h e j lo hi nz = walked_traps Lengthy h e j lo hi nz

      -- all that is tried passes
      pub delete_passes : slice_index zs x ≡ mark_of v shape → slice_index zs (x + 1) ≡ 1 → AreZero n
          → Goes (delete_checks shape) (22 + zeros_steps shape n) (here 0 0 0 zs) (here 0 0 0 zs)
      delete_passes e c z =
          goes_to (omega arith) refl refl (goes_around load (goes_seq some_passes
          (goes_seq (mark_passes (omega arith) e) (goes_seq (single_passes (omega arith) c)
          (zeros_pass shape is_shape n_is z))))
          load)

      pub delete_full : (j : ℕ) → slice_index zs x ≡ mark_of v shape → slice_index zs (x + 1) ≡ 1 → x + HEADER_WORDS ≤ j
          → j < x + HEADER_WORDS + n → slice_index zs j ≢ 0 → Traps (delete_checks shape) (27 + 13 * n) 7
          (here 0 0 0 zs)
      delete_full j e c lo hi nz =
          traps_more (omega arith) (traps_mid load (traps_then some_passes
          (traps_then (mark_passes (omega arith) e) (traps_then (single_passes (omega arith) c)
          (zeros_trap shape is_shape n_is j lo hi nz)))))
