-- A block is taken and filled, and the place refers to it; back, it is emptied and given back.
use Rattle.std.proofs.Common.{◌≡◌, ◌≢◌, ℕ, ◌+◌, ◌^◌, ◌<◌, ◌≤◌, false, List, [], ◌∷◌, length, length-set, refl, sym, ap}
use Rattle.std.proofs.Common.{◌∙◌, arith}
use Rattle.std.specs.Prelude.{slice_index, slice_set, bit_xor}
use Rattle.std.specs.Int.Bits.{xor_zero_l}
use Rattle.std.proofs.lemmas.List.{get_or-set_other}
use Rattle.refine_heap.proofs.rpp_words_laws.Laws.{xor-twice}
use Rattle.refine_heap.specs.pisa_isa.Machine.{Memory}
use Rattle.refine_heap.specs.code_conventions.declared.registers.TheConstants.{AT_LENGTH}
use Rattle.refine_heap.specs.paired_code.declared.part.Symbol.{Symbol}
use Rattle.refine_heap.specs.paired_code.declared.part.Symbol.TheVariants.{Enter}
use Rattle.refine_heap.specs.paired_code.Machine.{Image}
use Rattle.refine_heap.specs.paired_code.Pieces.{Will}
use Rattle.expr_uncompute.specs.register_expressions.Code.{addi}
use Rattle.expr_uncompute.specs.register_expressions.Number.{Bases}
use Rattle.expr_uncompute.specs.Found.{TrapsWithin}
use Rattle.expr_uncompute.proofs.register_expressions_laws.Goes.{Goes, goes_cons, goes_seq, goes_around, goes_to}
use Rattle.expr_uncompute.proofs.register_expressions_laws.Goes.{goes_set, goes_xor_to}
use Rattle.expr_uncompute.proofs.register_expressions_laws.Goes.{goes_exch, goes_addi}
use Rattle.expr_uncompute.proofs.register_expressions_laws.Scratch.{keeping, mem}
use Rattle.object_codegen.specs.declared.shape.Shape.{Shape}
use Rattle.object_codegen.specs.declared.shape.Shape.TheVariants.{Fixed, Lengthy}
use Rattle.object_codegen.specs.Code.{mark_cell, mark_of, block, move_cells, fill_cells, new_alter}
use Rattle.object_codegen.specs.News
use Rattle.object_codegen.specs.News.{filled_words, IsShape, move_steps, left_length, moved_length}
use Rattle.object_codegen.proofs.Leading.{Leads, goes_leads, leads_seq, leads_around, falls_first, goes_falls}
use Rattle.refine_heap.specs.code_conventions.declared.faults.TheConstants.{HEAP_FULL}

xor_self : (x : ℕ) → bit_xor x x ≡ 0
xor_self x = ap (λ z. bit_xor z x) (sym (xor_zero_l x)) ∙ xor-twice 0 x

-- the registers while a block is made
abbrev pub room : Bases → (c u w o k p v a q : ℕ) → List ℕ → Memory
room b c u w o k p v a q cells = News.room b.object b.frame c u w o k p v a q cells

-- the registers of which code of expressions says nothing
abbrev pub nothing_else : ℕ → ℕ
nothing_else r = 0

-- the registers of the allocator's call
abbrev pub calling : Bases → (o k p v : ℕ) → Shape → List ℕ → Memory
calling b o k p v shape cells = News.calling b.object b.frame o k p v shape cells

-- the allocator, called with this order, takes the block x and gives it back
pub record Called (im : Image) (b : Bases) (lo hi o x p v : ℕ) (shape : Shape) (zs zt : List ℕ) : Type 0 where
  pub leads : Leads im (Enter 0 false ∷ []) lo hi (calling b o 0 p v shape zs) (calling b o x p v shape zt)

module _ (b : Bases) (p v : ℕ) where
  moves_go : (shape : Shape) (zs : List ℕ) → Goes (move_cells shape) (move_steps shape)
      (mem b nothing_else (keeping v p 0) zs) (calling b 0 0 p v shape zs)
  moves_go (Fixed table fields) zs =
      goes_cons (goes_set _ (λ z. room b 0 0 0 0 0 z 0 v p zs) p refl (omega arith) (λ z. refl) (λ z. refl))
      (goes_xor_to _ (λ z. room b 0 0 0 0 0 p 0 v z zs) p p 0 (xor_self p) refl (omega arith) (λ z. refl)
      (λ z. refl))
  moves_go Lengthy zs =
      goes_cons (goes_set _ (λ z. room b 0 0 0 0 0 z 0 v p zs) p refl (omega arith) (λ z. refl) (λ z. refl))
      (goes_cons (goes_xor_to _ (λ z. room b 0 0 0 0 0 p 0 v z zs) p p 0 (xor_self p) refl (omega arith) (λ z. refl)
      (λ z. refl))
      (goes_cons (goes_set _ (λ z. room b 0 0 0 0 0 p z v 0 zs) v refl (omega arith) (λ z. refl) (λ z. refl))
      (goes_xor_to _ (λ z. room b 0 0 0 0 0 p v z 0 zs) v v 0 (xor_self v) refl (omega arith) (λ z. refl)
      (λ z. refl))))

  -- a block of zeros, and a place that is nil
  pub record Blank (x : ℕ) (zs : List ℕ) : Type 0 where
    pub x_in : x + 1 < length zs
    pub p_in : p < length zs
    pub small : length zs ≤ 2 ^ 31
    pub first : slice_index zs x ≡ 0
    pub count : slice_index zs (x + 1) ≡ 0
    pub nil : slice_index zs p ≡ 0
    pub apart : p ≢ x
    pub p_apart : p ≢ x + 1

  module _ (o x : ℕ) (shape : Shape) (is_shape : IsShape shape) (zt : List ℕ) (blank : Blank x zt) where
    abbrev filling : (c k : ℕ) → List ℕ → Memory
    filling c k ys = room b c 0 0 o k p (moved_length v shape) (left_length v shape) 0 ys

    fill_mark : (s : Shape) → IsShape s → Goes (mark_cell AT_LENGTH s ∷ []) 1
        (room b 0 0 0 o x p (moved_length v s) (left_length v s) 0 zt)
        (room b (mark_of v s) 0 0 o x p (moved_length v s) (left_length v s) 0 zt)
    fill_mark (Fixed table fields) h = goes_set _ (λ z. room b z 0 0 o x p 0 v 0 zt) table refl h.0 (λ z. refl)
        (λ z. refl)
    fill_mark Lengthy h = goes_set _ (λ z. room b z 0 0 o x p v 0 0 zt) v refl (omega arith) (λ z. refl) (λ z. refl)

    fill_goes : Goes (fill_cells shape) 7 (filling 0 x zt) (filling 0 0 (filled_words p x (mark_of v shape) zt))
    fill_goes =
        let i = blank.x_in in
        let small = blank.small in
        let mark : ℕ = mark_of v shape in
        let l1 : length (slice_set zt x (mark_of v shape)) ≡ length zt = length-set zt x (mark_of v shape) in
        let l2 : length (slice_set (slice_set zt x (mark_of v shape)) (x + 1) 1) ≡ length zt =
        length-set (slice_set zt x (mark_of v shape)) (x + 1) 1 ∙ l1 in
        let count_is : slice_index (slice_set zt x (mark_of v shape)) (x + 1) ≡ 0 =
        get_or-set_other zt x (x + 1) mark 0 (λ e. omega arith) ∙ blank.count in
        let nil_is : slice_index (slice_set (slice_set zt x (mark_of v shape)) (x + 1) 1) p ≡ 0 =
        get_or-set_other (slice_set zt x (mark_of v shape)) (x + 1) p 1 0 blank.p_apart
        ∙ get_or-set_other zt x p mark 0 blank.apart ∙ blank.nil in
        let up : (ys : List ℕ) → Goes (addi block 1 ∷ []) 1 (filling 0 x ys) (filling 0 (x + 1) ys) =
        λ ys. goes_addi _ (λ z. filling 0 z ys) x 1 (omega arith) refl (omega arith) (λ z. refl) (λ z. refl) in
        goes_cons (fill_mark shape is_shape)
        (goes_cons (goes_to refl refl (ap (λ z. filling z x (slice_set zt x (mark_of v shape))) blank.first)
        (goes_exch _ (λ z zs. filling z x zs) x mark zt (omega arith) refl (omega arith) (λ z zs. refl)
        (λ z zs. refl)))
        (goes_seq (goes_around (up (slice_set zt x (mark_of v shape)))
        (goes_cons (goes_set _ (λ z. filling z (x + 1) (slice_set zt x (mark_of v shape))) 1 refl (omega arith)
        (λ z. refl) (λ z. refl))
        (goes_to refl refl (ap (λ z. filling z (x + 1) (slice_set (slice_set zt x (mark_of v shape)) (x + 1) 1))
        count_is) (goes_exch _ (λ z zs. filling z (x + 1) zs) (x + 1) 1 (slice_set zt x (mark_of v shape))
        (omega arith) refl (omega arith) (λ z zs. refl) (λ z zs. refl))))
        (up (slice_set (slice_set zt x (mark_of v shape)) (x + 1) 1)))
        (goes_to refl refl (ap (λ z. filling 0 z (filled_words p x (mark_of v shape) zt)) nil_is)
        (goes_exch _ (λ z zs. filling 0 z zs) p x (slice_set (slice_set zt x (mark_of v shape)) (x + 1) 1)
        (let h = blank.p_in in omega arith) refl (omega arith) (λ z zs. refl) (λ z zs. refl)))))

    -- the whole change, if the order is found in n steps
    pub alter_leads : (im : Image) (lo hi n : ℕ) (orders : List Symbol) (zs : List ℕ)
        → ((ys : List ℕ) → Goes orders n (calling b 0 0 p v shape ys) (calling b o 0 p v shape ys))
        → Called im b lo hi o x p v shape zs zt
        → Leads im (new_alter shape orders) ((move_steps shape + n) + ((lo + 7) + (move_steps shape + n)))
        ((move_steps shape + n) + ((hi + 7) + (move_steps shape + n))) (mem b nothing_else (keeping v p 0) zs)
        (mem b nothing_else (keeping v p 0) (filled_words p x (mark_of v shape) zt))
    alter_leads im lo hi n orders zs found alloc =
        leads_around (goes_seq (moves_go shape zs) (found zs)) (leads_seq alloc.leads (goes_leads im fill_goes))
        (goes_seq (moves_go shape (filled_words p x (mark_of v shape) zt))
        (found (filled_words p x (mark_of v shape) zt)))

  -- or there is no block
  pub alter_falls : (im : Image) (o hi n : ℕ) (shape : Shape) (orders : List Symbol) (zs : List ℕ)
      → Goes orders n (calling b 0 0 p v shape zs) (calling b o 0 p v shape zs)
      → Will im (Enter 0 false ∷ []) false (calling b o 0 p v shape zs) (TrapsWithin HEAP_FULL hi)
      → Will im (new_alter shape orders) false (mem b nothing_else (keeping v p 0) zs)
      (TrapsWithin HEAP_FULL ((move_steps shape + n) + hi))
  alter_falls im o hi n shape orders zs found full = goes_falls (goes_seq (moves_go shape zs) found)
      (falls_first _ (falls_first (fill_cells shape) full))
