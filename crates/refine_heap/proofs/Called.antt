-- Calls of the allocator over the memory that represents a store.
use Rattle.std.proofs.Common.{◌≡◌, ◌∙◌, ℕ, ◌+◌, ◌-◌, ◌^◌, ◌<◌, ◌≤◌, Bool, true, false, List, [], ◌∷◌, length, refl, sym}
use Rattle.std.proofs.Common.{ap, subst, arith, get_or, replicate, Some, None}
use Rattle.std.specs.List.{All}
use Rattle.std.proofs.lemmas.List.{length-replicate, get_or-replicate}
use Rattle.roopl_semantics.specs.code_conventions.declared.registers.TheConstants.{BLOCK}
use Rattle.buddy_pisa.specs.rpp_words.Words.{IsWord}
use Rattle.buddy_pisa.specs.rpp_words.declared.input.Limits.{Limits}
use Rattle.roopl_semantics.specs.rpp_tree.Tree.{Source}
use Rattle.buddy_pisa.specs.pisa_isa.Loaded.{heap_base}
use Rattle.buddy_pisa.specs.pisa_isa.Machine.{Memory}
use Rattle.buddy_pisa.specs.paired_code.declared.part.Symbol.{Symbol}
use Rattle.buddy_pisa.specs.paired_code.declared.part.Symbol.TheVariants.{Enter}
use Rattle.buddy_pisa.specs.paired_code.Machine.{Image, memory_with_reg}
use Rattle.buddy_pisa.specs.paired_code.Layout.{bool_xor}
use Rattle.buddy_pisa.specs.paired_code.Pieces.{Outcome, Done, Will}
use Rattle.buddy_pisa.proofs.paired_code_laws.Laws.{will_more}
use Rattle.buddy_pisa.specs.buddy_book.Book.{Book, take, give_back}
use Rattle.buddy_pisa.specs.buddy_book.Shown.{TakenBlocks, Shown, order_in, weight, cover}
use Rattle.buddy_pisa.specs.buddy_book.Place.{Placing}
use Rattle.buddy_pisa.proofs.buddy_book_laws.Orders.{give_gave}
use Rattle.buddy_pisa.proofs.buddy_book_laws.Kept.{cover-additive, given_back}
use Rattle.roopl_semantics.specs.Store.{Store}
use Rattle.roopl_semantics.specs.Layout.{with_book, heap_words, laid}
use Rattle.buddy_pisa.specs.Held.{AllZero, HoldsBook, ChangesList}
use Rattle.buddy_pisa.specs.Promise.{Enters, AllocatorAsks}
use Rattle.buddy_pisa.specs.Called.{AllocatorTook, took, AllocatorGave, gave, Lacked, lacked, AllocatorCallLaw}
use Rattle.buddy_pisa.proofs.Calling.{calls_law}
use Rattle.refine_heap.specs.Laid.{StandApart}
use Rattle.refine_heap.specs.Calls.{LeavesIn, leaves_in, TrapsFull, traps_full, Calls, LaidCallsLaw}
use Rattle.refine_heap.proofs.Overlays.{FitLists, book_other}
use Rattle.refine_heap.proofs.Whole.{objects_beside, counted, layout_law, laid_heap}
use Rattle.refine_heap.proofs.Left.{taken_law, given_law}
use Rattle.buddy_pisa.proofs.buddy_book_laws.Table.{taken_weight-without}

-- the free lists of a placing, and its allocated blocks
abbrev book_of : Limits → List ℕ → Placing → TakenBlocks → Shown
book_of limits statics placing taken = record {
  h = limits.heap;
  base = heap_base limits.heap (length statics);
  free = placing.book;
  taken = taken;
}

module _ (im : Image) (r top : ℕ) (body : List Symbol) (m : Memory) (program : Source) (limits : Limits)
    (statics : List ℕ) (store : Store) (placing : Placing) (taken : TakenBlocks) (stack : List ℕ) (kind d : Bool)
    (k : ℕ) (c : Calls im r top body m program limits statics store placing taken stack) (from : 1 ≤ k) where
  abbrev h : ℕ
  h = limits.heap

  abbrev base : ℕ
  base = heap_base h (length statics)

  abbrev before : List ℕ
  before = laid program limits statics store placing stack

  abbrev book : Shown
  book = book_of limits statics placing taken

  holds : HoldsBook base h placing.book m.cells
  holds = subst (λ z. HoldsBook base h placing.book z) (sym c.cells)
      (layout_law program limits statics store placing taken stack c.placed (subst (All IsWord) c.cells c.words))

  asks : (address : ℕ) → Enters m k address → AllocatorAsks m book k address
  asks address e = record { from = from; enters = e; kept = c.placed.kept; holds = holds }

  law : AllocatorCallLaw im r top body m
  law = calls_law im r top body m c.routine

  take_ends : (block : ℕ) (later : Book) → take placing.book k ≡ Some (block, later) → (o : Outcome)
      → AllocatorTook m book k block later o → LeavesIn (record (memory_with_reg m BLOCK (base + block))
      { cells = laid program limits statics store (record { book = later; blocks = placing.blocks }) stack }) h o
  take_ends block later t o (took cells steps some few held zero changes) =
      let is = taken_law program limits statics store placing taken stack k block later cells c.placed from t held zero
      (subst (λ z. ChangesList base h k placing.book z cells) c.cells changes) in
      subst (λ z. LeavesIn (record (memory_with_reg m BLOCK (base + block)) { cells = z }) h
      (Done (record (memory_with_reg m BLOCK (base + block)) { cells = cells }) steps)) is (leaves_in steps some few)

  laid_takes : (block : ℕ) (later : Book) → bool_xor kind d ≡ false → Enters m k 0
      → take placing.book k ≡ Some (block, later) → Will im (Enter r kind ∷ []) d m
      (LeavesIn (record (memory_with_reg m BLOCK (base + block)) {
        cells = laid program limits statics store
            (record { book = later; blocks = placing.blocks }) stack;
      }) h)
  laid_takes block later way e t =
      will_more im (Enter r kind ∷ []) d m (AllocatorTook m book k block later) _ (λ o w. take_ends block later t o w)
      (law.takes kind d book k block later way (asks 0 e) t)

  laid_lacks : bool_xor kind d ≡ false → Enters m k 0 → take placing.book k ≡ None
      → Will im (Enter r kind ∷ []) d m (TrapsFull h)
  laid_lacks way e t =
      will_more im (Enter r kind ∷ []) d m (Lacked book) (TrapsFull h) (λ o w. traps o w)
      (law.lacks kind d book k way (asks 0 e) t)
    where
      traps : (o : Outcome) → Lacked book o → TrapsFull h o
      traps o (lacked steps few) = traps_full steps few

  -- the block that is given back is zero
  given_zero : (block : ℕ) → order_in taken block ≡ Some k
      → StandApart program (2 ^ h) base store placing.blocks placing.blocks (give_back placing.book k block)
      → AllZero m.cells (base + block) (base + block + 2 ^ k)
  given_zero block t apart y lo hi =
      let kept = c.placed.kept in
      let back = given_back book k block kept t in
      let fits = back.fits in
      let gave = give_gave h k block placing.book from back.order_to kept.lists kept.sound back.aligned fits in
      let count = counted h base placing.book taken kept in
      let x = y - base in
      let inside : x < 2 ^ h = omega arith in
      let w = gave.weights (cover x) (cover-additive x) in
      let total = kept.balanced (cover x) (cover-additive x) in
      let without = taken_weight-without (cover x) block k taken t in
      let one : cover x block (2 ^ k) ≡ 1 = covered x block (2 ^ k) (omega arith) (omega arith) in
      let none : weight (cover x) 2 placing.book ≡ 0 = omega arith in
      let zeros : List ℕ = replicate (2 ^ h) 0 in
      let n : length zeros ≡ 2 ^ h = length-replicate (2 ^ h) 0 in
      let b = book_other base 2 placing.book zeros (omega arith)
      (subst (λ z. FitLists z 2 placing.book) (sym n) count.fits) in
      let o = objects_beside program (2 ^ h) base store placing.blocks placing.blocks (give_back placing.book k block)
      (with_book base placing.book zeros) (b.count ∙ n) apart in
      let word : get_or (heap_words program (2 ^ h) base store placing) x 0 ≡ 0 = o.free x (omega arith)
      ∙ b.other x none ∙ get_or-replicate (2 ^ h) x 0 0 inside in
      let there : y ≡ base + x = omega arith in
      ap (λ z. get_or z y 0) c.cells ∙ ap (λ z. get_or before z 0) there
      ∙ laid_heap program limits statics store placing stack kept.lists kept.h_to count c.placed.apart c.placed.main
      x inside ∙ word
    where
      covered : (x block s : ℕ) → block ≤ x → x < block + s → cover x block s ≡ 1
      covered x block s lo hi = omega arith

  give_ends : (block : ℕ) → order_in taken block ≡ Some k
      → StandApart program (2 ^ h) base store placing.blocks placing.blocks (give_back placing.book k block)
      → (o : Outcome)
      → AllocatorGave m book k (give_back placing.book k (base + block - base)) o
      → LeavesIn (record (memory_with_reg m BLOCK 0) {
        cells = laid program limits statics store
            (record { book = give_back placing.book k block; blocks = placing.blocks }) stack;
      }) h o
  give_ends block t apart o (gave cells steps some few held changes) =
      let same : base + block - base ≡ block = omega arith in
      let held2 : HoldsBook base h (give_back placing.book k block) cells =
      subst (λ z. HoldsBook base h (give_back placing.book k z) cells) same held in
      let changes2 = subst (λ z. ChangesList base h k (give_back placing.book k block) z cells) c.cells
      (subst (λ z. ChangesList base h k (give_back placing.book k z) m.cells cells) same changes) in
      let is = given_law program limits statics store placing taken stack k block cells c.placed from t apart held2
      changes2 in
      subst (λ z. LeavesIn (record (memory_with_reg m BLOCK 0) { cells = z }) h
      (Done (record (memory_with_reg m BLOCK 0) { cells = cells }) steps)) is (leaves_in steps some few)

  laid_gives : (block : ℕ) → bool_xor kind d ≡ true → Enters m k (base + block) → order_in taken block ≡ Some k
      → StandApart program (2 ^ h) base store placing.blocks placing.blocks (give_back placing.book k block)
      → Will im (Enter r kind ∷ []) d m (LeavesIn (record (memory_with_reg m BLOCK 0) {
        cells = laid program limits statics store (record
            { book = give_back placing.book k block; blocks = placing.blocks }) stack;
      }) h)
  laid_gives block way e t apart =
      will_more im (Enter r kind ∷ []) d m (AllocatorGave m book k (give_back placing.book k (base + block - base))) _
      (λ o w. give_ends block t apart o w)
      (law.gives kind d book k (base + block) way (asks (base + block) e)
      (record { block = block; at = refl; with_order = t }) (given_zero block t apart))

pub laid_calls_law : LaidCallsLaw
laid_calls_law im r top body m program limits statics store placing taken stack c = record {
  takes = λ kind d k block later way from e t. laid_takes im r top body m program limits statics store placing taken
      stack kind d k c from block later way e t;
  lacks = λ kind d k way from e t. laid_lacks im r top body m program limits statics store placing taken stack kind d k
      c from way e t;
  gives = λ kind d k block way from e t apart. laid_gives im r top body m program limits statics store placing taken
      stack kind d k c from block way e t apart;
}
