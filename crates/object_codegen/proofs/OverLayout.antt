-- The allocator, called over the memory of a store, is one over which the code of new and delete
-- runs, whatever words the frame holds.
use Rattle.std.proofs.Common.{◌≡◌, ℕ, zero, suc, ◌+◌, ◌-◌, ◌^◌, ◌<◌, ◌≤◌, true, false, List, [], ◌∷◌, ◌++◌, length}
use Rattle.std.proofs.Common.{refl, sym, ap, ◌∙◌, subst, arith, take as taken_from, drop, ⊎_elim, Some, None}
use Rattle.std.proofs.Common.{append-nil}
use Rattle.std.specs.Prelude.{slice_index, map, replicate}
use Rattle.std.specs.List.{All}
use Rattle.std.proofs.lemmas.List.{ext_get_or, take-append-drop, get_or-take, get_or-drop, get_or_append_left}
use Rattle.std.proofs.lemmas.List.{length-take, length-drop, length-append}
use Rattle.std.proofs.Math.Seq.{get_or-append_right}
use Rattle.std.proofs.lemmas.Bool.{cases_lt}
use Rattle.std.proofs.lemmas.List.Elements.{All-cons, All-from_get_or}
use Rattle.refine_heap.specs.rpp_words.Words.{IsWord}
use Rattle.refine_heap.specs.rpp_words.declared.input.Limits.{Limits}
use Rattle.refine_heap.specs.rpp_tree.Tree.{Source}
use Rattle.refine_heap.specs.pisa_isa.Loaded.{statics_at, heap_base, fixed_cells}
use Rattle.refine_heap.specs.buddy_book.Book.{Book, take, give_back}
use Rattle.refine_heap.specs.buddy_book.Shown.{TakenBlocks, order_in}
use Rattle.refine_heap.specs.buddy_book.Place.{Placing}
use Rattle.refine_heap.specs.pisa_isa.Machine.{Memory}
use Rattle.refine_heap.specs.paired_code.declared.part.Symbol.{Symbol}
use Rattle.refine_heap.specs.paired_code.declared.part.Symbol.TheVariants.{Enter}
use Rattle.refine_heap.specs.paired_code.Machine.{Image, memory_reg}
use Rattle.refine_heap.specs.paired_code.Layout.{Routine, Tidy}
use Rattle.refine_heap.specs.paired_code.Pieces.{Outcome, Will}
use Rattle.refine_heap.proofs.paired_code_laws.Laws.{will_more}
use Rattle.static_layout.specs.roopl_semantics.Store.{Store}
use Rattle.static_layout.specs.roopl_semantics.Layout.{first_address, static_words, heap_words, laid}
use Rattle.refine_heap.specs.buddy_pisa.Promise.{Enters, AllocatorLaw, most_steps}
use Rattle.refine_heap.specs.Laid.{StandsBeside, IsHeapPlaced}
use Rattle.refine_heap.specs.Calls.{LeavesIn, leaves_in, TrapsFull, traps_full, Calls}
use Rattle.refine_heap.proofs.Called.{laid_calls_law}
use Rattle.expr_uncompute.specs.Found.{LeavesWithin, leaves_within, TrapsWithin, traps_within, Filled, Changes}
use Rattle.object_codegen.specs.declared.shape.Shape.{Shape}
use Rattle.object_codegen.specs.declared.shape.Shape.TheVariants.{Fixed, Lengthy}
use Rattle.object_codegen.specs.News.{left_length, moved_length, calling, Allocates, Lacks}
use Rattle.refine_heap.specs.code_conventions.declared.faults.TheConstants.{HEAP_FULL}

-- words filled over the last part of a memory
module _ (low n : ℕ) (front stack : List ℕ) (fits : length front ≤ low) where
  front_is : (ys : List ℕ) → low ≤ length (front ++ stack) → Filled low n (front ++ stack) ys
      → taken_from (length front) ys ≡ front
  front_is ys h f =
      let c = f.count in
      let k : length (taken_from (length front) ys) ≡ length front = length-take (length front) ys ∙ omega arith in
      ext_get_or 0 (taken_from (length front) ys) front k (λ i l. get_or-take (length front) ys i 0 (omega arith)
      ∙ f.below i (omega arith) ∙ get_or_append_left front stack 0 i (omega arith))

  pub over_front : (ys : List ℕ) → low ≤ length (front ++ stack) → Filled low n (front ++ stack) ys
      → ys ≡ front ++ drop (length front) ys
  over_front ys h f = sym (take-append-drop (length front) ys) ∙ ap (λ z. z ++ drop (length front) ys) (front_is ys h f)

-- the same words after two prefixes
pub same_behind : (low n : ℕ) (front front' stack ys zs : List ℕ) → length front ≤ low → length front' ≡ length front
    → Filled low n (front ++ stack) ys → Filled low n (front' ++ stack) zs → Changes low ys zs
    → drop (length front) zs ≡ drop (length front) ys
same_behind low n front front' stack ys zs fits e f g c =
    ext_get_or 0 (drop (length front) zs) (drop (length front) ys)
    (length-drop (length front) zs ∙ ap (λ z. z - length front) c.count ∙ sym (length-drop (length front) ys))
    (λ i l. get_or-drop (length front) zs i 0 ∙ ⊎_elim (λ lo. inner i lo) (λ hi. c.above (length front + i) hi)
    (cases_lt (length front + i) low) ∙ sym (get_or-drop (length front) ys i 0))
  where
    inner : (i : ℕ) → length front + i < low → slice_index zs (length front + i) ≡ slice_index ys (length front + i)
    inner i lo =
        g.below (length front + i) lo ∙ get_or-append_right front' stack (length front + i) 0 (omega arith)
        ∙ ap (λ z. slice_index stack (length front + i - z)) e
        ∙ sym (f.below (length front + i) lo ∙ get_or-append_right front stack (length front + i) 0 (omega arith))

-- ---- the registers of the call

abbrev SmallWords : List ℕ → Type 0
SmallWords [] = Unit {0}
SmallWords (x ∷ l) = (x < 2 ^ 32) × SmallWords l

word_at : (l : List ℕ) → SmallWords l → (r : ℕ) → slice_index l r < 2 ^ 32
word_at [] h r = omega arith
word_at (x ∷ l) h zero = h.0
word_at (x ∷ l) h (suc r) = word_at l h.1 r

-- no length is left if the allocator has its temporaries
abbrev pub IsLeft : ℕ → Shape → Type 0
IsLeft v (Fixed table fields) = v ≡ 0
IsLeft v Lengthy = Unit {0}

none_left : (v : ℕ) (shape : Shape) → IsLeft v shape → left_length v shape ≡ 0
none_left v (Fixed table fields) h = h
none_left v Lengthy h = refl

moved_small : (v : ℕ) (shape : Shape) → v < 2 ^ 32 → moved_length v shape < 2 ^ 32
moved_small v (Fixed table fields) h = omega arith
moved_small v Lengthy h = h

module _ (object frame o p v : ℕ) (shape : Shape) (object_small : object < 2 ^ 32) (frame_small : frame < 2 ^ 32)
    (order_small : o < 2 ^ 32) (place_small : p < 2 ^ 32) (length_small : v < 2 ^ 32) (left : IsLeft v shape) where
  -- the call is made as the allocator asks for it
  enters : (x : ℕ) (zs : List ℕ) → x < 2 ^ 32 → Enters (calling object frame o x p v shape zs) o x
  enters x zs h =
      let z : ◌<◌ 0 (2 ^ 32) = omega arith in
      let w : left_length v shape < 2 ^ 32 = rw (none_left v shape left) z in
      let zero_at : ℕ → Type 0 = λ r. memory_reg (calling object frame o x p v shape zs) r ≡ 0 in
      let none : All (λ r. memory_reg (calling object frame o x p v shape zs) r ≡ 0) [] = λ i d k. absurd (omega arith) in
      record {
        count = refl;
        words = All-from_get_or IsWord (calling object frame o x p v shape zs).regs 0
            (λ r l. word_at (calling object frame o x p v shape zs).regs (
              z,
              (
                z,
                (
                  z,
                  (
                    object_small,
                    (
                      frame_small,
                      (
                        z,
                        (
                          z,
                          (
                            z,
                            (
                              z,
                              (
                                z,
                                (
                                  z,
                                  (
                                    z,
                                    (
                                      order_small,
                                      (
                                        h,
                                        (
                                          place_small,
                                          (
                                            moved_small v shape length_small,
                                            (
                                              z,
                                              (
                                                z,
                                                (
                                                  z,
                                                  (w, (z, (z, (z, (z, (z, (z, (z, (z, (z, (z, (z, (z, tt))))))))))))),
                                                ),
                                              ),
                                            ),
                                          ),
                                        ),
                                      ),
                                    ),
                                  ),
                                ),
                              ),
                            ),
                          ),
                        ),
                      ),
                    ),
                  ),
                ),
              ),
            ) r);
        order = refl;
        address = refl;
        free = All-cons zero_at 16 (17 ∷ 18 ∷ 19 ∷ 20 ∷ 21 ∷ 22 ∷ 23 ∷ 24 ∷ 25 ∷ 26 ∷ 27 ∷ []) (refl)
            (All-cons zero_at 17 (18 ∷ 19 ∷ 20 ∷ 21 ∷ 22 ∷ 23 ∷ 24 ∷ 25 ∷ 26 ∷ 27 ∷ []) (refl)
            (All-cons zero_at 18 (19 ∷ 20 ∷ 21 ∷ 22 ∷ 23 ∷ 24 ∷ 25 ∷ 26 ∷ 27 ∷ []) (refl)
            (All-cons zero_at 19 (20 ∷ 21 ∷ 22 ∷ 23 ∷ 24 ∷ 25 ∷ 26 ∷ 27 ∷ []) (none_left v shape left)
            (All-cons zero_at 20 (21 ∷ 22 ∷ 23 ∷ 24 ∷ 25 ∷ 26 ∷ 27 ∷ []) (refl)
            (All-cons zero_at 21 (22 ∷ 23 ∷ 24 ∷ 25 ∷ 26 ∷ 27 ∷ []) (refl)
            (All-cons zero_at 22 (23 ∷ 24 ∷ 25 ∷ 26 ∷ 27 ∷ []) (refl)
            (All-cons zero_at 23 (24 ∷ 25 ∷ 26 ∷ 27 ∷ []) (refl)
            (All-cons zero_at 24 (25 ∷ 26 ∷ 27 ∷ []) (refl)
            (All-cons zero_at 25 (26 ∷ 27 ∷ []) (refl) (All-cons zero_at 26 (27 ∷ []) (refl)
            (All-cons zero_at 27 [] (refl) (none))))))))))));
      }

  leaves_as : (m : Memory) (h : ℕ) (o' : Outcome) → LeavesIn m h o' → LeavesWithin m (h + 1) (most_steps h + 7) o'
  leaves_as m h _ (leaves_in k lo hi) = leaves_within k (omega arith) hi

  traps_as : (h : ℕ) (o' : Outcome) → TrapsFull h o' → TrapsWithin HEAP_FULL (most_steps h + 7) o'
  traps_as h _ (traps_full k l) = traps_within k l

  module _ (im : Image) (top : ℕ) (body : List Symbol) (law : AllocatorLaw body) (routine : Routine im 0 top body)
      (tidy : Tidy im) (order_from : 1 ≤ o) (program : Source) (limits : Limits) (statics : List ℕ) (store : Store)
    where
      -- the memory before the stack
      abbrev pub front : Placing → List ℕ
      front placing = laid program limits statics store placing []

      split : (placing : Placing) (stack : List ℕ) → laid program limits statics store placing stack
          ≡ front placing ++ stack
      split placing stack =
          let base : ℕ = heap_base limits.heap (length statics) in
          parts (((fixed_cells limits.heap limits.deep base (map (first_address base) placing.book)
          ++ static_words program base placing.blocks statics store)
          ++ replicate (base - statics_at - length statics) 0)
          ++ heap_words program (2 ^ limits.heap) base store placing) stack
        where
          parts : (words rest : List ℕ) → words ++ rest ≡ (words ++ []) ++ rest
          parts words rest = ap (λ z. z ++ rest) (sym (append-nil words))

      call : (x : ℕ) (placing : Placing) (taken : TakenBlocks) (stack : List ℕ)
          → IsHeapPlaced program limits statics store placing taken
          → All IsWord (laid program limits statics store placing stack)
          → Calls im 0 top body (calling object frame o x p v shape (laid program limits statics store placing stack))
          program limits statics store placing taken stack
      call x placing taken stack placed words = record {
        routine = record { law = law; routine = routine; tidy = tidy; no_link = refl };
        placed = placed;
        cells = refl;
        words = words;
      }

      -- a block is there, before it is taken and after
      pub record Gets (placing : Placing) (taken taken' : TakenBlocks) (block : ℕ) (after : Book) : Type 0 where
        pub takes : take placing.book o ≡ Some (block, after)
        pub gives : give_back after o block ≡ placing.book
        pub placed : IsHeapPlaced program limits statics store placing taken
        pub placed_after : IsHeapPlaced program limits statics store (record { book = after; blocks = placing.blocks })
            taken'
        pub is_taken : order_in taken' block ≡ Some o
        pub address_small : heap_base limits.heap (length statics) + block < 2 ^ 32

      over : (low n : ℕ) (placing : Placing) (stack ys : List ℕ) → length (front placing) ≤ low
          → low ≤ length (laid program limits statics store placing stack)
          → Filled low n (laid program limits statics store placing stack) ys
          → ys ≡ laid program limits statics store placing (drop (length (front placing)) ys)
      over low n placing stack ys fits h f =
          over_front low n (front placing) stack fits ys (subst (λ z. low ≤ length z) (split placing stack) h)
          (subst (λ z. Filled low n z ys) (split placing stack) f)
          ∙ sym (split placing (drop (length (front placing)) ys))

      words_are : (low n : ℕ) (cells ys : List ℕ) → Filled low n cells ys → All IsWord ys
      words_are low n cells ys f = All-from_get_or IsWord ys 0 (λ i l. f.words i)

      module _ (placing : Placing) (taken taken' : TakenBlocks) (block : ℕ) (after : Book)
          (gets : Gets placing taken taken' block after) (stack : List ℕ) (low n : ℕ)
          (fits : length (front placing) ≤ low) (in_low : low ≤ length
          (laid program limits statics store placing stack))
          (count : length (laid program limits statics store (record { book = after; blocks = placing.blocks }) stack)
          ≡ length (laid program limits statics store placing stack)) where
        abbrev later : Placing
        later = record { book = after; blocks = placing.blocks }

        abbrev x : ℕ
        x = heap_base limits.heap (length statics) + block

        fronts : length (front later) ≡ length (front placing)
        fronts =
            let a : length (laid program limits statics store later stack) ≡ length (front later) + length stack =
            ap length (split later stack) ∙ length-append (front later) stack in
            let b : length (laid program limits statics store placing stack) ≡ length (front placing) + length stack =
            ap length (split placing stack) ∙ length-append (front placing) stack in
            omega arith

        -- both memories over the same words of the stack
        before_is : (ys : List ℕ) → Filled low n (laid program limits statics store placing stack) ys
            → ys ≡ laid program limits statics store placing (drop (length (front placing)) ys)
        before_is ys f = over low n placing stack ys fits in_low f

        after_is : (ys zs : List ℕ) → Filled low n (laid program limits statics store placing stack) ys
            → Filled low n (laid program limits statics store later stack) zs → Changes low ys zs
            → zs ≡ laid program limits statics store later (drop (length (front placing)) ys)
        after_is ys zs f g c =
            over low n later stack zs (omega (arith, fronts)) (omega arith) g
            ∙ ap (laid program limits statics store later) (ap (λ k. drop k zs) fronts
            ∙ same_behind low n (front placing) (front later) stack ys zs fits fronts
            (subst (λ z. Filled low n z ys) (split placing stack) f)
            (subst (λ z. Filled low n z zs) (split later stack) g) c)

        pub allocates : Allocates im object frame o x p v shape low n (limits.heap + 1) (most_steps limits.heap + 7)
            (laid program limits statics store placing stack) (laid program limits statics store later stack)
        allocates = record {
          takes = λ ys zs f g c.
              let words : All IsWord (laid program limits statics store placing (drop (length (front placing)) ys)) =
              subst (All IsWord) (before_is ys f) (words_are low n _ ys f) in
              let run = (laid_calls_law im 0 top body (calling object frame o 0 p v shape
              (laid program limits statics store placing (drop (length (front placing)) ys))) program limits
              statics store placing taken (drop (length (front placing)) ys)
              (call 0 placing taken (drop (length (front placing)) ys) gets.placed words)).takes false false o block
              after refl order_from (enters 0 _ (omega arith)) gets.takes in
              subst (λ z. Will im (Enter 0 false ∷ []) false (calling object frame o 0 p v shape z)
              (LeavesWithin (calling object frame o x p v shape zs) (limits.heap + 1) (most_steps limits.heap + 7)))
              (sym (before_is ys f))
              (subst (λ z. Will im (Enter 0 false ∷ []) false (calling object frame o 0 p v shape
              (laid program limits statics store placing (drop (length (front placing)) ys)))
              (LeavesWithin (calling object frame o x p v shape z) (limits.heap + 1)
              (most_steps limits.heap + 7))) (sym (after_is ys zs f g c))
              (will_more im (Enter 0 false ∷ []) false _ _ _ (leaves_as
              (calling object frame o x p v shape (laid program limits statics store later
              (drop (length (front placing)) ys))) limits.heap) run));
          gives = λ ys zs f g c.
              let rest : List ℕ = drop (length (front placing)) ys in
              let words : All IsWord (laid program limits statics store later (drop (length (front placing)) ys)) =
              subst (All IsWord) (after_is ys zs f g c) (words_are low n _ zs g) in
              let apart : StandsBeside program limits statics store placing.blocks (give_back after o block) =
              subst (λ z. StandsBeside program limits statics store placing.blocks z) (sym gets.gives)
              gets.placed.apart in
              let run = (laid_calls_law im 0 top body (calling object frame o x p v shape
              (laid program limits statics store later (drop (length (front placing)) ys))) program limits statics
              store later taken' (drop (length (front placing)) ys)
              (call x later taken' (drop (length (front placing)) ys) gets.placed_after words)).gives false true o
              block refl order_from (enters x _ gets.address_small) gets.is_taken apart in
              let back = subst (λ z. Will im (Enter 0 false ∷ []) true
              (calling object frame o x p v shape (laid program limits statics store later rest))
              (LeavesIn (calling object frame o 0 p v shape (laid program limits statics store
              (record { book = z; blocks = placing.blocks }) rest)) limits.heap)) gets.gives run in
              subst (λ z. Will im (Enter 0 false ∷ []) true (calling object frame o x p v shape z)
              (LeavesWithin (calling object frame o 0 p v shape ys) (limits.heap + 1) (most_steps limits.heap + 7)))
              (sym (after_is ys zs f g c))
              (subst (λ z. Will im (Enter 0 false ∷ []) true (calling object frame o x p v shape
              (laid program limits statics store later rest))
              (LeavesWithin (calling object frame o 0 p v shape z) (limits.heap + 1)
              (most_steps limits.heap + 7))) (sym (before_is ys f))
              (will_more im (Enter 0 false ∷ []) true _ _ _ (leaves_as
              (calling object frame o 0 p v shape (laid program limits statics store placing rest)) limits.heap)
              back));
        }

      -- or none is
      pub lacks : (placing : Placing) (taken : TakenBlocks) (stack : List ℕ) (low n : ℕ)
          → IsHeapPlaced program limits statics store placing taken → take placing.book o ≡ None
          → length (front placing) ≤ low → low ≤ length (laid program limits statics store placing stack)
          → Lacks im object frame o p v shape low n (most_steps limits.heap + 7)
          (laid program limits statics store placing stack)
      lacks placing taken stack low n placed none fits h = record {
        lacks = λ ys f.
            let e = over low n placing stack ys fits h f in
            let words : All IsWord (laid program limits statics store placing (drop (length (front placing)) ys)) =
            subst (All IsWord) e (words_are low n _ ys f) in
            let run = (laid_calls_law im 0 top body (calling object frame o 0 p v shape
            (laid program limits statics store placing (drop (length (front placing)) ys))) program limits statics
            store placing taken (drop (length (front placing)) ys)
            (call 0 placing taken (drop (length (front placing)) ys) placed words)).lacks false false o refl
            order_from (enters 0 _ (omega arith)) none in
            subst (λ z. Will im (Enter 0 false ∷ []) false (calling object frame o 0 p v shape z)
            (TrapsWithin HEAP_FULL (most_steps limits.heap + 7))) (sym e)
            (will_more im (Enter 0 false ∷ []) false _ _ _ (traps_as limits.heap) run);
      }
