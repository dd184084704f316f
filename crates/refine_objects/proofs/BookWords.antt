-- A memory whose heap has other free lists: the same except for the heads and the links, which are
-- words.
use Rattle.std.proofs.Common.{◌≡◌, ◌∙◌, sym, ap, refl, ℕ, zero, suc, ◌+◌, ◌-◌, ◌*◌, ◌^◌, ◌<◌, ◌≤◌, ◌⊎◌, inl, inr}
use Rattle.std.proofs.Common.{⊎_elim, List, [], ◌∷◌, ◌++◌, map, length, arith, length-append}
use Rattle.std.proofs.lemmas.Bool.{cases_lt}
use Rattle.std.proofs.lemmas.List.{length-map, length-replicate, get_or_append_left, get_or-append_right}
use Rattle.std.specs.Prelude.{slice_index, replicate}
use Rattle.object_codegen.specs.rpp_words.declared.input.TheConstants.{FRAME_WORDS}
use Rattle.object_codegen.specs.rpp_tree.Tree.{Source}
use Rattle.object_codegen.specs.buddy_book.Book.{Book}
use Rattle.object_codegen.specs.buddy_book.Place.{Placing}
use Rattle.object_codegen.specs.buddy_book.Shown.{TakenBlocks, IsKept}
use Rattle.object_codegen.specs.pisa_isa.Loaded.{statics_at, fixed_cells}
use Rattle.object_codegen.specs.roopl_semantics.Store.{Store, object_at}
use Rattle.object_codegen.specs.roopl_semantics.Execution.{Setting}
use Rattle.object_codegen.specs.roopl_semantics.Layout.{first_address, overlaid, object_words, static_words, with_links, with_book}
use Rattle.object_codegen.specs.roopl_semantics.Layout.{with_objects, heap_words}
use Rattle.object_codegen.proofs.meaning_sound_laws.Overlays.{length_overlaid, index_inside, index_outside}
use Rattle.object_codegen.proofs.refine_frame_laws.Heaps.{length_book}
use Rattle.object_codegen.proofs.refine_heap_laws.Overlays.{FitList, FitLists}
use Rattle.object_codegen.proofs.refine_heap_laws.Whole.{counted}
use Rattle.object_codegen.specs.refine_form.Frames.{base, before_stack, filled_to, memory}
use Rattle.refine_expressions.proofs.refine_calls_laws.MainFit.{AllWords, words_append, words_cons, no_words, zero_words}

-- the same words, or other words below 2^32
pub record Small (xs ys : List ℕ) : Type 0 where
  pub count : length ys ≡ length xs
  pub each : (a : ℕ) → (slice_index ys a ≡ slice_index xs a) ⊎ (slice_index ys a < 2 ^ 32)

small_same : (xs : List ℕ) → Small xs xs
small_same xs = record { count = refl; each = λ a. inl refl }

small_words : (xs ys : List ℕ) → length ys ≡ length xs → AllWords ys → Small xs ys
small_words xs ys count words = record { count = count; each = λ a. inr (words.each a) }

small_append : (xs xs' ys ys' : List ℕ) → Small xs ys → Small xs' ys' → Small (xs ++ xs') (ys ++ ys')
small_append xs xs' ys ys' h g = record {
  count = length-append ys ys' ∙ ap (λ k. k + length ys') h.count ∙ ap (λ k. length xs + k) g.count
      ∙ sym (length-append xs xs');
  each = λ a. ⊎_elim (below a) (above a) (cases_lt a (length xs));
}
  where
    below : (a : ℕ) → a < length xs → (slice_index (ys ++ ys') a ≡ slice_index (xs ++ xs') a)
        ⊎ (slice_index (ys ++ ys') a < 2 ^ 32)
    below a l =
        let e = h.count in
        let p = get_or_append_left ys ys' 0 a (omega (arith, e, l)) in
        let q = get_or_append_left xs xs' 0 a l in
        ⊎_elim (λ z. inl (p ∙ z ∙ sym q)) (λ z. inr (rw p z)) (h.each a)

    above : (a : ℕ) → length xs ≤ a → (slice_index (ys ++ ys') a ≡ slice_index (xs ++ xs') a)
        ⊎ (slice_index (ys ++ ys') a < 2 ^ 32)
    above a l =
        let p = get_or-append_right ys ys' (length xs) a 0 h.count l in
        let q = get_or-append_right xs xs' (length xs) a 0 refl l in
        ⊎_elim (λ z. inl (p ∙ z ∙ sym q)) (λ z. inr (rw p z)) (g.each (a - length xs))

pub past_end : (xs : List ℕ) (p : ℕ) → length xs ≤ p → slice_index xs p ≡ 0
past_end [] p h = refl
past_end (x ∷ xs) zero h = absurd (omega arith)
past_end (x ∷ xs) (suc p) h = past_end xs p (omega arith)

-- where a place is, seen from a region within words
data Seen (xs w : List ℕ) (b a : ℕ) : Type 0 where
  out : (a < b) ⊎ (b + length w ≤ a) → Seen xs w b a
  inside : (i : ℕ) → a ≡ b + i → i < length w → a < length xs → Seen xs w b a
  past : length xs ≤ a → Seen xs w b a

seen : (xs w : List ℕ) (b a : ℕ) → Seen xs w b a
seen xs w b a = ⊎_elim (λ l. ⊎_elim (λ m. out (inl m))
    (λ m. ⊎_elim (λ k. inside (a - b) (omega arith) (omega arith) l) (λ k. out (inr k)) (cases_lt a (b + length w)))
    (cases_lt a b)) (λ l. past l) (cases_lt a (length xs))

small_overlaid : (xs ys w : List ℕ) (b : ℕ) → Small xs ys → Small (overlaid xs b w) (overlaid ys b w)
small_overlaid xs ys w b h = record {
  count = length_overlaid ys b w ∙ h.count ∙ sym (length_overlaid xs b w);
  each = λ a. by a (seen xs w b a);
}
  where
    by : (a : ℕ) → Seen xs w b a → (slice_index (overlaid ys b w) a ≡ slice_index (overlaid xs b w) a)
        ⊎ (slice_index (overlaid ys b w) a < 2 ^ 32)
    by a (out o) =
        let p = index_outside ys b w a o in
        let q = index_outside xs b w a o in
        ⊎_elim (λ z. inl (p ∙ z ∙ sym q)) (λ z. inr (rw p z)) (h.each a)
    by a (inside i e l m) = let c = h.count in inl (index_inside ys b w a i e l (omega (arith, c, m))
        ∙ sym (index_inside xs b w a i e l m))
    by a (past l) =
        let c = h.count in
        let p = past_end (overlaid ys b w) a (omega (arith, length_overlaid ys b w, c, l)) in
        inr (rw p (omega arith))

small_objects : (program : Source) (n : ℕ) (store : Store) (blocks rest : List (ℕ × ℕ)) (xs ys : List ℕ) → Small xs ys
    → Small (with_objects program n store blocks rest xs) (with_objects program n store blocks rest ys)
small_objects program n store blocks [] xs ys h = h
small_objects program n store blocks ((name, b) ∷ rest) xs ys h =
    let w = object_words program n blocks (object_at store name) in
    small_objects program n store blocks rest (overlaid xs b w) (overlaid ys b w) (small_overlaid xs ys w b h)

-- ---- the words of a book

one_word : (xs : List ℕ) (b x : ℕ) → AllWords xs → x < 2 ^ 32 → AllWords (overlaid xs b (x ∷ []))
one_word xs b x h l = record { each = λ a. by a (seen xs (x ∷ []) b a) }
  where
    by : (a : ℕ) → Seen xs (x ∷ []) b a → slice_index (overlaid xs b (x ∷ [])) a < 2 ^ 32
    by a (out o) = rw (index_outside xs b (x ∷ []) a o) (h.each a)
    by a (inside zero e i m) = rw (index_inside xs b (x ∷ []) a 0 e i m) l
    by a (inside (suc i) e k m) = absurd (omega arith)
    by a (past p) = rw (past_end (overlaid xs b (x ∷ [])) a (omega (arith, length_overlaid xs b (x ∷ []), p)))
        (omega arith)

module _ (n top : ℕ) (low : n + top < 2 ^ 32) where
  first_small : (size : ℕ) (free : List ℕ) → FitList top size free → first_address n free < 2 ^ 32
  first_small size [] h = omega arith
  first_small size (b ∷ free) h = let f = h.0 in omega (arith, low, f)

  links_words : (size : ℕ) (free xs : List ℕ) → FitList top size free → AllWords xs → AllWords (with_links n free xs)
  links_words size [] xs h w = w
  links_words size (b ∷ free) xs h w = links_words size free (overlaid xs b (first_address n free ∷ [])) h.1
      (one_word xs b (first_address n free) w (first_small size free h.1))

  book_words : (size : ℕ) (book : Book) (xs : List ℕ) → FitLists top size book → AllWords xs
      → AllWords (with_book n book xs)
  book_words size [] xs h w = w
  book_words size (free ∷ higher) xs h w = book_words (2 * size) higher (with_links n free xs) h.1
      (links_words size free xs h.0 w)

  head_words : (size : ℕ) (book : Book) → FitLists top size book → AllWords (map (first_address n) book)
  head_words size [] h = no_words
  head_words size (free ∷ higher) h = words_cons (first_address n free) (map (first_address n) higher)
      (first_small size free h.0) (head_words (2 * size) higher h.1)

-- ---- the whole memory

module _ (setting : Setting) (statics : List ℕ) (at : Placing) (store : Store) (book : Book)
    (taken taken' : TakenBlocks) (kept : IsKept (record {
      h = setting.limits.heap;
      base = 0;
      free = at.book;
      taken = taken;
    })) (kept' : IsKept (record { h = setting.limits.heap; base = 0; free = book; taken = taken' }))
    (low : base setting statics + 2 ^ setting.limits.heap + FRAME_WORDS * setting.limits.deep ≤ 2 ^ 23) where
  abbrev pub rebooked : Placing
  rebooked = record { book = book; blocks = at.blocks }

  abbrev n : ℕ
  n = base setting statics

  abbrev size : ℕ
  size = 2 ^ setting.limits.heap

  abbrev heads : Book → List ℕ
  heads b = fixed_cells setting.limits.heap setting.limits.deep n (map (first_address n) b)

  length_heads : (b : Book) → length b ≡ setting.limits.heap → length (heads b) ≡ 9 + 31
  length_heads b l =
      let hs = map (first_address n) b in
      let t = kept.h_to in
      let e = length-map b (first_address n) in
      omega (
        arith,
        length-append hs (replicate (31 - length hs) 0),
        length-replicate {A = ℕ} (31 - length hs) 0,
        e,
        l,
        t,
      )

  heads_small : Small (heads at.book) (heads book)
  heads_small =
      let hs = map (first_address n) book in
      let t = kept.h_to in
      let z : 0 < 2 ^ 32 = omega arith in
      let fit = (counted setting.limits.heap 0 book taken' kept').fits in
      let tail = words_append hs (replicate (31 - length hs) 0) (head_words n size (omega (arith, low)) 2 book fit)
      (zero_words (31 - length hs)) in
      small_words (heads at.book) (heads book) (length_heads book kept'.lists ∙ sym (length_heads at.book kept.lists))
      (words_cons 0 _ z (words_cons setting.limits.heap _ (omega (arith, t))
      (words_cons n _ (omega (arith, low)) (words_cons (n + size) _ (omega (arith, low))
      (words_cons (n + size + FRAME_WORDS * setting.limits.deep) _ (omega (arith, low))
      (words_cons 0 _ z (words_cons 0 _ z
      (words_cons 0 _ z (words_cons 0 _ z tail)))))))))

  heap_small : Small (heap_words setting.program size n store at) (heap_words setting.program size n store rebooked)
  heap_small =
      let zeros : List ℕ = replicate size 0 in
      let fit = (counted setting.limits.heap 0 book taken' kept').fits in
      small_objects setting.program n store at.blocks at.blocks (with_book n at.book zeros) (with_book n book zeros)
      (small_words (with_book n at.book zeros) (with_book n book zeros)
      (length_book n book zeros ∙ sym (length_book n at.book zeros))
      (book_words n size (omega (arith, low)) 2 book zeros fit (zero_words size)))

  pub before_small : Small (before_stack setting statics at store) (before_stack setting statics rebooked store)
  before_small =
      let own : List ℕ = static_words setting.program n at.blocks statics store in
      let gap : List ℕ = replicate (n - statics_at - length statics) 0 in
      small_append (heads at.book ++ own ++ gap) (heap_words setting.program size n store at) (heads book ++ own ++ gap)
      (heap_words setting.program size n store rebooked)
      (small_append (heads at.book ++ own) gap (heads book ++ own) gap
      (small_append (heads at.book) own (heads book) own heads_small (small_same own)) (small_same gap))
      heap_small

  pub memory_small : (stack : List ℕ) → Small (memory setting statics at store stack)
      (memory setting statics rebooked store stack)
  memory_small stack =
      let rest = filled_to setting statics (FRAME_WORDS * setting.limits.deep) stack in
      small_append (before_stack setting statics at store) rest (before_stack setting statics rebooked store) rest
      before_small (small_same rest)

  pub memory_words : (stack : List ℕ) → ((a : ℕ) → slice_index (memory setting statics at store stack) a < 2 ^ 32)
      → (a : ℕ) → slice_index (memory setting statics rebooked store stack) a < 2 ^ 32
  memory_words stack h a = ⊎_elim (λ e. rw e (h a)) (λ l. l) ((memory_small stack).each a)

  -- the stack stays
  pub memory_above : (stack : List ℕ) (a : ℕ) → length (before_stack setting statics at store) ≤ a
      → slice_index (memory setting statics rebooked store stack) a
      ≡ slice_index (memory setting statics at store stack) a
  memory_above stack a l =
      let rest = filled_to setting statics (FRAME_WORDS * setting.limits.deep) stack in
      get_or-append_right (before_stack setting statics rebooked store) rest
      (length (before_stack setting statics at store)) a 0 before_small.count l
      ∙ sym (get_or-append_right (before_stack setting statics at store) rest
      (length (before_stack setting statics at store)) a 0 refl l)
