-- The memory of a store, part by part.
use Rattle.std.proofs.Common.{◌≡◌, ◌∙◌, ℕ, suc, ◌+◌, ◌-◌, ◌*◌, ◌%◌, ◌^◌, ◌<◌, ◌≤◌, Bool, true, false, List, [], ◌∷◌}
use Rattle.std.proofs.Common.{◌++◌, length, refl, sym, ap, subst, arith, get_or, drop, map, replicate, nat_lt, ltb-true}
use Rattle.std.proofs.Common.{ltb-false, mod-lt}
use Rattle.std.specs.List.{All}
use Rattle.std.proofs.lemmas.List.{get_or_append_left, length-drop, length-append, length-replicate, get_or-replicate}
use Rattle.std.proofs.lemmas.List.{length-map}
use Rattle.std.proofs.Math.Seq.{get_or-append_right}
use Rattle.std.proofs.Math.Nat.{mod-add-div'}
use Rattle.buddy_pisa.specs.rpp_words.declared.input.Limits.{Limits}
use Rattle.roopl_semantics.specs.rpp_tree.Tree.{Source}
use Rattle.buddy_pisa.specs.pisa_isa.Loaded.{statics_at, heap_base, fixed_cells}
use Rattle.buddy_pisa.specs.buddy_book.Book.{Book}
use Rattle.buddy_pisa.specs.rpp_words.Words.{IsWord}
use Rattle.buddy_pisa.specs.buddy_book.Shown.{TakenBlocks, is_sound_list, is_sound, weight, taken_weight, IsKept, cover}
use Rattle.buddy_pisa.specs.buddy_book.Shown.{first_address}
use Rattle.buddy_pisa.specs.buddy_book.Place.{Placing}
use Rattle.buddy_pisa.proofs.buddy_book_laws.TakeGive.{sound_head}
use Rattle.buddy_pisa.proofs.buddy_book_laws.Kept.{cover-additive}
use Rattle.roopl_semantics.specs.Store.{Store, object_at, main_name}
use Rattle.roopl_semantics.specs.Layout.{overlaid, object_words, with_book, with_objects, heap_words, static_words}
use Rattle.roopl_semantics.specs.Layout.{laid}
use Rattle.buddy_pisa.specs.Held.{HoldsList, HoldsLists, HoldsBook}
use Rattle.refine_heap.specs.Laid.{StandApart, LayoutLaw}
use Rattle.refine_heap.proofs.Overlays.{overlaid_length, overlaid_before, overlaid_after, LinkedList, LinkedLists}
use Rattle.refine_heap.proofs.Overlays.{FitList, FitLists, lists_agree, book_other, book_linked}
use Rattle.std.proofs.lemmas.Nat.{pow_pos}
use Rattle.buddy_pisa.specs.rpp_words.declared.input.TheConstants.{FIXED_CELLS, MOST_HEAP}
use Rattle.std.proofs.lemmas.Bool.{and_parts}

-- ---- the objects

pub record Beside (book : Book) (words after : List ℕ) : Type 0 where
  pub count : length after ≡ length words
  pub free : (x : ℕ) → 1 ≤ weight (cover x) 2 book → get_or after x 0 ≡ get_or words x 0

pub objects_beside : (program : Source) (size base : ℕ) (store : Store) (all blocks : List (ℕ × ℕ)) (book : Book)
    (words : List ℕ) → length words ≡ size → StandApart program size base store all blocks book
    → Beside book words (with_objects program base store all blocks words)
objects_beside program size base store all [] book words n apart = record { count = refl; free = λ x w. refl }
objects_beside program size base store all ((name, block) ∷ rest) book words n apart =
    let new = object_words program base all (object_at store name) in
    let fits : block + length new ≤ length words = let f = apart.0 in omega arith in
    let next = overlaid words block new in
    let k = overlaid_length words block new fits in
    let r = objects_beside program size base store all rest book next (k ∙ n) apart.2 in
    record {
      count = r.count ∙ k;
      free = λ x w. r.free x w
          ∙ by new fits apart.1 x w (nat_lt x block) (nat_lt x (block + length new)) refl refl;
    }
  where
    by : (new : List ℕ) (fits : block + length new ≤ length words)
        → ((x : ℕ) → block ≤ x → x < block + length new → weight (cover x) 2 book ≡ 0) → (x : ℕ)
        → 1 ≤ weight (cover x) 2 book → (t u : Bool) → nat_lt x block ≡ t → nat_lt x (block + length new) ≡ u
        → get_or (overlaid words block new) x 0 ≡ get_or words x 0
    by new fits none x w true u e f = overlaid_before words block new fits x (ltb-true x block e)
    by new fits none x w false false e f = overlaid_after words block new fits x (ltb-false x (block + length new) f)
    by new fits none x w false true e f =
        let z = none x (ltb-false x block e) (ltb-true x (block + length new) f) in
        absurd (omega arith)

-- ---- the heap

sound_fit : (top size : ℕ) (free : List ℕ) → is_sound_list top size free ≡ true → FitList top size free
sound_fit top size [] h = tt
sound_fit top size (block ∷ free) h = let s = sound_head top size block free h in
    (s.fits, sound_fit top size free s.rest)

sound_fits : (top size : ℕ) (book : Book) → is_sound top size book ≡ true → FitLists top size book
sound_fits top size [] h = tt
sound_fits top size (free ∷ higher) h =
    let b = and_parts (is_sound_list top size free) _ h in
    (sound_fit top size free b.0, sound_fits top (2 * size) higher b.1)

record Heap (base size : ℕ) (book : Book) (words : List ℕ) : Type 0 where
  count : length words ≡ size
  linked : LinkedLists base 2 book words

heap_is : (program : Source) (size base : ℕ) (store : Store) (placing : Placing) → FitLists size 2 placing.book
    → ((x : ℕ) → weight (cover x) 2 placing.book ≤ 1) → ((x : ℕ) → 1 ≤ weight (cover x) 2 placing.book → x < size)
    → StandApart program size base store placing.blocks placing.blocks placing.book
    → Heap base size placing.book (heap_words program size base store placing)
heap_is program size base store placing fits once within apart =
    let zeros : List ℕ = replicate size 0 in
    let n : length zeros ≡ size = length-replicate size 0 in
    let fits_in : FitLists (length zeros) 2 placing.book = subst (λ z. FitLists z 2 placing.book) (sym n) fits in
    let booked = with_book base placing.book zeros in
    let b = book_other base 2 placing.book zeros (omega arith) fits_in in
    let l = book_linked base 2 placing.book zeros (omega arith) fits_in once
    (λ x w. get_or-replicate size x 0 0 (within x w)) in
    let o = objects_beside program size base store placing.blocks placing.blocks placing.book booked (b.count ∙ n) apart
    in
    record {
      count = o.count ∙ b.count ∙ n;
      linked = lists_agree base 2 placing.book booked
          (heap_words program size base store placing) (omega arith) o.free l;
    }

-- ---- the memory

list_held : (base size top : ℕ) (free words cells : List ℕ) → 1 ≤ size
    → ((x : ℕ) → x < top → get_or cells (base + x) 0 ≡ get_or words x 0) → FitList top size free
    → LinkedList base size free words → HoldsList base size free cells
list_held base size top [] words cells one at fit h = tt
list_held base size top (block ∷ free) words cells one at fit h =
    let f = fit.0 in (
      at block (omega arith) ∙ h.0,
      (λ y lo hi. ap (λ z. get_or cells z 0) (let e : y ≡ base + (y - base) = omega arith in e)
          ∙ at (y - base) (omega arith) ∙ h.1 (y - base) (omega arith) (omega arith)),
      list_held base size top free words cells one at fit.1 h.2,
    )

lists_held : (base head size top : ℕ) (book : Book) (words cells : List ℕ) → 1 ≤ size
    → ((j : ℕ) → j < length book → get_or cells (head + j) 0 ≡ get_or (map (first_address base) book) j 0)
    → ((x : ℕ) → x < top → get_or cells (base + x) 0 ≡ get_or words x 0) → FitLists top size book
    → LinkedLists base size book words → HoldsLists base head size book cells
lists_held base head size top [] words cells one heads at fit h = tt
lists_held base head size top (free ∷ higher) words cells one heads at fit h = (
  ap (λ z. get_or cells z 0) (let e : head ≡ head + 0 = omega arith in e) ∙ heads 0 (omega arith),
  list_held base size top free words cells one at fit.0 h.0,
  lists_held base (suc head) (2 * size) top higher words cells (omega arith)
      (λ j k. ap (λ z. get_or cells z 0) (let e : suc head + j ≡ head + suc j = omega arith in e)
      ∙ heads (suc j) (omega arith)) at fit.1 h.1,
)

base_room : (h n : ℕ) → 0 < 2 ^ h → FIXED_CELLS + n ≤ heap_base h n
base_room h n p = let m = mod-add-div' (FIXED_CELLS + n + 2 ^ h - 1) (2 ^ h) in
    let r : (FIXED_CELLS + n + 2 ^ h - 1) % 2 ^ h < 2 ^ h =
    mod-lt (FIXED_CELLS + n + 2 ^ h - 1) p in omega arith

-- a memory in parts: cells of its own, others up to the heap's base, the heap, and what follows it
module _ (h deep base : ℕ) (heads statics zeros words stack : List ℕ) (small : length heads ≤ 31)
    (to_base : FIXED_CELLS + length statics + length zeros ≡ base) where
  abbrev fixed : List ℕ
  fixed = fixed_cells h deep base heads

  abbrev memory : List ℕ
  memory = fixed ++ statics ++ zeros ++ words ++ stack

  fixed_length : length fixed ≡ FIXED_CELLS
  fixed_length =
      let pad : List ℕ = replicate (31 - length heads) 0 in
      let r : length pad ≡ 31 - length heads = length-replicate (31 - length heads) 0 in
      let a : length (heads ++ pad) ≡ length heads + length pad = length-append heads pad in
      omega arith

  before_length : length (fixed ++ statics ++ zeros) ≡ base
  before_length = let f = fixed_length in let a = length-append fixed statics in let b =
      length-append (fixed ++ statics) zeros in omega arith

  memory_length : length memory ≡ base + length words + length stack
  memory_length = let f = before_length in let a = length-append (fixed ++ statics ++ zeros) words in let b =
      length-append (fixed ++ statics ++ zeros ++ words) stack in omega arith

  in_front : (y : ℕ) → y < FIXED_CELLS → get_or memory y 0 ≡ get_or fixed y 0
  in_front y k =
      let f = fixed_length in
      let a = length-append fixed statics in let b = length-append (fixed ++ statics) zeros in let c =
      length-append (fixed ++ statics ++ zeros) words in
      get_or_append_left (fixed ++ statics ++ zeros ++ words) stack 0 y (omega arith)
      ∙ get_or_append_left (fixed ++ statics ++ zeros) words 0 y (omega arith)
      ∙ get_or_append_left (fixed ++ statics) zeros 0 y (omega arith)
      ∙ get_or_append_left fixed statics 0 y (omega arith)

  head_at : (j : ℕ) → j < length heads → get_or memory (9 + j) 0 ≡ get_or heads j 0
  head_at j k =
      let e : 9 + j ≡ suc (suc (suc (suc (suc (suc (suc (suc (suc j)))))))) = omega arith in
      in_front (9 + j) (omega arith) ∙ ap (λ z. get_or fixed z 0) e
      ∙ get_or_append_left heads (replicate (31 - length heads) 0) 0 j k

  in_heap : (x : ℕ) → x < length words → get_or memory (base + x) 0 ≡ get_or words x 0
  in_heap x k =
      let f = before_length in let c = length-append (fixed ++ statics ++ zeros) words in
      get_or_append_left (fixed ++ statics ++ zeros ++ words) stack 0 (base + x) (omega arith)
      ∙ get_or-append_right (fixed ++ statics ++ zeros) words (base + x) 0 (omega arith)
      ∙ ap (λ z. get_or words z 0) (let e : base + x - length (fixed ++ statics ++ zeros) ≡ x = omega arith in e)

cover_within : (x u w v : ℕ) → w + v ≡ cover x 0 u → 1 ≤ w → x < u
cover_within x u w v e h = omega arith

-- what holds for a heap's free lists, without its memory
pub record Counted (base size : ℕ) (book : Book) : Type 0 where
  pub fits : FitLists size 2 book
  pub once : (x : ℕ) → weight (cover x) 2 book ≤ 1
  pub within : (x : ℕ) → 1 ≤ weight (cover x) 2 book → x < size

pub counted : (h base : ℕ) (book : Book) (taken : TakenBlocks)
    → IsKept (record { h = h; base = base; free = book; taken = taken }) → Counted base (2 ^ h) book
counted h base book taken kept = record {
  fits = sound_fits (2 ^ h) 2 book kept.sound;
  once = λ x. let b = kept.balanced (cover x) (cover-additive x) in omega arith;
  within = λ x w. cover_within x (2 ^ h) (weight (cover x) 2 book) (taken_weight (cover x) taken)
      (kept.balanced (cover x) (cover-additive x)) w;
}

module _ (program : Source) (limits : Limits) (statics : List ℕ) (store : Store) (placing : Placing) (stack : List ℕ)
    (lists : length placing.book ≡ limits.heap) (top : limits.heap ≤ MOST_HEAP)
    (count : Counted (heap_base limits.heap (length statics)) (2 ^ limits.heap) placing.book)
    (apart : StandApart program (2 ^ limits.heap) (heap_base limits.heap (length statics)) store placing.blocks
    placing.blocks placing.book) (main_fits : length (object_words program (heap_base limits.heap (length statics))
    placing.blocks (object_at store main_name)) ≤ length statics) where
  abbrev h : ℕ
  h = limits.heap

  abbrev n : ℕ
  n = length statics

  abbrev base : ℕ
  base = heap_base h n

  abbrev own : List ℕ
  own = static_words program base placing.blocks statics store

  abbrev zeros : List ℕ
  zeros = replicate (base - statics_at - n) 0

  abbrev pub words : List ℕ
  words = heap_words program (2 ^ h) base store placing

  abbrev heads : List ℕ
  heads = map (first_address base) placing.book

  pub room : FIXED_CELLS + n ≤ base
  room = base_room h n (let p = pow_pos h in omega arith)

  heap : Heap base (2 ^ h) placing.book words
  heap = heap_is program (2 ^ h) base store placing count.fits count.once count.within apart

  abbrev main : List ℕ
  main = object_words program base placing.blocks (object_at store main_name)

  own_length : length own ≡ n
  own_length = length-append main (drop (length main) statics)
      ∙ (let d = length-drop (length main) statics in let m = main_fits in omega arith)

  heads_length : length heads ≡ h
  heads_length = length-map placing.book (first_address base) ∙ lists

  pub small : length heads ≤ 31
  small = let e = heads_length in omega arith

  pub to_base : FIXED_CELLS + length own + length zeros ≡ base
  to_base =
      let z : length zeros ≡ base - FIXED_CELLS - n = length-replicate (base - statics_at - n) 0 in
      let o = own_length in let r = room in
      omega arith

  pub words_length : length words ≡ 2 ^ h
  words_length = heap.count

  pub laid_length : length (laid program limits statics store placing stack) ≡ base + 2 ^ h + length stack
  laid_length = memory_length h limits.deep base heads own zeros words stack small to_base
      ∙ (let k = heap.count in omega arith)

  pub laid_lists : HoldsLists base 9 2 placing.book (laid program limits statics store placing stack)
  laid_lists =
      let k = heap.count in let m = heads_length in
      lists_held base 9 2 (2 ^ h) placing.book words (laid program limits statics store placing stack) (omega arith)
      (λ j q. head_at h limits.deep base heads own zeros words stack small to_base j (omega arith))
      (λ x q. in_heap h limits.deep base heads own zeros words stack small to_base x (omega arith)) count.fits
      heap.linked

  pub laid_heap : (x : ℕ) → x < 2 ^ h → get_or (laid program limits statics store placing stack) (base + x) 0
      ≡ get_or words x 0
  laid_heap x q = let k = heap.count in in_heap h limits.deep base heads own zeros words stack small to_base x
      (omega arith)

  pub laid_holds : All IsWord (laid program limits statics store placing stack)
      → HoldsBook base h placing.book (laid program limits statics store placing stack)
  laid_holds w =
      let front = in_front h limits.deep base heads own zeros words stack small to_base in
      let all = laid_length in let r = room in
      record {
        nothing = front 0 (omega arith);
        order = front 1 (omega arith);
        heap_base = front 2 (omega arith);
        base_from = omega arith;
        heap_there = omega arith;
        words = w;
        lists = laid_lists;
      }

pub layout_law : LayoutLaw
layout_law program limits statics store placing taken stack is words =
    laid_holds program limits statics store placing stack is.kept.lists is.kept.h_to
    (counted limits.heap (heap_base limits.heap (length statics)) placing.book taken is.kept) is.apart is.main words
