-- The memory that the allocator leaves represents the free lists that it left.
use Rattle.std.proofs.Common.{◌≡◌, ◌≢◌, ◌∙◌, ℕ, zero, suc, ◌+◌, ◌-◌, ◌^◌, ◌<◌, ◌≤◌, ◌⊎◌, inl, inr, Bool, true, false}
use Rattle.std.proofs.Common.{List, [], ◌∷◌, ◌++◌, length, refl, sym, ap, subst, arith, get_or, map, replicate, nat_lt}
use Rattle.std.proofs.Common.{nat_eq, ltb-true, ltb-false, eqb-true, false-eqb}
use Rattle.std.proofs.lemmas.List.{get_or_append_left, length-append, length-replicate, get_or-replicate, length-map}
use Rattle.std.proofs.Math.Seq.{get_or-append_right}
use Rattle.buddy_pisa.specs.rpp_words.declared.input.TheConstants.{FIXED_CELLS, MOST_HEAP}
use Rattle.buddy_pisa.specs.rpp_words.declared.input.Limits.{Limits}
use Rattle.roopl_semantics.specs.rpp_tree.Tree.{Source}
use Rattle.buddy_pisa.specs.pisa_isa.Loaded.{statics_at, heap_base, fixed_cells}
use Rattle.buddy_pisa.specs.buddy_book.Book.{Book, give_back}
use Rattle.buddy_pisa.specs.buddy_book.Shown.{with_taken, without_taken, weight, Shown, cover, first_address}
use Rattle.buddy_pisa.specs.buddy_book.Place.{Placing}
use Rattle.buddy_pisa.proofs.buddy_book_laws.Orders.{take_took, give_gave}
use Rattle.buddy_pisa.proofs.buddy_book_laws.Kept.{cover-additive, take_kept, give_kept, given_back}
use Rattle.roopl_semantics.specs.Store.{Store, object_at, main_name}
use Rattle.roopl_semantics.specs.Layout.{overlaid, object_words, with_book, with_objects, heap_words, static_words}
use Rattle.roopl_semantics.specs.Layout.{laid}
use Rattle.buddy_pisa.specs.Held.{AllZero, HoldsBook, IsOther}
use Rattle.buddy_pisa.proofs.Keeping.{one_memory}
use Rattle.buddy_pisa.proofs.Promised.{take_low}
use Rattle.refine_heap.specs.Laid.{StandApart, TakenLaw, GivenLaw}
use Rattle.refine_heap.proofs.Overlays.{overlaid_length, overlaid_before, overlaid_in, overlaid_after, FitLists}
use Rattle.refine_heap.proofs.Overlays.{book_other}
use Rattle.refine_heap.proofs.Whole.{objects_beside, Counted, counted, to_base, words_length, laid_length, laid_lists}
use Rattle.refine_heap.proofs.Whole.{laid_heap}

-- ---- lists of as many elements that agree at a place

agree_append : (a b c d : List ℕ) (i : ℕ) → length a ≡ length c → (i < length a → get_or a i 0 ≡ get_or c i 0)
    → (length a ≤ i → get_or b (i - length a) 0 ≡ get_or d (i - length a) 0) → get_or (a ++ b) i 0 ≡ get_or (c ++ d) i 0
agree_append a b c d i n left right = by (nat_lt i (length a)) refl
  where
    by : (t : Bool) → nat_lt i (length a) ≡ t → get_or (a ++ b) i 0 ≡ get_or (c ++ d) i 0
    by true e =
        let k = ltb-true i (length a) e in
        get_or_append_left a b 0 i k ∙ left k ∙ sym (get_or_append_left c d 0 i (omega arith))
    by false e =
        let k = ltb-false i (length a) e in
        get_or-append_right a b i 0 k ∙ right k ∙ ap (λ z. get_or d (i - z) 0) n
        ∙ sym (get_or-append_right c d i 0 (omega arith))

-- the fixed cells except for the heads
fixed_agree : (h deep base : ℕ) (heads others : List ℕ) (y : ℕ) → length heads ≡ h → length others ≡ h
    → (y < 9) ⊎ (8 + h < y) → y < FIXED_CELLS → get_or (fixed_cells h deep base heads) y 0
    ≡ get_or (fixed_cells h deep base others) y 0
fixed_agree h deep base heads others zero n k out lo = refl
fixed_agree h deep base heads others (suc zero) n k out lo = refl
fixed_agree h deep base heads others (suc (suc zero)) n k out lo = refl
fixed_agree h deep base heads others (suc (suc (suc zero))) n k out lo = refl
fixed_agree h deep base heads others (suc (suc (suc (suc zero)))) n k out lo = refl
fixed_agree h deep base heads others (suc (suc (suc (suc (suc zero))))) n k out lo = refl
fixed_agree h deep base heads others (suc (suc (suc (suc (suc (suc zero)))))) n k out lo = refl
fixed_agree h deep base heads others (suc (suc (suc (suc (suc (suc (suc zero))))))) n k out lo = refl
fixed_agree h deep base heads others (suc (suc (suc (suc (suc (suc (suc (suc zero)))))))) n k out lo = refl
fixed_agree h deep base heads others (suc (suc (suc (suc (suc (suc (suc (suc (suc j))))))))) n k out lo =
    let pad : List ℕ = replicate (31 - length heads) 0 in
    let more : List ℕ = replicate (31 - length others) 0 in
    let j_from : h ≤ j = past out in
    get_or-append_right heads pad j 0 (omega arith) ∙ get_or-replicate (31 - length heads) (j - length heads) 0 0
    (omega arith)
    ∙ sym (get_or-append_right others more j 0 (omega arith)
    ∙ get_or-replicate (31 - length others) (j - length others) 0 0 (omega arith))
  where
    past : (suc (suc (suc (suc (suc (suc (suc (suc (suc j)))))))) < 9)
        ⊎ (8 + h < suc (suc (suc (suc (suc (suc (suc (suc (suc j))))))))) → h ≤ j
    past (inl c) = absurd (omega arith)
    past (inr c) = omega arith

-- objects laid over words that agree at a place
objects_agree : (program : Source) (size base : ℕ) (store : Store) (all blocks : List (ℕ × ℕ)) (book : Book)
    (words others : List ℕ) (x : ℕ) → length words ≡ size → length others ≡ size
    → StandApart program size base store all blocks book → get_or words x 0 ≡ get_or others x 0
    → get_or (with_objects program base store all blocks words) x 0
    ≡ get_or (with_objects program base store all blocks others) x 0
objects_agree program size base store all [] book words others x n k apart e = e
objects_agree program size base store all ((name, block) ∷ rest) book words others x n k apart e =
    let new = object_words program base all (object_at store name) in
    let fits : block + length new ≤ length words = let f = apart.0 in omega arith in
    let fits2 : block + length new ≤ length others = let f = apart.0 in omega arith in
    objects_agree program size base store all rest book (overlaid words block new) (overlaid others block new) x
    (overlaid_length words block new fits ∙ n) (overlaid_length others block new fits2 ∙ k) apart.2
    (by new fits fits2 (nat_lt x block) (nat_lt x (block + length new)) refl refl)
  where
    by : (new : List ℕ) → block + length new ≤ length words → block + length new ≤ length others → (t u : Bool)
        → nat_lt x block ≡ t → nat_lt x (block + length new) ≡ u
        → get_or (overlaid words block new) x 0 ≡ get_or (overlaid others block new) x 0
    by new f g true u p q = overlaid_before words block new f x (ltb-true x block p) ∙ e
        ∙ sym (overlaid_before others block new g x (ltb-true x block p))
    by new f g false true p q = overlaid_in words block new f x (ltb-false x block p)
        (ltb-true x (block + length new) q) ∙ sym (overlaid_in others block new g x (ltb-false x block p)
        (ltb-true x (block + length new) q))
    by new f g false false p q = overlaid_after words block new f x (ltb-false x (block + length new) q) ∙ e
        ∙ sym (overlaid_after others block new g x (ltb-false x (block + length new) q))

-- ---- two books over one store

module _ (program : Source) (limits : Limits) (statics : List ℕ) (store : Store) (blocks : List (ℕ × ℕ))
    (stack : List ℕ) (first second : Book) where
  abbrev h : ℕ
  h = limits.heap

  abbrev base : ℕ
  base = heap_base h (length statics)

  abbrev one : Placing
  one = record { book = first; blocks = blocks }

  abbrev two : Placing
  two = record { book = second; blocks = blocks }

  abbrev Fits : Book → Type 0
  Fits book = StandApart program (2 ^ h) base store blocks blocks book

  module _ (lists1 : length first ≡ h) (lists2 : length second ≡ h) (top : h ≤ MOST_HEAP)
      (count1 : Counted base (2 ^ h) first)
      (count2 : Counted base (2 ^ h) second) (apart1 : Fits first) (apart2 : Fits second)
      (main : length (object_words program base blocks (object_at store main_name)) ≤ length statics) where
    abbrev words1 : List ℕ
    words1 = heap_words program (2 ^ h) base store one

    abbrev words2 : List ℕ
    words2 = heap_words program (2 ^ h) base store two

    length1 : length words1 ≡ 2 ^ h
    length1 = words_length program limits statics store one stack lists1 top count1 apart1 main

    length2 : length words2 ≡ 2 ^ h
    length2 = words_length program limits statics store two stack lists2 top count2 apart2 main

    abbrev plain : List ℕ
    plain = replicate (2 ^ h) 0

    plain_length : length plain ≡ 2 ^ h
    plain_length = length-replicate (2 ^ h) 0

    -- a word that is free in neither
    free_in_neither : (x : ℕ) → x < 2 ^ h → weight (cover x) 2 first ≡ 0 → weight (cover x) 2 second ≡ 0
        → get_or words1 x 0 ≡ get_or words2 x 0
    free_in_neither x k w1 w2 =
        let b1 = book_other base 2 first plain (omega arith)
        (subst (λ z. FitLists z 2 first) (sym plain_length) count1.fits) in
        let b2 = book_other base 2 second plain (omega arith)
        (subst (λ z. FitLists z 2 second) (sym plain_length) count2.fits) in
        objects_agree program (2 ^ h) base store blocks blocks first (with_book base first plain)
        (with_book base second plain) x (b1.count ∙ plain_length) (b2.count ∙ plain_length) apart1
        (b1.other x w1 ∙ sym (b2.other x w2))

    -- a word that is free only in the first
    free_in_first : (x : ℕ) → x < 2 ^ h → 1 ≤ weight (cover x) 2 first → weight (cover x) 2 second ≡ 0
        → get_or words2 x 0 ≡ 0
    free_in_first x k w1 w2 =
        let b2 = book_other base 2 second plain (omega arith)
        (subst (λ z. FitLists z 2 second) (sym plain_length) count2.fits) in
        let o = objects_beside program (2 ^ h) base store blocks blocks first (with_book base second plain)
        (b2.count ∙ plain_length) apart1 in
        o.free x w1 ∙ b2.other x w2 ∙ get_or-replicate (2 ^ h) x 0 0 k

    abbrev laid1 : List ℕ
    laid1 = laid program limits statics store one stack

    abbrev laid2 : List ℕ
    laid2 = laid program limits statics store two stack

    abbrev heads1 : List ℕ
    heads1 = map (first_address base) first

    abbrev heads2 : List ℕ
    heads2 = map (first_address base) second

    abbrev own : List ℕ
    own = static_words program base blocks statics store

    abbrev zeros : List ℕ
    zeros = replicate (base - statics_at - length statics) 0

    fixed_length : (heads : List ℕ) → length heads ≡ h → length (fixed_cells h limits.deep base heads) ≡ FIXED_CELLS
    fixed_length heads e =
        let pad : List ℕ = replicate (31 - length heads) 0 in
        let r : length pad ≡ 31 - length heads = length-replicate (31 - length heads) 0 in
        let a : length (heads ++ pad) ≡ length heads + length pad = length-append heads pad in
        omega arith

    -- the memories agree if no head is, and if the heaps agree
    laid_agree : (y : ℕ) → (y < 9) ⊎ (8 + h < y) → (base ≤ y → y - base < 2 ^ h
        → get_or words1 (y - base) 0 ≡ get_or words2 (y - base) 0) → get_or laid1 y 0 ≡ get_or laid2 y 0
    laid_agree y out heap =
        let f1 = fixed_cells h limits.deep base heads1 in
        let f2 = fixed_cells h limits.deep base heads2 in
        let n1 : length heads1 ≡ h = length-map first (first_address base) ∙ lists1 in
        let n2 : length heads2 ≡ h = length-map second (first_address base) ∙ lists2 in
        let k1 = fixed_length heads1 n1 in
        let k2 = fixed_length heads2 n2 in
        let place = to_base program limits statics store one stack lists1 top count1 apart1 main in
        let a1 = length-append f1 own in let a2 = length-append f2 own in
        let b1 = length-append (f1 ++ own) zeros in let b2 = length-append (f2 ++ own) zeros in
        let c1 = length-append (f1 ++ own ++ zeros) words1 in let c2 = length-append (f2 ++ own ++ zeros) words2 in
        let w1 = length1 in let w2 = length2 in
        let front : length (f1 ++ own ++ zeros) ≡ base = omega arith in
        agree_append (f1 ++ own ++ zeros ++ words1) stack (f2 ++ own ++ zeros ++ words2) stack y (omega arith)
        (λ l1. agree_append (f1 ++ own ++ zeros) words1 (f2 ++ own ++ zeros) words2 y (omega arith)
        (λ l2. agree_append (f1 ++ own) zeros (f2 ++ own) zeros y (omega arith)
        (λ l3. agree_append f1 own f2 own y (omega arith) (λ l4. fixed_agree h limits.deep base heads1 heads2 y n1 n2
        out (omega arith)) (λ l4. refl)) (λ l3. refl))
        (λ l2. let e : y - length (f1 ++ own ++ zeros) ≡ y - base = ap (λ z. y - z) front in
        ap (λ z. get_or words1 z 0) e ∙ heap (omega arith) (omega arith) ∙ ap (λ z. get_or words2 z 0) (sym e)))
        (λ l1. refl)

    -- cells that hold the second book, and agree with its memory elsewhere
    is_laid : (cells : List ℕ) → HoldsBook base h second cells → length cells ≡ length laid1
        → ((y : ℕ) → IsOther base h second y → get_or cells y 0 ≡ get_or laid2 y 0) → cells ≡ laid2
    is_laid cells holds n same =
        let m1 = laid_length program limits statics store one stack lists1 top count1 apart1 main in
        let m2 = laid_length program limits statics store two stack lists2 top count2 apart2 main in
        one_memory base h second laid2 cells lists2 (laid_lists program limits statics store two stack lists2 top count2
        apart2 main) holds.lists (n ∙ m1 ∙ sym m2) same

    -- if a word is free in the second free lists, they determine it; otherwise it is as in the
    -- first memory, or 0 if it was free there
    left : (cells : List ℕ) (word k : ℕ) → 1 ≤ k → word < 2 ^ h → HoldsBook base h second cells
        → length cells ≡ length laid1 → ((y : ℕ) → y ≢ base + word → (y < 8 + k) ⊎ (8 + h < y)
        → get_or cells y 0 ≡ get_or laid1 y 0) → ((x : ℕ) → x < 2 ^ h → weight (cover x) 2 second ≡ 0
        → ((weight (cover x) 2 first ≡ 0) × (x ≢ word)) ⊎ ((1 ≤ weight (cover x) 2 first)
        × (get_or cells (base + x) 0 ≡ 0))) → cells ≡ laid2
    left cells word k from inside holds n same off =
        is_laid cells holds n (λ y other. by y other.0 other.1 (nat_lt y base) (nat_lt (y - base) (2 ^ h)) refl refl)
      where
        outer : (y : ℕ) → (y < 9) ⊎ (8 + h < y) → (y < 8 + k) ⊎ (8 + h < y)
        outer y (inl c) = inl (omega arith)
        outer y (inr c) = inr c

        none_of : (y : ℕ) → (y < base) ⊎ (weight (cover (y - base)) 2 second ≡ 0) → base ≤ y
            → weight (cover (y - base)) 2 second ≡ 0
        none_of y (inl c) lo = absurd (omega arith)
        none_of y (inr c) lo = c

        at_word : (y : ℕ) → (y < 9) ⊎ (8 + h < y) → base ≤ y → y - base < 2 ^ h → weight (cover (y - base)) 2 second ≡ 0
            → ((weight (cover (y - base)) 2 first ≡ 0) × (y - base ≢ word))
            ⊎ ((1 ≤ weight (cover (y - base)) 2 first) × (get_or cells (base + (y - base)) 0 ≡ 0))
            → get_or cells y 0 ≡ get_or laid2 y 0
        at_word y out lo hi none (inl c) =
            same y (λ e. c.1 (omega arith)) (outer y out) ∙ laid_agree y out
            (λ l q. free_in_neither (y - base) hi c.0 none)
        at_word y out lo hi none (inr c) =
            let back : y ≡ base + (y - base) = omega arith in
            let two_is = laid_heap program limits statics store two stack lists2 top count2 apart2 main (y - base) hi in
            ap (λ z. get_or cells z 0) back ∙ c.1 ∙ sym (ap (λ z. get_or laid2 z 0) back ∙ two_is
            ∙ free_in_first (y - base) hi c.0 none)

        by : (y : ℕ) → (y < 9) ⊎ (8 + h < y) → (y < base) ⊎ (weight (cover (y - base)) 2 second ≡ 0) → (t u : Bool)
            → nat_lt y base ≡ t → nat_lt (y - base) (2 ^ h) ≡ u → get_or cells y 0 ≡ get_or laid2 y 0
        by y out other true u e f =
            let below = ltb-true y base e in
            same y (λ c. omega arith) (outer y out) ∙ laid_agree y out (λ lo hi. absurd (omega arith))
        by y out other false false e f =
            let lo = ltb-false y base e in
            let past = ltb-false (y - base) (2 ^ h) f in
            same y (λ c. omega arith) (outer y out) ∙ laid_agree y out (λ l q. absurd (omega arith))
        by y out other false true e f =
            let lo = ltb-false y base e in
            let hi = ltb-true (y - base) (2 ^ h) f in
            at_word y out lo hi (none_of y other lo) (off (y - base) hi (none_of y other lo))

-- ---- a take

apart_less : (program : Source) (size base : ℕ) (store : Store) (all blocks : List (ℕ × ℕ)) (first second : Book)
    → ((x : ℕ) → weight (cover x) 2 second ≤ weight (cover x) 2 first)
    → StandApart program size base store all blocks first → StandApart program size base store all blocks second
apart_less program size base store all [] first second less h = tt
apart_less program size base store all ((name, block) ∷ rest) first second less h = (
  h.0,
  (λ x lo hi. let a = h.1 x lo hi in let l = less x in omega arith),
  apart_less program size base store all rest first second less h.2,
)

-- if a word was free before and is not, it was in the block
in_block : (x block s w : ℕ) → 1 ≤ w → w ≡ cover x block s + 0 → (block ≤ x) × (x < block + s)
in_block x block s w one e = (omega arith, omega arith)

pub taken_law : TakenLaw
taken_law program limits statics store placing taken stack k block later cells is from t holds zeros changes =
    let kept = is.kept in
    let h = limits.heap in
    let base = heap_base h (length statics) in
    let book : Shown = record { h = h; base = base; free = placing.book; taken = taken } in
    let to = take_low book k block later kept from t in
    let lists = kept.lists in
    let took = take_took h k block placing.book later from kept.sound t in
    let n2 : length later ≡ h = took.count ∙ lists in
    let kept2 = take_kept book k block later kept from t n2 in
    let count1 = counted h base placing.book taken kept in
    let count2 = counted h base later (with_taken block k taken) kept2 in
    let weights : (x : ℕ) → weight (cover x) 2 placing.book ≡ cover x block (2 ^ k) + weight (cover x) 2 later =
    λ x. took.weights (cover x) (cover-additive x) in
    let apart2 = apart_less program (2 ^ h) base store placing.blocks placing.blocks placing.book later
    (λ x. let w = weights x in omega arith) is.apart in
    let word = changes.word in
    let free : weight (cover word) 2 placing.book ≡ 1 = changes.is_free in
    left program limits statics store placing.blocks stack placing.book later lists n2 kept.h_to count1 count2 is.apart
    apart2 is.main cells word k from (count1.within word (omega arith)) holds changes.count changes.same
    (λ x hi none. by base x (weights x) none free zeros (nat_eq (weight (cover x) 2 placing.book) 0) refl)
  where
    by : (base x : ℕ) → weight (cover x) 2 placing.book ≡ cover x block (2 ^ k) + weight (cover x) 2 later
        → weight (cover x) 2 later ≡ 0 → weight (cover changes.word) 2 placing.book ≡ 1
        → AllZero cells (base + block) (base + block + 2 ^ k) → (b : Bool)
        → nat_eq (weight (cover x) 2 placing.book) 0 ≡ b → ((weight (cover x) 2 placing.book ≡ 0) × (x ≢ changes.word))
        ⊎ ((1 ≤ weight (cover x) 2 placing.book) × (get_or cells (base + x) 0 ≡ 0))
    by base x w none free zeros true f =
        let z = eqb-true (weight (cover x) 2 placing.book) 0 f in
        inl (z, (λ e. let q = ap (λ u. weight (cover u) 2 placing.book) e in absurd (omega arith)))
    by base x w none free zeros false f =
        let nz = false-eqb (weight (cover x) 2 placing.book) 0 (sym f) in
        let there = in_block x block (2 ^ k) (weight (cover x) 2 placing.book) (omega arith) (omega arith) in
        let lo = there.0 in let hi = there.1 in
        inr (omega arith, zeros (base + x) (omega arith) (omega arith))

-- ---- a give

pub given_law : GivenLaw
given_law program limits statics store placing taken stack k block cells is from t apart2 holds changes =
    let kept = is.kept in
    let h = limits.heap in
    let base = heap_base h (length statics) in
    let book : Shown = record { h = h; base = base; free = placing.book; taken = taken } in
    let back = given_back book k block kept t in
    let to = back.order_to in
    let lists = kept.lists in
    let later = give_back placing.book k block in
    let gave = give_gave h k block placing.book from to lists kept.sound back.aligned back.fits in
    let n2 : length later ≡ h = gave.count ∙ lists in
    let kept2 = give_kept book k block kept from t n2 in
    let count1 = counted h base placing.book taken kept in
    let count2 = counted h base later (without_taken block taken) kept2 in
    let weights : (x : ℕ) → weight (cover x) 2 later ≡ cover x block (2 ^ k) + weight (cover x) 2 placing.book =
    λ x. gave.weights (cover x) (cover-additive x) in
    let word = changes.word in
    let free : weight (cover word) 2 later ≡ 1 = changes.is_free in
    left program limits statics store placing.blocks stack placing.book later lists n2 kept.h_to count1 count2 is.apart
    apart2 is.main cells word k from (count2.within word (omega arith)) holds changes.count changes.same
    (λ x hi none. inl (
      let w = weights x in omega arith,
      (λ e. let q = ap (λ u. weight (cover u) 2 later) e in
          absurd (omega arith)),
    ))
