-- Words that are laid over others.
use Rattle.std.proofs.Common.{◌≡◌, ◌≢◌, ◌∙◌, ℕ, ◌+◌, ◌-◌, ◌*◌, ◌<◌, ◌≤◌, Bool, true, false, List, [], ◌∷◌, ◌++◌, length}
use Rattle.std.proofs.Common.{refl, sym, ap, subst, arith, get_or, take, drop, nat_lt, ltb-true, ltb-false}
use Rattle.std.proofs.lemmas.List.{get_or_append_left, get_or-take, get_or-drop, length-take, length-drop}
use Rattle.std.proofs.lemmas.List.{length-append, take_all}
use Rattle.std.proofs.Math.Seq.{get_or-append_right}
use Rattle.buddy_pisa.specs.buddy_book.Book.{Book}
use Rattle.buddy_pisa.specs.buddy_book.Shown.{list_weight, weight, cover, first_address}
use Rattle.roopl_semantics.specs.Layout.{overlaid, with_links, with_book}

module _ (words : List ℕ) (at : ℕ) (new : List ℕ) (fits : at + length new ≤ length words) where
  all_new : take (length words - at) new ≡ new
  all_new = take_all (length words - at) new (omega arith)

  front : List ℕ
  front = take at words

  is : overlaid words at new ≡ (take at words ++ new) ++ drop (at + length new) words
  is = ap (λ z. (take at words ++ z) ++ drop (at + length new) words) all_new

  front_length : length (take at words) ≡ at
  front_length = length-take at words ∙ omega arith

  middle_length : length (take at words ++ new) ≡ at + length new
  middle_length = length-append (take at words) new ∙ ap (λ z. z + length new) front_length

  pub overlaid_length : length (overlaid words at new) ≡ length words
  overlaid_length = ap length is ∙ length-append (take at words ++ new) (drop (at + length new) words)
      ∙ (let m = middle_length in let d = length-drop (at + length new) words in omega arith)

  pub overlaid_before : (x : ℕ) → x < at → get_or (overlaid words at new) x 0 ≡ get_or words x 0
  overlaid_before x h =
      let m = middle_length in let f = front_length in
      ap (λ z. get_or z x 0) is
      ∙ get_or_append_left (take at words ++ new) (drop (at + length new) words) 0 x (omega arith)
      ∙ get_or_append_left (take at words) new 0 x (omega arith)
      ∙ get_or-take at words x 0 h

  pub overlaid_in : (x : ℕ) → at ≤ x → x < at + length new → get_or (overlaid words at new) x 0 ≡ get_or new (x - at) 0
  overlaid_in x lo hi =
      let m = middle_length in let f = front_length in
      ap (λ z. get_or z x 0) is
      ∙ get_or_append_left (take at words ++ new) (drop (at + length new) words) 0 x (omega arith)
      ∙ get_or-append_right (take at words) new x 0 (omega arith)
      ∙ ap (λ i. get_or new (x - i) 0) f

  pub overlaid_after : (x : ℕ) → at + length new ≤ x → get_or (overlaid words at new) x 0 ≡ get_or words x 0
  overlaid_after x h =
      let m = middle_length in
      let e : at + length new + (x - (at + length new)) ≡ x = omega arith in
      ap (λ z. get_or z x 0) is
      ∙ get_or-append_right (take at words ++ new) (drop (at + length new) words) x 0 (omega arith)
      ∙ ap (λ i. get_or (drop (at + length new) words) (x - i) 0) m
      ∙ get_or-drop (at + length new) words (x - (at + length new)) 0
      ∙ ap (λ i. get_or words i 0) e

-- one word
pub one_length : (words : List ℕ) (at v : ℕ) → at < length words → length (overlaid words at (v ∷ [])) ≡ length words
one_length words at v h = overlaid_length words at (v ∷ []) (omega arith)

pub one_same : (words : List ℕ) (at v : ℕ) → at < length words → get_or (overlaid words at (v ∷ [])) at 0 ≡ v
one_same words at v h = overlaid_in words at (v ∷ []) (omega arith) at (omega arith) (omega arith)
    ∙ ap (λ i. get_or (v ∷ []) i 0) (let e : at - at ≡ 0 = omega arith in e)

pub one_other : (words : List ℕ) (at v x : ℕ) → at < length words → x ≢ at
    → get_or (overlaid words at (v ∷ [])) x 0 ≡ get_or words x 0
one_other words at v x h ne = by (nat_lt x at) refl
  where
    by : (t : Bool) → nat_lt x at ≡ t → get_or (overlaid words at (v ∷ [])) x 0 ≡ get_or words x 0
    by true f = overlaid_before words at (v ∷ []) (omega arith) x (ltb-true x at f)
    by false f = let k = ltb-false x at f in overlaid_after words at (v ∷ []) (omega arith) x (omega arith)

-- ---- links

-- the words of free blocks of this size
abbrev pub LinkedList : (base size : ℕ) → List ℕ → List ℕ → Type 0
LinkedList base size [] words = Unit {0}
LinkedList base size (block ∷ free) words =
    (get_or words block 0 ≡ first_address base free) × ((x : ℕ) → block < x → x < block + size → get_or words x 0 ≡ 0)
    × LinkedList base size free words

abbrev pub LinkedLists : (base size : ℕ) → Book → List ℕ → Type 0
LinkedLists base size [] words = Unit {0}
LinkedLists base size (free ∷ higher) words = LinkedList base size free words × LinkedLists base (2 * size) higher words

-- blocks within the words
abbrev pub FitList : (top size : ℕ) → List ℕ → Type 0
FitList top size [] = Unit {0}
FitList top size (block ∷ free) = (block + size ≤ top) × FitList top size free

abbrev pub FitLists : (top size : ℕ) → Book → Type 0
FitLists top size [] = Unit {0}
FitLists top size (free ∷ higher) = FitList top size free × FitLists top (2 * size) higher

pub record Linked (size : ℕ) (free words after : List ℕ) : Type 0 where
  pub count : length after ≡ length words
  pub other : (x : ℕ) → list_weight (cover x) size free ≡ 0 → get_or after x 0 ≡ get_or words x 0

covered : (x block s : ℕ) → block ≤ x → x < block + s → cover x block s ≡ 1
covered x block s lo hi = omega arith

pub links_other : (base size : ℕ) (free words : List ℕ) → 1 ≤ size → FitList (length words) size free
    → Linked size free words (with_links base free words)
links_other base size [] words one fit = record { count = refl; other = λ x w. refl }
links_other base size (block ∷ free) words one fit =
    let v = first_address base free in
    let next = overlaid words block (v ∷ []) in
    let inside : block < length words = let f = fit.0 in omega arith in
    let n = one_length words block v inside in
    let r = links_other base size free next one (subst (λ z. FitList z size free) (sym n) fit.1) in
    record {
      count = r.count ∙ n;
      other = λ x w. r.other x (omega arith) ∙ one_other words block v x inside
          (λ e. let c = covered block block size (omega arith) (omega arith) in
          let d = ap (λ z. cover z block size) e in omega arith);
    }

pub links_linked : (base size : ℕ) (free words : List ℕ) → 1 ≤ size → FitList (length words) size free
    → ((x : ℕ) → list_weight (cover x) size free ≤ 1) → ((x : ℕ) → 1 ≤ list_weight (cover x) size free
    → get_or words x 0 ≡ 0) → LinkedList base size free (with_links base free words)
links_linked base size [] words one fit once zeros = tt
links_linked base size (block ∷ free) words one fit once zeros =
    let v = first_address base free in
    let next = overlaid words block (v ∷ []) in
    let inside : block < length words = let f = fit.0 in omega arith in
    let n = one_length words block v inside in
    let fits : FitList (length next) size free = subst (λ z. FitList z size free) (sym n) fit.1 in
    let r = links_other base size free next one fits in
    let apart : (x : ℕ) → block ≤ x → x < block + size → list_weight (cover x) size free ≡ 0 = λ x lo hi. let o =
    once x in let c = covered x block size lo hi in omega arith in (
      r.other block (apart block (omega arith) (omega arith)) ∙ one_same words block v inside,
      (λ x lo hi. r.other x (apart x (omega arith) hi) ∙ one_other words block v x inside (λ e. omega arith)
          ∙ zeros x (let c = covered x block size (omega arith) hi in omega arith)),
      links_linked base size free next one fits (λ x. let o = once x in omega arith)
          (λ x w. one_other words block v x inside (λ e. let o = once x in
          let c = covered block block size (omega arith) (omega arith) in
          let d = ap (λ z. cover z block size) e in omega arith) ∙ zeros x (omega arith)),
    )

-- words that agree on the blocks are linked too
pub linked_agree : (base size : ℕ) (free words other : List ℕ) → 1 ≤ size
    → ((x : ℕ) → 1 ≤ list_weight (cover x) size free → get_or other x 0 ≡ get_or words x 0)
    → LinkedList base size free words → LinkedList base size free other
linked_agree base size [] words other one k h = tt
linked_agree base size (block ∷ free) words other one k h = (
  k block (let c = covered block block size (omega arith) (omega arith) in omega arith) ∙ h.0,
  (λ x lo hi. k x (let c = covered x block size (omega arith) hi in omega arith) ∙ h.1 x lo hi),
  linked_agree base size free words other one (λ x w. k x (omega arith)) h.2,
)

pub lists_agree : (base size : ℕ) (book : Book) (words other : List ℕ) → 1 ≤ size
    → ((x : ℕ) → 1 ≤ weight (cover x) size book → get_or other x 0 ≡ get_or words x 0)
    → LinkedLists base size book words → LinkedLists base size book other
lists_agree base size [] words other one k h = tt
lists_agree base size (free ∷ higher) words other one k h = (
  linked_agree base size free words other one (λ x w. k x (omega arith)) h.0,
  lists_agree base (2 * size) higher words other (omega arith) (λ x w. k x (omega arith)) h.1,
)

pub record Booked (size : ℕ) (book : Book) (words after : List ℕ) : Type 0 where
  pub count : length after ≡ length words
  pub other : (x : ℕ) → weight (cover x) size book ≡ 0 → get_or after x 0 ≡ get_or words x 0

pub book_other : (base size : ℕ) (book : Book) (words : List ℕ) → 1 ≤ size → FitLists (length words) size book
    → Booked size book words (with_book base book words)
book_other base size [] words one fit = record { count = refl; other = λ x w. refl }
book_other base size (free ∷ higher) words one fit =
    let l = links_other base size free words one fit.0 in
    let r = book_other base (2 * size) higher (with_links base free words) (omega arith)
    (subst (λ z. FitLists z (2 * size) higher) (sym l.count) fit.1) in
    record { count = r.count ∙ l.count; other = λ x w. r.other x (omega arith) ∙ l.other x (omega arith) }

pub book_linked : (base size : ℕ) (book : Book) (words : List ℕ) → 1 ≤ size → FitLists (length words) size book
    → ((x : ℕ) → weight (cover x) size book ≤ 1) → ((x : ℕ) → 1 ≤ weight (cover x) size book → get_or words x 0 ≡ 0)
    → LinkedLists base size book (with_book base book words)
book_linked base size [] words one fit once zeros = tt
book_linked base size (free ∷ higher) words one fit once zeros =
    let next = with_links base free words in
    let l = links_other base size free words one fit.0 in
    let fits : FitLists (length next) (2 * size) higher =
    subst (λ z. FitLists z (2 * size) higher) (sym l.count) fit.1 in
    let r = book_other base (2 * size) higher next (omega arith) fits in
    let here = links_linked base size free words one fit.0 (λ x. let o = once x in omega arith)
    (λ x w. zeros x (omega arith)) in (
      linked_agree base size free next (with_book base higher next) one
          (λ x w. r.other x (let o = once x in omega arith)) here,
      book_linked base (2 * size) higher next (omega arith) fits (λ x. let o = once x in omega arith)
          (λ x w. l.other x (let o = once x in omega arith) ∙ zeros x (omega arith)),
    )
