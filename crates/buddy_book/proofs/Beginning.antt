-- The lists and the table of an empty heap, and the heads of lists.
use Rattle.std.proofs.Common.{◌≡◌, ℕ, zero, suc, ◌+◌, ◌-◌, ◌*◌, ◌^◌, ◌<◌, ◌≤◌, true, refl, sym, ap, subst, ◌∙◌, arith}
use Rattle.std.proofs.Common.{List, [], ◌∷◌, ◌++◌, length, replicate, reverse, Option, Some, slice_get, slice_set, ◌⊎◌}
use Rattle.std.proofs.Common.{inl, inr, Vec, Global, vec_len, vec_capacity}
use Rattle.std.specs.Option.{option_map, unwrap_or}
use Rattle.std.proofs.lemmas.Option.{slice_get-map, same_Some}
use Rattle.std.proofs.lemmas.List.{length-map, map-append, map-set, length-reverse}
use Rattle.std.proofs.Math.Nat.{pow-succ', mod-eq_of_lt}
use Rattle.buddy_book.specs.Book.{Book, start}
use Rattle.buddy_book.specs.Shown.{Shown, first_block, list_at, head_address, taken_from, is_sound_list, is_sound}
use Rattle.buddy_book.specs.Shown.{weight, IsKept}
use Rattle.buddy_book.specs.Stored.{list_of, free_of, HasRoom, shown_book, IsStored}
use Rattle.buddy_book.proofs.TakeGive.{sound_list, sound_head, doubled}
use Rattle.buddy_book.proofs.Orders.{doubled-order}
use Rattle.buddy_book.proofs.StoredLaws.{two_power, list_of-last}
use Rattle.std.proofs.lemmas.Bool.{and_parts, and_from}

-- lists that were made so far, for a heap of order h
pub record Begun (h count : ℕ) (lists : List (Vec ℕ Global)) : Type 0 where
  pub free : free_of lists ≡ replicate count []
  pub each : (at : ℕ) (list : Vec ℕ Global) → slice_get lists at ≡ Some list → 2 ^ (h - 1 - at) ≤ vec_capacity list

abbrev no_blocks : List ℕ
no_blocks = []

replicate-last : (n : ℕ) → replicate n no_blocks ++ no_blocks ∷ [] ≡ replicate (suc n) no_blocks
replicate-last zero = refl
replicate-last (suc n) = ap (λ l. no_blocks ∷ l) (replicate-last n)

length-replicate : {A : Type 0} (n : ℕ) (x : A) → length (replicate n x) ≡ n
length-replicate zero x = refl
length-replicate (suc n) x = ap suc (length-replicate n x)

slice_get-last : {X : Type 0} (xs : List X) (x y : X) (i : ℕ) → slice_get (xs ++ x ∷ []) i ≡ Some y
    → (slice_get xs i ≡ Some y) ⊎ ((i ≡ length xs) × (x ≡ y))
slice_get-last [] x y zero e = inr (refl, same_Some x y e)
slice_get-last [] x y (suc i) e = cc
slice_get-last (z ∷ xs) x y zero e = inl e
slice_get-last (z ∷ xs) x y (suc i) e = later (slice_get-last xs x y i e)
  where
    later : (slice_get xs i ≡ Some y) ⊎ ((i ≡ length xs) × (x ≡ y))
        → (slice_get xs i ≡ Some y) ⊎ ((suc i ≡ suc (length xs)) × (x ≡ y))
    later (inl h) = inl h
    later (inr h) = inr (ap suc h.0, h.1)

pub begun-more : (h count : ℕ) (lists after : List (Vec ℕ Global)) (list : Vec ℕ Global) → Begun h count lists
    → list.items ≡ [] → 2 ^ (h - 1 - count) ≤ vec_capacity list → after ≡ lists ++ list ∷ [] → Begun h (count + 1) after
begun-more h count lists after list begun empty room e =
    record {
      free = ap free_of e ∙ map-append list_of lists (list ∷ []) ∙ ap (λ b. b ++ list_of list ∷ []) begun.free
          ∙ ap (λ l. replicate count [] ++ l ∷ []) (ap reverse empty) ∙ replicate-last count
          ∙ ap (λ n. replicate n []) (let s : suc count ≡ count + 1 = omega arith in s);
      each = λ at l g. by at l (slice_get-last lists list l at (ap (λ x. slice_get x at) (sym e) ∙ g));
    }
  where
    many : length lists ≡ count
    many = sym (length-map lists list_of) ∙ ap length begun.free ∙ length-replicate count []

    by : (at : ℕ) (l : Vec ℕ Global) → (slice_get lists at ≡ Some l) ⊎ ((at ≡ length lists) × (list ≡ l))
        → 2 ^ (h - 1 - at) ≤ vec_capacity l
    by at l (inl g) = begun.each at l g
    by at l (inr s) =
        let P : ℕ → Type 0 = λ n. 2 ^ (h - 1 - n) ≤ vec_capacity list in
        let there : 2 ^ (h - 1 - at) ≤ vec_capacity list = subst P (sym (s.0 ∙ many)) room in
        let same = ap vec_capacity s.1 in
        omega arith

-- the heap is the one block of the highest order
pub start-set : (h : ℕ) → 1 ≤ h → start h ≡ slice_set (replicate h []) (h - 1) (0 ∷ [])
start-set zero e = absurd (omega arith)
start-set (suc n) e = last n ∙ ap (λ i. slice_set (replicate (suc n) []) i (0 ∷ []))
    (let s : n ≡ suc n - 1 = omega arith in s)
  where
    last : (n : ℕ) → start (suc n) ≡ slice_set (replicate (suc n) []) n (0 ∷ [])
    last zero = refl
    last (suc n) = ap (λ l. [] ∷ l) (last n)

length-start : (h : ℕ) → length (start h) ≡ h
length-start zero = refl
length-start (suc zero) = refl
length-start (suc (suc h)) = ap suc (length-start (suc h))

start-sound : (n size top : ℕ) → 0 < size → doubled n size ≡ top → is_sound top size (start (suc n)) ≡ true
start-sound zero size top pos e =
    and_from (is_sound_list top size (0 ∷ [])) _ (sound_list top size 0 []
    (record { aligned = mod-eq_of_lt pos; fits = omega arith; unmerged = refl; rest = refl })) refl
start-sound (suc n) size top pos e = start-sound n (2 * size) top (omega arith) e

start-weight : (f : ℕ → ℕ → ℕ) (n size : ℕ) → weight f size (start (suc n)) ≡ f 0 (doubled n size)
start-weight f zero size = omega arith
start-weight f (suc n) size = let w = start-weight f n (2 * size) in none_more (weight f (2 * size) (start (suc n))) ∙ w
  where
    none_more : (a : ℕ) → 0 + a ≡ a
    none_more a = omega arith

zeros-taken : (block n : ℕ) → taken_from block (replicate n 0) ≡ []
zeros-taken block zero = refl
zeros-taken block (suc n) = zeros-taken (2 + block) n

-- the allocator state of an empty heap has what every allocator state keeps
pub start-kept : (h base : ℕ) → 1 ≤ h → h ≤ 20 → base ≤ 2 ^ 21
    → IsKept (record { h = h; base = base; free = start h; taken = [] })
start-kept zero base from to base_to = absurd (omega arith)
start-kept (suc n) base from to base_to =
    let size : doubled n 2 ≡ 2 ^ suc n = ap (λ x. doubled x 2) (let s : n ≡ suc n - 1 = omega arith in s)
    ∙ doubled-order (suc n) from in
    record {
      h_from = from;
      h_to = to;
      base_to = base_to;
      lists = length-start (suc n);
      sound = start-sound n 2 (2 ^ suc n) (omega arith) size;
      aligned = refl;
      balanced = λ f additive. let w = start-weight f n 2 in let p = ap (f 0) size in omega arith;
    }

pub start-stored : (h base : ℕ) (lists : List (Vec ℕ Global)) (orders : List ℕ) → 1 ≤ h → h ≤ 20 → base ≤ 2 ^ 21
    → free_of lists ≡ start h → HasRoom lists → orders ≡ replicate (2 ^ (h - 1)) 0 → IsStored h base lists orders
start-stored h base lists orders from to base_to free room zeros =
    let none : taken_from 0 orders ≡ [] = ap (taken_from 0) zeros ∙ zeros-taken 0 (2 ^ (h - 1)) in
    let P : Book → Type 0 = λ b. IsKept (record { h = h; base = base; free = b; taken = taken_from 0 orders }) in
    let Q : List (ℕ × ℕ) → Type 0 = λ t. IsKept (record { h = h; base = base; free = start h; taken = t }) in
    record {
      kept = subst P (sym free) (subst Q (sym none) (start-kept h base from to base_to));
      room = room;
      table = ap (λ n. 2 * n) (ap length zeros ∙ length-replicate (2 ^ (h - 1)) 0) ∙ sym (pow-succ' 2 (h - 1))
          ∙ ap (λ n. 2 ^ n) (let s : suc (h - 1) ≡ h = omega arith in s);
    }

pub start-shown : (h base : ℕ) (lists : List (Vec ℕ Global)) (orders : List ℕ) → free_of lists ≡ start h
    → orders ≡ replicate (2 ^ (h - 1)) 0 → shown_book h base lists orders
    ≡ record { h = h; base = base; free = start h; taken = [] }
start-shown h base lists orders free zeros =
    let none : taken_from 0 orders ≡ [] = ap (taken_from 0) zeros ∙ zeros-taken 0 (2 ^ (h - 1)) in
    let of_free : Book → Shown = λ b. record { h = h; base = base; free = b; taken = taken_from 0 orders } in
    let of_taken : List (ℕ × ℕ) → Shown = λ t. record { h = h; base = base; free = start h; taken = t } in
    ap of_free free ∙ ap of_taken none

-- the head of a list, as it is stored
pub head_is : (h base k : ℕ) (lists : List (Vec ℕ Global)) (orders items : List ℕ) (book : Shown) (list : Vec ℕ Global)
    (half : Option ℕ) → shown_book h base lists orders ≡ book → slice_get lists (k - 1) ≡ Some list → items ≡ list.items
    → half ≡ first_block (reverse items) → option_map (λ b. base + b) half ≡ head_address book k
head_is h base k lists orders items book list half is at same head =
    ap (option_map (λ b. base + b)) (head ∙ ap (λ i. first_block (reverse i)) same ∙ ap first_block (sym listed))
    ∙ ap (λ s. head_address s k) is
  where
    listed : list_at (free_of lists) k ≡ list_of list
    listed = ap (λ o. unwrap_or o []) (slice_get-map list_of lists (k - 1) ∙ ap (option_map list_of) at)

-- a free block is below the end of the heap
head_below : (top i size block : ℕ) (free : List ℕ) (book : Book) → is_sound top size book ≡ true → 0 < size
    → slice_get book i ≡ Some (block ∷ free) → block < top
head_below top i size block free [] e pos at = cc
head_below top zero size block free (x ∷ higher) e pos at =
    let parts = and_parts (is_sound_list top size x) _ e in
    let head = sound_head top size block free
    (ap (is_sound_list top size) (sym (same_Some x (block ∷ free) at)) ∙ parts.0)
    in
    let fits = head.fits in
    omega arith
head_below top (suc i) size block free (x ∷ higher) e pos at =
    let parts = and_parts (is_sound_list top size x) _ e in
    head_below top i (2 * size) block free higher parts.1 (omega arith) at

first_of : (items : List ℕ) (block : ℕ) → first_block items ≡ Some block → (rest : List ℕ) × (items ≡ block ∷ rest)
first_of [] block e = cc
first_of (x ∷ rest) block e = (rest, ap (λ b. b ∷ rest) (same_Some x block e))

pub head_fits : (h base k block : ℕ) (lists : List (Vec ℕ Global)) (orders items : List ℕ) (list : Vec ℕ Global)
    → IsStored h base lists orders → slice_get lists (k - 1) ≡ Some list → items ≡ list.items
    → Some block ≡ first_block (reverse items) → base + block < 4294967296
head_fits h base k block lists orders items list stored at same head =
    let first = first_of (list_of list) block (ap (λ i. first_block (reverse i)) (sym same) ∙ sym head) in
    let listed : slice_get (free_of lists) (k - 1) ≡ Some (block ∷ first.0) = slice_get-map list_of lists (k - 1)
    ∙ ap (option_map list_of) at ∙ ap (λ l. Some l) first.1 in
    let below = head_below (2 ^ h) (k - 1) 2 block first.0 (free_of lists) stored.kept.sound (omega arith) listed in
    let top = two_power h stored.kept.h_to in
    let most = stored.kept.base_to in
    let a : 2 ^ 20 ≡ 1048576 = refl in
    let b : 2 ^ 21 ≡ 2097152 = refl in
    omega arith

replicate-at : (n i : ℕ) (x : List ℕ) → slice_get (replicate n no_blocks) i ≡ Some x → x ≡ []
replicate-at zero i x e = cc
replicate-at (suc n) zero x e = sym (same_Some no_blocks x e)
replicate-at (suc n) (suc i) x e = replicate-at n i x e

-- a list of a book whose lists are empty
pub list_empty : (h at : ℕ) (lists : List (Vec ℕ Global)) (list : Vec ℕ Global) → free_of lists ≡ replicate h []
    → slice_get lists at ≡ Some list → list_of list ≡ []
list_empty h at lists list free e =
    replicate-at h at (list_of list) (ap (λ b. slice_get b at) (sym free) ∙ slice_get-map list_of lists at
    ∙ ap (option_map list_of) e)

pub list_len : (list : Vec ℕ Global) → list_of list ≡ [] → vec_len list ≡ 0
list_len list e = list.ok.0 ∙ sym (length-reverse list.items) ∙ ap length e

-- the whole heap, put at the head of the last list
pub start-put : (h : ℕ) (lists : List (Vec ℕ Global)) (list put : Vec ℕ Global) → 1 ≤ h → free_of lists ≡ replicate h []
    → slice_get lists (h - 1) ≡ Some list → put.items ≡ list.items ++ 0 ∷ []
    → free_of (slice_set lists (h - 1) put) ≡ start h
start-put h lists list put from free at e =
    map-set list_of lists (h - 1) put
    ∙ ap (λ l. slice_set (free_of lists) (h - 1) l) (list_of-last put list 0 e
    ∙ ap (λ l. 0 ∷ l) (list_empty h (h - 1) lists list free at))
    ∙ ap (λ b. slice_set b (h - 1) (0 ∷ [])) free
    ∙ sym (start-set h from)

pub list_count : (h : ℕ) (lists : List (Vec ℕ Global)) → free_of lists ≡ replicate h [] → length lists ≡ h
list_count h lists free = sym (length-map lists list_of) ∙ ap length free ∙ length-replicate h []
