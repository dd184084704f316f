-- Takes and gives on the lists as they are stored.
use Rattle.std.proofs.Common.{◌≡◌, ℕ, zero, suc, ◌+◌, ◌-◌, ◌*◌, ◌^◌, ◌<◌, ◌≤◌, true, refl, sym, ap, subst, ◌∙◌, arith}
use Rattle.std.proofs.Common.{List, [], ◌∷◌, ◌++◌, length, reverse, Option, Some, None, slice_get, slice_set}
use Rattle.std.proofs.Common.{slice_index_or, ◌⊎◌, inl, inr, Vec, Global, vec_len, vec_capacity}
use Rattle.std.specs.Prelude.{IfSome}
use Rattle.std.specs.Option.{option_map, option_to_list}
use Rattle.std.proofs.lemmas.Option.{slice_get-map, slice_get-get_or, same_Some}
use Rattle.std.proofs.lemmas.List.{map-set, length-map, length-set, length-reverse, reverse-append}
use Rattle.std.proofs.Math.Nat.{pow-succ', pow-le-pow_right, le_of_mul-le-mul_right}
use Rattle.std.proofs.lemmas.Nat.{pow-add}
use Rattle.buddy_book.specs.Book.{Book, below_taken, take_past, take, lower_half, give_past, give_back}
use Rattle.buddy_book.specs.Shown.{is_sound, list_weight, weight, size_of}
use Rattle.buddy_book.specs.Stored.{list_of, free_of, HasRoom}
use Rattle.buddy_book.proofs.TakeGive.{doubled, lower_half-some}
use Rattle.buddy_book.proofs.Orders.{take_past-head, upper_at, take_past-empty, take_past-above, give_past-merge}
use Rattle.buddy_book.proofs.Orders.{give_past-head, doubled-order, take_took, pow_pos, order_below}

-- the list of an order, as it is stored
free_of-at : (lists : List (Vec ℕ Global)) (at : ℕ) (list : Vec ℕ Global) → slice_get lists at ≡ Some list
    → slice_get (free_of lists) at ≡ Some (list_of list)
free_of-at lists at list e = slice_get-map list_of lists at ∙ ap (option_map list_of) e

pub take-above : (lists : List (Vec ℕ Global)) (k : ℕ) → length lists ≤ k - 1 → take (free_of lists) k ≡ None
take-above lists k h = take_past-above (k - 1) (2 ^ k) (free_of lists) (let e = length-map lists list_of in omega arith)

pub list_of-last : (list rest : Vec ℕ Global) (block : ℕ) → list.items ≡ rest.items ++ block ∷ []
    → list_of list ≡ block ∷ list_of rest
list_of-last list rest block e = ap reverse e ∙ reverse-append rest.items (block ∷ [])

pub take-head : (lists : List (Vec ℕ Global)) (k block : ℕ) (list rest : Vec ℕ Global)
    → slice_get lists (k - 1) ≡ Some list → list.items ≡ rest.items ++ block ∷ []
    → take (free_of lists) k ≡ Some (block, free_of (slice_set lists (k - 1) rest))
take-head lists k block list rest at e =
    take_past-head (k - 1) (2 ^ k) block (list_of rest) (free_of lists)
    (free_of-at lists (k - 1) list at ∙ ap (λ l. Some l) (list_of-last list rest block e))
    ∙ ap (λ b. head_pair block b) (sym (map-set list_of lists (k - 1) rest))
  where
    head_pair : ℕ → Book → Option (ℕ × Book)
    head_pair b rest = Some (b, rest)

pub take-popped : (lists : List (Vec ℕ Global)) (k : ℕ) (result : Option ℕ) (list rest : Vec ℕ Global)
    → slice_get lists (k - 1) ≡ Some list → list.items ≡ rest.items ++ option_to_list result
    → IfSome result (λ block. take (free_of lists) k ≡ Some (block, free_of (slice_set lists (k - 1) rest)))
take-popped lists k None list rest at e = tt
take-popped lists k (Some block) list rest at e = take-head lists k block list rest at e

-- a take of an order leaves the lists of lower orders
abbrev pub LeavesAt : ℕ → Book → Option (ℕ × Book) → Type 0
LeavesAt i book None = Unit {0}
LeavesAt i book (Some (block, after)) = slice_get after i ≡ slice_get book i

leaves_first : (free : List ℕ) (higher : Book) (taken : Option (ℕ × Book))
    → LeavesAt 0 (free ∷ higher) (below_taken free taken)
leaves_first free higher None = tt
leaves_first free higher (Some (block, after)) = refl

leaves_later : (i : ℕ) (free : List ℕ) (higher : Book) (taken : Option (ℕ × Book)) → LeavesAt i higher taken
    → LeavesAt (suc i) (free ∷ higher) (below_taken free taken)
leaves_later i free higher None h = tt
leaves_later i free higher (Some (block, after)) h = h

take_past-leaves : (lower i size : ℕ) (book : Book) → i < lower → LeavesAt i book (take_past lower size book)
take_past-leaves zero i size book h = absurd (omega arith)
take_past-leaves (suc lower) i size [] h = tt
take_past-leaves (suc lower) zero size (free ∷ higher) h = leaves_first free higher (take_past lower size higher)
take_past-leaves (suc lower) (suc i) size (free ∷ higher) h =
    leaves_later i free higher (take_past lower size higher) (take_past-leaves lower i size higher (omega arith))

empty_items : (items : List ℕ) → length items ≡ 0 → items ≡ []
empty_items [] e = refl
empty_items (x ∷ xs) e = absurd (omega arith)

-- a take if the list of the order is empty
take_below : (book : Book) (k : ℕ) → 1 ≤ k → slice_get book (k - 1) ≡ Some []
    → take book k ≡ upper_at (k - 1) (2 ^ k) (take book (k + 1))
take_below book zero h e = absurd (omega arith)
take_below book (suc n) h e =
    let same : suc n - 1 ≡ n = omega arith in
    let next : suc n + 1 - 1 ≡ suc n = omega arith in
    let size : 2 * 2 ^ suc n ≡ 2 ^ (suc n + 1) = sym (pow-succ' 2 (suc n))
    ∙ ap (λ x. 2 ^ x) (let s : suc (suc n) ≡ suc n + 1 = omega arith in s) in
    take_past-empty (suc n - 1) (2 ^ suc n) book e
    ∙ ap (λ x. upper_at (suc n - 1) (2 ^ suc n) (take_past (suc x) (2 * 2 ^ suc n) book)) same
    ∙ ap (λ s. upper_at (suc n - 1) (2 ^ suc n) (take_past (suc n) s book)) size
    ∙ ap (λ x. upper_at (suc n - 1) (2 ^ suc n) (take_past x (2 ^ (suc n + 1)) book)) (sym next)

pub take-none : (lists : List (Vec ℕ Global)) (k : ℕ) (list : Vec ℕ Global) → 1 ≤ k
    → slice_get lists (k - 1) ≡ Some list → length list.items ≡ 0 → take (free_of lists) (k + 1) ≡ None
    → take (free_of lists) k ≡ None
take-none lists k list from at empty e =
    let is_empty : slice_get (free_of lists) (k - 1) ≡ Some [] = free_of-at lists (k - 1) list at
    ∙ ap (λ l. Some (reverse l)) (empty_items list.items empty) in
    take_below (free_of lists) k from is_empty ∙ ap (upper_at (k - 1) (2 ^ k)) e

-- what a take of the next order left is still empty
later_list : (lists later : List (Vec ℕ Global)) (k low : ℕ) (list now_list : Vec ℕ Global)
    → slice_get lists (k - 1) ≡ Some list → length list.items ≡ 0
    → take (free_of lists) (k + 1) ≡ Some (low, free_of later) → slice_get later (k - 1) ≡ Some now_list → 1 ≤ k
    → list_of now_list ≡ []
later_list lists later k low list now_list at empty e now_at from =
    let is_empty : slice_get (free_of lists) (k - 1) ≡ Some [] = free_of-at lists (k - 1) list at
    ∙ ap (λ l. Some (reverse l)) (empty_items list.items empty) in
    let leaves : LeavesAt (k - 1) (free_of lists) (take (free_of lists) (k + 1)) =
    take_past-leaves (k + 1 - 1) (k - 1) (2 ^ (k + 1)) (free_of lists) (omega arith) in
    let P : Option (ℕ × Book) → Type 0 = LeavesAt (k - 1) (free_of lists) in
    let left : slice_get (free_of later) (k - 1) ≡ slice_get (free_of lists) (k - 1) = subst P e leaves in
    same_Some (list_of now_list) [] (sym (free_of-at later (k - 1) now_list now_at) ∙ left ∙ is_empty)

pub later-empty : (lists later : List (Vec ℕ Global)) (k low : ℕ) (list now_list : Vec ℕ Global)
    → slice_get lists (k - 1) ≡ Some list → length list.items ≡ 0
    → take (free_of lists) (k + 1) ≡ Some (low, free_of later) → slice_get later (k - 1) ≡ Some now_list → 1 ≤ k
    → length now_list.items ≡ 0
later-empty lists later k low list now_list at empty e now_at from =
    sym (length-reverse now_list.items) ∙ ap length (later_list lists later k low list now_list at empty e now_at from)

pub take-upper : (lists later : List (Vec ℕ Global)) (k low : ℕ) (list now_list put : Vec ℕ Global) → 1 ≤ k
    → slice_get lists (k - 1) ≡ Some list → length list.items ≡ 0
    → take (free_of lists) (k + 1) ≡ Some (low, free_of later) → slice_get later (k - 1) ≡ Some now_list
    → put.items ≡ now_list.items ++ low ∷ [] → take (free_of lists) k
    ≡ Some (low + 2 ^ k, free_of (slice_set later (k - 1) put))
take-upper lists later k low list now_list put from at empty e now_at is_put =
    let is_empty : slice_get (free_of lists) (k - 1) ≡ Some [] = free_of-at lists (k - 1) list at
    ∙ ap (λ l. Some (reverse l)) (empty_items list.items empty) in
    let still = later_list lists later k low list now_list at empty e now_at from in
    let put_is : list_of put ≡ low ∷ [] = list_of-last put now_list low is_put ∙ ap (λ l. low ∷ l) still in
    take_below (free_of lists) k from is_empty
    ∙ ap (upper_at (k - 1) (2 ^ k)) e
    ∙ ap (λ l. upper_pair (low + 2 ^ k) (slice_set (free_of later) (k - 1) l)) (sym put_is)
    ∙ ap (upper_pair (low + 2 ^ k)) (sym (map-set list_of later (k - 1) put))
  where
    upper_pair : ℕ → Book → Option (ℕ × Book)
    upper_pair b rest = Some (b, rest)

pub two_power : (h : ℕ) → h ≤ 20 → 2 ^ h ≤ 2 ^ 20
two_power h to = pow-le-pow_right {n = 2} (omega arith) {i = h} {j = 20} to

-- the upper half of what is taken ends in the heap
pub upper-fits : (lists later : List (Vec ℕ Global)) (k low : ℕ) → 1 ≤ k → k ≤ 20 → length lists ≤ 20
    → is_sound (2 ^ length lists) 2 (free_of lists) ≡ true → take (free_of lists) (k + 1) ≡ Some (low, free_of later)
    → low + 2 ^ k < 4294967296
upper-fits lists later k low from to lists_to sound e =
    let took = take_took (length lists) (k + 1) low (free_of lists) (free_of later) (omega arith) sound e in
    let fits = took.fits in
    let size : 2 ^ (k + 1) ≡ 2 * 2 ^ k = ap (λ x. 2 ^ x) (let s : k + 1 ≡ suc k = omega arith in s) ∙ pow-succ' 2 k in
    let top : 2 ^ length lists ≤ 2 ^ 20 = two_power (length lists) lists_to in
    let number : 2 ^ 20 ≡ 1048576 = refl in
    omega arith

-- space remains if a list's capacity does not fall
slice_get-set : {X : Type 0} (xs : List X) (i j : ℕ) (x y : X) → slice_get (slice_set xs i x) j ≡ Some y
    → (slice_get xs j ≡ Some y) ⊎ ((i ≡ j) × (y ≡ x))
slice_get-set [] i j x y e = cc
slice_get-set (z ∷ xs) zero zero x y e = inr (refl, sym (same_Some x y e))
slice_get-set (z ∷ xs) zero (suc j) x y e = inl e
slice_get-set (z ∷ xs) (suc i) zero x y e = inl e
slice_get-set (z ∷ xs) (suc i) (suc j) x y e = later (slice_get-set xs i j x y e)
  where
    later : (slice_get xs j ≡ Some y) ⊎ ((i ≡ j) × (y ≡ x)) → (slice_get xs j ≡ Some y) ⊎ ((suc i ≡ suc j) × (y ≡ x))
    later (inl h) = inl h
    later (inr h) = inr (ap suc h.0, h.1)

pub HasRoom-set : (lists : List (Vec ℕ Global)) (at : ℕ) (list new : Vec ℕ Global) → HasRoom lists
    → slice_get lists at ≡ Some list → vec_capacity list ≤ vec_capacity new → HasRoom (slice_set lists at new)
HasRoom-set lists at list new room e h =
    record { each = λ i l g. by i l (slice_get-set lists at i new l g) }
  where
    count : length (slice_set lists at new) ≡ length lists
    count = length-set lists at new

    Enough : ℕ → Vec ℕ Global → ℕ → Type 0
    Enough i l n = 2 ^ (n - 1 - i) ≤ vec_capacity l

    by : (i : ℕ) (l : Vec ℕ Global) → (slice_get lists i ≡ Some l) ⊎ ((at ≡ i) × (l ≡ new))
        → 2 ^ (length (slice_set lists at new) - 1 - i) ≤ vec_capacity l
    by i l (inl g) = subst (Enough i l) (sym count) (room.each i l g)
    by i l (inr s) =
        let here : 2 ^ (length lists - 1 - at) ≤ vec_capacity list = room.each at list e in
        let P : ℕ → Type 0 = λ n. 2 ^ (length lists - 1 - n) ≤ vec_capacity list in
        let there : 2 ^ (length lists - 1 - i) ≤ vec_capacity list = subst P s.0 here in
        let new_one : vec_capacity l ≡ vec_capacity new = ap vec_capacity s.1 in
        subst (Enough i l) (sym count) (omega arith)

-- an empty list has space
pub room-empty : (lists : List (Vec ℕ Global)) (at : ℕ) (list : Vec ℕ Global) → HasRoom lists
    → slice_get lists at ≡ Some list → vec_len list ≡ 0 → vec_len list < vec_capacity list
room-empty lists at list room e empty =
    let enough = room.each at list e in
    let some = pow_pos (length lists - 1 - at) in
    omega arith

-- a give if the block merges
give_above : (book : Book) (k block low : ℕ) (free : List ℕ) → 1 ≤ k → slice_get book (k - 1) ≡ Some free
    → lower_half (2 ^ k) block free ≡ Some low → give_back book k block
    ≡ give_back (slice_set book (k - 1) []) (k + 1) low
give_above book zero block low free h e is = absurd (omega arith)
give_above book (suc n) block low free h e is =
    let same : suc n - 1 ≡ n = omega arith in
    let next : suc n + 1 - 1 ≡ suc n = omega arith in
    let size : 2 * 2 ^ suc n ≡ 2 ^ (suc n + 1) = sym (pow-succ' 2 (suc n))
    ∙ ap (λ x. 2 ^ x) (let s : suc (suc n) ≡ suc n + 1 = omega arith in s) in
    let emptied = slice_set book (suc n - 1) [] in
    give_past-merge (suc n - 1) (2 ^ suc n) block low free book e is
    ∙ ap (λ x. give_past (suc x) (2 * 2 ^ suc n) low emptied) same
    ∙ ap (λ s. give_past (suc n) s low emptied) size
    ∙ ap (λ x. give_past x (2 ^ (suc n + 1)) low emptied) (sym next)

pub give-merge : (lists : List (Vec ℕ Global)) (k block low : ℕ) (list emptied : Vec ℕ Global) → 1 ≤ k
    → slice_get lists (k - 1) ≡ Some list → lower_half (2 ^ k) block (list_of list) ≡ Some low → emptied.items ≡ []
    → give_back (free_of lists) k block ≡ give_back (free_of (slice_set lists (k - 1) emptied)) (k + 1) low
give-merge lists k block low list emptied from at is empty =
    give_above (free_of lists) k block low (list_of list) from (free_of-at lists (k - 1) list at) is
    ∙ ap (λ l. give_back (slice_set (free_of lists) (k - 1) l) (k + 1) low) (sym (ap reverse empty))
    ∙ ap (λ b. give_back b (k + 1) low) (sym (map-set list_of lists (k - 1) emptied))

pub give-head : (lists : List (Vec ℕ Global)) (k block : ℕ) (list put : Vec ℕ Global)
    → slice_get lists (k - 1) ≡ Some list → lower_half (2 ^ k) block (list_of list) ≡ None
    → put.items ≡ list.items ++ block ∷ [] → free_of (slice_set lists (k - 1) put) ≡ give_back (free_of lists) k block
give-head lists k block list put at is e =
    map-set list_of lists (k - 1) put
    ∙ ap (λ l. slice_set (free_of lists) (k - 1) l) (list_of-last put list block e)
    ∙ sym (give_past-head (k - 1) (2 ^ k) block (list_of list) (free_of lists) (free_of-at lists (k - 1) list at) is)

-- the order and the words of a merged block
pub record Merged (h k block low : ℕ) : Type 0 where
  pub order_to : k + 1 ≤ h
  pub fits : low + 2 ^ (k + 1) ≤ 2 ^ h

pub merged_fits : (h k block low : ℕ) (free : List ℕ) → lower_half (2 ^ k) block free ≡ Some low → block + 2 ^ k ≤ 2 ^ h
    → Merged h k block low
merged_fits h k block low free is fits =
    let merge = lower_half-some (2 ^ k) block low free is in
    let upper = merge.upper in
    let size : 2 ^ (k + 1) ≡ 2 * 2 ^ k = ap (λ x. 2 ^ x) (let s : k + 1 ≡ suc k = omega arith in s) ∙ pow-succ' 2 k in
    record { order_to = order_below (k + 1) h (omega arith); fits = omega arith }

-- the weight of a book whose list of one order changes
weight-set : (f : ℕ → ℕ → ℕ) (lower size : ℕ) (free new : List ℕ) (book : Book) → slice_get book lower ≡ Some free
    → weight f size book + list_weight f (doubled lower size) new
    ≡ weight f size (slice_set book lower new) + list_weight f (doubled lower size) free
weight-set f lower size free new [] e = cc
weight-set f zero size free new (x ∷ book) e =
    let same = ap (list_weight f size) (same_Some x free e) in omega arith
weight-set f (suc lower) size free new (x ∷ book) e = let w = weight-set f lower (2 * size) free new book e in
    omega arith

order_weight : (k : ℕ) (free new : List ℕ) (book : Book) → 1 ≤ k → slice_get book (k - 1) ≡ Some free
    → weight size_of 2 book + list_weight size_of (2 ^ k) new
    ≡ weight size_of 2 (slice_set book (k - 1) new) + list_weight size_of (2 ^ k) free
order_weight k free new book from e =
    let P : ℕ → Type 0 = λ s. weight size_of 2 book + list_weight size_of s new
    ≡ weight size_of 2 (slice_set book (k - 1) new) + list_weight size_of s free in
    subst P (doubled-order k from) (weight-set size_of (k - 1) 2 free new book e)

-- the free words if a block has merged
pub merged_words : (lists : List (Vec ℕ Global)) (h k block low : ℕ) (list emptied : Vec ℕ Global) → 1 ≤ k
    → slice_get lists (k - 1) ≡ Some list → lower_half (2 ^ k) block (list_of list) ≡ Some low → emptied.items ≡ []
    → weight size_of 2 (free_of lists) + 2 ^ k ≤ 2 ^ h → weight size_of 2 (free_of (slice_set lists (k - 1) emptied)) +
    2 ^ (k + 1) ≤ 2 ^ h
merged_words lists h k block low list emptied from at is empty room =
    let merge = lower_half-some (2 ^ k) block low (list_of list) is in
    let alone = ap (list_weight size_of (2 ^ k)) merge.alone in
    let w = order_weight k (list_of list) (list_of emptied) (free_of lists) from (free_of-at lists (k - 1) list at) in
    let none = ap (λ l. list_weight size_of (2 ^ k) (reverse l)) empty in
    let same = ap (weight size_of 2) (map-set list_of lists (k - 1) emptied) in
    let size : 2 ^ (k + 1) ≡ 2 * 2 ^ k = ap (λ x. 2 ^ x) (let s : k + 1 ≡ suc k = omega arith in s) ∙ pow-succ' 2 k in
    omega arith

words_of_list : (size : ℕ) (free : List ℕ) → list_weight size_of size free ≡ length free * size
words_of_list size [] = omega arith
words_of_list size (block ∷ free) = ap (λ w. size + w) (words_of_list size free) ∙ one_more size (length free)
  where
    one_more : (a b : ℕ) → a + b * a ≡ suc b * a
    one_more a b = grind arith

-- a list has space for a block that was part of the heap
pub room-given : (lists : List (Vec ℕ Global)) (k : ℕ) (list : Vec ℕ Global) → HasRoom lists → 1 ≤ k → k ≤ length lists
    → slice_get lists (k - 1) ≡ Some list → weight size_of 2 (free_of lists) + 2 ^ k ≤ 2 ^ length lists
    → vec_len list < vec_capacity list
room-given lists k list room from to at words =
    let w = order_weight k (list_of list) [] (free_of lists) from (free_of-at lists (k - 1) list at) in
    let l = words_of_list (2 ^ k) (list_of list) in
    let count : length (list_of list) ≡ vec_len list = length-reverse list.items ∙ sym list.ok.0 in
    let most : suc (length (list_of list)) * 2 ^ k ≤ 2 ^ length lists =
    one_more (length (list_of list)) (2 ^ k) (2 ^ length lists) (omega arith) in
    let parts : 2 ^ length lists ≡ 2 ^ (length lists - k) * 2 ^ k =
    ap (λ x. 2 ^ x) (let s : length lists ≡ length lists - k + k = omega arith in s)
    ∙ pow-add 2 (length lists - k) k in
    let P : ℕ → Type 0 = λ x. suc (length (list_of list)) * 2 ^ k ≤ x in
    let fewer : suc (length (list_of list)) ≤ 2 ^ (length lists - k) =
    le_of_mul-le-mul_right (subst P parts most) (pow_pos k) in
    let enough = room.each (k - 1) list at in
    let same : 2 ^ (length lists - k) ≡ 2 ^ (length lists - 1 - (k - 1)) =
    ap (λ x. 2 ^ x) (let s : length lists - k ≡ length lists - 1 - (k - 1) = omega arith in s) in
    omega arith
  where
    one_more : (n s t : ℕ) → n * s + s ≤ t → suc n * s ≤ t
    one_more n s t h = let P : ℕ → Type 0 = λ x. x ≤ t in let e : n * s + s ≡ suc n * s = grind arith in subst P e h

-- the lower half that was found in a list, said of the same list
pub half_of_list : (lists : List (Vec ℕ Global)) (k size block : ℕ) (list same : Vec ℕ Global) (items : List ℕ)
    (half found : Option ℕ) → slice_get lists (k - 1) ≡ Some list → slice_get lists (k - 1) ≡ Some same → size ≡ 2 ^ k
    → items ≡ list.items → half ≡ lower_half size block (reverse items) → half ≡ found
    → lower_half (2 ^ k) block (list_of same) ≡ found
half_of_list lists k size block list same items half found at at_same is_size is_items is_half is_found =
    ap (λ l. lower_half (2 ^ k) block (list_of l)) (same_Some same list (sym at_same ∙ at))
    ∙ ap (λ i. lower_half (2 ^ k) block (reverse i)) (sym is_items)
    ∙ ap (λ s. lower_half s block (reverse items)) (sym is_size)
    ∙ sym is_half
    ∙ is_found

-- the list that an index leads to
pub at_index : (lists : List (Vec ℕ Global)) (i : ℕ) (list : Vec ℕ Global) → list ≡ slice_index_or lists i list
    → i < length lists → slice_get lists i ≡ Some list
at_index lists i list e h = slice_get-get_or lists i list h ∙ ap (λ l. Some l) (sym e)
