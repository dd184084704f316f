-- The blocks of live objects and arrays do not meet and lie within the heap.
use Rattle.std.proofs.Common.{◌≡◌, ◌≢◌, ◌∙◌, sym, ap, subst, refl, ℕ, ◌+◌, ◌-◌, ◌^◌, ◌<◌, ◌≤◌, ◌⊎◌, inl, inr, Bool}
use Rattle.std.proofs.Common.{true, false, List, [], ◌∷◌, ◌++◌, map, length, Some, arith}
use Rattle.std.proofs.lemmas.Bool.{eqb-true, ltb-true, ltb-false}
use Rattle.std.specs.Prelude.{nat_eq, nat_lt, is_some, if◌then◌else◌}
use Rattle.std.specs.Option.{option_map}
use Rattle.roopl_semantics.specs.code_conventions.declared.memory.TheConstants.{HEADER_WORDS}
use Rattle.roopl_semantics.specs.buddy_book.Place.{block_of}
use Rattle.roopl_semantics.specs.buddy_book.Shown.{Shown, order_in, without_taken, weight, taken_weight, IsKept, cover}
use Rattle.roopl_semantics.proofs.buddy_book_laws.Table.{taken_weight-without}
use Rattle.roopl_semantics.proofs.buddy_book_laws.Kept.{cover-additive, given_back}
use Rattle.roopl_semantics.proofs.buddy_book_laws.Orders.{pow_pos}
use Rattle.roopl_semantics.specs.Store.{Head, Object, Store, main_name}
use Rattle.roopl_semantics.specs.Execution.{Setting, order_of_cells}
use Rattle.roopl_semantics.proofs.Orders.{has_room}
use Rattle.meaning_sound.specs.Sound.{head_of, head_named, is_live, cell_kinds, Descending, entry_name, IsPlaced}
use Rattle.meaning_sound.proofs.Stores.{other_number, same_number, here, there}
use Rattle.roopl_semantics.proofs.buddy_book_laws.Requests.{order_in-without_other}

-- ---- two taken blocks

one_of_two : (b s t u w v x y c : ℕ) → b < c → c < b + s → 0 < t → w ≡ cover c b s + x → x ≡ cover c c t + y
    → v + w ≡ cover c 0 u → ⊥
one_of_two b s t u w v x y c lo hi pos e f total = omega arith

below_first : (book : Shown) (a b k l : ℕ) → IsKept book → order_in book.taken a ≡ Some k
    → order_in book.taken b ≡ Some l → a < b → a + 2 ^ k ≤ b
below_first book a b k l kept ka kb less = by (nat_lt b (a + 2 ^ k)) refl
  where
    by : (t : Bool) → nat_lt b (a + 2 ^ k) ≡ t → a + 2 ^ k ≤ b
    by false e = ltb-false b (a + 2 ^ k) e
    by true e =
        let hi = ltb-true b (a + 2 ^ k) e in
        let first = taken_weight-without (cover b) a k book.taken ka in
        let still : order_in (without_taken a book.taken) b ≡ Some l =
        order_in-without_other a b book.taken (λ q. omega arith) ∙ kb in
        let second = taken_weight-without (cover b) b l (without_taken a book.taken) still in
        let total = kept.balanced (cover b) (cover-additive b) in
        absurd (one_of_two a (2 ^ k) (2 ^ l) (2 ^ book.h) (taken_weight (cover b) book.taken)
        (weight (cover b) 2 book.free) (taken_weight (cover b) (without_taken a book.taken))
        (taken_weight (cover b) (without_taken b (without_taken a book.taken))) b less hi (pow_pos l) first second
        total)

-- two taken blocks do not meet
pub blocks_apart : (book : Shown) (a b k l : ℕ) → IsKept book → order_in book.taken a ≡ Some k
    → order_in book.taken b ≡ Some l → a ≢ b → (a + 2 ^ k ≤ b) ⊎ (b + 2 ^ l ≤ a)
blocks_apart book a b k l kept ka kb apart = by (nat_lt a b) refl
  where
    by : (t : Bool) → nat_lt a b ≡ t → (a + 2 ^ k ≤ b) ⊎ (b + 2 ^ l ≤ a)
    by true e = inl (below_first book a b k l kept ka kb (ltb-true a b e))
    by false e = inr (below_first book b a l k kept kb ka (lesser (ltb-false a b e)))
      where
        lesser : b ≤ a → b < a
        lesser h = by_case (nat_lt b a) refl
          where
            by_case : (t : Bool) → nat_lt b a ≡ t → b < a
            by_case true f = ltb-true b a f
            by_case false f = absurd (apart (let g = ltb-false b a f in omega arith))

-- ---- the blocks of a sound state

module _ (setting : Setting) (store : Store) (log : Rattle.roopl_semantics.specs.buddy_book.Place.Log)
    (p : IsPlaced setting store log)
  where
    abbrev size : Head → ℕ
    size head = HEADER_WORDS + length (cell_kinds setting.program head)

    abbrev book : Shown
    book = record { h = setting.limits.heap; base = 0; free = p.at.book; taken = p.taken }

    pub room_of : (name : ℕ) (head : Head) → head_named store name ≡ Some head → name ≢ main_name
        → size head ≤ 2 ^ order_of_cells (length (cell_kinds setting.program head))
    room_of name head h no_main =
        let back = given_back book (order_of_cells (length (cell_kinds setting.program head)))
        (block_of p.at.blocks name)
        p.kept (p.orders name head h no_main) in
        let most = p.kept.h_to in
        let to = back.order_to in
        has_room (length (cell_kinds setting.program head)) (omega arith)

    pub region_inside : (name : ℕ) (head : Head) → head_named store name ≡ Some head → name ≢ main_name
        → block_of p.at.blocks name + size head ≤ 2 ^ setting.limits.heap
    region_inside name head h no_main =
        let back = given_back book (order_of_cells (length (cell_kinds setting.program head)))
        (block_of p.at.blocks name)
        p.kept (p.orders name head h no_main) in
        let room = room_of name head h no_main in
        let fits = back.fits in
        omega arith

    pub regions_apart : (name other : ℕ) (head head' : Head) → head_named store name ≡ Some head
        → head_named store other ≡ Some head' → name ≢ main_name → other ≢ main_name → name ≢ other
        → (block_of p.at.blocks name + size head ≤ block_of p.at.blocks other)
        ⊎ (block_of p.at.blocks other + size head' ≤ block_of p.at.blocks name)
    regions_apart name other head head' h k no_main no_main' apart =
        let a = room_of name head h no_main in
        let b = room_of other head' k no_main' in
        either a b (blocks_apart book (block_of p.at.blocks name) (block_of p.at.blocks other)
        (order_of_cells (length (cell_kinds setting.program head)))
        (order_of_cells (length (cell_kinds setting.program head'))) p.kept (p.orders name head h no_main)
        (p.orders other head' k no_main') (p.apart name other (ap is_some h) (ap is_some k) no_main no_main' apart))
      where
        either : {x y a b c d : ℕ} → x ≤ c → y ≤ d → (a + c ≤ b) ⊎ (b + d ≤ a) → (a + x ≤ b) ⊎ (b + y ≤ a)
        either l m (inl h) = inl (omega arith)
        either l m (inr h) = inr (omega arith)

-- ---- the list of blocks

-- the names of a list of blocks, each below a bound and above that of the next
abbrev pub BlocksDescend : ℕ → List (ℕ × ℕ) → Type 0
BlocksDescend bound [] = Unit {0}
BlocksDescend bound ((n, b) ∷ blocks) = (n < bound) × (main_name < n) × BlocksDescend n blocks

-- each entry is of a live name, and its block is the name's
abbrev pub EntriesAre : Store → List (ℕ × ℕ) → List (ℕ × ℕ) → Type 0
EntriesAre store whole [] = Unit {0}
EntriesAre store whole ((n, b) ∷ blocks) = (is_live store n ≡ true) × (block_of whole n ≡ b)
    × EntriesAre store whole blocks

-- no entry's block is this
abbrev pub NotAt : ℕ → List (ℕ × ℕ) → Type 0
NotAt block [] = Unit {0}
NotAt block ((m, b) ∷ rest) = (block ≢ b) × NotAt block rest

-- an entry of a name is in a list
abbrev pub has_entry : ℕ → List (ℕ × ℕ) → Bool
has_entry n [] = false
has_entry n ((m, b) ∷ blocks) = if nat_eq m n then true else has_entry n blocks

names_of_both : (bound : ℕ) (store : Store) (blocks : List (ℕ × ℕ)) → Descending bound store
    → map entry_name store ≡ map entry_name blocks ++ main_name ∷ [] → BlocksDescend bound blocks
names_of_both bound store [] d e = tt
names_of_both bound [] ((n, b) ∷ blocks) d e = absurd (cc)
names_of_both bound ((m, o) ∷ store) ((n, b) ∷ blocks) d e =
    let same : m ≡ n = cc in
    let rest : map entry_name store ≡ map entry_name blocks ++ main_name ∷ [] = cc in
    let l = d.0 in (
      omega arith,
      subst (λ z. main_name < z) same (above m store blocks d.1 rest),
      subst (λ z. BlocksDescend z blocks) same (names_of_both m store blocks d.1 rest),
    )
  where
    above : (m : ℕ) (store : Store) (blocks : List (ℕ × ℕ)) → Descending m store
        → map entry_name store ≡ map entry_name blocks ++ main_name ∷ [] → main_name < m
    above m [] [] d e = absurd (cc)
    above m [] (x ∷ blocks) d e = absurd (cc)
    above m ((k, o) ∷ store) [] d e = let s : k ≡ main_name = cc in let l = d.0 in omega arith
    above m ((k, o) ∷ store) ((n, b) ∷ blocks) d e =
        let rest : map entry_name store ≡ map entry_name blocks ++ main_name ∷ [] = cc in
        let r = above k store blocks d.1 rest in
        let l = d.0 in
        omega arith

pub blocks_descend : (setting : Setting) (store : Store) (log : Rattle.roopl_semantics.specs.buddy_book.Place.Log)
    (bound : ℕ)
    (p : IsPlaced setting store log) → Descending bound store → BlocksDescend bound p.at.blocks
blocks_descend setting store log bound p d = names_of_both bound store p.at.blocks d p.names

-- the block of a live name is that of no entry of the names below it
pub block_apart : (setting : Setting) (store : Store) (log : Rattle.roopl_semantics.specs.buddy_book.Place.Log)
    (p : IsPlaced setting store log) (n bound : ℕ) (rest : List (ℕ × ℕ)) → is_live store n ≡ true → main_name < n
    → bound ≤ n → BlocksDescend bound rest → EntriesAre store p.at.blocks rest
    → NotAt (block_of p.at.blocks n) rest
block_apart setting store log p n bound [] live no_main l d e = tt
block_apart setting store log p n bound ((m, b) ∷ rest) live no_main l d e =
    let low = d.0 in
    let high = d.1 in (
      (λ q. p.apart n m live e.0 (λ z. omega arith) (λ z. omega arith) (λ z. omega arith) (q ∙ sym e.1)),
      block_apart setting store log p n m rest live no_main (omega arith) d.2 e.2,
    )

block_below : (n m b : ℕ) (blocks : List (ℕ × ℕ)) → m < n → block_of ((n, b) ∷ blocks) m ≡ block_of blocks m
block_below n m b blocks h = ap (λ t. if t then b else block_of blocks m) (other_number n m (λ e. omega arith))

-- entries remain in a longer list that begins with newer names
entries_more : (store : Store) (n b bound : ℕ) (whole blocks : List (ℕ × ℕ)) → bound ≤ n → BlocksDescend bound blocks
    → EntriesAre store whole blocks → EntriesAre store ((n, b) ∷ whole) blocks
entries_more store n b bound whole [] l d e = tt
entries_more store n b bound whole ((m, c) ∷ blocks) l d e =
    let below = d.0 in
    (e.0, block_below n m b whole (omega arith) ∙ e.1, entries_more store n b m whole blocks (omega arith) d.2 e.2)

-- every name of the list is live
abbrev AllLive : Store → List (ℕ × ℕ) → Type 0
AllLive store [] = Unit {0}
AllLive store ((n, b) ∷ blocks) = (is_live store n ≡ true) × AllLive store blocks

entries_of : (store : Store) (bound : ℕ) (blocks : List (ℕ × ℕ)) → BlocksDescend bound blocks → AllLive store blocks
    → EntriesAre store blocks blocks
entries_of store bound [] d live = tt
entries_of store bound ((n, b) ∷ blocks) d live = (
  live.0,
  ap (λ t. if t then b else block_of blocks n) (same_number n),
  entries_more store n b n blocks blocks (omega arith) d.2 (entries_of store n blocks d.2 live.1),
)

live_more : (store : Store) (k : ℕ) (o : Object) (bound : ℕ) (blocks : List (ℕ × ℕ)) → bound ≤ k
    → BlocksDescend bound blocks → AllLive store blocks → AllLive ((k, o) ∷ store) blocks
live_more store k o bound [] l d a = tt
live_more store k o bound ((n, b) ∷ blocks) l d a =
    let below = d.0 in (
      ap (λ z. is_some (option_map head_of z)) (there k n o store (other_number k n (λ e. omega arith)))
          ∙ a.0,
      live_more store k o n blocks (omega arith) d.2 a.1,
    )

all_live_of : (bound : ℕ) (store : Store) (blocks : List (ℕ × ℕ)) → Descending bound store
    → map entry_name store ≡ map entry_name blocks ++ main_name ∷ [] → AllLive store blocks
all_live_of bound store [] d e = tt
all_live_of bound [] ((n, b) ∷ blocks) d e = absurd (cc)
all_live_of bound ((m, o) ∷ store) ((n, b) ∷ blocks) d e =
    let same : m ≡ n = cc in
    let rest : map entry_name store ≡ map entry_name blocks ++ main_name ∷ [] = cc in
    let r = all_live_of m store blocks d.1 rest in
    let descend = names_of_both m store blocks d.1 rest in (
      ap (λ z. is_some (option_map head_of z)) (here m n o store (Rattle.std.proofs.Common.eq-eqb m n same)),
      live_more store m o m blocks (omega arith) descend r,
    )

pub entries_are : (setting : Setting) (store : Store) (log : Rattle.roopl_semantics.specs.buddy_book.Place.Log)
    (bound : ℕ)
    (p : IsPlaced setting store log) → Descending bound store → EntriesAre store p.at.blocks p.at.blocks
entries_are setting store log bound p d = entries_of store bound p.at.blocks
    (names_of_both bound store p.at.blocks d p.names) (all_live_of bound store p.at.blocks d p.names)

-- a live name but the main object's has an entry
pub entry_of : (bound : ℕ) (store : Store) (blocks : List (ℕ × ℕ)) (n : ℕ)
    → map entry_name store ≡ map entry_name blocks ++ main_name ∷ [] → is_live store n ≡ true → n ≢ main_name
    → has_entry n blocks ≡ true
entry_of bound [] blocks n e live no_main = absurd (cc)
entry_of bound ((m, o) ∷ store) [] n e live no_main = by (nat_eq m n) refl
  where
    same : m ≡ main_name
    same = cc

    nothing : store ≡ []
    nothing = none store (let z : map entry_name store ≡ [] = cc in z)
      where
        none : (s : Store) → map entry_name s ≡ [] → s ≡ []
        none [] h = refl
        none (x ∷ s) h = absurd (cc)

    by : (t : Bool) → nat_eq m n ≡ t → has_entry n [] ≡ true
    by true f = absurd (no_main (sym (eqb-true m n f) ∙ same))
    by false f =
        let l : is_live [] n ≡ true = ap (λ s. is_live s n) (sym nothing)
        ∙ ap (λ z. is_some (option_map head_of z)) (sym (there m n o store f)) ∙ live in
        absurd (cc)
entry_of bound ((m, o) ∷ store) ((k, b) ∷ blocks) n e live no_main =
    let same : m ≡ k = cc in
    let rest : map entry_name store ≡ map entry_name blocks ++ main_name ∷ [] = cc in
    by same (λ l. entry_of bound store blocks n rest l no_main) (nat_eq m n) refl
  where
    by : m ≡ k → (is_live store n ≡ true → has_entry n blocks ≡ true) → (t : Bool) → nat_eq m n ≡ t
        → (if nat_eq k n then true else has_entry n blocks) ≡ true
    by same r true f = ap (λ t. if t then true else has_entry n blocks) (ap (λ z. nat_eq z n) (sym same) ∙ f)
    by same r false f = ap (λ t. if t then true else has_entry n blocks) (ap (λ z. nat_eq z n) (sym same) ∙ f)
        ∙ r (ap (λ z. is_some (option_map head_of z)) (sym (there m n o store f)) ∙ live)
