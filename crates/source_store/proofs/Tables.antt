-- The table of objects as a store.
use Rattle.std.proofs.Common.{◌≡◌, ℕ, zero, suc, ◌+◌, ◌<◌, ◌≤◌, refl, sym, ap, subst, ◌∙◌, arith, List, [], ◌∷◌, ◌++◌}
use Rattle.std.proofs.Common.{length}
use Rattle.std.proofs.Common.{length-set}
use Rattle.std.proofs.Common.{Some, None, eq-eqb, Bool, true, false, if◌then◌else◌, map}
use Rattle.std.proofs.lemmas.Bool.{eqb-true, eqb-false, ltb-true, ltb-false, lt-ltb, le-ltb}
use Rattle.std.proofs.lemmas.Option.{slice_get_past}
use Rattle.std.specs.Prelude.{Result, Ok, Err, OnOk, OnErr, Option, slice_get, slice_set, nat_eq, nat_lt}
use Rattle.std.specs.Option.{option_map, unwrap_or}
use Rattle.meaning_machine.specs.roopl_semantics.Store.{Object, Store, object_named, object_at, no_object, changed_at}
use Rattle.meaning_machine.specs.roopl_semantics.Store.{without}
use Rattle.meaning_machine.specs.Reversed.{put_back}
use Rattle.source_store.specs.declared.object.Object.{Object as Live}
use Rattle.source_store.specs.ValueView.{object_of}
use Rattle.source_store.specs.HeapView.{live_in, live_at, listed, numbered_listing, store_of, live_block_in}
use Rattle.source_store.specs.HeapView.{live_block_at, SameBlocks}

pub differs : (a b : ℕ) → (a ≡ b → ⊥) → nat_eq a b ≡ false
differs a b h = by (nat_eq a b) refl
  where
    by : (t : Bool) → nat_eq a b ≡ t → nat_eq a b ≡ false
    by true e = absurd (h (eqb-true a b e))
    by false e = e

listed_same : (n : ℕ) (x : Option Object) (rest : Store) → object_named rest n ≡ None
    → object_named (listed n x rest) n ≡ x
listed_same n None rest h = h
listed_same n (Some o) rest h = ap (λ t. if t then Some o else object_named rest n) (eq-eqb n n refl)

listed_other : (n name : ℕ) (x : Option Object) (rest : Store) → (n ≡ name → ⊥)
    → object_named (listed n x rest) name ≡ object_named rest name
listed_other n name None rest h = refl
listed_other n name (Some o) rest h = ap (λ t. if t then Some o else object_named rest name) (differs n name h)

listing_out : (n : ℕ) (f : ℕ → Option Object) (name : ℕ) → n ≤ name → object_named (numbered_listing n f) name ≡ None
listing_out zero f name h = refl
listing_out (suc n) f name h = listed_other n name (f n) (numbered_listing n f) (λ e. omega arith)
    ∙ listing_out n f name (omega arith)

listing_in : (n : ℕ) (f : ℕ → Option Object) (name : ℕ) → name < n → object_named (numbered_listing n f) name ≡ f name
listing_in zero f name h = absurd (omega arith)
listing_in (suc n) f name h = by (listing_in n f name) (nat_eq n name) refl
  where
    by : (name < n → object_named (numbered_listing n f) name ≡ f name) → (t : Bool) → nat_eq n name ≡ t
        → object_named (numbered_listing (suc n) f) name ≡ f name
    by below true e =
        let same : n ≡ name = eqb-true n name e in
        ap (λ k. object_named (numbered_listing (suc n) f) k) (sym same)
        ∙ (listed_same n (f n) (numbered_listing n f) (listing_out n f n (omega arith)) ∙ ap f same)
    by below false e =
        let other : n ≡ name → ⊥ = eqb-false n name e in
        listed_other n name (f n) (numbered_listing n f) other ∙ below (omega (arith, other))

pub object_named_store : (table : List (Option Live)) (name : ℕ)
    → object_named (store_of table) name ≡ live_at table name
object_named_store table name = by (nat_lt name (length table)) refl
  where
    by : (t : Bool) → nat_lt name (length table) ≡ t → object_named (store_of table) name ≡ live_at table name
    by true e = listing_in (length table) (live_at table) name (eqb_lt name (length table) e)
      where
        eqb_lt : (a b : ℕ) → nat_lt a b ≡ true → a < b
        eqb_lt a b e = ltb-true a b e
    by false e =
        let past : length table ≤ name = ltb-false name (length table) e in
        listing_out (length table) (live_at table) name past ∙ sym (ap live_in (slice_get_past table name past))

listing_same : {A : Type 0} (n : ℕ) (f g : ℕ → Option A) → ((i : ℕ) → i < n → f i ≡ g i)
    → numbered_listing n f ≡ numbered_listing n g
listing_same zero f g h = refl
listing_same (suc n) f g h = ap (λ x. listed n x (numbered_listing n f)) (h n (omega arith))
    ∙ ap (λ r. listed n (g n) r) (listing_same n f g (λ i l. h i (omega arith)))

changed_same : (n : ℕ) (x : Option Object) (rest : Store) (change : Object → Object) → changed_at rest n change ≡ rest
    → changed_at (listed n x rest) n change ≡ listed n (option_map change x) rest
changed_same n None rest change h = h
changed_same n (Some o) rest change h = ap (λ t. if t then (n, change o) ∷ rest else (n, o) ∷ changed_at rest n change)
    (eq-eqb n n refl)

changed_other : (n name : ℕ) (x : Option Object) (rest : Store) (change : Object → Object) → (n ≡ name → ⊥)
    → changed_at (listed n x rest) name change ≡ listed n x (changed_at rest name change)
changed_other n name None rest change h = refl
changed_other n name (Some o) rest change h = ap (λ t. if t then (n, change o) ∷ rest else (n, o)
    ∷ changed_at rest name change) (differs n name h)

changed_out : (n : ℕ) (f : ℕ → Option Object) (name : ℕ) (change : Object → Object) → n ≤ name
    → changed_at (numbered_listing n f) name change ≡ numbered_listing n f
changed_out zero f name change h = refl
changed_out (suc n) f name change h = changed_other n name (f n) (numbered_listing n f) change (λ e. omega arith)
    ∙ ap (λ r. listed n (f n) r) (changed_out n f name change (omega arith))

changed_in : (n : ℕ) (f g : ℕ → Option Object) (name : ℕ) (change : Object → Object) → name < n
    → g name ≡ option_map change (f name) → ((i : ℕ) → (i ≡ name → ⊥) → g i ≡ f i)
    → changed_at (numbered_listing n f) name change ≡ numbered_listing n g
changed_in zero f g name change h here there = absurd (omega arith)
changed_in (suc n) f g name change h here there = by (λ l. changed_in n f g name change l here there) (nat_eq n name)
    refl
  where
    by : (name < n → changed_at (numbered_listing n f) name change ≡ numbered_listing n g) → (t : Bool)
        → nat_eq n name ≡ t
        → changed_at (numbered_listing (suc n) f) name change ≡ numbered_listing (suc n) g
    by below true e =
        let same : n ≡ name = eqb-true n name e in
        let rest : numbered_listing n f ≡ numbered_listing n g =
        listing_same n f g (λ i l. sym (there i (λ k. omega arith))) in
        let top : option_map change (f n) ≡ g n = ap (λ k. option_map change (f k)) same
        ∙ (sym here ∙ ap g (sym same)) in
        ap (λ k. changed_at (numbered_listing (suc n) f) k change) (sym same)
        ∙ (changed_same n (f n) (numbered_listing n f) change (changed_out n f n change (omega arith))
        ∙ (ap (λ r. listed n (option_map change (f n)) r) rest ∙ ap (λ x. listed n x (numbered_listing n g)) top))
    by below false e =
        let other : n ≡ name → ⊥ = eqb-false n name e in
        changed_other n name (f n) (numbered_listing n f) change other
        ∙ (ap (λ r. listed n (f n) r) (below (omega (arith, other)))
        ∙ ap (λ x. listed n x (numbered_listing n g)) (sym (there n other)))

get_set_same : {A : Type 0} (xs : List A) (i : ℕ) (x : A) → i < length xs → slice_get (slice_set xs i x) i ≡ Some x
get_set_same [] i x h = absurd (omega arith)
get_set_same (y ∷ xs) zero x h = refl
get_set_same (y ∷ xs) (suc i) x h = get_set_same xs i x (omega arith)

get_set_other : {A : Type 0} (xs : List A) (i j : ℕ) (x : A) → (j ≡ i → ⊥)
    → slice_get (slice_set xs i x) j ≡ slice_get xs j
get_set_other [] i j x h = refl
get_set_other (y ∷ xs) zero zero x h = absurd (h refl)
get_set_other (y ∷ xs) zero (suc j) x h = refl
get_set_other (y ∷ xs) (suc i) zero x h = refl
get_set_other (y ∷ xs) (suc i) (suc j) x h = get_set_other xs i j x (λ e. h (ap suc e))

pub changed_store : (table : List (Option Live)) (name : ℕ) (old slot : Option Live) (change : Object → Object)
    → slice_get table name ≡ Some old → live_in (Some slot) ≡ option_map change (live_in (Some old))
    → name < length table → store_of (slice_set table name slot) ≡ changed_at (store_of table) name change
changed_store table name old slot change at e h =
    ap (λ n. numbered_listing n (live_at (slice_set table name slot))) (length-set table name slot)
    ∙ sym (changed_in (length table) (live_at table) (live_at (slice_set table name slot)) name change h
    (ap live_in (get_set_same table name slot h) ∙ (e ∙ ap (λ o. option_map change (live_in o)) (sym at)))
    (λ i other. ap live_in (get_set_other table name i slot other)))

pub changed_past : (table : List (Option Live)) (name : ℕ) (change : Object → Object) → length table ≤ name
    → store_of table ≡ changed_at (store_of table) name change
changed_past table name change h = sym (changed_out (length table) (live_at table) name change h)

-- ---- the table with a slot changed

pub same_blocks : (table : List (Option Live)) (name : ℕ) (old slot : Option Live) → slice_get table name ≡ Some old
    → live_block_in (Some slot) ≡ live_block_in (Some old) → name < length table
    → SameBlocks table (slice_set table name slot)
same_blocks table name old slot at e h = record {
  length = length-set table name slot;
  blocks = λ k. by k (nat_eq k name) refl;
}
  where
    by : (k : ℕ) (t : Bool) → nat_eq k name ≡ t → live_block_at (slice_set table name slot) k ≡ live_block_at table k
    by k true q =
        let same : k ≡ name = eqb-true k name q in
        ap (live_block_at (slice_set table name slot)) same ∙ ap live_block_in (get_set_same table name slot h) ∙ e
        ∙ ap live_block_in (sym at) ∙ ap (live_block_at table) (sym same)
    by k false q = ap live_block_in (get_set_other table name k slot (eqb-false k name q))

-- ---- the table without an object

without_out : (n : ℕ) (f : ℕ → Option Object) (name : ℕ) → n ≤ name
    → without (numbered_listing n f) name ≡ numbered_listing n f
without_out zero f name h = refl
without_out (suc n) f name h = by (without_out n f name (omega arith)) (f n)
  where
    by : without (numbered_listing n f) name ≡ numbered_listing n f → (x : Option Object)
        → without (listed n x (numbered_listing n f)) name ≡ listed n x (numbered_listing n f)
    by below None = below
    by below (Some o) = ap (λ t. if t then numbered_listing n f else (n, o) ∷ without (numbered_listing n f) name)
        (differs n name (λ e. omega arith)) ∙ ap (λ r. (n, o) ∷ r) below

without_in : (n : ℕ) (f g : ℕ → Option Object) (name : ℕ) → name < n → g name ≡ None
    → ((i : ℕ) → (i ≡ name → ⊥) → g i ≡ f i) → without (numbered_listing n f) name ≡ numbered_listing n g
without_in zero f g name h gone there = absurd (omega arith)
without_in (suc n) f g name h gone there = by (λ l. without_in n f g name l gone there) (nat_eq n name) refl
  where
    first : (x : Option Object) (rest : Store) → without rest n ≡ rest → without (listed n x rest) n ≡ rest
    first None rest e = e
    first (Some o) rest e = ap (λ t. if t then rest else (n, o) ∷ without rest n) (eq-eqb n n refl)

    later : (x : Option Object) (rest : Store) → (n ≡ name → ⊥)
        → without (listed n x rest) name ≡ listed n x (without rest name)
    later None rest other = refl
    later (Some o) rest other = ap (λ t. if t then rest else (n, o) ∷ without rest name) (differs n name other)

    by : (name < n → without (numbered_listing n f) name ≡ numbered_listing n g) → (t : Bool) → nat_eq n name ≡ t
        → without (numbered_listing (suc n) f) name ≡ numbered_listing (suc n) g
    by below true e =
        let same : n ≡ name = eqb-true n name e in
        let rest : numbered_listing n f ≡ numbered_listing n g =
        listing_same n f g (λ i l. sym (there i (λ k. omega arith))) in
        ap (without (numbered_listing (suc n) f)) (sym same)
        ∙ first (f n) (numbered_listing n f) (without_out n f n (omega arith))
        ∙ rest
        ∙ ap (λ x. listed n x (numbered_listing n g)) (sym (ap g same ∙ gone))
    by below false e =
        let other : n ≡ name → ⊥ = eqb-false n name e in
        later (f n) (numbered_listing n f) other ∙ ap (listed n (f n)) (below (omega (arith, other)))
        ∙ ap (λ x. listed n x (numbered_listing n g)) (sym (there n other))

pub cleared_store : (table : List (Option Live)) (name : ℕ) → name < length table
    → store_of (slice_set table name None) ≡ without (store_of table) name
cleared_store table name h =
    ap (λ n. numbered_listing n (live_at (slice_set table name None))) (length-set table name None)
    ∙ sym (without_in (length table) (live_at table) (live_at (slice_set table name None)) name h
    (ap live_in (get_set_same table name None h))
    (λ i other. ap live_in (get_set_other table name i None other)))

pub cleared_block : (table : List (Option Live)) (name : ℕ) → name < length table
    → live_block_at (slice_set table name None) name ≡ None
cleared_block table name h = ap live_block_in (get_set_same table name None h)

pub other_block : (table : List (Option Live)) (name k : ℕ) → (k ≡ name → ⊥)
    → live_block_at (slice_set table name None) k ≡ live_block_at table k
other_block table name k other = ap live_block_in (get_set_other table name k None other)

-- ---- the table with an object again

pub filled_block : (table : List (Option Live)) (name : ℕ) (live : Live) → name < length table
    → live_block_at (slice_set table name (Some live)) name ≡ live_block_in (Some (Some live))
filled_block table name live h = ap live_block_in (get_set_same table name (Some live) h)

pub filled_other : (table : List (Option Live)) (name : ℕ) (live : Live) (k : ℕ) → (k ≡ name → ⊥)
    → live_block_at (slice_set table name (Some live)) k ≡ live_block_at table k
filled_other table name live k other = ap live_block_in (get_set_other table name k (Some live) other)

put_above : (n : ℕ) (f : ℕ → Option Object) (name : ℕ) (o : Object) → n ≤ name
    → put_back (numbered_listing n f) name o ≡ (name, o) ∷ numbered_listing n f
put_above zero f name o h = refl
put_above (suc n) f name o h = by (put_above n f name o (omega arith)) (f n)
  where
    by : put_back (numbered_listing n f) name o ≡ (name, o) ∷ numbered_listing n f → (x : Option Object)
        → put_back (listed n x (numbered_listing n f)) name o ≡ (name, o) ∷ listed n x (numbered_listing n f)
    by below None = below
    by below (Some a) = ap (λ t. if t then (name, o) ∷ ((n, a) ∷ numbered_listing n f) else (n, a)
        ∷ put_back (numbered_listing n f) name o) (lt-ltb n name (omega arith))

put_inside : (n : ℕ) (f g : ℕ → Option Object) (name : ℕ) (o : Object) → name < n → f name ≡ None → g name ≡ Some o
    → ((i : ℕ) → (i ≡ name → ⊥) → g i ≡ f i) → put_back (numbered_listing n f) name o ≡ numbered_listing n g
put_inside zero f g name o h gone here there = absurd (omega arith)
put_inside (suc n) f g name o h gone here there = by (λ l. put_inside n f g name o l gone here there) (nat_eq n name)
    refl
  where
    later : (x : Option Object) (rest : Store) → name < n
        → put_back (listed n x rest) name o ≡ listed n x (put_back rest name o)
    later None rest l = refl
    later (Some a) rest l = ap (λ t. if t then (name, o) ∷ ((n, a) ∷ rest) else (n, a) ∷ put_back rest name o)
        (le-ltb n name (omega arith))

    by : (name < n → put_back (numbered_listing n f) name o ≡ numbered_listing n g) → (t : Bool) → nat_eq n name ≡ t
        → put_back (numbered_listing (suc n) f) name o ≡ numbered_listing (suc n) g
    by below true e =
        let same : n ≡ name = eqb-true n name e in
        let rest : numbered_listing n f ≡ numbered_listing n g =
        listing_same n f g (λ i l. sym (there i (λ k. omega arith))) in
        ap (λ x. put_back (listed n x (numbered_listing n f)) name o) (ap f same ∙ gone)
        ∙ put_above n f name o (omega arith) ∙ ap (λ k. (k, o) ∷ numbered_listing n f) (sym same)
        ∙ ap (λ r. (n, o) ∷ r) rest ∙ ap (λ x. listed n x (numbered_listing n g)) (sym (ap g same ∙ here))
    by below false e =
        let other : n ≡ name → ⊥ = eqb-false n name e in
        let l : name < n = omega (arith, other) in
        later (f n) (numbered_listing n f) l ∙ ap (listed n (f n)) (below l)
        ∙ ap (λ x. listed n x (numbered_listing n g)) (sym (there n other))

pub filled_store : (table : List (Option Live)) (name : ℕ) (live : Live) → slice_get table name ≡ Some None
    → name < length table
    → store_of (slice_set table name (Some live)) ≡ put_back (store_of table) name (object_of live)
filled_store table name live free h =
    ap (λ n. numbered_listing n (live_at (slice_set table name (Some live)))) (length-set table name (Some live))
    ∙ sym (put_inside (length table) (live_at table) (live_at (slice_set table name (Some live))) name (object_of live)
    h
    (ap live_in free) (ap live_in (get_set_same table name (Some live) h))
    (λ i other. ap live_in (get_set_other table name i (Some live) other)))

-- ---- the table with one more object

get_push_same : {A : Type 0} (xs : List A) (x : A) (i : ℕ) → i ≡ length xs → slice_get (xs ++ x ∷ []) i ≡ Some x
get_push_same [] x zero e = refl
get_push_same [] x (suc i) e = absurd (omega arith)
get_push_same (y ∷ xs) x zero e = absurd (omega arith)
get_push_same (y ∷ xs) x (suc i) e = get_push_same xs x i (omega arith)

get_push_other : {A : Type 0} (xs : List A) (x : A) (i : ℕ) → (i ≡ length xs → ⊥)
    → slice_get (xs ++ x ∷ []) i ≡ slice_get xs i
get_push_other [] x zero other = absurd (other refl)
get_push_other [] x (suc i) other = refl
get_push_other (y ∷ xs) x zero other = refl
get_push_other (y ∷ xs) x (suc i) other = get_push_other xs x i (λ e. other (omega arith))

pub pushed_length : {A : Type 0} (xs : List A) (x : A) → length (xs ++ x ∷ []) ≡ suc (length xs)
pushed_length [] x = refl
pushed_length (y ∷ xs) x = ap suc (pushed_length xs x)

pub pushed_store : (table : List (Option Live)) (live : Live)
    → store_of (table ++ Some live ∷ []) ≡ (length table, object_of live) ∷ store_of table
pushed_store table live =
    ap (λ n. numbered_listing n (live_at (table ++ Some live ∷ []))) (pushed_length table (Some live))
    ∙ ap (λ x. listed (length table) x (numbered_listing (length table) (live_at (table ++ Some live ∷ []))))
    (ap live_in (get_push_same table (Some live) (length table) refl))
    ∙ ap (λ r. (length table, object_of live) ∷ r) (listing_same (length table) (live_at (table ++ Some live ∷ []))
    (live_at table) (λ i h. ap live_in (get_push_other table (Some live) i (λ e. omega arith))))

pub pushed_block : (table : List (Option Live)) (live : Live) (name : ℕ) → name ≡ length table
    → live_block_at (table ++ Some live ∷ []) name ≡ live_block_in (Some (Some live))
pushed_block table live name e = ap live_block_in (get_push_same table (Some live) name e)

pub block_before : (table : List (Option Live)) (live : Live) (name : ℕ) → (name ≡ length table → ⊥)
    → live_block_at (table ++ Some live ∷ []) name ≡ live_block_at table name
block_before table live name other = ap live_block_in (get_push_other table (Some live) name other)

pub block_past : (table : List (Option Live)) (name : ℕ) → length table ≤ name → live_block_at table name ≡ None
block_past table name h = ap live_block_in (slice_get_past table name h)

pub changed_if : {E : Type 0} (table : List (Option Live)) (name : ℕ) (old slot : Option Live)
    (change : Object → Object) (r : Result (Unit {0}) E) → slice_get table name ≡ Some old → name < length table
    → OnOk r (live_in (Some slot) ≡ option_map change (live_in (Some old)))
    → OnOk r (store_of (slice_set table name slot) ≡ changed_at (store_of table) name change)
changed_if table name old slot change (Ok u) at h e = changed_store table name old slot change at e h
changed_if table name old slot change (Err why) at h e = tt

set_same : {A : Type 0} (xs : List A) (i : ℕ) (x : A) → slice_get xs i ≡ Some x → slice_set xs i x ≡ xs
set_same [] i x e = refl
set_same (y ∷ xs) zero x e = let same : x ≡ y = cc in ap (λ z. z ∷ xs) same
set_same (y ∷ xs) (suc i) x e = ap (λ r. y ∷ r) (set_same xs i x e)

pub stays_if : {E : Type 0} (table : List (Option Live)) (name : ℕ) (old slot : Option Live)
    (r : Result (Unit {0}) E) → slice_get table name ≡ Some old → OnErr r (slot ≡ old)
    → OnErr r (slice_set table name slot ≡ table)
stays_if table name old slot (Ok u) at e = tt
stays_if table name old slot (Err why) at e = ap (slice_set table name) e ∙ set_same table name old at

-- the count of an object, where a call failed
pub most_if : {E F : Type 0} (table : List (Option Live)) (name : ℕ) (old : Option Live) (n : ℕ) (r : Result E F)
    → slice_get table name ≡ Some old → OnErr r (option_map (λ (o : Object). o.count) (live_in (Some old)) ≡ Some n)
    → OnErr r (option_map (λ (o : Object). o.count) (live_in (slice_get table name)) ≡ Some n)
most_if table name old n r at most =
    subst (λ (s : Option (Option Live)). OnErr r (option_map (λ (o : Object). o.count) (live_in s) ≡ Some n))
    (sym at) most

count_is : (x : Option Object) (n : ℕ) → option_map (λ (o : Object). o.count) x ≡ Some n
    → (unwrap_or x no_object).count ≡ n
count_is None n e = cc
count_is (Some o) n e = cc

pub most_named : {E F : Type 0} (table : List (Option Live)) (name n : ℕ) (store : Store) (r : Result E F)
    → store_of table ≡ store → OnErr r (option_map (λ (o : Object). o.count) (live_in (slice_get table name)) ≡ Some n)
    → OnErr r ((object_at store name).count ≡ n)
most_named table name n store (Ok u) view most = tt
most_named table name n store (Err why) view most =
    count_is (object_named store name) n
    (ap (λ (s : Store). option_map (λ (o : Object). o.count) (object_named s name)) (sym view)
    ∙ ap (option_map (λ (o : Object). o.count)) (object_named_store table name) ∙ most)

-- ---- how many live

pub listed_few : {A : Type 0} (name : ℕ) (x : Option A) → length (listed name x []) ≤ 1
listed_few name None = omega arith
listed_few name (Some a) = omega arith

pub listed_more : {A : Type 0} (name : ℕ) (x : Option A) (rest : List (ℕ × A))
    → length (listed name x rest) ≡ length (listed name x []) + length rest
listed_more name None rest = omega arith
listed_more name (Some a) rest = omega arith

pub listing_few : {A : Type 0} (n : ℕ) (f : ℕ → Option A) → length (numbered_listing n f) ≤ n
listing_few zero f = omega arith
listing_few (suc n) f = let m = listed_more n (f n) (numbered_listing n f) in let l = listed_few n (f n) in let r =
    listing_few n f in omega arith

pub named_past : (table : List (Option Live)) (name : ℕ) → length table ≤ name
    → object_named (store_of table) name ≡ None
named_past table name h = listing_out (length table) (live_at table) name h

pub listing_next : {A : Type 0} (n m : ℕ) (f : ℕ → Option A) → m ≡ n + 1
    → length (numbered_listing m f) ≡ length (listed n (f n) []) + length (numbered_listing n f)
listing_next n zero f e = absurd (omega arith)
listing_next n (suc k) f e = let same : k ≡ n = omega arith in
    ap (λ i. length (listed i (f i) (numbered_listing i f))) same
    ∙ listed_more n (f n) (numbered_listing n f)
