-- Lists of values with their types, and how often they hold a name.
use Rattle.std.proofs.Common.{◌≡◌, ◌∙◌, sym, ap, subst, refl, ℕ, zero, suc, ◌+◌, ◌<◌, ◌≤◌, Bool, true, false, List, []}
use Rattle.std.proofs.Common.{◌∷◌, ◌++◌, map, length, Option, Some, None, arith, slice_get, slice_set}
use Rattle.std.specs.Prelude.{nat_eq, is_some, if◌then◌else◌}
use Rattle.std.specs.Option.{unwrap_or}
use Rattle.roopl_semantics.specs.rpp_tree.Tree.{Source}
use Rattle.roopl_semantics.specs.class_rules.declared.kind.Kind.{Kind}
use Rattle.roopl_semantics.specs.Store.{Value, Word, Nil, Name, Head, Store}
use Rattle.roopl_semantics.specs.Laws.{one_if_name, holders_among}
use Rattle.meaning_sound.specs.Sound.{head_named, is_live, is_of_kind, AllFit, named_fits}

-- a place of the list of types is one of the list of values
pub all_inside : (program : Source) (store : Store) (ks : List Kind) (vs : List Value) (i : ℕ) (k : Kind)
    → AllFit program store ks vs → slice_get ks i ≡ Some k → i < length vs
all_inside program store [] vs i k all h = absurd (cc)
all_inside program store (x ∷ ks) [] i k all h = absurd all
all_inside program store (x ∷ ks) (v ∷ vs) zero k all h = omega arith
all_inside program store (x ∷ ks) (v ∷ vs) (suc i) k all h = let r = all_inside program store ks vs i k all.1 h in
    omega arith

pub all_length : (program : Source) (store : Store) (ks : List Kind) (vs : List Value) → AllFit program store ks vs
    → length vs ≡ length ks
all_length program store [] [] all = refl
all_length program store [] (v ∷ vs) all = absurd all
all_length program store (k ∷ ks) [] all = absurd all
all_length program store (k ∷ ks) (v ∷ vs) all = ap suc (all_length program store ks vs all.1)

pub all_get : (program : Source) (store : Store) (ks : List Kind) (vs : List Value) (i : ℕ) (k : Kind)
    → AllFit program store ks vs → slice_get ks i ≡ Some k
    → is_of_kind program store (unwrap_or (slice_get vs i) Nil) k ≡ true
all_get program store [] vs i k all h = absurd (cc)
all_get program store (x ∷ ks) [] i k all h = absurd all
all_get program store (x ∷ ks) (v ∷ vs) zero k all h = let e : x ≡ k = cc in
    subst (λ z. is_of_kind program store v z ≡ true) e all.0
all_get program store (x ∷ ks) (v ∷ vs) (suc i) k all h = all_get program store ks vs i k all.1 h

pub all_set : (program : Source) (store : Store) (ks : List Kind) (vs : List Value) (i : ℕ) (k : Kind) (w : Value)
    → AllFit program store ks vs → slice_get ks i ≡ Some k → is_of_kind program store w k ≡ true
    → AllFit program store ks (slice_set vs i w)
all_set program store [] vs i k w all h f = absurd (cc)
all_set program store (x ∷ ks) [] i k w all h f = absurd all
all_set program store (x ∷ ks) (v ∷ vs) zero k w all h f = let e : x ≡ k = cc in
    (subst (λ z. is_of_kind program store w z ≡ true) (sym e) f, all.1)
all_set program store (x ∷ ks) (v ∷ vs) (suc i) k w all h f = (all.0, all_set program store ks vs i k w all.1 h f)

pub holders_set : (n : ℕ) (vs : List Value) (i : ℕ) (w : Value) → i < length vs
    → holders_among n (slice_set vs i w) + one_if_name n (unwrap_or (slice_get vs i) Nil)
    ≡ holders_among n vs + one_if_name n w
holders_set n [] i w h = absurd (omega arith)
holders_set n (v ∷ vs) zero w h = omega arith
holders_set n (v ∷ vs) (suc i) w h = let r = holders_set n vs i w (omega arith) in omega arith

pub holders_get : (n : ℕ) (vs : List Value) (i : ℕ) → one_if_name n (unwrap_or (slice_get vs i) Nil) ≤ holders_among n
    vs
holders_get n [] i = omega arith
holders_get n (v ∷ vs) zero = omega arith
holders_get n (v ∷ vs) (suc i) = let r = holders_get n vs i in omega arith

-- a value is of its type in another store, if what it names has the same head
pub fits_kept : (program : Source) (store other : Store) (v : Value) (k : Kind)
    → ((m : ℕ) → 0 < one_if_name m v → is_live store m ≡ true → head_named other m ≡ head_named store m)
    → is_of_kind program store v k ≡ true → is_of_kind program other v k ≡ true
fits_kept program store other (Word w) k h f = f
fits_kept program store other Nil k h f = f
fits_kept program store other (Name n) k h f =
    let one : one_if_name n (Name n) ≡ 1 = ap (λ b. if b then 1 else 0) (same n) in
    let e = h n (omega arith) (live (head_named store n) f) in
    ap (named_fits program k) e ∙ f
  where
    same : (n : ℕ) → nat_eq n n ≡ true
    same n = Rattle.std.proofs.Common.eq-eqb n n refl

    live : (o : Option Head) → named_fits program k o ≡ true → is_some o ≡ true
    live None h = absurd (cc)
    live (Some head) h = refl

pub all_kept : (program : Source) (store other : Store) (ks : List Kind) (vs : List Value)
    → ((m : ℕ) → 0 < holders_among m vs → is_live store m ≡ true → head_named other m ≡ head_named store m)
    → AllFit program store ks vs → AllFit program other ks vs
all_kept program store other [] [] h all = tt
all_kept program store other [] (v ∷ vs) h all = absurd all
all_kept program store other (k ∷ ks) [] h all = absurd all
all_kept program store other (k ∷ ks) (v ∷ vs) h all = (
  fits_kept program store other v k (λ m p l. h m (omega arith) l) all.0,
  all_kept program store other ks vs (λ m p l. h m (omega arith) l) all.1,
)
