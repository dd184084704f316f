-- Stores that change in one object, gain one or lose one.
use Rattle.std.proofs.Common.{◌≡◌, ◌≢◌, ◌∙◌, sym, ap, refl, ℕ, ◌+◌, ◌<◌, ◌≤◌, Bool, true, false, [], ◌∷◌, map, Option}
use Rattle.std.proofs.Common.{Some, None, arith, eq-eqb}
use Rattle.std.proofs.lemmas.Bool.{eqb-true}
use Rattle.std.specs.Prelude.{nat_eq, is_some, if◌then◌else◌}
use Rattle.std.specs.Option.{unwrap_or, option_map}
use Rattle.roopl_semantics.specs.Store.{Object, Store, object_named, object_at, no_object, changed_at, without}
use Rattle.roopl_semantics.specs.Laws.{holders_among, holders}
use Rattle.meaning_sound.specs.Sound.{head_of, is_live, Descending, entry_name}

pub same_number : (n : ℕ) → nat_eq n n ≡ true
same_number n = eq-eqb n n refl

pub other_number : (n m : ℕ) → n ≢ m → nat_eq n m ≡ false
other_number n m h = by (nat_eq n m) refl
  where
    by : (b : Bool) → nat_eq n m ≡ b → nat_eq n m ≡ false
    by true e = absurd (h (eqb-true n m e))
    by false e = e

pub differs : (n m : ℕ) → nat_eq n m ≡ false → n ≢ m
differs n m e h = let s : nat_eq n m ≡ true = eq-eqb n m h in cc

pub here : (n m : ℕ) (o : Object) (store : Store) → nat_eq n m ≡ true → object_named ((n, o) ∷ store) m ≡ Some o
here n m o store e = ap (λ b. if b then Some o else object_named store m) e

pub there : (n m : ℕ) (o : Object) (store : Store) → nat_eq n m ≡ false
    → object_named ((n, o) ∷ store) m ≡ object_named store m
there n m o store e = ap (λ b. if b then Some o else object_named store m) e

-- what is found if an object changes
pub changed_here : (store : Store) (n : ℕ) (f : Object → Object)
    → object_named (changed_at store n f) n ≡ option_map f (object_named store n)
changed_here [] n f = refl
changed_here ((k, o) ∷ store) n f = by (changed_here store n f) (nat_eq k n) refl
  where
    by : object_named (changed_at store n f) n ≡ option_map f (object_named store n) → (b : Bool) → nat_eq k n ≡ b
        → object_named (if b then (k, f o) ∷ store else (k, o) ∷ changed_at store n f) n
        ≡ option_map f (if b then Some o else object_named store n)
    by rest true e = here k n (f o) store e
    by rest false e = there k n o (changed_at store n f) e ∙ rest

pub changed_other : (store : Store) (n m : ℕ) (f : Object → Object) → n ≢ m
    → object_named (changed_at store n f) m ≡ object_named store m
changed_other [] n m f h = refl
changed_other ((k, o) ∷ store) n m f h = by (changed_other store n m f h) (nat_eq k n) refl
  where
    other : nat_eq k n ≡ true → nat_eq k m ≡ false
    other e = other_number k m (λ s. h (sym (eqb-true k n e) ∙ s))

    by : object_named (changed_at store n f) m ≡ object_named store m → (b : Bool) → nat_eq k n ≡ b
        → object_named (if b then (k, f o) ∷ store else (k, o) ∷ changed_at store n f) m
        ≡ object_named ((k, o) ∷ store) m
    by rest true e = there k m (f o) store (other e) ∙ sym (there k m o store (other e))
    by rest false e = ap (λ z. if nat_eq k m then Some o else z) rest

-- what is found if an object is dropped
pub without_other : (store : Store) (n m : ℕ) → n ≢ m → object_named (without store n) m ≡ object_named store m
without_other [] n m h = refl
without_other ((k, o) ∷ store) n m h = by (without_other store n m h) (nat_eq k n) refl
  where
    other : nat_eq k n ≡ true → nat_eq k m ≡ false
    other e = other_number k m (λ s. h (sym (eqb-true k n e) ∙ s))

    by : object_named (without store n) m ≡ object_named store m → (b : Bool) → nat_eq k n ≡ b
        → object_named (if b then store else (k, o) ∷ without store n) m ≡ object_named ((k, o) ∷ store) m
    by rest true e = sym (there k m o store (other e))
    by rest false e = ap (λ z. if nat_eq k m then Some o else z) rest

-- ---- names that descend

pub descends_more : (a b : ℕ) (store : Store) → a ≤ b → Descending a store → Descending b store
descends_more a b [] h d = tt
descends_more a b ((n, o) ∷ store) h d = (let l = d.0 in omega arith, d.1)

pub none_above : (bound : ℕ) (store : Store) (m : ℕ) → Descending bound store → bound ≤ m → object_named store m ≡ None
none_above bound [] m d h = refl
none_above bound ((n, o) ∷ store) m d h =
    let l = d.0 in
    there n m o store (other_number n m (λ e. omega arith)) ∙ none_above n store m d.1 (omega arith)

pub below_bound : (bound : ℕ) (store : Store) (m : ℕ) → Descending bound store → is_live store m ≡ true → m < bound
below_bound bound [] m d h = absurd (cc)
below_bound bound ((n, o) ∷ store) m d h = by (λ q. below_bound n store m d.1 q) (nat_eq n m) refl
  where
    by : (is_live store m ≡ true → m < n) → (b : Bool) → nat_eq n m ≡ b → m < bound
    by rest true e = let s = eqb-true n m e in let l = d.0 in omega arith
    by rest false e = let r = rest (ap (λ z. is_some (option_map head_of z)) (sym (there n m o store e)) ∙ h) in let l =
        d.0 in omega arith

pub without_here : (bound : ℕ) (store : Store) (n : ℕ) → Descending bound store
    → object_named (without store n) n ≡ None
without_here bound [] n d = refl
without_here bound ((k, o) ∷ store) n d = by (without_here k store n d.1) (nat_eq k n) refl
  where
    by : object_named (without store n) n ≡ None → (b : Bool) → nat_eq k n ≡ b
        → object_named (if b then store else (k, o) ∷ without store n) n ≡ None
    by rest true e = none_above k store n d.1 (let s = eqb-true k n e in omega arith)
    by rest false e = there k n o (without store n) e ∙ rest

pub descends_without : (bound : ℕ) (store : Store) (n : ℕ) → Descending bound store → Descending bound (without store n)
descends_without bound [] n d = tt
descends_without bound ((k, o) ∷ store) n d = by (descends_without k store n d.1) (nat_eq k n)
  where
    by : Descending k (without store n) → (b : Bool) → Descending bound (if b then store else (k, o) ∷ without store n)
    by rest true = descends_more k bound store (let l = d.0 in omega arith) d.1
    by rest false = (d.0, rest)

pub descends_changed : (bound : ℕ) (store : Store) (n : ℕ) (f : Object → Object) → Descending bound store
    → Descending bound (changed_at store n f)
descends_changed bound [] n f d = tt
descends_changed bound ((k, o) ∷ store) n f d = by (descends_changed k store n f d.1) (nat_eq k n)
  where
    by : Descending k (changed_at store n f) → (b : Bool)
        → Descending bound (if b then (k, f o) ∷ store else (k, o) ∷ changed_at store n f)
    by rest true = d
    by rest false = (d.0, rest)

pub names_changed : (store : Store) (n : ℕ) (f : Object → Object)
    → map entry_name (changed_at store n f) ≡ map entry_name store
names_changed [] n f = refl
names_changed ((k, o) ∷ store) n f = by (names_changed store n f) (nat_eq k n)
  where
    by : map entry_name (changed_at store n f) ≡ map entry_name store → (b : Bool)
        → map entry_name (if b then (k, f o) ∷ store else (k, o) ∷ changed_at store n f) ≡ k ∷ map entry_name store
    by rest true = refl
    by rest false = ap (λ z. k ∷ z) rest

-- ---- references

pub holders_changed : (m : ℕ) (store : Store) (n : ℕ) (f : Object → Object) (o : Object) → object_named store n ≡ Some o
    → holders m (changed_at store n f) + holders_among m o.cells ≡ holders m store + holders_among m (f o).cells
holders_changed m [] n f o h = absurd (cc)
holders_changed m ((k, x) ∷ store) n f o h = by (λ q. holders_changed m store n f o q) (nat_eq k n) refl
  where
    by : (object_named store n ≡ Some o → holders m (changed_at store n f) + holders_among m o.cells
        ≡ holders m store + holders_among m (f o).cells) → (b : Bool) → nat_eq k n ≡ b
        → holders m (if b then (k, f x) ∷ store else (k, x) ∷ changed_at store n f) + holders_among m o.cells
        ≡ holders_among m x.cells + holders m store + holders_among m (f o).cells
    by rest true e =
        let s : x ≡ o = let q = sym (here k n x store e) ∙ h in cc in
        let a = ap (λ (z : Object). holders_among m z.cells) s in
        let b = ap (λ (z : Object). holders_among m (f z).cells) s in
        omega arith
    by rest false e = let r = rest (sym (there k n x store e) ∙ h) in omega arith

pub holders_without : (m : ℕ) (store : Store) (n : ℕ) (o : Object) → object_named store n ≡ Some o
    → holders m (without store n) + holders_among m o.cells ≡ holders m store
holders_without m [] n o h = absurd (cc)
holders_without m ((k, x) ∷ store) n o h = by (λ q. holders_without m store n o q) (nat_eq k n) refl
  where
    by : (object_named store n ≡ Some o → holders m (without store n) + holders_among m o.cells ≡ holders m store)
        → (b : Bool) → nat_eq k n ≡ b → holders m (if b then store else (k, x) ∷ without store n) + holders_among m
        o.cells ≡ holders_among m x.cells + holders m store
    by rest true e =
        let s : x ≡ o = let q = sym (here k n x store e) ∙ h in cc in
        let a = ap (λ (z : Object). holders_among m z.cells) s in
        omega arith
    by rest false e = let r = rest (sym (there k n x store e) ∙ h) in omega arith

pub holders_inside : (m : ℕ) (store : Store) (n : ℕ) (o : Object) → object_named store n ≡ Some o
    → holders_among m o.cells ≤ holders m store
holders_inside m store n o h = let r = holders_without m store n o h in omega arith

-- ---- an object that is there

pub live_object : (store : Store) (n : ℕ) → is_live store n ≡ true → object_named store n ≡ Some (object_at store n)
live_object store n h = by (object_named store n) refl
  where
    by : (r : Option Object) → object_named store n ≡ r → object_named store n ≡ Some (object_at store n)
    by None e = let q : is_some (option_map head_of (object_named store n)) ≡ false =
        ap (λ z. is_some (option_map head_of z)) e in cc
    by (Some o) e = e ∙ ap Some (sym (ap (λ z. unwrap_or z no_object) e))

pub live_named : (store : Store) (n : ℕ) (o : Object) → object_named store n ≡ Some o → is_live store n ≡ true
live_named store n o h = ap (λ z. is_some (option_map head_of z)) h
