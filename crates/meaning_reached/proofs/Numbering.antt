-- A report numbers exactly the live object ids except that of the main object, if every live object
-- is reachable.
use Rattle.std.proofs.Common.{◌≡◌, ◌≢◌, ◌∙◌, sym, ap, subst, refl, ℕ, zero, suc, ◌+◌, ◌<◌, ◌≤◌, Bool, true, false, List}
use Rattle.std.proofs.Common.{[], ◌∷◌, ◌++◌, length, Option, Some, None, arith}
use Rattle.std.proofs.lemmas.Bool.{eqb-true, or_left, or_right, or_parts}
use Rattle.std.proofs.lemmas.List.{length-append}
use Rattle.std.proofs.lemmas.List.Folds.{list_any-append}
use Rattle.std.specs.Prelude.{nat_eq, is_some, ◌||◌, if◌then◌else◌}
use Rattle.std.specs.List.{list_any}
use Rattle.std.specs.Option.{unwrap_or, option_map}
use Rattle.meaning_sound.specs.roopl_semantics.Store.{Value, Word, Nil, Name, Object, Store, main_name, object_named, object_at}
use Rattle.meaning_sound.specs.roopl_semantics.Store.{no_object}
use Rattle.meaning_sound.specs.roopl_semantics.Laws.{one_if_name, holders_among, holders}
use Rattle.meaning_sound.specs.roopl_semantics.Report.{newly_met, walked, numbered}
use Rattle.meaning_sound.specs.Sound.{head_of, is_live, Descending}
use Rattle.meaning_sound.proofs.Stores.{same_number, other_number, differs, here, there, none_above, holders_inside}
use Rattle.meaning_reached.proofs.Changes.{or_either}
use Rattle.meaning_reached.proofs.Callings.{AllWithin}
use Rattle.meaning_sound.proofs.Objects.{clash}

-- ---- membership

abbrev pub is_in : List ℕ → ℕ → Bool
is_in names n = list_any (nat_eq n) names

pub in_append : (xs ys : List ℕ) (n : ℕ) → is_in (xs ++ ys) n ≡ (is_in xs n || is_in ys n)
in_append xs ys n = list_any-append (nat_eq n) xs ys

in_first : (xs ys : List ℕ) (n : ℕ) → is_in xs n ≡ true → is_in (xs ++ ys) n ≡ true
in_first xs ys n h = in_append xs ys n ∙ or_left (is_in xs n) (is_in ys n) h

in_second : (xs ys : List ℕ) (n : ℕ) → is_in ys n ≡ true → is_in (xs ++ ys) n ≡ true
in_second xs ys n h = in_append xs ys n ∙ or_right (is_in xs n) (is_in ys n) h

-- an element in the middle may come first
in_moved : (xs ys : List ℕ) (m n : ℕ) → is_in ((m ∷ xs) ++ ys) n ≡ is_in (xs ++ m ∷ ys) n
in_moved xs ys m n = in_append (m ∷ xs) ys n ∙ by (nat_eq n m) (is_in xs n) (is_in ys n) ∙ sym (in_append xs (m ∷ ys) n)
  where
    by : (a b c : Bool) → ((a || b) || c) ≡ (b || (a || c))
    by true true c = refl
    by true false c = refl
    by false b c = refl

pub within_more : (names more : ℕ → Bool) (vs : List Value) → ((n : ℕ) → names n ≡ true → more n ≡ true)
    → AllWithin names vs → AllWithin more vs
within_more names more [] h all = tt
within_more names more (Word w ∷ vs) h all = (refl, within_more names more vs h all.1)
within_more names more (Nil ∷ vs) h all = (refl, within_more names more vs h all.1)
within_more names more (Name n ∷ vs) h all = (h n all.0, within_more names more vs h all.1)

-- ---- what cells newly meet

pub new_covers : (met : List ℕ) (cells : List Value) → AllWithin (is_in (met ++ newly_met met cells)) cells
new_covers met [] = tt
new_covers met (Word w ∷ cells) = (refl, new_covers met cells)
new_covers met (Nil ∷ cells) = (refl, new_covers met cells)
new_covers met (Name n ∷ cells) = by (list_any (nat_eq n) met) refl (new_covers met cells) (new_covers (n ∷ met) cells)
  where
    by : (b : Bool) → list_any (nat_eq n) met ≡ b → AllWithin (is_in (met ++ newly_met met cells)) cells
        → AllWithin (is_in ((n ∷ met) ++ newly_met (n ∷ met) cells)) cells
        → AllWithin (is_in (met ++ (if b then newly_met met cells else n ∷ newly_met (n ∷ met) cells))) (Name n ∷ cells)
    by true e f g = (in_first met (newly_met met cells) n e, f)
    by false e f g = (
      in_second met (n ∷ newly_met (n ∷ met) cells) n (or_left (nat_eq n n) (is_in (newly_met (n ∷ met) cells) n)
          (same_number n)),
      within_more (is_in ((n ∷ met) ++ newly_met (n ∷ met) cells)) (is_in (met ++ n ∷ newly_met (n ∷ met) cells)) cells
          (λ m q. sym (in_moved met (newly_met (n ∷ met) cells) n m) ∙ q) g,
    )

pub new_held : (met : List ℕ) (cells : List Value) (m : ℕ) → is_in (newly_met met cells) m ≡ true
    → 0 < holders_among m cells
new_held met [] m h = absurd (cc)
new_held met (Word w ∷ cells) m h = let a = new_held met cells m h in omega arith
new_held met (Nil ∷ cells) m h = let a = new_held met cells m h in omega arith
new_held met (Name n ∷ cells) m h = by (list_any (nat_eq n) met) h (λ q. new_held met cells m q)
    (λ q. new_held (n ∷ met) cells m q)
  where
    by : (b : Bool) → is_in (if b then newly_met met cells else n ∷ newly_met (n ∷ met) cells) m ≡ true
        → (is_in (newly_met met cells) m ≡ true → 0 < holders_among m cells)
        → (is_in (newly_met (n ∷ met) cells) m ≡ true → 0 < holders_among m cells)
        → 0 < one_if_name m (Name n) + holders_among m cells
    by true q f g = let a = f q in omega arith
    by false q f g = or_either (nat_eq m n) (is_in (newly_met (n ∷ met) cells) m) q
        (λ e. let o : one_if_name m (Name n) ≡ 1 = ap (λ b. if b then 1 else 0)
        (ap (λ z. nat_eq z m) (sym (eqb-true m n e)) ∙ same_number m) in omega arith)
        (λ e. let a = g e in omega arith)

-- ---- entries of a store that are not met

abbrev pub unmet : List ℕ → Store → ℕ
unmet met [] = 0
unmet met ((n, o) ∷ store) = (if is_in met n then 0 else 1) + unmet met store

pub unmet_all : (store : Store) → unmet [] store ≡ length store
unmet_all [] = refl
unmet_all ((n, o) ∷ store) = let a = unmet_all store in omega arith

unmet_same : (xs ys : List ℕ) (store : Store) → ((n : ℕ) → is_in xs n ≡ is_in ys n) → unmet xs store ≡ unmet ys store
unmet_same xs ys [] h = refl
unmet_same xs ys ((n, o) ∷ store) h = ap (λ b. (if b then 0 else 1) + unmet xs store) (h n)
    ∙ ap (λ z. (if is_in ys n then 0 else 1) + z) (unmet_same xs ys store h)

-- a name that is above all of them changes nothing
unmet_above : (bound : ℕ) (met : List ℕ) (m : ℕ) (store : Store) → Descending bound store → bound ≤ m
    → unmet (m ∷ met) store ≡ unmet met store
unmet_above bound met m [] d h = refl
unmet_above bound met m ((n, o) ∷ store) d h =
    let l = d.0 in
    ap (λ b. (if b || is_in met n then 0 else 1) + unmet (m ∷ met) store) (other_number n m (λ e. omega arith))
    ∙ ap (λ z. (if is_in met n then 0 else 1) + z) (unmet_above n met m store d.1 (omega arith))

unmet_less : (bound : ℕ) (met : List ℕ) (m : ℕ) (store : Store) → Descending bound store → is_live store m ≡ true
    → is_in met m ≡ false → 1 + unmet (m ∷ met) store ≡ unmet met store
unmet_less bound met m [] d live none = absurd (cc)
unmet_less bound met m ((n, o) ∷ store) d live none = by (nat_eq n m) refl (λ q. unmet_less n met m store d.1 q none)
  where
    by : (b : Bool) → nat_eq n m ≡ b → (is_live store m ≡ true → 1 + unmet (m ∷ met) store ≡ unmet met store)
        → 1 + unmet (m ∷ met) ((n, o) ∷ store) ≡ unmet met ((n, o) ∷ store)
    by true e rest =
        let is = eqb-true n m e in
        let a : unmet (m ∷ met) store ≡ unmet met store = unmet_above n met m store d.1 (omega arith) in
        let b : (if is_in (m ∷ met) n then 0 else 1) ≡ 0 = ap (λ z. if z || is_in met n then 0 else 1) e in
        let c : (if is_in met n then 0 else 1) ≡ 1 = ap (λ z. if z then 0 else 1) (ap (is_in met) is ∙ none) in
        let f : (x y : ℕ) → x ≡ 0 → y ≡ 1 → 1 + (x + unmet (m ∷ met) store) ≡ y + unmet met store =
        λ x y p q. omega arith in
        f (if is_in (m ∷ met) n then 0 else 1) (if is_in met n then 0 else 1) b c
    by false e rest =
        let r = rest (ap (λ z. is_some (option_map head_of z)) (sym (there n m o store e)) ∙ live) in
        let b : (if is_in (m ∷ met) n then 0 else 1) ≡ (if is_in met n then 0 else 1) =
        ap (λ z. if z || is_in met n then 0 else 1) e in
        let f : (x y : ℕ) → x ≡ y → 1 + (x + unmet (m ∷ met) store) ≡ y + unmet met store = λ x y p. omega arith in
        f (if is_in (m ∷ met) n then 0 else 1) (if is_in met n then 0 else 1) b

pub new_count : (bound : ℕ) (store : Store) (met : List ℕ) (cells : List Value) → Descending bound store
    → ((m : ℕ) → 0 < holders_among m cells → is_live store m ≡ true)
    → length (newly_met met cells) + unmet (met ++ newly_met met cells) store ≡ unmet met store
new_count bound store met [] d live = let a = unmet_same (met ++ []) met store
    (λ n. in_append met [] n ∙ by (is_in met n)) in omega arith
  where
    by : (b : Bool) → (b || false) ≡ b
    by true = refl
    by false = refl
new_count bound store met (Word w ∷ cells) d live = new_count bound store met cells d (λ m p. live m (omega arith))
new_count bound store met (Nil ∷ cells) d live = new_count bound store met cells d (λ m p. live m (omega arith))
new_count bound store met (Name n ∷ cells) d live = by (list_any (nat_eq n) met) refl
    (new_count bound store met cells d (λ m p. live m (omega arith)))
    (new_count bound store (n ∷ met) cells d (λ m p. live m (omega arith)))
  where
    by : (b : Bool) → list_any (nat_eq n) met ≡ b → length (newly_met met cells) + unmet (met ++ newly_met met cells)
        store ≡ unmet met store → length (newly_met (n ∷ met) cells) + unmet ((n ∷ met) ++ newly_met (n ∷ met) cells)
        store ≡ unmet (n ∷ met) store
        → length (if b then newly_met met cells else n ∷ newly_met (n ∷ met) cells) + unmet
        (met ++ (if b then newly_met met cells else n ∷ newly_met (n ∷ met) cells)) store ≡ unmet met store
    by true e f g = f
    by false e f g =
        let one : one_if_name n (Name n) ≡ 1 = ap (λ b. if b then 1 else 0) (same_number n) in
        let a = unmet_less bound met n store d (live n (omega arith)) e in
        let b = unmet_same ((n ∷ met) ++ newly_met (n ∷ met) cells) (met ++ n ∷ newly_met (n ∷ met) cells) store
        (in_moved met (newly_met (n ∷ met) cells) n) in
        omega arith

-- ---- the walk

-- what is met is held, and what is met and no longer pending has met cells
record Walk (store : Store) (met pending : List ℕ) : Type 0 where
  pub held : (n : ℕ) → is_in met n ≡ true → 0 < holders n store
  pub done : (n : ℕ) → is_in met n ≡ true → is_in pending n ≡ false → AllWithin (is_in met) (object_at store n).cells

record Walked (store : Store) (met end : List ℕ) : Type 0 where
  pub more : (n : ℕ) → is_in met n ≡ true → is_in end n ≡ true
  pub held : (n : ℕ) → is_in end n ≡ true → 0 < holders n store
  pub done : (n : ℕ) → is_in end n ≡ true → AllWithin (is_in end) (object_at store n).cells
  pub count : length end + unmet end store ≡ length met + unmet met store

-- what an object of a store holds is held
pub held_at : (store : Store) (n m : ℕ) → 0 < holders_among m (object_at store n).cells → 0 < holders m store
held_at store n m h = by (object_named store n) refl h
  where
    by : (o : Option Object) → object_named store n ≡ o → 0 < holders_among m (unwrap_or o no_object).cells
        → 0 < holders m store
    by None e q = absurd (let z : 0 < 0 = q in omega arith)
    by (Some o) e q = let a = holders_inside m store n o e in omega arith

over : (store : Store) (met : List ℕ) → Walk store met [] → Walked store met met
over store met w = record { more = λ n h. h; held = w.held; done = λ n h. w.done n h refl; count = refl }

walks : (bound : ℕ) (store : Store) → Descending bound store → ((m : ℕ) → 0 < holders m store → is_live store m ≡ true)
    → (steps : ℕ) (met pending : List ℕ) → Walk store met pending → length pending + unmet met store ≤ steps
    → Walked store met (walked steps store met pending)
walks bound store d live zero met [] w h = over store met w
walks bound store d live zero met (name ∷ pending) w h = absurd (omega arith)
walks bound store d live (suc steps) met [] w h = over store met w
walks bound store d live (suc steps) met (name ∷ pending) w h =
    let cells = (object_at store name).cells in
    let new = newly_met met cells in
    let counted = new_count bound store met cells d (λ m p. live m (held_at store name m p)) in
    let size : length (pending ++ new) ≡ length pending + length new = length-append pending new in
    let ih = walks bound store d live steps (met ++ new) (pending ++ new)
    (record { held = held; done = λ n a b. done n a b (nat_eq n name) refl }) (omega arith) in
    let met_size : length (met ++ new) ≡ length met + length new = length-append met new in
    record {
      more = λ n q. ih.more n (in_first met new n q);
      held = ih.held;
      done = ih.done;
      count = let a = ih.count in omega arith;
    }
  where
    held : (n : ℕ) → is_in (met ++ newly_met met (object_at store name).cells) n ≡ true → 0 < holders n store
    held n q = or_either (is_in met n) (is_in (newly_met met (object_at store name).cells) n)
        (sym (in_append met (newly_met met (object_at store name).cells) n) ∙ q) (λ a. w.held n a)
        (λ a. held_at store name n (new_held met (object_at store name).cells n a))

    done : (n : ℕ) → is_in (met ++ newly_met met (object_at store name).cells) n ≡ true
        → is_in (pending ++ newly_met met (object_at store name).cells) n ≡ false → (b : Bool) → nat_eq n name ≡ b
        → AllWithin (is_in (met ++ newly_met met (object_at store name).cells)) (object_at store n).cells
    done n a b true e = subst (λ k. AllWithin (is_in (met ++ newly_met met (object_at store name).cells))
        (object_at store k).cells) (sym (eqb-true n name e)) (new_covers met (object_at store name).cells)
    done n a b false e =
        let new = newly_met met (object_at store name).cells in
        let outside = or_parts (is_in pending n) (is_in new n) (sym (in_append pending new n) ∙ b) in
        let in_met = or_either (is_in met n) (is_in new n) (sym (in_append met new n) ∙ a) (λ q. q)
        (λ q. absurd (clash (is_in new n) q outside.1)) in
        within_more (is_in met) (is_in (met ++ new)) (object_at store n).cells (λ m q. in_first met new m q)
        (w.done n in_met (ap (λ z. z || is_in pending n) e ∙ outside.0))

-- what is numbered
pub record Numbered (store : Store) : Type 0 where
  pub main_cells : AllWithin (is_in (numbered store)) (object_at store main_name).cells
  pub cells : (n : ℕ) → is_in (numbered store) n ≡ true → AllWithin (is_in (numbered store)) (object_at store n).cells
  pub held : (n : ℕ) → is_in (numbered store) n ≡ true → 0 < holders n store
  pub count : length (numbered store) + unmet (numbered store) store ≡ length store

pub numbers : (bound : ℕ) (store : Store) → Descending bound store
    → ((m : ℕ) → 0 < holders m store → is_live store m ≡ true) → Numbered store
numbers bound store d live =
    let cells = (object_at store main_name).cells in
    let first = newly_met [] cells in
    let counted = new_count bound store [] cells d (λ m p. live m (held_at store main_name m p)) in
    let all = unmet_all store in
    let w = walks bound store d live (length store) first first
    (record {
      held = λ n q. held_at store main_name n (new_held [] cells n q);
      done = λ n q p. absurd (clash (is_in first n) q p);
    }) (omega arith) in
    record {
      main_cells = within_more (is_in first) (is_in (numbered store)) cells w.more (new_covers [] cells);
      cells = w.done;
      held = w.held;
      count = let a = w.count in omega arith;
    }

-- ---- all but the main object

abbrev one_where_not : Bool → ℕ
one_where_not b = if b then 0 else 1

if_true : (b : Bool) → b ≡ true → one_where_not b ≡ 0
if_true true h = refl
if_true false h = absurd (cc)

if_false : (b : Bool) → b ≡ false → one_where_not b ≡ 1
if_false false h = refl
if_false true h = absurd (cc)

live_first : (n : ℕ) (o : Object) (store : Store) → is_live ((n, o) ∷ store) n ≡ true
live_first n o store = ap (λ z. is_some (option_map head_of z)) (here n n o store (same_number n))

pub unmet_none : (met : List ℕ) (store : Store) → ((n : ℕ) → is_live store n ≡ true → is_in met n ≡ true)
    → unmet met store ≡ 0
unmet_none met [] h = refl
unmet_none met ((n, o) ∷ store) h =
    let a = unmet_none met store (λ m l. h m (live_behind m l)) in
    let b = if_true (is_in met n) (h n (live_first n o store)) in
    omega arith
  where
    live_behind : (m : ℕ) → is_live store m ≡ true → is_live ((n, o) ∷ store) m ≡ true
    live_behind m l = by (nat_eq n m) refl
      where
        by : (b : Bool) → nat_eq n m ≡ b → is_live ((n, o) ∷ store) m ≡ true
        by true e = ap (λ z. is_some (option_map head_of z)) (here n m o store e)
        by false e = ap (λ z. is_some (option_map head_of z)) (there n m o store e) ∙ l

pub unmet_one : (bound : ℕ) (met : List ℕ) (store : Store) (main : ℕ) → Descending bound store
    → is_live store main ≡ true → is_in met main ≡ false →
    ((n : ℕ) → is_live store n ≡ true → n ≢ main → is_in met n ≡ true) → unmet met store ≡ 1
unmet_one bound met [] main d live none h = absurd (cc)
unmet_one bound met ((n, o) ∷ store) main d live none h =
    by (nat_eq n main) refl (λ q. unmet_one n met store main d.1 q none (λ m l k. h m (live_behind m l) k))
  where
    live_behind : (m : ℕ) → is_live store m ≡ true → is_live ((n, o) ∷ store) m ≡ true
    live_behind m l = by (nat_eq n m) refl
      where
        by : (b : Bool) → nat_eq n m ≡ b → is_live ((n, o) ∷ store) m ≡ true
        by true e = ap (λ z. is_some (option_map head_of z)) (here n m o store e)
        by false e = ap (λ z. is_some (option_map head_of z)) (there n m o store e) ∙ l

    by : (b : Bool) → nat_eq n main ≡ b → (is_live store main ≡ true → unmet met store ≡ 1)
        → unmet met ((n, o) ∷ store) ≡ 1
    by true e rest =
        let is = eqb-true n main e in
        let a : unmet met store ≡ 0 = unmet_none met store (λ m l. h m (live_behind m l) (λ q.
        let gone : is_live store m ≡ false = ap (λ z. is_some (option_map head_of z))
        (none_above n store m d.1 (omega arith)) in
        clash (is_live store m) l gone)) in
        let b = if_false (is_in met n) (ap (is_in met) is ∙ none) in
        omega arith
    by false e rest =
        let a = rest (ap (λ z. is_some (option_map head_of z)) (sym (there n main o store e)) ∙ live) in
        let b = if_true (is_in met n) (h n (live_first n o store) (differs n main e)) in
        omega arith
