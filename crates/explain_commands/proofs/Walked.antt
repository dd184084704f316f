-- Names that are met in turn.
use Rattle.std.proofs.Common.{◌≡◌, ℕ, zero, suc, ◌+◌, ◌-◌, ◌<◌, ◌≤◌, refl, sym, ap, ◌∙◌, arith, List, [], ◌∷◌, ◌++◌}
use Rattle.std.proofs.Common.{append_assoc, length, drop, Bool, true, false, Some, None}
use Rattle.std.specs.Prelude.{◌||◌, nat_eq, slice_get, if◌then◌else◌}
use Rattle.std.specs.List.{list_any}
use Rattle.std.proofs.lemmas.List.{append-nil}
use Rattle.std.proofs.lemmas.Option.{slice_get_past}
use Rattle.indexmap.specs.IndexSet.{insert_key}
use Rattle.source_meaning.specs.source_store.declared.value.Value.{Value as Held}
use Rattle.source_meaning.specs.source_store.ValueView.{value_of, values_of}
use Rattle.std.proofs.lemmas.List.Folds.{list_any-append}
use Rattle.store_report.specs.roopl_semantics.Store.{Value, Word, Nil, Name, Store, main_name, object_at}
use Rattle.store_report.specs.roopl_semantics.Report.{newly_met, walked, numbered}

or_swap : (a b : Bool) → (a || b) ≡ (b || (a || false))
or_swap true true = refl
or_swap true false = refl
or_swap false true = refl
or_swap false false = refl

-- lists with the same names meet the same
same_met : (a b : List ℕ) (cells : List Value) → ((q : ℕ) → list_any (nat_eq q) a ≡ list_any (nat_eq q) b)
    → newly_met a cells ≡ newly_met b cells
same_met a b [] h = refl
same_met a b (Word w ∷ cells) h = same_met a b cells h
same_met a b (Nil ∷ cells) h = same_met a b cells h
same_met a b (Name n ∷ cells) h =
    ap (λ t. if t then newly_met a cells else n ∷ newly_met (n ∷ a) cells) (h n)
    ∙ ap (λ r. if list_any (nat_eq n) b then r else n ∷ newly_met (n ∷ a) cells) (same_met a b cells h)
    ∙ ap (λ r. if list_any (nat_eq n) b then newly_met b cells else n ∷ r)
    (same_met (n ∷ a) (n ∷ b) cells (λ q. ap (λ t. nat_eq q n || t) (h q)))

-- one cell, and then the others
pub met_next : (names : List ℕ) (v : Value) (cells : List Value)
    → names ++ newly_met names (v ∷ cells) ≡ (names ++ newly_met names (v ∷ []))
    ++ newly_met (names ++ newly_met names (v ∷ [])) cells
met_next names (Word w) cells = sym (ap (λ met. met ++ newly_met met cells) (append-nil names))
met_next names Nil cells = sym (ap (λ met. met ++ newly_met met cells) (append-nil names))
met_next names (Name n) cells = by (list_any (nat_eq n) names)
  where
    by : (t : Bool) → names ++ (if t then newly_met names cells else n ∷ newly_met (n ∷ names) cells)
        ≡ (names ++ (if t then [] else n ∷ [])) ++ newly_met (names ++ (if t then [] else n ∷ [])) cells
    by true = sym (ap (λ met. met ++ newly_met met cells) (append-nil names))
    by false =
        sym (append_assoc names (n ∷ []) (newly_met (n ∷ names) cells))
        ∙ ap (λ met. (names ++ n ∷ []) ++ met) (same_met (n ∷ names) (names ++ n ∷ []) cells
        (λ q. or_swap (nat_eq q n) (list_any (nat_eq q) names) ∙ sym (list_any-append (nat_eq q) names (n ∷ []))))

-- a name that is put into a set of those met is one that is newly met, or was
pub met_key : (names : List ℕ) (n : ℕ) → insert_key nat_eq names n ≡ names ++ newly_met names (Name n ∷ [])
met_key names n = by (list_any (nat_eq n) names)
  where
    by : (t : Bool) → (if t then names else names ++ n ∷ []) ≡ names ++ (if t then [] else n ∷ [])
    by true = sym (append-nil names)
    by false = refl

-- ---- parts of lists

drop_append : {A : Type 0} (k : ℕ) (xs ys : List A) → k ≤ length xs → drop k (xs ++ ys) ≡ drop k xs ++ ys
drop_append zero xs ys h = refl
drop_append (suc k) [] ys h = absurd (omega arith)
drop_append (suc k) (x ∷ xs) ys h = drop_append k xs ys (omega arith)

pub drop_at : {A : Type 0} (k : ℕ) (xs : List A) (x : A) → slice_get xs k ≡ Some x
    → (drop k xs ≡ x ∷ drop (suc k) xs) × (suc k ≤ length xs)
drop_at zero [] x e = cc
drop_at zero (y ∷ xs) x e = let same : y ≡ x = cc in (ap (λ z. z ∷ xs) same, omega arith)
drop_at (suc k) [] x e = cc
drop_at (suc k) (y ∷ xs) x e = let r = drop_at k xs x e in (r.0, omega (arith, r.1))

pub drop_past : {A : Type 0} (k : ℕ) (xs : List A) → slice_get xs k ≡ None → drop k xs ≡ []
drop_past zero [] e = refl
drop_past zero (x ∷ xs) e = cc
drop_past (suc k) [] e = refl
drop_past (suc k) (x ∷ xs) e = drop_past k xs e

-- ---- the cells of one object

-- the cells below this place are met
pub record IsMeeting (cells : List Held) (old : List ℕ) (at : ℕ) (names : List ℕ) : Type 0 where
  pub rest : names ++ newly_met names (values_of (drop at cells)) ≡ old ++ newly_met old (values_of cells)

pub meets_first : (cells : List Held) (old : List ℕ) → IsMeeting cells old 0 old
meets_first cells old = record { rest = refl }

pub meets_on : (cells : List Held) (old : List ℕ) (at : ℕ) (names new : List ℕ) (v : Held)
    → IsMeeting cells old at names → slice_get cells at ≡ Some v
    → new ≡ names ++ newly_met names (value_of v ∷ []) → IsMeeting cells old (at + 1) new
meets_on cells old at names new v w e n =
    let one : at + 1 ≡ suc at = omega arith in
    record {
      rest =
          ap (λ met. met ++ newly_met met (values_of (drop (at + 1) cells))) n
          ∙ ap (λ k. (names ++ newly_met names (value_of v ∷ []))
          ++ newly_met (names ++ newly_met names (value_of v ∷ [])) (values_of (drop k cells))) one
          ∙ sym (met_next names (value_of v) (values_of (drop (suc at) cells)))
          ∙ ap (λ rest. names ++ newly_met names (values_of rest)) (sym (drop_at at cells v e).0)
          ∙ w.rest;
    }

pub meets_out : (cells : List Held) (old : List ℕ) (at : ℕ) (names : List ℕ) → IsMeeting cells old at names
    → slice_get cells at ≡ None → names ≡ old ++ newly_met old (values_of cells)
meets_out cells old at names w e = sym (append-nil names)
    ∙ ap (λ rest. names ++ newly_met names (values_of rest)) (sym (drop_past at cells e)) ∙ w.rest

pub meets_all : (cells : List Held) (old : List ℕ) (at size : ℕ) (names : List ℕ) → IsMeeting cells old at names
    → size ≡ length cells → size ≤ at → names ≡ old ++ newly_met old (values_of cells)
meets_all cells old at size names w s h = meets_out cells old at names w (slice_get_past cells at (omega arith))

-- ---- the walk

-- the walk has come as far as the object of this number
pub record IsWalking (store : Store) (size next : ℕ) (names : List ℕ) : Type 0 where
  pub rest : walked (size - next) store names (drop next names) ≡ numbered store
  pub within : next ≤ length names

pub begins : (store : Store) (size : ℕ) (names old : List ℕ) → size ≡ length store → old ≡ []
    → names ≡ old ++ newly_met old (object_at store main_name).cells → IsWalking store size 0 names
begins store size names old s o e =
    let none_less : size - 0 ≡ size = omega arith in
    let first : names ≡ newly_met [] (object_at store main_name).cells = e
    ∙ ap (λ met. met ++ newly_met met (object_at store main_name).cells) o in
    record {
      rest = ap (λ k. walked k store names names) (none_less ∙ s)
          ∙ ap (λ first. walked (length store) store first first) first;
      within = omega arith;
    }

done_walk : (k : ℕ) (store : Store) (names : List ℕ) → walked k store names [] ≡ names
done_walk zero store names = refl
done_walk (suc k) store names = refl

pub walked_out : (store : Store) (size next : ℕ) (names : List ℕ) → IsWalking store size next names
    → slice_get names next ≡ None → names ≡ numbered store
walked_out store size next names w e =
    sym (done_walk (size - next) store names) ∙ ap (walked (size - next) store names) (sym (drop_past next names e))
    ∙ w.rest

pub walked_all : (store : Store) (size next : ℕ) (names : List ℕ) → size ≤ next → IsWalking store size next names
    → names ≡ numbered store
walked_all store size next names h w =
    let none : size - next ≡ 0 = omega arith in
    ap (λ k. walked k store names (drop next names)) (sym none) ∙ w.rest

pub walks_on : (store : Store) (size next name : ℕ) (names new : List ℕ) → next < size → IsWalking store size next names
    → slice_get names next ≡ Some name
    → new ≡ names ++ newly_met names (object_at store name).cells → IsWalking store size (next + 1) new
walks_on store size next name names new h w e n =
    let met = newly_met names (object_at store name).cells in
    let at = drop_at next names name e in
    let left : size - next ≡ suc (size - (next + 1)) = omega arith in
    let one : next + 1 ≡ suc next = omega arith in
    record {
      rest =
          ap (λ xs. walked (size - (next + 1)) store xs (drop (next + 1) xs)) n
          ∙ ap (λ k. walked (size - (next + 1)) store (names ++ met) (drop k (names ++ met))) one
          ∙ ap (walked (size - (next + 1)) store (names ++ met)) (drop_append (suc next) names met at.1)
          ∙ ap (λ pending. walked (suc (size - (next + 1))) store names pending) (sym at.0)
          ∙ ap (λ k. walked k store names (drop next names)) (sym left)
          ∙ w.rest;
      within = let l = length_more names met in let s = ap length n in omega (arith, at.1);
    }
  where
    length_more : (xs ys : List ℕ) → length xs ≤ length (xs ++ ys)
    length_more [] ys = omega arith
    length_more (x ∷ xs) ys = let r = length_more xs ys in omega arith
