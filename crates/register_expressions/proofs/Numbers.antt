-- What an expression is depends only on the words below an address, and is a word.
use Rattle.std.proofs.Common.{◌≡◌, ◌≢◌, ℕ, ◌+◌, ◌^◌, ◌<◌, ◌≤◌, Bool, true, false, List, length, refl, sym, ap, ◌∙◌}
use Rattle.std.proofs.Common.{subst, arith, ⊎_elim}
use Rattle.std.specs.Prelude.{slice_index, slice_set, nat_eq, nat_lt, if◌then◌else◌, Result, Ok, Err}
use Rattle.std.specs.Int.Bits.{and_lt}
use Rattle.std.proofs.lemmas.Nat.{xor_lt, or_lt}
use Rattle.std.proofs.lemmas.List.{get_or-set_same, get_or-set_other, set_past}
use Rattle.std.proofs.lemmas.Bool.{cases_lt, cases_eq}
use Rattle.std.proofs.lemmas.Bool.Decides.{nat_tests}
use Rattle.code_scope.specs.code_conventions.declared.memory.TheConstants.{HEADER_WORDS}
use Rattle.code_scope.specs.rpp_tree.declared.tree.BinOp.{BinOp}
use Rattle.code_scope.specs.rpp_tree.declared.tree.BinOp.TheVariants as op
use Rattle.code_scope.specs.rpp_tree.Tree.{Expression, Number, Null, Variable, Element, Binary}
use Rattle.code_scope.specs.roopl_semantics.Operators.{operated}
use Rattle.code_scope.specs.refine_form.declared.spot.Spot.{Spot}
use Rattle.register_expressions.specs.Number.{Bases, element_address, element_at, word_in, combined_words, word_of, number}
use Rattle.register_expressions.specs.Number.{IsArray, Sees}
use Rattle.code_scope.proofs.meaning_sound_laws.Values.{truth_is_word}
use Rattle.code_scope.specs.code_conventions.declared.faults.TheConstants.{INDEX, NIL}

-- the same words below an address
abbrev pub Agree : ℕ → List ℕ → List ℕ → Type 0
Agree low zs zs' = (a : ℕ) → a < low → slice_index zs' a ≡ slice_index zs a

abbrev pub AllWords : List ℕ → Type 0
AllWords zs = (a : ℕ) → slice_index zs a < 2 ^ 32

pub operated_word : (o : BinOp) (x y : ℕ) → x < 2 ^ 32 → y < 2 ^ 32 → operated o x y < 2 ^ 32
operated_word op.Add x y h k = omega arith
operated_word op.Sub x y h k = omega arith
operated_word op.Xor x y h k = xor_lt 32 x y h k
operated_word op.And x y h k = and_lt 32 x y h k
operated_word op.Or x y h k = or_lt 32 x y h k
operated_word op.AndAlso x y h k = truth_is_word _
operated_word op.OrElse x y h k = truth_is_word _
operated_word op.Less x y h k = truth_is_word _
operated_word op.Greater x y h k = truth_is_word _
operated_word op.AtMost x y h k = truth_is_word _
operated_word op.AtLeast x y h k = truth_is_word _
operated_word op.Equal x y h k = truth_is_word _
operated_word op.NotEqual x y h k = truth_is_word _
operated_word op.Mul x y h k = omega arith
operated_word op.Div x y h k = omega arith
operated_word op.Rem x y h k = omega arith

-- ---- elements

pub element_nil : (zs : List ℕ) (array i : ℕ) → array ≡ 0 → element_address zs array i ≡ Err NIL
element_nil zs array i e =
    let t : nat_eq array 0 ≡ true = grind (arith, nat_tests) in
    ap (λ t. if t then Err NIL else (if nat_lt i (slice_index zs array) then Ok (array + i + HEADER_WORDS) else Err
    INDEX)) t

picked : (t u : Bool) (x : Result ℕ ℕ) (p q : Bool) → t ≡ p → u ≡ q
    → (if t then Err NIL else (if u then x else Err INDEX)) ≡ (if p then Err NIL else (if q then x else Err INDEX))
picked t u x p q e f = ap (λ t. if t then Err NIL else (if u then x else Err INDEX)) e
    ∙ ap (λ u. if p then Err NIL else (if u then x else Err INDEX)) f

pub element_inside : (zs : List ℕ) (array i : ℕ) → array ≢ 0 → i < slice_index zs array
    → element_address zs array i ≡ Ok (array + i + HEADER_WORDS)
element_inside zs array i n l = picked (nat_eq array 0) (nat_lt i (slice_index zs array))
    (Ok (array + i + HEADER_WORDS)) false
    true (grind (arith, nat_tests)) (grind (arith, nat_tests))

pub element_past : (zs : List ℕ) (array i : ℕ) → array ≢ 0 → slice_index zs array ≤ i
    → element_address zs array i ≡ Err INDEX
element_past zs array i n l = picked (nat_eq array 0) (nat_lt i (slice_index zs array)) (Ok (array + i + HEADER_WORDS))
    false false
    (grind (arith, nat_tests)) (grind (arith, nat_tests))

-- the three ways an element can go
pub data Way (zs : List ℕ) (array i : ℕ) : Type 0 where
  nil : array ≡ 0 → Way zs array i
  inside : array ≢ 0 → i < slice_index zs array → Way zs array i
  past : array ≢ 0 → slice_index zs array ≤ i → Way zs array i

pub way_of : (zs : List ℕ) (array i : ℕ) → Way zs array i
way_of zs array i = ⊎_elim (λ e. nil e) (λ n. ⊎_elim (λ l. inside n l) (λ g. past n g)
    (cases_lt i (slice_index zs array))) (cases_eq array 0)

module _ (spot : List ℕ → Spot) (b : Bases) (low : ℕ) where
  element_same_by : (zs zs' : List ℕ) → Agree low zs zs' → (array i : ℕ) → IsArray spot b low zs array → Way zs array i
      → word_in zs' (element_address zs' array i) ≡ word_in zs (element_address zs array i)
  element_same_by zs zs' ag array i k (nil e) = ap (word_in zs') (element_nil zs' array i e)
      ∙ sym (ap (word_in zs) (element_nil zs array i e))
  element_same_by zs zs' ag array i k (inside n l) =
      let r = k.room n in
      let head : slice_index zs' array ≡ slice_index zs array = ag array (omega arith) in
      let l' : i < slice_index zs' array = rw head l in
      ap (word_in zs') (element_inside zs' array i n l') ∙ ap Ok (ag (array + i + HEADER_WORDS) (omega arith))
      ∙ sym (ap (word_in zs) (element_inside zs array i n l))
  element_same_by zs zs' ag array i k (past n l) =
      let r = k.room n in
      let head : slice_index zs' array ≡ slice_index zs array = ag array (omega arith) in
      let l' : slice_index zs' array ≤ i = rw head l in
      ap (word_in zs') (element_past zs' array i n l') ∙ sym (ap (word_in zs) (element_past zs array i n l))

  element_same : (zs zs' : List ℕ) → Agree low zs zs' → (array : ℕ) (k : Result ℕ ℕ) → IsArray spot b low zs array
      → word_in zs' (element_at zs' array k) ≡ word_in zs (element_at zs array k)
  element_same zs zs' ag array (Err c) h = refl
  element_same zs zs' ag array (Ok i) h = element_same_by zs zs' ag array i h (way_of zs array i)

  -- so has its address
  address_same_by : (zs zs' : List ℕ) → Agree low zs zs' → (array i : ℕ) → IsArray spot b low zs array → Way zs array i
      → element_address zs' array i ≡ element_address zs array i
  address_same_by zs zs' ag array i k (nil e) = element_nil zs' array i e ∙ sym (element_nil zs array i e)
  address_same_by zs zs' ag array i k (inside n l) =
      let r = k.room n in
      let head : slice_index zs' array ≡ slice_index zs array = ag array (omega arith) in
      let l' : i < slice_index zs' array = rw head l in
      element_inside zs' array i n l' ∙ sym (element_inside zs array i n l)
  address_same_by zs zs' ag array i k (past n l) =
      let r = k.room n in
      let head : slice_index zs' array ≡ slice_index zs array = ag array (omega arith) in
      let l' : slice_index zs' array ≤ i = rw head l in
      element_past zs' array i n l' ∙ sym (element_past zs array i n l)

  pub element_address_same : (zs zs' : List ℕ) → Agree low zs zs' → (array : ℕ) (k : Result ℕ ℕ)
      → IsArray spot b low zs array → element_at zs' array k ≡ element_at zs array k
  element_address_same zs zs' ag array (Err c) h = refl
  element_address_same zs zs' ag array (Ok i) h = address_same_by zs zs' ag array i h (way_of zs array i)

  pub number_same : (zs zs' : List ℕ) → Agree low zs zs' → (e : Expression) → Sees spot b low zs e
      → number spot b zs' e ≡ number spot b zs e
  number_same zs zs' ag (Number at word) h = refl
  number_same zs zs' ag (Null at) h = refl
  number_same zs zs' ag (Variable name) h = ap Ok (ag _ h)
  number_same zs zs' ag (Element name index) h =
      ap (λ z. word_in zs' (element_at zs' z (number spot b zs' index))) (ag _ h.0)
      ∙ ap (λ z. word_in zs' (element_at zs' (word_of spot b zs name.text) z)) (number_same zs zs' ag index h.2)
      ∙ element_same zs zs' ag (word_of spot b zs name.text) (number spot b zs index) h.1
  number_same zs zs' ag (Binary at op left right) h =
      ap (λ z. combined_words op z (number spot b zs' right)) (number_same zs zs' ag left h.0)
      ∙ ap (combined_words op (number spot b zs left)) (number_same zs zs' ag right h.1)

  array_same : (zs zs' : List ℕ) → Agree low zs zs' → (a : ℕ) → IsArray spot b low zs a → IsArray spot b low zs' a
  array_same zs zs' ag a h = record {
    short = λ n. let r = h.room n in rw (ag a (omega arith)) (h.short n);
    room = λ n. let r = h.room n in rw (ag a (omega arith)) r;
  }

  pub sees_same : (zs zs' : List ℕ) → Agree low zs zs' → (e : Expression) → Sees spot b low zs e → Sees spot b low zs' e
  sees_same zs zs' ag (Number at word) h = h
  sees_same zs zs' ag (Null at) h = tt
  sees_same zs zs' ag (Variable name) h = h
  sees_same zs zs' ag (Element name index) h =
      (h.0, subst (IsArray spot b low zs') (sym (ag _ h.0)) (array_same zs zs' ag _ h.1), sees_same zs zs' ag index h.2)
  sees_same zs zs' ag (Binary at op left right) h = (sees_same zs zs' ag left h.0, sees_same zs zs' ag right h.1)

  element_word : (zs : List ℕ) → AllWords zs → (r : Result ℕ ℕ) (v : ℕ) → word_in zs r ≡ Ok v → v < 2 ^ 32
  element_word zs w (Err c) v e = absurd (cc)
  element_word zs w (Ok a) v e = let k : slice_index zs a ≡ v = cc in subst (λ z. z < 2 ^ 32) k (w a)

  combined_word : (zs : List ℕ) → (o : BinOp) (x y : Result ℕ ℕ) (v : ℕ) → ((u : ℕ) → x ≡ Ok u → u < 2 ^ 32)
      → ((u : ℕ) → y ≡ Ok u → u < 2 ^ 32) → combined_words o x y ≡ Ok v → v < 2 ^ 32
  combined_word zs o (Err c) y v h k e = absurd (cc)
  combined_word zs o (Ok x) (Err c) v h k e = absurd (cc)
  combined_word zs o (Ok x) (Ok y) v h k e = let q : operated o x y ≡ v = cc in
      subst (λ z. z < 2 ^ 32) q (operated_word o x y (h x refl) (k y refl))

  -- a number is a word
  pub number_word : (zs : List ℕ) → AllWords zs → (e : Expression) → Sees spot b low zs e → (v : ℕ)
      → number spot b zs e ≡ Ok v → v < 2 ^ 32
  number_word zs w (Number at word) h v e = let q : word ≡ v = cc in subst (λ z. z < 2 ^ 32) q h
  number_word zs w (Null at) h v e = let q : 0 ≡ v = cc in omega arith
  number_word zs w (Variable name) h v e = let q : word_of spot b zs name.text ≡ v = cc in
      subst (λ z. z < 2 ^ 32) q (w _)
  number_word zs w (Element name index) h v e = element_word zs w
      (element_at zs (word_of spot b zs name.text) (number spot b zs index)) v e
  number_word zs w (Binary at o left right) h v e = combined_word zs o (number spot b zs left) (number spot b zs right)
      v (number_word zs w left h.0) (number_word zs w right h.1) e

-- a written word
pub words_set : (zs : List ℕ) (k v : ℕ) → AllWords zs → v < 2 ^ 32 → AllWords (slice_set zs k v)
words_set zs k v w h a = ⊎_elim (λ e. at e) (λ n. rw (get_or-set_other zs k a v 0 n) (w a)) (cases_eq a k)
  where
    at : a ≡ k → slice_index (slice_set zs k v) a < 2 ^ 32
    at e = ⊎_elim (λ l. subst (λ z. slice_index (slice_set zs k v) z < 2 ^ 32) (sym e)
        (rw (get_or-set_same zs k v 0 l) h)) (λ g. subst (λ z. slice_index z a < 2 ^ 32) (sym (set_past zs k v g))
        (w a)) (cases_lt k (length zs))
