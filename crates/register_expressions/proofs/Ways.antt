-- How a number comes from those of its parts.
use Rattle.std.proofs.Common.{◌≡◌, ◌≢◌, ℕ, ◌+◌, ◌<◌, ◌≤◌, ◌⊎◌, inl, inr, List, refl, sym, ◌∙◌}
use Rattle.std.specs.Prelude.{slice_index, Result, Ok, Err}
use Rattle.code_scope.specs.code_conventions.declared.memory.TheConstants.{HEADER_WORDS}
use Rattle.code_scope.specs.rpp_tree.declared.tree.BinOp.{BinOp}
use Rattle.code_scope.specs.roopl_semantics.Operators.{operated}
use Rattle.register_expressions.specs.Number.{element_address, element_at, word_in, combined_words}
use Rattle.register_expressions.proofs.Numbers.{element_nil, element_inside, element_past, Way, nil, inside, past}
use Rattle.register_expressions.proofs.Numbers.{way_of}

pub ok_is : {x y : ℕ} → ◌≡◌ {A = Result ℕ ℕ} (Ok x) (Ok y) → x ≡ y
ok_is e = cc

pub err_is : {x y : ℕ} → ◌≡◌ {A = Result ℕ ℕ} (Err x) (Err y) → x ≡ y
err_is e = cc

pub record BothOk (o : BinOp) (l r : Result ℕ ℕ) (v : ℕ) : Type 0 where
  pub x : ℕ
  pub y : ℕ
  pub left : l ≡ Ok x
  pub right : r ≡ Ok y
  pub is : operated o x y ≡ v

pub both_ok : (o : BinOp) (l r : Result ℕ ℕ) (v : ℕ) → combined_words o l r ≡ Ok v → BothOk o l r v
both_ok o (Err c) r v e = absurd (cc)
both_ok o (Ok x) (Err c) v e = absurd (cc)
both_ok o (Ok x) (Ok y) v e = record { x = x; y = y; left = refl; right = refl; is = ok_is e }

pub one_err : (o : BinOp) (l r : Result ℕ ℕ) (c : ℕ) → combined_words o l r ≡ Err c
    → (l ≡ Err c) ⊎ ((x : ℕ) × (l ≡ Ok x) × (r ≡ Err c))
one_err o (Err d) r c e = inl e
one_err o (Ok x) (Err d) c e = inr (x, refl, e)
one_err o (Ok x) (Ok y) c e = absurd (cc)

-- an index that has a number, and an element that is there
pub record IsInside (zs : List ℕ) (array : ℕ) (k : Result ℕ ℕ) (a : ℕ) : Type 0 where
  pub x : ℕ
  pub index : k ≡ Ok x
  pub array_is : array ≢ 0
  pub below : x < slice_index zs array
  pub at : array + x + HEADER_WORDS ≡ a

pub data IsFault (zs : List ℕ) (array : ℕ) (k : Result ℕ ℕ) (c : ℕ) : Type 0 where
  by_index : k ≡ Err c → IsFault zs array k c
  by_nil : (x : ℕ) → k ≡ Ok x → array ≡ 0 → c ≡ 5 → IsFault zs array k c
  by_end : (x : ℕ) → k ≡ Ok x → array ≢ 0 → slice_index zs array ≤ x → c ≡ 9 → IsFault zs array k c

module _ (zs : List ℕ) (array : ℕ) where
  inside_by : (x a : ℕ) → element_address zs array x ≡ Ok a → Way zs array x → IsInside zs array (Ok x) a
  inside_by x a e (nil z) = let n = element_nil zs array x z in absurd (cc)
  inside_by x a e (inside n l) = let s = element_inside zs array x n l in
      record { x = x; index = refl; array_is = n; below = l; at = ok_is (sym s ∙ e) }
  inside_by x a e (past n l) = let s = element_past zs array x n l in absurd (cc)

  -- if an element has an address, it is there
  pub inside_of : (k : Result ℕ ℕ) (a : ℕ) → element_at zs array k ≡ Ok a → IsInside zs array k a
  inside_of (Err d) a e = absurd (cc)
  inside_of (Ok x) a e = inside_by x a e (way_of zs array x)

  fault_by : (x c : ℕ) → element_address zs array x ≡ Err c → Way zs array x → IsFault zs array (Ok x) c
  fault_by x c e (nil z) = by_nil x refl z (sym (err_is (sym (element_nil zs array x z) ∙ e)))
  fault_by x c e (inside n l) = let s = element_inside zs array x n l in absurd (cc)
  fault_by x c e (past n l) = by_end x refl n l (sym (err_is (sym (element_past zs array x n l) ∙ e)))

  pub fault_of : (k : Result ℕ ℕ) (c : ℕ) → element_at zs array k ≡ Err c → IsFault zs array k c
  fault_of (Err d) c e = by_index e
  fault_of (Ok x) c e = fault_by x c e (way_of zs array x)

pub address_of_word : (zs : List ℕ) (r : Result ℕ ℕ) (v : ℕ) → word_in zs r ≡ Ok v
    → (a : ℕ) × (r ≡ Ok a) × (slice_index zs a ≡ v)
address_of_word zs (Err c) v e = absurd (cc)
address_of_word zs (Ok a) v e = (a, refl, ok_is e)

pub fault_of_word : (zs : List ℕ) (r : Result ℕ ℕ) (c : ℕ) → word_in zs r ≡ Err c → r ≡ Err c
fault_of_word zs (Err d) c e = e
fault_of_word zs (Ok a) c e = absurd (cc)
