-- The heads of arrays: the types of their cells, their first word, and a place that takes them.
use Rattle.std.proofs.Common.{◌≡◌, ℕ, zero, suc, ◌<◌, ◌≤◌, true, false, length, Option, Some, None, refl, sym, ap, ◌∙◌}
use Rattle.std.proofs.Common.{subst, arith, eqb-true}
use Rattle.std.proofs.lemmas.List.{length-replicate}
use Rattle.std.specs.Prelude.{replicate, ◌&&◌}
use Rattle.std.specs.Option.{unwrap_or}
use Rattle.object_codegen.specs.rpp_tree.declared.tree.Ident.{Ident}
use Rattle.object_codegen.specs.rpp_tree.Tree.{Source}
use Rattle.object_codegen.specs.class_rules.declared.kind.Kind.{Kind}
use Rattle.object_codegen.specs.class_rules.declared.kind.Kind.TheVariants as kind
use Rattle.object_codegen.specs.class_rules.Classes.{class_number}
use Rattle.object_codegen.specs.class_rules.Table.{table_of, class_of}
use Rattle.object_codegen.specs.class_rules.Expressions.{is_int, element_kind}
use Rattle.object_codegen.specs.class_rules.Statements.{is_int_array, takes_objects_of}
use Rattle.object_codegen.specs.roopl_semantics.Store.{Value, Word, Nil, Head, OfClass, OfInts, OfObjects, Store, is_zero}
use Rattle.object_codegen.specs.roopl_semantics.Execution.{all_zero}
use Rattle.object_codegen.specs.roopl_semantics.Laws.{one_if_name, holders_among}
use Rattle.object_codegen.specs.roopl_semantics.Layout.{head_word}
use Rattle.object_codegen.specs.meaning_sound.Sound.{head_fits, is_of_kind, cell_kinds, AllFit}
use Rattle.object_codegen.proofs.meaning_sound_laws.Stores.{same_number}
use Rattle.object_codegen.specs.refine_form.Stands.{HasElements}

-- arrays of a type: their heads by the length, and what their cells are at first
pub record Arrays (P : Source) (array element : Kind) (head : ℕ → Head) (first : Value) : Type 0 where
  pub is_array : element_kind array ≡ Some element
  pub heads : (n : ℕ) → head_fits P array (head n) ≡ true
  pub kinds : (n : ℕ) → cell_kinds P (head n) ≡ replicate n element
  pub marks : (n : ℕ) → head_word P (head n) ≡ n
  pub some : (n : ℕ) → 0 < n → HasElements (head n)
  pub fit : (store : Store) → is_of_kind P store first element ≡ true
  pub nothing : is_zero first ≡ true
  pub unheld : (m : ℕ) → one_if_name m first ≡ 0

-- ---- the two of them

pub of_ints : (P : Source) → Arrays P kind.IntArray kind.Int OfInts (Word 0)
of_ints P = record {
  is_array = refl;
  heads = λ n. refl;
  kinds = λ n. refl;
  marks = λ n. refl;
  some = λ n l. l;
  fit = λ store. refl;
  nothing = refl;
  unheld = λ m. refl;
}

of_class : (P : Source) (class : ℕ) → Arrays P (kind.ClassArray class) (kind.Class class) (OfObjects class) Nil
of_class P class = record {
  is_array = refl;
  heads = λ n. same_number class;
  kinds = λ n. refl;
  marks = λ n. refl;
  some = λ n l. l;
  fit = λ store. refl;
  nothing = refl;
  unheld = λ m. refl;
}

pub ints_place : (k : Kind) → is_int_array k ≡ true → k ≡ kind.IntArray
ints_place kind.Int h = absurd (cc)
ints_place kind.Nil h = absurd (cc)
ints_place (kind.Class c) h = absurd (cc)
ints_place kind.IntArray h = refl
ints_place (kind.ClassArray c) h = absurd (cc)

-- the place takes arrays of the class
pub record OfObjectsOf (P : Source) (class : Ident) (array : Kind) : Type 0 where
  pub element : Kind
  pub arrays : Arrays P array element (OfObjects (unwrap_or (class_number P class.text) 0)) Nil

pub of_objects : (P : Source) (class : Ident) (k : Kind) → takes_objects_of (class_of (table_of P) class.text) k ≡ true
    → OfObjectsOf P class k
of_objects P class k h = by (class_of (table_of P) class.text) k refl h
  where
    by : (o : Option ℕ) (k : Kind) → class_of (table_of P) class.text ≡ o → takes_objects_of o k ≡ true
        → OfObjectsOf P class k
    by None k e q = absurd (cc)
    by (Some c) kind.Int e q = absurd (cc)
    by (Some c) kind.Nil e q = absurd (cc)
    by (Some c) (kind.Class own) e q = absurd (cc)
    by (Some c) kind.IntArray e q = absurd (cc)
    by (Some c) (kind.ClassArray own) e q =
        let is : unwrap_or (class_number P class.text) 0 ≡ c = ap (λ o. unwrap_or o 0) e in
        record {
          element = kind.Class own;
          arrays = subst (λ z. Arrays P (kind.ClassArray own) (kind.Class own) (OfObjects z) Nil)
              (sym (is ∙ eqb-true c own q)) (of_class P own);
        }

-- ---- what follows

module _ (P : Source) (array element : Kind) (head : ℕ → Head) (first : Value) (a : Arrays P array element head first)
  where
    pub as_many : (n : ℕ) → length (cell_kinds P (head n)) ≡ n
    as_many n = ap (length {A = Kind}) (a.kinds n) ∙ length-replicate n element

    all_fit : (store : Store) (n : ℕ) → AllFit P store (replicate n element) (replicate n first)
    all_fit store zero = tt
    all_fit store (suc n) = (a.fit store, all_fit store n)

    pub cells_fit : (n : ℕ) (store : Store) → AllFit P store (cell_kinds P (head n)) (replicate n first)
    cells_fit n store = subst (λ ks. AllFit P store ks (replicate n first)) (sym (a.kinds n)) (all_fit store n)

    pub none_held : (n m : ℕ) → holders_among m (replicate n first) ≡ 0
    none_held zero m = refl
    none_held (suc n) m = let x = a.unheld m in let y = none_held n m in omega (arith, x, y)

    pub all_nothing : (n : ℕ) → all_zero (replicate n first) ≡ true
    all_nothing zero = refl
    all_nothing (suc n) = ap (λ b. b && all_zero (replicate n first)) a.nothing ∙ all_nothing n

    pub no_int : is_int array ≡ false
    no_int = by array a.is_array
      where
        by : (k : Kind) → element_kind k ≡ Some element → is_int k ≡ false
        by kind.Int e = absurd (cc)
        by kind.Nil e = refl
        by (kind.Class c) e = refl
        by kind.IntArray e = refl
        by (kind.ClassArray c) e = refl

    -- no array has arrays as elements
    pub no_element : (k : Kind) → element_kind k ≡ Some array → ⊥
    no_element k e = by k array e a.is_array
      where
        by : (k b : Kind) → element_kind k ≡ Some b → element_kind b ≡ Some element → ⊥
        by k kind.Int e f = cc
        by k kind.Nil e f = cc
        by k (kind.Class c) e f = cc
        by kind.Int kind.IntArray e f = cc
        by kind.Nil kind.IntArray e f = cc
        by (kind.Class c) kind.IntArray e f = cc
        by kind.IntArray kind.IntArray e f = cc
        by (kind.ClassArray c) kind.IntArray e f = cc
        by kind.Int (kind.ClassArray d) e f = cc
        by kind.Nil (kind.ClassArray d) e f = cc
        by (kind.Class c) (kind.ClassArray d) e f = cc
        by kind.IntArray (kind.ClassArray d) e f = cc
        by (kind.ClassArray c) (kind.ClassArray d) e f = cc

    pub found_mark : (hd : Head) → head_fits P array hd ≡ true → head_word P hd ≡ length (cell_kinds P hd)
    found_mark hd h = by array hd a.is_array h
      where
        by : (k : Kind) (hd : Head) → element_kind k ≡ Some element → head_fits P k hd ≡ true
            → head_word P hd ≡ length (cell_kinds P hd)
        by kind.Int hd e h = absurd (cc)
        by kind.Nil hd e h = absurd (cc)
        by (kind.Class c) hd e h = absurd (cc)
        by kind.IntArray (OfClass c) e h = absurd (cc)
        by kind.IntArray (OfInts m) e h = sym (length-replicate m kind.Int)
        by kind.IntArray (OfObjects c m) e h = absurd (cc)
        by (kind.ClassArray d) (OfClass c) e h = absurd (cc)
        by (kind.ClassArray d) (OfInts m) e h = absurd (cc)
        by (kind.ClassArray d) (OfObjects c m) e h = sym (length-replicate m (kind.Class c))

    pub found_some : (hd : Head) → head_fits P array hd ≡ true → HasElements hd → 1 ≤ length (cell_kinds P hd)
    found_some hd h s = by array hd a.is_array h s
      where
        by : (k : Kind) (hd : Head) → element_kind k ≡ Some element → head_fits P k hd ≡ true → HasElements hd
            → 1 ≤ length (cell_kinds P hd)
        by kind.Int hd e h s = absurd (cc)
        by kind.Nil hd e h s = absurd (cc)
        by (kind.Class c) hd e h s = absurd (cc)
        by kind.IntArray (OfClass c) e h s = absurd (cc)
        by kind.IntArray (OfInts m) e h s = let z = length-replicate m kind.Int in omega (arith, z, s)
        by kind.IntArray (OfObjects c m) e h s = absurd (cc)
        by (kind.ClassArray d) (OfClass c) e h s = absurd (cc)
        by (kind.ClassArray d) (OfInts m) e h s = absurd (cc)
        by (kind.ClassArray d) (OfObjects c m) e h s = let z = length-replicate m (kind.Class c) in omega (arith, z, s)
