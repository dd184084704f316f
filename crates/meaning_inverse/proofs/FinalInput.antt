-- If no final field names an object, the final fields are an input.
use Rattle.std.proofs.Common.{◌≡◌, ℕ, suc, ◌<◌, ◌^◌, refl, sym, ap, subst, ◌∙◌, arith, true, false, not, List, [], ◌∷◌}
use Rattle.std.proofs.Common.{◌++◌, length, map, Option, Some, None, slice_get, slice_set, ne_eqb}
use Rattle.std.proofs.lemmas.Bool.{ltb-true}
use Rattle.std.proofs.lemmas.List.{append_assoc, length-append}
use Rattle.std.proofs.lemmas.List.Elements.{All-nil, All-cons}
use Rattle.std.specs.List.{All}
use Rattle.std.specs.Prelude.{IsTrue, ◌&&◌, ◌||◌}
use Rattle.meaning_reached.specs.rpp_words.Words.{IsWord}
use Rattle.meaning_reached.specs.rpp_words.Limits.{IsLimits}
use Rattle.meaning_reached.specs.rpp_words.declared.input.FieldWord.{FieldWord}
use Rattle.meaning_reached.specs.rpp_words.declared.input.Limits.{Limits}
use Rattle.meaning_reached.specs.rpp_tree.declared.tree.Var.{Var}
use Rattle.meaning_reached.specs.rpp_tree.declared.tree.VarType.{VarType}
use Rattle.meaning_reached.specs.rpp_tree.declared.tree.VarType.TheVariants as type
use Rattle.meaning_reached.specs.rpp_tree.Tree.{Source}
use Rattle.meaning_reached.specs.class_rules.Inheritance.{kind_of_var}
use Rattle.meaning_reached.specs.class_rules.Scope.{kind_of, array_kind}
use Rattle.meaning_reached.specs.class_rules.Table.{Table, table_of, class_of}
use Rattle.meaning_reached.specs.class_rules.Expressions.{is_int}
use Rattle.meaning_reached.specs.class_rules.Program.{IsAccepted}
use Rattle.meaning_reached.proofs.class_rules_laws.PassedRules.{both_true}
use Rattle.meaning_reached.specs.roopl_semantics.Run.{Done}
use Rattle.meaning_reached.specs.roopl_semantics.Store.{Value, Word, Nil, Name, Store, State, main_name, zero_value, zero_values}
use Rattle.meaning_reached.specs.roopl_semantics.Store.{object_at}
use Rattle.meaning_reached.specs.roopl_semantics.Source.{IsValid, is_int_type, is_int_field, names_field, names_none_twice, with_input}
use Rattle.meaning_reached.specs.roopl_semantics.Source.{main_fields, source}
use Rattle.meaning_reached.specs.meaning_sound.Sound.{cell_kinds, AllFit}
use Rattle.meaning_reached.proofs.meaning_sound_laws.Locals.{no_int_class}
use Rattle.meaning_inverse.proofs.Law.{end_of_run}
use Rattle.meaning_inverse.specs.InversePrograms.{field_words, names_nothing, AreInputCells}

set_seam : (front : List Value) (z : Value) (rest : List Value) (v : Value)
    → slice_set (front ++ z ∷ rest) (length front) v ≡ front ++ v ∷ rest
set_seam [] z rest v = refl
set_seam (x ∷ front) z rest v = ap (λ l. x ∷ l) (set_seam front z rest v)

get_seam : (front : List Var) (var : Var) (rest : List Var) → slice_get (front ++ var ∷ rest) (length front) ≡ Some var
get_seam [] var rest = refl
get_seam (x ∷ front) var rest = get_seam front var rest

one_longer : {A : Type 0} (front : List A) (x : A) → length (front ++ x ∷ []) ≡ suc (length front)
one_longer front x = let h = length-append front (x ∷ []) in omega arith

-- the next field, as the last of those before it
next_field : (front cells rest : List Value) (v : Value)
    → with_input (field_words (length (front ++ v ∷ [])) cells) ((front ++ v ∷ []) ++ rest) ≡ (front ++ v ∷ []) ++ cells
    → with_input (field_words (suc (length front)) cells) (front ++ v ∷ rest) ≡ front ++ v ∷ cells
next_field front cells rest v h =
    ap (λ k. with_input (field_words k cells) (front ++ v ∷ rest)) (sym (one_longer front v))
    ∙ ap (λ l. with_input (field_words (length (front ++ v ∷ [])) cells) l) (sym (append_assoc front (v ∷ []) rest))
    ∙ h
    ∙ append_assoc front (v ∷ []) cells

nil_zero : (table : Table) (kind : VarType) → not (is_int (kind_of table kind)) ≡ true → zero_value kind ≡ Nil
nil_zero table type.Int h = absurd (cc)
nil_zero table (type.Class name) h = refl
nil_zero table type.IntArray h = refl
nil_zero table (type.ClassArray name) h = refl

module _ (program : Source) (store : Store) where
  filled : (vars : List Var) (cells front : List Value) → AllFit program store (map (kind_of_var program) vars) cells
      → names_nothing cells ≡ true → with_input (field_words (length front) cells) (front ++ zero_values vars)
      ≡ front ++ cells
  filled [] [] front fit none = refl
  filled [] (v ∷ cells) front fit none = absurd fit
  filled (var ∷ vars) [] front fit none = absurd fit
  filled (var ∷ vars) (Word w ∷ cells) front fit none =
      ap (with_input (field_words (suc (length front)) cells))
      (set_seam front (zero_value var.kind) (zero_values vars) (Word w))
      ∙ next_field front cells (zero_values vars) (Word w) (filled vars cells (front ++ Word w ∷ []) fit.1 none)
  filled (var ∷ vars) (Nil ∷ cells) front fit none =
      ap (λ z. with_input (field_words (suc (length front)) cells) (front ++ z ∷ zero_values vars))
      (nil_zero (table_of program) var.kind fit.0)
      ∙ next_field front cells (zero_values vars) Nil (filled vars cells (front ++ Nil ∷ []) fit.1 none)
  filled (var ∷ vars) (Name n ∷ cells) front fit none = absurd (let z : false ≡ true = none in cc)

-- ---- the words are an input

int_type : (table : Table) (kind : VarType) → is_int (kind_of table kind) ≡ true → is_int_type kind ≡ true
int_type table type.Int h = refl
int_type table (type.Class name) h = absurd (let k = no_int_class (class_of table name.text) in
    let z : false ≡ true = sym k ∙ h in cc)
int_type table type.IntArray h = h
int_type table (type.ClassArray name) h = by (class_of table name.text) h
  where
    by : (o : Option ℕ) → is_int (array_kind o) ≡ true → false ≡ true
    by None q = q
    by (Some class) q = q

later_fields : (k m : ℕ) (cells : List Value) → k < m → names_field k (field_words m cells) ≡ false
later_fields k m [] h = refl
later_fields k m (Word w ∷ cells) h =
    ap (λ t. t || names_field k (field_words (suc m) cells)) (ne_eqb m k (λ e. omega (arith, h, e)))
    ∙ later_fields k (suc m) cells (let z : k < suc m = omega arith in z)
later_fields k m (Nil ∷ cells) h = later_fields k (suc m) cells (let z : k < suc m = omega arith in z)
later_fields k m (Name n ∷ cells) h = later_fields k (suc m) cells (let z : k < suc m = omega arith in z)

none_twice : (m : ℕ) (cells : List Value) → names_none_twice (field_words m cells) ≡ true
none_twice m [] = refl
none_twice m (Word w ∷ cells) =
    ap (λ t. not t && names_none_twice (field_words (suc m) cells))
    (later_fields m (suc m) cells (let z : m < suc m = omega arith in z)) ∙ none_twice (suc m) cells
none_twice m (Nil ∷ cells) = none_twice (suc m) cells
none_twice m (Name n ∷ cells) = none_twice (suc m) cells

abbrev IsInt : List Var → FieldWord → Type 0
IsInt vars entry = IsTrue (is_int_field (slice_get vars entry.field))

abbrev HasWord : FieldWord → Type 0
HasWord entry = IsWord entry.word

module _ (program : Source) (store : Store) where
  -- the next variable, as the last of those before it
  next_var : (front : List Var) (var : Var) (vars : List Var) (cells : List Value)
      → All (IsInt ((front ++ var ∷ []) ++ vars)) (field_words (length (front ++ var ∷ [])) cells)
      → All (IsInt (front ++ var ∷ vars)) (field_words (suc (length front)) cells)
  next_var front var vars cells h =
      let P : ℕ → Type 0 = λ k. All (IsInt (front ++ var ∷ vars)) (field_words k cells) in
      let Q : List Var → Type 0 = λ l. All (IsInt l) (field_words (length (front ++ var ∷ [])) cells) in
      subst P (one_longer front var) (subst Q (append_assoc front (var ∷ []) vars) h)

  ints_all : (front vars : List Var) (cells : List Value) → AllFit program store (map (kind_of_var program) vars) cells
      → All (IsInt (front ++ vars)) (field_words (length front) cells)
  ints_all front [] [] fit = All-nil (IsInt (front ++ []))
  ints_all front [] (v ∷ cells) fit = absurd fit
  ints_all front (var ∷ vars) [] fit = absurd fit
  ints_all front (var ∷ vars) (Word w ∷ cells) fit =
      All-cons (IsInt (front ++ var ∷ vars)) (record { field = length front; word = w })
      (field_words (suc (length front)) cells)
      (ap is_int_field (get_seam front var vars) ∙ int_type (table_of program) var.kind (both_true _ _ fit.0).0)
      (next_var front var vars cells (ints_all (front ++ var ∷ []) vars cells fit.1))
  ints_all front (var ∷ vars) (Nil ∷ cells) fit = next_var front var vars cells
      (ints_all (front ++ var ∷ []) vars cells fit.1)
  ints_all front (var ∷ vars) (Name n ∷ cells) fit = next_var front var vars cells
      (ints_all (front ++ var ∷ []) vars cells fit.1)

  words_all : (m : ℕ) (vars : List Var) (cells : List Value)
      → AllFit program store (map (kind_of_var program) vars) cells → All HasWord (field_words m cells)
  words_all m [] [] fit = All-nil HasWord
  words_all m [] (v ∷ cells) fit = absurd fit
  words_all m (var ∷ vars) [] fit = absurd fit
  words_all m (var ∷ vars) (Word w ∷ cells) fit =
      All-cons HasWord (record { field = m; word = w }) (field_words (suc m) cells)
      (ltb-true w (2 ^ 32) (both_true (is_int (kind_of_var program var)) _ fit.0).1)
      (words_all (suc m) vars cells fit.1)
  words_all m (var ∷ vars) (Nil ∷ cells) fit = words_all (suc m) vars cells fit.1
  words_all m (var ∷ vars) (Name n ∷ cells) fit = words_all (suc m) vars cells fit.1

pub final_input : (program : Source) (limits : Limits) (input : List FieldWord) (fuel : ℕ) (end : State) (cost : ℕ)
    → IsAccepted program → IsLimits limits → IsValid program input → source program limits input fuel ≡ Done end cost
    → names_nothing (object_at end.store main_name).cells ≡ true
    → AreInputCells program (object_at end.store main_name).cells
final_input program limits input fuel end cost accepted inside valid done none =
    let o = object_at end.store main_name in
    let known = end_of_run program limits input accepted inside valid fuel end cost done in
    let fit : AllFit program end.store (map (kind_of_var program) (main_fields program)) o.cells =
    subst (λ h. AllFit program end.store (cell_kinds program h) o.cells) known.head
    (known.sound.objects main_name o known.live) in
    record {
      valid = record {
        ints = ints_all program end.store [] (main_fields program) o.cells fit;
        once = none_twice 0 o.cells;
        words = words_all program end.store 0 (main_fields program) o.cells fit;
      };
      fields = sym (filled program end.store (main_fields program) o.cells [] fit none);
    }
