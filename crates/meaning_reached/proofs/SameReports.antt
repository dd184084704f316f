-- Isomorphic stores have one report if no object id occurs twice.
use Rattle.std.proofs.Common.{◌≡◌, ℕ, zero, suc, ◌+◌, ◌-◌, refl, sym, ap, subst, ◌∙◌, true, false, Bool, not, ◌||◌}
use Rattle.std.proofs.Common.{List, [], ◌∷◌, ◌++◌, length, map, Option, Some, None, option_map, unwrap_or, nat_eq}
use Rattle.std.proofs.Common.{nat_lt, cond, if◌then◌else◌, eqb-true, eq-eqb, ne_eqb, position, codes}
use Rattle.std.proofs.lemmas.Bool.{eqb-false}
use Rattle.std.proofs.lemmas.List.{map-append}
use Rattle.std.specs.List.{list_any, position_or_len}
use Rattle.std.specs.Fmt.{decimal}
use Rattle.meaning_sound.specs.rpp_tree.declared.tree.Var.{Var}
use Rattle.meaning_sound.specs.rpp_tree.Tree.{Source}
use Rattle.meaning_sound.specs.class_rules.Classes.{class_fields}
use Rattle.meaning_sound.specs.roopl_semantics.Store.{Value, Word, Nil, Name, Head, OfClass, OfInts, OfObjects, Object, Store}
use Rattle.meaning_sound.specs.roopl_semantics.Store.{main_name, object_named, object_at, no_object, without}
use Rattle.meaning_sound.specs.roopl_semantics.Source.{main_fields}
use Rattle.meaning_sound.specs.roopl_semantics.Agreement.{Agree, renamed, renamed_object}
use Rattle.meaning_sound.specs.roopl_semantics.Report.{Text, newly_met, walked, numbered, number_shown, value_shown, field_lines}
use Rattle.meaning_sound.specs.roopl_semantics.Report.{element_lines, head_shown, cell_lines, object_lines, live_line, objects_shown}
use Rattle.meaning_sound.specs.roopl_semantics.Report.{live_count, report, head_line, object_text}
use Rattle.meaning_sound.specs.rpp_words.Texts.{line_end}
use Rattle.meaning_sound.specs.roopl_semantics.Laws.{HasNamesOnce as IsUnique}
use Rattle.meaning_sound.proofs.Stores.{without_other, differs}

-- ---- if no object id occurs twice

none_without : (store : Store) (n m : ℕ) → object_named store m ≡ None → object_named (without store n) m ≡ None
none_without [] n m e = refl
none_without ((k, o) ∷ store) n m e = by (none_without store n m) (nat_eq k m) refl (nat_eq k n)
  where
    none : nat_eq k m ≡ true → (P : Type 0) → P
    none f P = let g : Some o ≡ None = ap (λ t. if t then Some o else object_named store m) (sym f) ∙ e in cc

    by : (object_named store m ≡ None → object_named (without store n) m ≡ None) → (s : Bool) → nat_eq k m ≡ s
        → (t : Bool) → object_named (if t then store else (k, o) ∷ without store n) m ≡ None
    by again true f t = none f _
    by again false f true = ap (λ t. if t then Some o else object_named store m) (sym f) ∙ e
    by again false f false = rw f (again (ap (λ t. if t then Some o else object_named store m) (sym f) ∙ e))

pub named_without_same : (store : Store) (n : ℕ) → IsUnique store → object_named (without store n) n ≡ None
named_without_same [] n u = refl
named_without_same ((k, o) ∷ store) n u = by (named_without_same store n u.1) (nat_eq k n) refl
  where
    by : object_named (without store n) n ≡ None → (s : Bool) → nat_eq k n ≡ s
        → object_named (if s then store else (k, o) ∷ without store n) n ≡ None
    by again true f = let P : ℕ → Type 0 = λ x. object_named store x ≡ None in subst P (eqb-true k n f) u.0
    by again false f = rw f again

pub unique_without : (store : Store) (n : ℕ) → IsUnique store → IsUnique (without store n)
unique_without [] n u = tt
unique_without ((k, o) ∷ store) n u = by (unique_without store n u.1) (nat_eq k n)
  where
    by : IsUnique (without store n) → (s : Bool) → IsUnique (if s then store else (k, o) ∷ without store n)
    by again true = u.1
    by again false = (none_without store n k u.0, again)

length_without : (store : Store) (n : ℕ) (o : Object) → object_named store n ≡ Some o
    → length store ≡ suc (length (without store n))
length_without [] n o e = cc
length_without ((k, x) ∷ store) n o e = by (nat_eq k n) e (λ h. length_without store n o h)
  where
    by : (t : Bool) → (if t then Some x else object_named store n) ≡ Some o
        → (object_named store n ≡ Some o → length store ≡ suc (length (without store n)))
        → suc (length store) ≡ suc (length (if t then store else (k, x) ∷ without store n))
    by true h again = refl
    by false h again = ap suc (again h)

module _ (f back : ℕ → ℕ) (there_and_back : (n : ℕ) → back (f n) ≡ n) (back_and_there : (n : ℕ) → f (back n) ≡ n) where
  same_name : (n m : ℕ) → nat_eq (f n) (f m) ≡ nat_eq n m
  same_name n m = by (nat_eq n m) refl
    where
      by : (t : Bool) → nat_eq n m ≡ t → nat_eq (f n) (f m) ≡ nat_eq n m
      by true e = eq-eqb (f n) (f m) (ap f (eqb-true n m e)) ∙ sym e
      by false e = ne_eqb (f n) (f m) (λ h. eqb-false n m e (sym (there_and_back n) ∙ ap back h ∙ there_and_back m))
          ∙ sym e

  -- as many objects
  same_length : (first second : Store) → IsUnique first → IsUnique second
      → ((n : ℕ) → object_named second (f n) ≡ option_map (renamed_object f) (object_named first n))
      → length first ≡ length second
  same_length [] [] u v h = refl
  same_length [] ((k, o) ∷ second) u v h =
      let e : object_named ((k, o) ∷ second) (f (back k)) ≡ Some o =
      ap (λ t. if t then Some o else object_named second (f (back k)))
      (eq-eqb k (f (back k)) (sym (back_and_there k))) in
      let none : Some o ≡ None = sym e ∙ h (back k) in
      cc
  same_length ((n, o) ∷ first) second u v h =
      let e : object_named second (f n) ≡ Some (renamed_object f o) = h n
      ∙ ap (λ t. option_map (renamed_object f) (if t then Some o else object_named first n)) (eq-eqb n n refl) in
      ap suc (same_length first (without second (f n)) u.1 (unique_without second (f n) v)
      (λ m. rest m (nat_eq n m) refl)) ∙ sym (length_without second (f n) (renamed_object f o) e)
    where
      rest : (m : ℕ) (t : Bool) → nat_eq n m ≡ t → object_named (without second (f n)) (f m)
          ≡ option_map (renamed_object f) (object_named first m)
      rest m true e =
          let P : ℕ → Type 0 = λ x. object_named (without second (f n)) (f x)
          ≡ option_map (renamed_object f) (object_named first x) in
          subst P (eqb-true n m e) (named_without_same second (f n) v ∙ ap (option_map (renamed_object f)) (sym u.0))
      rest m false e = without_other second (f n) (f m) (differs (f n) (f m) (same_name n m ∙ e)) ∙ h m
          ∙ ap (λ t. option_map (renamed_object f) (if t then Some o else object_named first m)) e

  -- ---- the order of the names

  same_met : (n : ℕ) (met : List ℕ) → list_any (nat_eq (f n)) (map f met) ≡ list_any (nat_eq n) met
  same_met n [] = refl
  same_met n (m ∷ met) = ap (λ t. t || list_any (nat_eq (f n)) (map f met)) (same_name n m)
      ∙ ap (λ t. nat_eq n m || t) (same_met n met)

  met_alike : (met : List ℕ) (cells : List Value) → newly_met (map f met) (map (renamed f) cells)
      ≡ map f (newly_met met cells)
  met_alike met [] = refl
  met_alike met (Word w ∷ cells) = met_alike met cells
  met_alike met (Nil ∷ cells) = met_alike met cells
  met_alike met (Name n ∷ cells) =
      ap (λ t. if t then newly_met (map f met) (map (renamed f) cells) else f n
      ∷ newly_met (map f (n ∷ met)) (map (renamed f) cells)) (same_met n met)
      ∙ by (list_any (nat_eq n) met) (met_alike met cells) (met_alike (n ∷ met) cells)
    where
      by : (t : Bool) → newly_met (map f met) (map (renamed f) cells) ≡ map f (newly_met met cells)
          → newly_met (map f (n ∷ met)) (map (renamed f) cells) ≡ map f (newly_met (n ∷ met) cells)
          → (if t then newly_met (map f met) (map (renamed f) cells) else f n
          ∷ newly_met (map f (n ∷ met)) (map (renamed f) cells))
          ≡ map f (if t then newly_met met cells else n ∷ newly_met (n ∷ met) cells)
      by true h k = h
      by false h k = ap (λ l. f n ∷ l) k

  prefix_alike : (n : ℕ) (names : List ℕ) → position_or_len (nat_eq (f n)) (map f names)
      ≡ position_or_len (nat_eq n) names
  prefix_alike n [] = refl
  prefix_alike n (m ∷ names) = ap (λ t. cond (not t) (1 + position_or_len (nat_eq (f n)) (map f names)) 0)
      (same_name n m) ∙ ap (λ k. cond (not (nat_eq n m)) (1 + k) 0) (prefix_alike n names)

  length_map : (names : List ℕ) → length (map f names) ≡ length names
  length_map [] = refl
  length_map (n ∷ names) = ap suc (length_map names)

  place_alike : (n : ℕ) (names : List ℕ) → position (nat_eq (f n)) (map f names) ≡ position (nat_eq n) names
  place_alike n names = ap (λ k. cond (nat_lt k (length (map f names))) (Some k) None) (prefix_alike n names)
      ∙ ap (λ l. cond (nat_lt (position_or_len (nat_eq n) names) l) (Some (position_or_len (nat_eq n) names)) None)
      (length_map names)

  number_alike : (names : List ℕ) (n : ℕ) → number_shown (map f names) (f n) ≡ number_shown names n
  number_alike names n = ap (λ o. codes "#" ++ decimal (unwrap_or o 0 + 1)) (place_alike n names)

  value_alike : (names : List ℕ) (v : Value) → value_shown (map f names) (renamed f v) ≡ value_shown names v
  value_alike names (Word w) = refl
  value_alike names Nil = refl
  value_alike names (Name n) = number_alike names n

  fields_alike : (indent : Text) (names : List ℕ) (vars : List Var) (cells : List Value)
      → field_lines indent (map f names) vars (map (renamed f) cells) ≡ field_lines indent names vars cells
  fields_alike indent names [] cells = refl
  fields_alike indent names (var ∷ vars) [] = refl
  fields_alike indent names (var ∷ vars) (v ∷ cells) =
      ap (λ t. indent ++ var.name.text ++ codes " = " ++ t ++ line_end
      ++ field_lines indent (map f names) vars (map (renamed f) cells)) (value_alike names v)
      ∙ ap (λ t. indent ++ var.name.text ++ codes " = " ++ value_shown names v ++ line_end ++ t)
      (fields_alike indent names vars cells)

  elements_alike : (names : List ℕ) (index : ℕ) (cells : List Value)
      → element_lines (map f names) index (map (renamed f) cells) ≡ element_lines names index cells
  elements_alike names index [] = refl
  elements_alike names index (v ∷ cells) =
      ap (λ t. codes "  [" ++ decimal index ++ codes "] = " ++ t ++ line_end
      ++ element_lines (map f names) (index + 1) (map (renamed f) cells)) (value_alike names v)
      ∙ ap (λ t. codes "  [" ++ decimal index ++ codes "] = " ++ value_shown names v ++ line_end ++ t)
      (elements_alike names (index + 1) cells)

  cells_alike : (program : Source) (names : List ℕ) (head : Head) (cells : List Value)
      → cell_lines program (map f names) head (map (renamed f) cells) ≡ cell_lines program names head cells
  cells_alike program names (OfClass class) cells = fields_alike (codes "  ") names (class_fields program class) cells
  cells_alike program names (OfInts n) cells = elements_alike names 0 cells
  cells_alike program names (OfObjects class n) cells = elements_alike names 0 cells

  module _ (first second : Store) (objects : (n : ℕ) → object_named second (f n)
      ≡ option_map (renamed_object f) (object_named first n)) where
    object_alike : (n : ℕ) → object_at second (f n) ≡ renamed_object f (object_at first n)
    object_alike n = ap (λ o. unwrap_or o no_object) (objects n) ∙ by (object_named first n)
      where
        by : (o : Option Object) → unwrap_or (option_map (renamed_object f) o) no_object
            ≡ renamed_object f (unwrap_or o no_object)
        by None = refl
        by (Some o) = refl

    walk_alike : (steps : ℕ) (met pending : List ℕ) → walked steps second (map f met) (map f pending)
        ≡ map f (walked steps first met pending)
    walk_alike zero met pending = refl
    walk_alike (suc steps) met [] = refl
    walk_alike (suc steps) met (n ∷ pending) =
        let new = newly_met met (object_at first n).cells in
        ap (λ o. let more = newly_met (map f met) o.cells in
        walked steps second (map f met ++ more) (map f pending ++ more)) (object_alike n)
        ∙ ap (λ more. walked steps second (map f met ++ more) (map f pending ++ more))
        (met_alike met (object_at first n).cells)
        ∙ ap (λ l. walked steps second l (map f pending ++ map f new)) (sym (map-append f met new))
        ∙ ap (λ l. walked steps second (map f (met ++ new)) l) (sym (map-append f pending new))
        ∙ walk_alike steps (met ++ new) (pending ++ new)

    lines_alike : (program : Source) (names rest : List ℕ)
        → object_lines program second (map f names) (map f rest) ≡ object_lines program first names rest
    lines_alike program names [] = refl
    lines_alike program names (n ∷ rest) =
        let o = object_at first n in
        ap (λ x. object_text program (map f names) (f n) x
        ++ object_lines program second (map f names) (map f rest)) (object_alike n)
        ∙ ap (λ t. head_line t (head_shown program o.head) o.count
        ++ cell_lines program (map f names) o.head (map (renamed f) o.cells)
        ++ object_lines program second (map f names) (map f rest)) (number_alike names n)
        ∙ ap (λ t. head_line (number_shown names n) (head_shown program o.head) o.count
        ++ t ++ object_lines program second (map f names) (map f rest))
        (cells_alike program names o.head o.cells)
        ∙ ap (λ t. object_text program names n o ++ t) (lines_alike program names rest)

    module _ (main : f main_name ≡ main_name) (same : length first ≡ length second) where
      main_alike : object_at second main_name ≡ renamed_object f (object_at first main_name)
      main_alike = ap (object_at second) (sym main) ∙ object_alike main_name

      numbered_alike : numbered second ≡ map f (numbered first)
      numbered_alike =
          let met = newly_met [] (object_at first main_name).cells in
          ap (λ k. let start = newly_met [] (object_at second main_name).cells in walked k second start start)
          (sym same)
          ∙ ap (λ o. let start = newly_met [] o.cells in walked (length first) second start start) main_alike
          ∙ ap (λ start. walked (length first) second start start) (met_alike [] (object_at first main_name).cells)
          ∙ walk_alike (length first) met met

      shown_alike : (program : Source) → objects_shown program second ≡ objects_shown program first
      shown_alike program =
          let names = numbered first in
          ap (λ l. field_lines [] l (main_fields program) (object_at second main_name).cells
          ++ object_lines program second l l) numbered_alike
          ∙ ap (λ o. field_lines [] (map f names) (main_fields program) o.cells
          ++ object_lines program second (map f names) (map f names)) main_alike
          ∙ ap (λ t. t ++ object_lines program second (map f names) (map f names))
          (fields_alike [] names (main_fields program) (object_at first main_name).cells)
          ∙ ap (λ t. field_lines [] names (main_fields program) (object_at first main_name).cells ++ t)
          (lines_alike program names names)

      report_alike : (program : Source) → report program first ≡ report program second
      report_alike program = sym (ap (λ t. t ++ live_line (live_count second)) (shown_alike program)
          ∙ ap (λ n. objects_shown program first ++ live_line (n - 1)) (sym same))

-- isomorphic stores have the same report, if no object id occurs twice
pub same_reports : (program : Source) (first second : Store) → IsUnique first → IsUnique second → Agree first second
    → report program first ≡ report program second
same_reports program first second u v agree =
    report_alike agree.there agree.back agree.there_and_back agree.back_and_there first second agree.objects
    agree.main_object
    (same_length agree.there agree.back agree.there_and_back agree.back_and_there first second u v agree.objects)
    program
