-- A set of names has the names of the list that it was made of, so a field is taken by both alike.
use Rattle.std.proofs.Common.{◌≡◌, ◌∙◌, sym, ap, subst, ℕ, Bool, true, false, ◌||◌, if◌then◌else◌, List, [], ◌∷◌, ◌++◌}
use Rattle.std.proofs.Common.{map, refl, append_assoc}
use Rattle.std.proofs.Math.Bool.{or-false}
use Rattle.std.proofs.lemmas.List.{append-nil, map-append}
use Rattle.std.proofs.lemmas.List.Folds.{list_any-append}
use Rattle.std.proofs.lemmas.Slice.Eq.{bytes_eq-Decides}
use Rattle.std.specs.List.{list_any}
use Rattle.std.specs.Str.{bytes_eq}
use Rattle.rpp_tree.specs.declared.tree.Var.{Var}
use Rattle.rpp_tree.specs.Tree.{Source}
use Rattle.class_rules.specs.Names.{has_name, with_name, with_names}
use Rattle.class_rules.specs.Members.{class_at, field_name, taken_field, fields_along, names_along}

-- the same names are in both lists
pub record SameNames (xs ys : List (List ℕ)) : Type 0 where
  pub same : (name : List ℕ) → has_name xs name ≡ has_name ys name

or_absorbed : (q name : List ℕ) (names : List (List ℕ)) (b : Bool) → bytes_eq q name ≡ b
    → list_any (bytes_eq name) names ≡ true → list_any (bytes_eq q) names ≡ (list_any (bytes_eq q) names || b)
or_absorbed q name names false apart there = sym (or-false _)
or_absorbed q name names true same there =
    let found : list_any (bytes_eq q) names ≡ true = subst (λ n. list_any (bytes_eq n) names ≡ true)
    (sym ((bytes_eq-Decides q name).0 same)) there in
    rw found refl

has-with_name : (q name : List ℕ) (names : List (List ℕ)) (b : Bool) → list_any (bytes_eq name) names ≡ b
    → has_name (if b then names else names ++ name ∷ []) q ≡ (has_name names q || bytes_eq q name)
has-with_name q name names false absent = list_any-append (bytes_eq q) names (name ∷ [])
    ∙ ap (λ b. list_any (bytes_eq q) names || b) (or-false (bytes_eq q name))
has-with_name q name names true there = or_absorbed q name names (bytes_eq q name) refl there

has-push : (q name : List ℕ) (names : List (List ℕ)) → has_name (names ++ name ∷ []) q
    ≡ (has_name names q || bytes_eq q name)
has-push q name names = list_any-append (bytes_eq q) names (name ∷ [])
    ∙ ap (λ b. list_any (bytes_eq q) names || b) (or-false (bytes_eq q name))

-- pushing a name keeps two lists alike
pushed : (xs ys : List (List ℕ)) (name : List ℕ) → SameNames xs ys → SameNames (xs ++ name ∷ []) (ys ++ name ∷ [])
pushed xs ys name alike = record {
  same = λ q. has-push q name xs ∙ ap (λ b. b || bytes_eq q name) (alike.same q)
      ∙ sym (has-push q name ys);
}

inserted : (xs ys : List (List ℕ)) (name : List ℕ) → SameNames xs ys → SameNames (with_name xs name) (ys ++ name ∷ [])
inserted xs ys name alike = record {
  same = λ q. has-with_name q name xs (list_any (bytes_eq name) xs) refl
      ∙ ap (λ b. b || bytes_eq q name) (alike.same q) ∙ sym (has-push q name ys);
}

all_inserted : (xs ys more : List (List ℕ)) → SameNames xs ys → SameNames (with_names xs more) (ys ++ more)
all_inserted xs ys [] alike = rw (append-nil ys) alike
all_inserted xs ys (name ∷ more) alike =
    rw (sym (append_assoc ys (name ∷ []) more)) (all_inserted (with_name xs name) (ys ++ name ∷ []) more
    (inserted xs ys name alike))

along : (program : Source) (xs : List (List ℕ)) (vars : List Var) (line : List ℕ) → SameNames xs (map field_name vars)
    → SameNames (names_along program xs line) (map field_name (vars ++ fields_along program line))
along program xs vars [] alike = rw (append-nil vars) alike
along program xs vars (class ∷ below) alike =
    let own = (class_at program class).fields in
    let step : SameNames (with_names xs (map field_name own)) (map field_name (vars ++ own)) =
    rw (map-append field_name vars own) (all_inserted xs (map field_name vars) (map field_name own) alike) in
    rw (sym (append_assoc vars own (fields_along program below)))
    (along program (with_names xs (map field_name own)) (vars ++ own) below step)

taken_alike : (xs ys : List (List ℕ)) (vars : List Var) → SameNames xs ys → taken_field xs vars ≡ taken_field ys vars
taken_alike xs ys [] alike = refl
taken_alike xs ys (var ∷ vars) alike =
    let rest = taken_alike (xs ++ var.name.text ∷ []) (ys ++ var.name.text ∷ []) vars (pushed xs ys var.name.text alike)
    in
    rw (alike.same var.name.text, rest) refl

pub taken_field-names_along : (program : Source) (line : List ℕ) (vars : List Var)
    → taken_field (names_along program [] line) vars ≡ taken_field (map field_name (fields_along program line)) vars
taken_field-names_along program line vars =
    taken_alike (names_along program [] line) (map field_name (fields_along program line)) vars
    (along program [] [] line (record { same = λ name. refl }))

pub ruleset taken_field_inherited = (taken_field-names_along)
