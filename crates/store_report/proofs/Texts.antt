-- The text of a report does not change if addresses replace object ids.
use Rattle.std.proofs.Common.{◌≡◌, ◌∙◌, sym, ap, refl, ℕ, suc, ◌+◌, List, [], ◌∷◌, ◌++◌, map, Some}
use Rattle.std.specs.Prelude.{nat_eq, position, codes, if◌then◌else◌}
use Rattle.std.specs.Option.{unwrap_or, option_map}
use Rattle.std.specs.Fmt.{decimal}
use Rattle.refine_frame.specs.rpp_words.Texts.{line_end}
use Rattle.meaning_reached.specs.rpp_tree.declared.tree.Var.{Var}
use Rattle.meaning_reached.specs.rpp_tree.Tree.{Source}
use Rattle.refine_frame.specs.class_rules.Classes.{class_fields}
use Rattle.static_layout.specs.roopl_semantics.Store.{Value, Word, Nil, Name, Head, OfClass, OfInts, OfObjects}
use Rattle.static_layout.specs.roopl_semantics.Agreement.{renamed}
use Rattle.static_layout.specs.roopl_semantics.Report.{Text, number_shown, value_shown, field_lines, element_lines, cell_lines}
use Rattle.refine_frame.proofs.class_rules_laws.FirstPlaces.{position_cons}

-- object ids that are distinguished by their addresses
module _ (there : ℕ → ℕ) (Good : ℕ → Type 0) (apart : (n m : ℕ) → Good n → Good m
    → nat_eq (there n) (there m) ≡ nat_eq n m) where
  abbrev pub AllGood : List ℕ → Type 0
  AllGood [] = Unit {0}
  AllGood (n ∷ names) = Good n × AllGood names

  abbrev pub ValueGood : Value → Type 0
  ValueGood (Word w) = Unit {0}
  ValueGood Nil = Unit {0}
  ValueGood (Name n) = Good n

  abbrev pub ValuesGood : List Value → Type 0
  ValuesGood [] = Unit {0}
  ValuesGood (v ∷ vs) = ValueGood v × ValuesGood vs

  place_there : (names : List ℕ) (n : ℕ) → AllGood names → Good n
      → position (nat_eq (there n)) (map there names) ≡ position (nat_eq n) names
  place_there [] n all g = refl
  place_there (m ∷ names) n all g =
      position_cons (nat_eq (there n)) (there m) (map there names) (nat_eq n m) (apart n m g all.0)
      ∙ ap (λ o. if nat_eq n m then Some 0 else option_map suc o) (place_there names n all.1 g)
      ∙ sym (position_cons (nat_eq n) m names (nat_eq n m) refl)

  pub number_there : (names : List ℕ) (n : ℕ) → AllGood names → Good n
      → number_shown (map there names) (there n) ≡ number_shown names n
  number_there names n all g = ap (λ o. codes "#" ++ decimal (unwrap_or o 0 + 1)) (place_there names n all g)

  shown_there : (names : List ℕ) (v : Value) → AllGood names → ValueGood v
      → value_shown (map there names) (renamed there v) ≡ value_shown names v
  shown_there names (Word w) all g = refl
  shown_there names Nil all g = refl
  shown_there names (Name n) all g = number_there names n all g

  pub fields_there : (indent : Text) (names : List ℕ) (vars : List Var) (cells : List Value) → AllGood names
      → ValuesGood cells → field_lines indent (map there names) vars (map (renamed there) cells)
      ≡ field_lines indent names vars cells
  fields_there indent names [] cells all g = refl
  fields_there indent names (var ∷ vars) [] all g = refl
  fields_there indent names (var ∷ vars) (v ∷ cells) all g =
      ap (λ z. indent ++ var.name.text ++ codes " = " ++ z ++ line_end
      ++ field_lines indent (map there names) vars (map (renamed there) cells)) (shown_there names v all g.0)
      ∙ ap (λ z. indent ++ var.name.text ++ codes " = " ++ value_shown names v ++ line_end ++ z)
      (fields_there indent names vars cells all g.1)

  elements_there : (names : List ℕ) (index : ℕ) (cells : List Value) → AllGood names → ValuesGood cells
      → element_lines (map there names) index (map (renamed there) cells) ≡ element_lines names index cells
  elements_there names index [] all g = refl
  elements_there names index (v ∷ cells) all g =
      ap (λ z. codes "  [" ++ decimal index ++ codes "] = " ++ z ++ line_end
      ++ element_lines (map there names) (index + 1) (map (renamed there) cells)) (shown_there names v all g.0)
      ∙ ap (λ z. codes "  [" ++ decimal index ++ codes "] = " ++ value_shown names v ++ line_end ++ z)
      (elements_there names (index + 1) cells all g.1)

  pub lines_there : (p : Source) (names : List ℕ) (head : Head) (cells : List Value) → AllGood names → ValuesGood cells
      → cell_lines p (map there names) head (map (renamed there) cells) ≡ cell_lines p names head cells
  lines_there p names (OfClass class) cells all g = fields_there (codes "  ") names (class_fields p class) cells all g
  lines_there p names (OfInts n) cells all g = elements_there names 0 cells all g
  lines_there p names (OfObjects class n) cells all g = elements_there names 0 cells all g
