-- The first variable of a name, found one after the other, is the field of that name.
use Rattle.std.proofs.Common.{◌≡◌, ℕ, suc, List, [], ◌∷◌, Option, Some, None, refl, sym, ap, ◌∙◌}
use Rattle.std.specs.Prelude.{map, if◌then◌else◌}
use Rattle.std.specs.Option.{option_map}
use Rattle.std.specs.Str.{bytes_eq}
use Rattle.refine_form.specs.rpp_tree.declared.tree.Var.{Var}
use Rattle.refine_form.specs.class_rules.Members.{field_name, field_of}
use Rattle.refine_form.proofs.class_rules_laws.FirstPlaces.{position_cons}
use Rattle.code_scope.specs.Visible.{place_named}

pub place_is : (name : List ℕ) (fields : List Var) → place_named name fields ≡ field_of fields name
place_is name [] = refl
place_is name (var ∷ rest) =
    ap (λ (z : Option ℕ). if bytes_eq name var.name.text then Some 0 else option_map suc z) (place_is name rest)
    ∙ sym (position_cons (bytes_eq name) (field_name var) (map field_name rest) (bytes_eq name (field_name var)) refl)
