-- The storage slots of names in a scope, by their positions among the variables and the fields.
use Rattle.std.proofs.Common.{◌≡◌, ℕ, suc, ◌+◌, ◌-◌, Bool, true, false, List, [], ◌∷◌, length, map, Option, Some, None}
use Rattle.std.proofs.Common.{refl, sym, ap, ◌∙◌, arith}
use Rattle.std.specs.Prelude.{position, if◌then◌else◌}
use Rattle.std.specs.Option.{option_map}
use Rattle.std.specs.Str.{bytes_eq}
use Rattle.refine_calls.specs.code_conventions.declared.memory.TheConstants.{FIRST_VARIABLE}
use Rattle.refine_calls.specs.rpp_tree.declared.tree.Var.{Var}
use Rattle.refine_calls.proofs.class_rules_laws.FirstPlaces.{position_cons, bytes_turned}
use Rattle.expr_uncompute.specs.code_scope.Visible.{word_named}

abbrev pub var_name : Var → List ℕ
var_name var = var.name.text

-- the word of the variable of this place, the innermost first, of so many
abbrev pub word_at : ℕ → ℕ → ℕ
word_at count i = FIRST_VARIABLE + (count - 1 - i)

one_more : (count : ℕ) (r : Option ℕ) → option_map (word_at count) r
    ≡ option_map (word_at (suc count)) (option_map suc r)
one_more count None = refl
one_more count (Some i) = ap (λ k. Some k) (let e : FIRST_VARIABLE + (count - 1 - i)
    ≡ FIRST_VARIABLE + (suc count - 1 - suc i) = omega arith in
    e)

pub word_is : (name : List ℕ) (vars : List Var) → word_named name vars
    ≡ option_map (word_at (length vars)) (position (bytes_eq name) (map var_name vars))
word_is name [] = refl
word_is name (var ∷ outer) =
    ap (λ (b : Bool). if b then Some (FIRST_VARIABLE + length outer) else word_named name outer)
    (bytes_turned var.name.text name)
    ∙ by (bytes_eq name var.name.text) (word_is name outer)
    ∙ ap (option_map (word_at (suc (length outer)))) (sym
    (position_cons (bytes_eq name) (var_name var) (map var_name outer) (bytes_eq name var.name.text) refl))
  where
    by : (b : Bool) → word_named name outer ≡ option_map (word_at (length outer))
        (position (bytes_eq name) (map var_name outer)) → (if b then Some (FIRST_VARIABLE + length outer) else
        word_named name
        outer) ≡ option_map (word_at (suc (length outer)))
        (if b then Some 0 else option_map suc (position (bytes_eq name) (map var_name outer)))
    by true h = ap (λ k. Some k) (let e : FIRST_VARIABLE + length outer
        ≡ FIRST_VARIABLE + (suc (length outer) - 1 - 0) = omega arith in e)
    by false h = h ∙ one_more (length outer) (position (bytes_eq name) (map var_name outer))
