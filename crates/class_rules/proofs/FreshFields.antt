-- If no class repeats a field, all the fields of a class have names of their own.
use Rattle.std.proofs.Common.{◌≡◌, ◌∙◌, sym, ap, subst, ℕ, zero, suc, ◌+◌, ◌-◌, ◌<◌, List, [], ◌∷◌, ◌++◌, length, map}
use Rattle.std.proofs.Common.{take, Option, Some, None, refl, slice_get, add-zero, zero-add, arith, append_assoc}
use Rattle.std.proofs.lemmas.List.{append-nil, length-map}
use Rattle.std.proofs.lemmas.Grind.{common_steps}
use Rattle.std.specs.Option.{option_or, unwrap_or}
use Rattle.rpp_tree.specs.declared.tree.Var.{Var}
use Rattle.rpp_tree.specs.declared.tree.Program.{Program}
use Rattle.rpp_tree.specs.Views.{source_of}
use Rattle.rpp_tree.specs.Tree.{ClassText, Source}
use Rattle.class_rules.specs.First.{first_at}
use Rattle.class_rules.specs.Chains.{parents, chain, chain_of, class_line}
use Rattle.class_rules.specs.Members.{no_class, class_at, field_name, field_taken, taken_field, fields_along, class_fields}
use Rattle.class_rules.specs.Members.{inherited, duplicate_field_at, duplicate_field}
use Rattle.class_rules.proofs.ChainEnds.{parent, pushed_from, nothing_on, parents_in, chain_ends}

pub neither : {E : Type 0} (first last : Option E) → option_or first last ≡ None → (first ≡ None) × (last ≡ None)
neither None last h = (refl, h)
neither (Some error) last h = absurd (cc)

-- a rule that refuses nothing passes each class
pub passed_at : {E : Type 0} (rule : ℕ → ClassText → Option E) (n k : ℕ) (classes : List ClassText)
    → first_at rule n classes ≡ None → k < length classes
    → rule (n + k) (unwrap_or (slice_get classes k) no_class) ≡ None
passed_at rule n k [] h inside = absurd (omega arith)
passed_at rule n zero (class ∷ classes) h inside = rw add-zero
    ((neither (rule n class) (first_at rule (n + 1) classes) h).0)
passed_at rule n (suc k) (class ∷ classes) h inside =
    let rest = passed_at rule (n + 1) k classes (neither (rule n class) (first_at rule (n + 1) classes) h).1
    (omega arith) in
    let e : n + 1 + k ≡ n + suc k = omega arith in
    subst (λ m. rule m (unwrap_or (slice_get classes k) no_class) ≡ None) e rest

taken_field-append : (names : List (List ℕ)) (xs ys : List Var) → taken_field names xs ≡ None
    → taken_field (names ++ map field_name xs) ys ≡ None → taken_field names (xs ++ ys) ≡ None
taken_field-append names [] ys first last = subst (λ n. taken_field n ys ≡ None) (append-nil names) last
taken_field-append names (x ∷ xs) ys first last =
    let both = neither (field_taken names x) (taken_field (names ++ x.name.text ∷ []) xs) first in
    let same = append_assoc names (x.name.text ∷ []) (map field_name xs) in
    let rest = taken_field-append (names ++ x.name.text ∷ []) xs ys both.1
    (subst (λ n. taken_field n ys ≡ None) (sym same) last) in
    rw (both.0, rest) refl

fields_along-push : (program : Source) (class : ℕ) (line : List ℕ)
    → fields_along program (line ++ class ∷ []) ≡ fields_along program line ++ (class_at program class).fields
fields_along-push program class [] = append-nil (class_at program class).fields
fields_along-push program class (above ∷ line) =
    ap (λ vars. (class_at program above).fields ++ vars) (fields_along-push program class line)
    ∙ sym (append_assoc (class_at program above).fields (fields_along program line) (class_at program class).fields)

front : (class : ℕ) (line : List ℕ) → take (length (line ++ class ∷ []) - 1) (line ++ class ∷ []) ≡ line
front class line = grind (arith, common_steps)

fresh_line : (program : Source) → duplicate_field program ≡ None → (steps : ℕ) (class : Option ℕ) (line : List ℕ)
    → ((number : ℕ) → class ≡ Some number → number < length program.classes)
    → chain steps (parents program) class ≡ Some line → taken_field [] (fields_along program line) ≡ None
fresh_line program unique zero (Some class) line inside h = absurd (cc)
fresh_line program unique zero None line inside h = subst (λ l. taken_field [] (fields_along program l) ≡ None)
    (sym (nothing_on zero (parents program) line h)) refl
fresh_line program unique (suc steps) None line inside h =
    subst (λ l. taken_field [] (fields_along program l) ≡ None) (sym (nothing_on (suc steps) (parents program) line h))
    refl
fresh_line program unique (suc steps) (Some class) line inside h =
    let p = pushed_from class (chain steps (parents program) (parent (parents program) class)) line h in
    let above = fresh_line program unique steps (parent (parents program) class) p.shorter (parents_in program class)
    p.ended in
    let own : duplicate_field_at program class (class_at program class) ≡ None =
    subst (λ m. duplicate_field_at program m (class_at program class) ≡ None) (zero-add class)
    (passed_at (duplicate_field_at program) 0 class program.classes unique (inside class refl)) in
    let ended : class_line program class ≡ p.shorter ++ class ∷ [] =
    ap (λ r. unwrap_or r []) (chain_ends program class (suc steps) line (inside class refl) h) ∙ p.pushed in
    let inherits : inherited program class ≡ fields_along program p.shorter =
    ap (λ l. fields_along program (take (length l - 1) l)) ended
    ∙ ap (fields_along program) (front class p.shorter) in
    let own_after : taken_field (map field_name (fields_along program p.shorter)) (class_at program class).fields
    ≡ None = subst (λ vars. taken_field (map field_name vars) (class_at program class).fields ≡ None) inherits own
    in
    let whole = taken_field-append [] (fields_along program p.shorter) (class_at program class).fields above own_after
    in
    subst (λ vars. taken_field [] vars ≡ None) (sym (ap (fields_along program) p.pushed
    ∙ fields_along-push program class p.shorter)) whole

-- each field of a class has a name of its own
pub fresh_fields : (program : Source) (number : ℕ) → number < length program.classes → duplicate_field program ≡ None
    → taken_field [] (class_fields program number) ≡ None
fresh_fields program number inside unique = by (chain_of program number) refl
  where
    own : (other : ℕ) → Some number ≡ Some other → other < length program.classes
    own other e = let same : number ≡ other = cc in subst (λ n. n < length program.classes) same inside

    by : (r : Option (List ℕ)) → chain_of program number ≡ r
        → taken_field [] (fields_along program (unwrap_or (chain_of program number) [])) ≡ None
    by None h = rw h refl
    by (Some line) h = rw h (fresh_line program unique (length program.classes) (Some number) line own h)

pub fresh_known : (program : Program) (number : ℕ) → number < length program.classes.items
    → duplicate_field (source_of program) ≡ None → taken_field [] (class_fields (source_of program) number) ≡ None
fresh_known program number inside unique = fresh_fields (source_of program) number (rw length-map inside) unique

pub ruleset fresh = (fresh_known)
