-- What the names of a class's fields count together, those of its ancestors included, is at most
-- what all names of the source count.
use Rattle.std.proofs.Common.{◌≡◌, ◌≢◌, ◌∙◌, sym, ap, subst, refl, ℕ, zero, suc, ◌+◌, ◌<◌, ◌≤◌, Bool, true, false, List}
use Rattle.std.proofs.Common.{[], ◌∷◌, ◌++◌, length, map, Option, Some, None, arith, slice_get, length-append}
use Rattle.std.specs.Prelude.{nat_eq, ◌||◌, sum, sum_by}
use Rattle.std.specs.List.{flat_map}
use Rattle.std.specs.Option.{unwrap_or}
use Rattle.std.proofs.lemmas.Bool.{eqb-false}
use Rattle.std.proofs.lemmas.List.Sums.{sum_by-cons, sum_by-append, sum_by_push}
use Rattle.refine_program.specs.rpp_tree.declared.tree.Ident.{Ident}
use Rattle.refine_program.specs.rpp_tree.declared.tree.Var.{Var}
use Rattle.refine_program.specs.rpp_tree.Parts.{type_names, var_names, procedure_names, parent_names, class_names, source_names}
use Rattle.refine_program.specs.rpp_tree.Tree.{ClassText, Source}
use Rattle.refine_program.specs.class_rules.Chains.{parents, chain, chain_of, class_line}
use Rattle.refine_program.specs.class_rules.Members.{class_at, no_class, fields_along}
use Rattle.refine_program.specs.class_rules.Classes.{class_fields}
use Rattle.refine_program.proofs.class_rules_laws.ChainEnds.{parent, IsPushed, pushed_from, nothing_on, parents_in, chain_ends}
use Rattle.refine_program.proofs.class_rules_laws.ClassLines.{on, above_of}

-- ---- numbers, each taken at most once

abbrev weight_at : List ℕ → ℕ → ℕ
weight_at weights k = unwrap_or (slice_get weights k) 0

-- with 0 in the place of one of them
abbrev cleared : List ℕ → ℕ → List ℕ
cleared [] k = []
cleared (w ∷ weights) zero = 0 ∷ weights
cleared (w ∷ weights) (suc k) = w ∷ cleared weights k

cleared_sum : (weights : List ℕ) (k : ℕ) → sum (cleared weights k) + weight_at weights k ≡ sum weights
cleared_sum [] k = refl
cleared_sum (w ∷ weights) zero = omega (arith, sum_by-cons (λ x. x) 0 weights, sum_by-cons (λ x. x) w weights)
cleared_sum (w ∷ weights) (suc k) = omega (
  arith,
  sum_by-cons (λ x. x) w (cleared weights k),
  sum_by-cons (λ x. x) w weights,
  cleared_sum weights k,
)

other_kept : (weights : List ℕ) (k j : ℕ) → j ≢ k → weight_at (cleared weights k) j ≡ weight_at weights j
other_kept [] k j apart = refl
other_kept (w ∷ weights) zero zero apart = absurd (apart refl)
other_kept (w ∷ weights) zero (suc j) apart = refl
other_kept (w ∷ weights) (suc k) zero apart = refl
other_kept (w ∷ weights) (suc k) (suc j) apart = other_kept weights k j (λ e. apart (ap suc e))

neither : (a b : Bool) → (a || b) ≡ false → (a ≡ false) × (b ≡ false)
neither true b h = absurd (cc)
neither false b h = (refl, h)

others_kept : (weights line : List ℕ) (k : ℕ) → on k line ≡ false
    → sum_by (weight_at (cleared weights k)) line ≡ sum_by (weight_at weights) line
others_kept weights [] k absent = refl
others_kept weights (j ∷ line) k absent =
    let apart = neither (nat_eq j k) (on k line) absent in
    omega (
      arith,
      sum_by-cons (weight_at (cleared weights k)) j line,
      sum_by-cons (weight_at weights) j line,
      other_kept weights k j (eqb-false j k apart.0),
      others_kept weights line k apart.1,
    )

-- ---- a chain of parents has each class once

not_above : (program : Source) (steps class : ℕ) (line : List ℕ) → class < length program.classes
    → chain (suc steps) (parents program) (Some class) ≡ Some line
    → (p : IsPushed class (chain steps (parents program) (parent (parents program) class)) line) → (b : Bool)
    → on class p.shorter ≡ b → on class p.shorter ≡ false
not_above program steps class line inside h p false absent = absent
not_above program steps class line inside h p true there =
    let a = above_of steps (parents program) (parent (parents program) class) p.shorter class p.ended there in
    let whole : Some a.own ≡ Some line = sym (chain_ends program class a.steps a.own inside a.ends)
    ∙ chain_ends program class (suc steps) line inside h in
    let same : a.own ≡ line = cc in
    absurd (omega (
      arith,
      ap length same,
      ap length p.pushed,
      length-append p.shorter (class ∷ []),
      ap length a.is,
      length-append a.own a.below,
    ))

line_sum : (program : Source) (steps : ℕ) (class : Option ℕ) (line : List ℕ)
    → ((number : ℕ) → class ≡ Some number → number < length program.classes)
    → chain steps (parents program) class ≡ Some line
    → (weights : List ℕ) → sum_by (weight_at weights) line ≤ sum weights
line_sum program zero (Some class) line inside h weights = absurd (cc)
line_sum program zero None line inside h weights = subst (λ l. sum_by (weight_at weights) l ≤ sum weights)
    (sym (nothing_on zero (parents program) line h)) (omega arith)
line_sum program (suc steps) None line inside h weights =
    subst (λ l. sum_by (weight_at weights) l ≤ sum weights) (sym (nothing_on (suc steps) (parents program) line h))
    (omega arith)
line_sum program (suc steps) (Some class) line inside h weights =
    let p = pushed_from class (chain steps (parents program) (parent (parents program) class)) line h in
    let absent = not_above program steps class line (inside class refl) h p (on class p.shorter) refl in
    let split : sum_by (weight_at weights) line ≡ sum_by (weight_at weights) p.shorter + weight_at weights class =
    ap (sum_by (weight_at weights)) p.pushed ∙ sum_by_push (weight_at weights) p.shorter class in
    omega (
      arith,
      split,
      line_sum program steps (parent (parents program) class) p.shorter (parents_in program class) p.ended
          (cleared weights class),
      others_kept weights p.shorter class absent,
      cleared_sum weights class,
    )

own_number : (n class number : ℕ) → class < n → Some class ≡ Some number → number < n
own_number n class number inside e = let same : class ≡ number = cc in subst (λ k. k < n) same inside

chain_sum : (program : Source) (class : ℕ) (weights : List ℕ) → class < length program.classes
    → sum_by (weight_at weights) (class_line program class) ≤ sum weights
chain_sum program class weights inside = by (chain_of program class) refl
  where
    by : (r : Option (List ℕ)) → chain_of program class ≡ r → sum_by (weight_at weights) (unwrap_or r []) ≤ sum weights
    by None e = omega arith
    by (Some line) e = line_sum program (length program.classes) (Some class) line
        (λ number s. own_number (length program.classes) class number inside s) e weights

-- ---- names

module _ (count : List ℕ → ℕ) where
  abbrev pub field_count : Var → ℕ
  field_count var = count var.name.text

  abbrev pub name_count : Ident → ℕ
  name_count name = count name.text

  abbrev class_count : ClassText → ℕ
  class_count class = sum_by field_count class.fields

  at_class : (classes : List ClassText) (k : ℕ) → class_count (unwrap_or (slice_get classes k) no_class)
      ≡ weight_at (map class_count classes) k
  at_class [] k = refl
  at_class (class ∷ classes) zero = refl
  at_class (class ∷ classes) (suc k) = at_class classes k

  along_sum : (program : Source) (line : List ℕ) → sum_by field_count (fields_along program line)
      ≡ sum_by (weight_at (map class_count program.classes)) line
  along_sum program [] = refl
  along_sum program (k ∷ line) =
      omega (
        arith,
        sum_by-append field_count (class_at program k).fields (fields_along program line),
        sum_by-cons (weight_at (map class_count program.classes)) k line,
        at_class program.classes k,
        along_sum program line,
      )

  fields_sum : (vars : List Var) → sum_by field_count vars ≤ sum_by name_count (flat_map var_names vars)
  fields_sum [] = omega arith
  fields_sum (var ∷ vars) =
      omega (
        arith,
        sum_by-cons field_count var vars,
        sum_by-append name_count (var_names var)
            (flat_map var_names vars),
        sum_by_push name_count (type_names var.kind) var.name,
        fields_sum vars,
      )

  class_sum : (class : ClassText) → class_count class ≤ sum_by name_count (class_names class)
  class_sum class =
      let above = parent_names class.parent in
      let fields = flat_map var_names class.fields in
      let methods = flat_map procedure_names class.methods in
      omega (
        arith,
        sum_by-cons name_count class.name (above ++ fields ++ methods),
        sum_by-append name_count (above ++ fields) methods,
        sum_by-append name_count above fields,
        fields_sum class.fields,
      )

  source_sum : (classes : List ClassText) → sum (map class_count classes) ≤ sum_by name_count
      (flat_map class_names classes)
  source_sum [] = omega arith
  source_sum (class ∷ classes) =
      omega (
        arith,
        sum_by-cons (λ x. x) (class_count class) (map class_count classes),
        sum_by-append name_count (class_names class) (flat_map class_names classes),
        class_sum class,
        source_sum classes,
      )

  pub field_names_sum : (program : Source) (class : ℕ) → class < length program.classes
      → sum_by field_count (class_fields program class) ≤ sum_by name_count (source_names program)
  field_names_sum program class inside =
      omega (
        arith,
        along_sum program (class_line program class),
        chain_sum program class (map class_count program.classes) inside,
        source_sum program.classes,
      )
