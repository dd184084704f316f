-- A program and its inverse program have the same class table, and no rule of the table refuses the
-- one that does not refuse the other.
use Rattle.std.proofs.Common.{◌≡◌, ℕ, ◌+◌, ◌-◌, refl, sym, ap, ◌∙◌, not, List, [], ◌∷◌, ◌++◌, length, map, take}
use Rattle.std.proofs.Common.{position, Option, Some, None, option_map, unwrap_or, slice_get, nat_lt, if◌then◌else◌}
use Rattle.std.proofs.lemmas.List.{length-map}
use Rattle.std.proofs.lemmas.Option.{slice_get-map}
use Rattle.std.proofs.Math.Path.{fun_ext}
use Rattle.std.specs.Prelude.{is_some}
use Rattle.std.specs.Option.{option_or}
use Rattle.std.specs.List.{list_any}
use Rattle.std.specs.Str.{bytes_eq}
use Rattle.indexmap.specs.IndexMap.{insert_entry}
use Rattle.meaning_reached.specs.rpp_tree.Tree.{Procedure, ClassText, Source}
use Rattle.meaning_reached.specs.class_rules.declared.method.MethodId.{MethodId}
use Rattle.meaning_reached.specs.class_rules.Refusal.{refused}
use Rattle.meaning_reached.specs.rpp_tree.declared.limits.TheConstants.{MOST_FIELDS, MOST_METHODS}
use Rattle.meaning_reached.specs.class_rules.First.{refused_if, first_in, first_after, first_at, each_below}
use Rattle.meaning_reached.specs.class_rules.Names.{has_name}
use Rattle.meaning_reached.specs.class_rules.Rules.{class_name, all_class_names, name_taken, duplicate_class, unknown_parent, unknown_var}
use Rattle.meaning_reached.specs.class_rules.Rules.{unknown_params, unknown_in_class, unknown_class}
use Rattle.meaning_reached.specs.class_rules.Chains.{parent_named, parents, chain, chain_of, endless_chain, inheritance_cycle, class_line}
use Rattle.meaning_reached.specs.class_rules.Chains.{lines}
use Rattle.meaning_reached.specs.class_rules.Members.{no_class, no_procedure, class_at, fields_along, inherited, fields}
use Rattle.meaning_reached.specs.class_rules.Members.{field_name, taken_field, duplicate_field_at, duplicate_field, too_many_fields_at}
use Rattle.meaning_reached.specs.class_rules.Members.{too_many_fields, Slots, with_methods, slots_along, slots}
use Rattle.meaning_reached.specs.class_rules.Members.{too_many_slots_at, too_many_slots}
use Rattle.meaning_reached.specs.class_rules.Overrides.{method_name, method_taken, duplicate_method_in, duplicate_method, same_types}
use Rattle.meaning_reached.specs.class_rules.Overrides.{run_at, parameters_of, override_differs, override_in_slot, override_differs_at}
use Rattle.meaning_reached.specs.class_rules.Overrides.{inherited_slots, differing_override}
use Rattle.meaning_reached.specs.class_rules.Mains.{is_main, mains_in, mains_from, mains, main_refusal, first_main}
use Rattle.meaning_reached.specs.class_rules.Classes.{class_number, class_fields, class_slots, method_slot, dispatch, procedure_at}
use Rattle.meaning_reached.specs.class_rules.Classes.{method_named, main_of}
use Rattle.meaning_reached.specs.class_rules.Table.{table_of, first_class_refusal, HasClassTable}
use Rattle.meaning_reached.specs.inverse_rules.Inverse.{inverse_procedure, inverse_class, inverse_program}

-- ---- lists of which each element changes

pub map_after : {A B C : Type 0} (f : B → C) (g : A → B) (k : A → C) → ((x : A) → f (g x) ≡ k x) → (xs : List A)
    → map f (map g xs) ≡ map k xs
map_after f g k h [] = refl
map_after f g k h (x ∷ xs) = ap (λ y. y ∷ map f (map g xs)) (h x) ∙ ap (λ l. k x ∷ l) (map_after f g k h xs)

mapped_joined : {A B : Type 0} (g : A → B) (xs ys : List A) → map g (xs ++ ys) ≡ map g xs ++ map g ys
mapped_joined g [] ys = refl
mapped_joined g (x ∷ xs) ys = ap (λ l. g x ∷ l) (mapped_joined g xs ys)

first_in_after : {A B E : Type 0} (rule : B → Option E) (g : A → B) (other : A → Option E)
    → ((x : A) → rule (g x) ≡ other x) → (xs : List A) → first_in rule (map g xs) ≡ first_in other xs
first_in_after rule g other h [] = refl
first_in_after rule g other h (x ∷ xs) = ap (λ r. option_or r (first_in rule (map g xs))) (h x)
    ∙ ap (option_or (other x)) (first_in_after rule g other h xs)

first_at_after : {A B E : Type 0} (rule : ℕ → B → Option E) (g : A → B) (other : ℕ → A → Option E)
    → ((n : ℕ) (x : A) → rule n (g x) ≡ other n x) → (n : ℕ) (xs : List A)
    → first_at rule n (map g xs) ≡ first_at other n xs
first_at_after rule g other h n [] = refl
first_at_after rule g other h n (x ∷ xs) = ap (λ r. option_or r (first_at rule (n + 1) (map g xs))) (h n x)
    ∙ ap (option_or (other n x)) (first_at_after rule g other h (n + 1) xs)

first_after_after : {A B E : Type 0} (rule : List B → B → Option E) (g : A → B) (other : List A → A → Option E)
    → ((before : List A) (x : A) → rule (map g before) (g x) ≡ other before x) → (before xs : List A)
    → first_after rule (map g before) (map g xs) ≡ first_after other before xs
first_after_after rule g other h before [] = refl
first_after_after rule g other h before (x ∷ xs) =
    ap (λ r. option_or r (first_after rule (map g before ++ g x ∷ []) (map g xs))) (h before x)
    ∙ ap (λ l. option_or (other before x) (first_after rule l (map g xs))) (sym (mapped_joined g before (x ∷ [])))
    ∙ ap (option_or (other before x)) (first_after_after rule g other h (before ++ x ∷ []) xs)

unwrapped : {A B : Type 0} (g : A → B) (o : Option A) (d : A) → unwrap_or (option_map g o) (g d) ≡ g (unwrap_or o d)
unwrapped g None d = refl
unwrapped g (Some x) d = refl

-- ---- methods

methods_kept : (class number : ℕ) (methods : List Procedure) (found : Slots)
    → with_methods class number (map inverse_procedure methods) found ≡ with_methods class number methods found
methods_kept class number [] found = refl
methods_kept class number (method ∷ methods) found = methods_kept class (number + 1) methods
    (insert_entry bytes_eq found method.name.text (record { class = class; method = number }))

mains_kept_in : (class number : ℕ) (methods : List Procedure)
    → mains_in class number (map inverse_procedure methods) ≡ mains_in class number methods
mains_kept_in class number [] = refl
mains_kept_in class number (method ∷ methods) =
    ap (λ l. if is_main method then record { runs = record { class = class; method = number }; at = method.name.at }
    ∷ l else l) (mains_kept_in class (number + 1) methods)

mains_kept_from : (number : ℕ) (classes : List ClassText)
    → mains_from number (map inverse_class classes) ≡ mains_from number classes
mains_kept_from number [] = refl
mains_kept_from number (class ∷ classes) =
    ap (λ l. l ++ mains_from (number + 1) (map inverse_class classes)) (mains_kept_in number 0 class.methods)
    ∙ ap (λ l. mains_in number 0 class.methods ++ l) (mains_kept_from (number + 1) classes)

module _ (program : Source) where
  abbrev other : Source
  other = inverse_program program

  pub names_kept : all_class_names other ≡ all_class_names program
  names_kept = map_after class_name inverse_class class_name (λ c. refl) program.classes

  pub as_many_classes : length other.classes ≡ length program.classes
  as_many_classes = length-map program.classes inverse_class

  parents_kept : parents other ≡ parents program
  parents_kept =
      map_after (λ (c : ClassText). parent_named (all_class_names other) c.parent) inverse_class
      (λ (c : ClassText). parent_named (all_class_names other) c.parent) (λ c. refl) program.classes
      ∙ ap (λ names. map (λ (c : ClassText). parent_named names c.parent) program.classes) names_kept

  chains_kept : (class : ℕ) → chain_of other class ≡ chain_of program class
  chains_kept class = ap (λ n. chain n (parents other) (Some class)) as_many_classes
      ∙ ap (λ ps. chain (length program.classes) ps (Some class)) parents_kept

  lines_kept : class_line other ≡ class_line program
  lines_kept = fun_ext (λ class. ap (λ o. unwrap_or o []) (chains_kept class))

  pub class_kept : (class : ℕ) → class_at other class ≡ inverse_class (class_at program class)
  class_kept class = ap (λ o. unwrap_or o no_class) (slice_get-map inverse_class program.classes class)
      ∙ unwrapped inverse_class (slice_get program.classes class) no_class

  along_kept : (line : List ℕ) → fields_along other line ≡ fields_along program line
  along_kept [] = refl
  along_kept (class ∷ below) = ap (λ (c : ClassText). c.fields ++ fields_along other below) (class_kept class)
      ∙ ap (λ l. (class_at program class).fields ++ l) (along_kept below)

  pub fields_kept : (class : ℕ) → class_fields other class ≡ class_fields program class
  fields_kept class = ap (λ f. fields_along other (f class)) lines_kept ∙ along_kept (class_line program class)

  inherited_kept : (class : ℕ) → inherited other class ≡ inherited program class
  inherited_kept class = ap (λ f. fields_along other (take (length (f class) - 1) (f class))) lines_kept
      ∙ along_kept (take (length (class_line program class) - 1) (class_line program class))

  slots_kept_along : (found : Slots) (line : List ℕ) → slots_along other found line ≡ slots_along program found line
  slots_kept_along found [] = refl
  slots_kept_along found (class ∷ below) =
      ap (λ (c : ClassText). slots_along other (with_methods class 0 c.methods found) below) (class_kept class)
      ∙ ap (λ l. slots_along other l below) (methods_kept class 0 (class_at program class).methods found)
      ∙ slots_kept_along (with_methods class 0 (class_at program class).methods found) below

  pub slots_kept : (class : ℕ) → class_slots other class ≡ class_slots program class
  slots_kept class = ap (λ f. slots_along other [] (f class)) lines_kept ∙ slots_kept_along [] (class_line program class)

  inherited_slots_kept : (class : ℕ) → inherited_slots other class ≡ inherited_slots program class
  inherited_slots_kept class = ap (λ f. slots_along other [] (take (length (f class) - 1) (f class))) lines_kept
      ∙ slots_kept_along [] (take (length (class_line program class) - 1) (class_line program class))

  mains_kept : mains other ≡ mains program
  mains_kept = mains_kept_from 0 program.classes

  pub main_kept : main_of other ≡ main_of program
  main_kept = ap first_main mains_kept

  -- ---- the table

  each_kept : {A : Type 0} (f g : ℕ → A) → ((n : ℕ) → f n ≡ g n)
      → each_below f (length other.classes) ≡ each_below g (length program.classes)
  each_kept f g h = ap (λ k. each_below k (length other.classes)) (fun_ext h) ∙ ap (each_below g) as_many_classes

  pub table_kept : table_of other ≡ table_of program
  table_kept =
      ap (λ x. record {
        names = x;
        lines = lines other;
        fields = fields other;
        slots = slots other;
        main = first_main (mains other);
      }) names_kept
      ∙ ap (λ x. record {
        names = all_class_names program;
        lines = x;
        fields = fields other;
        slots = slots other;
        main = first_main (mains other);
      }) (each_kept (class_line other) (class_line program)
      (λ n. ap (λ f. f n) lines_kept))
      ∙ ap (λ x. record {
        names = all_class_names program;
        lines = lines program;
        fields = x;
        slots = slots other;
        main = first_main (mains other);
      }) (each_kept (class_fields other) (class_fields program) fields_kept)
      ∙ ap (λ x. record {
        names = all_class_names program;
        lines = lines program;
        fields = fields program;
        slots = x;
        main = first_main (mains other);
      }) (each_kept (class_slots other) (class_slots program) slots_kept)
      ∙ ap (λ x. record {
        names = all_class_names program;
        lines = lines program;
        fields = fields program;
        slots = slots program;
        main = x;
      }) main_kept

  -- ---- what calls find

  pub procedure_kept : (id : MethodId) → procedure_at other id ≡ inverse_procedure (procedure_at program id)
  procedure_kept id =
      ap (λ (c : ClassText). unwrap_or (slice_get c.methods id.method) no_procedure) (class_kept id.class)
      ∙ ap (λ o. unwrap_or o no_procedure) (slice_get-map inverse_procedure (class_at program id.class).methods
      id.method)
      ∙ unwrapped inverse_procedure (slice_get (class_at program id.class).methods id.method) no_procedure

  pub parameters_kept : (id : MethodId) → parameters_of other id ≡ parameters_of program id
  parameters_kept id = ap (λ (p : Procedure). p.params) (procedure_kept id)

  pub number_kept : (name : List ℕ) → class_number other name ≡ class_number program name
  number_kept name = ap (λ names. position (bytes_eq name) names) names_kept

  pub method_kept : (class : ℕ) (name : List ℕ) → method_named other class name
      ≡ inverse_procedure (method_named program class name)
  method_kept class name =
      ap (λ s. procedure_at other (run_at s (unwrap_or (position (bytes_eq name) (map (λ slot. slot.0) s)) 0)))
      (slots_kept class)
      ∙ procedure_kept (dispatch program class (unwrap_or (method_slot program class name) 0))

  -- ---- the rules of the table

  same_duplicate_class : duplicate_class other ≡ duplicate_class program
  same_duplicate_class = first_after_after name_taken inverse_class name_taken
      (λ before c. ap (λ l. refused_if (list_any (bytes_eq c.name.text) l) (refused 5 c.name.at))
      (map_after class_name inverse_class class_name (λ x. refl) before)) [] program.classes

  same_unknown_in : (names : List (List ℕ)) (c : ClassText)
      → unknown_in_class names (inverse_class c) ≡ unknown_in_class names c
  same_unknown_in names c =
      ap (λ r. option_or (unknown_parent names c.parent) (option_or (first_in (unknown_var names) c.fields) r))
      (first_in_after (unknown_params names) inverse_procedure (unknown_params names) (λ m. refl) c.methods)

  same_unknown : unknown_class other ≡ unknown_class program
  same_unknown = first_in_after (unknown_in_class (all_class_names other)) inverse_class
      (unknown_in_class (all_class_names program)) (λ c. same_unknown_in (all_class_names other) c
      ∙ ap (λ names. unknown_in_class names c) names_kept) program.classes

  same_cycle : inheritance_cycle other ≡ inheritance_cycle program
  same_cycle = first_at_after (endless_chain other) inverse_class (endless_chain program)
      (λ n c. ap (λ o. refused_if (not (is_some o)) (refused 7 c.name.at)) (chains_kept n)) 0 program.classes

  same_duplicate_field : duplicate_field other ≡ duplicate_field program
  same_duplicate_field = first_at_after (duplicate_field_at other) inverse_class (duplicate_field_at program)
      (λ n c. ap (λ l. taken_field (map field_name l) c.fields) (inherited_kept n)) 0 program.classes

  same_duplicate_method : duplicate_method other ≡ duplicate_method program
  same_duplicate_method =
      first_in_after duplicate_method_in inverse_class duplicate_method_in
      (λ c. first_after_after method_taken inverse_procedure method_taken
      (λ before m. ap (λ l. refused_if (has_name l m.name.text) (refused 9 m.name.at))
      (map_after method_name inverse_procedure method_name (λ x. refl) before)) [] c.methods) program.classes

  same_override : (found : Slots) (method : Procedure) → override_differs other found (inverse_procedure method)
      ≡ override_differs program found method
  same_override found method = by (position (bytes_eq method.name.text) (map (λ slot. slot.0) found))
    where
      by : (o : Option ℕ) → override_in_slot other found (inverse_procedure method) o
          ≡ override_in_slot program found method o
      by None = refl
      by (Some slot) = ap (λ params. refused_if (not (same_types params method.params))
          (refused 10 method.name.at)) (parameters_kept (run_at found slot))

  same_overrides : differing_override other ≡ differing_override program
  same_overrides =
      first_at_after (override_differs_at other) inverse_class (override_differs_at program)
      (λ n c. ap (λ s. first_in (override_differs other s) (map inverse_procedure c.methods)) (inherited_slots_kept n)
      ∙ first_in_after (override_differs other (inherited_slots program n)) inverse_procedure
      (override_differs program (inherited_slots program n)) (same_override (inherited_slots program n)) c.methods)
      0 program.classes

  same_many_fields : too_many_fields other ≡ too_many_fields program
  same_many_fields = first_at_after (too_many_fields_at other) inverse_class (too_many_fields_at program)
      (λ n c. ap (λ l. refused_if (nat_lt MOST_FIELDS (length l)) (refused 4 c.name.at)) (fields_kept n)) 0
      program.classes

  same_many_slots : too_many_slots other ≡ too_many_slots program
  same_many_slots = first_at_after (too_many_slots_at other) inverse_class (too_many_slots_at program)
      (λ n c. ap (λ l. refused_if (nat_lt MOST_METHODS (length l)) (refused 4 c.name.at)) (slots_kept n)) 0
      program.classes

  same_refusal : (end : ℕ) → first_class_refusal other end ≡ first_class_refusal program end
  same_refusal end =
      ap (λ r. option_or r (option_or (unknown_class other) (option_or (inheritance_cycle other)
      (option_or (duplicate_field other) (option_or (duplicate_method other)
      (option_or (differing_override other) (option_or (too_many_fields other)
      (option_or (too_many_slots other) (main_refusal end (mains other)))))))))) same_duplicate_class
      ∙ ap (λ r. option_or (duplicate_class program) (option_or r
      (option_or (inheritance_cycle other) (option_or (duplicate_field other)
      (option_or (duplicate_method other) (option_or (differing_override other)
      (option_or (too_many_fields other) (option_or (too_many_slots other)
      (main_refusal end (mains other)))))))))) same_unknown
      ∙ ap (λ r. option_or (duplicate_class program) (option_or (unknown_class program)
      (option_or r (option_or (duplicate_field other) (option_or (duplicate_method other)
      (option_or (differing_override other) (option_or (too_many_fields other)
      (option_or (too_many_slots other) (main_refusal end (mains other)))))))))) same_cycle
      ∙ ap (λ r. option_or (duplicate_class program) (option_or (unknown_class program)
      (option_or (inheritance_cycle program) (option_or r
      (option_or (duplicate_method other) (option_or (differing_override other)
      (option_or (too_many_fields other) (option_or (too_many_slots other)
      (main_refusal end (mains other)))))))))) same_duplicate_field
      ∙ ap (λ r. option_or (duplicate_class program) (option_or (unknown_class program)
      (option_or (inheritance_cycle program) (option_or (duplicate_field program)
      (option_or r (option_or (differing_override other)
      (option_or (too_many_fields other) (option_or (too_many_slots other)
      (main_refusal end (mains other)))))))))) same_duplicate_method
      ∙ ap (λ r. option_or (duplicate_class program) (option_or (unknown_class program)
      (option_or (inheritance_cycle program) (option_or (duplicate_field program)
      (option_or (duplicate_method program) (option_or r
      (option_or (too_many_fields other) (option_or (too_many_slots other)
      (main_refusal end (mains other)))))))))) same_overrides
      ∙ ap (λ r. option_or (duplicate_class program) (option_or (unknown_class program)
      (option_or (inheritance_cycle program) (option_or (duplicate_field program)
      (option_or (duplicate_method program) (option_or (differing_override program)
      (option_or r (option_or (too_many_slots other) (main_refusal end (mains other))))))))))
      same_many_fields
      ∙ ap (λ r. option_or (duplicate_class program) (option_or (unknown_class program)
      (option_or (inheritance_cycle program) (option_or (duplicate_field program)
      (option_or (duplicate_method program) (option_or (differing_override program)
      (option_or (too_many_fields program) (option_or r (main_refusal end (mains other))))))))))
      same_many_slots
      ∙ ap (λ l. option_or (duplicate_class program) (option_or (unknown_class program)
      (option_or (inheritance_cycle program) (option_or (duplicate_field program)
      (option_or (duplicate_method program) (option_or (differing_override program)
      (option_or (too_many_fields program) (option_or (too_many_slots program)
      (main_refusal end l))))))))) mains_kept

  pub has_table : HasClassTable program → HasClassTable other
  has_table h = record { none = λ end. same_refusal end ∙ h.none end }
