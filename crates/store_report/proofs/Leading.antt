-- The walk and the text as the code makes them are those of the references.
use Rattle.std.proofs.Common.{◌≡◌, ◌∙◌, sym, ap, refl, ℕ, zero, suc, ◌+◌, ◌<◌, Bool, true, false, List, [], ◌∷◌, ◌++◌}
use Rattle.std.proofs.Common.{map, length, drop, Option, Some, None, arith, slice_get, append_assoc, append-nil}
use Rattle.std.proofs.lemmas.Bool.{eqb-true}
use Rattle.std.proofs.lemmas.List.{map-append, length-map}
use Rattle.std.proofs.lemmas.List.Folds.{list_any-append}
use Rattle.std.proofs.lemmas.List.Quantifiers.{position-Some}
use Rattle.std.specs.Prelude.{nat_eq, not, is_none, ◌&&◌, ◌||◌, position, replicate, codes, if◌then◌else◌}
use Rattle.std.specs.List.{list_any}
use Rattle.std.specs.Option.{unwrap_or, option_map}
use Rattle.indexmap.specs.IndexMap.{insert_entry}
use Rattle.meaning_reached.specs.rpp_tree.declared.tree.Var.{Var}
use Rattle.meaning_reached.specs.rpp_tree.declared.tree.VarType.{VarType}
use Rattle.meaning_reached.specs.rpp_tree.Tree.{Source}
use Rattle.refine_frame.specs.class_rules.Classes.{class_fields}
use Rattle.refine_frame.specs.class_rules.Table.{Table, table_of, fields_in}
use Rattle.refine_frame.proofs.class_rules_laws.Numbers.{length-each_below, each_below-get}
use Rattle.refine_frame.specs.code_conventions.declared.memory.TheConstants.{COUNT_WORD, HEADER_WORDS}
use Rattle.static_layout.specs.roopl_semantics.Source.{main_fields}
use Rattle.static_layout.specs.roopl_semantics.Report.{number_shown, field_lines, element_lines, head_shown, cell_lines}
use Rattle.static_layout.specs.roopl_semantics.Report.{live_line, head_line, object_text}
use Rattle.static_layout.specs.roopl_semantics.Layout.{table_at, table_addresses}
use Rattle.static_layout.specs.roopl_semantics.Walk.{types_of, Reference, cell_types, types_at, is_new}
use Rattle.static_layout.specs.roopl_semantics.Walk.{is_reference_type, newly_reached, reached_within, reached}
use Rattle.pisa_machine.specs.pisa_isa.Loaded.{statics_at}
use Rattle.pisa_machine.specs.pisa_isa.Machine.{word_at}
use Rattle.refine_frame.proofs.meaning_sound_laws.Stores.{same_number, other_number, differs}
use Rattle.refine_frame.proofs.class_rules_laws.FirstPlaces.{position_cons}
use Rattle.store_report.specs.declared.leads.Lead.{Lead}
use Rattle.store_report.specs.Told.{value_told, values_told, head_told, address_of, lines_told, report_told}
use Rattle.store_report.specs.Told.{object_told}
use Rattle.store_report.specs.Leads.{Met, lead_of, leads_of, is_reference, address_met, is_unmet, meets_one, met_leads}
use Rattle.store_report.specs.Leads.{class_at_table, leads_at, meets_behind, goes_on, walks, met_all}
use Rattle.store_report.specs.Shown.{lead_value, values_by, head_by, addresses_of, cells_by, objects_by, report_by}
use Rattle.meaning_reached.specs.rpp_tree.declared.tree.VarType.TheVariants as type

-- ---- what is among the met

turned : (a b : ℕ) → nat_eq a b ≡ nat_eq b a
turned a b = by (nat_eq a b) refl
  where
    by : (x : Bool) → nat_eq a b ≡ x → nat_eq a b ≡ nat_eq b a
    by true e = e ∙ sym (ap (λ k. nat_eq b k) (eqb-true a b e) ∙ same_number b)
    by false e = e ∙ sym (other_number b a (λ q. differs a b e (sym q)))

unmet_is : (met : Met) (w : ℕ) → is_unmet met w ≡ not (list_any (nat_eq w) (map address_met met))
unmet_is [] w = refl
unmet_is (entry ∷ met) w = ap is_none (position_cons (nat_eq w) entry.0 (map address_met met) (nat_eq w entry.0) refl)
    ∙ by (nat_eq w entry.0) (position (nat_eq w) (map address_met met)) (unmet_is met w)
  where
    by : (b : Bool) (o : Option ℕ) → is_none o ≡ not (list_any (nat_eq w) (map address_met met))
        → is_none (if b then Some 0 else option_map suc o) ≡ not (b || list_any (nat_eq w) (map address_met met))
    by true o e = refl
    by false None e = e
    by false (Some i) e = e

inserted : (met : Met) (w : ℕ) (l : Lead) → list_any (nat_eq w) (map address_met met) ≡ false
    → insert_entry nat_eq met w l ≡ met ++ (w, l) ∷ []
inserted [] w l h = refl
inserted (entry ∷ met) w l h = by (nat_eq w entry.0) refl h (λ q. inserted met w l q)
  where
    by : (b : Bool) → nat_eq w entry.0 ≡ b → (b || list_any (nat_eq w) (map address_met met)) ≡ false
        → (list_any (nat_eq w) (map address_met met) ≡ false → insert_entry nat_eq met w l ≡ met ++ (w, l) ∷ [])
        → (if b then (entry.0, l) ∷ met else entry ∷ insert_entry nat_eq met w l) ≡ entry ∷ (met ++ (w, l) ∷ [])
    by true e q rest = absurd (cc)
    by false e q rest = ap (λ z. entry ∷ z) (rest q)

module _ (program : Source) where
  abbrev T : Table
  T = table_of program

  abbrev pair : Reference → ℕ × Lead
  pair r = (r.at, lead_of T r.type)

  abbrev Same : Met → List Reference → Type 0
  Same met references = (w : ℕ) → list_any (nat_eq w) (map address_met met)
      ≡ list_any (λ (r : Reference). nat_eq r.at w) references

  same_pairs : (references : List Reference) → Same (map pair references) references
  same_pairs [] w = refl
  same_pairs (r ∷ references) w = ap (λ b. b || list_any (nat_eq w) (map address_met (map pair references)))
      (turned w r.at) ∙ ap (λ b. nat_eq r.at w || b) (same_pairs references w)

  reference_is : (t : VarType) → is_reference (lead_of T t) ≡ is_reference_type t
  reference_is type.Int = refl
  reference_is (type.Class name) = refl
  reference_is type.IntArray = refl
  reference_is (type.ClassArray name) = refl

  one_is : (met : Met) (references : List Reference) (t : VarType) (w : ℕ) → Same met references
      → meets_one met (lead_of T t) w ≡ (if is_new references t w then met ++ (w, lead_of T t) ∷ [] else met)
  one_is met references t w same =
      ap (λ b. if b && not (nat_eq w 0) && is_unmet met w then insert_entry nat_eq met w (lead_of T t) else met)
      (reference_is t)
      ∙ ap (λ b. if is_reference_type t && not (nat_eq w 0) && b then insert_entry nat_eq met w (lead_of T t) else met)
      (unmet_is met w)
      ∙ by (is_reference_type t && not (nat_eq w 0)) (list_any (nat_eq w) (map address_met met)) refl
      ∙ ap (λ b. if is_reference_type t && not (nat_eq w 0) && not b then met ++ (w, lead_of T t) ∷ [] else met)
      (same w)
    where
      by : (a b : Bool) → list_any (nat_eq w) (map address_met met) ≡ b
          → (if a && not b then insert_entry nat_eq met w (lead_of T t) else met)
          ≡ (if a && not b then met ++ (w, lead_of T t) ∷ [] else met)
      by true true e = refl
      by false true e = refl
      by false false e = refl
      by true false e = inserted met w (lead_of T t) e

  same_more : (met : Met) (references : List Reference) (r : Reference) → Same met references
      → Same (met ++ pair r ∷ []) (r ∷ references)
  same_more met references r same w =
      ap (list_any (nat_eq w)) (map-append address_met met (pair r ∷ []))
      ∙ list_any-append (nat_eq w) (map address_met met) (r.at ∷ [])
      ∙ ap (λ b. b || (nat_eq w r.at || false)) (same w)
      ∙ ap (λ b. list_any (λ (x : Reference). nat_eq x.at w) references || (b || false)) (turned w r.at)
      ∙ by (list_any (λ (x : Reference). nat_eq x.at w) references) (nat_eq r.at w)
    where
      by : (a b : Bool) → (a || (b || false)) ≡ (b || a)
      by true true = refl
      by true false = refl
      by false true = refl
      by false false = refl

  meets_are : (cells : List ℕ) (met : Met) (references : List Reference) (address : ℕ) (types : List VarType)
      → Same met references → met_leads cells met address (map (lead_of T) types)
      ≡ met ++ map pair (newly_reached cells references address types)
  meets_are cells met references address [] same = sym (append-nil met)
  meets_are cells met references address (t ∷ types) same =
      let w = word_at cells address in
      let r : Reference = record { at = w; type = t } in
      ap (λ m. met_leads cells m (address + 1) (map (lead_of T) types)) (one_is met references t w same)
      ∙ by (is_new references t w) (meets_are cells (met ++ pair r ∷ []) (r ∷ references) (address + 1) types
      (same_more met references r same)) (meets_are cells met references (address + 1) types same)
    where
      by : (b : Bool) → met_leads cells (met ++ (word_at cells address, lead_of T t) ∷ []) (address + 1)
          (map (lead_of T) types) ≡ (met ++ (word_at cells address, lead_of T t) ∷ [])
          ++ map pair (newly_reached cells (record { at = word_at cells address; type = t } ∷ references) (address + 1)
          types)
          → met_leads cells met (address + 1) (map (lead_of T) types)
          ≡ met ++ map pair (newly_reached cells references (address + 1) types)
          → met_leads cells (if b then met ++ (word_at cells address, lead_of T t) ∷ [] else met) (address + 1)
          (map (lead_of T) types) ≡ met ++ map pair (if b then record { at = word_at cells address; type = t }
          ∷ newly_reached cells (record { at = word_at cells address; type = t } ∷ references) (address + 1) types
          else newly_reached cells references (address + 1) types)
      by true e f = e ∙ append_assoc met ((word_at cells address, lead_of T t) ∷ [])
          (map pair (newly_reached cells (record { at = word_at cells address; type = t } ∷ references) (address + 1)
          types))
      by false e f = f

  -- ---- what a reference leads to

  map_replicate : {A B : Type 0} (f : A → B) (n : ℕ) (x : A) → map f (replicate n x) ≡ replicate n (f x)
  map_replicate f zero x = refl
  map_replicate f (suc n) x = ap (λ z. f x ∷ z) (map_replicate f n x)

  leads_are : (vars : List Var) → leads_of T vars ≡ map (lead_of T) (types_of vars)
  leads_are [] = refl
  leads_are (var ∷ vars) = ap (λ z. lead_of T var.kind ∷ z) (leads_are vars)

  module _ (some_class : 0 < length program.classes) where
    abbrev tables : List ℕ
    tables = table_addresses program

    -- the class of a table is one of the program's
    class_inside : (word : ℕ) → class_at_table tables word < length program.classes
    class_inside word = by (position (nat_eq word) tables) refl
      where
        by : (o : Option ℕ) → position (nat_eq word) tables ≡ o → unwrap_or o 0 < length program.classes
        by None e = some_class
        by (Some i) e = let a = (position-Some (nat_eq word) tables i 0 e).0 in
            omega (arith, length-each_below (table_at program) (length program.classes))

    fields_same : (word : ℕ) → fields_in T (class_at_table tables word)
        ≡ class_fields program (class_at_table tables word)
    fields_same word = each_below-get (class_fields program) (length program.classes) (class_at_table tables word) []
        (class_inside word)

    no_ints : (cells : List ℕ) (references : List Reference) (n address : ℕ)
        → newly_reached cells references address (replicate n type.Int) ≡ []
    no_ints cells references zero address = refl
    no_ints cells references (suc n) address = no_ints cells references n (address + 1)

    behind_is : (cells : List ℕ) (references : List Reference) (r : Reference)
        → meets_behind T tables cells (map pair references) (pair r)
        ≡ map pair references ++ map pair (newly_reached cells references (r.at + HEADER_WORDS)
        (types_at program cells r))
    behind_is cells references r = by r.type (word_at cells r.at)
      where
        by : (t : VarType) (word : ℕ) → met_leads cells (map pair references) (r.at + HEADER_WORDS)
            (leads_at T tables (lead_of T t) word) ≡ map pair references
            ++ map pair (newly_reached cells references (r.at + HEADER_WORDS) (cell_types program t word))
        by type.Int word = sym (append-nil (map pair references))
        by (type.Class name) word =
            ap (λ vars. met_leads cells (map pair references) (r.at + HEADER_WORDS) (leads_of T vars)) (fields_same word)
            ∙ ap (met_leads cells (map pair references) (r.at + HEADER_WORDS))
            (leads_are (class_fields program (class_at_table tables word)))
            ∙ meets_are cells (map pair references) references (r.at + HEADER_WORDS)
            (types_of (class_fields program (class_at_table tables word))) (same_pairs references)
        by type.IntArray word = sym (ap (λ z. map pair references ++ map pair z)
            (no_ints cells references word (r.at + HEADER_WORDS)) ∙ append-nil (map pair references))
        by (type.ClassArray name) word =
            ap (met_leads cells (map pair references) (r.at + HEADER_WORDS))
            (sym (map_replicate (lead_of T) word (type.Class name)))
            ∙ meets_are cells (map pair references) references (r.at + HEADER_WORDS) (replicate word (type.Class name))
            (same_pairs references)

    -- ---- the walk

    dropped_none : (xs : List Reference) (k : ℕ) → drop k xs ≡ [] → slice_get (map pair xs) k ≡ None
    dropped_none [] k h = refl
    dropped_none (x ∷ xs) zero h = absurd (cc)
    dropped_none (x ∷ xs) (suc k) h = dropped_none xs k h

    dropped_some : (xs : List Reference) (k : ℕ) (r : Reference) (rest : List Reference) → drop k xs ≡ r ∷ rest
        → slice_get (map pair xs) k ≡ Some (pair r)
    dropped_some [] zero r rest h = absurd (cc)
    dropped_some [] (suc k) r rest h = absurd (cc)
    dropped_some (x ∷ xs) zero r rest h = let e : x ≡ r = cc in ap (λ z. Some (pair z)) e
    dropped_some (x ∷ xs) (suc k) r rest h = dropped_some xs k r rest h

    dropped_next : (xs new : List Reference) (k : ℕ) (r : Reference) (rest : List Reference) → drop k xs ≡ r ∷ rest
        → drop (suc k) (xs ++ new) ≡ rest ++ new
    dropped_next [] new zero r rest h = absurd (cc)
    dropped_next [] new (suc k) r rest h = absurd (cc)
    dropped_next (x ∷ xs) new zero r rest h = let e : xs ≡ rest = cc in ap (λ z. z ++ new) e
    dropped_next (x ∷ xs) new (suc k) r rest h = dropped_next xs new k r rest h

    walks_are : (cells : List ℕ) (steps : ℕ) (references pending : List Reference) (k : ℕ) → drop k references ≡ pending
        → walks steps T tables cells (map pair references) k
        ≡ map pair (reached_within steps program cells references pending)
    walks_are cells zero references pending k h = refl
    walks_are cells (suc steps) references [] k h = ap (λ o. goes_on o (map pair references)
        (λ entry. walks steps T tables cells (meets_behind T tables cells (map pair references) entry) (k + 1)))
        (dropped_none references k h)
    walks_are cells (suc steps) references (r ∷ pending) k h =
        let new = newly_reached cells references (r.at + HEADER_WORDS) (types_at program cells r) in
        let one : k + 1 ≡ suc k = omega arith in
        ap (λ o. goes_on o (map pair references) (λ entry. walks steps T tables cells
        (meets_behind T tables cells (map pair references) entry) (k + 1)))
        (dropped_some references k r pending h)
        ∙ ap (λ m. walks steps T tables cells m (k + 1)) (behind_is cells references r
        ∙ sym (map-append pair references new))
        ∙ walks_are cells steps (references ++ new) (pending ++ new) (k + 1)
        (ap (λ j. drop j (references ++ new)) one ∙ dropped_next references new k r pending h)

    pub met_is : (cells : List ℕ) → met_all T tables (main_fields program) cells ≡ map pair (reached program cells)
    met_is cells =
        let first = newly_reached cells [] (statics_at + HEADER_WORDS) (types_of (main_fields program)) in
        ap (λ m. walks (length cells) T tables cells m 0) (ap (met_leads cells [] (statics_at + HEADER_WORDS))
        (leads_are (main_fields program)) ∙ meets_are cells [] [] (statics_at + HEADER_WORDS)
        (types_of (main_fields program)) (λ w. refl))
        ∙ walks_are cells (length cells) first first 0 refl

    -- ---- the text

    value_is : (t : VarType) (w : ℕ) → lead_value (lead_of T t) w ≡ value_told t w
    value_is type.Int w = refl
    value_is (type.Class name) w = refl
    value_is type.IntArray w = refl
    value_is (type.ClassArray name) w = refl

    values_are : (cells : List ℕ) (address : ℕ) (types : List VarType)
        → values_by cells address (map (lead_of T) types) ≡ values_told cells address types
    values_are cells address [] = refl
    values_are cells address (t ∷ types) = ap (λ v. v ∷ values_by cells (address + 1) (map (lead_of T) types))
        (value_is t (word_at cells address)) ∙ ap (λ z. value_told t (word_at cells address) ∷ z)
        (values_are cells (address + 1) types)

    field_values : (cells : List ℕ) (address : ℕ) (vars : List Var)
        → values_by cells address (leads_of T vars) ≡ values_told cells address (types_of vars)
    field_values cells address vars = ap (values_by cells address) (leads_are vars)
        ∙ values_are cells address (types_of vars)

    head_is : (t : VarType) (w : ℕ) → head_by tables (lead_of T t) w ≡ head_told program t w
    head_is type.Int w = refl
    head_is (type.Class name) w = refl
    head_is type.IntArray w = refl
    head_is (type.ClassArray name) w = refl

    cells_are : (cells names : List ℕ) (at : ℕ) (t : VarType) (w : ℕ)
        → cells_by T tables cells names at (lead_of T t) w ≡ cell_lines program names (head_told program t w)
        (values_told cells (at + HEADER_WORDS) (cell_types program t w))
    cells_are cells names at type.Int w = refl
    cells_are cells names at (type.Class name) w =
        ap (λ vars. field_lines (codes "  ") names vars (values_by cells (at + HEADER_WORDS) (leads_of T vars)))
        (fields_same w)
        ∙ ap (field_lines (codes "  ") names (class_fields program (class_at_table tables w)))
        (field_values cells (at + HEADER_WORDS) (class_fields program (class_at_table tables w)))
    cells_are cells names at type.IntArray w =
        ap (λ ls. element_lines names 0 (values_by cells (at + HEADER_WORDS) ls))
        (sym (map_replicate (lead_of T) w type.Int))
        ∙ ap (element_lines names 0) (values_are cells (at + HEADER_WORDS) (replicate w type.Int))
    cells_are cells names at (type.ClassArray name) w =
        ap (λ ls. element_lines names 0 (values_by cells (at + HEADER_WORDS) ls))
        (sym (map_replicate (lead_of T) w (type.Class name)))
        ∙ ap (element_lines names 0) (values_are cells (at + HEADER_WORDS) (replicate w (type.Class name)))

    objects_are : (cells names : List ℕ) (references : List Reference)
        → objects_by program T tables cells names (map pair references) ≡ lines_told program cells names references
    objects_are cells names [] = refl
    objects_are cells names (r ∷ references) =
        let word = word_at cells r.at in
        let count = word_at cells (r.at + COUNT_WORD) in
        let rest = objects_by program T tables cells names (map pair references) in
        ap (λ h. head_line (number_shown names r.at) (head_shown program h) count
        ++ cells_by T tables cells names r.at (lead_of T r.type) word ++ rest) (head_is r.type word)
        ∙ ap (λ z. head_line (number_shown names r.at) (head_shown program (head_told program r.type word)) count
        ++ z ++ rest) (cells_are cells names r.at r.type word)
        ∙ ap (λ z. object_text program names r.at (object_told program cells r) ++ z)
        (objects_are cells names references)

    addresses_are : (references : List Reference) → addresses_of (map pair references) ≡ map address_of references
    addresses_are [] = refl
    addresses_are (r ∷ references) = ap (λ z. r.at ∷ z) (addresses_are references)

    pub report_is : (cells : List ℕ) → report_by program T tables (main_fields program) cells
        ≡ report_told program cells
    report_is cells =
        let references = reached program cells in
        let names = map address_of references in
        let first = values_told cells (statics_at + HEADER_WORDS) (types_of (main_fields program)) in
        ap (λ m. field_lines [] (addresses_of m) (main_fields program)
        (values_by cells (statics_at + HEADER_WORDS) (leads_of T (main_fields program)))
        ++ objects_by program T tables cells (addresses_of m) m ++ live_line (length m)) (met_is cells)
        ∙ ap (λ xs. field_lines [] xs (main_fields program)
        (values_by cells (statics_at + HEADER_WORDS) (leads_of T (main_fields program)))
        ++ objects_by program T tables cells xs (map pair references) ++ live_line (length (map pair references)))
        (addresses_are references)
        ∙ ap (λ vs. field_lines [] names (main_fields program) vs
        ++ objects_by program T tables cells names (map pair references)
        ++ live_line (length (map pair references))) (field_values cells (statics_at + HEADER_WORDS)
        (main_fields program))
        ∙ ap (λ z. field_lines [] names (main_fields program) first ++ z ++ live_line (length (map pair references)))
        (objects_are cells names references)
        ∙ ap (λ k. field_lines [] names (main_fields program) first ++ lines_told program cells names references
        ++ live_line k) (length-map references pair)
