-- Variables by their places, and fields by the table of classes.
use Rattle.std.proofs.Common.{◌≡◌, ℕ, zero, suc, ◌≤◌, refl, sym, ap, ◌∙◌, arith, List, [], ◌∷◌, ◌++◌, length, Some}
use Rattle.std.proofs.Common.{None, Bool, true, false, map, replicate}
use Rattle.std.proofs.lemmas.Bool.{ltb-true, ltb-false}
use Rattle.std.proofs.lemmas.Option.{slice_get_past}
use Rattle.std.proofs.lemmas.List.{length-map, map-set}
use Rattle.std.specs.Prelude.{Option, slice_get, slice_set, nat_lt, position}
use Rattle.std.specs.Option.{unwrap_or}
use Rattle.std.specs.Str.{bytes_eq}
use Rattle.class_table.specs.rpp_tree.Tree.{Source}
use Rattle.source_store.specs.class_rules.Table.{Table, table_of, fields_in, field_in}
use Rattle.source_store.specs.class_rules.Rules.{all_class_names}
use Rattle.source_store.specs.class_rules.Chains.{parents, parent_named, chain, with_last}
use Rattle.source_store.specs.class_rules.Members.{field_of, fields, fields_along, no_class}
use Rattle.source_store.proofs.class_rules_laws.Numbers.{length-each_below}
use Rattle.source_store.specs.class_rules.Classes.{class_fields}
use Rattle.source_store.proofs.class_rules_laws.Tables.{table_reads}
use Rattle.source_store.specs.roopl_semantics.Store.{Value, Nil, State}
use Rattle.source_store.specs.roopl_semantics.Value.{Slot, Part, value_at, with_value, slot_of, slot_or_field, cell_named, own_class}
use Rattle.source_store.specs.declared.value.Value.{Value as Held}
use Rattle.source_store.specs.ValueView.{value_of}
use Rattle.source_steps.specs.declared.scope.Scope.{Scope as Chain}
use Rattle.source_steps.specs.StateView.{bindings, names_of, frame_of}

-- the values of variables by their places
pub binding_at : (names : List (List ℕ)) (values : List Value) (index : ℕ) → length values ≡ length names
    → value_at (bindings names values) index ≡ unwrap_or (slice_get values index) Nil
binding_at [] [] index h = refl
binding_at [] (v ∷ values) index h = absurd (omega arith)
binding_at (name ∷ names) [] index h = absurd (omega arith)
binding_at (name ∷ names) (v ∷ values) zero h = refl
binding_at (name ∷ names) (v ∷ values) (suc index) h = binding_at names values index (omega arith)

pub binding_set : (names : List (List ℕ)) (values : List Value) (index : ℕ) (value : Value)
    → with_value (bindings names values) index value ≡ bindings names (slice_set values index value)
binding_set [] values index value = refl
binding_set (name ∷ names) [] index value = refl
binding_set (name ∷ names) (v ∷ values) zero value = refl
binding_set (name ∷ names) (v ∷ values) (suc index) value =
    ap (λ rest. record { name = name; value = v } ∷ rest) (binding_set names values index value)

pub binding_names : (names : List (List ℕ)) (values : List Value) → length values ≡ length names
    → map (λ b. b.name) (bindings names values) ≡ names
binding_names [] values h = refl
binding_names (name ∷ names) [] h = absurd (omega arith)
binding_names (name ∷ names) (v ∷ values) h = ap (λ rest. name ∷ rest) (binding_names names values (omega arith))

pub slot_value : (scope : Chain) (values : List Held) (index : ℕ) → length values ≡ length (names_of scope)
    → value_at (frame_of scope values) index ≡ unwrap_or (slice_get (map value_of values) index) Nil
slot_value scope values index h = binding_at (names_of scope) (map value_of values) index
    (length-map values value_of ∙ h)

pub slot_named : (scope : Chain) (values : List Held) (name : List ℕ) → length values ≡ length (names_of scope)
    → slot_of (frame_of scope values) name ≡ position (bytes_eq name) (names_of scope)
slot_named scope values name h = ap (position (bytes_eq name))
    (binding_names (names_of scope) (map value_of values) (length-map values value_of ∙ h))

chain_fields : (n : ℕ) (program : Source) (class : ℕ) → slice_get (parents program) class ≡ None
    → slice_get program.classes class ≡ None → fields_along program
    (unwrap_or (chain n (parents program) (Some class)) []) ≡ []
chain_fields zero program class e f = refl
chain_fields (suc n) program class e f =
    ap (λ p. fields_along program (unwrap_or (with_last class (chain n (parents program) (unwrap_or p None))) [])) e
    ∙ ap (λ o. (unwrap_or o no_class).fields ++ []) f

-- the table's fields are those of the class, also if there is no such class
pub fields_read : (program : Source) (class : ℕ) → fields_in (table_of program) class ≡ class_fields program class
fields_read program class = by (nat_lt class (length program.classes)) refl
  where
    by : (t : Bool) → nat_lt class (length program.classes) ≡ t
        → fields_in (table_of program) class ≡ class_fields program class
    by true e = (table_reads program class (ltb-true class (length program.classes) e)).fields
    by false e =
        let past : length program.classes ≤ class = ltb-false class (length program.classes) e in
        let none : slice_get (fields program) class ≡ None =
        slice_get_past (fields program) class (let l = length-each_below (class_fields program)
        (length program.classes) in omega arith) in
        let alone : slice_get (parents program) class ≡ None =
        slice_get_past (parents program) class (let l = length-map program.classes
        (λ class. parent_named (all_class_names program) class.parent) in omega arith) in
        ap (λ o. unwrap_or o []) none ∙ sym (chain_fields (length program.classes) program class alone
        (slice_get_past program.classes class past))

pub field_reads : (program : Source) (table : Table) (class same : ℕ) (name : List ℕ) (r : Option ℕ)
    → table ≡ table_of program → class ≡ same → r ≡ field_in table class name
    → unwrap_or r 0 ≡ unwrap_or (field_of (class_fields program same) name) 0
field_reads program table class same name r e f g =
    ap (λ r. unwrap_or r 0) (g ∙ (ap (λ t. field_in t class name) e
    ∙ (ap (λ k. field_in (table_of program) k name) f
    ∙ ap (λ vars. field_of vars name) (fields_read program same))))

pub cell_slot : (program : Source) (st : State) (name : List ℕ) (index : ℕ) → Some index ≡ slot_of st.frame name
    → Slot index ≡ cell_named program st name
cell_slot program st name index e = ap (slot_or_field program st name) e

pub cell_field : (program : Source) (st : State) (name : List ℕ) (index : ℕ) → None ≡ slot_of st.frame name
    → index ≡ unwrap_or (field_of (class_fields program (own_class st)) name) 0
    → Part st.self index ≡ cell_named program st name
cell_field program st name index e f = ap (λ i. Part st.self i) f ∙ ap (slot_or_field program st name) e

pub frame_set : (scope : Chain) (values : List Held) (index : ℕ) (value : Held)
    → frame_of scope (slice_set values index value) ≡ with_value (frame_of scope values) index (value_of value)
frame_set scope values index value = ap (bindings (names_of scope)) (map-set value_of values index value)
    ∙ sym (binding_set (names_of scope) (map value_of values) index (value_of value))

pub values_replicate : (n : ℕ) (v : Held) → map value_of (replicate n v) ≡ replicate n (value_of v)
values_replicate zero v = refl
values_replicate (suc n) v = ap (λ r. value_of v ∷ r) (values_replicate n v)
