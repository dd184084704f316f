-- The methods that the table of classes finds.
use Rattle.std.proofs.Common.{◌≡◌, ℕ, zero, suc, ◌≤◌, refl, sym, ap, ◌∙◌, arith, List, [], length, Some, None, Bool}
use Rattle.std.proofs.Common.{true, false, map}
use Rattle.std.proofs.lemmas.Bool.{ltb-true, ltb-false}
use Rattle.std.proofs.lemmas.Option.{slice_get_past}
use Rattle.std.proofs.lemmas.List.{length-map}
use Rattle.std.specs.Prelude.{Option, slice_get, nat_lt, position}
use Rattle.std.specs.Option.{unwrap_or}
use Rattle.std.specs.Str.{bytes_eq}
use Rattle.source_blocks.specs.rpp_tree.Tree.{Procedure, Source}
use Rattle.source_blocks.specs.class_rules.declared.method.MethodId.{MethodId}
use Rattle.source_blocks.specs.class_rules.Table.{Table, table_of, slots_in, slot_in, dispatch_in}
use Rattle.source_blocks.specs.class_rules.Rules.{all_class_names}
use Rattle.source_blocks.specs.class_rules.Chains.{parents, parent_named, chain, with_last}
use Rattle.source_blocks.specs.class_rules.Members.{class_at, no_class, no_procedure, slots, slots_along, with_methods}
use Rattle.source_blocks.specs.class_rules.Overrides.{run_at}
use Rattle.source_blocks.specs.class_rules.Classes.{class_slots, method_named}
use Rattle.source_blocks.proofs.class_rules_laws.Numbers.{length-each_below}
use Rattle.source_blocks.proofs.class_rules_laws.Tables.{table_reads}
use Rattle.source_blocks.specs.source_steps.Ends.{slot_or_first}

chain_slots : (n : ℕ) (program : Source) (class : ℕ) → slice_get (parents program) class ≡ None
    → slice_get program.classes class ≡ None → slots_along program []
    (unwrap_or (chain n (parents program) (Some class)) []) ≡ []
chain_slots zero program class e f = refl
chain_slots (suc n) program class e f =
    ap (λ p. slots_along program [] (unwrap_or (with_last class (chain n (parents program) (unwrap_or p None))) [])) e
    ∙ ap (λ o. with_methods class 0 (unwrap_or o no_class).methods []) f

-- the table's slots are those of the class, also if there is no such class
pub slots_read : (program : Source) (class : ℕ) → slots_in (table_of program) class ≡ class_slots program class
slots_read program class = by (nat_lt class (length program.classes)) refl
  where
    by : (t : Bool) → nat_lt class (length program.classes) ≡ t
        → slots_in (table_of program) class ≡ class_slots program class
    by true e = (table_reads program class (ltb-true class (length program.classes) e)).slots
    by false e =
        let past : length program.classes ≤ class = ltb-false class (length program.classes) e in
        let none : slice_get (slots program) class ≡ None =
        slice_get_past (slots program) class (let l = length-each_below (class_slots program) (length program.classes)
        in omega arith) in
        let alone : slice_get (parents program) class ≡ None =
        slice_get_past (parents program) class (let l = length-map program.classes
        (λ class. parent_named (all_class_names program) class.parent) in omega arith) in
        ap (λ o. unwrap_or o []) none ∙ sym (chain_slots (length program.classes) program class alone
        (slice_get_past program.classes class past))

pub slot_reads : (program : Source) (table : Table) (class : ℕ) (name : List ℕ) (r : Option ℕ)
    → table ≡ table_of program → r ≡ slot_in table class name → unwrap_or r 0 ≡ slot_or_first program class name
slot_reads program table class name r e f =
    ap (λ r. unwrap_or r 0) (f ∙ ap (λ t. slot_in t class name) e
    ∙ ap (λ slots. position (bytes_eq name) (map (λ slot. slot.0) slots)) (slots_read program class))

pub method_reads : (program : Source) (table : Table) (class slot : ℕ) (name : List ℕ) (id : MethodId)
    (r : Option Procedure) → table ≡ table_of program → slot ≡ slot_or_first program class name
    → id ≡ dispatch_in table class slot
    → r ≡ slice_get (class_at program id.class).methods id.method
    → unwrap_or r no_procedure ≡ method_named program class name
method_reads program table class slot name id r e s i m =
    let same : id ≡ run_at (class_slots program class) (slot_or_first program class name)
    = i ∙ ap (λ t. dispatch_in t class slot) e ∙ ap (λ slots. run_at slots slot) (slots_read program class)
    ∙ ap (run_at (class_slots program class)) s in
    ap (λ r. unwrap_or r no_procedure) (m ∙ ap (λ j. slice_get (class_at program j.class).methods j.method) same)
