-- The class table of a program as plain data, and the first refusal of one.
use Rattle.std.specs.Prelude.{◌≡◌, ℕ, Bool, None, List, [], ◌-◌, map, length, take, Option}
use Rattle.std.specs.Prelude.{slice_get, position, nat_eq}
use Rattle.std.specs.List.{list_any}
use Rattle.std.specs.Option.{option_or, unwrap_or}
use Rattle.std.specs.Str.{bytes_eq}
use Rattle.rpp_tree.specs.declared.tree.Var.{Var}
use Rattle.rpp_tree.specs.Tree.{Source}
use Rattle.class_rules.specs.declared.method.MethodId.{MethodId}
use Rattle.class_rules.specs.Refusal.{Refusal}
use Rattle.class_rules.specs.First.{first_in, first_after, first_at, each_below}
use Rattle.class_rules.specs.Rules.{all_class_names, name_taken, unknown_in_class}
use Rattle.class_rules.specs.Chains.{class_line, endless_chain}
use Rattle.class_rules.specs.Overrides.{duplicate_method_in, override_differs_at, run_at}
use Rattle.class_rules.specs.Members.{Slots, field_name, class_fields, class_slots}
use Rattle.class_rules.specs.Members.{duplicate_field_at, too_many_fields_at, too_many_slots_at}
use Rattle.class_rules.specs.Mains.{mains, main_refusal, first_main}

pub record Table : Type 0 where
  pub names : List (List ℕ)
  pub lines : List (List ℕ)
  pub fields : List (List Var)
  pub slots : List Slots
  pub main : MethodId

abbrev pub table_of : Source → Table
table_of program = record {
  names = all_class_names program;
  lines = each_below (class_line program) (length program.classes);
  fields = each_below (class_fields program) (length program.classes);
  slots = each_below (class_slots program) (length program.classes);
  main = first_main (mains program);
}

-- the phases in their order, for a text of so many bytes
abbrev pub first_class_refusal : Source → ℕ → Option Refusal
first_class_refusal program end =
    option_or (first_after name_taken [] program.classes)
    (option_or (first_in (unknown_in_class (all_class_names program)) program.classes)
    (option_or (first_at (endless_chain program) 0 program.classes)
    (option_or (first_at (duplicate_field_at program) 0 program.classes)
    (option_or (first_in duplicate_method_in program.classes)
    (option_or (first_at (override_differs_at program) 0 program.classes)
    (option_or (first_at (too_many_fields_at program) 0 program.classes)
    (option_or (first_at (too_many_slots_at program) 0 program.classes)
    (main_refusal end (mains program)))))))))

-- no rule of the class table refuses the program, wherever its text ends
pub record HasClassTable (program : Source) : Type 0 where
  pub none : (end : ℕ) → first_class_refusal program end ≡ None

-- what the readers answer
abbrev pub class_of : Table → List ℕ → Option ℕ
class_of table name = position (bytes_eq name) table.names

abbrev pub fields_in : Table → ℕ → List Var
fields_in table class = unwrap_or (slice_get table.fields class) []

-- the number of the field of this name
abbrev pub field_in : Table → ℕ → List ℕ → Option ℕ
field_in table class name = position (bytes_eq name) (map field_name (fields_in table class))

abbrev pub slots_in : Table → ℕ → Slots
slots_in table class = unwrap_or (slice_get table.slots class) []

abbrev pub slot_in : Table → ℕ → List ℕ → Option ℕ
slot_in table class name = position (bytes_eq name) (map (λ slot. slot.0) (slots_in table class))

abbrev pub dispatch_in : Table → ℕ → ℕ → MethodId
dispatch_in table class slot = run_at (slots_in table class) slot

-- whether a class has another above itself
abbrev pub inherits_in : Table → ℕ → ℕ → Bool
inherits_in table class from =
    let line = unwrap_or (slice_get table.lines class) [] in
    list_any (λ above. nat_eq above from) (take (length line - 1) line)
