-- What holds for the classes of an accepted program: a call finds a method that is checked and
-- ordinary.
use Rattle.std.proofs.Common.{◌≡◌, subst, ℕ, ◌<◌, List, length, Some, slice_get}
use Rattle.std.specs.Prelude.{All}
use Rattle.roopl_semantics.specs.rpp_tree.Tree.{Procedure, ClassText, Source}
use Rattle.roopl_semantics.specs.class_rules.Members.{class_at}
use Rattle.roopl_semantics.specs.class_rules.Overrides.{parameters_of}
use Rattle.roopl_semantics.specs.class_rules.Classes.{method_named}
use Rattle.roopl_semantics.specs.class_rules.Table.{table_of, dispatch_in}
use Rattle.roopl_semantics.specs.class_rules.Program.{IsAccepted}
use Rattle.roopl_semantics.proofs.class_rules_laws.ClassLines.{front_fields, is_through}
use Rattle.roopl_semantics.proofs.class_rules_laws.InheritedSlots.{class_there}
use Rattle.roopl_semantics.proofs.class_rules_laws.FoundMethods.{all_at, slot_inside, own_range, Dispatched, dispatched_method}
use Rattle.meaning_sound.specs.Plain.{IsPlain, ProgramIsPlain}
use Rattle.meaning_sound.proofs.Classes.{IsFound, KnowsClasses}

pub method_plain : (program : Source) → ProgramIsPlain program → (class number : ℕ) (method : Procedure)
    → class < length program.classes → slice_get (class_at program class).methods number ≡ Some method
    → IsPlain method.body
method_plain program plain class number method inside at =
    all_at (λ (m : Procedure). IsPlain m.body) (class_at program class).methods number method
    (all_at (λ (c : ClassText). All (λ (m : Procedure). IsPlain m.body) c.methods) program.classes class
    (class_at program class) plain (class_there program.classes class inside)) at

-- the method that a call finds is plain too
pub plain_method : (program : Source) → ProgramIsPlain program → (own class slot : ℕ) (name : List ℕ)
    → Dispatched program own class slot name
    → IsFound program own (method_named program own name)
    (parameters_of program (dispatch_in (table_of program) class slot))
plain_method program plain own class slot name d = record {
  class = d.found.class;
  inside = d.found.inside;
  above = d.found.above;
  checked = d.found.checked;
  same_types = d.found.same_types;
  plain = method_plain program plain d.id.class d.id.method (method_named program own name)
      (subst (λ c. c < length program.classes) d.class_is d.found.inside) d.there;
  small = d.found.small;
}

pub knows_classes : (program : Source) → IsAccepted program → ProgramIsPlain program → KnowsClasses program
knows_classes program accepted plain = record {
  front = front_fields program;
  through = is_through program;
  found = λ own class slot name above h. plain_method program plain own class slot name
      (dispatched_method program accepted own class slot name
      (own_range program own class above (slot_inside program class slot name h)) above h);
}
