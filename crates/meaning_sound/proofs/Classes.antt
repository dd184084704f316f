-- What holds for the classes of an accepted program.
use Rattle.std.proofs.Common.{◌≡◌, ℕ, ◌<◌, List, map, length, Some}
use Rattle.std.specs.Prelude.{true}
use Rattle.roopl_semantics.specs.rpp_tree.declared.tree.Var.{Var}
use Rattle.roopl_semantics.specs.rpp_tree.Tree.{Procedure, Source}
use Rattle.roopl_semantics.specs.rpp_tree.Limits.{IsSmallMethod}
use Rattle.roopl_semantics.specs.class_rules.Classes.{class_fields, method_named}
use Rattle.roopl_semantics.specs.class_rules.Table.{table_of, slot_in, dispatch_in}
use Rattle.roopl_semantics.specs.class_rules.Overrides.{parameters_of}
use Rattle.roopl_semantics.specs.class_rules.Statements.{verdict_passed}
use Rattle.roopl_semantics.specs.class_rules.Program.{check_method, setting_in}
use Rattle.roopl_semantics.specs.class_rules.Inheritance.{is_or_inherits, kind_of_var, HasFront}
use Rattle.meaning_sound.specs.Plain.{IsPlain}

-- the method that a call finds: it is checked in a class that the object's class is or inherits
-- from, and has the types of parameters that the call was checked with
pub record IsFound (program : Source) (own : ℕ) (method : Procedure) (params : List Var) : Type 0 where
  pub class : ℕ
  pub inside : class < length program.classes
  pub above : is_or_inherits program own class ≡ true
  pub checked : check_method (setting_in program (table_of program) class) method ≡ verdict_passed
  pub same_types : map (kind_of_var program) method.params ≡ map (kind_of_var program) params
  pub plain : IsPlain method.body
  pub small : IsSmallMethod method

pub record KnowsClasses (program : Source) : Type 0 where
  pub front : (own class : ℕ) → is_or_inherits program own class ≡ true
      → HasFront (class_fields program class) (class_fields program own)
  pub through : (a b c : ℕ) → is_or_inherits program a b ≡ true → is_or_inherits program b c ≡ true
      → is_or_inherits program a c ≡ true
  pub found : (own class slot : ℕ) (name : List ℕ) → is_or_inherits program own class ≡ true
      → slot_in (table_of program) class name ≡ Some slot
      → IsFound program own (method_named program own name)
      (parameters_of program (dispatch_in (table_of program) class slot))
