-- What a class has from the classes above it: fields, and methods that calls find.
use Rattle.std.specs.Prelude.{◌≡◌, ◌<◌, ℕ, Bool, true, ◌||◌, nat_eq, List, ◌++◌, map, length, Some}
use Rattle.rpp_tree.specs.declared.tree.Var.{Var}
use Rattle.rpp_tree.specs.Tree.{Procedure, Source}
use Rattle.rpp_tree.specs.Limits.{IsSmallMethod}
use Rattle.class_rules.specs.declared.kind.Kind.{Kind}
use Rattle.class_rules.specs.Classes.{class_fields, inherits, method_named}
use Rattle.class_rules.specs.Overrides.{parameters_of}
use Rattle.class_rules.specs.Scope.{kind_of}
use Rattle.class_rules.specs.Statements.{verdict_passed}
use Rattle.class_rules.specs.Table.{table_of, slot_in, dispatch_in}
use Rattle.class_rules.specs.Program.{check_method, setting_in, IsAccepted}

-- whether a class is the other or inherits from it
abbrev pub is_or_inherits : Source → ℕ → ℕ → Bool
is_or_inherits program class from = nat_eq class from || inherits program class from

-- the kind of a variable, a parameter or a field
abbrev pub kind_of_var : Source → Var → Kind
kind_of_var program var = kind_of (table_of program) var.kind

-- the fields of a class come first in those of a class below it
pub record HasFront (front whole : List Var) : Type 0 where
  pub more : List Var
  pub is : whole ≡ front ++ more

-- the fields of a class come first in those of every class below it
abbrev pub FieldsComeFirst : Type 0
FieldsComeFirst =
    (program : Source) (own class : ℕ) → is_or_inherits program own class ≡ true
    → HasFront (class_fields program class) (class_fields program own)

-- what a class is or inherits from goes through the classes between
abbrev pub InheritanceGoesThrough : Type 0
InheritanceGoesThrough =
    (program : Source) (low middle high : ℕ) → is_or_inherits program low middle ≡ true
    → is_or_inherits program middle high ≡ true
    → is_or_inherits program low high ≡ true

-- the method that a call finds for an object of a class: Its class is this one or one that this one
-- inherits from. Its parameters have the types that the call was checked with.
pub record IsDispatched (program : Source) (own : ℕ) (method : Procedure)
    (params : List Var) : Type 0 where
  pub class : ℕ
  pub inside : class < length program.classes
  pub above : is_or_inherits program own class ≡ true
  pub checked : check_method (setting_in program (table_of program) class) method ≡ verdict_passed
  pub same_types : map (kind_of_var program) method.params ≡ map (kind_of_var program) params
  pub small : IsSmallMethod method

-- a call that is checked with the slot of a class finds a method for each object of a class below
-- it
abbrev pub CallsFindMethods : Type 0
CallsFindMethods =
    (program : Source) → IsAccepted program → (own class slot : ℕ) (name : List ℕ)
    → is_or_inherits program own class ≡ true → slot_in (table_of program) class name ≡ Some slot
    → IsDispatched program own (method_named program own name)
    (parameters_of program (dispatch_in (table_of program) class slot))
