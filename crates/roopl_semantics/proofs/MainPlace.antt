-- The position of `main` in an accepted program, and the rules of the class table one by one.
use Rattle.std.proofs.Common.{◌≡◌, ◌∙◌, sym, ap, subst, refl, ℕ, suc, ◌+◌, ◌<◌, Bool, true, false, List, [], ◌∷◌, ◌++◌}
use Rattle.std.proofs.Common.{length, Some, None, arith, slice_get}
use Rattle.std.specs.Prelude.{if◌then◌else◌}
use Rattle.std.specs.Option.{option_or}
use Rattle.std.proofs.lemmas.Option.{slice_get_within}
use Rattle.inverse_rules.specs.rpp_tree.declared.tree.Var.{Var}
use Rattle.inverse_rules.specs.rpp_tree.Tree.{Procedure, ClassText, Source}
use Rattle.class_rules.specs.declared.method.MethodId.{MethodId}
use Rattle.class_rules.specs.declared.mains.Main.{Main}
use Rattle.class_rules.specs.Rules.{duplicate_class, unknown_class}
use Rattle.class_rules.specs.Chains.{inheritance_cycle}
use Rattle.class_rules.specs.Members.{duplicate_field, too_many_fields, too_many_slots}
use Rattle.class_rules.specs.Overrides.{duplicate_method, differing_override}
use Rattle.class_rules.specs.Mains.{is_main, mains_in, mains_from, mains, main_refusal, first_main}
use Rattle.class_rules.specs.Table.{Table, table_of, HasClassTable, fields_in}
use Rattle.class_rules.specs.Program.{IsAccepted}
use Rattle.class_rules.proofs.Tables.{table_reads}
use Rattle.roopl_semantics.specs.Source.{main_fields}
use Rattle.class_rules.specs.Classes.{main_of}
use Rattle.class_rules.proofs.InheritedSlots.{none_of}

-- ---- the position of `main`

pub record MainIn (methods : List Procedure) (from at : ℕ) : Type 0 where
  pub index : ℕ
  pub number_is : at ≡ from + index
  pub method : Procedure
  pub there : slice_get methods index ≡ Some method
  pub main : is_main method ≡ true

later_method : (x : Procedure) (methods : List Procedure) (from at : ℕ) → MainIn methods (from + 1) at
    → MainIn (x ∷ methods) from at
later_method x methods from at found = record {
  index = suc found.index;
  number_is = found.number_is ∙ (let e : from + 1 + found.index ≡ from + suc found.index = omega arith in e);
  method = found.method;
  there = found.there;
  main = found.main;
}

abbrev MainFound : Main → (class from : ℕ) → List Procedure → Type 0
MainFound m class from methods = (m.runs.class ≡ class) × MainIn methods from m.runs.method

abbrev mains_by : Bool → (class from : ℕ) → Procedure → List Procedure → List Main
mains_by b class from x methods =
    if b then record { runs = record { class = class; method = from }; at = x.name.at }
    ∷ mains_in class (from + 1) methods else mains_in class (from + 1) methods

main_by : (b : Bool) (class from : ℕ) (x : Procedure) (methods : List Procedure) (m : Main) (more : List Main)
    → is_main x ≡ b
    → (mains_in class (from + 1) methods ≡ m ∷ more → MainFound m class (from + 1) methods)
    → mains_by b class from x methods ≡ m ∷ more → MainFound m class from (x ∷ methods)
main_by true class from x methods m more is rest e =
    let same : record { runs = record { class = class; method = from }; at = x.name.at } ≡ m = cc in
    let z : from ≡ from + 0 = omega arith in (
      ap (λ (k : Main). k.runs.class) (sym same),
      record {
        index = 0;
        number_is = ap (λ (k : Main). k.runs.method) (sym same) ∙ z;
        method = x;
        there = refl;
        main = is;
      },
    )
main_by false class from x methods m more is rest e = let found = rest e in
    (found.0, later_method x methods from m.runs.method found.1)

main_in : (class from : ℕ) (methods : List Procedure) (m : Main) (more : List Main)
    → mains_in class from methods ≡ m ∷ more → MainFound m class from methods
main_in class from [] m more h = absurd (cc)
main_in class from (x ∷ methods) m more h = main_by (is_main x) class from x methods m more refl
    (main_in class (from + 1) methods m more) h

pub record MainFrom (classes : List ClassText) (from : ℕ) (id : MethodId) : Type 0 where
  pub index : ℕ
  pub class_is : id.class ≡ from + index
  pub class : ClassText
  pub there : slice_get classes index ≡ Some class
  pub found : MainIn class.methods 0 id.method

from_lists : (xs : List Main) (from : ℕ) (c : ClassText) (classes : List ClassText) (m : Main) (more : List Main)
    → mains_in from 0 c.methods ≡ xs
    → (mains_from (from + 1) classes ≡ m ∷ more → MainFrom classes (from + 1) m.runs)
    → xs ++ mains_from (from + 1) classes ≡ m ∷ more → MainFrom (c ∷ classes) from m.runs
from_lists [] from c classes m more is below e =
    let rest = below e in
    record {
      index = suc rest.index;
      class_is = rest.class_is
          ∙ (let z : from + 1 + rest.index ≡ from + suc rest.index = omega arith in z);
      class = rest.class;
      there = rest.there;
      found = rest.found;
    }
from_lists (x ∷ xs) from c classes m more is below e =
    let same : x ≡ m = cc in
    let first = main_in from 0 c.methods x xs is in
    let z : from ≡ from + 0 = omega arith in
    subst (λ (k : Main). MainFrom (c ∷ classes) from k.runs) same
    (record { index = 0; class_is = first.0 ∙ z; class = c; there = refl; found = first.1 })

main_from : (from : ℕ) (classes : List ClassText) (m : Main) (more : List Main) → mains_from from classes ≡ m ∷ more
    → MainFrom classes from m.runs
main_from from [] m more h = absurd (cc)
main_from from (c ∷ classes) m more h = from_lists (mains_in from 0 c.methods) from c classes m more refl
    (main_from (from + 1) classes m more) h

pub first_of_mains : (end : ℕ) (classes : List ClassText) (xs : List Main) → mains_from 0 classes ≡ xs
    → main_refusal end xs ≡ None → MainFrom classes 0 (first_main xs)
first_of_mains end classes [] is h = absurd (cc)
first_of_mains end classes (m ∷ more) is h = main_from 0 classes m more is

-- ---- the rules of the class table one by one

pub record TableRules (program : Source) : Type 0 where
  pub fields_few : too_many_fields program ≡ None
  pub slots_few : too_many_slots program ≡ None
  pub one_main : main_refusal 0 (mains program) ≡ None

pub table_rules : (program : Source) → HasClassTable program → TableRules program
table_rules program has =
    let a = none_of (duplicate_class program) _ (has.none 0) in
    let b = none_of (unknown_class program) _ a.1 in
    let c = none_of (inheritance_cycle program) _ b.1 in
    let d = none_of (duplicate_field program) _ c.1 in
    let e = none_of (duplicate_method program) _ d.1 in
    let f = none_of (differing_override program) _ e.1 in
    let g = none_of (too_many_fields program) _ f.1 in
    let h = none_of (too_many_slots program) _ g.1 in
    record { fields_few = g.0; slots_few = h.0; one_main = h.1 }

-- the class of `main` is one of the program
pub class_inside : (program : Source) → IsAccepted program → (main_of program).class < length program.classes
class_inside program accepted =
    let place = first_of_mains 0 program.classes (mains program) refl (table_rules program accepted.classes).one_main in
    let h = slice_get_within program.classes place.index place.class place.there in
    let e : 0 + place.index ≡ place.index = omega arith in
    omega (arith, place.class_is)

-- the fields that the readers of the program's table answer
pub fields_read : (program : Source) (table : Table) (main : MethodId) (fields : List Var) → IsAccepted program
    → table ≡ table_of program → main ≡ table.main → fields ≡ fields_in table main.class → fields ≡ main_fields program
fields_read program table main fields accepted is main_is fields_is =
    fields_is
    ∙ ap (λ (id : MethodId). fields_in table id.class) main_is
    ∙ ap (λ (t : Table). fields_in t t.main.class) is
    ∙ (table_reads program (main_of program).class (class_inside program accepted)).fields
