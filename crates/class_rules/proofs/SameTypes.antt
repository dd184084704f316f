-- Types that are written alike are known alike.
use Rattle.std.proofs.Common.{◌≡◌, ◌∙◌, sym, ap, refl, true}
use Rattle.std.specs.Prelude.{is_some}
use Rattle.rpp_tree.specs.declared.tree.Ident.{Ident}
use Rattle.rpp_tree.specs.declared.tree.VarType.{VarType}
use Rattle.rpp_tree.specs.declared.tree.VarType.TheVariants as type
use Rattle.class_rules.specs.Overrides.{is_type_int, same_type}
use Rattle.class_rules.specs.Table.{Table, class_of}
use Rattle.class_rules.specs.Scope.{kind_of, class_kind, array_kind}
use Rattle.class_rules.specs.Statements.{verdict_passed, class_known, type_known}
use Rattle.class_rules.proofs.FirstPlaces.{same_name, bytes_turned}
use Rattle.class_rules.proofs.PassedRules.{held, required_passes}

pub record TypesSame (table : Table) (a b : VarType) : Type 0 where
  pub kinds : kind_of table b ≡ kind_of table a
  pub turned : same_type b a ≡ true
  pub known : type_known table a ≡ verdict_passed → type_known table b ≡ verdict_passed
  pub ints : is_type_int b ≡ is_type_int a

class_known_as : (table : Table) (a b : Ident) → a.text ≡ b.text → class_known table a ≡ verdict_passed
    → class_known table b ≡ verdict_passed
class_known_as table a b e h = required_passes _ _ (ap (λ n. is_some (class_of table n)) (sym e) ∙ held _ _ h)

pub types_same : (table : Table) (a b : VarType) → same_type a b ≡ true → TypesSame table a b
types_same table type.Int type.Int h = record { kinds = refl; turned = refl; known = λ k. k; ints = refl }
types_same table type.Int (type.Class y) h = absurd (cc)
types_same table type.Int type.IntArray h = absurd (cc)
types_same table type.Int (type.ClassArray y) h = absurd (cc)
types_same table (type.Class x) type.Int h = absurd (cc)
types_same table (type.Class x) (type.Class y) h =
    let e = same_name x.text y.text h in
    record {
      kinds = ap (λ n. class_kind (class_of table n)) (sym e);
      turned = bytes_turned y.text x.text
          ∙ h;
      known = class_known_as table x y e;
      ints = refl;
    }
types_same table (type.Class x) type.IntArray h = absurd (cc)
types_same table (type.Class x) (type.ClassArray y) h = absurd (cc)
types_same table type.IntArray type.Int h = absurd (cc)
types_same table type.IntArray (type.Class y) h = absurd (cc)
types_same table type.IntArray type.IntArray h = record { kinds = refl; turned = refl; known = λ k. k; ints = refl }
types_same table type.IntArray (type.ClassArray y) h = absurd (cc)
types_same table (type.ClassArray x) type.Int h = absurd (cc)
types_same table (type.ClassArray x) (type.Class y) h = absurd (cc)
types_same table (type.ClassArray x) type.IntArray h = absurd (cc)
types_same table (type.ClassArray x) (type.ClassArray y) h =
    let e = same_name x.text y.text h in
    record {
      kinds = ap (λ n. array_kind (class_of table n)) (sym e);
      turned = bytes_turned y.text x.text
          ∙ h;
      known = class_known_as table x y e;
      ints = refl;
    }
