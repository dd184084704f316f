-- What a name means in a scope: its type, its class, and its storage slot.
use Rattle.std.proofs.Common.{◌≡◌, ℕ, ◌+◌, ◌<◌, ◌≤◌, Bool, true, false, List, [], ◌∷◌, length, map, Option, Some, None}
use Rattle.std.proofs.Common.{refl, sym, ap, ◌∙◌, arith}
use Rattle.std.specs.Prelude.{Ok, nat_lt, position, slice_get, if◌then◌else◌}
use Rattle.std.specs.Option.{unwrap_or, option_map, option_or, ok_or}
use Rattle.std.specs.Str.{bytes_eq}
use Rattle.std.proofs.lemmas.Bool.{ltb-true, ltb-false}
use Rattle.std.proofs.lemmas.List.{length-map}
use Rattle.std.proofs.lemmas.List.Quantifiers.{position-Some}
use Rattle.std.proofs.lemmas.Option.{slice_get_past}
use Rattle.branch_codegen.specs.code_conventions.declared.memory.TheConstants.{MOST_VARIABLES}
use Rattle.refine_objects.specs.rpp_tree.declared.tree.Ident.{Ident}
use Rattle.refine_objects.specs.rpp_tree.declared.tree.Var.{Var}
use Rattle.refine_objects.specs.rpp_tree.declared.tree.VarType.{VarType}
use Rattle.refine_objects.specs.rpp_tree.Tree.{Source}
use Rattle.branch_codegen.specs.class_rules.declared.kind.Kind.{Kind}
use Rattle.branch_codegen.specs.class_rules.Members.{field_name, field_of}
use Rattle.branch_codegen.specs.class_rules.Classes.{class_fields}
use Rattle.branch_codegen.specs.class_rules.Table.{Table, table_of, fields_in, field_in}
use Rattle.branch_codegen.specs.class_rules.Refusal.{unknown_name}
use Rattle.branch_codegen.specs.class_rules.Scope.{Typing, Locals, kind_of, class_kind, array_kind, local_kind, kind_at, field_kind}
use Rattle.branch_codegen.specs.class_rules.Scope.{kind_in, no_var}
use Rattle.branch_codegen.specs.class_rules.Inheritance.{kind_of_var}
use Rattle.branch_codegen.specs.class_rules.Expressions.{variable_type}
use Rattle.branch_codegen.proofs.class_rules_laws.Numbers.{length-each_below}
use Rattle.branch_codegen.proofs.class_rules_laws.PassedRules.{some_of}
use Rattle.branch_codegen.proofs.class_rules_laws.Tables.{table_reads}
use Rattle.branch_codegen.proofs.meaning_sound_laws.Names.{type_at, local_kind_is}
use Rattle.refine_form.specs.declared.spot.Spot.{Spot}
use Rattle.refine_form.specs.declared.spot.Spot.TheVariants.{Field, Frame}
use Rattle.refine_form.specs.Form.{Scope}
use Rattle.refine_form.specs.Stands.{local_of, shape_of, spot_at, spot_in}
use Rattle.branch_codegen.specs.code_scope.Visible.{Known, word_named, type_named, field_type, kind_named, spot_of}
use Rattle.branch_codegen.specs.method_calls.Facts.{IsNear}
use Rattle.branch_codegen.specs.method_calls.Names.{class_of_kind, class_found, class_number_named}
use Rattle.branch_codegen.proofs.refine_calls_laws.Bridge.{shape_names}
use Rattle.branch_codegen.specs.refine_expressions.Typing.{known_of, typing_in}
use Rattle.branch_codegen.proofs.refine_expressions_laws.Names.{var_name, word_at, word_is}

-- ---- classes of types

pub class_or_first : (o : Option ℕ) → class_of_kind (class_kind o) ≡ unwrap_or o 0
class_or_first None = refl
class_or_first (Some class) = refl

pub array_first : (o : Option ℕ) → class_of_kind (array_kind o) ≡ 0
array_first None = refl
array_first (Some class) = refl

-- ---- near spots

-- a word of a frame of few variables
word_near : (name : List ℕ) (vars : List Var) → length vars ≤ MOST_VARIABLES → (field : Option Spot)
    → IsNear (unwrap_or field (Field 0)) → IsNear (unwrap_or (option_or (option_map Frame (word_named name vars)) field)
    (Field 0))
word_near name [] few field near = near
word_near name (var ∷ vars) few field near = by (bytes_eq var.name.text name)
    (word_near name vars (omega arith) field near)
  where
    by : (b : Bool) → IsNear (unwrap_or (option_or (option_map Frame (word_named name vars)) field) (Field 0))
        → IsNear (unwrap_or (option_or (option_map Frame (if b then Some (16 + length vars) else word_named name vars))
        field) (Field 0))
    by true rest = let q : 16 + length vars < 65536 = omega (arith, few) in q
    by false rest = rest

-- names are near, if there are few
pub spot_near : (known : Known) (name : List ℕ) → length known.variables ≤ MOST_VARIABLES → length known.fields ≤ 64
    → IsNear (spot_of known name)
spot_near known name few few_fields = word_near name known.variables few (option_map Field (field_of known.fields name))
    (by (field_of known.fields name) refl)
  where
    by : (r : Option ℕ) → field_of known.fields name ≡ r → IsNear (unwrap_or (option_map Field r) (Field 0))
    by None e = let q : 0 < 65536 = omega arith in q
    by (Some i) e =
        let low = (position-Some (bytes_eq name) (map field_name known.fields) i [] e).0 in
        let q : i < 65536 = omega (arith, low, few_fields, length-map known.fields field_name) in q

module _ (program : Source) (s : Scope) where
  abbrev table : Table
  table = table_of program

  abbrev typing : Typing
  typing = typing_in program s

  abbrev shape : Locals
  shape = shape_of program s

  abbrev known : Known
  known = known_of program s

  -- ---- types

  local_same : (vars : List Var) (name : List ℕ) → local_kind (map (local_of program) vars) name
      ≡ option_map (kind_of table) (type_named name vars)
  local_same [] name = refl
  local_same (var ∷ vars) name = by (bytes_eq var.name.text name) (local_same vars name)
    where
      by : (b : Bool) → local_kind (map (local_of program) vars) name
          ≡ option_map (kind_of table) (type_named name vars)
          → (if b then Some (kind_of_var program var) else local_kind (map (local_of program) vars) name)
          ≡ option_map (kind_of table) (if b then Some var.kind else type_named name vars)
      by true rest = refl
      by false rest = rest

  of_either : (a b : Option VarType) → option_or (option_map (kind_of table) a) (option_map (kind_of table) b)
      ≡ option_map (kind_of table) (option_or a b)
  of_either None b = refl
  of_either (Some k) b = refl

  of_field : (r : Option ℕ) → option_map (kind_at table s.class) r
      ≡ option_map (kind_of table) (option_map (λ number. (unwrap_or (slice_get (fields_in table s.class) number)
      no_var).kind) r)
  of_field None = refl
  of_field (Some i) = refl

  pub kind_is : (name : List ℕ) → kind_in typing shape name ≡ option_map (kind_of table) (kind_named known name)
  kind_is name =
      ap (λ z. option_or z (field_kind table s.class name)) (local_same s.vars name)
      ∙ ap (option_or (option_map (kind_of table) (type_named name s.vars))) (of_field (field_in table s.class name))
      ∙ of_either (type_named name s.vars) (field_type known.fields name)

  -- the class of a variable, by its type
  abbrev pub class_by : Option VarType → ℕ
  class_by None = 0
  class_by (Some k) = class_of_kind (kind_of table k)

  pub class_is : (x : Ident) → class_number_named program s x ≡ class_by (kind_named known x.text)
  class_is x = ap (λ o. class_found (ok_or o (unknown_name x.at))) (kind_is x.text) ∙ by (kind_named known x.text)
    where
      by : (r : Option VarType) → class_found (ok_or (option_map (kind_of table) r) (unknown_name x.at)) ≡ class_by r
      by None = refl
      by (Some k) = refl

  pub class_none : (x : Ident) → None ≡ kind_named known x.text → 0 ≡ class_number_named program s x
  class_none x e = sym (class_is x ∙ ap class_by (sym e))

  pub class_some : (x : Ident) (k : VarType) (n : ℕ) → Some k ≡ kind_named known x.text
      → n ≡ class_of_kind (kind_of table k) → n ≡ class_number_named program s x
  class_some x k n e is = is ∙ sym (class_is x ∙ ap class_by (sym e))

  -- ---- spots

  -- a class with a field is one of the program's
  field_inside : (name : List ℕ) (i : ℕ) → field_in table s.class name ≡ Some i → s.class < length program.classes
  field_inside name i h = by (nat_lt s.class (length program.classes)) refl
    where
      by : (b : Bool) → nat_lt s.class (length program.classes) ≡ b → s.class < length program.classes
      by true e = ltb-true s.class (length program.classes) e
      by false e =
          let past = ltb-false s.class (length program.classes) e in
          let many = length-each_below (class_fields program) (length program.classes) in
          let none : fields_in table s.class ≡ [] = ap (λ z. unwrap_or z [])
          (slice_get_past table.fields s.class (omega arith)) in
          let nowhere : field_in table s.class name ≡ position (bytes_eq name) [] =
          ap (λ (vars : List Var). position (bytes_eq name) (map field_name vars)) none in
          absurd (cc)

  -- the storage slot of a name, by its word and its field
  abbrev spot_by : Option ℕ → Option ℕ → Spot
  spot_by word field = unwrap_or (option_or (option_map Frame word) (option_map Field field)) (Field 0)

  -- a name with a type is in its storage slot
  pub spot_same : (name : Ident) (k : Kind) → variable_type typing shape name ≡ Ok k
      → spot_in program s name ≡ spot_of known name.text
  spot_same name k t = by (position (bytes_eq name.text) (map var_name s.vars)) refl
    where
      word_here : (r : Option ℕ) → position (bytes_eq name.text) (map var_name s.vars) ≡ r
          → word_named name.text s.vars ≡ option_map (word_at (length s.vars)) r
      word_here r e = word_is name.text s.vars ∙ ap (option_map (word_at (length s.vars))) e

      fields : position (bytes_eq name.text) (map var_name s.vars) ≡ None → (r : Option ℕ)
          → field_in table s.class name.text ≡ r → Field (unwrap_or (field_of (class_fields program s.class) name.text)
          0) ≡ spot_by None r
      fields e (Some i) is =
          let same : fields_in table s.class ≡ class_fields program s.class =
          (table_reads program s.class (field_inside name.text i is)).fields in
          let at : field_of (class_fields program s.class) name.text ≡ Some i =
          ap (λ (vars : List Var). position (bytes_eq name.text) (map field_name vars)) (sym same) ∙ is in
          ap (λ r. Field (unwrap_or r 0)) at
      fields e None is = absurd (let q = some_of (kind_in typing shape name.text) (unknown_name name.at) k t in
          let z = nothing in cc)
        where
          no_local : local_kind shape name.text ≡ None
          no_local = local_kind_is shape name.text ∙ ap (type_at shape)
              (ap (position (bytes_eq name.text)) (shape_names program s.vars) ∙ e)

          nothing : kind_in typing shape name.text ≡ None
          nothing = ap (λ z. option_or z (field_kind table s.class name.text)) no_local
              ∙ ap (option_map (kind_at table s.class)) is

      by : (r : Option ℕ) → position (bytes_eq name.text) (map var_name s.vars) ≡ r
          → spot_at program s name r ≡ spot_of known name.text
      by (Some i) e = sym (ap (λ w. spot_by w (field_in table s.class name.text)) (word_here (Some i) e))
      by None e = fields e (field_in table s.class name.text) refl
          ∙ sym (ap (λ w. spot_by w (field_in table s.class name.text)) (word_here None e))
