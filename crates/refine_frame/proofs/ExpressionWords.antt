-- What operators do with values is what they do with the values' words.
use Rattle.std.proofs.Common.{◌≡◌, sym, ap, subst, refl, ℕ, ◌<◌, Bool, true, false, length}
use Rattle.std.specs.Prelude.{Result, Ok, Err, if◌then◌else◌}
use Rattle.meaning_sound.specs.rpp_tree.Tree.{Expression, Number, Null, Variable, Element, Binary, Source}
use Rattle.meaning_sound.specs.class_rules.declared.kind.Kind.{Kind}
use Rattle.meaning_sound.specs.class_rules.declared.kind.Kind.TheVariants as kind
use Rattle.meaning_sound.specs.class_rules.Table.{Table, table_of}
use Rattle.meaning_sound.specs.class_rules.Refusal.{type_differs, refused_operator}
use Rattle.meaning_sound.specs.class_rules.Scope.{Typing, Locals}
use Rattle.meaning_sound.specs.class_rules.Expressions.{is_int, compares, is_refused, operands_fit, type_of}
use Rattle.meaning_sound.specs.class_rules.Program.{setting_in}
use Rattle.meaning_sound.specs.roopl_semantics.Store.{Value, Nil, State, main_name}
use Rattle.meaning_sound.specs.roopl_semantics.Value.{Cell, cell_named, read, read_cell, element_of, value}
use Rattle.meaning_sound.specs.roopl_semantics.Layout.{word_of_value}
use Rattle.meaning_sound.specs.Sound.{held, Typed}
use Rattle.refine_frame.specs.Open.{Setup, setup_base}
use Rattle.meaning_sound.specs.Kept.{MeansSame}
use Rattle.meaning_sound.proofs.Classes.{KnowsClasses}
use Rattle.meaning_sound.proofs.Objects.{clash}
use Rattle.meaning_sound.proofs.class_rules_laws.PassedRules.{handed_on}
use Rattle.meaning_sound.proofs.Values.{CellIs, variable_fits, item_fits}
use Rattle.refine_frame.proofs.Tells.{IsRef, reference_cell}

-- operands that can be compared are both ints, or both none
pub both_or_none : (table : Table) (a b : Kind) → compares table a b ≡ true → is_int a ≡ is_int b
both_or_none table kind.Int b h = sym h
both_or_none table kind.Nil kind.Int h = absurd (cc)
both_or_none table kind.Nil kind.Nil h = refl
both_or_none table kind.Nil (kind.Class c) h = refl
both_or_none table kind.Nil kind.IntArray h = refl
both_or_none table kind.Nil (kind.ClassArray c) h = refl
both_or_none table (kind.Class a) kind.Int h = absurd (cc)
both_or_none table (kind.Class a) kind.Nil h = refl
both_or_none table (kind.Class a) (kind.Class c) h = refl
both_or_none table (kind.Class a) kind.IntArray h = refl
both_or_none table (kind.Class a) (kind.ClassArray c) h = refl
both_or_none table kind.IntArray kind.Int h = absurd (cc)
both_or_none table kind.IntArray kind.Nil h = refl
both_or_none table kind.IntArray (kind.Class c) h = refl
both_or_none table kind.IntArray kind.IntArray h = refl
both_or_none table kind.IntArray (kind.ClassArray c) h = refl
both_or_none table (kind.ClassArray a) kind.Int h = absurd (cc)
both_or_none table (kind.ClassArray a) kind.Nil h = refl
both_or_none table (kind.ClassArray a) (kind.Class c) h = refl
both_or_none table (kind.ClassArray a) kind.IntArray h = refl
both_or_none table (kind.ClassArray a) (kind.ClassArray c) h = refl

module _ (u : Setup) (classes : KnowsClasses u.setting.program) (extra : ℕ → ℕ) (locals shape : Locals) (class : ℕ)
    (inside : class < length u.setting.program.classes) (means : MeansSame locals shape) (st : State)
    (s : Typed u.setting extra shape class st) (unheld : held main_name st ≡ 0) where
  abbrev program : Source
  program = u.setting.program

  abbrev typing : Typing
  typing = setting_in program (table_of program) class

  abbrev word : Value → ℕ
  word v = word_of_value (setup_base u) s.placed.at.blocks v

  abbrev Ref : Value → Type 0
  Ref v = IsRef u extra shape class st s unheld v

  -- a value that is no int is nil or a reference that can be recognized
  pub value_refers : (e : Expression) (k : Kind) (v : Value) → type_of typing locals e ≡ Ok k → is_int k ≡ false
      → value program st e ≡ Ok v → Ref v
  value_refers (Number at w) k v h no_int q = let e : kind.Int ≡ k = cc in
      absurd (clash (is_int k) (ap is_int (sym e)) no_int)
  value_refers (Null at) k v h no_int q = let e : Nil ≡ v = cc in subst (λ z. Ref z) e tt
  value_refers (Variable name) k v h no_int q =
      let e : read st (cell_named program st name.text) ≡ v = cc in
      subst (λ z. Ref z) e (reference_cell u extra shape class st s unheld (cell_named program st name.text) k
      (variable_fits u.setting classes extra locals shape class inside means st name k s h) no_int)
  value_refers (Element name index) k v h no_int q = by (element_of program st name.text (value program st index))
      (item_fits u.setting classes extra locals shape class inside means st name index k s h) q
    where
      by : (r : Result Cell ℕ) → CellIs program shape st.store k r → read_cell st r ≡ Ok v → Ref v
      by (Err fault) f e = absurd (cc)
      by (Ok cell) f e = let same : read st cell ≡ v = cc in
          subst (λ z. Ref z) same (reference_cell u extra shape class st s unheld cell k f no_int)
  value_refers (Binary at operator left right) k v h no_int q =
      let l = handed_on (type_of typing locals left) _ k h in
      let r = handed_on (type_of typing locals right) _ k l.goes in
      absurd (by (is_refused operator) (operands_fit typing.table operator l.value r.value) r.goes)
    where
      by : (refused fit : Bool) → (if refused then Err (refused_operator at) else
          (if fit then Ok kind.Int else Err (type_differs at))) ≡ Ok k → ⊥
      by true fit z = cc
      by false true z = let e : kind.Int ≡ k = cc in clash (is_int k) (ap is_int (sym e)) no_int
      by false false z = cc
