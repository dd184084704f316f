-- Two arrays that an expression reads are one exactly if their words are the same.
use Rattle.std.proofs.Common.{◌≡◌, ℕ, ◌≤◌, false, List, [], length, Some, refl, sym, ap, ◌∙◌, arith}
use Rattle.std.specs.Prelude.{nat_eq, Ok}
use Rattle.refine_calls.specs.rpp_tree.declared.tree.Ident.{Ident}
use Rattle.refine_calls.specs.rpp_tree.Tree.{Expression, Number, Null, Variable, Element, Binary, Lvalue, Whole, Item}
use Rattle.refine_calls.specs.class_rules.declared.kind.Kind.{Kind}
use Rattle.refine_calls.specs.class_rules.declared.kind.Kind.TheVariants as kind
use Rattle.refine_calls.specs.class_rules.Expressions.{is_int, element_kind, variable_type, type_of, place_type}
use Rattle.refine_calls.specs.roopl_semantics.Store.{Value, Word, Nil, Name, State, same_value}
use Rattle.refine_calls.specs.roopl_semantics.Value.{cell_named, variable_value}
use Rattle.refine_calls.specs.roopl_semantics.Execution.{Setting}
use Rattle.refine_calls.proofs.meaning_sound_laws.Classes.{KnowsClasses}
use Rattle.refine_calls.proofs.meaning_sound_laws.Stores.{other_number}
use Rattle.expr_uncompute.proofs.refine_frame_laws.Tells.{IsRef, name_word, words_tell, reference_cell}
use Rattle.refine_calls.specs.refine_form.Form.{Scope}
use Rattle.refine_calls.specs.refine_form.Frames.{Under, value_word}
use Rattle.refine_calls.specs.refine_form.Stands.{shape_of, extra, setup, Reads}
use Rattle.expr_uncompute.specs.register_expressions.Number.{index_of}
use Rattle.expr_uncompute.specs.Means.{shown, TellsArrays, TellsShares}
use Rattle.refine_expressions.specs.Typing.{visible_spot}
use Rattle.refine_expressions.proofs.WordsRead.{named_has}
use Rattle.refine_expressions.proofs.ExpressionsRead.{A, L, B, T, t0, shown_ref, element_parts, binary_parts}
use Rattle.refine_calls.specs.pisa_isa.declared.image.TheConstants.{MOST_STATICS}

no_int : (array k : Kind) → element_kind array ≡ Some k → is_int array ≡ false
no_int kind.Int k e = absurd (cc)
no_int kind.Nil k e = refl
no_int (kind.Class c) k e = refl
no_int kind.IntArray k e = refl
no_int (kind.ClassArray c) k e = refl

module _ (setting : Setting) (statics : List ℕ) (few : length statics ≤ MOST_STATICS)
    (classes : KnowsClasses setting.program)
    (s : Scope) (u : Under) (st : State) (cells : List ℕ) (h : Reads setting statics s u [] st cells) where
  abbrev Ref : Value → Type 0
  Ref v = IsRef (setup setting statics) (extra u []) (shape_of setting.program s) s.class st
      (t0 setting statics few classes s u st cells h) h.keeps.main_unheld v

  same_told : (v w : Value) → Ref v → Ref w → same_value v w
      ≡ nat_eq (value_word setting statics h.keeps.placed.at v) (value_word setting statics h.keeps.placed.at w)
  same_told (Word a) w p q = absurd p
  same_told Nil (Word b) p q = absurd q
  same_told (Name n) (Word b) p q = absurd q
  same_told Nil Nil p q = refl
  same_told Nil (Name m) p q = sym (other_number 0 (value_word setting statics h.keeps.placed.at (Name m))
      (λ e. let a = (name_word (setup setting statics) (extra u []) (shape_of setting.program s) s.class st
      (t0 setting statics few classes s u st cells h) h.keeps.main_unheld m q).0 in omega (arith, a, e)))
  same_told (Name n) Nil p q = sym (other_number (value_word setting statics h.keeps.placed.at (Name n)) 0
      (λ e. let a = (name_word (setup setting statics) (extra u []) (shape_of setting.program s) s.class st
      (t0 setting statics few classes s u st cells h) h.keeps.main_unheld n p).0 in omega (arith, a, e)))
  same_told (Name n) (Name m) p q = sym (words_tell (setup setting statics) (extra u []) (shape_of setting.program s)
      s.class st (t0 setting statics few classes s u st cells h) h.keeps.main_unheld (Name n) (Name m) p q)

  same_shown : (v w : Value) → Ref v → Ref w → same_value v w
      ≡ nat_eq (shown (A setting statics few classes s u st cells h) (L setting statics few classes s u st cells h) v)
      (shown (A setting statics few classes s u st cells h) (L setting statics few classes s u st cells h) w)
  same_shown v w p q =
      same_told v w p q
      ∙ ap (λ x. nat_eq x (value_word setting statics h.keeps.placed.at w))
      (shown_ref setting statics few classes s u st cells h v p)
      ∙ ap (nat_eq (shown (A setting statics few classes s u st cells h) (L setting statics few classes s u st cells h)
      v)) (shown_ref setting statics few classes s u st cells h w q)

  array_ref : (name : Ident) (array k : Kind) → variable_type (T setting statics few classes s u st cells h)
      (shape_of setting.program s) name ≡ Ok array → element_kind array ≡ Some k
      → Ref (variable_value setting.program st name.text)
  array_ref name array k t e = reference_cell (setup setting statics) (extra u []) (shape_of setting.program s) s.class
      st (t0 setting statics few classes s u st cells h) h.keeps.main_unheld (cell_named setting.program st name.text)
      array (named_has setting statics classes s u st cells h name array t) (no_int array k e)

  tells_arrays : (v : Value) → Ref v → (e : Expression) (k : Kind)
      → type_of (T setting statics few classes s u st cells h) (shape_of setting.program s) e ≡ Ok k
      → TellsArrays (A setting statics few classes s u st cells h) (L setting statics few classes s u st cells h)
      setting.program st (visible_spot setting.program s) (B setting statics few classes s u st cells h) cells v e
  tells_arrays v r (Number at word) k t = tt
  tells_arrays v r (Null at) k t = tt
  tells_arrays v r (Variable name) k t = tt
  tells_arrays v r (Element name index) k t =
      let p = element_parts setting statics few classes s u st cells h name index k t in (
        same_shown v (variable_value setting.program st name.text) r (array_ref name p.array k p.array_is p.element_is),
        tells_arrays v r index kind.Int p.index_is,
      )
  tells_arrays v r (Binary at op left right) k t =
      let p = binary_parts setting statics few classes s u st cells h at op left right k t in
      (tells_arrays v r left p.first p.first_is, tells_arrays v r right p.second p.second_is)

  -- an expression of some type
  abbrev pub HasKind : Expression → Type 0
  HasKind e = (k : Kind) × (type_of (T setting statics few classes s u st cells h) (shape_of setting.program s) e
      ≡ Ok k)

  -- the index of a place, nil if it is no element
  pub index_typed : (target : Lvalue) (k : Kind) → place_type (T setting statics few classes s u st cells h)
      (shape_of setting.program s) target ≡ Ok k → HasKind (index_of target)
  index_typed (Whole name) k t = (kind.Nil, refl)
  index_typed (Item name index) k t = (
    kind.Int,
    (element_parts setting statics few classes s u st cells h name index k
        t).index_is,
  )

  pub tells_shares : (target : Lvalue) (k : Kind) (e e' : Expression)
      → place_type (T setting statics few classes s u st cells h) (shape_of setting.program s) target ≡ Ok k → HasKind e
      → HasKind e'
      → TellsShares (A setting statics few classes s u st cells h) (L setting statics few classes s u st cells h)
      setting.program st (visible_spot setting.program s) (B setting statics few classes s u st cells h) cells target e
      e'
  tells_shares (Whole name) k e e' t t1 t2 = tt
  tells_shares (Item name index) k e e' t t1 t2 =
      let p = element_parts setting statics few classes s u st cells h name index k t in
      let r = array_ref name p.array k p.array_is p.element_is in (
        tells_arrays (variable_value setting.program st name.text) r e t1.0 t1.1,
        tells_arrays (variable_value setting.program st name.text) r e' t2.0 t2.1,
      )
