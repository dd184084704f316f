-- The code of calls that the rules of types pass, and of methods, wherever an image of the program
-- is linked.
use Rattle.std.proofs.Common.{◌≡◌, ◌≢◌, ℕ, ◌^◌, ◌<◌, ◌≤◌, Bool, true, false, List, [], ◌∷◌, length, map, Some, None}
use Rattle.std.proofs.Common.{refl, sym, ap, ◌∙◌, subst}
use Rattle.std.proofs.lemmas.List.Elements.{All-head, All-tail}
use Rattle.std.specs.Prelude.{Ok, nat_eq, ◌&&◌, Result, Err, IfOk}
use Rattle.std.specs.List.{All}
use Rattle.std.specs.Option.{unwrap_or}
use Rattle.std.specs.Str.{bytes_eq}
use Rattle.refine_objects.specs.rpp_tree.declared.tree.Ident.{Ident}
use Rattle.refine_objects.specs.rpp_tree.Tree.{Whole, Call, Source}
use Rattle.refine_objects.specs.rpp_tree.Views.{source_of}
use Rattle.branch_codegen.specs.class_rules.declared.kind.Kind.{Kind}
use Rattle.branch_codegen.specs.class_rules.declared.kind.Kind.TheVariants as kind
use Rattle.branch_codegen.specs.class_rules.Refusal.{unknown_name}
use Rattle.branch_codegen.specs.class_rules.Scope.{Typing, Locals, kind_in}
use Rattle.branch_codegen.specs.class_rules.Expressions.{variable_type}
use Rattle.branch_codegen.specs.class_rules.Statements.{verdict_passed, check_statement, call_rules}
use Rattle.branch_codegen.proofs.class_rules_laws.FirstPlaces.{equal_name}
use Rattle.branch_codegen.proofs.class_rules_laws.PassedRules.{some_of}
use Rattle.branch_codegen.specs.paired_code.declared.part.Symbol.{Symbol}
use Rattle.branch_codegen.specs.paired_code.Code.{Code}
use Rattle.branch_codegen.specs.roopl_semantics.Store.{State}
use Rattle.branch_codegen.specs.roopl_semantics.Value.{Cell, Slot, Part, cell_named}
use Rattle.branch_codegen.specs.roopl_semantics.Execution.{same_cell, exec}
use Rattle.branch_codegen.proofs.meaning_sound_laws.Classes.{KnowsClasses}
use Rattle.branch_codegen.proofs.meaning_sound_laws.Stores.{same_number}
use Rattle.branch_codegen.proofs.meaning_sound_laws.Names.{IsMeant, meant}
use Rattle.branch_codegen.proofs.meaning_sound_laws.Calls.{name_in, or_left, NamesApart as NameApart, AllNamesApart}
use Rattle.branch_codegen.proofs.meaning_sound_laws.Calls.{apart_after}
use Rattle.branch_codegen.proofs.meaning_sound_laws.Calls.{all_apart_after, meant_apart}
use Rattle.branch_codegen.proofs.meaning_sound_laws.Keeping.{exec_keeps}
use Rattle.refine_form.specs.declared.spot.Spot.{Spot}
use Rattle.refine_form.specs.Form.{Scope, StmtLaw}
use Rattle.refine_form.specs.Frames.{Under, cell_in}
use Rattle.refine_form.specs.Stands.{shape_of, spot_in, extra, Stands}
use Rattle.refine_form.specs.Worlds.{Place, world_of}
use Rattle.branch_codegen.specs.code_scope.Visible.{Visible, spot_of}
use Rattle.branch_codegen.specs.method_calls.Facts.{IsNear}
use Rattle.branch_codegen.specs.method_calls.Names.{AllTyped, HasMethod, method_slot_of, class_found}
use Rattle.branch_codegen.specs.method_calls.Names.{class_number_named, known_calls_of}
use Rattle.branch_codegen.specs.method_calls.Laws.{NotAmong, AllApart, AreVariables, OwnCallCode, CallOnCode}
use Rattle.branch_codegen.specs.method_calls.Laws.{MethodCode}
use Rattle.branch_codegen.specs.refine_calls.Laws.{IsLinked}
use Rattle.branch_codegen.proofs.refine_calls_laws.Bridge.{reads_of, typed}
use Rattle.branch_codegen.proofs.refine_calls_laws.FactsFit.{known}
use Rattle.branch_codegen.proofs.refine_calls_laws.FactsMoves.{same_means}
use Rattle.branch_codegen.proofs.refine_calls_laws.FramesFit.{means}
use Rattle.branch_codegen.proofs.refine_calls_laws.Stated.{frames_are_open, receivers_are_open}
use Rattle.branch_codegen.specs.refine_expressions.Typing.{known_of as names_of, typing_in}
use Rattle.statement_codegen.specs.Codes.{scope_of}
use Rattle.statement_codegen.specs.Laws.{CallLaw, RoutineLaw}
use Rattle.statement_codegen.proofs.Names.{spot_same}
use Rattle.statement_codegen.proofs.PassedCalls.{PassedCall, passed_call, passed_receiver}

-- the storage slot of a name, in a scope of a program
abbrev pub stands_at : Source → Scope → Ident → Spot
stands_at program s name = spot_of (names_of program s) name.text

-- what the code of a call is made with: the slot of its method in a class, and the storage slots of
-- its arguments
pub record MadeCall (program : Source) (s : Scope) (class : ℕ) (method : Ident) (args : List Ident) (slot : ℕ)
    (spots : List Spot) : Type 0 where
  pub slot_is : method_slot_of program class method ≡ slot
  pub small : slot < 2 ^ 20
  pub few : length args ≤ 32
  pub spots_are : map (stands_at program s) args ≡ spots
  pub near : All IsNear spots

itself : (c : Cell) → same_cell c c ≡ true
itself (Slot i) = same_number i
itself (Part n i) = ap (λ b. b && nat_eq i i) (same_number n) ∙ same_number i

among_first : (x : Ident) → name_in (x ∷ []) x.text ≡ true
among_first x = or_left (bytes_eq x.text x.text) false (equal_name x.text x.text refl)

module _ (program : Source) (s : Scope) where
  -- a method with its arguments
  has_method : (before : List Ident) (class : ℕ) (method : Ident) (args : List Ident) (slot : ℕ) (spots : List Spot)
      → MadeCall program s class method args slot spots → PassedCall program s before class method args
      → HasMethod program s class method args
  has_method before class method args slot spots made p = record {
    slot = p.slot;
    is_slot = p.is_slot;
    small = subst (λ k. k < 2 ^ 20) (sym made.slot_is ∙ ap (λ o. unwrap_or o 0) p.is_slot) made.small;
    types = p.types;
    few = made.few;
    inside = p.inside;
  }

  -- typed names are in their storage slots
  spots_same : (args : List Ident) (ks : List Kind) → AllTyped program s args ks
      → map (spot_in program s) args ≡ map (stands_at program s) args
  spots_same [] [] t = refl
  spots_same [] (k ∷ ks) t = absurd t
  spots_same (x ∷ args) [] t = absurd t
  spots_same (x ∷ args) (k ∷ ks) t =
      ap (λ z. z ∷ map (spot_in program s) args) (spot_same program s x k t.0)
      ∙ ap (λ z. stands_at program s x ∷ z) (spots_same args ks t.1)

module _ (place : Place) (routine : ℕ → Ident → ℕ) (linked : IsLinked place routine) (s : Scope) where
  abbrev program : Source
  program = place.setting.program

  abbrev typing : Typing
  typing = typing_in program s

  abbrev shape : Locals
  shape = shape_of program s

  classes : KnowsClasses program
  classes = known program linked.accepted

  variables_are : (args : List Ident) (ks : List Kind) → AllTyped program s args ks
      → All IsNear (map (stands_at program s) args) → AreVariables (world_of place) (known_calls_of place routine) s
      args
  variables_are [] [] t near = tt
  variables_are [] (k ∷ ks) t near = absurd t
  variables_are (x ∷ args) [] t near = absurd t
  variables_are (x ∷ args) (k ∷ ks) t near = (
    record {
      kind = k;
      typed = t.0;
      near = subst IsNear (sym (spot_same program s x k t.0))
          (All-head IsNear (stands_at program s x) (map (stands_at program s) args) near);
    },
    variables_are args ks t.1 (All-tail IsNear (stands_at program s x) (map (stands_at program s) args) near),
  )

  -- ---- names apart are cells apart

  module _ (u : Under) (st : State) (cells : List ℕ) (h : Stands place.setting place.statics s u [] st cells) where
    meant_is : (x : Ident) (k : Kind) → variable_type typing shape x ≡ Ok k
        → IsMeant place.setting classes (extra u []) shape shape s.class h.keeps.class_inside (same_means shape) st
        x.text (cell_named program st x.text)
    meant_is x k t = meant place.setting classes (extra u []) shape shape s.class h.keeps.class_inside
        (same_means shape) st x.text k (typed place.setting place.statics s u [] st cells (reads_of h))
        (some_of (kind_in typing shape x.text) (unknown_name x.at) k t)

    cells_apart : (x y : Ident) (k l : Kind) → variable_type typing shape x ≡ Ok k → variable_type typing shape y ≡ Ok l
        → bytes_eq x.text y.text ≡ false → cell_in place.setting place.statics s u x ≢ cell_in place.setting
        place.statics s u y
    cells_apart x y k l t t' apart e =
        let d = meant_apart place.setting classes (exec place.setting 0) (exec_keeps place.setting classes 0)
        (extra u []) shape shape s.class h.keeps.class_inside (same_means shape) st x.text y.text
        (cell_named program st x.text) (cell_named program st y.text) (meant_is x k t) (meant_is y l t') apart in
        let mx = means place.setting place.statics s u [] st cells x h.frame in
        let my = means place.setting place.statics s u [] st cells y h.frame in
        let same : cell_named program st x.text ≡ cell_named program st y.text = mx ∙ e ∙ sym my in
        clash (same_cell (cell_named program st x.text) (cell_named program st y.text))
        (ap (same_cell (cell_named program st x.text)) (sym same) ∙ itself (cell_named program st x.text)) d
      where
        clash : (b : Bool) → b ≡ true → b ≡ false → ⊥
        clash true p q = cc
        clash false p q = cc

    not_among : (x : Ident) (k : Kind) → variable_type typing shape x ≡ Ok k → (args : List Ident) (ks : List Kind)
        → AllTyped program s args ks → NameApart x args → NotAmong (cell_in place.setting place.statics s u x)
        (map (cell_in place.setting place.statics s u) args)
    not_among x k t [] [] ts apart = tt
    not_among x k t [] (l ∷ ks) ts apart = absurd ts
    not_among x k t (y ∷ args) [] ts apart = absurd ts
    not_among x k t (y ∷ args) (l ∷ ks) ts apart = (
      cells_apart x y k l t ts.0 apart.0,
      not_among x k t args ks ts.1 apart.1,
    )

    all_apart : (args : List Ident) (ks : List Kind) → AllTyped program s args ks → AllNamesApart args
        → AllApart (map (cell_in place.setting place.statics s u) args)
    all_apart [] [] t apart = tt
    all_apart [] (k ∷ ks) t apart = absurd t
    all_apart (x ∷ args) [] t apart = absurd t
    all_apart (x ∷ args) (k ∷ ks) t apart = (not_among x k t.0 args ks t.1 apart.0, all_apart args ks t.1 apart.1)

  -- ---- calls

  pub own_stands : (at : ℕ) (back : Bool) (method : Ident) (args : List Ident) (slot : ℕ) (spots : List Spot)
      (cells : List Symbol) → MadeCall program s s.class method args slot spots → OwnCallCode back slot spots cells
      → call_rules typing shape at None method args ≡ verdict_passed
      → StmtLaw (world_of place) s (Call at back None method args) cells
  own_stands at back method args slot spots cells made code rules =
      let p = passed_call program s at None method args s.class rules in
      code.law place routine s at method args (frames_are_open place routine linked)
      (has_method program s [] s.class method args slot spots made p)
      made.slot_is
      (variables_are args _ p.types (subst (All IsNear) (sym made.spots_are) made.near))
      (spots_same program s args _ p.types ∙ made.spots_are)
      (λ u st cells h. all_apart u st cells h args _ p.types (all_apart_after [] args p.new))

  pub on_stands : (at : ℕ) (back : Bool) (x method : Ident) (args : List Ident) (slot : ℕ) (spots : List Spot)
      (cells : List Symbol) → IsNear (stands_at program s x)
      → MadeCall program s (class_number_named program s x) method args slot spots
      → CallOnCode back (stands_at program s x) slot spots cells
      → call_rules typing shape at (Some (Whole x)) method args ≡ verdict_passed
      → StmtLaw (world_of place) s (Call at back (Some (Whole x)) method args) cells
  on_stands at back x method args slot spots cells near made code rules =
      let r = passed_receiver program s at x method args rules in
      let k = kind.Class r.class in
      let class_is : class_number_named program s x ≡ r.class = ap class_found r.typed in
      let p = r.call in
      let at_x = spot_same program s x k r.typed in
      let apart = apart_after (x ∷ []) args x p.new (among_first x) in
      code.law place routine s at x method args (frames_are_open place routine linked)
      (receivers_are_open place routine linked)
      (record {
        class = r.class;
        typed = r.typed;
        near = subst IsNear (sym at_x) near;
        method = has_method program s (x ∷ []) r.class method args slot spots
            (subst (λ c. MadeCall program s c method args slot spots) class_is made) p;
      })
      made.slot_is
      (variables_are args _ p.types (subst (All IsNear) (sym made.spots_are) made.near))
      at_x
      (spots_same program s args _ p.types ∙ made.spots_are)
      (λ u st cells h. (
        not_among u st cells h x k r.typed args _ p.types apart,
        all_apart u st cells h args _ p.types (all_apart_after (x ∷ []) args p.new),
      ))

-- ---- what the calls answer

pub own_returns : {E : Type 0} (v : Visible) (back : Bool) (method : Ident) (args : List Ident) (slot : ℕ)
    (spots : List Spot) (r : Result Code E) → MadeCall (source_of v.program) (scope_of v) v.method.class method args
    slot spots → IfOk r (λ p. OwnCallCode back slot spots p.cells)
    → IfOk r (λ p. CallLaw v back None method args p.cells)
own_returns v back method args slot spots (Ok p) made code = record {
  law = λ at rules. record {
    law = λ place routine linked same.
        own_stands place routine linked (scope_of v) at back method args slot spots p.cells
        (subst (λ program. MadeCall program (scope_of v) v.method.class method args slot spots) (sym same) made) code
        (subst (λ program. check_statement (typing_in program (scope_of v)) (shape_of program (scope_of v))
        (Call at back None method args) ≡ verdict_passed) (sym same) rules);
  };
}
own_returns v back method args slot spots (Err none) made code = tt

pub on_returns : {E : Type 0} (v : Visible) (back : Bool) (x method : Ident) (args : List Ident) (spot : Spot)
    (slot : ℕ) (spots : List Spot) (r : Result Code E) → stands_at (source_of v.program) (scope_of v) x ≡ spot
    → IsNear spot → MadeCall (source_of v.program) (scope_of v)
    (class_number_named (source_of v.program) (scope_of v) x)
    method args slot spots → IfOk r (λ p. CallOnCode back spot slot spots p.cells)
    → IfOk r (λ p. CallLaw v back (Some x) method args p.cells)
on_returns v back x method args spot slot spots (Ok p) spot_is near made code = record {
  law = λ at rules. record {
    law = λ place routine linked same.
        let here : stands_at place.setting.program (scope_of v) x ≡ spot =
        ap (λ program. stands_at program (scope_of v) x) same ∙ spot_is in
        on_stands place routine linked (scope_of v) at back x method args slot spots p.cells
        (subst IsNear (sym here) near)
        (subst (λ program. MadeCall program (scope_of v) (class_number_named program (scope_of v) x) method args slot
        spots)
        (sym same) made)
        (subst (λ k. CallOnCode back k slot spots p.cells) (sym here) code)
        (subst (λ program. check_statement (typing_in program (scope_of v)) (shape_of program (scope_of v))
        (Call at back (Some (Whole x)) method args) ≡ verdict_passed) (sym same) rules);
  };
}
on_returns v back x method args spot slot spots (Err none) spot_is near made code = tt

pub method_returns : {E : Type 0} (v : Visible) (p : List Symbol) (r : Result Code E)
    → IfOk r (λ x. MethodCode p x.cells) → IfOk r (λ x. RoutineLaw v p x.cells)
method_returns v p (Ok x) code = record {
  law = λ method block. record {
    law = λ place routine linked same. code.law place routine (scope_of v) method (frames_are_open place routine linked)
        (block.law place routine linked same);
  };
}
method_returns v p (Err none) code = tt
