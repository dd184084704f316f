-- The laws of the calls, from those of their parts.
use Rattle.std.proofs.Common.{◌≡◌, ℕ, ◌+◌, ◌<◌, ◌≤◌, ◌⊎◌, inl, inr, List, length, refl, sym, ap, ◌∙◌, subst, arith}
use Rattle.std.specs.Prelude.{Result, Ok, Err, IfOk}
use Rattle.branch_codegen.specs.code_conventions.declared.memory.TheConstants.{MOST_VARIABLES}
use Rattle.refine_objects.specs.rpp_tree.declared.tree.Var.{Var}
use Rattle.refine_objects.specs.rpp_tree.Tree.{Expression, Number, Null, Variable, Element, Binary, Source}
use Rattle.branch_codegen.specs.class_rules.declared.kind.Kind.TheVariants as kind
use Rattle.branch_codegen.specs.paired_code.declared.part.Symbol.{Symbol}
use Rattle.branch_codegen.specs.paired_code.Code.{Code}
use Rattle.branch_codegen.specs.code_scope.Visible.{Known, spot_of, free_words_of}
use Rattle.branch_codegen.specs.register_expressions.Code.{words}
use Rattle.branch_codegen.specs.expr_uncompute.Promises as code
use Rattle.refine_form.specs.Form.{Scope, ValueLaw}
use Rattle.refine_form.specs.Worlds.{Place, world_of}
use Rattle.branch_codegen.specs.method_calls.Names.{IntInit, IsNull, NilInit, IsInit}
use Rattle.branch_codegen.specs.method_calls.Laws.{LocalCode}
use Rattle.branch_codegen.proofs.refine_calls_laws.Stated.{locals_are_open}
use Rattle.branch_codegen.specs.code_conventions.declared.registers.TheConstants.{VALUE}
use Rattle.branch_codegen.specs.refine_expressions.Typing.{known_of, visible_spot, free_in_scope, HasFrameSpace}
use Rattle.branch_codegen.specs.refine_expressions.Typing.{IsTyped}
use Rattle.branch_codegen.specs.refine_expressions.Laws.{IsLaidOut}
use Rattle.branch_codegen.proofs.refine_expressions_laws.Stated.{values_are_told}
use Rattle.statement_codegen.specs.Laws.{LocalLaw}

-- the code of a value that may be that of a new variable
value_in : (known : Known) (e : Expression) (p : List Symbol)
    → code.ExpressionLaw (spot_of known) (free_words_of known) VALUE e p
    → (place : Place) → IsLaidOut place → (s : Scope) → known_of place.setting.program s ≡ known → (var : Var)
    → IsInit place.setting.program s var e → HasFrameSpace place.setting.program s (words e)
    → ValueLaw (world_of place) s e p
value_in known e p law place laid s names var init room = by init.value
  where
    P : Source
    P = place.setting.program

    law_in : code.ExpressionLaw (visible_spot P s) (free_in_scope P s) VALUE e p
    law_in = subst (λ (k : Known). code.ExpressionLaw (spot_of k) (free_words_of k) VALUE e p) (sym names) law

    nil : (e : Expression) → IsNull e → HasFrameSpace P s (words e) → IsTyped P s e kind.Nil
    nil (Number at word) h room = absurd h
    nil (Null at) h room = record { typed = refl; has_words = tt; room = room }
    nil (Variable name) h room = absurd h
    nil (Element name index) h room = absurd h
    nil (Binary at op left right) h room = absurd h

    by : IntInit P s var e ⊎ NilInit P var e → ValueLaw (world_of place) s e p
    by (inl i) = values_are_told place laid s e kind.Int (record
        { typed = i.typed; has_words = i.has_words; room = room }) p law_in
    by (inr n) = values_are_told place laid s e kind.Nil (nil e n.null room) p law_in

-- the code of nil
nil_in : (known : Known) (e : Expression) (p : List Symbol)
    → code.ExpressionLaw (spot_of known) (free_words_of known) VALUE e p
    → (place : Place) → IsLaidOut place → (s : Scope) → known_of place.setting.program s ≡ known → (at : ℕ)
    → e ≡ Null at → length s.vars < MOST_VARIABLES → ValueLaw (world_of place) s (Null at) p
nil_in known e p law place laid s names at is few =
    values_are_told place laid s (Null at) kind.Nil
    (record { typed = refl; has_words = tt; room = (let r : 16 + length s.vars + 0 ≤ 512 = omega (arith, few) in r) }) p
    (subst (λ (k : Known). code.ExpressionLaw (spot_of k) (free_words_of k) VALUE (Null at) p) (sym names)
    (subst (λ (x : Expression). code.ExpressionLaw (spot_of known) (free_words_of known) VALUE x p) is law))

pub local_clause : (known : Known) (var : Var) (value last : Expression) (word : ℕ) (v p x all : List Symbol)
    → word ≡ free_words_of known → code.ExpressionLaw (spot_of known) (free_words_of known) VALUE value v
    → code.ExpressionLaw (spot_of known) (free_words_of known) VALUE last x → LocalCode word v p x all
    → LocalLaw known var value last p all
local_clause known var value last word v p x all is hv hx made = record {
  law = λ place laid s names at body end_var same iv il rv rl hp.
      made.law place s at var value body end_var last (locals_are_open place laid.accepted laid.few)
      (ap free_words_of names ∙ sym is) same iv il
      (value_in known value v hv place laid s names var iv rv) (value_in known last x hx place laid s names var il rl)
      hp;
  construct = λ place laid s names at class body end first_nil last_nil init hp.
      made.construct place s at class var body end (locals_are_open place laid.accepted laid.few)
      (ap free_words_of names ∙ sym is) init
      (nil_in known value v hv place laid s names at first_nil init.few)
      (nil_in known last x hx place laid s names at last_nil init.few) hp;
  element = λ place laid s names at back array index method args named first_nil last_nil init hp.
      made.element place s at back array index method args var (locals_are_open place laid.accepted laid.few)
      (ap free_words_of names ∙ sym is) named init
      (nil_in known value v hv place laid s names at first_nil init.few)
      (nil_in known last x hx place laid s names at last_nil init.few) hp;
}

-- ---- what the calls answer

pub local_returns : {E : Type 0} (known : Known) (var : Var) (value last : Expression) (word : ℕ) (v p x : List Symbol)
    (r : Result Code E) → word ≡ free_words_of known → code.ExpressionLaw (spot_of known) (free_words_of known) VALUE
    value v
    → code.ExpressionLaw (spot_of known) (free_words_of known) VALUE last x → IfOk r (λ y. LocalCode word v p x y.cells)
    → IfOk r (λ y. LocalLaw known var value last p y.cells)
local_returns known var value last word v p x (Ok y) is hv hx made =
    local_clause known var value last word v p x y.cells is hv hx made
local_returns known var value last word v p x (Err none) is hv hx made = tt
