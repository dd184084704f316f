-- The laws of conditionals and loops in a scope, from those of their conditions and fragments.
use Rattle.std.proofs.Common.{◌≡◌, List, sym, subst}
use Rattle.std.specs.Prelude.{Result, Ok, Err, IfOk}
use Rattle.refine_expressions.specs.rpp_tree.Tree.{Expression}
use Rattle.refine_expressions.specs.class_rules.declared.kind.Kind.TheVariants as kind
use Rattle.refine_expressions.specs.paired_code.declared.part.Symbol.{Symbol}
use Rattle.refine_expressions.specs.paired_code.Code.{Code}
use Rattle.refine_expressions.specs.code_conventions.declared.registers.TheConstants.{FLAG}
use Rattle.refine_expressions.specs.code_scope.Visible.{Known, spot_of, free_words_of}
use Rattle.refine_expressions.specs.expr_uncompute.Promises as code
use Rattle.refine_form.specs.Form.{Scope, TestLaw}
use Rattle.refine_form.specs.Worlds.{Place, world_of}
use Rattle.refine_expressions.specs.Typing.{known_of, IsTyped}
use Rattle.refine_expressions.specs.Laws.{IsLaidOut}
use Rattle.refine_expressions.proofs.Stated.{tests_are_told}
use Rattle.branch_codegen.specs.Laws.{IfCode, FromCode, IfLaw, FromLaw}

-- the code of a condition, in a scope of its names
test_in : (known : Known) (e : Expression) (p : List Symbol)
    → code.ConditionLaw (spot_of known) (free_words_of known) FLAG e p
    → (place : Place) → IsLaidOut place → (s : Scope) → known_of place.setting.program s ≡ known
    → IsTyped place.setting.program s e kind.Int → TestLaw (world_of place) s e p
test_in known e p law place laid s names ok =
    tests_are_told place laid s e ok p (subst (λ (k : Known). code.ConditionLaw (spot_of k) (free_words_of k) FLAG e p)
    (sym names)
    law)

pub if_in_scope : (known : Known) (test after : Expression) (t p q a all : List Symbol)
    → code.ConditionLaw (spot_of known) (free_words_of known) FLAG test t
    → code.ConditionLaw (spot_of known) (free_words_of known) FLAG after a → IfCode t p q a all
    → IfLaw known test after p q all
if_in_scope known test after t p q a all ht ha made = record {
  law = λ place laid s names at taken other it ia hp hq.
      made.law place s at test after taken other (test_in known test t ht place laid s names it)
      (test_in known after a ha place laid s names ia) hp hq;
}

pub from_in_scope : (known : Known) (entry exit : Expression) (e p q x all : List Symbol)
    → code.ConditionLaw (spot_of known) (free_words_of known) FLAG entry e
    → code.ConditionLaw (spot_of known) (free_words_of known) FLAG exit x → FromCode e p q x all
    → FromLaw known entry exit p q all
from_in_scope known entry exit e p q x all he hx made = record {
  law = λ place laid s names at first again ie ix hp hq.
      made.law place s at entry exit first again (test_in known entry e he place laid s names ie)
      (test_in known exit x hx place laid s names ix) hp hq;
}

-- ---- what the calls answer

pub if_returns : {E : Type 0} (known : Known) (test after : Expression) (t p q a : List Symbol) (r : Result Code E)
    → code.ConditionLaw (spot_of known) (free_words_of known) FLAG test t
    → code.ConditionLaw (spot_of known) (free_words_of known) FLAG after a → IfOk r (λ x. IfCode t p q a x.cells)
    → IfOk r (λ x. IfLaw known test after p q x.cells)
if_returns known test after t p q a (Ok x) ht ha made = if_in_scope known test after t p q a x.cells ht ha made
if_returns known test after t p q a (Err e) ht ha made = tt

pub from_returns : {E : Type 0} (known : Known) (entry exit : Expression) (e p q x : List Symbol) (r : Result Code E)
    → code.ConditionLaw (spot_of known) (free_words_of known) FLAG entry e
    → code.ConditionLaw (spot_of known) (free_words_of known) FLAG exit x → IfOk r (λ y. FromCode e p q x y.cells)
    → IfOk r (λ y. FromLaw known entry exit p q y.cells)
from_returns known entry exit e p q x (Ok y) he hx made = from_in_scope known entry exit e p q x y.cells he hx made
from_returns known entry exit e p q x (Err none) he hx made = tt
