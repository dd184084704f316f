-- The code of conditions, values, updates and swaps, by what it does with words, has their laws
-- over current frames.
use Rattle.std.specs.Prelude.{ℕ, ◌+◌, ◌≤◌, List, length}
use Rattle.refine_calls.specs.rpp_tree.declared.tree.UpdateOp.{UpdateOp}
use Rattle.refine_calls.specs.rpp_tree.Tree.{Expression, Lvalue, Update, Swap}
use Rattle.refine_calls.specs.class_rules.declared.kind.Kind.{Kind}
use Rattle.refine_calls.specs.class_rules.declared.kind.Kind.TheVariants as kind
use Rattle.refine_calls.specs.class_rules.Program.{IsAccepted}
use Rattle.refine_calls.specs.paired_code.declared.part.Symbol.{Symbol}
use Rattle.expr_uncompute.specs.register_expressions.Code.{words}
use Rattle.expr_uncompute.specs.Code.{place_words}
use Rattle.expr_uncompute.specs.Promises as code
use Rattle.refine_calls.specs.refine_form.Form.{Scope, TestLaw, ValueLaw, StmtLaw}
use Rattle.refine_calls.specs.refine_form.Worlds.{Place, world_of}
use Rattle.refine_calls.specs.code_conventions.declared.registers.TheConstants.{FLAG, VALUE}
use Rattle.refine_expressions.specs.Typing.{IsTyped, IsPassed, visible_spot, free_in_scope}
use Rattle.refine_calls.specs.pisa_isa.declared.image.TheConstants.{MOST_STATICS}

-- an accepted program, and not too many static cells
pub record IsLaidOut (place : Place) : Type 0 where
  pub accepted : IsAccepted place.setting.program
  pub few : length place.statics ≤ MOST_STATICS

-- code that xors the truth value of an int expression's number into the flag tests what the source
-- says
abbrev pub TestsAreTold : Type 0
TestsAreTold =
    (place : Place) → IsLaidOut place → (s : Scope) (e : Expression)
    → IsTyped place.setting.program s e kind.Int
    → (p : List Symbol)
    → code.ConditionLaw (visible_spot place.setting.program s) (free_in_scope place.setting.program s) FLAG e p
    → TestLaw (world_of place) s e p

-- code that xors an expression's number into the value's register gives the word of the source's
-- value, of any type
abbrev pub ValuesAreTold : Type 0
ValuesAreTold =
    (place : Place) → IsLaidOut place → (s : Scope) (e : Expression) (k : Kind)
    → IsTyped place.setting.program s e k
    → (p : List Symbol)
    → code.ExpressionLaw (visible_spot place.setting.program s) (free_in_scope place.setting.program s) VALUE e p
    → ValueLaw (world_of place) s e p

-- code that updates a place's word does what the source says of the update, back what it says of
-- its inverse
abbrev pub UpdatesAreTold : Type 0
UpdatesAreTold =
    (place : Place) → IsLaidOut place
    → (s : Scope) (at : ℕ) (op : UpdateOp) (target : Lvalue) (e : Expression)
    → IsPassed place.setting.program s (Update at op target e) (place_words target + words e)
    → (p : List Symbol)
    → code.UpdateLaw (visible_spot place.setting.program s) (free_in_scope place.setting.program s) op target e
    p
    → StmtLaw (world_of place) s (Update at op target e) p

-- code that swaps two places' words does what the source says of the swap, in both directions
abbrev pub SwapsAreTold : Type 0
SwapsAreTold =
    (place : Place) → IsLaidOut place → (s : Scope) (at : ℕ) (left right : Lvalue)
    → IsPassed place.setting.program s (Swap at left right) (place_words left + place_words right)
    → (p : List Symbol)
    → code.SwapLaw (visible_spot place.setting.program s) (free_in_scope place.setting.program s) left right p
    → StmtLaw (world_of place) s (Swap at left right) p
