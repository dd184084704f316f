-- What the code of a conditional and of a loop does, from what its conditions and blocks do. The
-- same for the code that is made from the conditions, in every scope of the names that it was made
-- for.
use Rattle.std.specs.Prelude.{◌≡◌, ℕ, List}
use Rattle.refine_expressions.specs.rpp_tree.Tree.{Expression, Statements, If, From}
use Rattle.refine_expressions.specs.class_rules.declared.kind.Kind.TheVariants as kind
use Rattle.refine_expressions.specs.paired_code.declared.part.Symbol.{Symbol}
use Rattle.refine_expressions.specs.code_scope.Visible.{Known}
use Rattle.refine_form.specs.Form.{Scope, TestLaw, BlockLaw, StmtLaw}
use Rattle.refine_form.specs.Worlds.{Place, world_of}
use Rattle.refine_expressions.specs.Typing.{known_of, IsTyped}
use Rattle.refine_expressions.specs.Laws.{IsLaidOut}

-- A conditional, wherever the conditions and parts do what theirs are to do. Forward, the condition
-- after is to agree with the one before, or it stops with fault 1; back it is the inverse
-- statement, where the two conditions change places.
pub record IfCode (t p q a all : List Symbol) : Type 0 where
  pub law : (place : Place) (s : Scope) (at : ℕ) (test after : Expression)
      (taken other : Statements)
      → TestLaw (world_of place) s test t → TestLaw (world_of place) s after a
      → BlockLaw (world_of place) s taken p → BlockLaw (world_of place) s other q
      → StmtLaw (world_of place) s (If at test taken other after) all

-- A loop, wherever the conditions and parts do what theirs are to do. Forward, the entry is to hold
-- at first and not again, or it stops with fault 2; back it is the inverse statement, where the two
-- conditions change places.
pub record FromCode (e p q x all : List Symbol) : Type 0 where
  pub law : (place : Place) (s : Scope) (at : ℕ) (entry exit : Expression)
      (first again : Statements)
      → TestLaw (world_of place) s entry e → TestLaw (world_of place) s exit x
      → BlockLaw (world_of place) s first p → BlockLaw (world_of place) s again q
      → StmtLaw (world_of place) s (From at entry first again exit) all

-- ---- in a scope

-- a conditional
pub record IfLaw (known : Known) (test after : Expression) (p q all : List Symbol) : Type 0 where
  pub law : (place : Place) → IsLaidOut place → (s : Scope)
      → known_of place.setting.program s ≡ known
      → (at : ℕ) (taken other : Statements)
      → IsTyped place.setting.program s test kind.Int
      → IsTyped place.setting.program s after kind.Int
      → BlockLaw (world_of place) s taken p → BlockLaw (world_of place) s other q
      → StmtLaw (world_of place) s (If at test taken other after) all

-- a loop
pub record FromLaw (known : Known) (entry exit : Expression) (p q all : List Symbol) : Type 0 where
  pub law : (place : Place) → IsLaidOut place → (s : Scope)
      → known_of place.setting.program s ≡ known
      → (at : ℕ) (first again : Statements)
      → IsTyped place.setting.program s entry kind.Int
      → IsTyped place.setting.program s exit kind.Int
      → BlockLaw (world_of place) s first p → BlockLaw (world_of place) s again q
      → StmtLaw (world_of place) s (From at entry first again exit) all
