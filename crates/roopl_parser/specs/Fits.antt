-- Statements and blocks that keep the limits at their depth: d statements and l locals enclose
-- them.
use Rattle.std.specs.Prelude.{ℕ, ◌+◌, ◌≤◌}
use Rattle.roopl_lexer.specs.rpp_tree.Tree.{Statement, Statements, depth, statement_depth}
use Rattle.roopl_lexer.specs.rpp_tree.Limits.{locals, statement_locals, IsSmallStatement, AreSmall}
use Rattle.roopl_lexer.specs.rpp_tree.Limits.{AreInnerSmall}
use Rattle.roopl_lexer.specs.rpp_tree.declared.limits.TheConstants.{MOST_NESTING, MOST_LOCALS}

pub record Fits (d l : ℕ) (statement : Statement) : Type 0 where
  pub nested : d + statement_depth statement ≤ MOST_NESTING
  pub held : l + statement_locals statement ≤ MOST_LOCALS
  pub small : IsSmallStatement statement
  pub inner : AreInnerSmall statement

pub record BlockFits (d l : ℕ) (block : Statements) : Type 0 where
  pub nested : d + depth block ≤ MOST_NESTING
  pub held : l + locals block ≤ MOST_LOCALS
  pub small : AreSmall block
