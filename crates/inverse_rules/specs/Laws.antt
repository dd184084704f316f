-- Laws of inverses.
use Rattle.std.specs.Prelude.{◌≡◌}
use Rattle.rpp_tree.specs.Tree.{Statement, Statements, Source}
use Rattle.inverse_rules.specs.Inverse.{inverse_statement, inverse, inverse_program}

-- what is inverted twice is as it was
pub record InvertsTwice : Type 0 where
  pub statement : (s : Statement) → inverse_statement (inverse_statement s) ≡ s
  pub block : (body : Statements) → inverse (inverse body) ≡ body
  pub program : (program : Source) → inverse_program (inverse_program program) ≡ program
