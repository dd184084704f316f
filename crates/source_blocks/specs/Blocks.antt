-- How far a block has run.
use Rattle.std.specs.Prelude.{ℕ, zero, suc}
use Rattle.source_steps.specs.rpp_tree.Tree.{Statement, Statements, Skip, End, Then}

-- the statement after so many of a block
abbrev pub statement_at : ℕ → Statements → Statement
statement_at at End = Skip 0
statement_at zero (Then s rest) = s
statement_at (suc at) (Then s rest) = statement_at at rest

-- the statements after so many
abbrev pub rest_at : ℕ → Statements → Statements
rest_at zero body = body
rest_at (suc at) End = End
rest_at (suc at) (Then s rest) = rest_at at rest

-- the first so many, the last one first
abbrev pub past_at : ℕ → Statements → Statements
past_at zero body = End
past_at (suc at) body = Then (statement_at at body) (past_at at body)

-- how many statements a block has
abbrev pub statement_count : Statements → ℕ
statement_count End = 0
statement_count (Then s rest) = suc (statement_count rest)
