use Rattle.std.proofs.Common.{◌≡◌, ◌<◌, ◌∷◌, ◌+◌, ◌*◌, ℕ, List, length, map}
use Rattle.std.specs.Prelude.{true}
use Rattle.roopl_lexer.specs.rpp_tree.Views.{statement_of}
use Rattle.roopl_parser.specs.Reader.{scan, Block, Stmts, Build, MakeBlock, Many, Part, ParsedValue}
use Rattle.roopl_parser.proofs.statement.+statement.Given as goal

abbrev pub decreases-block : goal.decreases-block
decreases-block l = 2 * length l.tokens.now + 1

abbrev pub decreases-single : goal.decreases-single
decreases-single l = 2 * length l.tokens.now

abbrev pub decreases-branches : goal.decreases-branches
decreases-branches l = 2 * length l.tokens.now

abbrev pub decreases-conditional : goal.decreases-conditional
decreases-conditional l = 2 * length l.tokens.now

abbrev pub decreases-repeated : goal.decreases-repeated
decreases-repeated l = 2 * length l.tokens.now

abbrev pub decreases-construct : goal.decreases-construct
decreases-construct l = 2 * length l.tokens.now

abbrev pub decreases-scope : goal.decreases-scope
decreases-scope l = 2 * length l.tokens.now + 2

abbrev pub decreases-local : goal.decreases-local
decreases-local l = 2 * length l.tokens.now

abbrev pub decreases-block-statements : goal.decreases-block-statements
decreases-block-statements l = length l.rest

abbrev pub invariant-block-statements : goal.invariant-block-statements
invariant-block-statements l = record {
  read : (n : ℕ) (s : List Part) (vs : List ParsedValue) → scan true l.end l.fn.tokens n (Block l.depth l.locals ∷ s) vs
      ≡ scan true l.end l.rest 0 (Stmts l.depth l.locals ∷ Build MakeBlock ∷ s)
      (Many (map statement_of l.list.items) ∷ vs);
  shorter : length l.rest < length l.fn.tokens;
}
