use Rattle.std.proofs.Common.{◌≤◌, ◌-◌, length}
use Rattle.roopl_lexer.proofs.Cuts.{CutUpTo}
use Rattle.roopl_lexer.proofs.lexer.lex.Given as goal

abbrev pub invariant-loop-at : goal.invariant-loop-at
invariant-loop-at l = record { in_range : l.at ≤ length l.text; so_far : CutUpTo l.text l.tokens.items l.at }

abbrev pub decreases-loop-at : goal.decreases-loop-at
decreases-loop-at l = length l.text - l.at
