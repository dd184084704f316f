use Rattle.std.proofs.Common.{◌+◌, ◌*◌, length}
use Rattle.roopl_parser.proofs.expression.+expression.Given as goal

abbrev pub decreases-binary : goal.decreases-binary
decreases-binary l = 12 * length l.tokens.now + l.level + 1

abbrev pub decreases-indexed : goal.decreases-indexed
decreases-indexed l = 12 * length l.tokens.now

abbrev pub decreases-more : goal.decreases-more
decreases-more l = 12 * length l.tokens.now + l.level + 1

abbrev pub decreases-operand : goal.decreases-operand
decreases-operand l = 12 * length l.tokens.now

abbrev pub decreases-read : goal.decreases-read
decreases-read l = 12 * length l.tokens.now + 1

abbrev pub decreases-grouped : goal.decreases-grouped
decreases-grouped l = 12 * length l.tokens.now + 11
