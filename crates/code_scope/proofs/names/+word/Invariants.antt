use Rattle.std.proofs.Common.{length}
use Rattle.code_scope.proofs.names.+word.Given as goal

abbrev pub decreases-word : goal.decreases-word
decreases-word l = length l.variables.now
