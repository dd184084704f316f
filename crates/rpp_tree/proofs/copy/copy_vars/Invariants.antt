use Rattle.std.proofs.Common.{◌≡◌, take}
use Rattle.rpp_tree.proofs.copy.copy_vars.Given as goal

abbrev pub invariant-loop-var : goal.invariant-loop-var
invariant-loop-var l = l.copied.items ≡ take l.var-index l.vars
