use Rattle.std.proofs.Common.{◌≡◌, ◌++◌, take}
use Rattle.std.specs.List.{flat_map}
use Rattle.roopl_printer.specs.Printed.{with_gaps}
use Rattle.roopl_printer.specs.Spelled.{after_comma, spelled_var}
use Rattle.roopl_printer.proofs.list.put_more_vars.Given as goal

abbrev pub invariant-loop-var : goal.invariant-loop-var
invariant-loop-var l = l.out.items ≡ l.initial.out.items
    ++ with_gaps (flat_map (after_comma spelled_var) (take l.var-index l.vars))
