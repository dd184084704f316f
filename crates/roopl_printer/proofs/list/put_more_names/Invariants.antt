use Rattle.std.proofs.Common.{◌≡◌, ◌++◌, take}
use Rattle.std.specs.List.{flat_map}
use Rattle.roopl_printer.specs.Printed.{with_gaps}
use Rattle.roopl_printer.specs.Spelled.{after_comma, name_alone}
use Rattle.roopl_printer.proofs.list.put_more_names.Given as goal

abbrev pub invariant-loop-name : goal.invariant-loop-name
invariant-loop-name l = l.out.items ≡ l.initial.out.items
    ++ with_gaps (flat_map (after_comma name_alone) (take l.name-index l.names))
