use Rattle.std.proofs.Common.{◌≡◌, ◌++◌, take, map}
use Rattle.std.specs.List.{flat_map}
use Rattle.roopl_parser.specs.rpp_tree.Views.{procedure_of}
use Rattle.roopl_printer.specs.Printed.{with_gaps}
use Rattle.roopl_printer.specs.Spelled.{spelled_method}
use Rattle.roopl_printer.proofs.whole.put_methods.Given as goal

abbrev pub invariant-loop-method : goal.invariant-loop-method
invariant-loop-method l = l.out.items ≡ l.initial.out.items
    ++ with_gaps (flat_map spelled_method (map procedure_of (take l.method-index l.methods)))
