use Rattle.std.proofs.Common.{◌≡◌, ◌++◌, take}
use Rattle.std.specs.List.{flat_map}
use Rattle.roopl_printer.specs.Printed.{with_gaps}
use Rattle.roopl_printer.specs.Spelled.{spelled_var}
use Rattle.roopl_printer.proofs.list.put_fields.Given as goal

abbrev pub invariant-loop-field : goal.invariant-loop-field
invariant-loop-field l = l.out.items ≡ l.initial.out.items
    ++ with_gaps (flat_map spelled_var (take l.field-index l.fields))
