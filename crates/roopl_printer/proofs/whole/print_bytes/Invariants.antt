use Rattle.std.proofs.Common.{◌≡◌, take}
use Rattle.std.specs.List.{flat_map}
use Rattle.roopl_parser.specs.rpp_tree.Views.{class_text_of}
use Rattle.roopl_printer.specs.Printed.{printed_text}
use Rattle.roopl_printer.specs.Spelled.{spelled_class}
use Rattle.roopl_printer.proofs.whole.print_bytes.Given as goal

abbrev pub invariant-loop-class : goal.invariant-loop-class
invariant-loop-class l = l.out.items ≡ flat_map (λ class. printed_text (spelled_class (class_text_of class)))
    (take l.class-index l.classes)
