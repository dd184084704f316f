use Rattle.std.proofs.Common.{◌∙◌, ap, sym, map, take_all}
use Rattle.std.specs.List.{flat_map}
use Rattle.std.proofs.lemmas.List.Folds.{flat_map-map}
use Rattle.roopl_parser.specs.rpp_tree.Views.{class_text_of}
use Rattle.roopl_printer.specs.Printed.{printed_text}
use Rattle.roopl_printer.specs.Spelled.{spelled_class}
use Rattle.roopl_printer.proofs.Gaps.{class_by_class}
use Rattle.roopl_printer.proofs.whole.print_bytes.Goals as goal

pub returns : goal.returns
returns c =
    c.loop-class.invariant ∙ ap (flat_map (λ class. printed_text (spelled_class (class_text_of class))))
    (take_all c.loop-class.class-index c.args.classes.now c.loop-class-test.false)
    ∙ sym (flat_map-map (λ class. printed_text (spelled_class class)) class_text_of c.args.classes.now)
    ∙ class_by_class (map class_text_of c.args.classes.now)
