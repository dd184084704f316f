-- What the functions on a program's table return, from the list of its classes only.
use Rattle.std.proofs.Common.{◌-◌, ◌<◌, ap, ℕ, [], length, take}
use Rattle.std.specs.Prelude.{nat_eq}
use Rattle.std.specs.List.{list_any}
use Rattle.rpp_tree.specs.Tree.{Source}
use Rattle.class_rules.specs.Chains.{class_line}
use Rattle.class_rules.specs.Members.{class_fields, class_slots}
use Rattle.class_rules.specs.Laws.{ReadsClasses}
use Rattle.class_rules.proofs.Numbers.{each_below-get}

pub table_reads : (program : Source) (class : ℕ) → class < length program.classes → ReadsClasses program class
table_reads program class inside = record {
  fields = each_below-get (class_fields program) (length program.classes) class [] inside;
  slots = each_below-get (class_slots program) (length program.classes) class [] inside;
  inherits = λ from. ap (λ line. list_any (λ above. nat_eq above from) (take (length line - 1) line))
      (each_below-get (class_line program) (length program.classes) class [] inside);
}
