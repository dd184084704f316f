use Rattle.std.proofs.Common.{◌≡◌, drop, map}
use Rattle.class_rules.specs.rpp_tree.Views.{source_of, class_text_of}
use Rattle.class_rules.specs.First.{first_at}
use Rattle.class_rules.specs.Members.{duplicate_field_at}
use Rattle.class_table.proofs.fields.check_fields.Given as goal

abbrev pub invariant-loop-number : goal.invariant-loop-number
invariant-loop-number l = first_at (duplicate_field_at (source_of l.program)) 0
    (map class_text_of l.program.classes.items) ≡ first_at (duplicate_field_at (source_of l.program)) l.number
    (map class_text_of (drop l.number l.program.classes.items))
