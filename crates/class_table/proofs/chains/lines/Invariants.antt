use Rattle.std.proofs.Common.{◌≡◌, drop, map}
use Rattle.class_rules.specs.rpp_tree.Views.{source_of, class_text_of}
use Rattle.class_rules.specs.First.{first_at, each_below}
use Rattle.class_rules.specs.Chains.{endless_chain, class_line}
use Rattle.class_table.proofs.chains.lines.Given as goal

abbrev pub invariant-loop-number : goal.invariant-loop-number
invariant-loop-number l = record {
  lines : map (λ line. line.items) l.list.items ≡ each_below (class_line (source_of l.fn.program)) l.number;
  first : first_at (endless_chain (source_of l.fn.program)) 0 (map class_text_of l.fn.program.classes.items)
      ≡ first_at (endless_chain (source_of l.fn.program)) l.number
      (map class_text_of (drop l.number l.fn.program.classes.items));
}
