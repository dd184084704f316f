use Rattle.std.proofs.Common.{◌≡◌, [], take, drop, map}
use Rattle.class_rules.specs.rpp_tree.Views.{procedure_of}
use Rattle.class_rules.specs.First.{first_after}
use Rattle.class_rules.specs.Overrides.{method_name, method_taken}
use Rattle.class_table.proofs.overrides.check_own_methods.Given as goal

abbrev pub invariant-loop-method : goal.invariant-loop-method
invariant-loop-method l = record {
  names : l.names.keys ≡ map method_name (map procedure_of (take l.method-index l.methods));
  first : first_after method_taken [] (map procedure_of l.methods)
      ≡ first_after method_taken (map procedure_of (take l.method-index l.methods))
      (map procedure_of (drop l.method-index l.methods));
}
