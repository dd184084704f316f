use Rattle.std.proofs.Common.{◌≡◌}
use Rattle.refine_program.specs.rpp_tree.Views.{source_of}
use Rattle.refine_program.specs.class_rules.First.{each_below}
use Rattle.refine_program.specs.Methods.{methods_before}
use Rattle.program_codegen.proofs.numbers.first_routines.Given as goal

-- the numbers so far, and the next one
abbrev pub invariant-loop-class : goal.invariant-loop-class
invariant-loop-class l = record {
  firsts : l.firsts.items ≡ each_below (methods_before (source_of l.program).classes) l.class-index;
  next : l.next ≡ methods_before (source_of l.program).classes l.class-index;
}
