use Rattle.std.proofs.Common.{arith}
use Rattle.refine_heap.specs.rpp_tree.Views.{source_of}
use Rattle.static_layout.proofs.roopl_semantics_laws.MainPlace.{class_inside}
use Rattle.object_codegen.proofs.tables.class_number.Goals as goal

pub returns-in-None-clause-inside : goal.returns-in-None-clause-inside
returns-in-None-clause-inside c = omega (arith, class_inside (source_of c.args.checked.now) c.table.ensures.accepted)
