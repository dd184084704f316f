use Rattle.refine_program.specs.rpp_tree.Views.{source_of}
use Rattle.program_codegen.proofs.Entries.{method_pushed}
use Rattle.program_codegen.proofs.routines.class_routines.Goals as goal

pub loop-number-preserved : goal.loop-number-preserved
loop-number-preserved c =
    method_pushed (source_of c.args.checked.now) c.args.class c.args.methods.now c.loop-number.number
    c.index-methods-number.result c.loop-number.pieces.items c.push.new.self.items c.in_ok-routine.field-0
    c.loop-number-test.true c.index-methods-number.is c.in_ok-push.ensures.items c.in_ok-routine.ensures
    c.loop-number.invariant
