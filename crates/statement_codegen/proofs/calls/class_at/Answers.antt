use Rattle.refine_objects.specs.rpp_tree.Views.{source_of}
use Rattle.statement_codegen.specs.Codes.{scope_of}
use Rattle.statement_codegen.proofs.Names.{class_none, class_some}
use Rattle.statement_codegen.proofs.calls.class_at.Goals as goal

pub returns-in-None : goal.returns-in-None
returns-in-None c = class_none (source_of c.args.scope.now.program) (scope_of c.args.scope.now) c.args.name.now
    c.in-None.ensures

pub returns-in-Some : goal.returns-in-Some
returns-in-Some c =
    class_some (source_of c.args.scope.now.program) (scope_of c.args.scope.now) c.args.name.now c.in-Some.kind.now
    c.class_in.result
    c.in-Some.ensures c.class_in.ensures
