use Rattle.std.proofs.Common.{refl, sym, ap, None}
use Rattle.refine_objects.specs.rpp_tree.Tree.{Call}
use Rattle.refine_objects.specs.rpp_tree.Views.{optional_lvalue_of}
use Rattle.statement_codegen.proofs.Arms.{call_arm}
use Rattle.statement_codegen.proofs.blocks.call_piece.Goals as goal

pub returns-in-None-clause-piece : goal.returns-in-None-clause-piece
returns-in-None-clause-piece c =
    call_arm c.args.scope.now (Call c.args.at c.args.back (optional_lvalue_of c.args.receiver.now) c.args.method.now
    c.args.args.now) c.args.at c.args.back (optional_lvalue_of c.args.receiver.now) None c.args.method.now
    c.args.args.now c.call_code.result
    refl (sym (ap optional_lvalue_of c.in-None.is)) c.requires.stands c.call_code.ensures.law
    c.call_code.ensures.none c.call_code.ensures.size
