use Rattle.refine_objects.specs.rpp_tree.Views.{expression_of, lvalue_of}
use Rattle.statement_codegen.proofs.Arms.{shows_element, element_room, element_arm}
use Rattle.statement_codegen.proofs.blocks.call_piece_on.Goals as goal

pub element_call_code-requires-clause-room : goal.element_call_code-requires-clause-room
element_call_code-requires-clause-room c = element_room c.args.scope.now c.args.at c.args.back
    (lvalue_of c.args.receiver.now) c.args.method.now c.args.args.now c.requires.stands

pub returns-in-Some-clause-piece : goal.returns-in-Some-clause-piece
returns-in-Some-clause-piece c =
    element_arm c.args.scope.now c.args.at c.args.back (lvalue_of c.args.receiver.now)
    c.args.receiver.now.name (expression_of c.in-Some._index.value) c.args.method.now
    c.args.args.now c.element_call_code.result
    (shows_element c.args.receiver.now c.in-Some._index c.in-Some.is) c.requires.stands c.element_call_code.ensures.law
    c.element_call_code.ensures.none c.element_call_code.ensures.size
