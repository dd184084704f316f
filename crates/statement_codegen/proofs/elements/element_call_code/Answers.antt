use Rattle.std.proofs.Common.{sym, ap, ◌∙◌}
use Rattle.refine_objects.specs.rpp_tree.Views.{lvalue_of}
use Rattle.statement_codegen.specs.Laws.{element_var}
use Rattle.statement_codegen.proofs.ElementCalls.{place_name_is, popped, element_returns}
use Rattle.statement_codegen.proofs.elements.element_call_code.Goals as goal

pub returns-clause-law : goal.returns-clause-law
returns-clause-law c =
    element_returns c.args.scope.now c.push.new.self c.pop.new.self c.args.at c.args.back
    (lvalue_of c.args.element.now) c.in_ok-var.var c.args.method.now c.args.args.now
    c.in_ok-inside.inside.cells c.local_code.result
    (c.in_ok-var.ensures ∙ ap (element_var c.args.scope.now c.args.at)
    (sym (place_name_is c.args.element.now)))
    c.in_ok-push.ensures.pushed (c.pop.ensures ∙ ap popped c.in_ok-push.ensures.pushed) c.in_ok-inside.ensures.law
    c.local_code.ensures.law
