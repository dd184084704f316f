use Rattle.std.proofs.Common.{◌≤◌, ◌+◌, ◌*◌, length, sym, subst}
use Rattle.refine_objects.specs.rpp_tree.Views.{lvalue_of}
use Rattle.branch_codegen.specs.paired_code.Code.{Code}
use Rattle.branch_codegen.specs.expr_uncompute.Steps.{place_tokens}
use Rattle.statement_codegen.proofs.ElementCalls.{exchanged_size}
use Rattle.statement_codegen.proofs.elements.exchanged_call.Goals as goal

pub returns-clause-size : goal.returns-clause-size
returns-clause-size c =
    exchanged_size (place_tokens (lvalue_of c.args.element.now)) (length c.args.args.now) _ _ c.in_ok-last.last _
    c.seq-2.result
    (subst (λ (z : Code). length z.cells ≤ 80 * (2 + place_tokens (lvalue_of c.args.element.now))) (sym c.first.view_is)
    c.in_ok-first.ensures.size)
    c.in_ok-called.ensures.size c.in_ok-last.ensures.size c.in_ok-seq.ensures.code c.seq-2.ensures.code
