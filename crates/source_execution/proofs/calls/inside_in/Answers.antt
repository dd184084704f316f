use Rattle.std.proofs.Common.{◌≡◌, ◌∙◌, sym, ap, subst, arith}
use Rattle.std.specs.Prelude.{option_map, Option, IfOk}
use Rattle.source_execution.specs.Calls.{CallState, inside_call}
use Rattle.source_execution.specs.CallsView.{inside_of}
use Rattle.source_execution.specs.declared.calls.CallState.{CallState as Copied}
use Rattle.source_execution.proofs.Called.{last_inside_ok, this_inside}
use Rattle.source_execution.proofs.calls.inside_in.Goals as goal

pub returns-in-Some : goal.returns-in-Some
returns-in-Some c =
    this_inside c.args.run.now c.args.depth c.deref-frame-items.result.now c.loop-frame.frame-index
    c.frame-item.result (inside_of c.in-Some.inside) c.loop-frame.invariant.same c.loop-frame-test.true
    (sym c.frame-item.is)
    c.loop-frame.invariant.along
    (ap (option_map inside_of) (sym c.in-Some.is) ∙ c.in_ok-inside.ensures)

pub returns : goal.returns
returns c =
    last_inside_ok (option_map inside_of) c.inside_last.result c.args.run.now c.args.depth
    c.deref-frame-items.result.now c.loop-frame.frame-index c.loop-frame.invariant.same
    (omega (arith, c.loop-frame-test.false)) c.loop-frame.invariant.along c.inside_last.ensures
