use Rattle.std.proofs.Common.{◌≡◌, ◌∙◌, ap, ◌∷◌, [], ◌++◌, List, map, arith}
use Rattle.std.proofs.lemmas.List.{map-append}
use Rattle.source_execution.specs.declared.calls.Active.{Active as Held}
use Rattle.source_execution.specs.Calls.{Active}
use Rattle.source_execution.specs.CallsView.{active_of}
use Rattle.source_execution.proofs.Called.{all_calls}
use Rattle.source_execution.proofs.calls.calls_in.Goals as goal

pub returns : goal.returns
returns c =
    ap (λ (its : List Held). map active_of its) c.in_ok-push.ensures.items
    ∙ map-append active_of c.loop-frame.calls.items (c.innermost.result ∷ [])
    ∙ ap (λ (it : Active). map active_of c.loop-frame.calls.items ++ it ∷ []) c.innermost.ensures
    ∙ all_calls c.args.run.now c.deref-frame-items.result.now c.loop-frame.frame-index c.loop-frame.back
    (map active_of c.loop-frame.calls.items) c.loop-frame.invariant.same (omega (arith, c.loop-frame-test.false))
    c.loop-frame.invariant.along
