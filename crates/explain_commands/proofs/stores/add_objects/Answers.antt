use Rattle.std.proofs.Common.{sym, ◌∙◌}
use Rattle.std.specs.Prelude.{string_bytes}
use Rattle.run_settings.specs.rpp_tree.Views.{source_of}
use Rattle.explain_commands.proofs.Lining.{lists_on, lists_out, lists_all}
use Rattle.explain_commands.proofs.stores.add_objects.Goals as goal

pub loop-at-preserved : goal.loop-at-preserved
loop-at-preserved c =
    lists_on (source_of c.args.checked.now) c.args.heap.now.store c.args.names.now.keys c.loop-at.at c.in-Some.name
    (string_bytes c.loop-at.out) _ _ c.loop-at.invariant (sym c.name_at.ensures ∙ c.in-Some.is)
    c.in_ok-add_object-in-Some.ensures

pub returns-in-None : goal.returns-in-None
returns-in-None c = lists_out (source_of c.args.checked.now) c.args.heap.now.store c.args.names.now.keys c.loop-at.at
    (string_bytes c.loop-at.out) _ c.loop-at.invariant (sym c.name_at.ensures ∙ c.in-None.is)

pub returns : goal.returns
returns c = lists_all (source_of c.args.checked.now) c.args.heap.now.store c.args.names.now.keys c.loop-at.at _
    (string_bytes c.loop-at.out) _ c.loop-at.invariant c.len-size.ensures.len c.loop-at-test.false
