use Rattle.std.proofs.Common.{refl, sym, ◌∙◌}
use Rattle.explain_commands.proofs.Walked.{meets_first, meets_on, meets_out, meets_all}
use Rattle.explain_commands.proofs.meeting.meet.Goals as goal

pub loop-at-init : goal.loop-at-init
loop-at-init c = meets_first c.args.cells.now c.args.names.now.keys

pub loop-at-preserved : goal.loop-at-preserved
loop-at-preserved c =
    meets_on c.args.cells.now c.args.names.now.keys c.loop-at.at c.loop-at.names.keys _ c.in-Some.value
    c.loop-at.invariant (sym c.value_at.ensures ∙ c.in-Some.is) c.in_ok-meet_value-in-Some.ensures

pub returns-in-None : goal.returns-in-None
returns-in-None c = meets_out c.args.cells.now c.args.names.now.keys c.loop-at.at c.loop-at.names.keys
    c.loop-at.invariant (sym c.value_at.ensures ∙ c.in-None.is)

pub returns : goal.returns
returns c = meets_all c.args.cells.now c.args.names.now.keys c.loop-at.at _ c.loop-at.names.keys c.loop-at.invariant
    refl c.loop-at-test.false
