use Rattle.std.specs.Prelude.{string_bytes}
use Rattle.cluster_commands.proofs.EventsOn.{all_done}
use Rattle.cluster_commands.proofs.following.follow.Goals as goal

pub returns-clause-shows : goal.returns-clause-shows
returns-clause-shows c =
    let all = all_done c.args.events.now c.loop-event.event-index c.args.cluster.now c.loop-event.cluster
    (string_bytes c.args.text.now) (string_bytes c.loop-event.text) c.loop-event-test.false
    c.loop-event.invariant.prints in
    (all.lines, all.shows, all.whole)
