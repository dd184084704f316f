use Rattle.std.proofs.Common.{◌∙◌, sym, ap, rules, None}
use Rattle.source_courses.specs.declared.watching.Watching.TheVariants as watch
use Rattle.source_execution.specs.rpp_tree.Views.{source_of}
use Rattle.source_execution.specs.meaning_points.Trail.{trail}
use Rattle.source_courses.specs.declared.running.TheConstants.{MOST_COST}
use Rattle.source_courses.specs.Ended.{IsEnded, latest_of, back_to}
use Rattle.source_courses.specs.Walks.{backward}
use Rattle.source_courses.specs.Courses.{heap_of}
use Rattle.source_courses.proofs.Backwards.{back_freely, backward_is}
use Rattle.source_courses.proofs.moves.backward.Goals as goal

pub returns-in-None-clause-walk : goal.returns-in-None-clause-walk
returns-in-None-clause-walk c =
    ap (λ place. backward (trail (source_of c.args.run.now.checked.now) c.args.run.now.limits
    c.args.run.now.input.now.words.items MOST_COST) place c.args.most c.args.from) c.in-None.is
    ∙ back_freely (trail (source_of c.args.run.now.checked.now) c.args.run.now.limits
    c.args.run.now.input.now.words.items MOST_COST) c.args.most c.args.from ∙ sym c.back_by.ensures

pub returns-in_ok-ended-in-Some-clause-walk : goal.returns-in_ok-ended-in-Some-clause-walk
returns-in_ok-ended-in-Some-clause-walk c =
    let ended : IsEnded c.in_ok-ended-in-Some.ended (heap_of c.run_to.new.course)
    (watch.Latest c.in-Some.place c.saturating_sub.result c.args.from
    None) (trail (source_of c.args.run.now.checked.now) c.args.run.now.limits c.args.run.now.input.now.words.items
    MOST_COST) = search (rules, c.in_ok-ended-in-Some.ensures.ended) in
    ap (λ place. backward (trail (source_of c.args.run.now.checked.now) c.args.run.now.limits
    c.args.run.now.input.now.words.items MOST_COST) place c.args.most c.args.from) c.in-Some.is
    ∙ backward_is c.in_ok-ended-in-Some.ended (heap_of c.run_to.new.course)
    (trail (source_of c.args.run.now.checked.now) c.args.run.now.limits
    c.args.run.now.input.now.words.items MOST_COST) c.in-Some.place c.args.most c.args.from
    c.saturating_sub.result c.saturating_sub.ensures ended
    ∙ ap (λ w. back_to (latest_of w) c.args.most c.args.from) (sym c.watching_in.ensures)
    ∙ ap (λ l. back_to l c.args.most c.args.from) (sym c.latest_in.ensures)
    ∙ sym c.back_to.ensures
