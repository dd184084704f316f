use Rattle.std.proofs.Common.{◌∙◌, sym, subst, None}
use Rattle.source_execution.specs.rpp_tree.Views.{source_of}
use Rattle.source_execution.specs.meaning_points.Trail.{trail}
use Rattle.source_courses.specs.declared.watching.Watching.TheVariants as watch
use Rattle.source_courses.specs.declared.running.TheConstants.{MOST_COST}
use Rattle.source_courses.specs.Ended.{IsEnded}
use Rattle.source_courses.specs.Courses.{heap_of}
use Rattle.source_courses.proofs.Endings.{placed_at, placed_end}
use Rattle.source_courses.proofs.places.place_at.Goals as goal

pub returns-in-At-clause-stands : goal.returns-in-At-clause-stands
returns-in-At-clause-stands c =
    placed_at (trail (source_of c.args.run.now.checked.now) c.args.run.now.limits c.args.run.now.input.now.words.items
    MOST_COST) c.args.position c.in-At.arrival (heap_of c.run_to.new.course) c.in-At.watching
    (subst (λ e. IsEnded e (heap_of c.run_to.new.course) (watch.First None 0 c.args.position)
    (trail (source_of c.args.run.now.checked.now) c.args.run.now.limits c.args.run.now.input.now.words.items
    MOST_COST)) c.in-At.is c.in_ok-arrival.ensures.ended)

pub returns-then-left_in-eq0-clause-stands : goal.returns-then-left_in-eq0-clause-stands
returns-then-left_in-eq0-clause-stands c =
    placed_end (trail (source_of c.args.run.now.checked.now) c.args.run.now.limits c.args.run.now.input.now.words.items
    MOST_COST) c.args.position (heap_of c.run_to.new.course) c.in-Over.watching
    (subst (λ e. IsEnded e (heap_of c.run_to.new.course) (watch.First None 0 c.args.position)
    (trail (source_of c.args.run.now.checked.now) c.args.run.now.limits c.args.run.now.input.now.words.items
    MOST_COST)) c.in-Over.is c.in_ok-arrival.ensures.ended)
    (sym c.left_in.ensures ∙ c.if-left_in-eq0.true)
