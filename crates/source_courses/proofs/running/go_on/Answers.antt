use Rattle.std.proofs.Common.{◌∙◌, sym, ap, subst}
use Rattle.std.specs.Prelude.{IfOk}
use Rattle.source_execution.specs.rpp_tree.Views.{source_of}
use Rattle.source_courses.specs.declared.running.TheConstants.{MOST_COST}
use Rattle.source_courses.specs.declared.watching.Watching.{Watching}
use Rattle.source_courses.specs.Watched.{wanted, behind}
use Rattle.source_courses.specs.Courses.{heap_of}
use Rattle.source_courses.specs.Ended.{IsStopped}
use Rattle.source_courses.proofs.Endings.{HasCome, come_here, come_further, is_over, is_at, is_stopped, stopped_holds}
use Rattle.source_courses.proofs.running.go_on.Goals as goal

pub loop-course-init : goal.loop-course-init
loop-course-init c =
    come_here (source_of c.args.run.now.checked.now) c.args.run.now.limits c.args.run.now.input.now.words.items
    MOST_COST c.args.course.now c.args.watching c.ahead-watch.result c.requires.under_way c.requires.sure
    c.ahead-watch.ensures

pub step-requires : goal.step-requires
step-requires c = record { whole = c.loop-course.invariant.way.whole; here = c.place-here.ensures }

pub arrive-requires : goal.arrive-requires
arrive-requires c = ap (wanted c.loop-course.watch) (sym c.place-here.ensures) ∙ sym c.wanted.ensures ∙ c.if-wanted.true

pub returns-then-wanted-clause-ended : goal.returns-then-wanted-clause-ended
returns-then-wanted-clause-ended c =
    is_at (source_of c.args.run.now.checked.now) c.args.run.now.limits c.args.run.now.input.now.words.items MOST_COST
    c.loop-course.course c.args.watching c.loop-course.watch c.loop-course.invariant c.arrive.result
    (ap (wanted c.loop-course.watch) (sym c.place-here.ensures) ∙ sym c.wanted.ensures ∙ c.if-wanted.true)
    c.arrive.ensures

pub returns-then-wanted-clause-holds : goal.returns-then-wanted-clause-holds
returns-then-wanted-clause-holds c = λ whole. c.loop-course.invariant.way

pub loop-course-preserved : goal.loop-course-preserved
loop-course-preserved c =
    subst (λ (w : Watching). HasCome (source_of c.args.run.now.checked.now) c.args.run.now.limits
    c.args.run.now.input.now.words.items MOST_COST c.step.new.course c.args.watching w)
    (sym (c.behind-watch.ensures ∙ ap (behind c.loop-course.watch) c.place-here.ensures))
    (come_further (source_of c.args.run.now.checked.now) c.args.run.now.limits c.args.run.now.input.now.words.items
    MOST_COST c.loop-course.course c.args.watching c.loop-course.watch c.loop-course.invariant
    (ap (wanted c.loop-course.watch) (sym c.place-here.ensures) ∙ sym c.wanted.ensures ∙ c.if-wanted.false)
    c.step.new.course c.in-Ok.ensures.gives c.in-Ok.ensures.setting c.in-Ok.ensures.whole c.in-Ok.ensures.passed)

pub returns-in-Err-clause-ended : goal.returns-in-Err-clause-ended
returns-in-Err-clause-ended c =
    is_stopped (source_of c.args.run.now.checked.now) c.args.run.now.limits c.args.run.now.input.now.words.items
    MOST_COST c.loop-course.course c.args.watching c.loop-course.watch c.loop-course.invariant c.broken.result
    (heap_of c.step.new.course) c.in-Err.stop c.step.new.course.fuel
    (ap (wanted c.loop-course.watch) (sym c.place-here.ensures) ∙ sym c.wanted.ensures ∙ c.if-wanted.false)
    c.in-Err.ensures.gives
    (subst (λ (w : Watching). IfOk c.broken.result (λ e. IsStopped c.in-Err.stop w e))
    (c.behind-watch.ensures ∙ ap (behind c.loop-course.watch) c.place-here.ensures) c.broken.ensures)

pub returns-in-Err-clause-holds : goal.returns-in-Err-clause-holds
returns-in-Err-clause-holds c =
    stopped_holds (source_of c.args.run.now.checked.now) c.args.run.now.limits c.args.run.now.input.now.words.items
    c.loop-course.course c.step.new.course c.in-Err.stop c.loop-course.invariant.way c.in-Err.ensures.breaks
    c.in-Err.ensures.stays c.step.ensures.setting

pub returns-clause-ended : goal.returns-clause-ended
returns-clause-ended c =
    is_over (source_of c.args.run.now.checked.now) c.args.run.now.limits c.args.run.now.input.now.words.items MOST_COST
    c.loop-course.course c.args.watching c.loop-course.watch c.loop-course.invariant
    (c.is_over.ensures.0 c.loop-course-test.false) c.program.ensures.accepted c.requires.run.in_range
    c.requires.run.valid

pub returns-clause-holds : goal.returns-clause-holds
returns-clause-holds c = λ whole. c.loop-course.invariant.way
