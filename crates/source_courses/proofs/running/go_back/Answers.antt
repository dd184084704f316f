use Rattle.std.proofs.Common.{◌<◌, arith}
use Rattle.source_execution.specs.rpp_tree.Views.{source_of}
use Rattle.source_courses.specs.declared.running.TheConstants.{MOST_COST}
use Rattle.source_courses.proofs.Rewound.{stepped_back}
use Rattle.source_courses.proofs.running.go_back.Goals as goal

pub step_back-requires-clause-whole : goal.step_back-requires-clause-whole
step_back-requires-clause-whole c = c.loop-course.invariant.whole

pub step_back-requires-clause-some : goal.step_back-requires-clause-some
step_back-requires-clause-some c = let more = c.loop-course-test.true in omega arith

pub loop-course-preserved : goal.loop-course-preserved
loop-course-preserved c =
    let more = c.loop-course-test.true in
    let some : 0 < c.loop-course.course.passed = omega arith in
    stepped_back (source_of c.args.run.now.checked.now) c.args.run.now.limits c.args.run.now.input.now.words.items
    MOST_COST c.loop-course.course c.step_back.new.course c.steps_are_undone.ensures c.program.ensures.accepted
    c.requires.run.in_range c.requires.run.valid c.loop-course.invariant some c.in-Ok.ensures.gives
    c.in-Ok.ensures.setting c.in-Ok.ensures.whole c.in-Ok.ensures.passed c.in-Ok.ensures.less
