use Rattle.std.proofs.Common.{ap}
use Rattle.source_execution.specs.rpp_tree.Views.{source_of}
use Rattle.source_courses.specs.declared.running.Course.{Course}
use Rattle.source_courses.specs.declared.running.TheConstants.{MOST_COST}
use Rattle.source_courses.proofs.Rewound.{turns, turns_again}
use Rattle.source_courses.proofs.running.rewind.Goals as goal

pub go_back-requires-clause-turned : goal.go_back-requires-clause-turned
go_back-requires-clause-turned c =
    turns (source_of c.args.run.now.checked.now) c.args.run.now.limits c.args.run.now.input.now.words.items
    MOST_COST c.args.course.now c.turn.new.course c.requires.under_way c.turn.ensures.turned
    (ap (λ (k : Course). k.fuel) c.turn.ensures.same) (ap (λ (k : Course). k.passed) c.turn.ensures.same)
    c.turn.ensures.setting c.turn.ensures.whole

pub returns-then-not-course : goal.returns-then-not-course
returns-then-not-course c = record {
  holds = λ whole.
      turns_again (source_of c.args.run.now.checked.now) c.args.run.now.limits c.args.run.now.input.now.words.items
      MOST_COST c.go_back.new.course c.turn-then-not-course.new.course (c.go_back.ensures.turned c.if-not-course.true)
      c.turn-then-not-course.ensures.turned
      (ap (λ (k : Course). k.fuel) c.turn-then-not-course.ensures.same)
      (ap (λ (k : Course). k.passed) c.turn-then-not-course.ensures.same)
      c.turn-then-not-course.ensures.setting c.turn-then-not-course.ensures.whole;
}
