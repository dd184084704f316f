use Rattle.std.proofs.Common.{◌+◌, ◌*◌, length}
use Rattle.source_execution.specs.rpp_tree.Views.{source_of}
use Rattle.source_execution.specs.Standing.{config_at}
use Rattle.source_courses.specs.declared.running.TheConstants.{MOST_COST}
use Rattle.source_courses.specs.Courses.{IsTurned}
use Rattle.source_courses.proofs.running.go_back.Given as goal

abbrev pub invariant-loop-course : goal.invariant-loop-course
invariant-loop-course l =
    IsTurned (source_of l.run.checked.now) l.run.limits l.run.input.now.words.items MOST_COST l.course

abbrev pub decreases-loop-course : goal.decreases-loop-course
decreases-loop-course l = 2 * l.course.fuel + length (config_at l.course.execution).around
