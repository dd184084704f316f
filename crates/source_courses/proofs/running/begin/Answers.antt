use Rattle.std.proofs.Common.{refl, false}
use Rattle.source_execution.specs.rpp_tree.Views.{source_of}
use Rattle.source_courses.specs.declared.running.TheConstants.{MOST_COST}
use Rattle.source_courses.specs.declared.running.Course.{Course}
use Rattle.source_courses.proofs.Endings.{begins_here}
use Rattle.source_courses.proofs.running.begin.Goals as goal

pub returns-clause-starts : goal.returns-clause-starts
returns-clause-starts c =
    let course : Course = record {
      execution = c.in_ok-execution.execution;
      fuel = MOST_COST;
      passed = 0;
      broken = false;
    } in
    begins_here (source_of c.args.run.now.checked.now) c.args.run.now.limits c.args.run.now.input.now.words.items
    MOST_COST course refl refl c.in_ok-execution.ensures.setting c.in_ok-execution.ensures.start
    c.in_ok-execution.ensures.whole
