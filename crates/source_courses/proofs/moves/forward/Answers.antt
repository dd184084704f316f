use Rattle.std.proofs.Common.{◌∙◌, sym, ap, Some}
use Rattle.source_execution.specs.rpp_tree.Views.{source_of}
use Rattle.source_execution.specs.meaning_points.Trail.{trail}
use Rattle.source_courses.specs.declared.running.TheConstants.{MOST_COST}
use Rattle.source_courses.specs.Courses.{heap_of}
use Rattle.source_courses.proofs.Onwards.{forward_is}
use Rattle.source_courses.proofs.moves.forward.Goals as goal

pub returns-clause-walk : goal.returns-clause-walk
returns-clause-walk c =
    forward_is c.in_ok-ended.ended (heap_of c.run_to.new.course)
    (trail (source_of c.args.run.now.checked.now) c.args.run.now.limits
    c.args.run.now.input.now.words.items MOST_COST) c.args.place c.args.from c.goal_of-goal.result c.args.most
    c.in_ok-ended.ensures.ended c.requires.within c.goal_of-goal.ensures
    ∙ ap Some (sym c.reached.ensures)
