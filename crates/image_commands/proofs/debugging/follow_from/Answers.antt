use Rattle.std.proofs.Common.{◌∙◌, ◌+◌, ap, take}
use Rattle.two_way_debugger.specs.pisa_machine.Position.{Position}
use Rattle.two_way_debugger.specs.Shown.{spent_in}
use Rattle.image_commands.specs.DebugPlans.{MovesSome}
use Rattle.image_commands.proofs.debugging.follow_from.Goals as goal
use Rattle.command_plan.proofs.pisa_scripts_laws.Errors.{on_err_always}

pub returns-in_err-follow-clause-short : goal.returns-in_err-follow-clause-short
returns-in_err-follow-clause-short g c =
    let along = c.in_err-follow.ensures.along in
    on_err_always c.from_residual.result
    (MovesSome c.args.commands.now c.args.machine c.args.steps.now c.follow.new.steps)
    (record {
      made = along.made;
      counter = along.counter ∙ ap (λ (p : Position). c.args.steps.now + spent_in (take along.made
          c.args.commands.now) p) c.new-debugger.ensures;
    })
