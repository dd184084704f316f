use Rattle.std.proofs.Common.{◌∙◌, ap, sym, Ok}
use Rattle.debugger_scripts.specs.Scripts.{script_of}
use Rattle.image_commands.proofs.Short.{script_plan, script_short}
use Rattle.image_commands.proofs.debugging.debug_script.Goals as goal

pub returns-in-Ok-clause-plan : goal.returns-in-Ok-clause-plan
returns-in-Ok-clause-plan g c =
    script_plan (script_of c.args.script.now) c.args.image c.args.limits c.deref.result.now c.args.steps.now
    c.follow_script.new.steps c.follow_script.result (c.in-Ok.ensures ∙ ap (λ k. Ok k) (sym c.deref.ensures.value))
    c.follow_script.ensures.plan c.follow_script.ensures.counter

pub returns-in-Ok-clause-short : goal.returns-in-Ok-clause-short
returns-in-Ok-clause-short g c =
    script_short (script_of c.args.script.now) c.args.image c.args.limits c.deref.result.now c.args.steps.now
    c.follow_script.new.steps c.follow_script.result (c.in-Ok.ensures ∙ ap (λ k. Ok k) (sym c.deref.ensures.value))
    c.follow_script.ensures.short
