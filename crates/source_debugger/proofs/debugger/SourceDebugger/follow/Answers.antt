use Rattle.source_courses.specs.pisa_scripts.declared.command.Command.TheVariants.{Step}
use Rattle.std.proofs.Common.{arith, ap, ◌∙◌, ◌++◌, subst, sym}
use Rattle.std.specs.Prelude.{string_bytes}
use Rattle.source_debugger.specs.Standing.{IsAlongRun}
use Rattle.source_debugger.proofs.Following.{followed_more, followed_over, followed_along}
use Rattle.source_courses.proofs.pisa_scripts_laws.Errors.{on_err_always}
use Rattle.source_debugger.proofs.debugger.SourceDebugger.follow.Goals as goal

pub loop-command-preserved : goal.loop-command-preserved
loop-command-preserved c =
    followed_more _ _ _ c.args.script.now c.loop-command.command-index (Step 0) _ c.in_ok-command.ensures.told.0 _
    c.loop-command-test.true c.loop-command.invariant c.in_ok-command.ensures.told.1 c.in_ok-command.ensures.told.2

pub returns-in_err-command-clause-along : goal.returns-in_err-command-clause-along
returns-in_err-command-clause-along c =
    on_err_always c.from_residual.result (IsAlongRun c.args.self.now c.args.script.now c.command.new.self)
    (subst (λ s. IsAlongRun c.args.self.now c.args.script.now s) (sym c.in_err-command.ensures.stays)
    (followed_along c.args.self.now c.loop-command.self c.args.script.now c.loop-command.command-index _
    c.loop-command.invariant))

pub returns-in_err-push_str-clause-along : goal.returns-in_err-push_str-clause-along
returns-in_err-push_str-clause-along c =
    on_err_always c.from_residual-in_err-push_str.result
    (IsAlongRun c.args.self.now c.args.script.now c.loop-command.self)
    (followed_along c.args.self.now c.loop-command.self c.args.script.now c.loop-command.command-index _
    c.loop-command.invariant)

pub returns-clause-told : goal.returns-clause-told
returns-clause-told c = (
  string_bytes c.loop-command.text,
  followed_over c.args.self.now c.loop-command.self c.args.script.now c.loop-command.command-index _
      (omega arith) c.loop-command.invariant,
  c.in_ok-push_str.ensures.bytes ∙ ap (λ t. string_bytes c.args.out.now ++ t) c.as_str.ensures.value,
)
