use Rattle.std.proofs.Common.{◌∙◌, ◌++◌, ap, subst, List, ℕ, ◌∷◌, []}
use Rattle.live_requests.specs.pisa_scripts.declared.command.Command.{Command}
use Rattle.source_debugger.specs.Standing.{CommandsLead}
use Rattle.live_searches.specs.Goals.{prefixed_lines}
use Rattle.live_searches.proofs.Looking.{look_stays, watched_lines}
use Rattle.live_searches.proofs.goals.watched_lines.Goals as goal

pub returns-clause-told : goal.returns-clause-told
returns-clause-told c =
    watched_lines c.args.debugger.now c.command.new.self c.args.watch.now.object c.in_ok-command.ensures.told.0
    c.as_bytes.result.now c.args.watch.now.start.items c.in_ok-lines.lines.items
    (subst (λ (command : Command). CommandsLead c.args.debugger.now (command ∷ []) c.command.new.self
    c.in_ok-command.ensures.told.0) c.look_command.ensures c.in_ok-command.ensures.told.1)
    (c.as_bytes.ensures.value ∙ c.as_str.ensures.value ∙ c.in_ok-command.ensures.told.2
    ∙ ap (λ (old : List ℕ). old ++ c.in_ok-command.ensures.told.0) c.new-text.ensures.bytes)
    (c.in_ok-lines.ensures ∙ ap (λ (start : List ℕ). prefixed_lines start c.as_bytes.result.now) c.deref.ensures.value)

pub returns-clause-stays : goal.returns-clause-stays
returns-clause-stays c =
    look_stays c.args.debugger.now c.command.new.self c.args.watch.now.object c.in_ok-command.ensures.told.0
    (subst (λ (command : Command). CommandsLead c.args.debugger.now (command ∷ []) c.command.new.self
    c.in_ok-command.ensures.told.0) c.look_command.ensures c.in_ok-command.ensures.told.1)

pub returns-in_err-lines-clause-stays : goal.returns-in_err-lines-clause-stays
returns-in_err-lines-clause-stays c =
    look_stays c.args.debugger.now c.command.new.self c.args.watch.now.object c.in_ok-command.ensures.told.0
    (subst (λ (command : Command). CommandsLead c.args.debugger.now (command ∷ []) c.command.new.self
    c.in_ok-command.ensures.told.0) c.look_command.ensures c.in_ok-command.ensures.told.1)
