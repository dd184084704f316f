use Rattle.std.proofs.Common.{◌∙◌, ◌++◌, ap, subst, List, ℕ, ◌∷◌, []}
use Rattle.std.specs.Prelude.{option_map}
use Rattle.live_requests.specs.pisa_scripts.declared.command.Command.{Command}
use Rattle.source_debugger.specs.Standing.{CommandsLead}
use Rattle.live_searches.specs.Sights.{watch_in}
use Rattle.live_searches.specs.Values.{value_by}
use Rattle.live_searches.proofs.Looking.{look_stays}
use Rattle.live_searches.proofs.Valued.{valued}
use Rattle.live_searches.proofs.values.tell_value.Goals as goal

pub returns-clause-told : goal.returns-clause-told
returns-clause-told c =
    valued c.args.debugger.now c.command.new.self (watch_in c.in_ok-watch.watch) c.args.name.now
    c.in_ok-command.ensures.told.0 c.as_bytes.result.now (option_map (λ line. line.items) c.in_ok-line.line)
    c.in_ok-watch.ensures
    (subst (λ (command : Command). CommandsLead c.args.debugger.now (command ∷ []) c.command.new.self
    c.in_ok-command.ensures.told.0) c.look_command.ensures c.in_ok-command.ensures.told.1)
    (c.as_bytes.ensures.value ∙ c.as_str.ensures.value ∙ c.in_ok-command.ensures.told.2
    ∙ ap (λ (old : List ℕ). old ++ c.in_ok-command.ensures.told.0) c.new-text.ensures.bytes)
    (c.in_ok-line.ensures ∙ ap (λ (start : List ℕ). value_by start c.as_bytes.result.now) c.deref.ensures.value)

pub returns-clause-stays : goal.returns-clause-stays
returns-clause-stays c =
    look_stays c.args.debugger.now c.command.new.self c.in_ok-watch.watch.object c.in_ok-command.ensures.told.0
    (subst (λ (command : Command). CommandsLead c.args.debugger.now (command ∷ []) c.command.new.self
    c.in_ok-command.ensures.told.0) c.look_command.ensures c.in_ok-command.ensures.told.1)

pub returns-in_err-line-clause-stays : goal.returns-in_err-line-clause-stays
returns-in_err-line-clause-stays c =
    look_stays c.args.debugger.now c.command.new.self c.in_ok-watch.watch.object c.in_ok-command.ensures.told.0
    (subst (λ (command : Command). CommandsLead c.args.debugger.now (command ∷ []) c.command.new.self
    c.in_ok-command.ensures.told.0) c.look_command.ensures c.in_ok-command.ensures.told.1)
