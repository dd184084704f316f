use Rattle.std.proofs.Common.{◌∙◌, sym, ap, List, ℕ}
use Rattle.std.specs.Prelude.{option_map}
use Rattle.live_searches.specs.rpp_tree.Views.{source_of}
use Rattle.live_searches.specs.source_debugger.Failures.{account_of}
use Rattle.live_talks.specs.live_requests.Requests.{request_name}
use Rattle.live_searches.specs.Values.{variable_value_at}
use Rattle.live_session.proofs.Looks.{value_told}
use Rattle.live_session.proofs.telling.tell_name.Goals as goal

pub returns-clause-told : goal.returns-clause-told
returns-clause-told c =
    value_told c.args.debugger.now c.tell_value.new.debugger
    (variable_value_at (source_of c.args.debugger.now.program) (account_of c.args.debugger.now).trail
    (request_name c.args.line.now) c.args.debugger.now.position)
    (option_map (λ line. line.items) c.in_ok-value.value) c.in_ok-reply.reply.items c.tell_value.ensures.stays
    (ap (λ (name : List ℕ). variable_value_at (source_of c.args.debugger.now.program)
    (account_of c.args.debugger.now).trail
    name c.args.debugger.now.position) (sym c.name_in.ensures) ∙ c.in_ok-value.ensures.told)
    c.in_ok-reply.ensures
