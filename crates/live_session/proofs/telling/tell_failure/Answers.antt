use Rattle.std.specs.Prelude.{option_map, string_bytes}
use Rattle.live_session.proofs.Looks.{failure_told}
use Rattle.live_session.proofs.telling.tell_failure.Goals as goal

pub returns-clause-told : goal.returns-clause-told
returns-clause-told c =
    failure_told c.args.debugger.now c.failure.new.self c.args.limit c.args.detail
    (option_map string_bytes c.in_ok-text.text) (string_bytes c.in_ok-reply.reply) c.failure.ensures.stays
    c.in_ok-text.ensures.told c.in_ok-reply.ensures
