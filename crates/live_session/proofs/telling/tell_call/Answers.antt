use Rattle.std.specs.Prelude.{option_map, string_bytes}
use Rattle.live_session.proofs.Looks.{call_told}
use Rattle.live_session.proofs.telling.tell_call.Goals as goal

pub returns-clause-told : goal.returns-clause-told
returns-clause-told c =
    call_told c.args.debugger.now c.call.new.self c.args.depth (option_map string_bytes c.in_ok-text.text)
    (string_bytes c.in_ok-reply.reply) c.in_ok-text.ensures.told c.call.ensures.stays c.in_ok-reply.ensures
