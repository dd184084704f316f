use Rattle.std.proofs.Common.{map}
use Rattle.std.specs.Prelude.{string_bytes}
use Rattle.live_session.proofs.Carried.{moved_ok}
use Rattle.live_session.proofs.telling.carry_moves.Goals as goal

pub returns-in-Ok-clause-told : goal.returns-in-Ok-clause-told
returns-in-Ok-clause-told c =
    moved_ok string_bytes c.ended_moves.result c.args.debugger.now c.make.new.debugger c.args.limit c.args.ask
    c.limited_ask.result (map (λ word. word.now) c.args.words.now) (map (λ word. word.now) c.arguments.result.now)
    (string_bytes c.in-Ok.moved.text) c.in-Ok.moved.how c.limited_ask.ensures c.arguments.ensures
    c.in-Ok.ensures.told c.make.ensures.same c.ended_moves.ensures.told
