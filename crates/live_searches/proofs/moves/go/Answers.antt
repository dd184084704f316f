use Rattle.std.specs.Prelude.{string_bytes}
use Rattle.live_searches.proofs.Single.{goes_by}
use Rattle.live_searches.proofs.moves.go.Goals as goal

pub returns-in-Ok : goal.returns-in-Ok
returns-in-Ok c =
    goes_by c.args.debugger.now c.command.new.self c.args.way (string_bytes c.args.text.now)
    (string_bytes c.command.new.out) c.in-Ok.ensures.told.0 c.position-from.result c.is_at.result c.step_by.result
    c.in-Ok.ensures.told.1 c.in-Ok.ensures.told.2 c.position-from.ensures c.is_at.ensures c.step_by.ensures
