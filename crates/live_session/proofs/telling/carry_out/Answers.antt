use Rattle.std.proofs.Common.{◌∙◌, ◌++◌, ap, List, ℕ}
use Rattle.std.specs.Prelude.{string_bytes}
use Rattle.live_session.proofs.Answering.{same_run}
use Rattle.live_session.proofs.Carried.{carried_ok}
use Rattle.live_session.proofs.telling.carry_out.Goals as goal

pub returns-in-Ok-clause-told : goal.returns-in-Ok-clause-told
returns-in-Ok-clause-told c =
    carried_ok string_bytes c.ended.result c.args.debugger.now c.command.new.self c.args.limit c.args.command
    c.limited.result c.position-from.result c.position.result c.in-Ok.ensures.told.0 (string_bytes c.command.new.out)
    c.in-Ok.ensures.told.1 c.limited.ensures c.position-from.ensures c.position.ensures
    (c.in-Ok.ensures.told.2 ∙ ap (λ (s : List ℕ). s ++ c.in-Ok.ensures.told.0) c.new-text.ensures.bytes)
    c.ended.ensures.told

pub returns-in-Ok-clause-same : goal.returns-in-Ok-clause-same
returns-in-Ok-clause-same c = c.in-Ok.ensures.told.1.same

pub returns-in-Err-clause-same : goal.returns-in-Err-clause-same
returns-in-Err-clause-same c = same_run c.args.debugger.now c.command.new.self c.in-Err.ensures.stays
