use Rattle.std.proofs.Common.{refl}
use Rattle.std.specs.Prelude.{string_bytes}
use Rattle.live_searches.specs.declared.moves.Outcome.TheVariants.{Made}
use Rattle.live_searches.proofs.Seeking.{stop_told}
use Rattle.live_searches.proofs.Single.{stays_same}
use Rattle.live_searches.proofs.searches.stop.Goals as goal

pub returns-clause-told : goal.returns-clause-told
returns-clause-told c =
    stop_told c.args.debugger.now c.command.new.self (string_bytes c.new-text.result)
    (string_bytes c.command.new.out) c.in_ok-command.ensures.told.0
    (record { text = c.command.new.out; how = Made }) c.in_ok-command.ensures.told.1 c.new-text.ensures.bytes
    c.in_ok-command.ensures.told.2 refl refl

pub returns-clause-same : goal.returns-clause-same
returns-clause-same c = c.in_ok-command.ensures.told.1.same

pub returns-in_err-command-clause-same : goal.returns-in_err-command-clause-same
returns-in_err-command-clause-same c =
    stays_same c.args.debugger.now c.command.new.self c.in_err-command.ensures.stays
