use Rattle.std.proofs.Common.{sym}
use Rattle.rpp_probes.proofs.Folds.{left_none}
use Rattle.pisa_machine.proofs.machine.Machine.tell_sure.Goals as goal

pub returns-then-sure-eq0-clause-told : goal.returns-then-sure-eq0-clause-told
returns-then-sure-eq0-clause-told g c = sym (left_none (g.P.Probes.watches c.args.probes.now))
