use Rattle.std.proofs.Common.{refl, arith}
use Rattle.rpp_probes.proofs.Told.{tells_at}
use Rattle.rpp_probes.proofs.telling.tell_at.Goals as goal

pub returns-clause-told : goal.returns-clause-told
returns-clause-told g c =
    tells_at _ c.args.step c.args.probes.now.items _ c.args.at c.index_mut.result.now c.tell.new.probe c.tell.result
    (omega arith) c.index_mut.ensures.value refl c.tell.ensures.told c.tell.ensures.goes_on
