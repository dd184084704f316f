use Rattle.std.proofs.Common.{◌≡◌, All, map}
use Rattle.pisa_isa.specs.Image.{IsImage}
use Rattle.pisa_cluster.specs.declared.processor.Processor.{Processor}
use Rattle.pisa_cluster.specs.Replay.{started_processor}
use Rattle.pisa_cluster.proofs.cluster.started_all.Given as goal

abbrev pub invariant-loop-image : goal.invariant-loop-image
invariant-loop-image l = (l.processors.items ≡ map started_processor l.yielded)
    × All (λ (p : Processor). IsImage p.image) l.processors.items
