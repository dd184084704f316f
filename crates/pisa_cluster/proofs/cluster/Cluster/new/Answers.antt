use Rattle.std.proofs.Common.{sym, subst₂}
use Rattle.pisa_cluster.specs.Schedules.{IsCluster}
use Rattle.pisa_cluster.proofs.Undoing.{begun_cluster}
use Rattle.pisa_cluster.proofs.cluster.Cluster.new.Goals as goal

pub invariant_of-result : goal.invariant_of-result
invariant_of-result c =
    let begun = begun_cluster c.in_ok-processors.processors.items c.args.images.items c.args.cells
    c.in_ok-processors.ensures.started c.in_ok-processors.ensures.images in
    subst₂ (λ cells kept. IsCluster (record {
      joint = record
          { processors = c.in_ok-processors.processors.items; cells = cells };
      kept = kept;
      next_serial = 1;
    }))
    (sym c.in_ok-zeros.ensures) (sym c.new.ensures.items) begun
