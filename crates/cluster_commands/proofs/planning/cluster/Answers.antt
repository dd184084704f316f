use Rattle.std.proofs.Common.{◌≡◌, subst, subst₂, map, ◌++◌}
use Rattle.std.specs.Prelude.{string_bytes}
use Rattle.std.proofs.lemmas.Result.{err_from_is_err_and}
use Rattle.command_plan.specs.Plans.{planned}
use Rattle.command_plan.proofs.TwoReads.{then_reads}
use Rattle.cluster_commands.specs.ClusterPlans.{images_at, WithImages, IsClusterPlan}
use Rattle.cluster_commands.proofs.TextsOn.{plan_read, fails_for}
use Rattle.cluster_commands.proofs.planning.cluster.Goals as goal

pub returns-in_err-read_images-clause-reads : goal.returns-in_err-read_images-clause-reads
returns-in_err-read_images-clause-reads g c =
    let p = err_from_is_err_and c.from_residual-in_err-read_images.result c.from_residual-in_err-read_images.ensures.1
    in
    let both = then_reads _ _ _ _ _ _ _ _ _ _ c.in_ok-script.ensures.reads c.read_images.ensures.reads in
    fails_for _ _ _ _ _ c.read_images.result c.in_err-read_images.field-0.0 p.0
    c.from_residual-in_err-read_images.result c.in_err-read_images.was p.1 p.2 both

pub returns-clause-plan : goal.returns-clause-plan
returns-clause-plan g c =
    plan_read (g.S.Shelf.texts c.args.shelf.now) (g.S.Shelf.texts c.read_file.new.shelf) c.args.script.now 65536
    (map string_bytes c.args.images.now) c.in_ok-script.script.items
    (map (λ v. v.items) c.read_images.new.texts.items)
    (λ text read. IsClusterPlan (images_at read) text c.args.cells (planned c.in_ok-cluster_over.field-0))
    c.in_ok-script.ensures.reads.kept c.in_ok-script.ensures.text c.in_ok-script.ensures.within
    (subst (λ texts. WithImages (g.S.Shelf.texts c.read_file.new.shelf) (map string_bytes c.args.images.now)
    (λ r. map (λ v. v.items) c.read_images.new.texts.items ≡ map (λ v. v.items) texts ++ r))
    c.new-texts.ensures.items c.in_ok-read_images.ensures.text)
    (subst₂ (λ texts script. IsClusterPlan (images_at (map (λ v. v.items) texts)) script c.args.cells
    (planned c.in_ok-cluster_over.field-0)) c.deref-2.ensures.value c.deref.ensures.value
    c.in_ok-cluster_over.ensures)
