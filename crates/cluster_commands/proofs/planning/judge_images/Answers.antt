use Rattle.std.proofs.Common.{◌≡◌, ◌∙◌, sym, ap, subst, List, [], ◌∷◌, ℕ, ◌+◌, map, drop, length, Vec, Global}
use Rattle.std.proofs.lemmas.List.{length-append}
use Rattle.pisa_cluster.specs.pisa_isa.Image.{Segments}
use Rattle.command_plan.specs.pisa_image.Reading.{image_at}
use Rattle.cluster_commands.specs.ClusterPlans.{images_at}
use Rattle.cluster_commands.proofs.ImagesOn.{with_front, image_read}
use Rattle.cluster_commands.proofs.planning.judge_images.Goals as goal

pub loop-text-preserved : goal.loop-text-preserved
loop-text-preserved c =
    let texts = c.args.texts.now in
    let i = c.loop-text.text-index in
    let text = c.text-item.result in
    let read = ap (λ (v : Vec ℕ Global). image_at v.items) (sym c.text-item.is)
    ∙ ap image_at (sym c.deref.ensures.value) ∙ c.in_ok-noted.ensures.exact in
    let so_far = image_read (λ (v : Vec ℕ Global). v.items) texts i text c.loop-text.images.items c.in_ok-noted.noted
    c.into_parts.result.0
    (images_at (map (λ (v : Vec ℕ Global). v.items) texts)) c.loop-text-test.true read c.into_parts.ensures.image
    c.loop-text.invariant.so_far in
    let pushed = c.in_ok-push.ensures.items in
    record {
      so_far = subst (λ (images : List Segments). with_front images
          (images_at (map (λ (v : Vec ℕ Global). v.items) (drop (i + 1) texts)))
          ≡ images_at (map (λ (v : Vec ℕ Global). v.items) texts)) (sym pushed) so_far;
      count = ap length pushed ∙ length-append c.loop-text.images.items (c.into_parts.result.0 ∷ [])
          ∙ ap (λ k. k + 1) c.loop-text.invariant.count;
    }
