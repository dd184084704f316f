use Rattle.std.proofs.Common.{◌∙◌, ap, sym, subst, map, All, ◌++◌, ◌∷◌, []}
use Rattle.std.proofs.lemmas.List.{map-append}
use Rattle.std.proofs.lemmas.List.Elements.{All-push}
use Rattle.pisa_isa.specs.Image.{IsImage}
use Rattle.pisa_cluster.specs.declared.processor.Processor.{Processor}
use Rattle.pisa_cluster.specs.Replay.{started_processor}
use Rattle.pisa_cluster.proofs.cluster.started_all.Goals as goal

pub loop-image-preserved : goal.loop-image-preserved
loop-image-preserved c =
    let made = c.started.ensures.processor in (
      c.in_ok-push.ensures.items ∙ ap (λ ps. ps ++ c.started.result ∷ []) c.loop-image.invariant.0
          ∙ ap (λ p. map started_processor c.loop-image.yielded ++ p ∷ []) made
          ∙ sym (map-append started_processor c.loop-image.yielded (c.in-Some.image ∷ [])),
      subst (All (λ (p : Processor). IsImage p.image)) (sym c.in_ok-push.ensures.items)
          (All-push (λ (p : Processor). IsImage p.image) c.loop-image.processors.items c.started.result
          c.loop-image.invariant.1 c.started.ensures.image),
    )
