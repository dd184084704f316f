use Rattle.std.proofs.Common.{◌∙◌, ◌++◌, ◌∷◌, [], ap, map, string_bytes, arith}
use Rattle.std.proofs.lemmas.List.{map-append}
use Rattle.rpp_probes.proofs.Told.{drops_at}
use Rattle.rpp_probes.proofs.telling.drop_at.Goals as goal

pub returns-clause-dropped : goal.returns-clause-dropped
returns-clause-dropped g c =
    drops_at _ c.args.probes.now.items _ c.args.at c.index.result.now _ _ (omega arith) c.index.ensures
    c.remove-ended.ensures.items
    (ap (map string_bytes) c.in_ok-push.ensures.items ∙ map-append string_bytes c.args.lines.now.items
    (c.in_ok-line.line ∷ [])
    ∙ ap (λ line. map string_bytes c.args.lines.now.items ++ line ∷ []) c.in_ok-line.ensures)
