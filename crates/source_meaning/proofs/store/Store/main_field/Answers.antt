use Rattle.std.proofs.Common.{◌∙◌, ap}
use Rattle.std.specs.Prelude.{slice_get}
use Rattle.std.specs.Option.{unwrap_or}
use Rattle.source_execution.specs.roopl_semantics.Store.{Nil, main_name, number_of, object_at}
use Rattle.source_meaning.proofs.store.Store.main_field.Goals as goal

pub returns : goal.returns
returns c =
    c.number.ensures ∙ ap number_of c.part.ensures
    ∙ ap (λ s. number_of (unwrap_or (slice_get (object_at s main_name).cells c.args.field) Nil)) c.self.view_is
