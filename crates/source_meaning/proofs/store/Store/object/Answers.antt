use Rattle.std.proofs.Common.{◌∙◌, ap, subst, None}
use Rattle.std.specs.Prelude.{slice_get}
use Rattle.std.specs.Option.{unwrap_or, option_map}
use Rattle.source_execution.specs.roopl_semantics.Store.{object_named}
use Rattle.source_execution.specs.roopl_semantics.Laws.{CountsReferences}
use Rattle.source_meaning.specs.Numbers.{numbers_of, seen_object}
use Rattle.source_meaning.proofs.store.Store.object.Goals as goal

pub returns-clause-object : goal.returns-clause-object
returns-clause-object c =
    c.object_in.ensures
    ∙ ap (λ xs. option_map seen_object (unwrap_or (slice_get xs c.args.name) None)) c.deref.ensures.value
    ∙ c.self.invariant.0.each c.args.name
    ∙ ap (λ s. option_map numbers_of (object_named s c.args.name)) c.self.view_is

pub returns-clause-counts : goal.returns-clause-counts
returns-clause-counts c = subst CountsReferences c.self.view_is c.self.invariant.1
