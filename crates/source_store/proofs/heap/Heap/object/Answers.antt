use Rattle.std.proofs.Common.{sym, ap, ◌∙◌}
use Rattle.std.specs.Prelude.{slice_get}
use Rattle.meaning_machine.specs.roopl_semantics.Store.{object_named}
use Rattle.source_store.specs.HeapView.{live_in}
use Rattle.source_store.proofs.Tables.{object_named_store}
use Rattle.source_store.proofs.heap.Heap.object.Goals as goal

pub returns : goal.returns
returns c =
    c.object_in.ensures
    ∙ ap (λ t. live_in (slice_get t c.args.name)) c.deref.ensures.value
    ∙ sym (object_named_store c.self.inside.objects.items c.args.name)
    ∙ ap (λ k. object_named k.store c.args.name) c.self.view_is
