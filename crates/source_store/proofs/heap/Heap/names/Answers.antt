use Rattle.std.proofs.Common.{◌≡◌, ◌+◌, length, sym, ap, ◌∙◌, arith}
use Rattle.meaning_machine.specs.buddy_book.Place.{count_taken}
use Rattle.meaning_machine.specs.roopl_semantics.Store.{object_named}
use Rattle.source_store.proofs.Tables.{named_past}
use Rattle.source_store.proofs.heap.Heap.names.Goals as goal

pub returns-clause-few : goal.returns-clause-few
returns-clause-few c =
    let many = c.places_of.ensures ∙ ap length c.deref.ensures.value in
    let few = c.self.invariant.few in
    omega arith

pub returns-clause-above : goal.returns-clause-above
returns-clause-above c = c.places_of.ensures ∙ ap length c.deref.ensures.value ∙ c.self.invariant.next
    ∙ ap (λ k. 2 + count_taken k.log) c.self.view_is

pub returns-clause-past : goal.returns-clause-past
returns-clause-past c = λ name h.
    let e : c.places_of.result ≡ length c.self.inside.objects.items = c.places_of.ensures
    ∙ ap length c.deref.ensures.value in
    sym (ap (λ k. object_named k.store name) c.self.view_is) ∙ named_past c.self.inside.objects.items name (omega arith)
