use Rattle.std.proofs.Common.{◌≡◌, ◌-◌, sym, ap, ◌∙◌, arith, Some, length, slice_get, refl}
use Rattle.meaning_machine.specs.roopl_semantics.Execution.{order_of_cells}
use Rattle.source_store.specs.declared.object.Object.{Object as Live}
use Rattle.source_store.specs.declared.requests.Request.TheVariants as asked
use Rattle.source_store.specs.ValueView.{kept_head, values_of}
use Rattle.source_store.specs.HeapView.{before_give, kept_of, is_free_slot}
use Rattle.source_store.proofs.TakenBack.{log_of_none, log_of_some, free_slot, ungave_so, ungave_shown}
use Rattle.source_store.proofs.heap.Heap.ungive.Goals as goal

pub invariant_of-self-in-Some : goal.invariant_of-self-in-Some
invariant_of-self-in-Some c =
    let newest = sym (ap (λ l. slice_get l (length l - 1)) c.deref.ensures.value) ∙ sym c.newest.ensures
    ∙ c.in-Some-Given.is ∙ ap (λ r. Some r) c.in-Some-Given.field-0-is in
    let e = c.in-Some.ensures in
    let l = c.len.ensures in
    let k = c.args.cells.ok.0 in
    let many : c.len.result ≡ length c.args.cells.items = omega arith in
    let live : Live = record { head = c.args.head; count = 1; cells = c.args.cells; block = Some c.in-Some.block } in
    let is_free = c.if-not-is_free.false in
    let test = c.is_free.ensures in
    let free = free_slot (slice_get c.self.inside.objects.items c.in-Some-Given.name)
    (sym is_free ∙ test ∙ ap (λ t. is_free_slot (slice_get t c.in-Some-Given.name))
    c.deref-in-Some-Given.ensures.value) in
    ungave_so c.self.inside.order c.self.inside.book c.self.inside.objects.items c.self.inside.log.items
    c.forget.new.log.items live c.in-Some-Given.name c.in-Some.block c.in-Some-Given.order c.fill.new.slot
    c.self.invariant newest c.forget.ensures free
    (c.if-order-order_of.false ∙ c.order_of.ensures ∙ ap (λ n. order_of_cells n) many) refl c.fill.ensures c.take.new.self
    e.from_base e.takes e.taken e.heap

pub returns-in-None-clause-ungiven : goal.returns-in-None-clause-ungiven
returns-in-None-clause-ungiven c =
    let newest = sym (ap (λ l. slice_get l (length l - 1)) c.deref.ensures.value) ∙ sym c.newest.ensures
    ∙ c.in-None.is in
    ap (λ k. before_give k (kept_head c.args.head) (values_of c.args.cells.items) k.log) (sym c.self.view_is)
    ∙ ap (before_give (kept_of c.self.inside.order c.self.inside.objects.items c.self.inside.log.items)
    (kept_head c.args.head) (values_of c.args.cells.items)) (log_of_none c.self.inside.log.items newest)

pub returns-in-Some-Taken-clause-ungiven : goal.returns-in-Some-Taken-clause-ungiven
returns-in-Some-Taken-clause-ungiven c =
    let newest = sym (ap (λ l. slice_get l (length l - 1)) c.deref.ensures.value) ∙ sym c.newest.ensures
    ∙ c.in-Some-Taken.is ∙ ap (λ r. Some r) c.in-Some-Taken.field-0-is in
    ap (λ k. before_give k (kept_head c.args.head) (values_of c.args.cells.items) k.log) (sym c.self.view_is)
    ∙ ap (before_give (kept_of c.self.inside.order c.self.inside.objects.items c.self.inside.log.items)
    (kept_head c.args.head) (values_of c.args.cells.items)) (log_of_some c.self.inside.log.items
    (asked.Taken c.in-Some-Taken.field-0-0 c.in-Some-Taken.field-0-1) newest)

pub returns-in-Some-clause-ungiven : goal.returns-in-Some-clause-ungiven
returns-in-Some-clause-ungiven c =
    let newest = sym (ap (λ l. slice_get l (length l - 1)) c.deref.ensures.value) ∙ sym c.newest.ensures
    ∙ c.in-Some-Given.is ∙ ap (λ r. Some r) c.in-Some-Given.field-0-is in
    let l = c.len.ensures in
    let k = c.args.cells.ok.0 in
    let many : c.len.result ≡ length c.args.cells.items = omega arith in
    let live : Live = record { head = c.args.head; count = 1; cells = c.args.cells; block = Some c.in-Some.block } in
    let is_free = c.if-not-is_free.false in
    let test = c.is_free.ensures in
    let free = free_slot (slice_get c.self.inside.objects.items c.in-Some-Given.name)
    (sym is_free ∙ test ∙ ap (λ t. is_free_slot (slice_get t c.in-Some-Given.name))
    c.deref-in-Some-Given.ensures.value) in
    ungave_shown c.self.inside.order c.self.inside.book c.self.inside.objects.items c.self.inside.log.items
    c.forget.new.log.items live c.in-Some-Given.name c.in-Some.block c.in-Some-Given.order c.fill.new.slot
    c.self.invariant newest c.forget.ensures free
    (c.if-order-order_of.false ∙ c.order_of.ensures ∙ ap (λ n. order_of_cells n) many) refl c.fill.ensures
    c.args.self.now (kept_head c.args.head) (values_of c.args.cells.items) c.self.view_is refl
