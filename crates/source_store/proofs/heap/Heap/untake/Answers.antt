use Rattle.std.proofs.Common.{◌≡◌, ◌+◌, ◌-◌, sym, ap, ◌∙◌, arith, Some, length, slice_get}
use Rattle.source_store.specs.declared.requests.Request.TheVariants as asked
use Rattle.source_store.specs.HeapView.{live_block_at, before_take, kept_of}
use Rattle.source_store.proofs.Blocks.{small_size}
use Rattle.source_store.proofs.TakenBack.{log_of_none, log_of_some, untook_heap, untook_view}
use Rattle.source_store.proofs.heap.Heap.untake.Goals as goal

pub overflow_cast-size : goal.overflow_cast-size
overflow_cast-size c =
    let there = sym (ap (λ t. live_block_at t c.in-Some-Taken.name) c.deref-in-Some-Taken.ensures.value)
    ∙ sym c.block_of.ensures ∙ c.in-Some.is in
    let small = small_size c.self.inside.order c.self.inside.book c.self.inside.objects.items c.self.inside.log.items
    c.in-Some-Taken.name c.in-Some.block c.in-Some.size c.self.invariant there in
    record { fits = omega arith }

pub order_of-requires : goal.order_of-requires
order_of-requires c =
    let there = sym (ap (λ t. live_block_at t c.in-Some-Taken.name) c.deref-in-Some-Taken.ensures.value)
    ∙ sym c.block_of.ensures ∙ c.in-Some.is in
    small_size c.self.inside.order c.self.inside.book c.self.inside.objects.items c.self.inside.log.items
    c.in-Some-Taken.name c.in-Some.block c.in-Some.size c.self.invariant there

pub invariant_of-self : goal.invariant_of-self
invariant_of-self c =
    let newest = sym (ap (λ l. slice_get l (length l - 1)) c.deref.ensures.value) ∙ sym c.newest.ensures
    ∙ c.in-Some-Taken.is ∙ ap (λ r. Some r) c.in-Some-Taken.field-0-is in
    let there = sym (ap (λ t. live_block_at t c.in-Some-Taken.name) c.deref-in-Some-Taken.ensures.value)
    ∙ sym c.block_of.ensures ∙ c.in-Some.is in
    let e = c.give.ensures in
    let l = c.self.inside.objects.ok.0 in
    let many = c.len.ensures in
    let equal = c.if-name-len.false in
    let last : c.in-Some-Taken.name + 1 ≡ length c.self.inside.objects.items = omega arith in
    untook_heap c.self.inside.order c.self.inside.book c.self.inside.objects.items c.shorten.new.objects.items
    c.self.inside.log.items c.forget.new.log.items c.in-Some-Taken.name c.in-Some.block c.in-Some.size
    c.in-Some-Taken.order c.self.invariant newest c.forget.ensures there
    (c.if-order-order_of.false ∙ c.order_of.ensures) last c.shorten.ensures c.give.new.self e.gives e.taken e.heap

pub returns-in-None-clause-untaken : goal.returns-in-None-clause-untaken
returns-in-None-clause-untaken c =
    let newest = sym (ap (λ l. slice_get l (length l - 1)) c.deref.ensures.value) ∙ sym c.newest.ensures
    ∙ c.in-None.is in
    ap (λ k. before_take k k.log) (sym c.self.view_is)
    ∙ ap (before_take (kept_of c.self.inside.order c.self.inside.objects.items c.self.inside.log.items))
    (log_of_none c.self.inside.log.items newest)

pub returns-in-Some-Given-clause-untaken : goal.returns-in-Some-Given-clause-untaken
returns-in-Some-Given-clause-untaken c =
    let newest = sym (ap (λ l. slice_get l (length l - 1)) c.deref.ensures.value) ∙ sym c.newest.ensures
    ∙ c.in-Some-Given.is ∙ ap (λ r. Some r) c.in-Some-Given.field-0-is in
    ap (λ k. before_take k k.log) (sym c.self.view_is)
    ∙ ap (before_take (kept_of c.self.inside.order c.self.inside.objects.items c.self.inside.log.items))
    (log_of_some c.self.inside.log.items (asked.Given c.in-Some-Given.field-0-0 c.in-Some-Given.field-0-1) newest)

pub returns-else-order-order_of-clause-untaken : goal.returns-else-order-order_of-clause-untaken
returns-else-order-order_of-clause-untaken c =
    let newest = sym (ap (λ l. slice_get l (length l - 1)) c.deref.ensures.value) ∙ sym c.newest.ensures
    ∙ c.in-Some-Taken.is ∙ ap (λ r. Some r) c.in-Some-Taken.field-0-is in
    let there = sym (ap (λ t. live_block_at t c.in-Some-Taken.name) c.deref-in-Some-Taken.ensures.value)
    ∙ sym c.block_of.ensures ∙ c.in-Some.is in
    let l = c.self.inside.objects.ok.0 in
    let many = c.len.ensures in
    let equal = c.if-name-len.false in
    let last : c.in-Some-Taken.name + 1 ≡ length c.self.inside.objects.items = omega arith in
    untook_view c.self.inside.order c.self.inside.book c.self.inside.objects.items c.shorten.new.objects.items
    c.self.inside.log.items c.forget.new.log.items c.in-Some-Taken.name c.in-Some.block c.in-Some.size
    c.in-Some-Taken.order c.self.invariant newest c.forget.ensures there
    (c.if-order-order_of.false ∙ c.order_of.ensures) last c.shorten.ensures c.args.self.now c.self.view_is
