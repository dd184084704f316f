use Rattle.std.proofs.Common.{◌++◌, ◌∷◌, [], sym, ap, ◌∙◌, refl, arith}
use Rattle.source_store.specs.declared.requests.Request.TheVariants as asked
use Rattle.source_store.specs.HeapView.{live_block_at}
use Rattle.source_store.proofs.Blocks.{small_size, in_table, gave_so, gave_shown}
use Rattle.source_store.proofs.heap.Heap.give.Goals as goal

pub overflow_cast-size : goal.overflow_cast-size
overflow_cast-size c =
    let there = sym (c.in-Some.ensures ∙ ap (λ t. live_block_at t c.args.name) c.deref.ensures.value) in
    let small = small_size c.self.inside.order c.self.inside.book c.self.inside.objects.items c.self.inside.log.items
    c.args.name c.in-Some.block c.in-Some.size c.self.invariant there in
    record { fits = omega arith }

pub order_of-order-requires : goal.order_of-order-requires
order_of-order-requires c =
    let there = sym (c.in-Some.ensures ∙ ap (λ t. live_block_at t c.args.name) c.deref.ensures.value) in
    small_size c.self.inside.order c.self.inside.book c.self.inside.objects.items c.self.inside.log.items c.args.name
    c.in-Some.block c.in-Some.size c.self.invariant there

pub index_mut-requires : goal.index_mut-requires
index_mut-requires c =
    let there = sym (c.in-Some.ensures ∙ ap (λ t. live_block_at t c.args.name) c.deref.ensures.value) in
    let inside = in_table c.self.inside.order c.self.inside.book c.self.inside.objects.items c.self.inside.log.items
    c.args.name c.in-Some.block c.in-Some.size c.self.invariant there in
    let l = c.self.inside.objects.ok.0 in omega arith

pub invariant_of-self-in-Some : goal.invariant_of-self-in-Some
invariant_of-self-in-Some c =
    let there = sym (c.in-Some.ensures ∙ ap (λ t. live_block_at t c.args.name) c.deref.ensures.value) in
    let e = c.give.ensures in
    gave_so c.self.inside.order c.self.inside.book c.give.new.self c.self.inside.objects.items c.self.inside.log.items
    c.push_reserved.new.self.items c.args.name c.in-Some.block c.in-Some.size c.clear.new.slot
    (asked.Given c.args.name c.order_of-order.result) c.order_of-order.result
    c.self.invariant there c.order_of-order.ensures refl e.gives e.taken e.heap c.clear.ensures
    (c.push_reserved.ensures.items ∙ ap (λ xs. xs ++ asked.Given c.args.name c.order_of-order.result ∷ [])
    c.in_ok-reserve.ensures.items)

pub returns-in-Some-clause-given : goal.returns-in-Some-clause-given
returns-in-Some-clause-given c =
    let there = sym (c.in-Some.ensures ∙ ap (λ t. live_block_at t c.args.name) c.deref.ensures.value) in
    gave_shown c.self.inside.order c.self.inside.book c.self.inside.objects.items c.self.inside.log.items
    c.push_reserved.new.self.items c.args.name c.in-Some.block c.in-Some.size c.clear.new.slot
    (asked.Given c.args.name c.order_of-order.result) c.order_of-order.result c.args.self.now
    c.self.invariant there c.order_of-order.ensures refl c.clear.ensures
    (c.push_reserved.ensures.items ∙ ap (λ xs. xs ++ asked.Given c.args.name c.order_of-order.result ∷ [])
    c.in_ok-reserve.ensures.items) c.self.view_is
