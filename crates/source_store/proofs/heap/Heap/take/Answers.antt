use Rattle.std.proofs.Common.{◌≡◌, ◌++◌, ◌∷◌, [], length, arith, ap, ◌∙◌, refl, Some}
use Rattle.meaning_machine.specs.buddy_book.Place.{Taken}
use Rattle.meaning_machine.specs.roopl_semantics.Execution.{order_of_cells}
use Rattle.source_store.specs.declared.object.Object.{Object as Live}
use Rattle.source_store.specs.declared.requests.Request.TheVariants as asked
use Rattle.source_store.proofs.Blocks.{took_so, took_shown}
use Rattle.source_store.proofs.heap.Heap.take.Goals as goal

pub invariant_of-self-in-Some : goal.invariant_of-self-in-Some
invariant_of-self-in-Some c =
    let e = c.in-Some.ensures in
    let l = c.len.ensures in
    let k = c.args.cells.ok.0 in
    let many : c.len.result ≡ length c.args.cells.items = omega arith in
    let i = c.len-name.ensures in
    let j = c.self.inside.objects.ok.0 in
    let named : c.len-name.result ≡ length c.self.inside.objects.items = omega arith in
    let live : Live = record { head = c.args.head; count = 1; cells = c.args.cells; block = Some c.in-Some.block } in
    let request = asked.Taken c.len-name.result c.order_of-order.result in
    took_so c.self.inside.order c.self.inside.book c.take.new.self c.self.inside.objects.items
    c.push_reserved.new.self.items c.self.inside.log.items c.push_reserved-in-Some.new.self.items live request
    c.order_of-order.result c.in-Some.block
    c.self.invariant (omega arith) (c.order_of-order.ensures ∙ ap (λ n. order_of_cells n) many) refl
    (ap (λ n. Taken n c.order_of-order.result) named)
    e.from_base e.takes e.taken e.heap
    (c.push_reserved.ensures.items ∙ ap (λ xs. xs ++ Some live ∷ []) c.in_ok-reserve.ensures.items)
    (c.push_reserved-in-Some.ensures.items ∙ ap (λ xs. xs ++ request ∷ []) c.in_ok-reserve-2.ensures.items)

pub returns-in-Some-clause-took : goal.returns-in-Some-clause-took
returns-in-Some-clause-took c =
    let e = c.in-Some.ensures in
    let l = c.len.ensures in
    let k = c.args.cells.ok.0 in
    let many : c.len.result ≡ length c.args.cells.items = omega arith in
    let i = c.len-name.ensures in
    let j = c.self.inside.objects.ok.0 in
    let named : c.len-name.result ≡ length c.self.inside.objects.items = omega arith in
    let live : Live = record { head = c.args.head; count = 1; cells = c.args.cells; block = Some c.in-Some.block } in
    let request = asked.Taken c.len-name.result c.order_of-order.result in
    took_shown c.self.inside.order c.self.inside.book c.take.new.self c.self.inside.objects.items
    c.push_reserved.new.self.items c.self.inside.log.items c.push_reserved-in-Some.new.self.items live request
    c.order_of-order.result c.in-Some.block c.len-name.result c.args.self.now _ _
    c.self.invariant (c.order_of-order.ensures ∙ ap (λ n. order_of_cells n) many) refl
    (ap (λ n. Taken n c.order_of-order.result) named)
    e.from_base e.takes
    (c.push_reserved.ensures.items ∙ ap (λ xs. xs ++ Some live ∷ []) c.in_ok-reserve.ensures.items)
    (c.push_reserved-in-Some.ensures.items ∙ ap (λ xs. xs ++ request ∷ []) c.in_ok-reserve-2.ensures.items)
    named c.self.view_is refl
