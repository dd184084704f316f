use Rattle.std.proofs.Common.{refl, rules, None}
use Rattle.source_store.specs.declared.object.Object.{Object as Live}
use Rattle.source_store.proofs.Blocks.{base_fits, starts_so}
use Rattle.source_store.proofs.heap.Heap.new.Goals as goal

pub new-requires-clause-multiple : goal.new-requires-clause-multiple
new-requires-clause-multiple c = base_fits c.args.order c.requires.from c.requires.to

pub invariant_of-result : goal.invariant_of-result
invariant_of-result c =
    let first : Live = record { head = c.args.head; count = 1; cells = c.args.cells; block = None } in
    starts_so c.args.order c.in_ok-book.book c.push-2.new.self.items first c.new-2.result.items c.requires.from
    c.requires.to c.in_ok-book.ensures (search rules) refl (search rules)
