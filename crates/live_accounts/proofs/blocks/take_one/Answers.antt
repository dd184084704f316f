use Rattle.source_debugger.specs.roopl_semantics.Store.{OfInts}
use Rattle.source_debugger.specs.source_store.declared.value.Value.TheVariants as held
use Rattle.source_debugger.specs.source_store.ValueView.{values_of}
use Rattle.live_accounts.proofs.Taking.{so_many, takes_none, takes_one}
use Rattle.live_accounts.proofs.blocks.take_one.Goals as goal

pub returns-in-None : goal.returns-in-None
returns-in-None c =
    takes_none c.args.order c.least_cells.result c.args.heap.now c.take.new.self (OfInts 0)
    (values_of c.in_ok-room.room.items) c.in_ok-take.field-0 c.least_cells.ensures.order
    (so_many c.in_ok-room.room.items c.least_cells.result (held.Word 0) c.in_ok-room.ensures) c.in-None.is
    c.in_ok-take.ensures.took

pub returns-in-Some : goal.returns-in-Some
returns-in-Some c =
    takes_one c.args.order c.least_cells.result c.in-Some._name c.args.heap.now c.take.new.self (OfInts 0)
    (values_of c.in_ok-room.room.items) c.in_ok-take.field-0 c.requires.from c.least_cells.ensures.order
    (so_many c.in_ok-room.room.items c.least_cells.result (held.Word 0) c.in_ok-room.ensures) c.requires.last
    c.in-Some.is c.in_ok-take.ensures.took
