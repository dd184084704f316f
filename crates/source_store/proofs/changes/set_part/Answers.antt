use Rattle.std.proofs.Common.{arith, refl, ◌<◌, length}
use Rattle.std.proofs.lemmas.Option.{slice_get_read}
use Rattle.source_store.proofs.Tables.{changed_store, changed_past, same_blocks}
use Rattle.source_store.proofs.changes.set_part.Goals as goal

pub returns-then-name-len-clause-store : goal.returns-then-name-len-clause-store
returns-then-name-len-clause-store c =
    let table = c.args.objects.now.items in
    let inside : c.args.name < length table = omega arith in
    changed_store table c.args.name c.index_mut.result.now c.put_in_slot.new.slot _
    (slice_get_read table (length table) c.args.name c.index_mut.result.now refl inside c.index_mut.ensures.value)
    c.put_in_slot.ensures.object inside

pub returns-then-name-len-clause-blocks : goal.returns-then-name-len-clause-blocks
returns-then-name-len-clause-blocks c =
    let table = c.args.objects.now.items in
    let inside : c.args.name < length table = omega arith in
    same_blocks table c.args.name c.index_mut.result.now c.put_in_slot.new.slot
    (slice_get_read table (length table) c.args.name c.index_mut.result.now refl inside c.index_mut.ensures.value)
    c.put_in_slot.ensures.block inside

pub returns-else-name-len-clause-store : goal.returns-else-name-len-clause-store
returns-else-name-len-clause-store c = changed_past c.args.objects.now.items c.args.name _ (omega arith)
