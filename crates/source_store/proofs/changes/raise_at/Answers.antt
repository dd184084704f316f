use Rattle.std.proofs.Common.{arith, refl, ◌<◌, length}
use Rattle.std.proofs.lemmas.Option.{slice_get_read}
use Rattle.source_store.proofs.Tables.{changed_past, same_blocks, changed_if, stays_if, most_if}
use Rattle.source_store.proofs.changes.raise_at.Goals as goal

pub returns-then-name-len-clause-store : goal.returns-then-name-len-clause-store
returns-then-name-len-clause-store c = changed_past c.args.objects.now.items c.args.name _ (omega arith)

pub returns-clause-store : goal.returns-clause-store
returns-clause-store c =
    let table = c.args.objects.now.items in
    let inside : c.args.name < length table = omega arith in
    changed_if table c.args.name c.index_mut.result.now c.raise_in_slot.new.slot _ c.raise_in_slot.result
    (slice_get_read table (length table) c.args.name c.index_mut.result.now refl inside c.index_mut.ensures.value)
    inside c.raise_in_slot.ensures.object

pub returns-clause-stays : goal.returns-clause-stays
returns-clause-stays c =
    let table = c.args.objects.now.items in
    let inside : c.args.name < length table = omega arith in
    stays_if table c.args.name c.index_mut.result.now c.raise_in_slot.new.slot c.raise_in_slot.result
    (slice_get_read table (length table) c.args.name c.index_mut.result.now refl inside c.index_mut.ensures.value)
    c.raise_in_slot.ensures.stays

pub returns-clause-blocks : goal.returns-clause-blocks
returns-clause-blocks c =
    let table = c.args.objects.now.items in
    let inside : c.args.name < length table = omega arith in
    same_blocks table c.args.name c.index_mut.result.now c.raise_in_slot.new.slot
    (slice_get_read table (length table) c.args.name c.index_mut.result.now refl inside c.index_mut.ensures.value)
    c.raise_in_slot.ensures.block inside

pub returns-clause-most : goal.returns-clause-most
returns-clause-most c =
    let table = c.args.objects.now.items in
    let inside : c.args.name < length table = omega arith in
    most_if table c.args.name c.index_mut.result.now _ c.raise_in_slot.result
    (slice_get_read table (length table) c.args.name c.index_mut.result.now refl inside c.index_mut.ensures.value)
    c.raise_in_slot.ensures.most
