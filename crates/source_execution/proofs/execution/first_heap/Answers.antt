use Rattle.source_statements.specs.rpp_tree.Views.{source_of}
use Rattle.source_execution.proofs.Started.{heap_is}
use Rattle.source_execution.proofs.execution.first_heap.Goals as goal

pub returns : goal.returns
returns c = heap_is _ c.args.limits.heap (source_of c.args.checked.now) _ _ _ _ c.args.input.now.words.items _ _
    c.table-table.ensures.table c.main-class.ensures c.fields.ensures.fields
    c.in_ok-cells.ensures c.deref.ensures.value c.set_input.ensures c.new.ensures
