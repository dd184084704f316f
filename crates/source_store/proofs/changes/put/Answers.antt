use Rattle.std.proofs.Common.{ap, ◌∙◌, List}
use Rattle.std.proofs.lemmas.List.{map-set}
use Rattle.meaning_machine.specs.roopl_semantics.Store.{Value, Object}
use Rattle.source_store.specs.ValueView.{values_of, value_of, kept_head}
use Rattle.source_store.proofs.changes.put.Goals as goal

pub returns-clause-object : goal.returns-clause-object
returns-clause-object c =
    let build : List Value → Object = λ cells. record {
      head = kept_head c.args.object.now.head;
      count = c.args.object.now.count;
      cells = cells;
    } in
    ap build (ap values_of c.put_value.ensures ∙ map-set value_of c.args.object.now.cells.items c.args.index
    c.args.value)
