use Rattle.std.proofs.Common.{ap, ◌∙◌, List, length, length-set}
use Rattle.source_store.specs.roopl_semantics.Store.{Binding, State}
use Rattle.source_steps.specs.StateView.{state_of, frame_of}
use Rattle.source_steps.proofs.Tables.{frame_set}
use Rattle.source_steps.proofs.cell.write_cell.Goals as goal

pub returns-in-Slot : goal.returns-in-Slot
returns-in-Slot c =
    let st : State = state_of c.args.setting.now c.args.scope.now c.args.heap.now c.args.values.now.items in
    let build : List Binding → State = λ frame. record st { frame = frame } in
    record {
      written = rw c.in-Slot.is (ap build (ap (frame_of c.args.scope.now) c.put_value.ensures
          ∙ frame_set c.args.scope.now c.args.values.now.items c.in-Slot.index c.args.value));
      framed = record {
        each = ap length c.put_value.ensures
            ∙ (length-set c.args.values.now.items c.in-Slot.index c.args.value ∙ c.requires.each);
        order = c.requires.order;
        marked = c.requires.marked;
      };
    }
