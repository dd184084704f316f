use Rattle.std.proofs.Common.{◌∙◌, ap}
use Rattle.std.proofs.lemmas.Result.{IfOk-weaker}
use Rattle.pisa_machine.specs.pisa_isa.Runs.{zero_registers}
use Rattle.pisa_machine.specs.Position.{first_position}
use Rattle.pisa_loader.proofs.Zeros.{all_cells}
use Rattle.pisa_loader.proofs.memory.load_more.Goals as goal

pub returns-clause-machine : goal.returns-clause-machine
returns-clause-machine c =
    let items = rw (c.statics-2.ensures.statics, c.deref.ensures.value) at c.in_ok-cells.ensures.items in
    let count = rw c.statics.ensures.statics at c.zeros_behind-zeros.ensures.count in
    IfOk-weaker c.start_with_more.result _ _
    (λ machine e. e ∙ ap (first_position c.args.image zero_registers)
    (all_cells c.args.image.statics c.args.limits c.args.input.now.words.items c.in_ok-cells.cells.items
    c.zeros_behind-zeros.result c.args.more items count))
    c.start_with_more.ensures
