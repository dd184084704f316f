use Rattle.std.proofs.Common.{◌∙◌, ap}
use Rattle.std.proofs.lemmas.List.{append-nil}
use Rattle.std.proofs.lemmas.Result.{IfOk-weaker}
use Rattle.pisa_machine.specs.Position.{first_position}
use Rattle.pisa_machine.proofs.machine.Machine.start_with.Goals as goal

pub returns : goal.returns
returns c = IfOk-weaker c.start_with_more.result _ _
    (λ machine e. e ∙ ap (first_position c.args.image c.args.regs) (append-nil c.args.cells.items))
    c.start_with_more.ensures
