use Rattle.std.proofs.Common.{◌∙◌, ap}
use Rattle.std.proofs.lemmas.List.{append-nil}
use Rattle.std.proofs.lemmas.Result.{IfOk-weaker}
use Rattle.pisa_machine.specs.pisa_isa.Loaded.{loaded}
use Rattle.pisa_machine.specs.pisa_isa.Runs.{zero_registers}
use Rattle.pisa_machine.specs.Position.{first_position}
use Rattle.pisa_loader.proofs.memory.load.Goals as goal

pub returns-clause-machine : goal.returns-clause-machine
returns-clause-machine c =
    IfOk-weaker c.load_more.result _ _
    (λ machine e. e ∙ ap (first_position c.args.image zero_registers)
    (append-nil (loaded c.args.image.statics c.args.limits c.args.input.now.words.items)))
    c.load_more.ensures.machine
