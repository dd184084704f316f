use Rattle.pisa_loader.proofs.ValidInput.{is_input}
use Rattle.pisa_loader.proofs.input.read_input.Goals as goal

pub returns-clause-input : goal.returns-clause-input
returns-clause-input c = is_input c.args.fields.now c.args.bytes.now c.read_lines.result c.read_lines.ensures
