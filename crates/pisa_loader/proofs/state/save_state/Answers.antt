use Rattle.std.proofs.Common.{rules, ◌≡◌, ◌∙◌, ap, length, arith}
use Rattle.pisa_loader.specs.States.{loaded_memory, state_bytes, state_at}
use Rattle.pisa_loader.proofs.StateBytes.{state_again, saved_memory}
use Rattle.pisa_loader.proofs.state.save_state.Goals as goal

pub returns-clause-reads_back : goal.returns-clause-reads_back
returns-clause-reads_back c =
    let p = c.args.machine.now in
    let text : c.add_cells.new.bytes.items ≡ state_bytes (loaded_memory p.state.regs p.state.cells) = search rules in
    ap (state_at (length p.state.cells)) text ∙ state_again (length p.state.cells)
    (loaded_memory p.state.regs p.state.cells)
    (omega arith) (saved_memory p c.core.ensures.machine)
