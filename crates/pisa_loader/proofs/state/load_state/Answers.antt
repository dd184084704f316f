use Rattle.std.proofs.Common.{length, subst, arith}
use Rattle.pisa_loader.specs.Limiting.{memory_size}
use Rattle.pisa_loader.specs.States.{Gives}
use Rattle.pisa_loader.proofs.StateBytes.{is_found, is_sized, start_again}
use Rattle.pisa_loader.proofs.state.load_state.Goals as goal

pub returns-clause-found : goal.returns-clause-found
returns-clause-found c =
    is_found c.args.image (memory_size (length c.args.image.statics) c.args.limits) c.args.bytes.now c.machine_of.result
    (λ i. omega (arith, c.type_inv.bytes i)) c.machine_of.ensures.read

pub returns-clause-size : goal.returns-clause-size
returns-clause-size c =
    is_sized c.args.image (memory_size (length c.args.image.statics) c.args.limits) c.args.bytes.now c.machine_of.result
    (λ i. omega (arith, c.type_inv.bytes i)) c.machine_of.ensures.read

pub returns-clause-only : goal.returns-clause-only
returns-clause-only c = λ m i e.
    subst (λ read. Gives (λ p. p) c.machine_of.result read)
    (start_again c.args.image (memory_size (length c.args.image.statics) c.args.limits) m c.args.bytes.now
    (let small = c.machine_of.ensures.size in omega arith) i e) c.machine_of.ensures.read
