use Rattle.std.proofs.Common.{◌∙◌, ap}
use Rattle.source_steps.specs.roopl_semantics.Value.{Slot, read}
use Rattle.source_blocks.proofs.Scoped.{framed_by, slice_is}
use Rattle.source_blocks.proofs.ending.innermost.Goals as goal

pub returns : goal.returns
returns c = c.read_cell.ensures
    ∙ ap (λ st. read st (Slot 0)) (slice_is c.args.run.now c.scope_of-scope.result c.scope_of-scope.ensures
    c.deref.result.now c.deref.ensures.value)

pub read_cell-requires : goal.read_cell-requires
read_cell-requires c = framed_by c.args.run.now c.scope_of-scope.result c.scope_of-scope.ensures
    c.deref.result.now c.deref.ensures.value c.requires.sound
