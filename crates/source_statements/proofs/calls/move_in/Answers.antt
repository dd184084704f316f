use Rattle.std.proofs.Common.{List, Option, map, sym, ap, ◌∙◌}
use Rattle.source_blocks.specs.roopl_semantics.Value.{Cell}
use Rattle.source_blocks.specs.roopl_semantics.Execution.{moved_out}
use Rattle.source_blocks.specs.source_steps.declared.cell.Cell.{Cell as Place}
use Rattle.source_blocks.specs.source_steps.CellView.{cell_view}
use Rattle.source_blocks.specs.declared.frames.Receiver.{Receiver}
use Rattle.source_blocks.specs.Opens.{cells_in}
use Rattle.source_blocks.specs.Runs.{state_in}
use Rattle.source_statements.proofs.calls.move_in.Goals as goal

pub returns-in-None-clause-moved : goal.returns-in-None-clause-moved
returns-in-None-clause-moved c = c.empty.ensures.moved
    ∙ ap (λ (cells : List Place). moved_out (map cell_view cells) (state_in c.args.run.now)) c.deref.ensures.value
    ∙ sym (ap (λ (r : Option Receiver). moved_out (map cell_view c.args.args.now.items)
    (moved_out (cells_in r) (state_in c.args.run.now))) c.in-None.is)

pub returns-in-Some-clause-moved : goal.returns-in-Some-clause-moved
returns-in-Some-clause-moved c = c.empty-in-Some-2.ensures.moved
    ∙ ap (λ (cells : List Place). moved_out (map cell_view cells) (state_in c.empty-in-Some.new.run))
    c.deref-in-Some.ensures.value
    ∙ ap (moved_out (map cell_view c.args.args.now.items)) (c.empty-in-Some.ensures.moved
    ∙ ap (λ (cells : List Cell). moved_out cells (state_in c.args.run.now)) c.alone.ensures.cell)
    ∙ sym (ap (λ (r : Option Receiver). moved_out (map cell_view c.args.args.now.items)
    (moved_out (cells_in r) (state_in c.args.run.now))) c.in-Some.is)
