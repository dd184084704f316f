use Rattle.std.proofs.Common.{◌-◌, ◌∙◌, List, map, reverse, length, ap, subst}
use Rattle.std.specs.Prelude.{slice_get}
use Rattle.source_steps.specs.CellView.{cell_view}
use Rattle.source_blocks.specs.declared.frames.Frame.{Frame}
use Rattle.source_blocks.specs.declared.frames.Part.{Part}
use Rattle.source_blocks.specs.Opens.{open_of, part_of, caller_of, cells_in, values_in, HasPart}
use Rattle.source_blocks.proofs.Last.{part_at_end}
use Rattle.source_blocks.proofs.ending.block_ending.Goals as goal

pub returns-in-Calling : goal.returns-in-Calling
returns-in-Calling c = record {
  caller = caller_of c.in-Calling._caller;
  receiver = cells_in c.in-Calling._caller.receiver;
  args = map cell_view c.in-Calling._caller.args.items;
  held = values_in c.in-Calling._caller.receiver;
  part = subst (λ (p : Part). HasPart (map open_of (reverse c.args.frames.now.items)) (part_of p)) c.in-Calling.is
      (part_at_end c.args.frames.now.items c.in-Some.frame.now
      (c.in-Some.ensures.value ∙ ap (λ (fs : List Frame). slice_get fs (length fs - 1)) c.deref.ensures.value));
}
