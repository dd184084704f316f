use Rattle.std.proofs.Common.{◌≡◌, All, map, length}
use Rattle.source_blocks.specs.Opens.{IsOpen, open_of}
use Rattle.source_blocks.proofs.Around.{turned_to}
use Rattle.source_blocks.proofs.frames.turn_frames.Given as goal

-- the open statements below the index are undone
abbrev pub invariant-loop-frame : goal.invariant-loop-frame
invariant-loop-frame l = record {
  turned : map open_of l.frame-items ≡ turned_to l.frame-index (map open_of l.fn.frames.items);
  as_many : length l.frame-items ≡ length l.fn.frames.items;
  opens : All IsOpen l.frame-items;
}
