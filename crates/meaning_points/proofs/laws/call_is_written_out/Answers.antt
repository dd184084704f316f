use Rattle.meaning_points.proofs.WrittenOut.{call_does, call_points, call_moved, call_undone}
use Rattle.meaning_points.proofs.laws.call_is_written_out.Goals as goal

pub returns : goal.returns
returns c = record { does = call_does; points = call_points; moved = call_moved; undone = call_undone }
