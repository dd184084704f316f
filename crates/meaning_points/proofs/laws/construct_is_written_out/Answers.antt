use Rattle.meaning_points.proofs.WrittenOut.{construct_does, construct_points, construct_moved, construct_undone}
use Rattle.meaning_points.proofs.laws.construct_is_written_out.Goals as goal

pub returns : goal.returns
returns c = record {
  does = construct_does;
  points = construct_points;
  moved = construct_moved;
  undone = construct_undone;
}
