use Rattle.refine_wrap.proofs.IntFields.{int_fields}
use Rattle.refine_wrap.proofs.laws.int_fields_stand_in_static_cells.Goals as goal

pub returns : goal.returns
returns c = int_fields
