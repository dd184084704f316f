use Rattle.source_steps.proofs.Tables.{field_reads}
use Rattle.source_steps.proofs.cell.number_in.Goals as goal

pub returns-in-None : goal.returns-in-None
returns-in-None c = field_reads _ _ _ _ _ _ c.table.ensures.table c.class-class.ensures c.in-None.ensures

pub returns-in-Some : goal.returns-in-Some
returns-in-Some c = field_reads _ _ _ _ _ _ c.table.ensures.table c.class-class.ensures c.in-Some.ensures
