use Rattle.source_statements.proofs.Dispatched.{slot_reads}
use Rattle.source_statements.proofs.methods.slot_of.Goals as goal

pub returns-in-None : goal.returns-in-None
returns-in-None c = slot_reads _ _ _ _ _ c.table.ensures.table c.in-None.ensures.slot

pub returns-in-Some : goal.returns-in-Some
returns-in-Some c = slot_reads _ _ _ _ _ c.table.ensures.table c.in-Some.ensures.slot
