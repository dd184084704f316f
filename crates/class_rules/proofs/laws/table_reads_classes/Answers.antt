use Rattle.class_rules.proofs.Tables.{table_reads}
use Rattle.class_rules.proofs.laws.table_reads_classes.Goals as goal

pub returns : goal.returns
returns c = λ program class inside. table_reads program class inside
