use Rattle.roopl_printer.proofs.ReadBack.{read_back}
use Rattle.roopl_printer.proofs.laws.reads_back.Goals as goal

pub returns : goal.returns
returns c program grammatical limits few = read_back program grammatical limits few
