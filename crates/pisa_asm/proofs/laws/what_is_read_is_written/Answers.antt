use Rattle.pisa_asm.proofs.Written.{read_is_written, written_is_read}
use Rattle.pisa_asm.proofs.laws.what_is_read_is_written.Goals as goal

pub returns-clause-sound : goal.returns-clause-sound
returns-clause-sound c = read_is_written

pub returns-clause-complete : goal.returns-clause-complete
returns-clause-complete c = written_is_read
