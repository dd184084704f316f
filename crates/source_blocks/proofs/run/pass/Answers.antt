use Rattle.std.proofs.Common.{◌+◌, refl, arith}
use Rattle.source_blocks.proofs.Blocks.{task_small}
use Rattle.source_blocks.proofs.Opened.{passed, passed_sound}
use Rattle.source_blocks.proofs.run.pass.Goals as goal

pub returns-clause-passed : goal.returns-clause-passed
returns-clause-passed c = passed c.args.run.now (c.args.run.now.at + 1) refl

pub returns-clause-sound : goal.returns-clause-sound
returns-clause-sound c = passed_sound c.args.run.now (c.args.run.now.at + 1) refl c.requires.within c.requires.sound

pub overflow_add-run : goal.overflow_add-run
overflow_add-run c = let n = task_small c.args.run.now.task in let h = c.requires.within in omega arith
