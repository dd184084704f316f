use Rattle.std.proofs.Common.{refl}
use Rattle.source_blocks.proofs.Opened.{over_is, over_sound}
use Rattle.source_blocks.proofs.run.go_over.Goals as goal

pub returns-then-count-gt0-clause-turned : goal.returns-then-count-gt0-clause-turned
returns-then-count-gt0-clause-turned c =
    over_is c.args.run.now (record c.args.run.now {
      task = c.change_last-run.result;
      at = 0;
      frames = c.change_last-run.new.frames;
    }) c.args.again c.change_last-run.result c.change_last-run.ensures.changed refl

pub returns-then-count-gt0-clause-sound : goal.returns-then-count-gt0-clause-sound
returns-then-count-gt0-clause-sound c =
    over_sound c.args.run.now (record c.args.run.now {
      task = c.change_last-run.result;
      at = 0;
      frames = c.change_last-run.new.frames;
    }) c.args.again c.change_last-run.result c.change_last-run.ensures.changed refl c.requires.sound
