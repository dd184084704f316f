use Rattle.std.proofs.Common.{refl}
use Rattle.source_blocks.proofs.Opened.{opened_is, opened_sound}
use Rattle.source_blocks.proofs.run.open_block.Goals as goal

pub returns-clause-opened : goal.returns-clause-opened
returns-clause-opened c =
    opened_is c.args.run.now (record c.args.run.now { task = c.args.task; at = 0; frames = c.push.new.self })
    c.args.part
    c.args.task refl c.in_ok-push.ensures.items

pub returns-clause-sound : goal.returns-clause-sound
returns-clause-sound c =
    opened_sound c.args.run.now (record c.args.run.now { task = c.args.task; at = 0; frames = c.push.new.self })
    (record { task = c.args.run.now.task; at = c.args.run.now.at; part = c.args.part }) c.args.task refl
    c.in_ok-push.ensures.items c.requires.sound (record { within = c.requires.within; caller = c.requires.part })
