use Rattle.std.proofs.Common.{refl}
use Rattle.source_blocks.proofs.Scoped.{variable_state, variable_sound}
use Rattle.source_statements.proofs.begins.open_variable.Goals as goal

pub returns-clause-opened : goal.returns-clause-opened
returns-clause-opened c =
    variable_state c.args.run.now (record c.args.run.now {
      locals = c.insert-2.new.self;
      marks = c.with_mark-run.result;
      values = c.insert.new.self;
    }) refl c.args.name c.args.value c.in_ok-insert-2.ensures.items c.in_ok-insert.ensures.items

pub returns-clause-sound : goal.returns-clause-sound
returns-clause-sound c =
    variable_sound c.args.run.now (record c.args.run.now {
      locals = c.insert-2.new.self;
      marks = c.with_mark-run.result;
      values = c.insert.new.self;
    }) refl c.args.name c.args.value c.in_ok-insert-2.ensures.items c.in_ok-insert.ensures.items
    c.with_mark-run.ensures c.requires.sound
