use Rattle.source_blocks.proofs.source_steps_laws.Fuelled.{so_either}
use Rattle.source_statements.proofs.Stopped.{stays_so}
use Rattle.source_statements.proofs.ends.end.Goals as goal

pub returns-in-Chosen-clause-own : goal.returns-in-Chosen-clause-own
returns-in-Chosen-clause-own c = so_either c.end_side.result c.end_side.ensures.own

pub returns-in-First-clause-own : goal.returns-in-First-clause-own
returns-in-First-clause-own c = so_either c.end_first.result c.end_first.ensures.own

pub returns-in-Again-clause-own : goal.returns-in-Again-clause-own
returns-in-Again-clause-own c = so_either c.end_again.result c.end_again.ensures.own

pub returns-in-Calling-clause-own : goal.returns-in-Calling-clause-own
returns-in-Calling-clause-own c = so_either c.end_call.result c.end_call.ensures.own

pub returns-in-Chosen-clause-stays : goal.returns-in-Chosen-clause-stays
returns-in-Chosen-clause-stays c =
    stays_so c.end_side.result c.args.run.now c.end_side.new.run c.requires.sound c.end_side.ensures.stays

pub returns-in-First-clause-stays : goal.returns-in-First-clause-stays
returns-in-First-clause-stays c =
    stays_so c.end_first.result c.args.run.now c.end_first.new.run c.requires.sound c.end_first.ensures.stays

pub returns-in-Again-clause-stays : goal.returns-in-Again-clause-stays
returns-in-Again-clause-stays c =
    stays_so c.end_again.result c.args.run.now c.end_again.new.run c.requires.sound c.end_again.ensures.stays

pub returns-in-Holding-clause-stays : goal.returns-in-Holding-clause-stays
returns-in-Holding-clause-stays c =
    stays_so c.end_local.result c.args.run.now c.end_local.new.run c.requires.sound c.end_local.ensures.stays
