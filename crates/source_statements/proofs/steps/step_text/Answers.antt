use Rattle.std.proofs.Common.{◌+◌, ◌*◌, length}
use Rattle.source_blocks.specs.Runs.{config_of}
use Rattle.source_statements.proofs.Stepped.{ended_gives, begins_unpaid, begins_gives, begins_falls, end_falls}
use Rattle.source_statements.proofs.Stepped.{paid_falls, past_of, within_of, here_of}
use Rattle.source_statements.proofs.Stopped.{ends_so, begins_so, unpaid_so, stays_so}
use Rattle.source_statements.proofs.steps.step_text.Goals as goal

pub begin_written-requires-clause-here : goal.begin_written-requires-clause-here
begin_written-requires-clause-here c = here_of c.args.run.now _ c.requires.text _ c.in-Some.ensures.statement

pub returns-in-None-clause-gives : goal.returns-in-None-clause-gives
returns-in-None-clause-gives c =
    ended_gives c.args.run.now (λ u. config_of c.end.new.run) c.end.result c.args.fuel.now c.end.new.fuel
    c.args.back (past_of c.args.run.now _ c.requires.text c.in-None.ensures.past) c.end.ensures.gives

pub returns-in-None-clause-falls : goal.returns-in-None-clause-falls
returns-in-None-clause-falls c =
    end_falls c.args.run.now c.end.result (2 * c.end.new.fuel + length c.end.new.run.frames.items)
    (2 * c.args.fuel.now + length c.args.run.now.frames.items)
    (past_of c.args.run.now _ c.requires.text c.in-None.ensures.past) c.end.ensures.falls

pub returns-in-Err-clause-gives : goal.returns-in-Err-clause-gives
returns-in-Err-clause-gives c =
    begins_unpaid c.args.run.now c.args.fuel.now c.spend.new.fuel c.in-Err.why c.args.back
    (within_of c.args.run.now _ c.requires.text c.in-Some.ensures.within)
    c.in-Err.ensures.gives

pub returns-in-Ok-clause-gives : goal.returns-in-Ok-clause-gives
returns-in-Ok-clause-gives c =
    begins_gives c.args.run.now (λ u. config_of c.begin_written.new.run) c.begin_written.result c.args.fuel.now
    c.spend.new.fuel
    c.begin_written.new.fuel c.args.back (within_of c.args.run.now _ c.requires.text c.in-Some.ensures.within)
    c.in-Ok.ensures.gives c.begin_written.ensures.gives

pub returns-in-Ok-clause-falls : goal.returns-in-Ok-clause-falls
returns-in-Ok-clause-falls c =
    begins_falls c.args.run.now c.begin_written.result (2 * c.begin_written.new.fuel + length
    c.begin_written.new.run.frames.items)
    (2 * c.args.fuel.now + length c.args.run.now.frames.items)
    (within_of c.args.run.now _ c.requires.text c.in-Some.ensures.within)
    (paid_falls c.begin_written.result c.args.fuel.now c.spend.new.fuel c.begin_written.new.fuel
    (length c.begin_written.new.run.frames.items)
    (length c.args.run.now.frames.items) c.in-Ok.ensures.paid c.begin_written.ensures.less
    c.begin_written.ensures.opens)

pub returns-in-None-clause-stops : goal.returns-in-None-clause-stops
returns-in-None-clause-stops c = ends_so c.args.run.now c.end.result
    (past_of c.args.run.now _ c.requires.text c.in-None.ensures.past) c.end.ensures.own

pub returns-in-Err-clause-stops : goal.returns-in-Err-clause-stops
returns-in-Err-clause-stops c = unpaid_so c.args.run.now c.in-Err.why
    (within_of c.args.run.now _ c.requires.text c.in-Some.ensures.within) c.in-Err.ensures.own

pub returns-in-Ok-clause-stops : goal.returns-in-Ok-clause-stops
returns-in-Ok-clause-stops c =
    begins_so c.args.run.now c.begin_written.result _ (within_of c.args.run.now _ c.requires.text
    c.in-Some.ensures.within) (here_of c.args.run.now _ c.requires.text _ c.in-Some.ensures.statement)
    c.begin_written.ensures.stops

pub returns-in-Ok-clause-stays : goal.returns-in-Ok-clause-stays
returns-in-Ok-clause-stays c =
    stays_so c.begin_written.result c.args.run.now c.begin_written.new.run c.requires.sound
    c.begin_written.ensures.stays
