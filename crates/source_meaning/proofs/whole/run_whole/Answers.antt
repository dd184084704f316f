use Rattle.std.proofs.Common.{◌-◌}
use Rattle.source_execution.specs.rpp_tree.Views.{source_of}
use Rattle.source_execution.specs.roopl_semantics.Source.{source}
use Rattle.source_meaning.specs.declared.outcome.Outcome.TheVariants as outcome
use Rattle.source_meaning.specs.Outcomes.{IsOutcome}
use Rattle.source_meaning.proofs.Ending.{main_done, main_counts, main_stops, done_as}
use Rattle.source_meaning.proofs.whole.run_whole.Goals as goal

pub done-requires : goal.done-requires
done-requires c =
    main_counts (source_of c.args.checked.now) c.args.limits c.args.input.now.words.items c.args.fuel c.run.new.fuel
    c.in_ok-execution.execution c.run.new.self c.in_ok-execution.ensures.setting
    c.in_ok-execution.ensures.start tt c.in-Ok.ensures.walks
    c.in-Ok.ensures.over c.into_heap.result.store c.into_heap.ensures.store c.program.ensures.accepted
    c.requires.limits c.requires.valid

pub returns-in-Ok : goal.returns-in-Ok
returns-in-Ok c =
    done_as c.done.result (outcome.Done c.into_heap.result.store (c.args.fuel - c.run.new.fuel))
    (λ o. IsOutcome o (source (source_of c.args.checked.now) c.args.limits c.args.input.now.words.items
    c.args.fuel))
    (main_done (source_of c.args.checked.now) c.args.limits c.args.input.now.words.items c.args.fuel c.run.new.fuel
    c.in_ok-execution.execution c.run.new.self c.in_ok-execution.ensures.setting
    c.in_ok-execution.ensures.start tt c.in-Ok.ensures.walks
    c.in-Ok.ensures.over c.into_heap.result.store c.into_heap.ensures.store)
    c.done.ensures

pub returns-in-Err : goal.returns-in-Err
returns-in-Err c =
    main_stops (source_of c.args.checked.now) c.args.limits c.args.input.now.words.items c.args.fuel c.run.new.fuel
    c.in_ok-execution.execution c.run.new.self c.in_ok-execution.ensures.setting
    c.in_ok-execution.ensures.start c.stopped.result c.in-Err.stop
    c.in-Err.ensures.walks c.stopped.ensures
