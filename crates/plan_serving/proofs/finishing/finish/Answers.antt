use Rattle.std.proofs.Common.{subst}
use Rattle.plan_serving.specs.Outside.{HasPut}
use Rattle.plan_serving.specs.Finishes.{put_answer}
use Rattle.plan_serving.proofs.Finished.{finishes_none, finishes_some, finishes_not}
use Rattle.plan_serving.proofs.finishing.finish.Goals as goal

pub returns-in-None-clause-finishes : goal.returns-in-None-clause-finishes
returns-in-None-clause-finishes g c =
    finishes_none c.args.plan.now.writing _ _ _ _ _ _ c.say.result c.in-None.is c.as_str.ensures.value c.say.ensures.put

pub returns-in-Ok-clause-finishes : goal.returns-in-Ok-clause-finishes
returns-in-Ok-clause-finishes g c =
    finishes_some c.args.plan.now.writing c.in-Some.writing _ _ _ _ _ _ _ c.say-in-Ok.result c.in-Some.is
    c.as_str-in-Ok.ensures.value c.in-Ok.ensures.wrote
    (subst (λ out. HasPut c.as_str-in-Ok.result.now (put_answer c.say-in-Ok.result)
    (record { bytes = g.K.Sink.written out; puts = g.K.Sink.puts out })
    (record { bytes = g.K.Sink.written c.say-in-Ok.new.out; puts = g.K.Sink.puts c.say-in-Ok.new.out }))
    c.in-Ok.ensures.silent c.say-in-Ok.ensures.put)

pub returns-in-Err-clause-finishes : goal.returns-in-Err-clause-finishes
returns-in-Err-clause-finishes g c =
    finishes_not c.args.plan.now.writing c.in-Some.writing _ _ _ _ _ _ c.in-Err.broken c.in-Some.is
    c.in-Err.ensures.fails
