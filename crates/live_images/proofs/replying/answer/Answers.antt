use Rattle.std.proofs.Common.{refl}
use Rattle.live_talks.specs.live_requests.declared.request.Request.TheVariants.{Nothing, Carry, Spend, Stack, RegsOf, Fault}
use Rattle.live_talks.specs.live_requests.declared.request.Request.TheVariants.{FaultCells, Value, Heap, Bad}
use Rattle.live_talks.specs.declared.ends.End.TheVariants as end
use Rattle.live_images.specs.Replies.{answered}
use Rattle.live_images.specs.Sessions.{held_in}
use Rattle.live_images.proofs.Answering.{answer_alone, request_said, limit_said, quit_said}
use Rattle.live_images.proofs.replying.answer.Goals as goal

pub returns-in-Nothing : goal.returns-in-Nothing
returns-in-Nothing g c =
    request_said c.args.request Nothing c.args.line.now (held_in c.args.run.now) (held_in c.args.run.now)
    (record { bytes = g.K.Sink.written c.args.out.now; puts = g.K.Sink.puts c.args.out.now })
    (record { bytes = g.K.Sink.written c.say_end.new.out; puts = g.K.Sink.puts c.say_end.new.out })
    c.say_end.result c.in-Nothing.is refl refl
    (answer_alone (answered c.args.run.now.limit Nothing c.args.line.now c.args.run.now.debugger) end.Done
    (held_in c.args.run.now)
    (record { bytes = g.K.Sink.written c.args.out.now; puts = g.K.Sink.puts c.args.out.now })
    (record { bytes = g.K.Sink.written c.say_end.new.out; puts = g.K.Sink.puts c.say_end.new.out })
    c.say_end.result refl c.say_end.ensures)

pub returns-in-Carry : goal.returns-in-Carry
returns-in-Carry g c =
    request_said c.args.request (Carry c.in-Carry.command) c.args.line.now (held_in c.args.run.now)
    (held_in c.say_carried.new.run)
    (record { bytes = g.K.Sink.written c.args.out.now; puts = g.K.Sink.puts c.args.out.now })
    (record { bytes = g.K.Sink.written c.say_carried.new.out; puts = g.K.Sink.puts c.say_carried.new.out })
    c.say_carried.result c.in-Carry.is refl refl c.say_carried.ensures

pub returns-in-Spend : goal.returns-in-Spend
returns-in-Spend g c =
    request_said c.args.request Spend c.args.line.now (held_in c.args.run.now) (held_in c.say_spent.new.run)
    (record { bytes = g.K.Sink.written c.args.out.now; puts = g.K.Sink.puts c.args.out.now })
    (record { bytes = g.K.Sink.written c.say_spent.new.out; puts = g.K.Sink.puts c.say_spent.new.out })
    c.say_spent.result c.in-Spend.is refl refl c.say_spent.ensures

pub returns-in-Limit : goal.returns-in-Limit
returns-in-Limit g c =
    limit_said c.args.request c.in-Limit.most c.args.line.now (held_in c.args.run.now)
    (record { bytes = g.K.Sink.written c.args.out.now; puts = g.K.Sink.puts c.args.out.now })
    (record { bytes = g.K.Sink.written c.say_end-in-Limit.new.out; puts = g.K.Sink.puts c.say_end-in-Limit.new.out })
    c.say_end-in-Limit.result c.in-Limit.is c.say_end-in-Limit.ensures

pub returns-in-Stack : goal.returns-in-Stack
returns-in-Stack g c =
    request_said c.args.request Stack c.args.line.now (held_in c.args.run.now) (held_in c.args.run.now)
    (record { bytes = g.K.Sink.written c.args.out.now; puts = g.K.Sink.puts c.args.out.now })
    (record { bytes = g.K.Sink.written c.say_end-in-Stack.new.out; puts = g.K.Sink.puts c.say_end-in-Stack.new.out })
    c.say_end-in-Stack.result c.in-Stack.is refl refl
    (answer_alone (answered c.args.run.now.limit Stack c.args.line.now c.args.run.now.debugger) end.Bad
    (held_in c.args.run.now)
    (record { bytes = g.K.Sink.written c.args.out.now; puts = g.K.Sink.puts c.args.out.now })
    (record { bytes = g.K.Sink.written c.say_end-in-Stack.new.out; puts = g.K.Sink.puts c.say_end-in-Stack.new.out })
    c.say_end-in-Stack.result refl c.say_end-in-Stack.ensures)

pub returns-in-RegsOf : goal.returns-in-RegsOf
returns-in-RegsOf g c =
    request_said c.args.request (RegsOf c.in-RegsOf._depth) c.args.line.now (held_in c.args.run.now)
    (held_in c.args.run.now)
    (record { bytes = g.K.Sink.written c.args.out.now; puts = g.K.Sink.puts c.args.out.now })
    (record { bytes = g.K.Sink.written c.say_end-in-RegsOf.new.out; puts = g.K.Sink.puts c.say_end-in-RegsOf.new.out })
    c.say_end-in-RegsOf.result c.in-RegsOf.is refl refl
    (answer_alone (answered c.args.run.now.limit (RegsOf c.in-RegsOf._depth) c.args.line.now c.args.run.now.debugger)
    end.Bad
    (held_in c.args.run.now)
    (record { bytes = g.K.Sink.written c.args.out.now; puts = g.K.Sink.puts c.args.out.now })
    (record { bytes = g.K.Sink.written c.say_end-in-RegsOf.new.out; puts = g.K.Sink.puts c.say_end-in-RegsOf.new.out })
    c.say_end-in-RegsOf.result refl c.say_end-in-RegsOf.ensures)

pub returns-in-Fault : goal.returns-in-Fault
returns-in-Fault g c =
    request_said c.args.request Fault c.args.line.now (held_in c.args.run.now) (held_in c.args.run.now)
    (record { bytes = g.K.Sink.written c.args.out.now; puts = g.K.Sink.puts c.args.out.now })
    (record { bytes = g.K.Sink.written c.say_end-in-Fault.new.out; puts = g.K.Sink.puts c.say_end-in-Fault.new.out })
    c.say_end-in-Fault.result c.in-Fault.is refl refl
    (answer_alone (answered c.args.run.now.limit Fault c.args.line.now c.args.run.now.debugger) end.Bad
    (held_in c.args.run.now)
    (record { bytes = g.K.Sink.written c.args.out.now; puts = g.K.Sink.puts c.args.out.now })
    (record { bytes = g.K.Sink.written c.say_end-in-Fault.new.out; puts = g.K.Sink.puts c.say_end-in-Fault.new.out })
    c.say_end-in-Fault.result refl c.say_end-in-Fault.ensures)

pub returns-in-FaultCells : goal.returns-in-FaultCells
returns-in-FaultCells g c =
    request_said c.args.request (FaultCells c.in-FaultCells._from c.in-FaultCells._count) c.args.line.now
    (held_in c.args.run.now) (held_in c.args.run.now)
    (record { bytes = g.K.Sink.written c.args.out.now; puts = g.K.Sink.puts c.args.out.now })
    (record {
      bytes = g.K.Sink.written c.say_end-in-FaultCells.new.out;
      puts = g.K.Sink.puts c.say_end-in-FaultCells.new.out;
    })
    c.say_end-in-FaultCells.result c.in-FaultCells.is refl refl
    (answer_alone (answered c.args.run.now.limit (FaultCells c.in-FaultCells._from c.in-FaultCells._count)
    c.args.line.now c.args.run.now.debugger) end.Bad
    (held_in c.args.run.now)
    (record { bytes = g.K.Sink.written c.args.out.now; puts = g.K.Sink.puts c.args.out.now })
    (record {
      bytes = g.K.Sink.written c.say_end-in-FaultCells.new.out;
      puts = g.K.Sink.puts c.say_end-in-FaultCells.new.out;
    })
    c.say_end-in-FaultCells.result refl c.say_end-in-FaultCells.ensures)

pub returns-in-Value : goal.returns-in-Value
returns-in-Value g c =
    request_said c.args.request Value c.args.line.now (held_in c.args.run.now) (held_in c.args.run.now)
    (record { bytes = g.K.Sink.written c.args.out.now; puts = g.K.Sink.puts c.args.out.now })
    (record { bytes = g.K.Sink.written c.say_end-in-Value.new.out; puts = g.K.Sink.puts c.say_end-in-Value.new.out })
    c.say_end-in-Value.result c.in-Value.is refl refl
    (answer_alone (answered c.args.run.now.limit Value c.args.line.now c.args.run.now.debugger) end.Bad
    (held_in c.args.run.now)
    (record { bytes = g.K.Sink.written c.args.out.now; puts = g.K.Sink.puts c.args.out.now })
    (record { bytes = g.K.Sink.written c.say_end-in-Value.new.out; puts = g.K.Sink.puts c.say_end-in-Value.new.out })
    c.say_end-in-Value.result refl c.say_end-in-Value.ensures)

pub returns-in-Heap : goal.returns-in-Heap
returns-in-Heap g c =
    request_said c.args.request Heap c.args.line.now (held_in c.args.run.now) (held_in c.args.run.now)
    (record { bytes = g.K.Sink.written c.args.out.now; puts = g.K.Sink.puts c.args.out.now })
    (record { bytes = g.K.Sink.written c.say_end-in-Heap.new.out; puts = g.K.Sink.puts c.say_end-in-Heap.new.out })
    c.say_end-in-Heap.result c.in-Heap.is refl refl
    (answer_alone (answered c.args.run.now.limit Heap c.args.line.now c.args.run.now.debugger) end.Bad
    (held_in c.args.run.now)
    (record { bytes = g.K.Sink.written c.args.out.now; puts = g.K.Sink.puts c.args.out.now })
    (record { bytes = g.K.Sink.written c.say_end-in-Heap.new.out; puts = g.K.Sink.puts c.say_end-in-Heap.new.out })
    c.say_end-in-Heap.result refl c.say_end-in-Heap.ensures)

pub returns-in-Quit : goal.returns-in-Quit
returns-in-Quit g c =
    quit_said c.args.request c.args.line.now (held_in c.args.run.now)
    (record { bytes = g.K.Sink.written c.args.out.now; puts = g.K.Sink.puts c.args.out.now })
    (record { bytes = g.K.Sink.written c.say_bye.new.out; puts = g.K.Sink.puts c.say_bye.new.out }) c.say_bye.result
    c.in-Quit.is c.say_bye.ensures

pub returns-in-Bad : goal.returns-in-Bad
returns-in-Bad g c =
    request_said c.args.request Bad c.args.line.now (held_in c.args.run.now) (held_in c.say_asked.new.run)
    (record { bytes = g.K.Sink.written c.args.out.now; puts = g.K.Sink.puts c.args.out.now })
    (record { bytes = g.K.Sink.written c.say_asked.new.out; puts = g.K.Sink.puts c.say_asked.new.out })
    c.say_asked.result c.in-Bad.is refl refl c.say_asked.ensures
