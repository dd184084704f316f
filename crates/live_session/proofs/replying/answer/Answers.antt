use Rattle.std.proofs.Common.{refl, false, Some, inl}
use Rattle.std.specs.Prelude.{string_bytes, ⊤}
use Rattle.live_searches.specs.rpp_tree.Views.{source_of}
use Rattle.live_searches.specs.source_debugger.declared.failing.Detail.TheVariants as details
use Rattle.live_searches.specs.source_debugger.Failures.{account_of}
use Rattle.live_talks.specs.live_requests.declared.request.Request.TheVariants as requests
use Rattle.live_talks.specs.declared.ends.End.TheVariants as end
use Rattle.live_talks.specs.Ends.{end_line}
use Rattle.live_talks.specs.Serving.{OrMemory}
use Rattle.live_talks.proofs.Putting.{by_text, bye_said}
use Rattle.live_session.specs.Replies.{IsReplyOf}
use Rattle.live_session.proofs.Answering.{same_run, by_request, made_puts, failure_ok}
use Rattle.live_session.proofs.replying.answer.Goals as goal

pub returns-in-Nothing-clause-puts : goal.returns-in-Nothing-clause-puts
returns-in-Nothing-clause-puts g c =
    by_request c.args.debugger.now c.args.limit c.args.request requests.Nothing c.args.line.now c.args.debugger.now
    (record { bytes = g.K.Sink.written c.args.out.now; puts = g.K.Sink.puts c.args.out.now })
    (record { bytes = g.K.Sink.written c.say_end.new.out; puts = g.K.Sink.puts c.say_end.new.out })
    c.say_end.result c.in-Nothing.is
    (by_text (OrMemory (IsReplyOf (source_of c.args.debugger.now.program) (account_of c.args.debugger.now) c.args.limit
    requests.Nothing c.args.line.now c.args.debugger.now.position)
    c.args.debugger.now.position) false ⊤ c.args.debugger.now.position c.args.debugger.now.position
    (record { bytes = g.K.Sink.written c.args.out.now; puts = g.K.Sink.puts c.args.out.now })
    (record { bytes = g.K.Sink.written c.say_end.new.out; puts = g.K.Sink.puts c.say_end.new.out }) c.say_end.result
    (end_line end.Done) c.say_end.ensures (inl refl) refl)

pub returns-in-Carry-clause-puts : goal.returns-in-Carry-clause-puts
returns-in-Carry-clause-puts g c =
    by_request c.args.debugger.now c.args.limit c.args.request (requests.Carry c.in-Carry.command) c.args.line.now
    c.say_carried.new.debugger
    (record { bytes = g.K.Sink.written c.args.out.now; puts = g.K.Sink.puts c.args.out.now })
    (record { bytes = g.K.Sink.written c.say_carried.new.out; puts = g.K.Sink.puts c.say_carried.new.out })
    c.say_carried.result c.in-Carry.is
    c.say_carried.ensures.puts

pub returns-in-Stack-clause-puts : goal.returns-in-Stack-clause-puts
returns-in-Stack-clause-puts g c =
    by_request c.args.debugger.now c.args.limit c.args.request requests.Stack c.args.line.now c.tell_stack.new.debugger
    (record { bytes = g.K.Sink.written c.args.out.now; puts = g.K.Sink.puts c.args.out.now })
    (record { bytes = g.K.Sink.written c.say_made.new.out; puts = g.K.Sink.puts c.say_made.new.out })
    c.say_made.result c.in-Stack.is
    (made_puts string_bytes c.tell_stack.result
    (IsReplyOf (source_of c.args.debugger.now.program) (account_of c.args.debugger.now) c.args.limit requests.Stack
    c.args.line.now c.args.debugger.now.position)
    c.args.debugger.now c.tell_stack.new.debugger
    (record { bytes = g.K.Sink.written c.args.out.now; puts = g.K.Sink.puts c.args.out.now })
    (record { bytes = g.K.Sink.written c.say_made.new.out; puts = g.K.Sink.puts c.say_made.new.out }) c.say_made.result
    c.tell_stack.ensures.told c.tell_stack.ensures.stays c.say_made.ensures)

pub returns-in-Stack-clause-same : goal.returns-in-Stack-clause-same
returns-in-Stack-clause-same g c = same_run c.args.debugger.now c.tell_stack.new.debugger c.tell_stack.ensures.stays

pub returns-in-RegsOf-clause-puts : goal.returns-in-RegsOf-clause-puts
returns-in-RegsOf-clause-puts g c =
    by_request c.args.debugger.now c.args.limit c.args.request (requests.RegsOf c.in-RegsOf.depth) c.args.line.now
    c.tell_call.new.debugger
    (record { bytes = g.K.Sink.written c.args.out.now; puts = g.K.Sink.puts c.args.out.now })
    (record {
      bytes = g.K.Sink.written c.say_made-in-RegsOf.new.out;
      puts = g.K.Sink.puts c.say_made-in-RegsOf.new.out;
    })
    c.say_made-in-RegsOf.result c.in-RegsOf.is
    (made_puts string_bytes c.tell_call.result
    (IsReplyOf (source_of c.args.debugger.now.program) (account_of c.args.debugger.now) c.args.limit
    (requests.RegsOf c.in-RegsOf.depth) c.args.line.now c.args.debugger.now.position)
    c.args.debugger.now c.tell_call.new.debugger
    (record { bytes = g.K.Sink.written c.args.out.now; puts = g.K.Sink.puts c.args.out.now })
    (record {
      bytes = g.K.Sink.written c.say_made-in-RegsOf.new.out;
      puts = g.K.Sink.puts c.say_made-in-RegsOf.new.out;
    }) c.say_made-in-RegsOf.result
    c.tell_call.ensures.told c.tell_call.ensures.stays c.say_made-in-RegsOf.ensures)

pub returns-in-RegsOf-clause-same : goal.returns-in-RegsOf-clause-same
returns-in-RegsOf-clause-same g c = same_run c.args.debugger.now c.tell_call.new.debugger c.tell_call.ensures.stays

pub returns-in-Fault-clause-puts : goal.returns-in-Fault-clause-puts
returns-in-Fault-clause-puts g c =
    by_request c.args.debugger.now c.args.limit c.args.request requests.Fault c.args.line.now
    c.tell_failure.new.debugger
    (record { bytes = g.K.Sink.written c.args.out.now; puts = g.K.Sink.puts c.args.out.now })
    (record { bytes = g.K.Sink.written c.say_made-in-Fault.new.out; puts = g.K.Sink.puts c.say_made-in-Fault.new.out })
    c.say_made-in-Fault.result c.in-Fault.is
    (made_puts string_bytes c.tell_failure.result
    (IsReplyOf (source_of c.args.debugger.now.program) (account_of c.args.debugger.now) c.args.limit requests.Fault
    c.args.line.now c.args.debugger.now.position)
    c.args.debugger.now c.tell_failure.new.debugger
    (record { bytes = g.K.Sink.written c.args.out.now; puts = g.K.Sink.puts c.args.out.now })
    (record { bytes = g.K.Sink.written c.say_made-in-Fault.new.out; puts = g.K.Sink.puts c.say_made-in-Fault.new.out })
    c.say_made-in-Fault.result
    (failure_ok string_bytes c.tell_failure.result c.args.debugger.now c.args.limit details.Test
    c.tell_failure.new.debugger c.tell_failure.ensures.told) c.tell_failure.ensures.stays c.say_made-in-Fault.ensures)

pub returns-in-Fault-clause-same : goal.returns-in-Fault-clause-same
returns-in-Fault-clause-same g c = same_run c.args.debugger.now c.tell_failure.new.debugger c.tell_failure.ensures.stays

pub returns-in-FaultCells-clause-puts : goal.returns-in-FaultCells-clause-puts
returns-in-FaultCells-clause-puts g c =
    by_request c.args.debugger.now c.args.limit c.args.request
    (requests.FaultCells c.in-FaultCells.from c.in-FaultCells.count) c.args.line.now
    c.tell_failure-in-FaultCells.new.debugger
    (record { bytes = g.K.Sink.written c.args.out.now; puts = g.K.Sink.puts c.args.out.now })
    (record {
      bytes = g.K.Sink.written c.say_made-in-FaultCells.new.out;
      puts = g.K.Sink.puts c.say_made-in-FaultCells.new.out;
    })
    c.say_made-in-FaultCells.result c.in-FaultCells.is
    (made_puts string_bytes c.tell_failure-in-FaultCells.result
    (IsReplyOf (source_of c.args.debugger.now.program) (account_of c.args.debugger.now) c.args.limit
    (requests.FaultCells c.in-FaultCells.from c.in-FaultCells.count) c.args.line.now c.args.debugger.now.position)
    c.args.debugger.now c.tell_failure-in-FaultCells.new.debugger
    (record { bytes = g.K.Sink.written c.args.out.now; puts = g.K.Sink.puts c.args.out.now })
    (record {
      bytes = g.K.Sink.written c.say_made-in-FaultCells.new.out;
      puts = g.K.Sink.puts c.say_made-in-FaultCells.new.out;
    }) c.say_made-in-FaultCells.result
    (failure_ok string_bytes c.tell_failure-in-FaultCells.result c.args.debugger.now c.args.limit
    (details.Cells c.in-FaultCells.from c.in-FaultCells.count) c.tell_failure-in-FaultCells.new.debugger
    c.tell_failure-in-FaultCells.ensures.told) c.tell_failure-in-FaultCells.ensures.stays
    c.say_made-in-FaultCells.ensures)

pub returns-in-FaultCells-clause-same : goal.returns-in-FaultCells-clause-same
returns-in-FaultCells-clause-same g c = same_run c.args.debugger.now c.tell_failure-in-FaultCells.new.debugger
    c.tell_failure-in-FaultCells.ensures.stays

pub returns-in-Value-clause-puts : goal.returns-in-Value-clause-puts
returns-in-Value-clause-puts g c =
    by_request c.args.debugger.now c.args.limit c.args.request requests.Value c.args.line.now c.tell_name.new.debugger
    (record { bytes = g.K.Sink.written c.args.out.now; puts = g.K.Sink.puts c.args.out.now })
    (record { bytes = g.K.Sink.written c.say_line.new.out; puts = g.K.Sink.puts c.say_line.new.out })
    c.say_line.result c.in-Value.is
    (made_puts (λ line. line.items) c.tell_name.result
    (IsReplyOf (source_of c.args.debugger.now.program) (account_of c.args.debugger.now) c.args.limit requests.Value
    c.args.line.now c.args.debugger.now.position)
    c.args.debugger.now c.tell_name.new.debugger
    (record { bytes = g.K.Sink.written c.args.out.now; puts = g.K.Sink.puts c.args.out.now })
    (record { bytes = g.K.Sink.written c.say_line.new.out; puts = g.K.Sink.puts c.say_line.new.out }) c.say_line.result
    c.tell_name.ensures.told c.tell_name.ensures.stays c.say_line.ensures)

pub returns-in-Value-clause-same : goal.returns-in-Value-clause-same
returns-in-Value-clause-same g c = same_run c.args.debugger.now c.tell_name.new.debugger c.tell_name.ensures.stays

pub returns-in-Heap-clause-puts : goal.returns-in-Heap-clause-puts
returns-in-Heap-clause-puts g c =
    by_request c.args.debugger.now c.args.limit c.args.request requests.Heap c.args.line.now c.args.debugger.now
    (record { bytes = g.K.Sink.written c.args.out.now; puts = g.K.Sink.puts c.args.out.now })
    (record { bytes = g.K.Sink.written c.say_made-in-Heap.new.out; puts = g.K.Sink.puts c.say_made-in-Heap.new.out })
    c.say_made-in-Heap.result c.in-Heap.is
    (made_puts string_bytes c.tell_blocks.result
    (IsReplyOf (source_of c.args.debugger.now.program) (account_of c.args.debugger.now) c.args.limit requests.Heap
    c.args.line.now c.args.debugger.now.position)
    c.args.debugger.now c.args.debugger.now
    (record { bytes = g.K.Sink.written c.args.out.now; puts = g.K.Sink.puts c.args.out.now })
    (record { bytes = g.K.Sink.written c.say_made-in-Heap.new.out; puts = g.K.Sink.puts c.say_made-in-Heap.new.out })
    c.say_made-in-Heap.result
    c.tell_blocks.ensures refl c.say_made-in-Heap.ensures)

pub returns-in-Spend-clause-puts : goal.returns-in-Spend-clause-puts
returns-in-Spend-clause-puts g c =
    by_request c.args.debugger.now c.args.limit c.args.request requests.Spend c.args.line.now c.args.debugger.now
    (record { bytes = g.K.Sink.written c.args.out.now; puts = g.K.Sink.puts c.args.out.now })
    (record { bytes = g.K.Sink.written c.say_made-in-Spend.new.out; puts = g.K.Sink.puts c.say_made-in-Spend.new.out })
    c.say_made-in-Spend.result c.in-Spend.is
    (made_puts string_bytes c.tell_spent.result
    (IsReplyOf (source_of c.args.debugger.now.program) (account_of c.args.debugger.now) c.args.limit requests.Spend
    c.args.line.now c.args.debugger.now.position)
    c.args.debugger.now c.args.debugger.now
    (record { bytes = g.K.Sink.written c.args.out.now; puts = g.K.Sink.puts c.args.out.now })
    (record { bytes = g.K.Sink.written c.say_made-in-Spend.new.out; puts = g.K.Sink.puts c.say_made-in-Spend.new.out })
    c.say_made-in-Spend.result
    c.tell_spent.ensures refl c.say_made-in-Spend.ensures)

pub returns-in-Limit-clause-puts : goal.returns-in-Limit-clause-puts
returns-in-Limit-clause-puts g c =
    by_request c.args.debugger.now c.args.limit c.args.request (requests.Limit c.in-Limit._most) c.args.line.now
    c.args.debugger.now
    (record { bytes = g.K.Sink.written c.args.out.now; puts = g.K.Sink.puts c.args.out.now })
    (record { bytes = g.K.Sink.written c.say_end-in-Limit.new.out; puts = g.K.Sink.puts c.say_end-in-Limit.new.out })
    c.say_end-in-Limit.result c.in-Limit.is
    (by_text (OrMemory (IsReplyOf (source_of c.args.debugger.now.program) (account_of c.args.debugger.now) c.args.limit
    (requests.Limit c.in-Limit._most) c.args.line.now c.args.debugger.now.position)
    c.args.debugger.now.position) false ⊤ c.args.debugger.now.position c.args.debugger.now.position
    (record { bytes = g.K.Sink.written c.args.out.now; puts = g.K.Sink.puts c.args.out.now })
    (record { bytes = g.K.Sink.written c.say_end-in-Limit.new.out; puts = g.K.Sink.puts c.say_end-in-Limit.new.out })
    c.say_end-in-Limit.result
    (end_line end.Done) c.say_end-in-Limit.ensures (inl refl) refl)

pub returns-in-Quit-clause-puts : goal.returns-in-Quit-clause-puts
returns-in-Quit-clause-puts g c =
    by_request c.args.debugger.now c.args.limit c.args.request requests.Quit c.args.line.now c.args.debugger.now
    (record { bytes = g.K.Sink.written c.args.out.now; puts = g.K.Sink.puts c.args.out.now })
    (record { bytes = g.K.Sink.written c.say_bye.new.out; puts = g.K.Sink.puts c.say_bye.new.out })
    (Some c.say_bye.result) c.in-Quit.is
    (bye_said (OrMemory (IsReplyOf (source_of c.args.debugger.now.program) (account_of c.args.debugger.now) c.args.limit
    requests.Quit c.args.line.now c.args.debugger.now.position)
    c.args.debugger.now.position) ⊤ c.args.debugger.now.position
    (record { bytes = g.K.Sink.written c.args.out.now; puts = g.K.Sink.puts c.args.out.now })
    (record { bytes = g.K.Sink.written c.say_bye.new.out; puts = g.K.Sink.puts c.say_bye.new.out }) c.say_bye.result
    (inl refl) c.say_bye.ensures)

pub returns-in-Bad-clause-puts : goal.returns-in-Bad-clause-puts
returns-in-Bad-clause-puts g c =
    by_request c.args.debugger.now c.args.limit c.args.request requests.Bad c.args.line.now c.say_asked.new.debugger
    (record { bytes = g.K.Sink.written c.args.out.now; puts = g.K.Sink.puts c.args.out.now })
    (record { bytes = g.K.Sink.written c.say_asked.new.out; puts = g.K.Sink.puts c.say_asked.new.out })
    c.say_asked.result c.in-Bad.is
    c.say_asked.ensures.puts
