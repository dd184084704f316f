use Rattle.std.proofs.Common.{◌≡◌, ◌∙◌, refl, sym, subst, None}
use Rattle.std.specs.Prelude.{⊤}
use Rattle.live_searches.specs.rpp_tree.Views.{source_of}
use Rattle.live_searches.specs.source_debugger.Failures.{account_of}
use Rattle.live_talks.specs.live_requests.declared.request.Request.{Request}
use Rattle.live_talks.specs.live_requests.Requests.{request_of, is_quit}
use Rattle.live_talks.specs.live_requests.Limited.{limit_of}
use Rattle.live_talks.specs.Serving.{OrMemory, PutsBy}
use Rattle.live_talks.proofs.Limiting.{line_held, limit_set, line_unread}
use Rattle.live_session.specs.Replies.{IsReplyOf}
use Rattle.live_session.specs.Sessions.{RepliesBy}
use Rattle.live_session.proofs.session.answer_line.Goals as goal

pub returns-in-Some-clause-puts : goal.returns-in-Some-clause-puts
returns-in-Some-clause-puts g c =
    limit_set (RepliesBy (source_of c.args.debugger.now.program) (account_of c.args.debugger.now))
    c.args.debugger.now.position c.args.limit.now c.in-Some.most c.args.line.now c.in-Ok.request
    (record { bytes = g.K.Sink.written c.args.out.now; puts = g.K.Sink.puts c.args.out.now })
    (record { bytes = g.K.Sink.written c.say_end.new.out; puts = g.K.Sink.puts c.say_end.new.out }) c.say_end.result
    c.in-Ok.ensures.request (sym c.limit_of.ensures ∙ c.in-Some.is) c.say_end.ensures

pub returns-in-None-clause-puts : goal.returns-in-None-clause-puts
returns-in-None-clause-puts g c =
    line_held (RepliesBy (source_of c.args.debugger.now.program) (account_of c.args.debugger.now))
    c.args.debugger.now.position c.answer.new.debugger.position c.args.limit.now c.args.line.now
    (request_of c.args.line.now)
    (record { bytes = g.K.Sink.written c.args.out.now; puts = g.K.Sink.puts c.args.out.now })
    (record { bytes = g.K.Sink.written c.answer.new.out; puts = g.K.Sink.puts c.answer.new.out }) c.answer.result refl
    (subst (λ (r : Request). limit_of r ≡ None) c.in-Ok.ensures.request (sym c.limit_of.ensures ∙ c.in-None.is))
    (subst (λ (r : Request). PutsBy (OrMemory (IsReplyOf (source_of c.args.debugger.now.program)
    (account_of c.args.debugger.now)
    c.args.limit.now r c.args.line.now c.args.debugger.now.position) c.args.debugger.now.position) (is_quit r) ⊤
    c.args.debugger.now.position c.answer.new.debugger.position
    (record { bytes = g.K.Sink.written c.args.out.now; puts = g.K.Sink.puts c.args.out.now })
    (record { bytes = g.K.Sink.written c.answer.new.out; puts = g.K.Sink.puts c.answer.new.out }) c.answer.result)
    c.in-Ok.ensures.request c.answer.ensures.puts)

pub returns-in-Err-clause-puts : goal.returns-in-Err-clause-puts
returns-in-Err-clause-puts g c =
    line_unread (RepliesBy (source_of c.args.debugger.now.program) (account_of c.args.debugger.now))
    c.args.debugger.now.position c.args.limit.now c.args.line.now
    (record { bytes = g.K.Sink.written c.args.out.now; puts = g.K.Sink.puts c.args.out.now })
    (record { bytes = g.K.Sink.written c.say_end-in-Err.new.out; puts = g.K.Sink.puts c.say_end-in-Err.new.out })
    c.say_end-in-Err.result
    c.in-Err.ensures.quit c.say_end-in-Err.ensures
