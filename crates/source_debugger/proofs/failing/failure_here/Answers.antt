use Rattle.std.proofs.Common.{◌∙◌, sym}
use Rattle.std.specs.Prelude.{option_map, string_bytes}
use Rattle.source_courses.specs.rpp_tree.Views.{source_of}
use Rattle.source_courses.specs.declared.running.TheConstants.{MOST_COST}
use Rattle.source_debugger.specs.Failures.{account, shown_of}
use Rattle.source_debugger.proofs.Stopping.{fails_here_ok, goes_on}
use Rattle.source_debugger.proofs.failing.failure_here.Goals as goal

pub returns-then-is_fault-clause-told : goal.returns-then-is_fault-clause-told
returns-then-is_fault-clause-told c =
    fails_here_ok (option_map string_bytes) c.failure_text.result
    (account (source_of c.args.run.now.checked.now) c.args.run.now.limits c.args.run.now.input.now.words.items
    MOST_COST) (shown_of (source_of c.args.run.now.checked.now) c.args.detail) c.args.position c.in_ok-walk.walk
    c.in_ok-walk.ensures.walk (sym c.is_fault.ensures ∙ c.if-is_fault.true) c.failure_text.ensures

pub returns-else-is_fault-clause-told : goal.returns-else-is_fault-clause-told
returns-else-is_fault-clause-told c =
    goes_on (account (source_of c.args.run.now.checked.now) c.args.run.now.limits
    c.args.run.now.input.now.words.items MOST_COST) (shown_of (source_of c.args.run.now.checked.now) c.args.detail)
    c.args.position c.in_ok-walk.walk c.in_ok-walk.ensures.walk
    (sym c.is_fault.ensures ∙ c.if-is_fault.false)
