use Rattle.std.proofs.Common.{◌≡◌, subst}
use Rattle.std.specs.Prelude.{IfOk, option_map, string_bytes}
use Rattle.source_courses.specs.rpp_tree.Views.{source_of}
use Rattle.source_debugger.specs.Standing.{Standing}
use Rattle.source_debugger.specs.Failures.{account_of, fails_at, shown_of}
use Rattle.source_debugger.proofs.debugger.SourceDebugger.failure.Goals as goal

pub returns-clause-told : goal.returns-clause-told
returns-clause-told c =
    subst (λ (d : Standing). IfOk c.tell_failure.result
    (λ text. option_map string_bytes text
    ≡ fails_at (account_of d) (shown_of (source_of d.program) c.args.detail) d.position)) c.self.view_is
    c.tell_failure.ensures.told
