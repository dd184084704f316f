use Rattle.std.proofs.Common.{◌≡◌, subst, Some}
use Rattle.std.specs.Prelude.{IfOk}
use Rattle.source_debugger.specs.declared.looking.Seen.{Seen}
use Rattle.source_courses.specs.Walks.{stand_at}
use Rattle.source_debugger.specs.Standing.{Standing, trail_of}
use Rattle.source_debugger.specs.Looks.{seen_of}
use Rattle.source_debugger.proofs.debugger.SourceDebugger.look.Goals as goal

pub returns-clause-seen : goal.returns-clause-seen
returns-clause-seen c =
    subst (λ (d : Standing). IfOk c.look_at.result
    (λ (seen : Seen). seen_of (stand_at (trail_of d) d.position) ≡ Some seen)) c.self.view_is c.look_at.ensures.seen
