use Rattle.std.proofs.Common.{◌≡◌, subst}
use Rattle.std.specs.Prelude.{IfOk, option_map, string_bytes}
use Rattle.source_courses.specs.rpp_tree.Views.{source_of}
use Rattle.source_debugger.specs.Standing.{Standing}
use Rattle.source_debugger.specs.Stacks.{TellsCall}
use Rattle.source_debugger.proofs.debugger.SourceDebugger.call.Goals as goal

pub returns-clause-told : goal.returns-clause-told
returns-clause-told c =
    subst (λ (d : Standing). IfOk c.tell_call.result (λ text. TellsCall (source_of d.program) d.limits d.input
    d.position c.args.depth (option_map string_bytes text))) c.self.view_is
    c.tell_call.ensures.told
