use Rattle.std.proofs.Common.{◌≡◌, subst}
use Rattle.std.specs.Prelude.{IfOk, string_bytes}
use Rattle.source_courses.specs.rpp_tree.Views.{source_of}
use Rattle.source_debugger.specs.Standing.{Standing}
use Rattle.source_debugger.specs.Stacks.{TellsStack}
use Rattle.source_debugger.proofs.debugger.SourceDebugger.stack.Goals as goal

pub returns-clause-told : goal.returns-clause-told
returns-clause-told c =
    subst (λ (d : Standing). IfOk c.tell_stack.result
    (λ text. TellsStack (source_of d.program) d.limits d.input d.position (string_bytes text))) c.self.view_is
    c.tell_stack.ensures.told
