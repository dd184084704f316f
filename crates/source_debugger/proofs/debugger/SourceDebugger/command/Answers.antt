use Rattle.std.proofs.Common.{◌∙◌, ◌++◌, ap, List, ℕ}
use Rattle.std.specs.Prelude.{string_bytes}
use Rattle.source_debugger.proofs.Following.{leads_by}
use Rattle.source_debugger.proofs.debugger.SourceDebugger.command.Goals as goal

pub returns-clause-told : goal.returns-clause-told
returns-clause-told c = (
  string_bytes c.in_ok-answer.answer.text,
  leads_by c.self.inside.checked.now c.self.inside.limits
      c.self.inside.input.now.words.items c.self.inside.position c.in_ok-answer.answer.position c.args.self.now
      c.args.command.now (string_bytes c.in_ok-answer.answer.text) c.self.view_is c.in_ok-answer.ensures.told,
  c.in_ok-push_str.ensures.bytes ∙ ap (λ (text : List ℕ). string_bytes c.args.out.now ++ text)
      c.as_str.ensures.value,
)
