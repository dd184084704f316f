use Rattle.std.proofs.Common.{◌≡◌, ◌∙◌, ◌++◌, ◌-◌, ap, ℕ, length, arith}
use Rattle.std.specs.Prelude.{string_bytes}
use Rattle.command_plan.specs.rpp_tree.Views.{source_of}
use Rattle.command_plan.specs.command_ends.declared.verdict.Verdict.TheVariants.{Done}
use Rattle.command_plan.specs.Plans.{planned, prints}
use Rattle.command_plan.specs.Texts.{steps_line}
use Rattle.wrap_commands.specs.WrapShown.{word_lines}
use Rattle.wrap_commands.proofs.Wrapping.{tells_results}
use Rattle.wrap_commands.proofs.running.report_results.Goals as goal

pub returns : goal.returns
returns c =
    let program = source_of c.args._checked.now in
    let s = c.args.setting.now in
    let cells = c.args.machine.now.state.cells in
    let initial : ℕ = c.cells.result - c.len.result in
    let all = c.cells.ensures in
    let some = c.len.ensures in
    let count : initial ≡ length cells - length s.results.items = omega (arith, all, some) in
    let lines : string_bytes c.add_results.new.out ≡ word_lines s.results.items cells initial =
    c.in_ok-add_results.ensures ∙ ap (λ l. l ++ word_lines c.deref.result.now cells initial) c.new-lines.ensures.bytes
    ∙ ap (λ xs. word_lines xs cells initial) c.deref.ensures.value in
    tells_results program s.results.items s.limits s.input.words.items s.bound c.args._image.now c.args.machine.now
    c.args.spent c.requires
    initial (string_bytes c.add_results.new.out) (planned c.prints.result) count lines
    (c.prints.ensures ∙ ap (prints Done) (c.in_ok-text.ensures
    ∙ ap (λ l. l ++ steps_line c.args.spent) c.in_ok-with_initial.ensures))
