use Rattle.std.proofs.Common.{◌≡◌, ◌<◌, List, refl, sym, ap, ap₂, subst, ◌∙◌, map}
use Rattle.std.specs.Option.{unwrap_or, option_map}
use Rattle.source_blocks.specs.rpp_tree.Tree.{Procedure}
use Rattle.source_blocks.specs.rpp_tree.Views.{procedure_of}
use Rattle.source_blocks.specs.class_rules.Members.{no_procedure}
use Rattle.source_blocks.specs.class_rules.Classes.{method_named}
use Rattle.source_blocks.specs.roopl_semantics.Value.{Cell, read}
use Rattle.source_blocks.specs.roopl_semantics.Execution.{cells_named, class_of, moved_out, in_direction}
use Rattle.source_blocks.specs.source_steps.CellView.{cell_view}
use Rattle.source_blocks.specs.source_steps.Marks.{with_marks}
use Rattle.source_blocks.specs.source_steps.StateView.{setting_of}
use Rattle.source_blocks.specs.declared.frames.Caller.{Caller}
use Rattle.source_blocks.specs.declared.frames.Part.TheVariants as runs
use Rattle.source_blocks.specs.declared.run.Run.{Run}
use Rattle.source_blocks.specs.Blocks.{statement_count}
use Rattle.source_blocks.specs.Tasks.{task_of}
use Rattle.source_blocks.specs.Opens.{caller_of, cells_in, values_in, IsCaller}
use Rattle.source_blocks.specs.Runs.{config_of, state_in, only_cell}
use Rattle.source_statements.proofs.Callee.{callee_each, callee_sound, entered_result}
use Rattle.source_statements.proofs.calls.enter_with.Goals as goal

pub become_callee-caller-requires-clause-each : goal.become_callee-caller-requires-clause-each
become_callee-caller-requires-clause-each c =
    callee_each (unwrap_or (option_map (λ method. procedure_of method.now) c.method_of-method.result)
    no_procedure).params c.params_for-params.result.now c.args.inside.items c.params_for-params.new.inside.items _ refl
    c.params_for-params.ensures.params c.params_for-params.ensures.values

pub open_block-requires-clause-sound : goal.open_block-requires-clause-sound
open_block-requires-clause-sound c =
    callee_sound c.args.run.now c.move_in.new.run c.become_callee-caller.new.run c.move_in.ensures.same c.args.object
    c.become_callee-caller.ensures.callee c.become_callee-caller.ensures.bare
    (unwrap_or (option_map (λ method. procedure_of method.now) c.method_of-method.result) no_procedure).params
    c.args.inside.items _ refl
    (c.become_callee-caller.ensures.params ∙ c.params_for-params.ensures.params)
    (c.become_callee-caller.ensures.values ∙ c.params_for-params.ensures.values)
    (c.become_callee-caller.ensures.marks ∙ ap (with_marks 0) (sym c.become_callee-caller.ensures.params))
    c.move_in.ensures.sound

pub open_block-requires-clause-within : goal.open_block-requires-clause-within
open_block-requires-clause-within c =
    subst (λ (r : Run). r.at < statement_count (task_of r.task)) (sym c.become_callee-caller.ensures.callee)
    (subst (λ (r : Run). r.at < statement_count (task_of r.task)) (sym c.move_in.ensures.same) c.requires.within)

pub open_block-requires-clause-part : goal.open_block-requires-clause-part
open_block-requires-clause-part c =
    subst (λ (k : Caller). IsCaller (runs.Calling k)) (sym c.become_callee-caller.ensures.caller)
    (c.move_in.ensures.sound.each, c.move_in.ensures.sound.marked)

pub returns-clause-entered : goal.returns-clause-entered
returns-clause-entered c =
    let found : Procedure = unwrap_or (option_map (λ method. procedure_of method.now) c.method_of-method.result)
    no_procedure in
    let here = setting_of c.args.run.now.setting in
    let st = state_in c.args.run.now in
    let named : Procedure = method_named here.program (class_of here st c.args.object)
    c.args.calls.now.method.now.text in
    let same : found ≡ named = c.method_of-method.ensures
    ∙ ap (λ k. method_named here.program k c.args.calls.now.method.now.text) c.class_of-class.ensures in
    let args = cells_named here st c.args.calls.now.args.now in
    entered_result c.args.run.now c.move_in.new.run c.become_callee-caller.new.run c.move_in.ensures.same c.args.object
    c.become_callee-caller.ensures.callee c.become_callee-caller.ensures.bare found.params c.args.inside.items _ refl
    (c.become_callee-caller.ensures.params ∙ c.params_for-params.ensures.params)
    (c.become_callee-caller.ensures.values ∙ c.params_for-params.ensures.values) named c.args.calls.now.back
    (only_cell c.args.cell) args c.become_callee-caller.result
    (ap (λ (m : Procedure). m.params) same) (c.requires.held ∙ ap (map (read st)) c.requires.cells)
    (c.move_in.ensures.moved
    ∙ ap₂ (λ (xs ys : List Cell). moved_out ys (moved_out xs st)) c.receiver_of-receiver.ensures.cells
    c.requires.cells)
    (ap caller_of c.become_callee-caller.ensures.caller)
    (ap (λ (k : Caller). cells_in k.receiver) c.become_callee-caller.ensures.caller
    ∙ c.receiver_of-receiver.ensures.cells)
    (ap (λ (k : Caller). values_in k.receiver) c.become_callee-caller.ensures.caller
    ∙ c.receiver_of-receiver.ensures.values)
    (ap (λ (k : Caller). map cell_view k.args.items) c.become_callee-caller.ensures.caller ∙ c.requires.cells)
    c.open_block.result (config_of c.open_block.new.run) (task_of c.task_for-task.result)
    c.open_block.ensures.opened
    (c.task_for-task.ensures ∙ ap (λ (m : Procedure). in_direction c.args.calls.now.back m.body) same)
