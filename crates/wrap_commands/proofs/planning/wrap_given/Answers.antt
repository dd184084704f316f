use Rattle.std.proofs.Common.{◌∙◌, List, subst}
use Rattle.command_plan.specs.rpp_tree.Views.{source_of}
use Rattle.command_plan.specs.pisa_loader.declared.input.InputField.{InputField}
use Rattle.command_plan.specs.pisa_loader.InputLines.{AreInput}
use Rattle.program_runs.proofs.run_settings_laws.ValidInput.{valid_input}
use Rattle.wrap_commands.proofs.planning.wrap_given.Goals as goal

pub run_wrapped-requires-clause-valid : goal.run_wrapped-requires-clause-valid
run_wrapped-requires-clause-valid g c =
    valid_input (source_of c.args.checked.now) c.in-Ok.input.words.items
    (subst (λ (fields : List InputField). AreInput fields c.in-Ok.input.words.items)
    (c.deref-2.ensures.value ∙ c.in_ok-fields.ensures.fields) c.in-Ok.ensures.input)
