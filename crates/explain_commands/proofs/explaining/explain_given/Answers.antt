use Rattle.std.proofs.Common.{◌∙◌, List, subst}
use Rattle.run_settings.specs.rpp_tree.Views.{source_of}
use Rattle.run_settings.specs.pisa_loader.declared.input.InputField.{InputField}
use Rattle.run_settings.specs.pisa_loader.InputLines.{AreInput}
use Rattle.run_settings.proofs.ValidInput.{valid_input}
use Rattle.explain_commands.proofs.explaining.explain_given.Goals as goal

pub explain_run-requires-clause-valid : goal.explain_run-requires-clause-valid
explain_run-requires-clause-valid c =
    valid_input (source_of c.args.checked.now) c.in-Ok.input.words.items
    (subst (λ (fields : List InputField). AreInput fields c.in-Ok.input.words.items)
    (c.deref.ensures.value ∙ c.in_ok-fields.ensures.fields) c.in-Ok.ensures.input)
