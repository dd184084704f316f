use Rattle.std.proofs.Common.{◌≡◌, ◌∙◌, ◌≤◌, sym, ap, subst, length, List}
use Rattle.command_plan.specs.rpp_tree.Views.{source_of}
use Rattle.command_plan.specs.pisa_loader.declared.input.InputField.{InputField}
use Rattle.program_runs.specs.run_settings.Inputs.{input_fields}
use Rattle.wrap_commands.specs.WrapNames.{results_of}
use Rattle.wrap_commands.proofs.Results.{are_results}
use Rattle.wrap_commands.proofs.planning.wrap_named.Goals as goal

pub wrap_given-requires-clause-results : goal.wrap_given-requires-clause-results
wrap_given-requires-clause-results g c =
    let program = source_of c.args.checked.now in
    let fields : c.in_ok-fields.fields.items ≡ input_fields program = c.in_ok-fields.ensures.fields in
    let few = subst (λ (xs : List InputField). length xs ≤ 64) fields c.in_ok-fields.ensures.few in
    are_results program c.args.request.now.names.items c.in-Ok.results.items c.is_accepted.ensures few
    (ap (λ (xs : List InputField). results_of xs c.args.request.now.names.items)
    (sym fields ∙ sym c.deref-2.ensures.value)
    ∙ ap (results_of c.deref-2.result.now) (sym c.deref.ensures.value) ∙ c.in-Ok.ensures)
