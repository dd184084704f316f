-- The laws in the form of their statements.
use Rattle.refine_calls.proofs.FactsFit.{known}
use Rattle.refine_expressions.specs.Laws.{TestsAreTold, ValuesAreTold, UpdatesAreTold, SwapsAreTold}
use Rattle.refine_expressions.proofs.ValuesFit.{test_fits, value_fits_law}
use Rattle.refine_expressions.proofs.UpdatesFit.{update_fits}
use Rattle.refine_expressions.proofs.SwapsFit.{swap_fits}

pub tests_are_told : TestsAreTold
tests_are_told place h s e ok p law = test_fits place h.few (known place.setting.program h.accepted) s e ok p law

pub values_are_told : ValuesAreTold
values_are_told place h s e k ok p law = value_fits_law place h.few (known place.setting.program h.accepted) s e k ok p
    law

pub updates_are_told : UpdatesAreTold
updates_are_told place h s at op target e ok p law = update_fits place h.few (known place.setting.program h.accepted) s
    at op target e ok p law

pub swaps_are_told : SwapsAreTold
swaps_are_told place h s at left right ok p law = swap_fits place h.few (known place.setting.program h.accepted) s at
    left right ok p law
