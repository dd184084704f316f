-- The laws in the form of their statements.
use Rattle.refine_expressions.proofs.refine_calls_laws.FactsFit.{known}
use Rattle.refine_objects.specs.CopyLaws.{CopiesAreTold, UncopiesAreTold}
use Rattle.refine_objects.proofs.CopiesFit.{copy_fits, uncopy_fits}

pub copies_are_told : CopiesAreTold
copies_are_told place h s at kind source target ok p law =
    copy_fits place h.few (known place.setting.program h.accepted) s at kind source target ok p law

pub uncopies_are_told : UncopiesAreTold
uncopies_are_told place h s at kind source target ok p law =
    uncopy_fits place h.few (known place.setting.program h.accepted) s at kind source target ok p law
