-- The laws in the form of their statements.
use Rattle.std.proofs.Common.{◌≤◌, length, subst, arith}
use Rattle.method_calls.proofs.roopl_semantics_laws.MainPlace.{class_inside}
use Rattle.refine_calls.specs.Laws.{FramesAreOpen, ReceiversAreOpen, LocalsAreOpen, MainIsOpen}
use Rattle.refine_calls.proofs.FactsFit.{frame_facts}
use Rattle.refine_calls.proofs.ReceiversFit.{receiver_facts}
use Rattle.refine_calls.proofs.LocalsFit.{local_facts}
use Rattle.refine_calls.proofs.MainFit.{main_opens}
use Rattle.refine_calls.proofs.StaticsWords.{statics_words}
use Rattle.buddy_pisa.specs.pisa_isa.declared.image.TheConstants.{MOST_STATICS}

pub frames_are_open : FramesAreOpen
frames_are_open place routine linked = frame_facts place routine linked

pub receivers_are_open : ReceiversAreOpen
receivers_are_open place routine linked = receiver_facts place routine linked

pub locals_are_open : LocalsAreOpen
locals_are_open place accepted few = local_facts place accepted few

pub main_is_open : MainIsOpen
main_is_open place image input main accepted has same few short inside valid below body_is no_vars class_is =
    let main_in = class_inside place.setting.program accepted in
    let few' : length image.statics ≤ MOST_STATICS = subst (λ z. length z ≤ MOST_STATICS) same few in
    main_opens place image input main accepted has same few inside valid
    (statics_words place.setting.program image has few' short (omega (arith, main_in)))
    below body_is no_vars class_is
