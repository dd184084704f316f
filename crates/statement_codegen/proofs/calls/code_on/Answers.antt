use Rattle.std.proofs.Common.{List, subst, sym, ap, ◌∙◌}
use Rattle.std.specs.Prelude.{IfOk}
use Rattle.refine_objects.specs.rpp_tree.Views.{source_of}
use Rattle.refine_form.specs.declared.spot.Spot.{Spot}
use Rattle.branch_codegen.specs.method_calls.Names.{method_slot_of}
use Rattle.branch_codegen.specs.method_calls.Laws.{CallOnCode}
use Rattle.statement_codegen.proofs.CallLaws.{on_returns}
use Rattle.statement_codegen.proofs.calls.code_on.Goals as goal

pub returns-clause-law : goal.returns-clause-law
returns-clause-law c =
    on_returns c.args.scope.now c.args.back c.args.receiver.now c.args.method.now c.args.args.now c.spot_at-spot.result
    c.slot_at-slot.result _ c.call_on.result
    (sym c.spot_at-spot.ensures.value) c.spot_at-spot.ensures.near
    (record {
      slot_is = sym (c.slot_at-slot.ensures.value ∙ ap (λ class. method_slot_of (source_of c.args.scope.now.program) class
          c.args.method.now) c.class_at-class.ensures);
      small = c.slot_at-slot.ensures.small;
      few = c.requires.few;
      spots_are = sym c.in_ok-spots.ensures.values;
      near = c.in_ok-spots.ensures.near;
    })
    (subst (λ (spots : List Spot). IfOk c.call_on.result (λ p. CallOnCode c.args.back c.spot_at-spot.result
    c.slot_at-slot.result spots p.cells)) c.deref.ensures.value c.call_on.ensures.law)
