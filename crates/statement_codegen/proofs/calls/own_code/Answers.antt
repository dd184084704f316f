use Rattle.std.proofs.Common.{List, subst, sym, ap, ◌∙◌}
use Rattle.std.specs.Prelude.{IfOk}
use Rattle.refine_objects.specs.rpp_tree.Views.{source_of}
use Rattle.branch_codegen.specs.class_rules.declared.method.MethodId.{MethodId}
use Rattle.refine_form.specs.declared.spot.Spot.{Spot}
use Rattle.branch_codegen.specs.method_calls.Names.{method_slot_of}
use Rattle.branch_codegen.specs.method_calls.Laws.{OwnCallCode}
use Rattle.statement_codegen.proofs.CallLaws.{own_returns}
use Rattle.statement_codegen.proofs.calls.own_code.Goals as goal

pub returns-clause-law : goal.returns-clause-law
returns-clause-law c =
    own_returns c.args.scope.now c.args.back c.args.method.now c.args.args.now c.slot_at-slot.result _ c.own_call.result
    (record {
      slot_is = sym (c.slot_at-slot.ensures.value ∙ ap (λ (id : MethodId). method_slot_of
          (source_of c.args.scope.now.program)
          id.class c.args.method.now) c.method-id.ensures);
      small = c.slot_at-slot.ensures.small;
      few = c.requires.few;
      spots_are = sym c.in_ok-spots.ensures.values;
      near = c.in_ok-spots.ensures.near;
    })
    (subst (λ (spots : List Spot). IfOk c.own_call.result
    (λ p. OwnCallCode c.args.back c.slot_at-slot.result spots p.cells)) c.deref.ensures.value
    c.own_call.ensures.law)
