use Rattle.std.proofs.Common.{◌≡◌, ◌∙◌, sym, true}
use Rattle.std.specs.Result.{is_ok}
use Rattle.class_rules.specs.rpp_tree.Views.{source_of, class_text_of}
use Rattle.class_rules.specs.Members.{class_fields, too_many_fields_at}
use Rattle.class_rules.proofs.Numbers.{each_below-next, first_at-next}
use Rattle.class_table.proofs.fields.fields.Goals as goal

pub loop-number-preserved : goal.loop-number-preserved
loop-number-preserved c =
    let program = source_of c.args.program.now in
    let ok : is_ok c.push.result ≡ true = cc c.is_err.ensures.negation in
    let same = c.deref-class-items.ensures.value in
    let own = c.in_ok-vars.ensures in
    let pushed = rw (ok, own.0, c.loop-number.invariant.fields) at c.push.ensures.items in
    record {
      fields = pushed ∙ sym (each_below-next (class_fields program) c.loop-number.number);
      first = c.loop-number.invariant.first ∙ first_at-next (too_many_fields_at program) class_text_of
          c.args.program.now.classes.items c.loop-number.number c.class-item.result (rw same at c.loop-number-test.true)
          (rw same at c.class-item.is) own.1;
    }
