use Rattle.std.proofs.Common.{◌≡◌, ◌∙◌, sym, ap, ◌+◌, [], ◌∷◌, ◌++◌, map, arith}
use Rattle.refine_program.specs.rpp_tree.Views.{class_text_of, source_of}
use Rattle.refine_program.specs.class_rules.First.{each_below}
use Rattle.refine_program.proofs.class_rules_laws.Numbers.{each_below-next}
use Rattle.refine_program.specs.Methods.{methods_before}
use Rattle.program_codegen.proofs.Tables.{none_before, first_counted}
use Rattle.program_codegen.proofs.Counts.{methods_few}
use Rattle.program_codegen.proofs.numbers.first_routines.Goals as goal

pub loop-class-init : goal.loop-class-init
loop-class-init c = record {
  firsts = c.new-firsts.ensures.items;
  next = none_before (map class_text_of c.args.program.now.classes.items);
}

-- the number of the next class's first routine
next_is : (c : goal.After-len) → c.loop-class.next + c.len.result
    ≡ methods_before (source_of c.args.program.now).classes (c.loop-class.class-index + 1)
next_is c =
    let counted = first_counted c.args.program.now c.loop-class.class-index c.deref-class-items.result.now
    c.class-item.result c.deref-class-items.ensures.value c.loop-class-test.true c.class-item.is in
    omega (arith, counted, c.loop-class.invariant.next, c.len.ensures, c.class-item.result.methods.ok.0)

pub overflow_cast-next : goal.overflow_cast-next
overflow_cast-next c =
    let few = methods_few (source_of c.args.program.now) (c.loop-class.class-index + 1) in
    let all = c.requires in
    record { fits = omega (arith, next_is c, few, all) }

pub overflow_add-next : goal.overflow_add-next
overflow_add-next c =
    let few = methods_few (source_of c.args.program.now) (c.loop-class.class-index + 1) in
    let all = c.requires in
    record { fits = omega (arith, next_is c, few, all) }

pub loop-class-preserved : goal.loop-class-preserved
loop-class-preserved c =
    let f = methods_before (source_of c.args.program.now).classes in
    record {
      firsts =
          c.in_ok-push.ensures.items
          ∙ ap (λ xs. xs ++ c.loop-class.next ∷ []) c.loop-class.invariant.firsts
          ∙ ap (λ n. each_below f c.loop-class.class-index ++ n ∷ []) c.loop-class.invariant.next
          ∙ sym (each_below-next f c.loop-class.class-index);
      next = next_is c;
    }
