use Rattle.std.proofs.Common.{◌∙◌, ap, ◌<◌, length, map, arith}
use Rattle.std.proofs.lemmas.List.{length-map}
use Rattle.refine_program.specs.rpp_tree.Views.{procedure_of, source_of}
use Rattle.refine_program.specs.class_rules.Members.{class_at}
use Rattle.refine_program.specs.class_rules.Table.{Table}
use Rattle.refine_program.proofs.class_rules_laws.InheritedSlots.{class_there}
use Rattle.program_codegen.proofs.Counts.{class_few}
use Rattle.program_codegen.proofs.Entries.{class_pushed}
use Rattle.refine_program.proofs.static_layout_laws.Counted.{many_classes}
use Rattle.program_codegen.proofs.routines.method_routines.Goals as goal

pub class_routines-requires-clause-few : goal.class_routines-requires-clause-few
class_routines-requires-clause-few c =
    let program = source_of c.args.checked.now in
    let inside : c.loop-class.class < length program.classes =
    (let a = c.loop-class-test.true in omega (
      arith,
      a,
      c.class_count-class-end.ensures.count,
      ap (λ (t : Table). length t.names) c.table.ensures.table,
      many_classes program,
    )) in
    let methods = c.methods_at-methods.ensures ∙ ap (λ p. (class_at (source_of p) c.loop-class.class).methods)
    c.program.ensures.program in
    let few = class_few program c.loop-class.class inside in
    let all = c.program.ensures.accepted.limits.tokens_few in
    omega (arith, few, all, length-map c.methods_at-methods.result.now procedure_of, ap (λ ms. length ms) methods)

pub loop-class-preserved : goal.loop-class-preserved
loop-class-preserved c =
    let program = source_of c.args.checked.now in
    let inside : c.loop-class.class < length program.classes =
    (let a = c.loop-class-test.true in omega (
      arith,
      a,
      c.class_count-class-end.ensures.count,
      ap (λ (t : Table). length t.names) c.table.ensures.table,
      many_classes program,
    )) in
    let methods = c.methods_at-methods.ensures ∙ ap (λ p. (class_at (source_of p) c.loop-class.class).methods)
    c.program.ensures.program in
    class_pushed program program.classes c.loop-class.class (class_at program c.loop-class.class)
    (map procedure_of c.methods_at-methods.result.now) c.loop-class.pieces.items c.in_ok-more.more.items
    c.append.new.self.items
    (class_there program.classes c.loop-class.class inside) methods c.in_ok-append.ensures.items c.in_ok-more.ensures
    c.loop-class.invariant
