use Rattle.std.proofs.Common.{◌≡◌, ◌∙◌, ap, ◌++◌, length, map, arith}
use Rattle.refine_program.specs.rpp_tree.Views.{source_of}
use Rattle.refine_program.specs.class_rules.First.{each_below}
use Rattle.refine_program.specs.class_rules.Table.{Table}
use Rattle.refine_program.specs.roopl_semantics.Layout.{tables}
use Rattle.refine_program.specs.paired_code.Link.{static_word}
use Rattle.refine_program.specs.Methods.{slot_places}
use Rattle.refine_program.proofs.static_layout_laws.Counted.{many_classes}
use Rattle.program_codegen.proofs.Tables.{table_pushed}
use Rattle.program_codegen.proofs.statics.add_tables.Goals as goal

pub loop-class-preserved : goal.loop-class-preserved
loop-class-preserved c =
    let program = source_of c.args.checked.now in
    λ places. table_pushed places program (slot_places program 1 places) c.loop-class.class c.args.words.now.items
    c.loop-class.words.items c.push.new.self.items c.add_slots.new.words.items
    c.in_ok-push.ensures.items (c.loop-class.invariant places) (c.in_ok-add_slots.ensures places)

pub returns : goal.returns
returns c =
    let program = source_of c.args.checked.now in
    let all : c.loop-class.class ≡ length program.classes =
    (let a = c.loop-class-test.false in let b = c.loop-class.auto.class-end in
    omega (
      arith,
      a,
      b,
      c.class_count-class-end.ensures.count,
      ap (λ (t : Table). length t.names) c.table.ensures.table,
      many_classes program,
    ))
    in
    λ places. c.loop-class.invariant places
    ∙ ap (λ n. map (static_word places) c.args.words.now.items
    ++ tables 1 (each_below (slot_places program 1 places) n)) all
