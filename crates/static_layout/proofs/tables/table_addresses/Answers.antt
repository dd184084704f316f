use Rattle.std.proofs.Common.{◌≡◌, ◌∙◌, ap, length, arith}
use Rattle.roopl_semantics.specs.rpp_tree.Views.{source_of}
use Rattle.roopl_semantics.specs.class_rules.First.{each_below}
use Rattle.roopl_semantics.specs.class_rules.Table.{Table}
use Rattle.roopl_semantics.specs.Layout.{table_at}
use Rattle.static_layout.proofs.Counted.{many_classes}
use Rattle.static_layout.proofs.tables.table_addresses.Goals as goal

pub next_table-at-requires-clause-inside : goal.next_table-at-requires-clause-inside
next_table-at-requires-clause-inside c =
    let below = c.loop-class-test.true in
    omega (
      arith,
      below,
      c.class_count-class-end.ensures.count,
      ap (λ (t : Table). length t.names) c.table.ensures.table,
      many_classes (source_of c.args.checked.now),
    )

pub returns : goal.returns
returns c =
    let program = source_of c.args.checked.now in
    let all : c.loop-class.class ≡ length program.classes =
    (let a = c.loop-class-test.false in let b = c.loop-class.auto.class-end in
    omega (
      arith,
      a,
      b,
      c.class_count-class-end.ensures.count,
      ap (λ (t : Table). length t.names) c.table.ensures.table,
      many_classes program,
    ))
    in
    c.loop-class.invariant.places ∙ ap (each_below (table_at program)) all
