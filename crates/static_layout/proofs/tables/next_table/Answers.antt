use Rattle.std.proofs.Common.{◌≡◌, ◌∙◌, sym, ap, ◌+◌, length}
use Rattle.roopl_semantics.specs.rpp_tree.Views.{source_of}
use Rattle.roopl_semantics.specs.class_rules.Table.{Table, table_of, slots_in}
use Rattle.roopl_semantics.specs.code_conventions.declared.memory.TheConstants.{TABLE_HEADER}
use Rattle.static_layout.proofs.Counted.{table_next}
use Rattle.static_layout.proofs.tables.next_table.Goals as goal

pub returns-clause-next : goal.returns-clause-next
returns-clause-next c =
    let program = source_of c.args.checked.now in
    let count : c.slot_count.result ≡ length (slots_in (table_of program) c.args.class) = c.slot_count.ensures.count
    ∙ ap (λ (t : Table). length (slots_in t c.args.class)) c.table.ensures.table in
    ap (λ n. c.args.at + TABLE_HEADER + n) count
    ∙ ap (λ a. a + TABLE_HEADER + length (slots_in (table_of program) c.args.class)) c.requires.here
    ∙ sym (table_next program c.args.class c.requires.inside)
