use Rattle.std.proofs.Common.{◌≡◌, ◌∙◌, sym, ap, subst, length, arith}
use Rattle.std.specs.Prelude.{All, IfOk, Result, Ok, Err, string_bytes}
use Rattle.meaning_reached.specs.rpp_tree.Views.{source_of}
use Rattle.refine_frame.specs.class_rules.Table.{Table, table_of}
use Rattle.refine_frame.proofs.class_rules_laws.Numbers.{length-each_below}
use Rattle.static_layout.specs.roopl_semantics.Layout.{table_at, table_addresses}
use Rattle.static_layout.proofs.roopl_semantics_laws.MainPlace.{fields_read}
use Rattle.store_report.specs.Ascii.{HasAsciiName, AreAscii}
use Rattle.store_report.specs.Shown.{report_by}
use Rattle.store_report.specs.Told.{report_told}
use Rattle.store_report.proofs.Names.{names_ascii, ascii_main_fields}
use Rattle.store_report.proofs.Grounding.{last_told, first_told}
use Rattle.store_report.proofs.Placed.{code_tells}
use Rattle.store_report.proofs.memories.report.Goals as goal

pub compose-requires-clause-few : goal.compose-requires-clause-few
compose-requires-clause-few c =
    let program = source_of c.args.checked.now in
    let e : length c.deref.result.now ≡ length (table_addresses program) =
    ap length (c.deref.ensures.value ∙ c.in_ok-tables.ensures) in
    let few = c.table-table.ensures.accepted.limits.classes_few in
    omega (arith, length-each_below (table_at program) (length program.classes))

pub compose-requires-clause-names : goal.compose-requires-clause-names
compose-requires-clause-names c =
    let program = source_of c.args.checked.now in
    subst (λ (t : Table). AreAscii (source_of c.program-program.result.now) t) (sym c.table-table.ensures.table)
    (subst (λ p. AreAscii (source_of p) (table_of program)) (sym c.program-program.ensures.program)
    (names_ascii program c.table-table.ensures.accepted))

pub compose-requires-clause-field_names : goal.compose-requires-clause-field_names
compose-requires-clause-field_names c =
    let program = source_of c.args.checked.now in
    let are = fields_read program c.table-table.result.now c.main.result c.fields-fields.result.now
    c.table-table.ensures.accepted c.table-table.ensures.table c.main.ensures c.fields-fields.ensures.fields in
    subst (All HasAsciiName) (sym are) (ascii_main_fields program c.table-table.ensures.accepted)

map_ok : {A E : Type 0} (P Q : A → Type 0) (r : Result A E) → ((x : A) → P x → Q x) → IfOk r P → IfOk r Q
map_ok P Q (Ok x) f h = f x h
map_ok P Q (Err e) f h = tt

pub returns-clause-lines : goal.returns-clause-lines
returns-clause-lines c =
    let program = source_of c.args.checked.now in
    let cells = c.args.machine.now.state.cells in
    let accepted = c.table-table.ensures.accepted in
    let are = fields_read program c.table-table.result.now c.main.result c.fields-fields.result.now accepted
    c.table-table.ensures.table c.main.ensures c.fields-fields.ensures.fields in
    let places = c.deref.ensures.value ∙ c.in_ok-tables.ensures in
    map_ok (λ text. string_bytes text ≡ report_by (source_of c.program-program.result.now) c.table-table.result.now
    c.deref.result.now c.fields-fields.result.now cells) (λ text. string_bytes text ≡ report_told program cells)
    c.compose.result
    (λ text told.
    told
    ∙ ap (λ p. report_by (source_of p) c.table-table.result.now c.deref.result.now c.fields-fields.result.now cells)
    c.program-program.ensures.program
    ∙ ap (λ t. report_by program t c.deref.result.now c.fields-fields.result.now cells) c.table-table.ensures.table
    ∙ code_tells program accepted c.deref.result.now c.fields-fields.result.now cells places are)
    c.compose.ensures

pub returns-clause-last : goal.returns-clause-last
returns-clause-last c =
    map_ok (λ text. string_bytes text ≡ report_told (source_of c.args.checked.now) c.args.machine.now.state.cells) _
    c.compose.result
    (λ text told end memory. told ∙ last_told (source_of c.args.checked.now) c.args.machine.now.state.cells end
    c.table-table.ensures.accepted memory)
    (returns-clause-lines c)

pub returns-clause-first : goal.returns-clause-first
returns-clause-first c =
    map_ok (λ text. string_bytes text ≡ report_told (source_of c.args.checked.now) c.args.machine.now.state.cells) _
    c.compose.result
    (λ text told input memory. told ∙ first_told (source_of c.args.checked.now) c.args.machine.now.state.cells input
    memory)
    (returns-clause-lines c)
