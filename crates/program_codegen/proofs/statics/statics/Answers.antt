use Rattle.std.proofs.Common.{◌≡◌, ◌∙◌, sym, ap, ◌++◌, ℕ, List, length, replicate, arith}
use Rattle.refine_program.specs.rpp_tree.declared.tree.Var.{Var}
use Rattle.refine_program.specs.rpp_tree.Views.{source_of}
use Rattle.refine_program.specs.class_rules.declared.method.MethodId.{MethodId}
use Rattle.refine_program.specs.class_rules.Classes.{main_of}
use Rattle.refine_program.specs.class_rules.Table.{Table}
use Rattle.refine_program.specs.code_conventions.Header.{header}
use Rattle.refine_program.specs.roopl_semantics.Layout.{table_at, tables}
use Rattle.refine_program.specs.roopl_semantics.Source.{main_fields}
use Rattle.refine_program.proofs.roopl_semantics_laws.MainPlace.{class_inside, fields_read}
use Rattle.refine_program.specs.Methods.{table_places}
use Rattle.program_codegen.proofs.Tables.{statics_read}
use Rattle.program_codegen.proofs.statics.statics.Goals as goal

pub table_at-requires : goal.table_at-requires
table_at-requires c =
    let program = source_of c.args.checked.now in
    let main = ap (λ (id : MethodId). id.class) (c.main-class.ensures
    ∙ ap (λ (t : Table). t.main) c.table.ensures.table) in
    omega (arith, main, class_inside program c.table.ensures.accepted)

pub returns : goal.returns
returns c =
    let program = source_of c.args.checked.now in
    let main = c.main-class.ensures ∙ ap (λ (t : Table). t.main) c.table.ensures.table in
    let again = c.main-class.ensures ∙ ap (λ (t : Table). t.main) (c.table.ensures.table ∙ sym c.table-2.ensures.table)
    in
    let fields : c.fields.result.now ≡ main_fields program =
    fields_read program c.table-2.result.now c.main-class.result c.fields.result.now c.table.ensures.accepted
    c.table-2.ensures.table again c.fields.ensures.fields in
    let at : c.table_at.result ≡ table_at program (main_of program).class = c.table_at.ensures
    ∙ ap (λ (id : MethodId). table_at program id.class) main in
    λ places.
    let ts = tables 1 (table_places program 1 places) in
    statics_read places program c.header.result (length c.fields.result.now) c.new-words.result.items
    c.add_words.new.words.items c.add_zeros.new.words.items c.add_tables.new.words.items ts
    c.new-words.ensures.items c.in_ok-add_words.ensures c.in_ok-add_zeros.ensures (c.in_ok-add_tables.ensures places)
    ∙ ap (λ (words : List ℕ). words ++ replicate (length c.fields.result.now) 0 ++ ts) c.header.ensures
    ∙ ap (λ a. header a 1 ++ replicate (length c.fields.result.now) 0 ++ ts) at
    ∙ ap (λ (vars : List Var). header (table_at program (main_of program).class) 1 ++ replicate (length vars) 0 ++ ts)
    fields
