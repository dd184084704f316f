use Rattle.std.proofs.Common.{◌≡◌, ◌∙◌, ap, subst, ◌≤◌, List, length}
use Rattle.refine_program.specs.rpp_tree.declared.tree.Var.{Var}
use Rattle.refine_program.specs.rpp_tree.Views.{source_of}
use Rattle.refine_program.specs.pisa_isa.Notes.{NoteLists}
use Rattle.refine_program.specs.code_conventions.declared.memory.TheConstants.{FIRST_FIELD}
use Rattle.refine_program.specs.roopl_semantics.Source.{main_fields}
use Rattle.refine_program.proofs.roopl_semantics_laws.MainPlace.{fields_read}
use Rattle.program_codegen.specs.Notes.{field_names}
use Rattle.program_codegen.proofs.NotesFit.{sealed_fit, sealed_notes}
use Rattle.program_codegen.proofs.images.compile.Goals as goal

pub seal-requires : goal.seal-requires
seal-requires c =
    let program = source_of c.args.checked.now in
    let fields : c.fields.result.now ≡ main_fields program =
    fields_read program c.table-table.result.now c.main.result c.fields.result.now c.table-table.ensures.accepted
    c.table-table.ensures.table c.main.ensures c.fields.ensures.fields in
    let few : length (main_fields program) ≤ 64 = subst (λ (vars : List Var). length vars ≤ 64) fields
    c.fields.ensures.few in
    sealed_fit program c.into_parts-image.result.0 c.in_ok-linked.field-0.image c.in_ok-linked.field-0.notes
    c.notes.inside.marks.items c.in_ok-names.names.items
    c.table-table.ensures.accepted c.into_parts-image.ensures.fits c.in_ok-linked.ensures.stands few
    c.into_parts-image.ensures.image
    (ap (λ (n : NoteLists). n.marks) (c.notes.view_is ∙ c.into_parts-image.ensures.notes))
    (c.in_ok-names.ensures ∙ ap (field_names FIRST_FIELD) fields)

pub returns-clause-notes : goal.returns-clause-notes
returns-clause-notes c =
    let program = source_of c.args.checked.now in
    let fields : c.fields.result.now ≡ main_fields program =
    fields_read program c.table-table.result.now c.main.result c.fields.result.now c.table-table.ensures.accepted
    c.table-table.ensures.table c.main.ensures c.fields.ensures.fields in
    sealed_notes program c.seal.result c.into_parts-image.result.0 c.in_ok-linked.field-0.image
    c.in_ok-linked.field-0.notes c.notes.inside.marks.items c.in_ok-names.names.items
    c.seal.ensures c.into_parts-image.ensures.image (ap (λ (n : NoteLists). n.marks)
    (c.notes.view_is ∙ c.into_parts-image.ensures.notes)) (c.in_ok-names.ensures ∙ ap (field_names FIRST_FIELD) fields)
    c.in_ok-linked.ensures.marks
