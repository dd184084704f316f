use Rattle.std.proofs.Common.{◌≡◌, ◌∙◌, sym, ap, subst, ◌+◌, length, arith}
use Rattle.refine_program.specs.rpp_tree.Views.{source_of}
use Rattle.refine_program.specs.class_rules.Classes.{main_of}
use Rattle.refine_program.specs.class_rules.First.{each_below}
use Rattle.refine_program.specs.class_rules.Table.{Table}
use Rattle.refine_program.specs.paired_code.Code.{bodies}
use Rattle.refine_program.specs.paired_code.Link.{link_positions, first_top}
use Rattle.refine_program.specs.Methods.{methods_before, routine_of}
use Rattle.refine_program.specs.Laws.{IsProgramImage}
use Rattle.program_codegen.proofs.ImageMade.{few_cells, few_marks, code_size, is_program_image, stands, has_marks}
use Rattle.program_codegen.proofs.ImageMade.{few_statics}
use Rattle.program_codegen.proofs.SlotMethods.{IsMethod, NumberRead, number_read, main_method}
use Rattle.program_codegen.proofs.images.linked.Goals as goal

number_is : (c : goal.After-main) → NumberRead (source_of c.args.checked.now) c.deref.result.now c.main.result
number_is c =
    let program = source_of c.args.checked.now in
    let main : c.main.result ≡ main_of program = c.main.ensures ∙ ap (λ (t : Table). t.main) c.table.ensures.table in
    let firsts = c.deref.ensures.value ∙ c.in_ok-firsts.ensures
    ∙ ap (λ p. each_below (methods_before (source_of p).classes) (length (source_of p).classes))
    c.program.ensures.program in
    number_read program c.deref.result.now c.main.result firsts c.table.ensures.accepted.limits.tokens_few
    (subst (IsMethod program) (sym main) (main_method program c.table.ensures.accepted))

pub routine_number-requires-clause-inside : goal.routine_number-requires-clause-inside
routine_number-requires-clause-inside c = (number_is c).inside

pub routine_number-requires-clause-small : goal.routine_number-requires-clause-small
routine_number-requires-clause-small c = (number_is c).small

pub link-requires-clause-code_in_limit : goal.link-requires-clause-code_in_limit
link-requires-clause-code_in_limit c =
    let program = source_of c.args.checked.now in
    let few = few_cells program c.in_ok-routines.routines.items c.in_ok-routines.ensures c.in_ok-main.main.cells
    c.in_ok-main.ensures.size in
    omega (arith, few, c.table.ensures.accepted.limits.tokens_few)

pub link-requires-clause-statics_in_limit : goal.link-requires-clause-statics_in_limit
link-requires-clause-statics_in_limit c =
    let few = few_statics (source_of c.args.checked.now) c.in_ok-statics.statics.items c.table.ensures.accepted
    c.in_ok-statics.ensures in
    omega (arith, few)

pub link-requires-clause-few_marks : goal.link-requires-clause-few_marks
link-requires-clause-few_marks c =
    let program = source_of c.args.checked.now in
    let few = few_marks program c.in_ok-routines.routines.items c.in_ok-routines.ensures c.in_ok-main.main.marks
    c.in_ok-main.ensures.none in
    omega (arith, few, c.table.ensures.accepted.limits.tokens_few)

made : (c : goal.After-drop-firsts-2) → IsProgramImage (source_of c.args.checked.now) c.in_ok-main.main.cells
    c.in_ok-routines.ensures.allocator.cells (bodies c.in_ok-routines.ensures.methods) c.in_ok-link.field-0.image
made c =
    let program = source_of c.args.checked.now in
    let main : c.main.result ≡ main_of program = c.main.ensures ∙ ap (λ (t : Table). t.main) c.table.ensures.table in
    let firsts = c.deref.ensures.value ∙ c.in_ok-firsts.ensures
    ∙ ap (λ p. each_below (methods_before (source_of p).classes) (length (source_of p).classes))
    c.program.ensures.program in
    let number = number_read program c.deref.result.now c.main.result firsts c.table.ensures.accepted.limits.tokens_few
    (subst (IsMethod program) (sym main) (main_method program c.table.ensures.accepted)) in
    is_program_image program c.in_ok-routines.routines.items c.in_ok-routines.ensures c.in_ok-main.main
    c.in_ok-link.field-0.image c.in_ok-link.ensures.law c.table.ensures.accepted
    c.routine_number.result c.in_ok-main.ensures.law (c.routine_number.ensures
    ∙ ap (λ n. 1 + n) (number.is ∙ ap (routine_of program) main))
    (c.in_ok-link.ensures.statics ∙ c.in_ok-statics.ensures
    (link_positions (first_top c.in_ok-main.main.cells) (bodies c.in_ok-routines.routines.items)))

pub returns-clause-stands : goal.returns-clause-stands
returns-clause-stands c =
    stands (source_of c.args.checked.now) c.in_ok-routines.routines.items c.in_ok-routines.ensures c.in_ok-main.main
    c.in_ok-link.field-0.image c.in_ok-link.ensures.law (made c)

pub returns-clause-size : goal.returns-clause-size
returns-clause-size c =
    let program = source_of c.args.checked.now in
    let size = code_size program c.in_ok-routines.routines.items c.in_ok-routines.ensures c.in_ok-main.main.cells
    c.in_ok-link.field-0.image.code c.in_ok-main.ensures.size c.in_ok-link.ensures.code in
    omega (arith, size)

pub returns-clause-marks : goal.returns-clause-marks
returns-clause-marks c =
    let program = source_of c.args.checked.now in
    has_marks program c.in_ok-routines.routines.items c.in_ok-routines.ensures c.in_ok-main.main
    c.in_ok-link.field-0.image c.in_ok-link.ensures.law (made c) c.in_ok-link.field-0.notes.marks
    c.in_ok-main.ensures.size c.in_ok-main.ensures.none c.in_ok-link.ensures.code c.in_ok-link.ensures.marks
    c.in_ok-link.ensures.ascending
