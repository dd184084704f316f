use Rattle.std.proofs.Common.{◌∙◌, ap, ◌≤◌, ◌+◌, ◌++◌, length, map, take_all, arith}
use Rattle.std.specs.Prelude.{slice_index}
use Rattle.refine_program.specs.rpp_tree.Views.{source_of}
use Rattle.refine_program.specs.class_rules.Classes.{class_slots}
use Rattle.refine_program.specs.class_rules.Members.{Slots}
use Rattle.refine_program.specs.class_rules.Table.{Table, slots_in}
use Rattle.refine_program.specs.paired_code.Link.{static_word}
use Rattle.refine_program.specs.Methods.{routine_of}
use Rattle.program_codegen.proofs.SlotMethods.{SlotRead, slot_read, NumberRead, number_read}
use Rattle.program_codegen.proofs.Tables.{slots_read, slot_pushed}
use Rattle.program_codegen.proofs.statics.add_slots.Goals as goal

slot_is : (c : goal.After-dispatch) → SlotRead (source_of c.args.checked.now) c.args.class c.loop-slot.slot
    c.dispatch.result
slot_is c =
    slot_read (source_of c.args.checked.now) c.table-table.result.now c.args.class c.loop-slot.slot
    c.slot_count-slot-end.result c.dispatch.result
    c.table-table.ensures.table c.requires.inside c.slot_count-slot-end.ensures.count c.loop-slot-test.true
    c.dispatch.ensures

number_is : (c : goal.After-dispatch) → NumberRead (source_of c.args.checked.now) c.args.firsts.now c.dispatch.result
number_is c = number_read (source_of c.args.checked.now) c.args.firsts.now c.dispatch.result c.requires.firsts
    c.table-table.ensures.accepted.limits.tokens_few (slot_is c).method

pub routine_number-number-requires-clause-inside : goal.routine_number-number-requires-clause-inside
routine_number-number-requires-clause-inside c = (number_is c).inside

pub routine_number-number-requires-clause-small : goal.routine_number-number-requires-clause-small
routine_number-number-requires-clause-small c = (number_is c).small

pub loop-slot-preserved : goal.loop-slot-preserved
loop-slot-preserved c =
    let program = source_of c.args.checked.now in
    let slot = slot_read program c.table-table.result.now c.args.class c.loop-slot.slot c.slot_count-slot-end.result
    c.dispatch.result
    c.table-table.ensures.table c.requires.inside c.slot_count-slot-end.ensures.count c.loop-slot-test.true
    c.dispatch.ensures in
    let number = number_read program c.args.firsts.now c.dispatch.result c.requires.firsts
    c.table-table.ensures.accepted.limits.tokens_few slot.method in
    λ places. slot_pushed places program c.args.class c.loop-slot.slot c.args.words.now.items c.loop-slot.words.items
    c.push.new.self.items c.routine_number-number.result
    slot.low (c.routine_number-number.ensures ∙ ap (λ n. 1 + n) (number.is ∙ ap (routine_of program) slot.runs))
    c.in_ok-push.ensures.items (c.loop-slot.invariant places)

pub returns : goal.returns
returns c =
    let program = source_of c.args.checked.now in
    let slots = class_slots program c.args.class in
    let many : length slots ≤ c.loop-slot.slot =
    (let a = c.loop-slot-test.false in omega (
      arith,
      a,
      c.slot_count-slot-end.ensures.count,
      ap (λ (t : Table). length (slots_in t c.args.class)) c.table-table.ensures.table,
      ap (λ (s : Slots). length s) (slots_read program c.args.class c.requires.inside),
    ))
    in
    λ places. c.loop-slot.invariant places
    ∙ ap (λ (s : Slots). map (static_word places) c.args.words.now.items
    ++ map (λ x. slice_index places (1 + routine_of program x.1)) s) (take_all c.loop-slot.slot slots many)
