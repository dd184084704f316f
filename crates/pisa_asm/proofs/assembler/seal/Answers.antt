use Rattle.std.proofs.Common.{◌∙◌, ap, sym, Some}
use Rattle.std.specs.Prelude.{count_by, nat_eq}
use Rattle.pisa_isa.specs.Image.{is_start, is_finish}
use Rattle.pisa_asm.proofs.Sealing.{in_range, tests_of, no_other, never_memory}
use Rattle.pisa_asm.proofs.assembler.seal.Goals as goal

pub seal-requires-clause-in_range : goal.seal-requires-clause-in_range
seal-requires-clause-in_range c = in_range c.args.code.items c.requires.cells

pub unreachable-requires : goal.unreachable-requires
unreachable-requires c =
    let code = c.args.code.items in
    no_other (nat_eq (count_by is_start code) 1) (nat_eq (count_by is_finish code) 1) c.in-Err-NotOneToOne.field-0-0
    (sym (tests_of code c.requires.cells) ∙ c.in-Err-NotOneToOne.ensures.sealed
    ∙ ap Some c.in-Err-NotOneToOne.field-0-is)

pub unreachable-requires-in-Err-NoMemory : goal.unreachable-requires-in-Err-NoMemory
unreachable-requires-in-Err-NoMemory c =
    let code = c.args.code.items in
    never_memory (nat_eq (count_by is_start code) 1) (nat_eq (count_by is_finish code) 1)
    (sym (tests_of code c.requires.cells) ∙ c.in-Err-NoMemory.ensures.sealed ∙ ap Some c.in-Err-NoMemory.field-0-is)
