use Rattle.std.proofs.Common.{◌≤◌, length, rules}
use Rattle.pisa_isa.specs.declared.image.TheConstants.{MOST_STATICS}
use Rattle.pisa_asm.specs.Lines.{lines_of}
use Rattle.pisa_asm.proofs.Gathering.{gathered}
use Rattle.pisa_asm.proofs.Written.{read_is_written}
use Rattle.pisa_asm.proofs.assembler.assemble.Goals as goal

pub seal-requires-clause-code_in_limit : goal.seal-requires-clause-code_in_limit
seal-requires-clause-code_in_limit c =
    let fit = gathered (lines_of c.args.text.now) c.in_ok-survey.survey c.in_ok-code.code.items c.in_ok-survey.ensures
    c.in_ok-code.ensures in
    let few = fit.few_cells in
    search rules

pub seal-requires-clause-statics_in_limit : goal.seal-requires-clause-statics_in_limit
seal-requires-clause-statics_in_limit c =
    let fit = gathered (lines_of c.args.text.now) c.in_ok-survey.survey c.in_ok-code.code.items c.in_ok-survey.ensures
    c.in_ok-code.ensures in
    let few : length c.into_statics.result.items ≤ MOST_STATICS = rw c.into_statics.ensures fit.few_statics in
    search rules

pub seal-requires-clause-cells : goal.seal-requires-clause-cells
seal-requires-clause-cells c =
    let fit = gathered (lines_of c.args.text.now) c.in_ok-survey.survey c.in_ok-code.code.items c.in_ok-survey.ensures
    c.in_ok-code.ensures in
    fit.cells

pub returns-clause-written : goal.returns-clause-written
returns-clause-written c = read_is_written (lines_of c.args.text.now) _ (search rules)
