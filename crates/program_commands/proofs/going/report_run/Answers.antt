use Rattle.std.proofs.Common.{sym, subst}
use Rattle.command_plan.specs.rpp_tree.Views.{source_of}
use Rattle.image_inverter.specs.pisa_isa.declared.machine.Stop.{Stop}
use Rattle.program_commands.specs.GoRun.{HasRun}
use Rattle.command_plan.specs.Plans.{planned}
use Rattle.program_commands.specs.ProgramPlans.{ReportsStop}
use Rattle.program_commands.proofs.Reported.{no_return, no_bad_address, no_off_code, gives_fault, too_early}
use Rattle.program_commands.proofs.going.report_run.Goals as goal

pub returns-in_ok-report_fault-in-Trap : goal.returns-in_ok-report_fault-in-Trap
returns-in_ok-report_fault-in-Trap c =
    let program = source_of c.args.setting.now.checked in
    let is = c.in-Trap.is in
    let has = subst (λ (why : Stop). HasRun program c.args.setting.now.limits c.args.setting.now.input.words.items
    c.args.setting.now.bound c.args.machine.now why c.args.end.spent) is c.requires in
    subst (λ (why : Stop). ReportsStop why program c.args.setting.now.limits c.args.setting.now.input.words.items
    c.args.end.spent c.args.setting.now.bound
    (planned c.in_ok-report_fault-in-Trap.field-0)) (sym is)
    (record {
      gives = gives_fault program c.args.setting.now.limits c.args.setting.now.input.words.items
          c.args.setting.now.bound c.args.machine.now c.args.end.spent c.in-Trap.code has;
      reported = c.in_ok-report_fault-in-Trap.ensures;
    })

pub returns-in_ok-report_bound-in-Bound : goal.returns-in_ok-report_bound-in-Bound
returns-in_ok-report_bound-in-Bound c =
    let program = source_of c.args.setting.now.checked in
    let words = c.args.setting.now.input.words.items in
    let is = c.in-Bound.is in
    let has = subst (λ (why : Stop). HasRun program c.args.setting.now.limits words c.args.setting.now.bound
    c.args.machine.now why c.args.end.spent) is c.requires in
    subst (λ (why : Stop). ReportsStop why program c.args.setting.now.limits words c.args.end.spent
    c.args.setting.now.bound (planned c.in_ok-report_bound-in-Bound.field-0)) (sym is)
    (record {
      early = too_early program c.args.setting.now.limits words c.args.setting.now.bound c.args.machine.now
          c.args.end.spent has;
      reported = c.in_ok-report_bound-in-Bound.ensures;
    })

pub unreachable-requires : goal.unreachable-requires
unreachable-requires c =
    let program = source_of c.args.setting.now.checked in
    let words = c.args.setting.now.input.words.items in
    no_return program c.args.setting.now.limits words c.args.setting.now.bound c.args.machine.now c.args.end.spent
    (subst (λ (why : Stop). HasRun program c.args.setting.now.limits words c.args.setting.now.bound c.args.machine.now
    why c.args.end.spent) c.in-Returned.is c.requires)

pub unreachable-requires-in-BadAddress : goal.unreachable-requires-in-BadAddress
unreachable-requires-in-BadAddress c =
    let program = source_of c.args.setting.now.checked in
    let words = c.args.setting.now.input.words.items in
    no_bad_address program c.args.setting.now.limits words c.args.setting.now.bound c.args.machine.now c.args.end.spent
    c.in-BadAddress.field-0
    (subst (λ (why : Stop). HasRun program c.args.setting.now.limits words c.args.setting.now.bound c.args.machine.now
    why c.args.end.spent) c.in-BadAddress.is c.requires)

pub unreachable-requires-in-OffCode : goal.unreachable-requires-in-OffCode
unreachable-requires-in-OffCode c =
    let program = source_of c.args.setting.now.checked in
    let words = c.args.setting.now.input.words.items in
    no_off_code program c.args.setting.now.limits words c.args.setting.now.bound c.args.machine.now c.args.end.spent
    c.in-OffCode.field-0
    (subst (λ (why : Stop). HasRun program c.args.setting.now.limits words c.args.setting.now.bound c.args.machine.now
    why c.args.end.spent) c.in-OffCode.is c.requires)
