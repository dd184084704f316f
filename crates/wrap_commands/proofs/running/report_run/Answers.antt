use Rattle.std.proofs.Common.{sym, subst}
use Rattle.command_plan.specs.rpp_tree.Views.{source_of}
use Rattle.store_report.specs.pisa_isa.declared.machine.Stop.{Stop}
use Rattle.command_plan.specs.Plans.{planned}
use Rattle.wrap_commands.specs.WrapPlans.{TellsStop}
use Rattle.wrap_commands.specs.WrapRun.{HasWrapped}
use Rattle.wrap_commands.proofs.Wrapping.{no_return, no_bad_address, no_off_code, gives_fault, too_early}
use Rattle.wrap_commands.proofs.running.report_run.Goals as goal

pub returns-in_ok-report_fault-in-Trap : goal.returns-in_ok-report_fault-in-Trap
returns-in_ok-report_fault-in-Trap c =
    let program = source_of c.args._checked.now in
    let s = c.args.setting.now in
    let is = c.in-Trap.is in
    let has = subst (λ (why : Stop). HasWrapped program s.results.items s.limits s.input.words.items s.bound
    c.args._image.now c.args.machine.now why c.args.end.spent) is c.requires in
    subst (λ (why : Stop). TellsStop why program c.args._image.now s.results.items s.limits s.input.words.items
    c.args.machine.now.state c.args.end.spent s.bound (planned c.in_ok-report_fault-in-Trap.field-0)) (sym is)
    (record {
      gives = gives_fault program s.results.items s.limits s.input.words.items s.bound c.args._image.now
          c.args.machine.now c.args.end.spent c.in-Trap.code has;
      reported = c.in_ok-report_fault-in-Trap.ensures;
    })

pub returns-in_ok-report_bound-in-Bound : goal.returns-in_ok-report_bound-in-Bound
returns-in_ok-report_bound-in-Bound c =
    let program = source_of c.args._checked.now in
    let s = c.args.setting.now in
    let is = c.in-Bound.is in
    let has = subst (λ (why : Stop). HasWrapped program s.results.items s.limits s.input.words.items s.bound
    c.args._image.now c.args.machine.now why c.args.end.spent) is c.requires in
    subst (λ (why : Stop). TellsStop why program c.args._image.now s.results.items s.limits s.input.words.items
    c.args.machine.now.state c.args.end.spent s.bound (planned c.in_ok-report_bound-in-Bound.field-0)) (sym is)
    (record {
      early = too_early program s.results.items s.limits s.input.words.items s.bound c.args._image.now
          c.args.machine.now c.args.end.spent has;
      told = c.in_ok-report_bound-in-Bound.ensures;
    })

pub unreachable-requires : goal.unreachable-requires
unreachable-requires c =
    let program = source_of c.args._checked.now in
    let s = c.args.setting.now in
    no_return program s.results.items s.limits s.input.words.items s.bound c.args._image.now c.args.machine.now
    c.args.end.spent
    (subst (λ (why : Stop). HasWrapped program s.results.items s.limits s.input.words.items s.bound c.args._image.now
    c.args.machine.now why c.args.end.spent) c.in-Returned.is c.requires)

pub unreachable-requires-in-BadAddress : goal.unreachable-requires-in-BadAddress
unreachable-requires-in-BadAddress c =
    let program = source_of c.args._checked.now in
    let s = c.args.setting.now in
    no_bad_address program s.results.items s.limits s.input.words.items s.bound c.args._image.now c.args.machine.now
    c.args.end.spent c.in-BadAddress.field-0
    (subst (λ (why : Stop). HasWrapped program s.results.items s.limits s.input.words.items s.bound c.args._image.now
    c.args.machine.now why c.args.end.spent) c.in-BadAddress.is c.requires)

pub unreachable-requires-in-OffCode : goal.unreachable-requires-in-OffCode
unreachable-requires-in-OffCode c =
    let program = source_of c.args._checked.now in
    let s = c.args.setting.now in
    no_off_code program s.results.items s.limits s.input.words.items s.bound c.args._image.now c.args.machine.now
    c.args.end.spent c.in-OffCode.field-0
    (subst (λ (why : Stop). HasWrapped program s.results.items s.limits s.input.words.items s.bound c.args._image.now
    c.args.machine.now why c.args.end.spent) c.in-OffCode.is c.requires)
