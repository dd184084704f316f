use Rattle.command_plan.specs.Plans.{planned}
use Rattle.command_plan.specs.rpp_tree.declared.limits.TheConstants.{MOST_BYTES}
use Rattle.command_plan.proofs.GivenTexts.{with_text}
use Rattle.program_commands.specs.RunPlans.{IsProfilePlan}
use Rattle.std.proofs.Common.{[], inr}
use Rattle.program_commands.specs.ToldShort.{IsProfileShort, ProfilesFileShort}
use Rattle.program_commands.proofs.profiling.profile.Goals as goal
use Rattle.command_plan.proofs.pisa_scripts_laws.Errors.{on_err_always}

pub returns-clause-plan : goal.returns-clause-plan
returns-clause-plan g c =
    with_text (g.S.Shelf.texts c.args.shelf.now) c.args.file.now MOST_BYTES c.in_ok-text.text.items c.deref.result.now
    (λ text. IsProfilePlan (g.P.Probes.watches c.args.probes.now)
    (g.P.Probes.watches c.profile_text.new.probes) c.args.steps.now c.profile_text.new.steps text []
    c.args.sizes (planned c.in_ok-profile_text.field-0)) c.in_ok-text.ensures.text
    c.in_ok-text.ensures.within
    c.deref.ensures.value c.in_ok-profile_text.ensures.plan

pub returns-in_err-profile_text-clause-short : goal.returns-in_err-profile_text-clause-short
returns-in_err-profile_text-clause-short g c =
    let told = g.S.Shelf.texts c.args.shelf.now in
    let before = g.P.Probes.watches c.args.probes.now in
    let after = g.P.Probes.watches c.profile_text.new.probes in
    on_err_always c.from_residual-in_err-profile_text.result
    (ProfilesFileShort before after c.args.file.now c.args.sizes
    told)
    (inr (with_text told c.args.file.now MOST_BYTES c.in_ok-text.text.items c.deref.result.now
    (λ text. IsProfileShort before after text [] c.args.sizes)
    c.in_ok-text.ensures.text c.in_ok-text.ensures.within c.deref.ensures.value
    c.in_err-profile_text.ensures.short))
