-- The counter of machine steps if a script is followed, and its value if memory runs out.
use Rattle.std.proofs.Common.{◌≡◌, ℕ, ◌+◌, List, Ok, Err, sym, subst}
use Rattle.std.specs.Prelude.{Result, IfOk, IfErr, OnOk, ◌⊎◌}
use Rattle.command_plan.specs.rpp_words.declared.input.Limits.{Limits}
use Rattle.image_inverter.specs.pisa_isa.Image.{Segments}
use Rattle.debugger_scripts.specs.pisa_scripts.declared.command.Command.{Command}
use Rattle.debugger_scripts.specs.declared.error.ScriptError.{ScriptError}
use Rattle.two_way_debugger.specs.Shown.{spent_in}
use Rattle.command_plan.specs.declared.plan.Plan.{Plan}
use Rattle.command_plan.specs.Plans.{planned}
use Rattle.image_commands.specs.DebugPlans.{start_position, followed, MovesSome, IsScriptPlan, IsScriptShort}

module _ (read : Result (List Command) ScriptError) (image : Segments) (limits : Limits) (commands : List Command)
    (count counted : ℕ) where
  pub script_plan : {E : Type 0} (r : Result Plan E) → read ≡ Ok commands
      → IfOk r (λ plan. planned plan ≡ followed image limits commands)
      → OnOk r (counted ≡ count + spent_in commands (start_position image limits))
      → IfOk r (λ plan. IsScriptPlan read image limits count counted (planned plan))
  script_plan (Ok plan) is said made =
      subst (λ (s : Result (List Command) ScriptError). IsScriptPlan s image limits count counted (planned plan))
      (sym is)
      (said, made)
  script_plan (Err e) is said made = tt

  pub script_short : {A E : Type 0} (r : Result A E) → read ≡ Ok commands
      → IfErr r (λ _. (counted ≡ count) ⊎ MovesSome commands (start_position image limits) count counted)
      → IfErr r (λ _. (counted ≡ count) ⊎ IsScriptShort read image limits count counted)
  script_short r is short =
      subst (λ (s : Result (List Command) ScriptError). IfErr r (λ _. (counted ≡ count)
      ⊎ IsScriptShort s image limits count counted)) (sym is) short
