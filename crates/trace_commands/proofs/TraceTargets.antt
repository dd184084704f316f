-- A plan of `trace` writes nothing.
use Rattle.std.proofs.Common.{ℕ, List, None, Ok, Err, inl, inr, refl}
use Rattle.std.specs.declared.option.Option.{Option}
use Rattle.std.specs.Prelude.{Result}
use Rattle.run_settings.specs.rpp_words.declared.input.FieldWord.{FieldWord}
use Rattle.run_settings.specs.rpp_words.declared.input.Limits.{Limits}
use Rattle.run_settings.specs.rpp_tree.Tree.{Source}
use Rattle.run_settings.specs.rpp_ports.Ports.{Texts}
use Rattle.debugger_scripts.specs.pisa_scripts.declared.command.Command.{Command}
use Rattle.debugger_scripts.specs.declared.error.ScriptError.{ScriptError}
use Rattle.debugger_scripts.specs.declared.error.ScriptError.TheVariants.{BadCommand, NoMemory}
use Rattle.debugger_scripts.specs.Scripts.{script_of}
use Rattle.run_settings.specs.command_plan.Plans.{Planned, WritesOnly}
use Rattle.run_settings.proofs.command_plan_laws.Writes.{along}
use Rattle.run_settings.proofs.RefusedRuns.{refused_writes}
use Rattle.trace_commands.specs.TracePlans.{IsTraceScriptPlan, IsTracePlan, Traces}
use Rattle.run_settings.specs.command_plan.declared.plan.Room.{Room}

script_writes : (read : Result (List Command) ScriptError) (program : Source) (limits : Limits) (input : List FieldWord)
    (p : Planned) → IsTraceScriptPlan read program limits input p → WritesOnly p None
script_writes (Err (BadCommand line)) program limits input p h = along p _ None h (inl refl)
script_writes (Err NoMemory) program limits input p h = absurd h
script_writes (Ok commands) program limits input p h = along p _ None h.2 (inl refl)

trace_writes : (text script given : List ℕ) (room : Room) (p : Planned) → IsTracePlan text script given room p
    → WritesOnly p None
trace_writes text script given room p (inl refused) = refused_writes text given room p refused
trace_writes text script given room p (inr to) =
    script_writes (script_of script) to.program to.limits to.input p to.run

pub traces_writes : (file script : List ℕ) (input : Option (List ℕ)) (room : Room) (told : Option Texts)
    (p : Planned) → Traces file script input room told p → WritesOnly p None
traces_writes file script input room told p h =
    trace_writes h.text h.holds.text h.holds.holds.text room p h.holds.holds.holds
