-- A plan of a line writes the line's target, or nothing.
use Rattle.std.proofs.Common.{ℕ, List, None, Some, inl, inr, option_map, subst}
use Rattle.std.specs.declared.option.Option.{Option}
use Rattle.command_line.specs.rpp_ports.Ports.{Texts}
use Rattle.command_line.specs.rpp_probes.Tally.{Watch}
use Rattle.command_line.specs.Lines.{Asked, Check, Compile, Asm, ListImage, Flip, ShowInverse, Generate, Cluster}
use Rattle.command_line.specs.Lines.{RunImage, Debug, Trace, Go, Turn, Profile, Wrap, Explain}
use Rattle.command_line.specs.command_plan.Plans.{Planned, Written, WritesOnly}
use Rattle.rpp_command.specs.Plans.{IsPlan}
use Rattle.rpp_command.specs.Causes.{target_of}
use Rattle.plan_serving.specs.Left.{KeepsButTarget}
use Rattle.program_commands.proofs.ProgramTargets.{checks_file_writes, compiles_file_writes}
use Rattle.program_commands.proofs.ProgramTargets.{goes_on_writes}
use Rattle.program_commands.proofs.ProgramTargets.{turns_file_writes, profiles_file_writes}
use Rattle.explain_commands.proofs.ExplainTargets.{explains_writes}
use Rattle.cluster_commands.proofs.ClusterTargets.{clusters_files_writes}
use Rattle.wrap_commands.proofs.WrapTargets.{wraps_file_writes}
use Rattle.trace_commands.proofs.TraceTargets.{traces_writes}
use Rattle.text_commands.proofs.TextTargets.{shows_inverse_writes, generates_writes}
use Rattle.image_commands.proofs.ImageTargets.{assembles_file_writes, lists_file_writes, flips_file_writes}
use Rattle.image_commands.proofs.ImageTargets.{runs_file_writes, debugs_file_writes}

plan_writes : (line : Asked) (before after : List Watch) (count counted : ℕ) (told : Option Texts) (p : Planned)
    → IsPlan line before after count counted told p → WritesOnly p (target_of line)
unfolding IsPlan target_of
plan_writes (Check file) before after count counted told p h = checks_file_writes file told p h
plan_writes (Compile file image) before after count counted told p h = compiles_file_writes file image told p h
plan_writes (Asm text image) before after count counted told p h = assembles_file_writes text image told p h
plan_writes (ListImage image text) before after count counted told p h = lists_file_writes image text told p h
plan_writes (Flip image flipped) before after count counted told p h = flips_file_writes image flipped told p h
plan_writes (ShowInverse file out) before after count counted told p h = shows_inverse_writes file out told p h
plan_writes (Generate seed size out) before after count counted told p h = generates_writes seed size out told p h
plan_writes (Cluster script cells images) before after count counted told p h =
    clusters_files_writes script cells images told p h
plan_writes (RunImage image sizes state save) before after count counted told p h =
    runs_file_writes image sizes state save count counted told p h
plan_writes (Debug image room script) before after count counted told p h =
    debugs_file_writes image room script count counted told p h
plan_writes (Trace file room script input) before after count counted told p h =
    traces_writes file script input room told p h
plan_writes (Go file sizes input) before after count counted told p h =
    goes_on_writes count counted file input sizes told p h
plan_writes (Turn file sizes input) before after count counted told p h =
    turns_file_writes before after count counted file input sizes told p h
plan_writes (Profile file sizes) before after count counted told p h =
    profiles_file_writes before after count counted file sizes told p h
plan_writes (Wrap file sizes names input) before after count counted told p h =
    wraps_file_writes count counted file names input sizes told p h
plan_writes (Explain file sizes input) before after count counted told p h =
    explains_writes file input sizes told p h

-- if nothing is written, each name keeps its text
kept_all : (old new : Option Texts) (name : Option (List ℕ)) → KeepsButTarget old new None → KeepsButTarget old new name
kept_all None new name kept = tt
kept_all (Some old) None name kept = absurd kept
kept_all (Some old) (Some new) None kept = kept
kept_all (Some old) (Some new) (Some name) kept = λ other differs. kept other

kept_where : (old new : Option Texts) (p : Planned) (name : Option (List ℕ)) → WritesOnly p name
    → KeepsButTarget old new (option_map (λ w. w.name) p.writing) → KeepsButTarget old new name
kept_where old new p name (inl none) kept = kept_all old new name
    (subst (λ (w : Option Written). KeepsButTarget old new (option_map (λ w. w.name) w)) none kept)
kept_where old new p name (inr same) kept = subst (KeepsButTarget old new) same kept

-- so what it leaves is as the line says
pub kept_by_plan : (line : Asked) (before after : List Watch) (count counted : ℕ) (old new : Option Texts)
    (p : Planned) → IsPlan line before after count counted old p
    → KeepsButTarget old new (option_map (λ w. w.name) p.writing) → KeepsButTarget old new (target_of line)
kept_by_plan line before after count counted old new p is kept =
    kept_where old new p (target_of line) (plan_writes line before after count counted old p is) kept
