-- What the plan of a wrapped run rests on.
use Rattle.std.specs.Prelude.{◌≡◌, ℕ, List}
use Rattle.command_plan.specs.rpp_words.Limits.{IsLimits}
use Rattle.command_plan.specs.rpp_words.declared.input.FieldWord.{FieldWord}
use Rattle.command_plan.specs.rpp_words.declared.input.Limits.{Limits}
use Rattle.command_plan.specs.rpp_tree.Tree.{Source}
use Rattle.command_plan.specs.class_rules.Program.{IsAccepted}
use Rattle.store_report.specs.pisa_isa.declared.machine.Stop.{Stop}
use Rattle.store_report.specs.pisa_isa.Image.{Segments, IsImage}
use Rattle.store_report.specs.pisa_machine.Position.{Position}
use Rattle.command_plan.specs.pisa_loader.declared.input.InputField.{InputField}
use Rattle.program_runs.specs.run_settings.roopl_semantics.Source.{IsValid}
use Rattle.refine_wrap.specs.Programs.{FollowsWrapped, wrapped_run}
use Rattle.wrap_commands.specs.WrapNames.{result_cells}
use Rattle.wrap_commands.specs.WrapPlans.{AreResults}

-- a machine is where a run of at most so many steps of the wrapped code of this image ended, whose
-- runs follow the program
pub record HasWrapped (program : Source) (fields : List InputField) (limits : Limits)
    (input : List FieldWord) (bound : ℕ) (image : Segments) (end : Position) (why : Stop)
    (spent : ℕ) : Type 0 where
  pub accepted : IsAccepted program
  pub allowed : IsLimits limits
  pub valid : IsValid program input
  pub is_image : IsImage image
  pub results : AreResults program fields
  pub follows : FollowsWrapped program image (result_cells fields) end.image.code limits input
  pub runs : wrapped_run image (result_cells fields) end.image.code limits input bound
      ≡ record { why = why; spent = spent; last = end.state }
