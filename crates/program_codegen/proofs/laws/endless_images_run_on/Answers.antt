use Rattle.program_codegen.proofs.RunsOn.{run_on}
use Rattle.program_codegen.proofs.laws.endless_images_run_on.Goals as goal

pub returns : goal.returns
returns c = run_on
