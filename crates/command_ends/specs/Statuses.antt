-- The status of the program.
use Rattle.std.specs.Prelude.{ℕ, None, Some, Result, Ok, Err}
use Rattle.std.specs.declared.option.Option.{Option}
use Rattle.command_ends.specs.declared.verdict.Verdict.{Verdict}
use Rattle.command_ends.specs.declared.verdict.Verdict.TheVariants.{Done, SourceRefused}
use Rattle.command_ends.specs.declared.verdict.Verdict.TheVariants.{ImageRefused, Trapped, Bound}
use Rattle.command_ends.specs.declared.verdict.Verdict.TheVariants.{InputRefused, Stopped}
use Rattle.command_ends.specs.declared.status.Broken.{Broken}
use Rattle.command_ends.specs.declared.status.Broken.TheVariants.{Outside, NoMemory}

abbrev pub code_of : Verdict → ℕ
code_of Done = 0
code_of SourceRefused = 3
code_of ImageRefused = 4
code_of Trapped = 5
code_of Bound = 6
code_of InputRefused = 8
code_of Stopped = 9

abbrev pub broken_code : Broken → ℕ
broken_code Outside = 2
broken_code NoMemory = 7

-- the status of what came of the words: of words that are no line, of a plan that was carried out,
-- and of what was aborted
abbrev pub served_status : Option (Result Verdict Broken) → ℕ
served_status None = 1
served_status (Some (Ok verdict)) = code_of verdict
served_status (Some (Err broken)) = broken_code broken
