-- What the whole program returns. For probes, `probes` is the list as it is passed, and `kept` as
-- it is left.
use Rattle.std.specs.Prelude.{◌≡◌, ◌⊎◌, ℕ, List, None, Some}
use Rattle.std.specs.declared.option.Option.{Option}
use Rattle.std.specs.Io.KnownBytes.{Appends, Keeps}
use Rattle.command_line.specs.rpp_probes.Tally.{Watch}
use Rattle.command_line.specs.rpp_ports.Ports.{Texts, AppendsPrefix}
use Rattle.command_line.specs.Lines.{Asked}
use Rattle.command_line.specs.command_plan.Plans.{Planned}
use Rattle.command_line.specs.command_plan.command_ends.Statuses.{code_of}
use Rattle.rpp_command.specs.Plans.{IsPlan, LeavesProbes}
use Rattle.command_line.specs.command_plan.Files.{Needed, FirstUnread}
use Rattle.rpp_command.specs.Causes.{files_of}
use Rattle.rpp_command.specs.Answers.{words_refused}
use Rattle.plan_serving.specs.Left.{Leaves, Says, AbortsServing}
use Rattle.command_line.specs.command_plan.command_ends.declared.status.Broken.{Broken}
use Rattle.command_line.specs.command_plan.command_ends.declared.status.Broken.TheVariants.{Outside, NoMemory}

-- a plan of the line was carried out, for which so many machine steps were made
pub record CarriesOutTold (line : Asked) (probes kept : List Watch) (told after : Option Texts)
    (status : ℕ) (old new : Option (List ℕ)) : Type 0 where
  pub plan : Planned
  pub made : ℕ
  pub is_plan : IsPlan line probes kept 0 made told plan
  pub status_is : status ≡ code_of plan.verdict
  pub said : Appends old new plan.text
  pub left : Leaves told after plan.writing

-- The result of a line, or of arguments that are none. If the file store knows its contents, `told`
-- has them; otherwise the plan speaks of the contents that the file store returned.
abbrev pub AnswersTold : Option Asked → (probes kept : List Watch) → (told after : Option Texts) → ℕ
    → Option (List ℕ) → Option (List ℕ) → Type 0
AnswersTold None probes kept told after status old new = (status ≡ 1) × Appends old new words_refused
    × (after ≡ told)
AnswersTold (Some line) probes kept told after status old new =
    CarriesOutTold line probes kept told after status old new

-- there was no plan: the line on the first file that could not be read is printed, whole unless the
-- sink failed
pub record StopsCallAt (files : List Needed) (told : Option Texts) (rose failed : Type 0)
    (old new : Option (List ℕ)) : Type 0 where
  pub line : List ℕ
  pub first : FirstUnread told files rose line
  pub said : Says failed old new line

-- the same, and no probe observed a step; or there was no plan because memory ran out, and nothing
-- is printed
abbrev pub HasNoPlan : Asked → (probes kept : List Watch) → (told : Option Texts)
    → (rose failed : Type 0) → (old new : Option (List ℕ)) → Broken → Type 0
HasNoPlan line probes kept told rose failed old new NoMemory =
    Keeps old new × LeavesProbes line probes kept told
HasNoPlan line probes kept told rose failed old new Outside =
    StopsCallAt (files_of line) told rose failed old new × (kept ≡ probes)

-- such a plan was aborted
pub record CutsOff (line : Asked) (probes kept : List Watch) (told after : Option Texts)
    (rose failed lacks : Type 0) (old new : Option (List ℕ)) (broken : Broken) : Type 0 where
  pub plan : Planned
  pub made : ℕ
  pub is_plan : IsPlan line probes kept 0 made told plan
  pub broken_off : AbortsServing told after rose failed lacks old new plan broken

-- What is left if words are no line, and `words refused` was not printed whole: no memory was found
-- to read them, or that line was aborted.
abbrev pub LeavesRefused : (failed lacks : Type 0) → (old new : Option (List ℕ)) → Broken → Type 0
LeavesRefused failed lacks old new NoMemory = Keeps old new
LeavesRefused failed lacks old new Outside = failed × AppendsPrefix old new words_refused

-- What a call leaves that was aborted: there was no plan and the map is as before, or a plan was
-- aborted. The file store's count rose if `rose` holds, and the sink's if `failed` does; the sink
-- needs memory if `lacks` holds.
abbrev pub EndsEarly : Option Asked → (probes kept : List Watch) → (told : Option Texts)
    → (rose failed lacks : Type 0) → (after : Option Texts) → (old new : Option (List ℕ)) → Broken
    → Type 0
EndsEarly None probes kept told rose failed lacks after old new broken =
    (after ≡ told) × LeavesRefused failed lacks old new broken
EndsEarly (Some line) probes kept told rose failed lacks after old new broken =
    ((after ≡ told) × HasNoPlan line probes kept told rose failed old new broken)
    ⊎ CutsOff line probes kept told after rose failed lacks old new broken
