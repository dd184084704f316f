-- Which texts can be run, and what a plan reports of the others.
use Rattle.std.specs.Prelude.{◌≡◌, ℕ, List, None, Some, Result, Ok, Err}
use Rattle.std.specs.declared.option.Option.{Option}
use Rattle.roopl_judge.specs.rpp_words.declared.input.FieldWord.{FieldWord}
use Rattle.roopl_judge.specs.rpp_words.declared.input.Limits.{Limits}
use Rattle.roopl_judge.specs.rpp_words.declared.input.TheConstants.{MOST_DEEP}
use Rattle.roopl_judge.specs.rpp_tree.Tree.{Source}
use Rattle.roopl_judge.specs.class_rules.Refusal.{Refusal}
use Rattle.command_plan.specs.declared.plan.Room.{Room}
use Rattle.command_plan.specs.pisa_loader.Limiting.{limits_refusal}
use Rattle.command_plan.specs.pisa_loader.declared.error.LoadError.{LoadError}
use Rattle.roopl_judge.specs.Judged.{IsJudged}
use Rattle.command_plan.specs.command_ends.declared.verdict.Verdict.TheVariants.{SourceRefused, InputRefused}
use Rattle.command_plan.specs.Plans.{Planned, prints}
use Rattle.command_plan.specs.Refusals.{refused_line}
use Rattle.command_plan.specs.Texts.{load_line}
use Rattle.run_settings.specs.Inputs.{given_input}

-- the first refusal of a text is reported, or P holds for the program that it is
abbrev pub OfProgram : (P : Source → Planned → Type 0) → Result Source Refusal → Planned → Type 0
OfProgram P (Err refusal) p = p ≡ prints SourceRefused (refused_line refusal)
OfProgram P (Ok program) p = P program p

-- the text is checked, and the plan is that of the result
pub record IsJudgedPlan (text : List ℕ) (P : Source → Planned → Type 0) (p : Planned) : Type 0 where
  pub judgement : Result Source Refusal
  pub judged : IsJudged text judgement
  pub plan : OfProgram P judgement p

-- the plan reports the refusal of an input
abbrev pub RefusesInput : Result (List FieldWord) LoadError → Planned → Type 0
RefusesInput (Err e) p = p ≡ prints InputRefused (load_line e)
RefusesInput (Ok input) p = ⊥

-- or, before it, that of the sizes of the memory
abbrev pub RefusesSizes : Option LoadError → (given : List ℕ) → Source → Planned → Type 0
RefusesSizes (Some e) given program p = p ≡ prints InputRefused (load_line e)
RefusesSizes None given program p = RefusesInput (given_input program given) p

-- the plan reports the first refusal of a text that is to be run: of the text, of the sizes, of the
-- input
abbrev pub RefusesRun : (text given : List ℕ) → (room : Room) → Planned → Type 0
RefusesRun text given room p =
    IsJudgedPlan text (RefusesSizes (limits_refusal room.heap room.deep MOST_DEEP) given) p

-- nothing of it is refused: the text is this program, which is run with these sizes on this input
pub record CanRun (text given : List ℕ) (room : Room) (program : Source) (limits : Limits)
    (input : List FieldWord) : Type 0 where
  pub judged : IsJudged text (Ok program)
  pub sizes : limits_refusal room.heap room.deep MOST_DEEP ≡ None
  pub limits_are : limits ≡ record { heap = room.heap; deep = room.deep }
  pub input_is : given_input program given ≡ Ok input

-- a text can be run, and P holds for its run
pub record RunsTo (text given : List ℕ) (room : Room)
    (P : Source → Limits → List FieldWord → Type 0) : Type 0 where
  pub program : Source
  pub limits : Limits
  pub input : List FieldWord
  pub can_run : CanRun text given room program limits input
  pub run : P program limits input
