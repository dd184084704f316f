-- The plans of the commands that write source texts.
use Rattle.std.specs.Prelude.{◌≡◌, ℕ, List, ◌++◌, length, Result, Ok, Err, codes}
use Rattle.std.specs.declared.option.Option.{Option}
use Rattle.std.specs.Fmt.{decimal}
use Rattle.rpp_generator.specs.rpp_words.Texts.{line_end}
use Rattle.roopl_judge.specs.rpp_tree.declared.limits.TheConstants.{MOST_BYTES}
use Rattle.roopl_judge.specs.rpp_tree.Tree.{Source}
use Rattle.command_plan.specs.rpp_ports.Ports.{Texts}
use Rattle.rpp_generator.specs.Generated.{generated}
use Rattle.roopl_judge.specs.class_rules.Refusal.{Refusal}
use Rattle.roopl_judge.specs.Judged.{IsJudged}
use Rattle.meaning_inverse.specs.inverse_rules.Inverse.{inverse_program}
use Rattle.roopl_printer.specs.Spelled.{printed}
use Rattle.command_plan.specs.command_ends.declared.verdict.Verdict.TheVariants.{SourceRefused}
use Rattle.command_plan.specs.Plans.{Planned, prints, writes, WithText}
use Rattle.command_plan.specs.Refusals.{refused_line}

-- a text is written into a file, and the number of its bytes is printed
abbrev pub writes_text : (name text : List ℕ) → Planned
writes_text name text = writes name text
    (codes "written " ++ (decimal (length text) ++ (codes " bytes" ++ line_end)))

-- the first refusal of a text is reported, or the text of its program's inverse is written
abbrev pub WritesInverse : Result Source Refusal → (name : List ℕ) → Planned → Type 0
WritesInverse (Err refusal) name p = p ≡ prints SourceRefused (refused_line refusal)
WritesInverse (Ok program) name p = p ≡ writes_text name (printed (inverse_program program))

-- the text is checked, and the plan is that of the result
pub record IsInversePlan (text name : List ℕ) (p : Planned) : Type 0 where
  pub judgement : Result Source Refusal
  pub judged : IsJudged text judgement
  pub plan : WritesInverse judgement name p

-- the plan of `generate` with this seed and so many items to this file
abbrev pub Generates : (seed size : ℕ) → (out : List ℕ) → Option Texts → Planned → Type 0
Generates seed size out told p = p ≡ writes_text out (generated seed size)

-- the plan of `show-inverse` of this file to another
abbrev pub ShowsInverse : (file out : List ℕ) → Option Texts → Planned → Type 0
ShowsInverse file out told p = WithText told file MOST_BYTES (λ text. IsInversePlan text out p)
