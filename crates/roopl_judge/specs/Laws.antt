-- Laws of the check of texts.
use Rattle.std.specs.Prelude.{◌≡◌, ℕ, ◌≤◌, List, length, Result, Ok}
use Rattle.token_limits.specs.rpp_tree.declared.limits.TheConstants.{MOST_BYTES}
use Rattle.token_limits.specs.rpp_tree.Tree.{Source}
use Rattle.reversible_types.specs.class_rules.Program.{IsAccepted}
use Rattle.reversible_types.specs.class_rules.Refusal.{Refusal}
use Rattle.roopl_judge.specs.Judged.{IsJudged}

abbrev pub OneJudgement : Type 0
OneJudgement = (text : List ℕ) (a b : Result Source Refusal) → IsJudged text a → IsJudged text b
    → a ≡ b

-- what is accepted keeps the limits that a syntax tree shows: those of names and numbers too
abbrev pub JudgedIsAccepted : Type 0
JudgedIsAccepted = (text : List ℕ) (program : Source) → length text ≤ MOST_BYTES
    → IsJudged text (Ok program) → IsAccepted program
