-- The runs that are looked at.
use Rattle.std.specs.Prelude.{List}
use Rattle.source_execution.specs.rpp_words.declared.input.FieldWord.{FieldWord}
use Rattle.source_execution.specs.rpp_words.declared.input.Limits.{Limits}
use Rattle.source_execution.specs.rpp_words.Limits.{IsLimits}
use Rattle.source_execution.specs.rpp_tree.Tree.{Source}
use Rattle.source_execution.specs.roopl_semantics.Source.{IsValid}

-- a program with a valid input and limits in range
pub record IsValidRun (program : Source) (limits : Limits) (input : List FieldWord) : Type 0 where
  pub valid : IsValid program input
  pub in_range : IsLimits limits
