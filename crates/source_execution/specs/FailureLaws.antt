-- The step that stops with a fault is there exactly if the meaning of the program is that fault. An
-- evaluation that meets a fault compares an element that is not there.
use Rattle.std.specs.Prelude.{◌≡◌, ℕ, Bool, true, false, nat_lt, List, Some, Result, Ok, Err}
use Rattle.source_checks.specs.rpp_words.declared.input.FieldWord.{FieldWord}
use Rattle.source_checks.specs.rpp_words.declared.input.Limits.{Limits}
use Rattle.source_statements.specs.rpp_tree.Tree.{Source as Program}
use Rattle.source_checks.specs.roopl_semantics.Run.{Fault}
use Rattle.source_checks.specs.roopl_semantics.Store.{Value, number_of}
use Rattle.source_checks.specs.roopl_semantics.Value.{NIL, INDEX}
use Rattle.source_checks.specs.roopl_semantics.Source.{source}
use Rattle.source_checks.specs.meaning_machine.Machine.{Config, next}
use Rattle.source_checks.specs.meaning_machine.SourceLaws.{set_for, start_config}
use Rattle.source_checks.specs.source_compared.Comparisons.{Compared, Below, Missing, Nothing}
use Rattle.source_checks.specs.Failures.{failing}

-- with some fuel, the program means this fault
pub record Means (program : Program) (limits : Limits) (input : List FieldWord) (code : ℕ)
    : Type 0 where
  pub fuel : ℕ
  pub cost : ℕ
  pub fault : source program limits input fuel ≡ Fault code cost

-- a step stops with this fault
pub record StopsWithFault (program : Program) (limits : Limits) (input : List FieldWord) (code : ℕ)
    : Type 0 where
  pub n : ℕ
  pub here : Config
  pub spent : ℕ
  pub first : failing (set_for program limits) n (start_config program input) ≡ Some here
  pub stops : next (set_for program limits) here ≡ Fault code spent

pub record FailsAsMeant (program : Program) (limits : Limits) (input : List FieldWord) (code : ℕ)
    : Type 0 where
  pub only : StopsWithFault program limits input code → Means program limits input code
  pub always : Means program limits input code → StopsWithFault program limits input code

-- what an evaluation that stops with this fault compares: an index that is not below the length of
-- the array, or an array that is nil
abbrev pub IsNotThere : (code : ℕ) → Compared → Type 0
IsNotThere code (Below found limit) = (code ≡ INDEX)
    × (nat_lt (number_of found) limit ≡ false)
IsNotThere code (Missing array) = (code ≡ NIL) × (array ≡ true)
IsNotThere code _ = ⊥

-- one that gives a value compares nothing
abbrev pub Accesses : Compared → Result Value ℕ → Type 0
Accesses it (Ok v) = it ≡ Nothing
Accesses it (Err code) = IsNotThere code it
