-- The law of steps back.
use Rattle.std.specs.Prelude.{◌≡◌, ℕ, Bool, true, false, List, [], ◌∷◌}
use Rattle.meaning_machine.specs.rpp_words.declared.input.FieldWord.{FieldWord}
use Rattle.meaning_machine.specs.rpp_words.declared.input.Limits.{Limits}
use Rattle.meaning_machine.specs.rpp_words.Limits.{IsLimits}
use Rattle.meaning_machine.specs.rpp_tree.Tree.{Source, Statements, End, Then}
use Rattle.meaning_machine.specs.class_rules.Program.{IsAccepted}
use Rattle.meaning_machine.specs.roopl_semantics.Run.{Done}
use Rattle.meaning_machine.specs.roopl_semantics.Execution.{Setting}
use Rattle.meaning_machine.specs.roopl_semantics.Source.{IsValid}
use Rattle.meaning_machine.specs.Machine.{Config, Open, next, walk}
use Rattle.meaning_machine.specs.SourceLaws.{set_for, start_config}
use Rattle.meaning_machine.specs.Turned.{turn}
use Rattle.meaning_machine.specs.Reversed.{back}

-- a step of the reversed machine leads back to exactly the same configuration, at some cost
pub record LeadsTo (setting : Setting) (x y : Config) : Type 0 where
  pub cost : ℕ
  pub steps : back setting (turn y) ≡ Done (turn x) cost

-- whether nothing is left to do in a block inside of these open statements
abbrev pub is_over : Statements → List Open → Bool
is_over End [] = true
is_over End (o ∷ around) = false
is_over (Then s rest) around = false

-- a step of the reversed machine undoes each step of a run of an accepted program
abbrev pub StepsAreUndone : Type 0
StepsAreUndone =
    (program : Source) (limits : Limits) (input : List FieldWord)
    → IsAccepted program → IsLimits limits → IsValid program input
    → (steps : ℕ) (x y : Config) (cost step_cost : ℕ)
    → walk (set_for program limits) steps (start_config program input) ≡ Done x cost
    → is_over x.rest x.around ≡ false
    → next (set_for program limits) x ≡ Done y step_cost
    → LeadsTo (set_for program limits) x y
