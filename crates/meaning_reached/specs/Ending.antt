-- At the end of every accepted program each live object is reached: the laws.
use Rattle.std.specs.Prelude.{◌≡◌, ◌≢◌, ◌<◌, ℕ, true, false, List, length, nat_eq}
use Rattle.std.specs.List.{list_any}
use Rattle.meaning_sound.specs.rpp_words.declared.input.FieldWord.{FieldWord}
use Rattle.meaning_sound.specs.rpp_words.declared.input.Limits.{Limits}
use Rattle.meaning_sound.specs.rpp_tree.Tree.{Statements, Source}
use Rattle.meaning_sound.specs.class_rules.Scope.{Locals}
use Rattle.meaning_sound.specs.class_rules.Table.{table_of}
use Rattle.meaning_sound.specs.class_rules.Statements.{verdict_passed, check_statements}
use Rattle.meaning_sound.specs.class_rules.Program.{IsAccepted, setting_in}
use Rattle.meaning_sound.specs.roopl_semantics.Run.{Done}
use Rattle.meaning_sound.specs.roopl_semantics.Store.{Store, State, main_name}
use Rattle.meaning_sound.specs.roopl_semantics.Execution.{exec}
use Rattle.meaning_sound.specs.roopl_semantics.Source.{IsValid, source}
use Rattle.meaning_sound.specs.rpp_words.Limits.{IsLimits}
use Rattle.meaning_sound.specs.roopl_semantics.Report.{numbered, live_count, report}
use Rattle.meaning_sound.specs.roopl_semantics.Layout.{is_plain}
use Rattle.meaning_sound.specs.roopl_semantics.Walk.{run_report}
use Rattle.meaning_sound.specs.Sound.{is_live, Sound}
use Rattle.meaning_sound.specs.Plain.{IsPlain}
use Rattle.meaning_sound.specs.Kept.{MeansSame}
use Rattle.meaning_reached.specs.Reached.{Reaches}

-- what is done by a checked block of an accepted program keeps every live object reached, whatever
-- is held besides
abbrev pub ExecutionReaches : Type 0
ExecutionReaches =
    (program : Source) (limits : Limits) (fuel : ℕ) (extra : ℕ → ℕ) (locals shape : Locals)
    (class : ℕ)
    (body : Statements) (start end : State) (cost : ℕ)
    → IsAccepted program
    → class < length program.classes → MeansSame locals shape
    → check_statements (setting_in program (table_of program) class) locals body ≡ verdict_passed
    → IsPlain body
    → Sound (record { program = program; limits = limits }) extra shape class start
    → Reaches extra start
    → exec (record { program = program; limits = limits }) fuel body start ≡ Done end cost
    → Reaches extra end

-- a store in which the report's walk from the main object meets every other live object
pub record IsStoreReached (program : Source) (store : Store) : Type 0 where
  pub met : (name : ℕ) → is_live store name ≡ true → name ≢ main_name
      → list_any (nat_eq name) (numbered store) ≡ true
  pub lives : (name : ℕ) → list_any (nat_eq name) (numbered store) ≡ true
      → is_live store name ≡ true
  pub no_main : list_any (nat_eq main_name) (numbered store) ≡ false
  pub plain : is_plain program store ≡ true
  pub count : live_count store ≡ length (numbered store)
  pub reports : (cells : List ℕ) → run_report program store cells ≡ report program store

-- at the end of every accepted program the store is reached
abbrev pub EndsReached : Type 0
EndsReached =
    (program : Source) (limits : Limits) (input : List FieldWord) (fuel : ℕ) (end : State)
    (cost : ℕ)
    → IsAccepted program → IsLimits limits → IsValid program input
    → source program limits input fuel ≡ Done end cost → IsStoreReached program end.store
