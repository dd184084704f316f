-- What is tested, as it is kept.
use Rattle.std.specs.Prelude.{ℕ, Bool, true, false, List, [], ◌∷◌}
use Rattle.source_blocks.specs.rpp_tree.Places.{statement_place}
use Rattle.source_blocks.specs.rpp_tree.Views.{expression_of}
use Rattle.source_blocks.specs.roopl_semantics.Store.{State}
use Rattle.source_blocks.specs.meaning_machine.Machine.{Open, OpenPart, Calling}
use Rattle.source_blocks.specs.source_store.ValueView.{value_of}
use Rattle.source_checks.specs.declared.checks.Subject.{Subject as Looks}
use Rattle.source_checks.specs.declared.testing.Tested.{Tested as Tests}
use Rattle.source_checks.specs.declared.testing.LoopTests.{LoopTests}
use Rattle.source_compared.specs.Comparisons.{Compared, Nothing}
use Rattle.source_compared.specs.ComparedView.{compared_of}
use Rattle.source_checks.specs.Checks.{Subject, touched}
use Rattle.source_checks.specs.Failures.{Tested, Tests as Loop}

abbrev pub subject_of : Looks → Subject
subject_of it = record {
  target = value_of it.target;
  other = value_of it.other;
  class = it.class;
  array = it.array;
}

abbrev pub tested_of : Tests → Tested
tested_of it = record {
  word = it.word.now;
  at = it.at;
  statement = it.statement;
  compared = compared_of it.compared;
}

-- the offset of the innermost open statement
abbrev pub around_place : List Open → ℕ
around_place [] = 0
around_place (o ∷ around) = statement_place o.here

-- what was written into lent variables, if the innermost open statement is a call
abbrev pub part_touched : State → OpenPart → Compared
part_touched st (Calling caller receiver args held) = touched caller receiver args st
part_touched st _ = Nothing

abbrev pub around_touched : State → List Open → Compared
around_touched st [] = Nothing
around_touched st (o ∷ around) = part_touched st o.part

abbrev pub loop_of : LoopTests → Loop
loop_of it = record { entry = expression_of it.entry.now; exit = expression_of it.exit.now }

-- the tests of a loop, in a direction
abbrev pub exchanged_loop : Bool → Loop → Loop
exchanged_loop true it = record { entry = it.exit; exit = it.entry }
exchanged_loop false it = it
