-- What the next step of a run tests: where it is in the text, and the values that it compares.
use Rattle.std.specs.Prelude.{ℕ, zero, suc, ◌^◌, Bool, true, false, List, [], ◌∷◌, codes}
use Rattle.std.specs.Prelude.{Option, Some, None}
use Rattle.source_blocks.specs.rpp_tree.Tree.{Source, Expression, Number, Null, Variable, Element, Binary}
use Rattle.source_blocks.specs.rpp_tree.Tree.{Statement, From, Statements, End, Then}
use Rattle.source_blocks.specs.rpp_tree.Places.{statement_place}
use Rattle.source_blocks.specs.roopl_semantics.Run.{Run, Done, Fault, More}
use Rattle.source_blocks.specs.roopl_semantics.Store.{State}
use Rattle.source_blocks.specs.roopl_semantics.Value.{Slot, read, value}
use Rattle.source_blocks.specs.roopl_semantics.Execution.{Setting}
use Rattle.source_blocks.specs.meaning_machine.Machine.{Config, Open, OpenPart, next}
use Rattle.source_blocks.specs.meaning_machine.Machine.{Chosen, First, Again, Holding, Calling}
use Rattle.source_compared.specs.Comparisons.{Compared, Nothing, truth, same_as}
use Rattle.source_compared.specs.TestWords.{choice_word, loop_word, local_word}
use Rattle.source_checks.specs.Checks.{failing_access, touched, compared_begin}

-- the offset of an expression's first token
abbrev pub first_offset : Expression → ℕ
first_offset (Number at word) = at
first_offset (Null at) = at
first_offset (Variable name) = name.at
first_offset (Element name index) = name.at
first_offset (Binary at op left right) = first_offset left

-- the tests of a loop
pub record Tests : Type 0 where
  pub entry : Expression
  pub exit : Expression

-- those of a statement, if it is a loop
abbrev pub tests_of : Statement → Option Tests
tests_of (From at entry first again exit) = Some (record { entry = entry; exit = exit })
tests_of _ = None

-- a test: its word, its offset and that of its statement, and what it compares
pub record Tested : Type 0 where
  pub word : List ℕ
  pub at : ℕ
  pub statement : ℕ
  pub compared : Compared

module _ (program : Source) where
  -- the test of a choice or a loop that is to come out so
  abbrev pub tested_truth : State → (statement : ℕ) → (word : List ℕ) → Expression → Bool → Tested
  tested_truth st statement word test wanted = record {
    word = word;
    at = first_offset test;
    statement = statement;
    compared = truth wanted (failing_access program st test)
        (value program st test);
  }

  -- what is tested at the end of a block, by the part of the open statement that ends
  abbrev pub tested_part : State → (statement : ℕ) → OpenPart → Tested
  tested_part st statement (Chosen side test after) =
      tested_truth st statement (choice_word (first_offset after) (first_offset test)) after side
  tested_part st statement (First entry first again exit) =
      tested_truth st statement (loop_word (first_offset exit) (first_offset entry)) exit true
  tested_part st statement (Again entry first again exit) =
      tested_truth st statement (loop_word (first_offset entry) (first_offset exit)) entry false
  tested_part st statement (Holding name begin end) = record {
    word = local_word name (first_offset end) (first_offset begin);
    at = first_offset end;
    statement = statement;
    compared = same_as (read st (Slot 0)) (failing_access program st end)
        (value program st end);
  }
  tested_part st statement (Calling caller receiver args held) = record {
    word = codes "call";
    at = statement;
    statement = statement;
    compared = touched caller receiver args st;
  }

  abbrev pub tested_around : State → List Open → Tested
  tested_around st [] = record { word = codes "end"; at = 0; statement = 0; compared = Nothing }
  tested_around st (o ∷ around) = tested_part st (statement_place o.here) o.part

module _ (setting : Setting) (code : ℕ) where
  -- what is tested as a statement begins: the entry of a loop, or all that the statement tests
  abbrev pub tested_begin : State → Statement → Option Tests → Tested
  tested_begin st s None = record {
    word = codes "statement";
    at = statement_place s;
    statement = statement_place s;
    compared = compared_begin setting st code s;
  }
  tested_begin st s (Some tests) =
      tested_truth setting.program st (statement_place s)
      (loop_word (first_offset tests.entry) (first_offset tests.exit)) tests.entry true

  -- what is tested where a statement begins, or where a block ends
  abbrev pub tested_here : State → Statements → List Open → Tested
  tested_here st End around = tested_around setting.program st around
  tested_here st (Then s rest) around = tested_begin st s (tests_of s)

  -- what the next step tests, which stops with this fault
  abbrev pub tested : Config → Tested
  tested x = tested_here x.state x.rest x.around

-- ---- the step that stops with a fault

-- where a run goes on after a step: a fault ends it here
abbrev pub here_or_on : Config → Run Config → (Config → Option Config) → Option Config
here_or_on x (Done y cost) on = on y
here_or_on x (Fault code cost) on = Some x
here_or_on x More on = None

-- a run that is looked at makes fewer steps
abbrev pub MOST_STEPS : ℕ
MOST_STEPS = 2 ^ 64

-- the first position from which a step stops with a fault, if it is fewer than n steps away
abbrev pub failing : Setting → (n : ℕ) → Config → Option Config
failing setting zero x = None
failing setting (suc n) x = here_or_on x (next setting x) (failing setting n)
