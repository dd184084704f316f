-- The laws of the inverse program.
use Rattle.std.specs.Prelude.{◌≡◌, ℕ, suc, Bool, true, false, List, [], ◌∷◌, Some}
use Rattle.meaning_reached.specs.rpp_words.Limits.{IsLimits}
use Rattle.meaning_reached.specs.rpp_words.declared.input.FieldWord.{FieldWord}
use Rattle.meaning_reached.specs.rpp_words.declared.input.Limits.{Limits}
use Rattle.meaning_reached.specs.rpp_tree.Tree.{Source}
use Rattle.meaning_reached.specs.class_rules.Program.{IsAccepted}
use Rattle.meaning_reached.specs.inverse_rules.Inverse.{inverse_program}
use Rattle.meaning_reached.specs.buddy_book.Book.{start}
use Rattle.meaning_reached.specs.buddy_book.Place.{place}
use Rattle.meaning_reached.specs.roopl_semantics.Run.{Done}
use Rattle.meaning_reached.specs.roopl_semantics.Store.{Value, Word, Nil, Name, State, main_name, object_at}
use Rattle.meaning_reached.specs.roopl_semantics.Execution.{exec}
use Rattle.meaning_reached.specs.roopl_semantics.Source.{IsValid, main_body, main_object, source, starting}
use Rattle.meaning_reached.specs.roopl_semantics.Report.{report}
use Rattle.meaning_inverse.specs.StatesAgree.{AgreeStates}
use Rattle.meaning_reached.specs.roopl_semantics.Laws.{book_of}

-- the inverse program of an accepted program is accepted
abbrev pub InverseIsAccepted : Type 0
InverseIsAccepted = (program : Source) → IsAccepted program → IsAccepted (inverse_program program)

-- the main method of the inverse program leads back from an end, at this cost, to a state that
-- agrees with the start
pub record MainLeadsBack (program : Source) (limits : Limits) (begin end : State)
    (cost : ℕ) : Type 0 where
  pub back : State
  pub runs : exec (record { program = inverse_program program; limits = limits }) cost
      (main_body (inverse_program program)) end
      ≡ Done back cost
  pub agrees : AgreeStates limits.heap begin back

-- what an accepted program did, the main method of its inverse program undoes
abbrev pub InverseMainUndoes : Type 0
InverseMainUndoes =
    (program : Source) (limits : Limits) (input : List FieldWord) (fuel : ℕ) (end : State)
    (cost : ℕ)
    → IsAccepted program → IsLimits limits → IsValid program input
    → source program limits input fuel ≡ Done end cost
    → MainLeadsBack program limits (starting program input) end cost

-- a state with which a run can begin: the main object's fields are those of an input, so that no
-- field names an object, and the free lists are those of an empty heap
pub record BeginsAnew (program : Source) (limits : Limits) (end : State)
    (input : List FieldWord) : Type 0 where
  pub fields : (object_at end.store main_name).cells ≡ (main_object program input).cells
  pub free : book_of (place limits.heap end.log) ≡ Some (start limits.heap)

-- the words among fields, from the field of a number on, as an input
abbrev pub field_words : ℕ → List Value → List FieldWord
field_words number [] = []
field_words number (Word w ∷ cells) = record { field = number; word = w }
    ∷ field_words (suc number) cells
field_words number (Nil ∷ cells) = field_words (suc number) cells
field_words number (Name n ∷ cells) = field_words (suc number) cells

-- whether no field names an object or array
abbrev pub names_nothing : List Value → Bool
names_nothing [] = true
names_nothing (Word w ∷ cells) = names_nothing cells
names_nothing (Nil ∷ cells) = names_nothing cells
names_nothing (Name n ∷ cells) = false

-- the main object's fields are those of an input
pub record AreInputCells (program : Source) (cells : List Value) : Type 0 where
  pub valid : IsValid program (field_words 0 cells)
  pub fields : cells ≡ (main_object program (field_words 0 cells)).cells

-- if no final field names an object or array, the words among them are such an input
abbrev pub FinalFieldsAreInput : Type 0
FinalFieldsAreInput =
    (program : Source) (limits : Limits) (input : List FieldWord) (fuel : ℕ) (end : State)
    (cost : ℕ)
    → IsAccepted program → IsLimits limits → IsValid program input
    → source program limits input fuel ≡ Done end cost
    → names_nothing (object_at end.store main_name).cells ≡ true
    → AreInputCells program (object_at end.store main_name).cells

-- the inverse program, run with an input, ends at this cost in a state that agrees with the start,
-- and its report is the start's
pub record RunsBack (program : Source) (limits : Limits) (begin : State) (input : List FieldWord)
    (cost : ℕ) : Type 0 where
  pub back : State
  pub runs : source (inverse_program program) limits input cost ≡ Done back cost
  pub agrees : AgreeStates limits.heap begin back
  pub shown : report (inverse_program program) back.store ≡ report program begin.store

-- what an accepted program did, its inverse program undoes at the same cost, if the end can be
-- begun with
abbrev pub InverseProgramUndoes : Type 0
InverseProgramUndoes =
    (program : Source) (limits : Limits) (input final : List FieldWord) (fuel : ℕ) (end : State)
    (cost : ℕ)
    → IsAccepted program → IsLimits limits → IsValid program input
    → source program limits input fuel ≡ Done end cost → BeginsAnew program limits end final
    → RunsBack program limits (starting program input) final cost
