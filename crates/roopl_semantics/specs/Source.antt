-- What a program does, from its main object on.
use Rattle.std.specs.Prelude.{◌≡◌, ℕ, Bool, true, false, not, ◌&&◌, nat_eq, nat_le, List, [], ◌∷◌}
use Rattle.std.specs.Prelude.{Option, Some, None, slice_set, slice_get, if◌then◌else◌, IsTrue}
use Rattle.std.specs.List.{All, list_any}
use Rattle.buddy_book.specs.rpp_words.Words.{IsWord}
use Rattle.buddy_book.specs.rpp_words.declared.input.FieldWord.{FieldWord}
use Rattle.buddy_book.specs.rpp_words.declared.input.Limits.{Limits}
use Rattle.inverse_rules.specs.rpp_tree.declared.tree.Var.{Var}
use Rattle.inverse_rules.specs.rpp_tree.Tree.{Statements, Source}
use Rattle.class_rules.specs.Classes.{class_fields, main_of, procedure_at}
use Rattle.class_rules.specs.Overrides.{is_type_int}
pub use Rattle.class_rules.specs.Overrides.{is_type_int as is_int_type}
use Rattle.roopl_semantics.specs.Run.{Run, Done, Fault, More}
use Rattle.roopl_semantics.specs.Store.{Value, Word, Object, OfClass, State, main_name, zero_values}
use Rattle.roopl_semantics.specs.Execution.{exec}

-- the fields of the main object
abbrev pub main_fields : Source → List Var
main_fields program = class_fields program (main_of program).class

abbrev pub main_body : Source → Statements
main_body program = (procedure_at program (main_of program)).body

-- the input's words in their fields
abbrev pub with_input : List FieldWord → List Value → List Value
with_input [] cells = cells
with_input (entry ∷ input) cells = with_input input (slice_set cells entry.field (Word entry.word))

abbrev pub is_int_field : Option Var → Bool
is_int_field (Some var) = is_type_int var.kind
is_int_field None = false

abbrev pub names_field : ℕ → List FieldWord → Bool
names_field field input = list_any (λ entry. nat_eq entry.field field) input

-- whether no field is named twice
abbrev pub names_none_twice : List FieldWord → Bool
names_none_twice [] = true
names_none_twice (entry ∷ input) = not (list_any (λ other. nat_eq other.field entry.field) input)
    && names_none_twice input

-- an input that the program can be run on: words for int fields of the main class, for none twice
pub record IsValid (program : Source) (input : List FieldWord) : Type 0 where
  pub ints : All (λ entry. IsTrue (is_int_field (slice_get (main_fields program) entry.field)))
      input
  pub once : IsTrue (names_none_twice input)
  pub words : All (λ entry. IsWord entry.word) input

-- the main object before a run
abbrev pub main_object : Source → List FieldWord → Object
main_object program input =
    record {
      head = OfClass (main_of program).class;
      count = 1;
      cells = with_input input (zero_values (main_fields program));
    }

-- only the main object
abbrev pub starting : Source → List FieldWord → State
starting program input =
    record {
      frame = [];
      self = main_name;
      depth = 1;
      store = (main_name, main_object program input)
          ∷ [];
      log = [];
    }

-- a run that is not over if its cost passes the fuel
abbrev pub within : {A : Type 0} → ℕ → Run A → Run A
within fuel (Done result cost) = if nat_le cost fuel then Done result cost else More
within fuel (Fault code cost) = if nat_le cost fuel then Fault code cost else More
within fuel More = More

-- the program's run with this fuel
abbrev pub source : Source → Limits → List FieldWord → ℕ → Run State
source program limits input fuel =
    within fuel (exec (record { program = program; limits = limits }) fuel
    (procedure_at program (main_of program)).body (starting program input))

-- the source gives this state: the run is done with it for some fuel
pub record GivesDone (program : Source) (limits : Limits) (input : List FieldWord)
    (end : State) : Type 0 where
  pub fuel : ℕ
  pub cost : ℕ
  pub done : source program limits input fuel ≡ Done end cost

-- the source gives this fault: the run stops with it for some fuel
pub record GivesFault (program : Source) (limits : Limits) (input : List FieldWord)
    (code : ℕ) : Type 0 where
  pub fuel : ℕ
  pub cost : ℕ
  pub faults : source program limits input fuel ≡ Fault code cost
