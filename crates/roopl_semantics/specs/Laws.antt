-- Laws of the meaning.
use Rattle.std.specs.Prelude.{◌≡◌, ◌≢◌, ◌≤◌, ℕ, ◌+◌, List, [], ◌∷◌, nat_eq, Option, Some, None}
use Rattle.std.specs.Prelude.{if◌then◌else◌}
use Rattle.buddy_book.specs.rpp_words.declared.input.FieldWord.{FieldWord}
use Rattle.buddy_book.specs.rpp_words.declared.input.Limits.{Limits}
use Rattle.inverse_rules.specs.rpp_tree.Tree.{Statements, Source}
use Rattle.class_rules.specs.Program.{IsAccepted}
use Rattle.buddy_book.specs.Book.{Book}
use Rattle.buddy_book.specs.Place.{Placing, block_of, place}
use Rattle.roopl_semantics.specs.Run.{Done, Fault}
use Rattle.roopl_semantics.specs.Store.{Value, Name, Object, Store, State, main_name, object_named}
use Rattle.roopl_semantics.specs.Execution.{Setting, exec}
use Rattle.roopl_semantics.specs.Source.{IsValid, source, starting}
use Rattle.buddy_book.specs.rpp_words.Limits.{IsLimits}
use Rattle.roopl_semantics.specs.Agreement.{Agree}
use Rattle.roopl_semantics.specs.Report.{report}
use Rattle.code_conventions.specs.pisa_isa.Image.{Segments}
use Rattle.code_conventions.specs.pisa_isa.Loaded.{loaded}
use Rattle.roopl_semantics.specs.Layout.{HasStatics, layout}

-- a program that ends with some fuel ends the same with more
pub record MoreFuelKeeps : Type 0 where
  pub done : (program : Source) (limits : Limits) (input : List FieldWord) (n m : ℕ) (end : State)
      (cost : ℕ)
      → n ≤ m → source program limits input n ≡ Done end cost
      → source program limits input m ≡ Done end cost
  pub fault : (program : Source) (limits : Limits) (input : List FieldWord) (n m code cost : ℕ)
      → n ≤ m → source program limits input n ≡ Fault code cost
      → source program limits input m ≡ Fault code cost

-- the cost is fuel enough: a block that ends ends the same with any fuel from its cost on
pub record CostIsEnough : Type 0 where
  pub done : (setting : Setting) (n m : ℕ) (body : Statements) (start end : State) (cost : ℕ)
      → cost ≤ m → exec setting n body start ≡ Done end cost
      → exec setting m body start ≡ Done end cost
  pub fault : (setting : Setting) (n m : ℕ) (body : Statements) (start : State) (code cost : ℕ)
      → cost ≤ m → exec setting n body start ≡ Fault code cost
      → exec setting m body start ≡ Fault code cost

-- the lists of free blocks after some requests
abbrev pub book_of : Option Placing → Option Book
book_of None = None
book_of (Some placing) = Some placing.book

-- the block of a name after some requests
abbrev pub block_in : Option Placing → ℕ → Option ℕ
block_in None name = None
block_in (Some placing) name = Some (block_of placing.blocks name)

-- whether a value is this name
abbrev pub one_if_name : ℕ → Value → ℕ
one_if_name name (Name n) = if nat_eq n name then 1 else 0
one_if_name name _ = 0

abbrev pub holders_among : ℕ → List Value → ℕ
holders_among name [] = 0
holders_among name (v ∷ cells) = one_if_name name v + holders_among name cells

-- the number of cells of a store that hold a name
abbrev pub holders : ℕ → Store → ℕ
holders name [] = 0
holders name ((n, object) ∷ store) = holders_among name object.cells + holders name store

-- if no call but `main` is open and its frame is empty: a count is the number of cells that hold
-- the name
pub record CountsReferences (store : Store) : Type 0 where
  pub main : (object : Object) → object_named store main_name ≡ Some object → object.count ≡ 1
  pub held : holders main_name store ≡ 0
  pub others : (name : ℕ) (object : Object) → object_named store name ≡ Some object
      → name ≢ main_name
      → object.count ≡ holders name store

-- counts are references, at the end of every accepted program
abbrev pub CountsAreReferences : Type 0
CountsAreReferences =
    (program : Source) (limits : Limits) (input : List FieldWord) (fuel : ℕ) (end : State)
    (cost : ℕ)
    → IsAccepted program → IsLimits limits → IsValid program input
    → source program limits input fuel ≡ Done end cost → CountsReferences end.store

-- no object id occurs twice in a store
abbrev pub HasNamesOnce : Store → Type 0
HasNamesOnce [] = Unit {0}
HasNamesOnce ((name, object) ∷ store) = (object_named store name ≡ None) × HasNamesOnce store

-- stores that agree have the same report
abbrev pub SameReports : Type 0
SameReports =
    (program : Source) (first second : Store)
    → HasNamesOnce first → HasNamesOnce second → Agree first second
    → report program first ≡ report program second

-- the memory of the starting store is the loaded memory
abbrev pub StartsLoaded : Type 0
StartsLoaded =
    (program : Source) (image : Segments) (limits : Limits) (input : List FieldWord)
    → HasStatics program image → IsLimits limits → IsValid program input
    → layout program limits image.statics (starting program input).store []
    ≡ loaded image.statics limits input
