-- The active calls at a position of a run, and what is printed of them.
use Rattle.std.specs.Prelude.{◌≡◌, ◌⊎◌, ℕ, List, [], ◌∷◌, ◌++◌, length, codes, Option, Some, None}
use Rattle.std.specs.Prelude.{option_map}
use Rattle.std.specs.Fmt.{decimal}
use Rattle.source_courses.specs.rpp_words.Texts.{line_end}
use Rattle.source_courses.specs.rpp_words.declared.input.FieldWord.{FieldWord}
use Rattle.source_courses.specs.rpp_words.declared.input.Limits.{Limits}
use Rattle.source_courses.specs.pisa_scripts.Words.{direction}
use Rattle.source_courses.specs.rpp_tree.Tree.{Source}
use Rattle.source_courses.specs.roopl_semantics.Run.{Done}
use Rattle.source_courses.specs.roopl_semantics.Report.{Text}
use Rattle.source_courses.specs.meaning_machine.Machine.{Config, walk, seen}
use Rattle.source_courses.specs.meaning_machine.SourceLaws.{set_for, start_config}
use Rattle.source_courses.specs.class_rules.Classes.{class_fields}
use Rattle.source_courses.specs.roopl_semantics.Store.{class_of_head, object_at}
use Rattle.source_courses.specs.source_execution.Calls.{Active, active_calls, CallState}
use Rattle.source_courses.specs.source_execution.Calls.{inside_call}
use Rattle.source_courses.specs.source_execution.Standing.{IsOver, next_place}
use Rattle.source_lines.specs.Named.{fields_named}
use Rattle.source_debugger.specs.Named.{frame_named}

-- a statement begins, or the run is over
abbrev pub IsPosition : Config → Type 0
IsPosition x = ((place : ℕ) × (next_place x.rest ≡ Some place)) ⊎ IsOver x

-- the machine of the semantics is there at a position of a run: after some number of steps that
-- passed so many trace points
pub record IsThere (program : Source) (limits : Limits) (input : List FieldWord) (position : ℕ)
    (x : Config) : Type 0 where
  pub steps : ℕ
  pub cost : ℕ
  pub came : walk (set_for program limits) steps (start_config program input) ≡ Done x cost
  pub passed : length (seen (set_for program limits) steps (start_config program input)) ≡ position
  pub stands : IsPosition x

-- ---- what is printed

abbrev pub place_shown : Option ℕ → Text
place_shown None = codes " end"
place_shown (Some place) = codes " place " ++ decimal place

abbrev pub call_line : Active → Text
call_line it =
    codes "depth " ++ (decimal it.depth ++ (place_shown it.place ++ (codes " object #"
    ++ (decimal it.object ++ (codes " dir " ++ (direction it.back ++ line_end))))))

abbrev pub call_lines : List Active → Text
call_lines [] = []
call_lines (it ∷ inner) = call_line it ++ call_lines inner

-- the active calls, the outermost first
abbrev pub stack_lines : Config → Text
stack_lines x = call_lines (active_calls x)

-- those at a position of the run of a program on an input
pub record TellsStack (program : Source) (limits : Limits) (input : List FieldWord) (position : ℕ)
    (text : Text) : Type 0 where
  pub x : Config
  pub there : IsThere program limits input position x
  pub shown : text ≡ stack_lines x

-- ---- the variables of one of them

-- the fields of its object, and its variables
abbrev pub inside_named : Source → Config → CallState → Text
inside_named program x it =
    fields_named [] (class_fields program (class_of_head (object_at x.state.store it.self).head))
    (object_at x.state.store it.self).cells ++ frame_named it.params it.frame

-- those of the call with so many active calls, at a position of the run of a program on an input;
-- none if there is no such call
pub record TellsCall (program : Source) (limits : Limits) (input : List FieldWord) (position : ℕ)
    (depth : ℕ) (text : Option Text) : Type 0 where
  pub x : Config
  pub there : IsThere program limits input position x
  pub shown : text ≡ option_map (inside_named program x) (inside_call depth x)
