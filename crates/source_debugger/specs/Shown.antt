-- What commands print along a run, and where they lead.
use Rattle.std.specs.Prelude.{ℕ, List, [], ◌∷◌, ◌++◌, codes, Option, Some, None}
use Rattle.std.specs.Fmt.{decimal}
use Rattle.source_courses.specs.rpp_words.Texts.{line_end}
use Rattle.source_courses.specs.pisa_scripts.Stops.{fault_line}
use Rattle.source_courses.specs.rpp_tree.Tree.{Source}
use Rattle.source_courses.specs.class_rules.Classes.{class_fields}
use Rattle.source_courses.specs.roopl_semantics.Store.{State, object_at}
use Rattle.source_courses.specs.roopl_semantics.Value.{own_class}
use Rattle.source_courses.specs.roopl_semantics.Report.{Text}
use Rattle.source_lines.specs.meaning_points.Trail.{Trail}
use Rattle.source_courses.specs.pisa_scripts.declared.command.Command.{Command}
use Rattle.source_courses.specs.pisa_scripts.declared.command.Command.TheVariants.{Step, Back, To, BackTo}
use Rattle.source_courses.specs.pisa_scripts.declared.command.Command.TheVariants.{Regs, Cells}
use Rattle.source_courses.specs.declared.moves.Walk.{Walk}
use Rattle.source_courses.specs.declared.moves.Ending.{Ending}
use Rattle.source_courses.specs.declared.moves.Ending.TheVariants.{Made, Start, Faulted}
use Rattle.source_courses.specs.Walks.{Stand, AtPoint, AtEnd, Unknown, stand_at, forward, backward}
use Rattle.source_lines.specs.Named.{fields_named, objects_from}
use Rattle.source_debugger.specs.Named.{frame_named}

-- what the line on moves says of how they ended, with the line's end
abbrev pub source_ending_shown : Ending → Text
source_ending_shown Made = line_end
source_ending_shown Start = codes " start" ++ line_end
source_ending_shown (Faulted code) = codes " " ++ fault_line code

-- the position, where it is, and how moves ended there
abbrev pub line_at : ℕ → Stand → Ending → Option Text
line_at j (AtPoint point) ending =
    Some (codes "at " ++ decimal j ++ codes " place " ++ decimal point.place ++ codes " depth "
    ++ decimal point.state.depth ++ source_ending_shown ending)
line_at j (AtEnd end) ending = Some (codes "at " ++ decimal j ++ codes " end"
    ++ source_ending_shown ending)
line_at j Unknown ending = None

-- the fields of the object on which the trace point's method runs, and the method's variables; at
-- the end the main object's fields
abbrev pub state_named : Source → ℕ → State → Text
state_named program params st =
    fields_named [] (class_fields program (own_class st)) (object_at st.store st.self).cells
    ++ frame_named params st.frame

abbrev pub regs_at : Source → Stand → Option Text
regs_at program (AtPoint point) = Some (state_named program point.params point.state)
regs_at program (AtEnd end) = Some (state_named program 0 end)
regs_at program Unknown = None

-- the objects and arrays of so many names from one on
abbrev pub cells_shown_at : Source → (from count : ℕ) → Stand → Option Text
cells_shown_at program from count (AtPoint point) =
    Some (objects_from program point.state.store from count)
cells_shown_at program from count (AtEnd end) = Some (objects_from program end.store from count)
cells_shown_at program from count Unknown = None

-- where a command leads, and what it prints; none if the run is not known so far
pub record Told : Type 0 where
  pub position : ℕ
  pub text : Text

abbrev pub reply_at : ℕ → Option Text → Option Told
reply_at j None = None
reply_at j (Some text) = Some (record { position = j; text = text })

abbrev pub walked_trail : Trail → Option Walk → Option Told
walked_trail trail None = None
walked_trail trail (Some walk) =
    reply_at walk.position (line_at walk.position (stand_at trail walk.position) walk.ending)

-- a command that is given at a position
abbrev pub told_by : Source → Trail → Command → ℕ → Option Told
told_by program trail (Step n) j = walked_trail trail (forward trail None n j)
told_by program trail (Back n) j = walked_trail trail (Some (backward trail None n j))
told_by program trail (To place n) j = walked_trail trail (forward trail (Some place) n j)
told_by program trail (BackTo place n) j = walked_trail trail (Some (backward trail (Some place) n j))
told_by program trail Regs j = reply_at j (regs_at program (stand_at trail j))
told_by program trail (Cells from count) j = reply_at j
    (cells_shown_at program from count (stand_at trail j))

-- a text before what is printed
abbrev pub behind_text : Text → Option Told → Option Told
behind_text text None = None
behind_text text (Some told) = Some (record { position = told.position; text = text ++ told.text })

-- commands one after the other
abbrev pub and_told : Option Told → (ℕ → Option Told) → Option Told
and_told None next = None
and_told (Some told) next = behind_text told.text (next told.position)

abbrev pub told : Source → Trail → List Command → ℕ → Option Told
told program trail [] j = Some (record { position = j; text = [] })
told program trail (command ∷ commands) j =
    and_told (told_by program trail command j) (told program trail commands)
