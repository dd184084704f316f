-- What moves look for, as a property of positions.
use Rattle.std.specs.Prelude.{ℕ, ◌-◌, ◌^◌, Bool, true, false, not, nat_eq, nat_lt, nat_le}
use Rattle.std.specs.Prelude.{if◌then◌else◌, List, [], ◌∷◌, ◌++◌, codes, Option, Some, None}
use Rattle.std.specs.List.{starts_with}
use Rattle.std.specs.Str.{bytes_eq}
use Rattle.source_debugger.specs.rpp_words.Texts.{line_end}
use Rattle.live_requests.specs.pisa_scripts.Lines.{pieces, number_up_to, short_number}
use Rattle.source_debugger.specs.meaning_points.rpp_tree.Tree.{Source}
use Rattle.source_debugger.specs.meaning_points.Trail.{Trail}
use Rattle.source_debugger.specs.declared.looking.Seen.{Seen}
use Rattle.source_debugger.specs.declared.looking.Seen.TheVariants.{At, End}
use Rattle.source_debugger.specs.Looks.{seen_of}
use Rattle.source_debugger.specs.Walks.{Stand, stand_at}
use Rattle.source_debugger.specs.Shown.{regs_at, cells_shown_at}
use Rattle.live_requests.specs.declared.asks.Goal.{Goal}
use Rattle.live_requests.specs.declared.asks.Goal.TheVariants.{Points, Any, Depth, Change}
use Rattle.live_requests.specs.declared.asks.Goal.TheVariants.{Cell}
use Rattle.live_requests.specs.Asks.{first_argument}

-- ---- offsets

abbrev pub is_place : Option ℕ → (place : ℕ) → Bool
is_place None place = false
is_place (Some number) place = nat_eq number place

-- whether one of these words writes the offset
abbrev pub is_any : List (List ℕ) → (place : ℕ) → Bool
is_any [] place = false
is_any (word ∷ words) place = if is_place (short_number word) place then true
    else is_any words place

-- whether the position has one of these offsets
abbrev pub has_any : List (List ℕ) → Seen → Bool
has_any words (At place depth) = is_any words place
has_any words End = false

-- ---- active calls

-- the number of active calls; at the end it is that of the main method
abbrev pub depth_of : Seen → ℕ
depth_of (At place depth) = depth
depth_of End = 1

-- ---- what is watched

abbrev pub kept_line : Bool → List ℕ → List ℕ
kept_line true line = line ++ line_end
kept_line false line = []

-- the lines that begin so
abbrev pub lines_from : (start : List ℕ) → List (List ℕ) → List ℕ
lines_from start [] = []
lines_from start (line ∷ lines) =
    kept_line (starts_with nat_eq line start) line ++ lines_from start lines

-- the same of a text
abbrev pub prefixed_lines : (start : List ℕ) → (text : List ℕ) → List ℕ
prefixed_lines start text = lines_from start (pieces 10 text)

-- an object, or none for the variables of the method that runs, and how the lines of the field,
-- element or variable begin
pub record SearchWatch : Type 0 where
  pub object : Option ℕ
  pub start : List ℕ

-- K of `#K`
abbrev pub object_number : List ℕ → Option ℕ
object_number [] = None
object_number (b ∷ digits) = if nat_eq b 35 then number_up_to (2 ^ 32 - 1) digits else None

abbrev pub object_watch : (start : List ℕ) → Option ℕ → Option SearchWatch
object_watch start None = None
object_watch start (Some object) = Some (record { object = Some object; start = start })

-- `#K` and the label of a field or element, which a byte parts; its lines begin with `before`
abbrev pub cell_watch : (before : List ℕ) → List (List ℕ) → Option SearchWatch
cell_watch before (object ∷ label ∷ []) =
    object_watch (before ++ (label ++ codes " = ")) (object_number object)
cell_watch before _ = None

abbrev pub or_watch : Option SearchWatch → SearchWatch → SearchWatch
or_watch None other = other
or_watch (Some watch) other = watch

abbrev pub variable_watch : List ℕ → SearchWatch
variable_watch name = record { object = None; start = name ++ codes " = " }

-- `#K.FIELD`, `#K[I]`, or else a variable or field NAME of the method that runs
unfoldable pub watch_of : List ℕ → SearchWatch
watch_of name = or_watch (cell_watch (codes "  ") (pieces 46 name))
    (or_watch (cell_watch (codes "  [") (pieces 91 name)) (variable_watch name))

-- what `cells K 1` prints, or `regs`
abbrev pub shown_for : Source → (object : Option ℕ) → Stand → Option (List ℕ)
shown_for program None stand = regs_at program stand
shown_for program (Some object) stand = cells_shown_at program object 1 stand

-- an object is watched in all calls
abbrev pub depth_for : (object : Option ℕ) → Seen → ℕ
depth_for None seen = depth_of seen
depth_for (Some object) seen = 0

-- the number of active calls at a position, and the lines of what is watched
pub record Sight : Type 0 where
  pub depth : ℕ
  pub lines : List ℕ

abbrev pub sight : SearchWatch → Option Seen → (shown : Option (List ℕ)) → Option Sight
sight watch None shown = None
sight watch (Some seen) None = None
sight watch (Some seen) (Some text) = Some (record {
  depth = depth_for watch.object seen;
  lines = prefixed_lines watch.start text;
})

unfoldable pub sight_at : Source → Trail → SearchWatch → ℕ → Option Sight
sight_at program trail watch j = sight watch (seen_of (stand_at trail j))
    (shown_for program watch.object (stand_at trail j))

-- what is watched, and how it was at the beginning
pub record SearchMark : Type 0 where
  pub watch : SearchWatch
  pub sight : Sight

abbrev pub mark : SearchWatch → Option Sight → Option SearchMark
mark watch None = None
mark watch (Some sight) = Some (record { watch = watch; sight = sight })

-- the first of the arguments is watched from a position on
abbrev pub search_mark_at : Source → Trail → (arguments : List (List ℕ)) → ℕ → Option SearchMark
search_mark_at program trail arguments j = mark (watch_of (first_argument arguments))
    (sight_at program trail (watch_of (first_argument arguments)) j)

-- fewer calls are active, or as many and the lines are not the same
abbrev pub is_change : (from here : Sight) → Bool
is_change from here = if nat_lt here.depth from.depth then true
    else if nat_lt from.depth here.depth then false else not (bytes_eq here.lines from.lines)

abbrev pub is_changed : (from : Sight) → (here : Option Sight) → Bool
is_changed from None = false
is_changed from (Some here) = is_change from here

-- whether what is watched has changed at a position
abbrev pub is_changed_at : Source → Trail → Option SearchMark → ℕ → Bool
is_changed_at program trail None j = false
is_changed_at program trail (Some from) j =
    is_changed from.sight (sight_at program trail from.watch j)

-- ---- goals

abbrev pub any_met : (arguments : List (List ℕ)) → Option Seen → Bool
any_met arguments None = false
any_met arguments (Some seen) = has_any arguments seen

abbrev pub depth_met : (most : ℕ) → Option Seen → Bool
depth_met most None = false
depth_met most (Some seen) = nat_le (depth_of seen) most

-- whether moves look for a position that began with this mark; a run of a source has no cells
unfoldable pub wanted : Source → Trail → Goal → (arguments : List (List ℕ)) → (from : Option SearchMark)
    → ℕ → Bool
wanted program trail Points arguments from j = false
wanted program trail Any arguments from j = any_met arguments (seen_of (stand_at trail j))
wanted program trail (Depth most) arguments from j = depth_met most (seen_of (stand_at trail j))
wanted program trail Change arguments from j = is_changed_at program trail from j
wanted program trail (Cell address) arguments from j = false
