-- The value of a name, as it is printed.
use Rattle.std.specs.Prelude.{ℕ, nat_eq, if◌then◌else◌, List, [], ◌∷◌, ◌++◌, codes, length, drop}
use Rattle.std.specs.Prelude.{Option, Some, None, option_map}
use Rattle.std.specs.List.{starts_with}
use Rattle.source_debugger.specs.rpp_words.Texts.{line_end}
use Rattle.live_requests.specs.pisa_scripts.Lines.{pieces}
use Rattle.source_debugger.specs.meaning_points.rpp_tree.Tree.{Source}
use Rattle.source_debugger.specs.meaning_points.Trail.{Trail}
use Rattle.source_debugger.specs.Walks.{stand_at}
use Rattle.live_searches.specs.Goals.{watch_of, shown_for}

-- the rest of a line that begins so, or else another value
abbrev pub value_in : (start line : List ℕ) → (best : Option (List ℕ)) → Option (List ℕ)
value_in start line best =
    if starts_with nat_eq line start then Some (drop (length start) line) else best

-- the same of the last of some lines that begins so
abbrev pub last_value : (start : List ℕ) → (best : Option (List ℕ)) → List (List ℕ)
    → Option (List ℕ)
last_value start best [] = best
last_value start best (line ∷ lines) = last_value start (value_in start line best) lines

-- the line on a value
abbrev pub value_line : (value : List ℕ) → List ℕ
value_line value = codes "value " ++ (value ++ line_end)

-- the line on the value of the last line of a text that begins so, if one does
abbrev pub value_by : (start text : List ℕ) → Option (List ℕ)
value_by start text = option_map value_line (last_value start None (pieces 10 text))

-- the line on the value of a name at a position, if the position is known and the name is there
unfoldable pub variable_value_at : Source → Trail → (name : List ℕ) → ℕ → Option (Option (List ℕ))
variable_value_at program trail name j = option_map (value_by (watch_of name).start)
    (shown_for program (watch_of name).object (stand_at trail j))
