-- What is at a position: the offset of a statement and the number of active calls, or the end.
use Rattle.std.specs.Prelude.{Option, Some, None}
use Rattle.source_debugger.specs.declared.looking.Seen.{Seen}
use Rattle.source_debugger.specs.declared.looking.Seen.TheVariants as seen
use Rattle.source_courses.specs.Walks.{Stand, AtPoint, AtEnd, Unknown}

abbrev pub seen_of : Stand → Option Seen
seen_of (AtPoint point) = Some (seen.At point.place point.state.depth)
seen_of (AtEnd end) = Some seen.End
seen_of Unknown = None
