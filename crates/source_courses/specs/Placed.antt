-- The position of a run, as it is kept for printing.
use Rattle.source_execution.specs.source_store.HeapView.{Kept}
use Rattle.source_courses.specs.Watched.{point_of}
use Rattle.source_courses.specs.declared.places.Place.{Place}
use Rattle.source_courses.specs.declared.places.Place.TheVariants as place
use Rattle.source_courses.specs.Ended.{last_state}
use Rattle.source_courses.specs.Walks.{Stand, AtPoint, AtEnd}

abbrev pub stand_of : Place → Kept → Stand
stand_of (place.Point arrival) heap = AtPoint (point_of arrival heap)
stand_of place.End heap = AtEnd (last_state heap)
