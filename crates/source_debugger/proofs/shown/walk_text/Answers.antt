use Rattle.std.proofs.Common.{◌≡◌, subst, Some}
use Rattle.std.specs.Prelude.{string_bytes}
use Rattle.source_courses.specs.Walks.{Stand}
use Rattle.source_debugger.specs.Shown.{line_at}
use Rattle.source_courses.specs.Courses.{heap_of}
use Rattle.source_debugger.proofs.shown.walk_text.Goals as goal

pub returns-clause-told : goal.returns-clause-told
returns-clause-told c =
    subst (λ (s : Stand). line_at c.args.walk.position s c.args.walk.ending
    ≡ Some (string_bytes c.in_ok-line_text.field-0))
    c.in_ok-place.ensures.stands (c.in_ok-line_text.ensures (heap_of c.place_at.new.course))
