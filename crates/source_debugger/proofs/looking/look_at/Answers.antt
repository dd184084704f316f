use Rattle.std.proofs.Common.{◌≡◌, subst, Some}
use Rattle.source_courses.specs.Walks.{Stand}
use Rattle.source_debugger.specs.Looks.{seen_of}
use Rattle.source_courses.specs.Courses.{heap_of}
use Rattle.source_debugger.proofs.looking.look_at.Goals as goal

pub returns-in-Ok-clause-seen : goal.returns-in-Ok-clause-seen
returns-in-Ok-clause-seen c =
    subst (λ (s : Stand). seen_of s ≡ Some c.seen_in.result) c.in-Ok.ensures.stands
    (c.seen_in.ensures (heap_of c.place_at.new.course))
