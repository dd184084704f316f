use Rattle.std.proofs.Common.{◌≡◌, ◌∙◌, subst, Some}
use Rattle.std.specs.Prelude.{IfOk, string_bytes}
use Rattle.source_courses.specs.rpp_tree.Views.{source_of}
use Rattle.source_courses.specs.Walks.{Stand}
use Rattle.source_debugger.specs.Shown.{regs_at}
use Rattle.source_courses.specs.Courses.{heap_of}
use Rattle.source_courses.proofs.Endings.{stand_as}
use Rattle.source_debugger.proofs.shown.regs_text.Goals as goal

pub returns-clause-told : goal.returns-clause-told
returns-clause-told c =
    subst (λ (s : Stand). IfOk c.place_regs.result (λ text. regs_at (source_of c.args.run.now.checked.now) s
    ≡ Some (string_bytes text)))
    (stand_as c.in_ok-place.place c.heap.result.now (heap_of c.place_at.new.course) c.heap.ensures.store
    c.heap.ensures.log ∙ c.in_ok-place.ensures.stands) c.place_regs.ensures
