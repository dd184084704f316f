-- The laws in the form of their statements.
use Rattle.object_codegen.proofs.refine_frame_laws.Tells.{cells_small}
use Rattle.object_codegen.specs.refine_form.Stands.{setup}
use Rattle.refine_objects.specs.OpenLaws.{NewsAreOpen, DeletesAreOpen}
use Rattle.refine_objects.proofs.MadeFrames as made
use Rattle.refine_objects.proofs.FreedFrames as gone

pub news_are_open : NewsAreOpen
news_are_open setting statics few s u st cells h cell k has empty head values fit_head fit none zeros elements not_full
    mark_small =
    let low = cells_small (setup setting statics) h.keeps.grounded.limits few in
    record {
      at = made.place_at setting statics s u st cells h cell k has empty head values fit_head fit none zeros elements
          not_full mark_small low;
      block = made.x setting statics s u st cells h cell k has empty head values fit_head fit none zeros elements
          not_full mark_small low;
      taken = made.taken setting statics s u st cells h cell k has empty head values fit_head fit none zeros elements
          not_full mark_small low;
      takes = made.takes setting statics s u st cells h cell k has empty head values fit_head fit none zeros elements
          not_full mark_small low;
      after = made.made setting statics s u st cells h cell k has empty head values fit_head fit none zeros elements
          not_full mark_small low;
    }

pub deletes_are_open : DeletesAreOpen
deletes_are_open setting statics few s u st cells h cell k has no_int n reads single zeros =
    let low = cells_small (setup setting statics) h.keeps.grounded.limits few in
    record {
      at = gone.place_at setting statics s u st cells h cell k has no_int n reads single zeros;
      block = gone.x setting statics s u st cells h cell k has no_int n reads single zeros;
      given = gone.given setting statics s u st cells h cell k has no_int n reads single zeros;
      taken = gone.taken setting statics s u st cells h cell k has no_int n reads single zeros;
      was = gone.was setting statics s u st cells h cell k has no_int n reads single zeros;
      takes = gone.takes setting statics s u st cells h cell k has no_int n reads single zeros low;
      after = gone.gone setting statics s u st cells h cell k has no_int n reads single zeros low;
    }
