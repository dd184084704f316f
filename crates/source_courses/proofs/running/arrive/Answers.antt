use Rattle.std.proofs.Common.{◌≡◌, ◌∙◌, refl, sym, ap, arith, true, false}
use Rattle.std.proofs.lemmas.Bool.{false≢true}
use Rattle.source_execution.specs.Standing.{config_at}
use Rattle.source_courses.specs.Watched.{wanted}
use Rattle.source_courses.specs.Courses.{heap_of}
use Rattle.source_courses.specs.declared.running.Arrival.{Arrival}
use Rattle.source_courses.proofs.Endings.{stands}
use Rattle.source_courses.proofs.running.arrive.Goals as goal

pub unreachable-requires : goal.unreachable-requires
unreachable-requires c =
    let none : true ≡ false = sym c.requires ∙ ap (wanted c.args.watching) (sym c.place.ensures ∙ c.in-None.is) in
    false≢true (sym none)

pub returns : goal.returns
returns c =
    let arrival : Arrival = record {
      place = c.in-Some.place;
      params = c.params.result;
      object = c.object.result;
      depth = c.depth.result;
      variables = c.in_ok-variables-in-Some.field-0;
    } in
    record {
      arrival = arrival;
      is = refl;
      begins = sym c.place.ensures ∙ c.in-Some.is;
      point = stands (config_at c.args.course.now.execution) arrival (heap_of c.args.course.now) c.params.ensures
          c.in_ok-variables-in-Some.ensures c.object.ensures c.depth.ensures refl refl;
      some = omega arith;
    }
