use Rattle.std.proofs.Common.{◌≡◌, ◌+◌, drop, length}
use Rattle.std.specs.Prelude.{sum}
use Rattle.rpp_probes.specs.Marks.{AreMarks}
use Rattle.rpp_probes.specs.Rules.{marked_all}
use Rattle.rpp_probes.specs.declared.coverage.TheConstants.{MOST_PLACES}
use Rattle.rpp_probes.proofs.coverage.mark_each.Given as goal

-- what is left to mark gives all marks, and those so far are counted
abbrev pub invariant-loop-step : goal.invariant-loop-step
invariant-loop-step l = record {
  whole : length l.marks.items ≡ MOST_PLACES;
  are : AreMarks l.marks.items;
  marked : marked_all (drop l.step-index l.steps) l.marks.items ≡ marked_all l.steps l.initial.marks.items;
  counted : sum l.marks.items ≡ sum l.initial.marks.items + l.more;
}
