-- The end trace point is the end of the source.
use Rattle.std.proofs.Common.{◌≡◌, ℕ, max, ap, ◌∙◌, arith, Bool, true, false, List, length, Option, Some, None}
use Rattle.std.proofs.Common.{if◌then◌else◌}
use Rattle.std.specs.Prelude.{slice_get, nat_eq}
use Rattle.std.proofs.lemmas.Bool.{le-leb}
use Rattle.source_courses.specs.rpp_words.declared.input.FieldWord.{FieldWord}
use Rattle.source_courses.specs.rpp_words.declared.input.Limits.{Limits}
use Rattle.source_courses.specs.rpp_tree.Tree.{Source}
use Rattle.source_courses.specs.roopl_semantics.Run.{Run, Done, Fault, More}
use Rattle.source_courses.specs.roopl_semantics.Store.{State}
use Rattle.source_courses.specs.roopl_semantics.Execution.{Setting}
use Rattle.source_courses.specs.roopl_semantics.Source.{GivesDone, main_body, starting, within}
use Rattle.source_lines.specs.meaning_points.Points.{Point}
use Rattle.source_lines.specs.meaning_points.Trail.{trail}
use Rattle.source_courses.proofs.meaning_points_laws.Growing.{points_done}
use Rattle.source_courses.specs.Walks.{AtEnd, Unknown, end_stand, point_stand, stand_at}

end_in : (s t : State) → AtEnd s ≡ AtEnd t → s ≡ t
end_in s t e = cc

is_done : (run : Run State) (b : Bool) (end : State) → (if b then end_stand run else Unknown) ≡ AtEnd end
    → (cost : ℕ) × (run ≡ Done end cost)
is_done run false end e = cc
is_done (Done s cost) true end e = (cost, ap (λ s. Done s cost) (end_in s end e))
is_done (Fault code cost) true end e = cc
is_done More true end e = cc

stands_done : (o : Option Point) (run : Run State) (b : Bool) (end : State)
    → point_stand o (if b then end_stand run else Unknown) ≡ AtEnd end → (cost : ℕ) × (run ≡ Done end cost)
stands_done (Some point) run b end e = cc
stands_done None run b end e = is_done run b end e

pub end_is_the_sources : (program : Source) (limits : Limits) (input : List FieldWord) (n j : ℕ) (end : State)
    → stand_at (trail program limits input n) j ≡ AtEnd end → GivesDone program limits input end
end_is_the_sources program limits input n j end e = by
    (stands_done (slice_get (trail program limits input n).points j) (trail program limits input n).end
    (nat_eq j (length (trail program limits input n).points)) end e)
  where
    here : Setting
    here = record { program = program; limits = limits }

    by : ((cost : ℕ) × ((trail program limits input n).end ≡ Done end cost)) → GivesDone program limits input end
    by (cost, done) =
        let on = points_done here n (max n cost) 0 (main_body program) (starting program input) end cost (omega arith)
        done in
        record {
          fuel = max n cost;
          cost = cost;
          done = ap (within (max n cost)) on.1 ∙ ap (λ b. if b then Done end cost else More)
              (le-leb cost (max n cost) (omega arith));
        }
