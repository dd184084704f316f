-- A list of positions that is under way.
use Rattle.std.proofs.Common.{◌≡◌, ◌∙◌, sym, ap, refl, ℕ, suc, ◌+◌, ◌-◌, ◌<◌, ◌≤◌, List, [], ◌++◌, true}
use Rattle.std.proofs.Common.{false, Some, None, append-nil, append_assoc}
use Rattle.std.specs.Prelude.{Option, nat_eq}
use Rattle.source_debugger.specs.meaning_points.rpp_tree.Views.{source_of}
use Rattle.source_debugger.specs.meaning_points.rpp_tree.Tree.{Source}
use Rattle.source_debugger.specs.meaning_points.Trail.{Trail}
use Rattle.live_requests.specs.pisa_scripts.declared.command.Command.{Command}
use Rattle.source_debugger.specs.Shown.{told_by}
use Rattle.source_debugger.specs.Standing.{Standing, trail_of}
use Rattle.live_searches.specs.declared.moves.Outcome.{Outcome}
use Rattle.live_searches.specs.declared.moves.Outcome.TheVariants.{Made, Stopped}
use Rattle.live_searches.specs.declared.moves.Step.TheVariants.{Gone, Stuck}
use Rattle.live_searches.specs.Steps.{IsSameRun, Goes}
use Rattle.live_searches.specs.Searches.{Found, behind_line, points}
use Rattle.live_searches.proofs.Single.{same_run, told_at_start}
use Rattle.live_requests.proofs.Left.{one_less, none_left, all_left}

abbrev pub found_at : ℕ → List ℕ → Outcome → Option Found
found_at position text how = Some (record { position = position; text = text; how = how })

behind_twice : (old line : List ℕ) (o : Option Found)
    → behind_line old (behind_line line o) ≡ behind_line (old ++ line) o
behind_twice old line None = refl
behind_twice old line (Some f) =
    ap (λ (text : List ℕ). found_at f.position text f.how) (sym (append_assoc old line f.text))

behind_nothing : (o : Option Found) → behind_line [] o ≡ o
behind_nothing None = refl
behind_nothing (Some f) = refl

points_gone : (program : Source) (trail : Trail) (way : Command) (m j k : ℕ) (line : List ℕ)
    → told_by program trail way j ≡ Some (record { position = k; text = line }) → nat_eq k j ≡ false
    → points program trail way (suc m) j ≡ behind_line line (points program trail way m k)
points_gone program trail way m j k line told moved = rw (told, moved) refl

points_stuck : (program : Source) (trail : Trail) (way : Command) (m j k : ℕ) (line : List ℕ)
    → told_by program trail way j ≡ Some (record { position = k; text = line }) → nat_eq k j ≡ true
    → points program trail way (suc m) j ≡ found_at k line Stopped
points_stuck program trail way m j k line told stuck = rw (told, stuck) refl

-- so many moves were made, and their lines come before those of the others
pub record IsListing (start : Standing) (way : Command) (n i : ℕ) (now : Standing) (text : List ℕ) : Type 0 where
  pub whole : points (source_of start.program) (trail_of start) way n start.position
      ≡ behind_line text (points (source_of start.program) (trail_of start) way (n - i) now.position)
  pub same : IsSameRun start now

pub listing_begins : (start : Standing) (way : Command) (n : ℕ) (text : List ℕ) → text ≡ []
    → IsListing start way n 0 start text
listing_begins start way n text empty = record {
  whole = sym (ap (λ (t : List ℕ). behind_line t (points (source_of start.program) (trail_of start) way (n - 0)
      start.position)) empty
      ∙ behind_nothing (points (source_of start.program) (trail_of start) way (n - 0) start.position)
      ∙ ap (λ (m : ℕ). points (source_of start.program) (trail_of start) way m start.position) (sym (all_left n)));
  same = refl;
}

-- what is left begins with one more move
whole_next : (start now : Standing) (way : Command) (n i : ℕ) (text : List ℕ) → i < n
    → IsListing start way n i now text
    → points (source_of start.program) (trail_of start) way n start.position
    ≡ behind_line text (points (source_of start.program) (trail_of start) way (suc (n - (i + 1))) now.position)
whole_next start now way n i text less h =
    h.whole ∙ ap (λ (m : ℕ). behind_line text (points (source_of start.program) (trail_of start) way m now.position))
    (one_less n i less)

pub listing_goes : (start before after : Standing) (way : Command) (n i : ℕ) (old new : List ℕ) → i < n
    → IsListing start way n i before old → Goes before way after old new Gone
    → IsListing start way n (i + 1) after new
listing_goes start before after way n i old new less h goes =
    let line : List ℕ = goes.0.line in
    let told = told_at_start start before way (record { position = after.position; text = line }) h.same
    goes.0.told in
    let rest : Option Found = points (source_of start.program) (trail_of start) way (n - (i + 1)) after.position in
    record {
      whole = whole_next start before way n i old less h
          ∙ ap (behind_line old) (points_gone (source_of start.program) (trail_of start) way (n - (i + 1))
          before.position after.position line told goes.1)
          ∙ behind_twice old line rest
          ∙ ap (λ (t : List ℕ). behind_line t rest) (sym goes.0.added);
      same = same_run start before after h.same goes.0.same;
    }

pub listing_stops : (start before after : Standing) (way : Command) (n i : ℕ) (old new : List ℕ) → i < n
    → IsListing start way n i before old → Goes before way after old new Stuck
    → points (source_of start.program) (trail_of start) way n start.position ≡ found_at after.position new Stopped
listing_stops start before after way n i old new less h goes =
    let line : List ℕ = goes.0.line in
    let told = told_at_start start before way (record { position = after.position; text = line }) h.same
    goes.0.told in
    whole_next start before way n i old less h
    ∙ ap (behind_line old) (points_stuck (source_of start.program) (trail_of start) way (n - (i + 1)) before.position
    after.position line told goes.1)
    ∙ ap (λ (t : List ℕ). found_at after.position t Stopped) (sym goes.0.added)

pub listing_over : (start now : Standing) (way : Command) (n i : ℕ) (text : List ℕ) → n ≤ i
    → IsListing start way n i now text
    → points (source_of start.program) (trail_of start) way n start.position ≡ found_at now.position text Made
listing_over start now way n i text all h =
    h.whole
    ∙ ap (λ (m : ℕ). behind_line text (points (source_of start.program) (trail_of start) way m now.position))
    (none_left n i all)
    ∙ ap (λ (t : List ℕ). found_at now.position t Made) (append-nil text)
