-- A list of positions that is under way.
use Rattle.std.proofs.Common.{◌≡◌, ◌∙◌, sym, ap, refl, ℕ, suc, ◌+◌, ◌-◌, ◌<◌, ◌≤◌, List, [], ◌++◌, Bool, false}
use Rattle.std.proofs.Common.{true, append-nil, append_assoc}
use Rattle.std.specs.Prelude.{if◌then◌else◌}
use Rattle.live_requests.specs.pisa_scripts.declared.command.Command.{Command}
use Rattle.live_requests.specs.pisa_machine.Position.{Position}
use Rattle.live_requests.specs.two_way_debugger.Shown.{text_of}
use Rattle.image_searches.specs.declared.moves.Outcome.{Outcome}
use Rattle.image_searches.specs.declared.moves.Outcome.TheVariants.{Made, Stopped}
use Rattle.image_searches.specs.declared.moves.Step.TheVariants.{Gone, Stuck}
use Rattle.image_searches.specs.Steps.{led_to, is_stuck, led_by, ImageGoes}
use Rattle.image_searches.specs.Searches.{ImageFound, image_found, image_behind_line, image_points}
use Rattle.image_searches.proofs.Moving.{led_on}
use Rattle.live_requests.proofs.Left.{one_less, none_left, all_left}

abbrev pub found_at : Position → List ℕ → Outcome → ImageFound
found_at position text how = record { position = position; text = text; how = how }

behind_twice : (old line : List ℕ) (f : ImageFound)
    → image_behind_line old (image_behind_line line f) ≡ image_behind_line (old ++ line) f
behind_twice old line f = ap (λ (text : List ℕ). found_at f.position text f.how) (sym (append_assoc old line f.text))

points_by : (way : Command) (m : ℕ) (p : Position) (stuck : Bool) → is_stuck way p ≡ stuck
    → image_points way (suc m) p
    ≡ (if stuck then image_found way p Stopped else image_behind_line (text_of way p)
    (image_points way m (led_to way p)))
points_by way m p stuck is =
    ap (λ (b : Bool). if b then image_found way p Stopped else image_behind_line (text_of way p)
    (image_points way m (led_to way p))) is

-- so many moves were made, and their lines come before those of the others
pub record IsListing (way : Command) (n i : ℕ) (start now : Position) (text : List ℕ) : Type 0 where
  pub whole : image_points way n start ≡ image_behind_line text (image_points way (n - i) now)
  pub moved : now ≡ led_by way i start

pub listing_begins : (way : Command) (n : ℕ) (start : Position) (text : List ℕ) → text ≡ []
    → IsListing way n 0 start start text
listing_begins way n start text empty = record {
  whole = ap (λ (m : ℕ). image_points way m start) (all_left n)
      ∙ sym (ap (λ (t : List ℕ). image_behind_line t (image_points way (n - 0) start)) empty);
  moved = refl;
}

-- what is left begins with one more move
whole_next : (way : Command) (n i : ℕ) (start now : Position) (text : List ℕ) → i < n
    → IsListing way n i start now text
    → image_points way n start ≡ image_behind_line text (image_points way (suc (n - (i + 1))) now)
whole_next way n i start now text less h =
    h.whole ∙ ap (λ (m : ℕ). image_behind_line text (image_points way m now)) (one_less n i less)

pub listing_goes : (way : Command) (n i : ℕ) (start before after : Position) (old new : List ℕ) → i < n
    → IsListing way n i start before old → ImageGoes way before old new Gone → after ≡ led_to way before
    → IsListing way n (i + 1) start after new
listing_goes way n i start before after old new less h goes leads =
    let rest : ImageFound = image_points way (n - (i + 1)) (led_to way before) in
    record {
      whole = whole_next way n i start before old less h
          ∙ ap (image_behind_line old) (points_by way (n - (i + 1)) before false goes.0)
          ∙ behind_twice old (text_of way before) rest
          ∙ ap (λ (t : List ℕ). image_behind_line t rest) (sym goes.1)
          ∙ ap (λ (p : Position). image_behind_line new (image_points way (n - (i + 1)) p)) (sym leads);
      moved = led_on way i start before after h.moved leads;
    }

pub listing_stops : (way : Command) (n i : ℕ) (start before after : Position) (old new : List ℕ) → i < n
    → IsListing way n i start before old → ImageGoes way before old new Stuck → after ≡ led_to way before
    → image_points way n start ≡ found_at after new Stopped
listing_stops way n i start before after old new less h goes leads =
    whole_next way n i start before old less h
    ∙ ap (image_behind_line old) (points_by way (n - (i + 1)) before true goes.0)
    ∙ ap (λ (t : List ℕ). found_at (led_to way before) t Stopped) (sym goes.1)
    ∙ ap (λ (p : Position). found_at p new Stopped) (sym leads)

pub listing_over : (way : Command) (n i : ℕ) (start now : Position) (text : List ℕ) → n ≤ i
    → IsListing way n i start now text → image_points way n start ≡ found_at now text Made
listing_over way n i start now text all h =
    h.whole
    ∙ ap (λ (m : ℕ). image_behind_line text (image_points way m now)) (none_left n i all)
    ∙ ap (λ (t : List ℕ). found_at now t Made) (append-nil text)
