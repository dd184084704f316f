-- A search that is under way.
use Rattle.std.proofs.Common.{◌≡◌, ◌∙◌, sym, ap, subst, refl, ℕ, suc, ◌+◌, ◌-◌, ◌<◌, ◌≤◌, List, [], ◌++◌, Bool, true}
use Rattle.std.proofs.Common.{false, Result, Ok, Err}
use Rattle.std.specs.Prelude.{if◌then◌else◌, IfOk, string_bytes}
use Rattle.live_requests.specs.pisa_scripts.declared.command.Command.{Command}
use Rattle.live_requests.specs.pisa_scripts.declared.command.Command.TheVariants as command
use Rattle.live_requests.specs.pisa_machine.Position.{Position}
use Rattle.live_requests.specs.two_way_debugger.Shown.{text_of}
use Rattle.image_searches.specs.declared.moves.Moved.{Moved}
use Rattle.image_searches.specs.declared.moves.Outcome.TheVariants.{Met, Made, Stopped}
use Rattle.image_searches.specs.declared.moves.Step.TheVariants.{Gone, Stuck}
use Rattle.image_searches.specs.declared.moves.Outcome.{Outcome}
use Rattle.image_searches.specs.declared.searches.Turn.{Turn}
use Rattle.image_searches.specs.declared.searches.Turn.TheVariants.{On, Over}
use Rattle.image_searches.specs.Steps.{led_to, is_stuck, led_by, ImageGoes}
use Rattle.image_searches.specs.Searches.{ImageFound, image_found, image_and_seek, image_seek}
use Rattle.image_searches.specs.Turns.{turn_by, IsImageTurn}
use Rattle.image_searches.proofs.Moving.{led_on}
use Rattle.image_searches.proofs.Listing.{found_at}
use Rattle.live_requests.proofs.Left.{one_less, none_left, all_left}

-- ---- one move

seek_by : (way : Command) (wanted : Position → Bool) (p : Position) (next : Position → ImageFound) (stuck met : Bool)
    → is_stuck way p ≡ stuck → wanted (led_to way p) ≡ met
    → image_and_seek way wanted p next
    ≡ (if stuck then image_found way p Stopped else if met then image_found way p Met else next (led_to way p))
seek_by way wanted p next stuck met stuck_is met_is =
    ap (λ (b : Bool). if b then image_found way p Stopped
    else if wanted (led_to way p) then image_found way p Met else next (led_to way p)) stuck_is
    ∙ ap (λ (b : Bool). if stuck then image_found way p Stopped
    else if b then image_found way p Met else next (led_to way p)) met_is

judged : (way : Command) (wanted : Position → Bool) (from : Position) (line : List ℕ) (met : Bool)
    → is_stuck way from ≡ false → line ≡ text_of way from → wanted (led_to way from) ≡ met
    → IsImageTurn way wanted from line (turn_by met)
judged way wanted from line true moves line_is met_is = λ next.
    seek_by way wanted from next false true moves met_is
    ∙ ap (λ (t : List ℕ). found_at (led_to way from) t Met) (sym line_is)
judged way wanted from line false moves line_is met_is = λ next.
    seek_by way wanted from next false false moves met_is

pub turn_goes : (way : Command) (wanted : Position → Bool) (from to : Position) (old new : List ℕ) (met : Bool)
    (turn : Turn) → old ≡ [] → ImageGoes way from old new Gone → to ≡ led_to way from → met ≡ wanted to
    → turn ≡ turn_by met → IsImageTurn way wanted from new turn
turn_goes way wanted from to old new met turn empty goes leads met_is turn_is =
    subst (λ (t : Turn). IsImageTurn way wanted from new t) (sym turn_is)
    (judged way wanted from new met goes.0 (goes.1 ∙ ap (λ (o : List ℕ). o ++ text_of way from) empty)
    (sym (met_is ∙ ap wanted leads)))

pub turn_stops : (way : Command) (wanted : Position → Bool) (from : Position) (old new : List ℕ) → old ≡ []
    → ImageGoes way from old new Stuck → IsImageTurn way wanted from new (Over Stopped)
turn_stops way wanted from old new empty goes = λ next.
    seek_by way wanted from next true (wanted (led_to way from)) goes.0 refl
    ∙ ap (λ (t : List ℕ). found_at (led_to way from) t Stopped)
    (sym (goes.1 ∙ ap (λ (o : List ℕ). o ++ text_of way from) empty))

-- ---- many moves

-- so many moves were made, and those that are left decide
pub record IsSeeking (way : Command) (wanted : Position → Bool) (n i : ℕ) (start now : Position) : Type 0 where
  pub whole : image_seek way wanted n start ≡ image_seek way wanted (n - i) now
  pub moved : now ≡ led_by way i start

pub seeking_begins : (way : Command) (wanted : Position → Bool) (n : ℕ) (start : Position)
    → IsSeeking way wanted n 0 start start
seeking_begins way wanted n start =
    record { whole = ap (λ (m : ℕ). image_seek way wanted m start) (all_left n); moved = refl }

-- what is left begins with one more move
whole_next : (way : Command) (wanted : Position → Bool) (n i : ℕ) (start now : Position) → i < n
    → IsSeeking way wanted n i start now → image_seek way wanted n start ≡ image_seek way wanted (suc (n - (i + 1))) now
whole_next way wanted n i start now less h =
    h.whole ∙ ap (λ (m : ℕ). image_seek way wanted m now) (one_less n i less)

pub seeking_goes : (way : Command) (wanted : Position → Bool) (n i : ℕ) (start before after : Position)
    (line : List ℕ) → i < n → IsSeeking way wanted n i start before → IsImageTurn way wanted before line On
    → after ≡ led_to way before → IsSeeking way wanted n (i + 1) start after
seeking_goes way wanted n i start before after line less h turn leads =
    let next : Position → ImageFound = image_seek way wanted (n - (i + 1)) in
    record {
      whole = whole_next way wanted n i start before less h ∙ turn next ∙ ap next (sym leads);
      moved = led_on way i start before after h.moved leads;
    }

pub seeking_ends : (way : Command) (wanted : Position → Bool) (n i : ℕ) (start before after : Position)
    (line : List ℕ) (how : Outcome) → i < n → IsSeeking way wanted n i start before
    → IsImageTurn way wanted before line (Over how) → after ≡ led_to way before
    → image_seek way wanted n start ≡ found_at after line how
seeking_ends way wanted n i start before after line how less h turn leads =
    whole_next way wanted n i start before less h
    ∙ turn (image_seek way wanted (n - (i + 1)))
    ∙ ap (λ (p : Position). found_at p line how) (sym leads)

-- all moves are made
pub seeking_over : (way : Command) (wanted : Position → Bool) (n i : ℕ) (start before after : Position) {E : Type 0}
    (result : Result Moved E) → n ≤ i → IsSeeking way wanted n i start before
    → IfOk result (λ (it : Moved). image_found (command.Step 0) before Made
    ≡ found_at after (string_bytes it.text) it.how)
    → IfOk result (λ (it : Moved). image_seek way wanted n start ≡ found_at after (string_bytes it.text) it.how)
seeking_over way wanted n i start before after (Ok it) all h stop =
    h.whole ∙ ap (λ (m : ℕ). image_seek way wanted m before) (none_left n i all) ∙ stop
seeking_over way wanted n i start before after (Err e) all h stop = tt
