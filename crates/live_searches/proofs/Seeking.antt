-- A search that is under way.
use Rattle.std.proofs.Common.{◌≡◌, ◌∙◌, sym, ap, subst, refl, ℕ, suc, ◌+◌, ◌-◌, ◌<◌, ◌≤◌, List, [], ◌∷◌, ◌++◌}
use Rattle.std.proofs.Common.{Bool, true, false, Some, Result, Ok, Err}
use Rattle.std.specs.Prelude.{Option, nat_eq, IfOk, string_bytes}
use Rattle.source_debugger.specs.meaning_points.rpp_tree.Views.{source_of}
use Rattle.live_requests.specs.pisa_scripts.declared.command.Command.{Command}
use Rattle.live_requests.specs.pisa_scripts.declared.command.Command.TheVariants as command
use Rattle.source_debugger.specs.Shown.{Told, told_by}
use Rattle.source_debugger.specs.Standing.{Standing, trail_of, CommandsLead}
use Rattle.live_requests.specs.declared.asks.Goal.{Goal}
use Rattle.live_searches.specs.declared.moves.Moved.{Moved}
use Rattle.live_searches.specs.declared.moves.Outcome.{Outcome}
use Rattle.live_searches.specs.declared.moves.Outcome.TheVariants.{Met, Made, Stopped}
use Rattle.live_searches.specs.declared.moves.Step.TheVariants.{Gone, Stuck}
use Rattle.live_searches.specs.declared.searches.Turn.{Turn}
use Rattle.live_searches.specs.declared.searches.Turn.TheVariants.{On, Over, Lost}
use Rattle.live_searches.specs.Steps.{IsSameRun, Goes}
use Rattle.live_searches.specs.Goals.{SearchMark, search_mark_at, wanted}
use Rattle.live_searches.specs.Searches.{Found, and_seek, all_made, seek}
use Rattle.live_searches.specs.Turns.{IsTurnJudged, IsTurn}
use Rattle.live_searches.proofs.Single.{leads_told, same_run}
use Rattle.live_searches.proofs.Listing.{found_at}
use Rattle.live_requests.proofs.Left.{one_less, none_left, all_left}

-- what a search looks for that began with this sight
abbrev pub looks : Goal → List (List ℕ) → SearchMark → Standing → ℕ → Bool
looks goal arguments from d = wanted (source_of d.program) (trail_of d) goal arguments (Some from)

-- what a search from a debugger on comes to
abbrev pub sought : Goal → List (List ℕ) → SearchMark → Command → Standing → (n j : ℕ) → Option Found
sought goal arguments from way d n j =
    seek (source_of d.program) (trail_of d) way (looks goal arguments from d) n j

-- ---- one move

seek_goes : (test : ℕ → Bool) (j k : ℕ) (line : List ℕ) (o : Option Told) (next : ℕ → Option Found)
    → o ≡ Some (record { position = k; text = line }) → nat_eq k j ≡ false → test k ≡ false
    → and_seek test j o next ≡ next k
seek_goes test j k line o next told moved unmet = rw (told, moved, unmet) refl

seek_meets : (test : ℕ → Bool) (j k : ℕ) (line : List ℕ) (o : Option Told) (next : ℕ → Option Found)
    → o ≡ Some (record { position = k; text = line }) → nat_eq k j ≡ false → test k ≡ true
    → and_seek test j o next ≡ found_at k line Met
seek_meets test j k line o next told moved is_met = rw (told, moved, is_met) refl

seek_stops : (test : ℕ → Bool) (j k : ℕ) (line : List ℕ) (o : Option Told) (next : ℕ → Option Found)
    → o ≡ Some (record { position = k; text = line }) → nat_eq k j ≡ true
    → and_seek test j o next ≡ found_at k line Stopped
seek_stops test j k line o next told stuck = rw (told, stuck) refl

judged_on : (before between after : Standing) (way : Command) (test : ℕ → Bool) (line : List ℕ) (t : Turn)
    → told_by (source_of before.program) (trail_of before) way before.position
    ≡ Some (record { position = between.position; text = line })
    → nat_eq between.position before.position ≡ false → after ≡ between → IsTurnJudged line (test between.position) t
    → IsTurn before way test after t
judged_on before between after way test line On told moved same judged = λ next.
    seek_goes test before.position between.position line
    (told_by (source_of before.program) (trail_of before) way before.position) next told moved judged
    ∙ ap next (sym (ap (λ (d : Standing). d.position) same))
judged_on before between after way test line (Over it) told moved same judged = λ next.
    seek_meets test before.position between.position line
    (told_by (source_of before.program) (trail_of before) way before.position) next told moved judged.0
    ∙ ap (λ (k : ℕ). found_at k line Met) (sym (ap (λ (d : Standing). d.position) same))
    ∙ ap (λ (t : List ℕ). found_at after.position t Met) (sym judged.1)
    ∙ ap (λ (h : Outcome). found_at after.position (string_bytes it.text) h) (sym judged.2)
judged_on before between after way test line (Lost lack) told moved same judged = tt

-- the line that a move printed is all that there is
line_is : (old new line : List ℕ) → old ≡ [] → new ≡ old ++ line → line ≡ new
line_is old new line empty added = sym (added ∙ ap (λ (o : List ℕ). o ++ line) empty)

pub turn_goes : (before between after : Standing) (way : Command) (goal : Goal) (arguments : List (List ℕ))
    (from : SearchMark) (old new : List ℕ) (t : Turn) → old ≡ [] → Goes before way between old new Gone
    → after ≡ between → IsTurnJudged new (looks goal arguments from between between.position) t
    → IsTurn before way (looks goal arguments from before) after t
turn_goes before between after way goal arguments from old new t empty goes same judged =
    judged_on before between after way (looks goal arguments from before) new t
    (goes.0.told ∙ ap (λ (l : List ℕ). Some (record { position = between.position; text = l }))
    (line_is old new goes.0.line empty goes.0.added)) goes.1 same
    (subst (λ (d : Standing). IsTurnJudged new (looks goal arguments from d between.position) t) goes.0.same judged)

pub turn_stops : (before after : Standing) (way : Command) (goal : Goal) (arguments : List (List ℕ))
    (from : SearchMark) (old new : List ℕ) (it : Moved) → old ≡ [] → Goes before way after old new Stuck
    → string_bytes it.text ≡ new → it.how ≡ Stopped
    → IsTurn before way (looks goal arguments from before) after (Over it)
turn_stops before after way goal arguments from old new it empty goes text how = λ next.
    seek_stops (looks goal arguments from before) before.position after.position goes.0.line
    (told_by (source_of before.program) (trail_of before) way before.position) next goes.0.told goes.1
    ∙ ap (λ (l : List ℕ). found_at after.position l Stopped)
    (line_is old new goes.0.line empty goes.0.added ∙ sym text)
    ∙ ap (λ (h : Outcome). found_at after.position (string_bytes it.text) h) (sym how)

-- ---- many moves

-- so many moves were made, and those that are left decide
pub record IsSeeking (start : Standing) (way : Command) (goal : Goal) (arguments : List (List ℕ)) (from : SearchMark)
    (n i : ℕ) (now : Standing) : Type 0 where
  pub whole : sought goal arguments from way start n start.position
      ≡ sought goal arguments from way start (n - i) now.position
  pub same : IsSameRun start now

pub seeking_begins : (start : Standing) (way : Command) (goal : Goal) (arguments : List (List ℕ)) (from : SearchMark)
    (n : ℕ) → IsSeeking start way goal arguments from n 0 start
seeking_begins start way goal arguments from n = record {
  whole = ap (λ (m : ℕ). sought goal arguments from way start m start.position) (all_left n);
  same = refl;
}

-- what is left begins with one more move
whole_next : (start now : Standing) (way : Command) (goal : Goal) (arguments : List (List ℕ)) (from : SearchMark)
    (n i : ℕ) → i < n → IsSeeking start way goal arguments from n i now
    → sought goal arguments from way start n start.position
    ≡ sought goal arguments from way start (suc (n - (i + 1))) now.position
whole_next start now way goal arguments from n i less h =
    h.whole ∙ ap (λ (m : ℕ). sought goal arguments from way start m now.position) (one_less n i less)

-- a turn in the run of the start
turn_at_start : (start before after : Standing) (way : Command) (goal : Goal) (arguments : List (List ℕ))
    (from : SearchMark) (next : ℕ → Option Found) (o : Option Found) → IsSameRun start before
    → and_seek (looks goal arguments from before) before.position
    (told_by (source_of before.program) (trail_of before) way before.position) next ≡ o
    → and_seek (looks goal arguments from start) before.position
    (told_by (source_of start.program) (trail_of start) way before.position) next ≡ o
turn_at_start start before after way goal arguments from next o same h =
    subst (λ (d : Standing). and_seek (looks goal arguments from d) before.position
    (told_by (source_of d.program) (trail_of d) way before.position) next ≡ o) same h

pub seeking_goes : (start before after : Standing) (way : Command) (goal : Goal) (arguments : List (List ℕ))
    (from : SearchMark) (n i : ℕ) → i < n → IsSeeking start way goal arguments from n i before
    → IsTurn before way (looks goal arguments from before) after On → IsSameRun before after
    → IsSeeking start way goal arguments from n (i + 1) after
seeking_goes start before after way goal arguments from n i less h turn same =
    let next : ℕ → Option Found = sought goal arguments from way start (n - (i + 1)) in
    record {
      whole = whole_next start before way goal arguments from n i less h
          ∙ turn_at_start start before after way goal arguments from next (next after.position) h.same (turn next);
      same = same_run start before after h.same same;
    }

pub seeking_ends : (start before after : Standing) (way : Command) (goal : Goal) (arguments : List (List ℕ))
    (from : SearchMark) (n i : ℕ) (it : Moved) → i < n → IsSeeking start way goal arguments from n i before
    → IsTurn before way (looks goal arguments from before) after (Over it)
    → sought goal arguments from way start n start.position
    ≡ found_at after.position (string_bytes it.text) it.how
seeking_ends start before after way goal arguments from n i it less h turn =
    let next : ℕ → Option Found = sought goal arguments from way start (n - (i + 1)) in
    whole_next start before way goal arguments from n i less h
    ∙ turn_at_start start before after way goal arguments from next
    (found_at after.position (string_bytes it.text) it.how) h.same (turn next)

-- all moves are made
pub seeking_over : (start before after : Standing) (way : Command) (goal : Goal) (arguments : List (List ℕ))
    (from : SearchMark) (n i : ℕ) {E : Type 0} (result : Result Moved E) → n ≤ i
    → IsSeeking start way goal arguments from n i before
    → IfOk result (λ (it : Moved). all_made (told_by (source_of before.program) (trail_of before) (command.Step 0)
    before.position) ≡ found_at after.position (string_bytes it.text) it.how)
    → IfOk result (λ (it : Moved). sought goal arguments from way start n start.position
    ≡ found_at after.position (string_bytes it.text) it.how)
seeking_over start before after way goal arguments from n i (Ok it) all h stop =
    h.whole
    ∙ ap (λ (m : ℕ). sought goal arguments from way start m before.position) (none_left n i all)
    ∙ subst (λ (d : Standing). all_made (told_by (source_of d.program) (trail_of d) (command.Step 0) before.position)
    ≡ found_at after.position (string_bytes it.text) it.how) h.same stop
seeking_over start before after way goal arguments from n i (Err e) all h stop = tt

-- the line on the position
pub stop_told : (before after : Standing) (old new line : List ℕ) (it : Moved)
    → CommandsLead before (command.Step 0 ∷ []) after line → old ≡ [] → new ≡ old ++ line → string_bytes it.text ≡ new
    → it.how ≡ Made
    → all_made (told_by (source_of before.program) (trail_of before) (command.Step 0) before.position)
    ≡ found_at after.position (string_bytes it.text) it.how
stop_told before after old new line it leads empty added text how =
    ap all_made (leads_told before after (command.Step 0) line leads)
    ∙ ap (λ (l : List ℕ). found_at after.position l Made) (line_is old new line empty added ∙ sym text)
    ∙ ap (λ (h : Outcome). found_at after.position (string_bytes it.text) h) (sym how)

-- the sight from which a search began
pub seek_from : (before between after : Standing) (way : Command) (goal : Goal) (arguments : List (List ℕ))
    (from : SearchMark) (n : ℕ) {E : Type 0} (result : Result Moved E) → between ≡ before
    → search_mark_at (source_of before.program) (trail_of before) arguments before.position ≡ Some from
    → IfOk result (λ (it : Moved). sought goal arguments from way between n between.position
    ≡ found_at after.position (string_bytes it.text) it.how)
    → IfOk result (λ (it : Moved). seek (source_of before.program) (trail_of before) way
    (wanted (source_of before.program) (trail_of before) goal arguments
    (search_mark_at (source_of before.program) (trail_of before) arguments before.position)) n before.position
    ≡ found_at after.position (string_bytes it.text) it.how)
seek_from before between after way goal arguments from n result same sight_is h =
    subst (λ (s : Option SearchMark). IfOk result (λ (it : Moved). seek (source_of before.program) (trail_of before) way
    (wanted (source_of before.program) (trail_of before) goal arguments s) n before.position
    ≡ found_at after.position (string_bytes it.text) it.how)) (sym sight_is)
    (subst (λ (d : Standing). IfOk result (λ (it : Moved). sought goal arguments from way d n d.position
    ≡ found_at after.position (string_bytes it.text) it.how)) same h)
