-- Searches of more moves.
use Rattle.std.proofs.Common.{◌≡◌, ap, ℕ, zero, suc, ◌+◌, add-zero, add-suc, List, Bool, true}
use Rattle.std.proofs.Common.{false, Some, None}
use Rattle.std.specs.Prelude.{Option, nat_eq, if◌then◌else◌}
use Rattle.source_debugger.specs.meaning_points.rpp_tree.Tree.{Source}
use Rattle.source_debugger.specs.meaning_points.Trail.{Trail}
use Rattle.source_debugger.specs.Walks.{Stand, Onward, Moves, Stays, Hidden, stand_at, onward}
use Rattle.live_requests.specs.pisa_scripts.declared.command.Command.{Command}
use Rattle.source_debugger.specs.source_courses.declared.moves.TheConstants.{LAST_POSITION}
use Rattle.source_debugger.specs.Shown.{Told, told_by, reply_at, line_at}
use Rattle.live_searches.specs.declared.moves.Outcome.TheVariants.{Met, Stopped}
use Rattle.live_searches.specs.Searches.{Found, search_found, and_seek, all_made, seek}
use Rattle.live_searches.specs.SearchLaws.{then_more}

none_some : {f : Found} → None ≡ Some f → ⊥
none_some e = cc

abbrev more : (ℕ → Option Found) → Option Found → Option Found
more next o = then_more next o

-- the line on a position, with an ending; at the last position moves end since they are made
abbrev line_by : ℕ → Stand → Onward → Option (List ℕ)
line_by j stand (Stays ending) = line_at j stand ending
line_by j stand Moves = None
line_by j stand Hidden = None

no_moves : (next : ℕ → Option Found) (j : ℕ) (o : Option (List ℕ)) (f : Found) → all_made (reply_at j o) ≡ Some f
    → next j ≡ more next (Some f)
no_moves next j None f e = absurd (none_some e)
no_moves next j (Some text) f e = ap (more next) e

by_tests : (told : Told) (few many next : ℕ → Option Found) (f : Found) (a b : Bool)
    → ((i : ℕ) → few i ≡ Some f → many i ≡ more next (Some f))
    → (if a then search_found told Stopped else if b then search_found told Met else few told.position) ≡ Some f
    → (if a then search_found told Stopped else if b then search_found told Met else many told.position)
    ≡ more next (Some f)
by_tests told few many next f true b h e = ap (more next) e
by_tests told few many next f false true h e = ap (more next) e
by_tests told few many next f false false h e = h told.position e

one_move : (wanted : ℕ → Bool) (j : ℕ) (o : Option Told) (few many next : ℕ → Option Found) (f : Found)
    → ((i : ℕ) → few i ≡ Some f → many i ≡ more next (Some f))
    → and_seek wanted j o few ≡ Some f → and_seek wanted j o many ≡ more next (Some f)
one_move wanted j None few many next f h e = absurd (none_some e)
one_move wanted j (Some told) few many next f h e =
    by_tests told few many next f (nat_eq told.position j) (wanted told.position) h e

pub searches_go_on : (program : Source) (trail : Trail) (way : Command) (wanted : ℕ → Bool) (m n j : ℕ) (f : Found)
    → seek program trail way wanted n j ≡ Some f
    → seek program trail way wanted (m + n) j ≡ then_more (seek program trail way wanted m) (Some f)
searches_go_on program trail way wanted m zero j f e =
    rw add-zero (no_moves (seek program trail way wanted m) j
    (line_by j (stand_at trail j) (onward trail LAST_POSITION)) f e)
searches_go_on program trail way wanted m (suc n) j f e =
    rw add-suc (one_move wanted j (told_by program trail way j) (seek program trail way wanted n)
    (seek program trail way wanted (m + n)) (seek program trail way wanted m) f
    (λ i. searches_go_on program trail way wanted m n i f) e)
