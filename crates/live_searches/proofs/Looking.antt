-- What is seen at the position of a debugger.
use Rattle.std.proofs.Common.{◌≡◌, ◌∙◌, refl, sym, ap, subst, ℕ, List, [], ◌∷◌, Some, None}
use Rattle.std.specs.Prelude.{Option}
use Rattle.std.specs.Option.{option_map}
use Rattle.source_debugger.specs.meaning_points.rpp_tree.Tree.{Source}
use Rattle.source_debugger.specs.meaning_points.rpp_tree.Views.{source_of}
use Rattle.source_debugger.specs.meaning_points.Trail.{Trail}
use Rattle.source_debugger.specs.declared.looking.Seen.{Seen}
use Rattle.source_debugger.specs.Looks.{seen_of}
use Rattle.source_debugger.specs.Walks.{stand_at}
use Rattle.source_debugger.specs.Shown.{Told, told_by, reply_at}
use Rattle.source_debugger.specs.Standing.{Standing, trail_of, CommandsLead}
use Rattle.live_searches.specs.declared.goals.Glance.{Glance}
use Rattle.live_searches.specs.Goals.{prefixed_lines, SearchWatch, watch_of, shown_for, depth_for, sight, sight_at, mark, search_mark_at}
use Rattle.live_searches.specs.Sights.{sight_of, look_of}
use Rattle.live_searches.proofs.Single.{leads_told}
use Rattle.live_requests.specs.Asks.{first_argument}

abbrev position_of : Option Told → ℕ
position_of None = 0
position_of (Some t) = t.position

abbrev text_of : Option Told → List ℕ
text_of None = []
text_of (Some t) = t.text

none_some : {X : Type 0} {x : X} → None ≡ Some x → ⊥
none_some e = cc

tells_position : (j : ℕ) (o : Option (List ℕ)) (t : Told) → reply_at j o ≡ Some t → t.position ≡ j
tells_position j None t e = absurd (none_some e)
tells_position j (Some text) t e = sym (ap position_of e)

tells_text : (j : ℕ) (o : Option (List ℕ)) (t : Told) → reply_at j o ≡ Some t → o ≡ Some t.text
tells_text j None t e = absurd (none_some e)
tells_text j (Some text) t e = ap (λ (u : Option Told). Some (text_of u)) e

look_shown : (program : Source) (trail : Trail) (object : Option ℕ) (j : ℕ)
    → told_by program trail (look_of object) j ≡ reply_at j (shown_for program object (stand_at trail j))
look_shown program trail None j = refl
look_shown program trail (Some object) j = refl

look_position : (before after : Standing) (object : Option ℕ) (text : List ℕ)
    → CommandsLead before (look_of object ∷ []) after text → after.position ≡ before.position
look_position before after object text leads =
    tells_position before.position
    (shown_for (source_of before.program) object (stand_at (trail_of before) before.position))
    (record { position = after.position; text = text })
    (sym (look_shown (source_of before.program) (trail_of before) object before.position)
    ∙ leads_told before after (look_of object) text leads)

-- a look moves nothing
pub look_stays : (before after : Standing) (object : Option ℕ) (text : List ℕ)
    → CommandsLead before (look_of object ∷ []) after text → after ≡ before
look_stays before after object text leads =
    leads.same ∙ ap (λ (j : ℕ). record before { position = j }) (look_position before after object text leads)

pub look_told : (before after : Standing) (object : Option ℕ) (text : List ℕ)
    → CommandsLead before (look_of object ∷ []) after text
    → shown_for (source_of before.program) object (stand_at (trail_of before) before.position) ≡ Some text
look_told before after object text leads =
    tells_text before.position
    (shown_for (source_of before.program) object (stand_at (trail_of before) before.position))
    (record { position = after.position; text = text })
    (sym (look_shown (source_of before.program) (trail_of before) object before.position)
    ∙ leads_told before after (look_of object) text leads)

-- the lines of what is watched in what is printed
pub watched_lines : (before after : Standing) (object : Option ℕ) (text shown start lines : List ℕ)
    → CommandsLead before (look_of object ∷ []) after text → shown ≡ text → lines ≡ prefixed_lines start shown
    → option_map (prefixed_lines start)
    (shown_for (source_of before.program) object (stand_at (trail_of before) before.position)) ≡ Some lines
watched_lines before after object text shown start lines leads shown_is is =
    ap (option_map (prefixed_lines start)) (look_told before after object text leads)
    ∙ ap Some (sym (is ∙ ap (prefixed_lines start) shown_is))

-- ---- sights

abbrev or_nothing : Option (List ℕ) → List ℕ
or_nothing None = []
or_nothing (Some text) = text

sight_by : (watch : SearchWatch) (s : Option Seen) (seen : Seen) (shown : Option (List ℕ)) (lines : List ℕ) (depth : ℕ)
    → s ≡ Some seen → option_map (prefixed_lines watch.start) shown ≡ Some lines → depth ≡ depth_for watch.object seen
    → sight watch s shown ≡ Some (record { depth = depth; lines = lines })
sight_by watch s seen None lines depth s_is shown_is depth_is = absurd (none_some shown_is)
sight_by watch s seen (Some text) lines depth s_is shown_is depth_is =
    ap (λ (o : Option Seen). sight watch o (Some text)) s_is
    ∙ ap (λ (o : Option (List ℕ)). Some (record { depth = depth_for watch.object seen; lines = or_nothing o })) shown_is
    ∙ ap (λ (d : ℕ). Some (record { depth = d; lines = lines })) (sym depth_is)

pub sighted : (before between : Standing) (watch : SearchWatch) (lines : List ℕ) (seen : Seen) (depth : ℕ)
    → between ≡ before → seen_of (stand_at (trail_of before) before.position) ≡ Some seen
    → option_map (prefixed_lines watch.start)
    (shown_for (source_of between.program) watch.object (stand_at (trail_of between) between.position)) ≡ Some lines
    → depth ≡ depth_for watch.object seen
    → sight watch (seen_of (stand_at (trail_of before) before.position))
    (shown_for (source_of before.program) watch.object (stand_at (trail_of before) before.position))
    ≡ Some (record { depth = depth; lines = lines })
sighted before between watch lines seen depth same seen_is lines_is depth_is =
    sight_by watch (seen_of (stand_at (trail_of before) before.position)) seen
    (shown_for (source_of before.program) watch.object (stand_at (trail_of before) before.position)) lines depth seen_is
    (subst (λ (d : Standing). option_map (prefixed_lines watch.start)
    (shown_for (source_of d.program) watch.object (stand_at (trail_of d) d.position)) ≡ Some lines) same lines_is)
    depth_is

-- what is watched, and how it is
pub marked : (d : Standing) (arguments : List (List ℕ)) (watch : SearchWatch) (glance : Glance)
    → watch ≡ watch_of (first_argument arguments)
    → sight_at (source_of d.program) (trail_of d) watch d.position ≡ Some (sight_of glance)
    → search_mark_at (source_of d.program) (trail_of d) arguments d.position
    ≡ Some (record { watch = watch; sight = sight_of glance })
marked d arguments watch glance watch_is is =
    ap (λ (w : SearchWatch). mark w (sight_at (source_of d.program) (trail_of d) w d.position)) (sym watch_is)
    ∙ ap (mark watch) is
