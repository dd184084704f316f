-- A run on its way to a position.
use Rattle.std.proofs.Common.{◌≡◌, ℕ, ◌+◌, ◌-◌, ◌^◌, refl, sym, ap, ◌∙◌, arith, append-nil, List, ◌++◌, length}
use Rattle.std.proofs.Common.{length-append, false, Some, None, inl, inr}
use Rattle.std.specs.Prelude.{Option, Bool, true, is_some}
use Rattle.source_debugger.specs.rpp_words.declared.input.FieldWord.{FieldWord}
use Rattle.source_debugger.specs.rpp_words.declared.input.Limits.{Limits}
use Rattle.source_debugger.specs.rpp_tree.Tree.{Source}
use Rattle.source_debugger.specs.roopl_semantics.Run.{Run, Done, Fault, More}
use Rattle.source_debugger.specs.roopl_semantics.Execution.{Setting}
use Rattle.source_debugger.specs.meaning_points.Points.{Point, points_behind}
use Rattle.source_debugger.specs.meaning_machine.Machine.{Config, next, walk, seen, point_of}
use Rattle.source_debugger.specs.meaning_machine.SourceLaws.{set_for, start_config}
use Rattle.source_debugger.proofs.meaning_machine_laws.Steps.{plus, seen_plus}
use Rattle.source_debugger.specs.source_steps.Metered.{Went, metered, went, stopped_metered, left_of}
use Rattle.source_debugger.proofs.source_steps_laws.Fuelled.{left_is}
use Rattle.source_debugger.specs.source_execution.Standing.{ExecutionStanding, IsOver, config_at, setting_at, next_place}
use Rattle.source_debugger.specs.Watched.{counted}
use Rattle.source_debugger.specs.Stacks.{IsPosition}
use Rattle.source_debugger.proofs.source_courses_laws.Rewound.{one_more, counts, none_behind}
use Rattle.live_accounts.specs.declared.arriving.Arrived.{Arrived}
use Rattle.live_accounts.specs.Accounts.{HasArrived}

-- ---- a run that is done with so much fuel

record IsDone (fuel : ℕ) (run : Run Config) (end : Config) (left : ℕ) : Type 0 where
  pub cost : ℕ
  pub is : run ≡ Done end cost
  pub spent : left + cost ≡ fuel

went_is : (x end : Config) (o : Option ℕ) (left : ℕ) → went x o ≡ Went end left → x ≡ end
went_is x end None left e = cc
went_is x end (Some k) left e = cc

not_went : (code : ℕ) (end : Config) (o : Option ℕ) (left : ℕ) → stopped_metered code o ≡ Went end left → ⊥
not_went code end None left e = cc
not_went code end (Some k) left e = cc

is_done : (fuel : ℕ) (run : Run Config) (end : Config) (left : ℕ) → metered fuel run ≡ Went end left
    → IsDone fuel run end left
is_done fuel (Done x cost) end left e = record {
  cost = cost;
  is = ap (λ (y : Config). Done y cost) (went_is x end (left_of fuel cost) left e);
  spent = left_is fuel cost x end left e;
}
is_done fuel (Fault code cost) end left e = absurd (not_went code end (left_of fuel cost) left e)
is_done fuel More end left e = cc

-- ---- steps

module _ (program : Source) (limits : Limits) (input : List FieldWord) where
  abbrev here : Setting
  here = set_for program limits

  abbrev start : Config
  start = start_config program input

  -- some steps have come here, past so many trace points, at the cost of what is gone of the fuel
  pub record HasGone (e : ExecutionStanding) (fuel passed : ℕ) : Type 0 where
    pub steps : ℕ
    pub cost : ℕ
    pub came : walk here steps start ≡ Done (config_at e) cost
    pub spent : cost + fuel ≡ 2 ^ 64 - 1
    pub count : length (seen here steps start) ≡ passed
    pub same : setting_at e ≡ here
    pub whole : e.broken ≡ false

  pub at_start : (e : ExecutionStanding) → config_at e ≡ start → setting_at e ≡ here → e.broken ≡ false
      → HasGone e (2 ^ 64 - 1) 0
  at_start e c s w = record {
    steps = 0;
    cost = 0;
    came = ap (λ (x : Config). Done x 0) (sym c);
    spent = omega arith;
    count = refl;
    same = s;
    whole = w;
  }

  pub further : (e later : ExecutionStanding) (fuel left passed more : ℕ) (place : Option ℕ) → HasGone e fuel passed
      → metered fuel (next (setting_at e) (config_at e)) ≡ Went (config_at later) left
      → setting_at later ≡ setting_at e → later.broken ≡ false
      → more ≡ counted passed place → place ≡ next_place (config_at e).rest → HasGone later left more
  further e later fuel left passed more place h g s w m p =
      let x = config_at e in
      let one = is_done fuel (next here x) (config_at later) left
      (ap (λ (k : Setting). metered fuel (next k x)) (sym h.same) ∙ g) in
      let before = h.spent in
      let now = one.spent in
      let points : seen here (plus h.steps 1) start ≡ seen here h.steps start ++ point_of here x.params x.state x.rest =
      seen_plus here h.steps 1 start
      ∙ ap (λ (r : Run Config). seen here h.steps start ++ points_behind r (seen here 1)) h.came
      ∙ ap (λ (l : List Point). seen here h.steps start ++ (point_of here x.params x.state x.rest ++ l))
      (none_behind here (next here x))
      ∙ ap (λ (l : List Point). seen here h.steps start ++ l) (append-nil (point_of here x.params x.state x.rest)) in
      record {
        steps = plus h.steps 1;
        cost = h.cost + one.cost;
        came = one_more here h.steps start x (config_at later) h.cost one.cost h.came one.is;
        spent = omega arith;
        count = ap (λ (l : List Point). length l) points
            ∙ length-append (seen here h.steps start) (point_of here x.params x.state x.rest)
            ∙ ap (λ (k : ℕ). k + length (point_of here x.params x.state x.rest)) h.count
            ∙ counts here x.params passed x.state x.rest ∙ sym (m ∙ ap (counted passed) p);
        same = s ∙ h.same;
        whole = w;
      }

  arrives : (it : Arrived) (fuel passed position : ℕ) → HasGone it.execution fuel passed → passed ≡ position
      → it.cost ≡ 2 ^ 64 - 1 - fuel → IsPosition (config_at it.execution) → HasArrived program limits input position it
  arrives it fuel passed position h p c stands =
      let spent = h.spent in
      record {
        there = record {
          steps = h.steps;
          cost = h.cost;
          came = h.came;
          passed = h.count ∙ p;
          stands = stands;
        };
        cost = omega arith;
      }

  -- the run is at the position, since a statement begins there
  pub arrives_begun : (it : Arrived) (fuel passed position : ℕ) (place : Option ℕ) (some : Bool)
      → HasGone it.execution fuel passed → passed ≡ position → it.cost ≡ 2 ^ 64 - 1 - fuel
      → place ≡ next_place (config_at it.execution).rest → some ≡ is_some place → some ≡ true
      → HasArrived program limits input position it
  arrives_begun it fuel passed position None some h p c e f t = cc
  arrives_begun it fuel passed position (Some place) some h p c e f t =
      arrives it fuel passed position h p c (inl (place, sym e))

  -- the same at the end
  pub arrives_over : (it : Arrived) (fuel passed position : ℕ) → HasGone it.execution fuel passed
      → passed ≡ position → it.cost ≡ 2 ^ 64 - 1 - fuel → IsOver (config_at it.execution)
      → HasArrived program limits input position it
  arrives_over it fuel passed position h p c over = arrives it fuel passed position h p c (inr over)
