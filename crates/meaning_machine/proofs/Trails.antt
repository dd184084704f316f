-- The trace points that the machine passes are those of the run.
use Rattle.std.proofs.Common.{◌≡◌, ◌<◌, ◌≤◌, ℕ, zero, suc, ◌+◌, refl, sym, ap, subst, ◌∙◌, arith, List, [], ◌++◌}
use Rattle.std.proofs.Common.{append-nil}
use Rattle.meaning_points.specs.rpp_words.declared.input.FieldWord.{FieldWord}
use Rattle.meaning_points.specs.rpp_words.declared.input.Limits.{Limits}
use Rattle.meaning_points.specs.rpp_tree.Tree.{Source, Statements, End}
use Rattle.meaning_points.specs.roopl_semantics.Run.{Run, Done, Fault, More, after_cost, ◌>>=◌}
use Rattle.meaning_points.specs.roopl_semantics.Store.{State}
use Rattle.meaning_points.specs.roopl_semantics.Execution.{Setting}
use Rattle.meaning_points.proofs.roopl_semantics_laws.MoreFuel.{within_done, within_fault}
use Rattle.meaning_points.specs.Points.{Point, points_behind}
use Rattle.meaning_points.specs.Trail.{trail}
use Rattle.meaning_machine.specs.Machine.{Config, next, walk, seen, point_of}
use Rattle.meaning_machine.specs.MachineLaws.{MachineFollows}
use Rattle.meaning_machine.specs.SourceLaws.{set_for, start_config, end_config}
use Rattle.meaning_machine.specs.TrailLaws.{BeginsWith, TrailIsWalked}
use Rattle.meaning_machine.proofs.Steps.{plus, walk_plus, seen_plus}
use Rattle.meaning_machine.proofs.Sources.{IsEnd, stays_next, ended_by, ends_at, run, follows, follows_as, joined}

-- ---- of two numbers of steps one is at least the other, or less

data Ahead (m k : ℕ) : Type 0 where
  later : (d : ℕ) → k ≡ plus m (suc d) → Ahead m k
  passed : (d : ℕ) → m ≡ plus k d → Ahead m k

ahead_suc : (m k : ℕ) → Ahead m k → Ahead (suc m) (suc k)
ahead_suc m k (later d e) = later d (ap suc e)
ahead_suc m k (passed d e) = passed d (ap suc e)

ahead : (m k : ℕ) → Ahead m k
ahead m zero = passed m refl
ahead zero (suc k) = later k refl
ahead (suc m) (suc k) = ahead_suc m k (ahead m k)

-- ---- trace points of walks

module _ (setting : Setting) where
  -- a run that is over passes no more trace points
  seen_stays : (d : ℕ) (x : Config) → x.rest ≡ End → x.around ≡ [] → seen setting d x ≡ []
  seen_stays zero x rest around = refl
  seen_stays (suc d) x rest around =
      ap (λ (body : Statements). point_of setting x.params x.state body
      ++ points_behind (next setting x) (seen setting d)) rest
      ∙ ap (λ (r : Run Config). points_behind r (seen setting d)) (stays_next setting x rest around)
      ∙ seen_stays d x rest around

  end_points : (d : ℕ) (r : Run Config) → IsEnd r → points_behind r (seen setting d) ≡ []
  end_points d (Done x cost) end = seen_stays d x end.0 end.1
  end_points d (Fault code cost) end = refl
  end_points d More end = absurd end

  further : (m k d : ℕ) (x : Config) → k ≡ plus m d → IsEnd (walk setting m x) → seen setting k x ≡ seen setting m x
  further m k d x e end =
      ap (λ n. seen setting n x) e ∙ seen_plus setting m d x
      ∙ ap (λ l. seen setting m x ++ l) (end_points d (walk setting m x) end) ∙ append-nil (seen setting m x)

  -- walks that are over have passed the same trace points
  same_points : (m k : ℕ) (x : Config) → IsEnd (walk setting m x) → IsEnd (walk setting k x)
      → seen setting m x ≡ seen setting k x
  same_points m k x one two = elim (ahead m k) [
    | later d e ↦ sym (further m k (suc d) x e one)
    | passed d e ↦ further k m d x e two
  ]

  -- a longer walk passes the trace point at which this one is
  goes_along : (m k d : ℕ) (x to : Config) (cost : ℕ) → walk setting m x ≡ Done to cost → k ≡ plus m (suc d)
      → BeginsWith (seen setting k x) (seen setting m x) (point_of setting to.params to.state to.rest)
  goes_along m k d x to cost e i = record {
    more = points_behind (next setting to) (seen setting d);
    are = ap (λ n. seen setting n x) i ∙ seen_plus setting m (suc d) x
        ∙ ap (λ (r : Run Config). seen setting m x ++ points_behind r (seen setting (suc d))) e;
  }

  over_along : (ps : List Point) (to : Config) → to.rest ≡ End
      → BeginsWith ps ps (point_of setting to.params to.state to.rest)
  over_along ps to rest = record {
    more = [];
    are = sym (append-nil ps)
        ∙ ap (λ (body : Statements). ps ++ (point_of setting to.params to.state body ++ [])) (sym rest);
  }

cost_after : (c : ℕ) (r : Run Config) (to : Config) (cost : ℕ) → after_cost c r ≡ Done to cost → c ≤ cost
cost_after c (Done x d) to cost e = let same : c + d ≡ cost = cc in omega arith
cost_after c (Fault code d) to cost e = cc
cost_after c More to cost e = cc

-- ---- the law

module _ (program : Source) (limits : Limits) (input : List FieldWord) (n : ℕ) where
  abbrev here : Setting
  here = set_for program limits

  abbrev start : Config
  start = start_config program input

  abbrev all : List Point
  all = (trail program limits input n).points

  abbrev where_it_stands : ℕ → Config → Type 0
  where_it_stands m to = BeginsWith all (seen here m start) (point_of here to.params to.state to.rest)

  along_by : (r : Run State) → run program limits input n n ≡ r → MachineFollows here n start (end_config program) r all
      → (m : ℕ) (to : Config) (cost : ℕ) → walk here m start ≡ Done to cost → cost < n → where_it_stands m to
  along_by (Done end c) is f m to cost e h = elim (ahead m f.steps) [
    | later d i ↦ subst (λ (ps : List Point). BeginsWith ps (seen here m start) (point_of here to.params to.state
        to.rest)) f.points (goes_along here m f.steps d start to cost e i)
    | passed d i ↦
        let over : IsEnd (walk here f.steps start) = ends_at here f.steps start _ f.walks (refl, refl) in
        let same : Done to cost ≡ Done (end_config program end) c = sym e ∙ ended_by here f.steps m d start i over
        ∙ f.walks in
        let there : to ≡ end_config program end = cc in
        let points : seen here m start ≡ all = further here f.steps m d start i over ∙ f.points in
        subst (λ (ps : List Point). BeginsWith ps (seen here m start) (point_of here to.params to.state to.rest))
        points (over_along here (seen here m start) to (ap (λ (x : Config). x.rest) there))
  ]
  along_by (Fault code c) is f m to cost e h = elim (ahead m f.steps) [
    | later d i ↦ subst (λ (ps : List Point). BeginsWith ps (seen here m start) (point_of here to.params to.state
        to.rest)) f.points (goes_along here m f.steps d start to cost e i)
    | passed d i ↦
        let over : IsEnd (walk here f.steps start) = ends_at here f.steps start _ f.walks tt in
        let same : Done to cost ≡ Fault code c = sym e ∙ ended_by here f.steps m d start i over ∙ f.walks in
        cc
  ]
  along_by More is f m to cost e h = elim (ahead m f.steps) [
    | later d i ↦ subst (λ (ps : List Point). BeginsWith ps (seen here m start) (point_of here to.params to.state
        to.rest)) f.points (goes_along here m f.steps d start to cost e i)
    | passed d i ↦
        let on : after_cost f.cost (walk here d f.to) ≡ Done to cost =
        sym (ap (λ k. walk here k start) i ∙ walk_plus here f.steps d start
        ∙ ap (λ (r : Run Config). r >>= walk here d) f.walks) ∙ e in
        let paid : f.cost ≤ cost = cost_after f.cost (walk here d f.to) to cost on in
        let enough = f.enough in
        absurd (omega arith)
  ]

  along : (m : ℕ) (to : Config) (cost : ℕ) → walk here m start ≡ Done to cost → cost < n → where_it_stands m to
  along = along_by (run program limits input n n) refl (follows program limits input n n)

  over : (m : ℕ) (to : Config) (cost : ℕ) → walk here m start ≡ Done to cost → to.rest ≡ End → to.around ≡ []
      → cost ≤ n → ((trail program limits input n).end ≡ Done to.state cost) × (all ≡ seen here m start)
  over m to cost e rest around h =
      let done = (joined program limits input n).over m to cost e rest around h in
      let is = (within_done n (run program limits input n n) to.state cost done).is in
      let f = follows_as program limits input n n (Done to.state cost) is in (
        is,
        sym f.points ∙ same_points here f.steps m start (ends_at here f.steps start _ f.walks (refl, refl))
            (ends_at here m start _ e (rest, around)),
      )

  fault : (m code cost : ℕ) → walk here m start ≡ Fault code cost → cost ≤ n
      → ((trail program limits input n).end ≡ Fault code cost) × (all ≡ seen here m start)
  fault m code cost e h =
      let stopped = (joined program limits input n).fault_only m code cost e h in
      let is = (within_fault n (run program limits input n n) code cost stopped).is in
      let f = follows_as program limits input n n (Fault code cost) is in (
        is,
        sym f.points ∙ same_points here f.steps m start (ends_at here f.steps start _ f.walks tt)
            (ends_at here m start _ e tt),
      )

  pub walked : TrailIsWalked program limits input n
  walked = record { over = over; fault = fault; along = along }
