-- A run that steps back.
use Rattle.std.proofs.Common.{◌≡◌, ℕ, zero, suc, ◌+◌, ◌-◌, ◌<◌, ◌≤◌, refl, sym, ap, ◌∙◌, arith, Bool, true, false}
use Rattle.std.proofs.Common.{List, [], ◌∷◌, ◌++◌, length, length-append, append-nil, Option, Some, None}
use Rattle.source_execution.specs.rpp_words.declared.input.FieldWord.{FieldWord}
use Rattle.source_execution.specs.rpp_words.declared.input.Limits.{Limits}
use Rattle.source_execution.specs.rpp_words.Limits.{IsLimits}
use Rattle.source_execution.specs.rpp_tree.Tree.{Source, Statements, End, Then}
use Rattle.source_execution.specs.class_rules.Program.{IsAccepted}
use Rattle.source_execution.specs.roopl_semantics.Run.{Run, Done, Fault, More, ◌>>=◌, after_cost}
use Rattle.source_execution.specs.roopl_semantics.Store.{State}
use Rattle.source_execution.specs.roopl_semantics.Source.{IsValid}
use Rattle.source_execution.specs.roopl_semantics.Execution.{Setting}
use Rattle.source_execution.proofs.roopl_semantics_laws.MoreFuel.{within_done, IsDoneWithin}
use Rattle.source_execution.specs.meaning_points.Points.{Point, points_behind as behind_run}
use Rattle.meaning_reversed.specs.meaning_machine.Machine.{Config, Open, closing, stepped, next, walk, seen, point_of as point_in}
use Rattle.meaning_reversed.specs.meaning_machine.SourceLaws.{set_for, start_config}
use Rattle.meaning_reversed.specs.meaning_machine.Turned.{each_undone, turn}
use Rattle.meaning_reversed.proofs.meaning_machine_laws.Steps.{plus, walk_plus, seen_plus}
use Rattle.meaning_reversed.proofs.meaning_machine_laws.Turning.{turned_twice}
use Rattle.meaning_reversed.specs.meaning_machine.Reversed.{back}
use Rattle.meaning_reversed.specs.ReverseLaws.{StepsAreUndone, is_over}
use Rattle.source_execution.specs.source_steps.Metered.{Went, metered}
use Rattle.source_execution.specs.Standing.{config_at, setting_at, next_place}
use Rattle.source_execution.proofs.Within.{ends_done}
use Rattle.source_courses.specs.declared.running.Course.{Course}
use Rattle.source_courses.specs.Watched.{counted}
use Rattle.source_courses.specs.Courses.{HasLed, IsUnderWay, IsTurned}

-- ---- one step more

then_done : {A B : Type 0} (r : Run A) (f : A → Run B) (a : A) (b : B) (c d : ℕ) → r ≡ Done a c → f a ≡ Done b d
    → (r >>= f) ≡ Done b (c + d)
then_done r f a b c d e g = ap (λ q. q >>= f) e ∙ ap (after_cost c) g

then_fault : {A B : Type 0} (r : Run A) (f : A → Run B) (a : A) (code c d : ℕ) → r ≡ Done a c → f a ≡ Fault code d
    → (r >>= f) ≡ Fault code (c + d)
then_fault r f a code c d e g = ap (λ q. q >>= f) e ∙ ap (after_cost c) g

module _ (setting : Setting) (steps : ℕ) (first x : Config) where
  pub one_more : (y : Config) (cost d : ℕ) → walk setting steps first ≡ Done x cost → next setting x ≡ Done y d
      → walk setting (plus steps 1) first ≡ Done y (cost + d)
  one_more y cost d e g =
      let none : d + 0 ≡ d = omega arith in
      walk_plus setting steps 1 first
      ∙ then_done (walk setting steps first) (walk setting 1) x y cost d e
      (then_done (next setting x) (walk setting 0) y y d 0 g refl ∙ ap (Done y) none)

  pub one_fault : (code cost d : ℕ) → walk setting steps first ≡ Done x cost → next setting x ≡ Fault code d
      → walk setting (plus steps 1) first ≡ Fault code (cost + d)
  one_fault code cost d e g =
      walk_plus setting steps 1 first
      ∙ then_fault (walk setting steps first) (walk setting 1) x code cost d e (ap (λ q. q >>= walk setting 0) g)

-- ---- trace points

pub none_behind : (setting : Setting) (r : Run Config) → behind_run r (seen setting 0) ≡ []
none_behind setting (Done x cost) = refl
none_behind setting (Fault code cost) = refl
none_behind setting More = refl

pub counts : (setting : Setting) (params n : ℕ) (st : State) (body : Statements)
    → n + length (point_in setting params st body) ≡ counted n (next_place body)
counts setting params n st End = omega arith
counts setting params n st (Then s rest) = omega arith

same_count : (n : ℕ) (body : Statements) → counted n (next_place (each_undone body)) ≡ counted n (next_place body)
same_count n End = refl
same_count n (Then s rest) = refl

counted_once : (a b : ℕ) (place : Option ℕ) → counted a place ≡ counted b place → a ≡ b
counted_once a b None e = e
counted_once a b (Some place) e = omega arith

-- ---- the last step of a walk that was not over

pub record LastStep (setting : Setting) (first y : Config) (steps cost : ℕ) : Type 0 where
  pub before : ℕ
  pub x : Config
  pub past : ℕ
  pub step_cost : ℕ
  pub came : walk setting before first ≡ Done x past
  pub goes : is_over x.rest x.around ≡ false
  pub step : next setting x ≡ Done y step_cost
  pub less : past ≤ cost
  pub points : length (seen setting steps first)
      ≡ length (seen setting before first) + length (point_in setting x.params x.state x.rest)

module _ (setting : Setting) (first : Config) where
  one_seen : (m : ℕ) (x : Config) (c : ℕ) → walk setting m first ≡ Done x c
      → length (seen setting (plus m 1) first)
      ≡ length (seen setting m first) + length (point_in setting x.params x.state x.rest)
  one_seen m x c e =
      ap (λ (l : List Point). length l) (seen_plus setting m 1 first
      ∙ ap (λ (r : Run Config). seen setting m first ++ behind_run r (seen setting 1)) e
      ∙ ap (λ (l : List Point). seen setting m first ++ (point_in setting x.params x.state x.rest ++ l))
      (none_behind setting (next setting x))
      ∙ ap (λ (l : List Point). seen setting m first ++ l) (append-nil (point_in setting x.params x.state x.rest)))
      ∙ length-append (seen setting m first) (point_in setting x.params x.state x.rest)

  -- a run that is over stays
  stays_over : (x : Config) (rest : Statements) (around : List Open) → x.rest ≡ rest → x.around ≡ around
      → is_over rest around ≡ true → (next setting x ≡ Done x 0) × (x.rest ≡ End)
  stays_over x End [] e f over = (ap (stepped setting x) e ∙ ap (closing setting x) f, e)
  stays_over x End (o ∷ around) e f over = cc
  stays_over x (Then s rest) around e f over = cc

  no_point : (params : ℕ) (st : State) (rest : Statements) → rest ≡ End
      → length (point_in setting params st rest) ≡ 0
  no_point params st rest e = ap (λ (b : Statements). length (point_in setting params st b)) e

  plus_one : (m : ℕ) → plus m 1 ≡ suc m
  plus_one zero = refl
  plus_one (suc m) = ap suc (plus_one m)

  -- a walk of one step more, whose last step begins here
  module _ (m : ℕ) (y : Config) (cost : ℕ) (x : Config) (c : ℕ) (w : walk setting m first ≡ Done x c) (d : ℕ)
      (step : next setting x ≡ Done y d) (sum : c + d ≡ cost) where
    seen_here : length (seen setting (suc m) first)
        ≡ length (seen setting m first) + length (point_in setting x.params x.state x.rest)
    seen_here = ap (λ (k : ℕ). length (seen setting k first)) (sym (plus_one m)) ∙ one_seen m x c w

    last_here : (over : Bool) → is_over x.rest x.around ≡ over
        → ((z : Config) (k : ℕ) → walk setting m first ≡ Done z k → 0 < length (seen setting m first)
        → LastStep setting first z m k)
        → 0 < length (seen setting (suc m) first) → LastStep setting first y (suc m) cost
    last_here false o again some = record {
      before = m;
      x = x;
      past = c;
      step_cost = d;
      came = w;
      goes = o;
      step = step;
      less = omega arith;
      points = seen_here;
    }
    last_here true o again some =
        let stays = stays_over x x.rest x.around refl refl o in
        let still : next setting x ≡ Done x 0 = stays.0 in
        let end : x.rest ≡ End = stays.1 in
        let same : x ≡ y = cc in
        let none = no_point x.params x.state x.rest end in
        let all = seen_here in
        let here : walk setting m first ≡ Done y c = w ∙ ap (λ (q : Config). Done q c) same in
        let one = again y c here (omega arith) in
        let fewer = one.less in
        let points = one.points in
        record {
          before = one.before;
          x = one.x;
          past = one.past;
          step_cost = one.step_cost;
          came = one.came;
          goes = one.goes;
          step = one.step;
          less = omega arith;
          points = omega arith;
        }

  last_by : (m : ℕ) (y : Config) (cost : ℕ) (x : Config) (c : ℕ) → walk setting m first ≡ Done x c
      → (r : Run Config) → next setting x ≡ r → after_cost c (r >>= walk setting 0) ≡ Done y cost
      → ((z : Config) (k : ℕ) → walk setting m first ≡ Done z k → 0 < length (seen setting m first)
      → LastStep setting first z m k)
      → 0 < length (seen setting (suc m) first) → LastStep setting first y (suc m) cost
  last_by m y cost x c w (Done z d) n g again some =
      let same : z ≡ y = cc in
      let sum : c + (d + 0) ≡ cost = cc in
      last_here m y cost x c w d (n ∙ ap (λ (q : Config). Done q d) same) (omega arith)
      (is_over x.rest x.around) refl again some
  last_by m y cost x c w (Fault code d) n g again some = cc
  last_by m y cost x c w More n g again some = cc

  last_of : (m : ℕ) (y : Config) (cost : ℕ) (r : Run Config) → walk setting m first ≡ r
      → (r >>= walk setting 1) ≡ Done y cost
      → ((z : Config) (k : ℕ) → walk setting m first ≡ Done z k → 0 < length (seen setting m first)
      → LastStep setting first z m k)
      → 0 < length (seen setting (suc m) first) → LastStep setting first y (suc m) cost
  last_of m y cost (Done x c) w g again some = last_by m y cost x c w (next setting x) refl g again some
  last_of m y cost (Fault code c) w g again some = cc
  last_of m y cost More w g again some = cc

  pub last_step : (steps : ℕ) (y : Config) (cost : ℕ) → walk setting steps first ≡ Done y cost
      → 0 < length (seen setting steps first) → LastStep setting first y steps cost
  last_step zero y cost e some = absurd (omega arith)
  last_step (suc m) y cost e some =
      last_of m y cost (walk setting m first) refl
      (sym (walk_plus setting m 1 first) ∙ ap (λ (k : ℕ). walk setting k first) (plus_one m) ∙ e)
      (last_step m) some

-- ---- a course that is reversed, and steps back

module _ (program : Source) (limits : Limits) (input : List FieldWord) (n : ℕ) (c later : Course) where
  abbrev here : Setting
  here = set_for program limits

  abbrev first : Config
  first = start_config program input

  -- reversed, it represents the position that it had
  turned_to : (x : Config) → HasLed program limits input n x c → later.fuel ≡ c.fuel → later.passed ≡ c.passed
      → setting_at later.execution ≡ setting_at c.execution → later.execution.broken ≡ false
      → (y : Config) → x ≡ y → HasLed program limits input n y later
  turned_to x way fuel passed setting whole y e =
      let spent = way.spent in
      record {
        steps = way.steps;
        cost = way.cost;
        came = way.came ∙ ap (λ (q : Config). Done q way.cost) e;
        spent = omega arith;
        count = way.count ∙ sym passed;
        same = setting ∙ way.same;
        whole = whole;
      }

  pub turns : IsUnderWay program limits input n c → config_at later.execution ≡ turn (config_at c.execution)
      → later.fuel ≡ c.fuel → later.passed ≡ c.passed → setting_at later.execution ≡ setting_at c.execution
      → later.execution.broken ≡ false → IsTurned program limits input n later
  turns way e fuel passed setting whole =
      turned_to (config_at c.execution) way fuel passed setting whole (turn (config_at later.execution))
      (sym (ap turn e ∙ turned_twice (config_at c.execution)))

  pub turns_again : IsTurned program limits input n c → config_at later.execution ≡ turn (config_at c.execution)
      → later.fuel ≡ c.fuel → later.passed ≡ c.passed → setting_at later.execution ≡ setting_at c.execution
      → later.execution.broken ≡ false → IsUnderWay program limits input n later
  turns_again way e fuel passed setting whole =
      turned_to (turn (config_at c.execution)) way fuel passed setting whole (config_at later.execution) (sym e)

  -- a step back leads to where the run was before its last step
  module _ (law : StepsAreUndone) (accepted : IsAccepted program) (inside : IsLimits limits)
      (valid : IsValid program input) (way : IsTurned program limits input n c) (some : 0 < c.passed) where
    abbrev y : Config
    y = turn (config_at c.execution)

    last : LastStep here first y way.steps way.cost
    last = let count = way.count in last_step here first way.steps y way.cost way.came (omega arith)

    undone : (left : ℕ) → metered c.fuel (back (setting_at c.execution) (config_at c.execution))
        ≡ Went (config_at later.execution) left → config_at later.execution ≡ turn last.x
    undone left e =
        let stepped : metered c.fuel (back here (config_at c.execution)) ≡ Went (config_at later.execution) left =
        ap (λ (k : Setting). metered c.fuel (back k (config_at c.execution))) (sym way.same) ∙ e in
        let made : IsDoneWithin c.fuel (back here (config_at c.execution)) (config_at later.execution)
        (c.fuel - left) = within_done c.fuel (back here (config_at c.execution)) (config_at later.execution)
        (c.fuel - left) (ends_done c.fuel (back here (config_at c.execution)) (config_at later.execution) left stepped)
        in
        let led = law program limits input accepted inside valid last.before last.x y last.past last.step_cost last.came
        last.goes last.step in
        let leads : back here (config_at c.execution) ≡ Done (turn last.x) led.cost =
        ap (back here) (sym (turned_twice (config_at c.execution))) ∙ led.steps in
        let is : back here (config_at c.execution) ≡ Done (config_at later.execution) (c.fuel - left) = made.is in
        cc

    pub stepped_back : metered c.fuel (back (setting_at c.execution) (config_at c.execution))
        ≡ Went (config_at later.execution) later.fuel
        → setting_at later.execution ≡ setting_at c.execution → later.execution.broken ≡ false
        → c.passed ≡ counted later.passed (next_place (config_at later.execution).past) → later.fuel ≤ c.fuel
        → IsTurned program limits input n later
    stepped_back e setting whole passed less =
        let there : config_at later.execution ≡ turn last.x = undone later.fuel e in
        let x : last.x ≡ turn (config_at later.execution) = sym (ap turn there ∙ turned_twice last.x) in
        let spent = way.spent in
        let fewer = last.less in
        let points : c.passed ≡ counted (length (seen here last.before first)) (next_place last.x.rest) =
        sym way.count ∙ last.points
        ∙ counts here last.x.params (length (seen here last.before first)) last.x.state last.x.rest in
        let known : counted later.passed (next_place last.x.rest) ≡ c.passed =
        sym (same_count later.passed last.x.rest)
        ∙ ap (λ (q : Config). counted later.passed (next_place q.past)) (sym there) ∙ sym passed in
        record {
          steps = last.before;
          cost = last.past;
          came = last.came ∙ ap (λ (q : Config). Done q last.past) x;
          spent = omega arith;
          count = counted_once (length (seen here last.before first)) later.passed (next_place last.x.rest)
              (sym points ∙ sym known);
          same = setting ∙ way.same;
          whole = whole;
        }
