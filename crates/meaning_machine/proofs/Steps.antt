-- Many steps of the machine, put together.
use Rattle.std.proofs.Common.{◌≡◌, ℕ, zero, suc, ◌+◌, ◌≤◌, refl, sym, ap, subst, ◌∙◌, arith, append-nil, append_assoc}
use Rattle.std.proofs.Common.{List, [], ◌++◌}
use Rattle.std.specs.Prelude.{Result, Ok, Err}
use Rattle.meaning_points.specs.roopl_semantics.Run.{Run, Done, Fault, More, after_cost, ◌>>=◌, give, given}
use Rattle.meaning_points.specs.roopl_semantics.Execution.{Setting}
use Rattle.meaning_points.specs.Points.{Point, points_behind}
use Rattle.meaning_machine.specs.Machine.{Config, next, walk, seen, point_of}

-- ---- runs

pub after_zero : {A : Type 0} (r : Run A) → after_cost 0 r ≡ r
after_zero (Done a c) = ap (λ n. Done a n) (omega arith)
after_zero (Fault code c) = ap (λ n. Fault code n) (omega arith)
after_zero More = refl

after_after : {A : Type 0} (a b : ℕ) (r : Run A) → after_cost a (after_cost b r) ≡ after_cost (a + b) r
after_after a b (Done x c) = ap (λ n. Done x n) (omega arith)
after_after a b (Fault code c) = ap (λ n. Fault code n) (omega arith)
after_after a b More = refl

then_after : {A B : Type 0} (c : ℕ) (r : Run A) (f : A → Run B) → (after_cost c r >>= f) ≡ after_cost c (r >>= f)
then_after c (Done x d) f = sym (after_after c d (f x))
then_after c (Fault code d) f = refl
then_after c More f = refl

then_then : {A B C : Type 0} (r : Run A) (f : A → Run B) (g : B → Run C) → ((r >>= f) >>= g) ≡ (r >>= (λ a. f a >>= g))
then_then (Done x c) f g = then_after c (f x) g
then_then (Fault code c) f g = refl
then_then More f g = refl

then_same : {A B : Type 0} (r : Run A) (f g : A → Run B) → ((a : A) → f a ≡ g a) → (r >>= f) ≡ (r >>= g)
then_same (Done x c) f g h = ap (after_cost c) (h x)
then_same (Fault code c) f g h = refl
then_same More f g h = refl

-- ---- lists of trace points after runs

behind_after : {A : Type 0} (c : ℕ) (r : Run A) (f : A → List Point)
    → points_behind (after_cost c r) f ≡ points_behind r f
behind_after c (Done x d) f = refl
behind_after c (Fault code d) f = refl
behind_after c More f = refl

behind_same : {A : Type 0} (r : Run A) (f g : A → List Point) → ((a : A) → f a ≡ g a)
    → points_behind r f ≡ points_behind r g
behind_same (Done x d) f g h = h x
behind_same (Fault code d) f g h = refl
behind_same More f g h = refl

behind_both : {A B : Type 0} (r : Run A) (f : A → List Point) (g : A → Run B) (h : B → List Point)
    → points_behind r (λ a. f a ++ points_behind (g a) h) ≡ points_behind r f ++ points_behind (r >>= g) h
behind_both (Done x c) f g h = ap (λ l. f x ++ l) (sym (behind_after c (g x) h))
behind_both (Fault code c) f g h = refl
behind_both More f g h = refl

pub behind_nothing : {A : Type 0} (r : Run A) → points_behind r (λ a. []) ≡ []
behind_nothing (Done x c) = refl
behind_nothing (Fault code c) = refl
behind_nothing More = refl

-- ---- a run that is not aborted

abbrev SureRun : {A : Type 0} → Run A → Type 0
SureRun (Done a c) = Unit {0}
SureRun (Fault code c) = Unit {0}
SureRun More = ⊥

pub record IsSure {A : Type 0} (r : Run A) : Type 0 where
  pub by : SureRun r

pub sure_after : {A : Type 0} (c : ℕ) (r : Run A) → IsSure r → IsSure (after_cost c r)
sure_after c (Done x d) h = record { by = tt }
sure_after c (Fault code d) h = record { by = tt }
sure_after c More h = absurd h.by

pub sure_then : {A B : Type 0} (r : Run A) (f : A → Run B) → IsSure r → ((a : A) → IsSure (f a)) → IsSure (r >>= f)
sure_then (Done x c) f h k = sure_after c (f x) (k x)
sure_then (Fault code c) f h k = record { by = tt }
sure_then More f h k = absurd h.by

pub sure_done : {A : Type 0} (a : A) (c : ℕ) → IsSure (Done a c)
sure_done a c = record { by = tt }

pub sure_given : {A : Type 0} (c : ℕ) (v : Result A ℕ) → IsSure (after_cost c (given v))
sure_given c (Ok a) = record { by = tt }
sure_given c (Err code) = record { by = tt }

-- ---- numbers of steps

abbrev pub plus : ℕ → ℕ → ℕ
plus zero b = b
plus (suc a) b = suc (plus a b)

module _ (setting : Setting) where
  pub walk_plus : (a b : ℕ) (x : Config) → walk setting (plus a b) x ≡ (walk setting a x >>= walk setting b)
  walk_plus zero b x = sym (after_zero (walk setting b x))
  walk_plus (suc a) b x =
      then_same (next setting x) _ (λ y. walk setting a y >>= walk setting b) (walk_plus a b)
      ∙ sym (then_then (next setting x) (walk setting a) (walk setting b))

  pub seen_plus : (a b : ℕ) (x : Config) → seen setting (plus a b) x
      ≡ seen setting a x ++ points_behind (walk setting a x) (seen setting b)
  seen_plus zero b x = refl
  seen_plus (suc a) b x =
      ap (λ l. point_of setting x.params x.state x.rest ++ l)
      (behind_same (next setting x) (seen setting (plus a b))
      (λ y. seen setting a y ++ points_behind (walk setting a y) (seen setting b)) (seen_plus a b)
      ∙ behind_both (next setting x) (seen setting a) (walk setting a) (seen setting b))
      ∙ sym (append_assoc (point_of setting x.params x.state x.rest) (points_behind (next setting x) (seen setting a))
      (points_behind (next setting x >>= walk setting a) (seen setting b)))

  then_walk : (p : Run Config) (a b : ℕ) → (p >>= walk setting (plus a b)) ≡ ((p >>= walk setting a) >>= walk setting b)
  then_walk p a b = then_same p _ (λ y. walk setting a y >>= walk setting b) (walk_plus a b)
      ∙ sym (then_then p (walk setting a) (walk setting b))

  behind_seen : (p : Run Config) (a b : ℕ) → points_behind p (seen setting (plus a b))
      ≡ points_behind p (seen setting a) ++ points_behind (p >>= walk setting a) (seen setting b)
  behind_seen p a b =
      behind_same p (seen setting (plus a b)) (λ y. seen setting a y
      ++ points_behind (walk setting a y) (seen setting b))
      (seen_plus a b)
      ∙ behind_both p (seen setting a) (walk setting a) (seen setting b)

  -- ---- what follows a step that gives p

  pub record Comes (p : Run Config) (y : Config) (cost : ℕ) (ps : List Point) : Type 0 where
    pub steps : ℕ
    pub walks : (p >>= walk setting steps) ≡ Done y cost
    pub points : points_behind p (seen setting steps) ≡ ps

  pub record Faults (p : Run Config) (code cost : ℕ) (ps : List Point) : Type 0 where
    pub steps : ℕ
    pub walks : (p >>= walk setting steps) ≡ Fault code cost
    pub points : points_behind p (seen setting steps) ≡ ps

  pub record Lasts (p : Run Config) (bound : ℕ) (ps : List Point) : Type 0 where
    pub to : Config
    pub steps : ℕ
    pub cost : ℕ
    pub walks : (p >>= walk setting steps) ≡ Done to cost
    pub enough : bound ≤ cost
    pub points : points_behind p (seen setting steps) ≡ ps

  abbrev pub Goes : {A : Type 0} → ℕ → Run Config → (A → Config) → Run A → List Point → Type 0
  Goes bound p y (Done end cost) ps = Comes p (y end) cost ps
  Goes bound p y (Fault code cost) ps = Faults p code cost ps
  Goes bound p y More ps = Lasts p bound ps

  pub spent : {A : Type 0} (m n c : ℕ) (p : Run Config) (y : A → Config) (r : Run A) (ps : List Point) → m ≤ n + c
      → Goes n p y r ps → Goes m (after_cost c p) y (after_cost c r) ps
  spent m n c p y (Done end cost) ps h g =
      record {
        steps = g.steps;
        walks = then_after c p (walk setting g.steps)
            ∙ ap (after_cost c) g.walks;
        points = behind_after c p (seen setting g.steps) ∙ g.points;
      }
  spent m n c p y (Fault code cost) ps h g =
      record {
        steps = g.steps;
        walks = then_after c p (walk setting g.steps)
            ∙ ap (after_cost c) g.walks;
        points = behind_after c p (seen setting g.steps) ∙ g.points;
      }
  spent m n c p y More ps h g =
      record {
        to = g.to;
        steps = g.steps;
        cost = c + g.cost;
        walks = then_after c p (walk setting g.steps) ∙ ap (after_cost c) g.walks;
        enough = (let l = g.enough in omega arith);
        points = behind_after c p (seen setting g.steps) ∙ g.points;
      }

  pub fewer : {A : Type 0} (m n : ℕ) (p : Run Config) (y : A → Config) (r : Run A) (ps : List Point) → m ≤ n
      → Goes n p y r ps → Goes m p y r ps
  fewer m n p y (Done end cost) ps h g = g
  fewer m n p y (Fault code cost) ps h g = g
  fewer m n p y More ps h g = record {
    to = g.to;
    steps = g.steps;
    cost = g.cost;
    walks = g.walks;
    enough = (let l = g.enough in omega arith);
    points = g.points;
  }

  -- the same sure start
  pub over : {A B : Type 0} (n : ℕ) (q : Run B) (f : B → Run Config) (y : A → Config) (g : B → Run A)
      (h : B → List Point) → IsSure q → ((b : B) → Goes n (f b) y (g b) (h b))
      → Goes n (q >>= f) y (q >>= g) (points_behind q h)
  over n (Done b c) f y g h sure goes = spent n n c (f b) y (g b) (h b) (omega arith) (goes b)
  over n (Fault code c) f y g h sure goes = record { steps = 0; walks = refl; points = refl }
  over n More f y g h sure goes = absurd sure.by

  pub over_silently : {A B : Type 0} (n : ℕ) (q : Run B) (f : B → Run Config) (y : A → Config) (g : B → Run A)
      → IsSure q → ((b : B) → Goes n (f b) y (g b) []) → Goes n (q >>= f) y (q >>= g) []
  over_silently n (Done b c) f y g sure goes = spent n n c (f b) y (g b) [] (omega arith) (goes b)
  over_silently n (Fault code c) f y g sure goes = record { steps = 0; walks = refl; points = refl }
  over_silently n More f y g sure goes = absurd sure.by

  -- a value that costs something
  pub over_value : {A B : Type 0} (m n c : ℕ) (v : Result B ℕ) (f : B → Run Config) (y : A → Config) (g : B → Run A)
      (h : B → List Point) → m ≤ n + c → ((b : B) → Goes n (f b) y (g b) (h b))
      → Goes m (after_cost c (given v) >>= f) y (after_cost c (given v) >>= g)
      (points_behind (after_cost c (given v)) h)
  over_value m n c (Ok b) f y g h le goes = spent m n (c + 0) (f b) y (g b) (h b) (omega arith) (goes b)
  over_value m n c (Err code) f y g h le goes = record { steps = 0; walks = refl; points = refl }

  -- a step more
  pub go : {A : Type 0} (n : ℕ) (x : Config) (y : A → Config) (r : Run A) (ps : List Point)
      → Goes n (next setting x) y r ps → Goes n (give x) y r (point_of setting x.params x.state x.rest ++ ps)
  go n x y (Done end cost) ps g =
      record {
        steps = suc g.steps;
        walks = after_zero (next setting x >>= walk setting g.steps)
            ∙ g.walks;
        points = ap (λ l. point_of setting x.params x.state x.rest ++ l) g.points;
      }
  go n x y (Fault code cost) ps g =
      record {
        steps = suc g.steps;
        walks = after_zero (next setting x >>= walk setting g.steps)
            ∙ g.walks;
        points = ap (λ l. point_of setting x.params x.state x.rest ++ l) g.points;
      }
  go n x y More ps g =
      record {
        to = g.to;
        steps = suc g.steps;
        cost = g.cost;
        walks = after_zero (next setting x >>= walk setting g.steps)
            ∙ g.walks;
        enough = g.enough;
        points = ap (λ l. point_of setting x.params x.state x.rest ++ l) g.points;
      }

  pub stay : {A : Type 0} (n : ℕ) (y : A → Config) (end : A) → Goes n (give (y end)) y (give end) []
  stay n y end = record { steps = 0; walks = refl; points = refl }

  pub waits : {A : Type 0} (x : Config) (y : A → Config) → Goes {A = A} 0 (give x) y More []
  waits x y = record { to = x; steps = 0; cost = 0; walks = refl; enough = omega arith; points = refl }

  -- a step that does all
  pub at_once : {A : Type 0} (n : ℕ) (y : A → Config) (q : Run A) → IsSure q → Goes n (q >>= (λ a. give (y a))) y q []
  at_once n y (Done a c) sure = record { steps = 0; walks = ap (λ n. Done (y a) n) (omega arith); points = refl }
  at_once n y (Fault code c) sure = record { steps = 0; walks = refl; points = refl }
  at_once n y More sure = absurd sure.by

  -- one after the other
  pub on : {A B : Type 0} (n : ℕ) (p : Run Config) (x : A → Config) (y : B → Config) (r : Run A) (f : A → Run B)
      (ps : List Point) (h : A → List Point)
      → Goes n p x r ps → ((a : A) → Goes n (give (x a)) y (f a) (h a)) → Goes n p y (r >>= f) (ps ++ points_behind r h)
  on {B = B} n p x y (Done a c) f ps h g goes = onward (f a) (goes a)
    where
      stepped : (s t : ℕ) → (p >>= walk setting s) ≡ Done (x a) c
          → (p >>= walk setting (plus s t)) ≡ after_cost c (walk setting t (x a))
      stepped s t e = then_walk p s t ∙ ap (λ z. z >>= walk setting t) e

      listed : (s t : ℕ) → (p >>= walk setting s) ≡ Done (x a) c → points_behind p (seen setting s) ≡ ps
          → points_behind p (seen setting (plus s t)) ≡ ps ++ seen setting t (x a)
      listed s t e l = behind_seen p s t ∙ ap (λ z. points_behind p (seen setting s)
          ++ points_behind z (seen setting t)) e
          ∙ ap (λ z. z ++ seen setting t (x a)) l

      onward : (s : Run B) → Goes n (give (x a)) y s (h a) → Goes n p y (after_cost c s) (ps ++ h a)
      onward (Done end cost) k =
          record {
            steps = plus g.steps k.steps;
            walks = stepped g.steps k.steps g.walks ∙ ap (after_cost c)
                (sym (after_zero (walk setting k.steps (x a))) ∙ k.walks);
            points = listed g.steps k.steps g.walks g.points ∙ ap (λ l. ps ++ l) k.points;
          }
      onward (Fault code cost) k =
          record {
            steps = plus g.steps k.steps;
            walks = stepped g.steps k.steps g.walks ∙ ap (after_cost c)
                (sym (after_zero (walk setting k.steps (x a))) ∙ k.walks);
            points = listed g.steps k.steps g.walks g.points ∙ ap (λ l. ps ++ l) k.points;
          }
      onward More k =
          record {
            to = k.to;
            steps = plus g.steps k.steps;
            cost = c + k.cost;
            walks = stepped g.steps k.steps g.walks ∙ ap (after_cost c)
                (sym (after_zero (walk setting k.steps (x a))) ∙ k.walks);
            enough = (let l = k.enough in omega arith);
            points = listed g.steps k.steps g.walks g.points ∙ ap (λ l. ps ++ l) k.points;
          }
  on n p x y (Fault code c) f ps h g goes = record {
    steps = g.steps;
    walks = g.walks;
    points = g.points
        ∙ sym (append-nil ps);
  }
  on n p x y More f ps h g goes = record {
    to = g.to;
    steps = g.steps;
    cost = g.cost;
    walks = g.walks;
    enough = g.enough;
    points = g.points ∙ sym (append-nil ps);
  }

  pub on_silently : {A B : Type 0} (n : ℕ) (p : Run Config) (x : A → Config) (y : B → Config) (r : Run A)
      (f : A → Run B) (ps : List Point)
      → Goes n p x r ps → ((a : A) → Goes n (give (x a)) y (f a) []) → Goes n p y (r >>= f) ps
  on_silently n p x y r f ps g goes =
      let P : List Point → Type 0 = λ l. Goes n p y (r >>= f) l in
      subst P (ap (λ l. ps ++ l) (behind_nothing r) ∙ append-nil ps) (on n p x y r f ps (λ a. []) g goes)
