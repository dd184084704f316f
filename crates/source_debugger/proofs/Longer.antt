-- More fuel prints the same.
use Rattle.std.proofs.Common.{◌≡◌, ℕ, zero, suc, ◌+◌, ◌<◌, ◌≤◌, refl, sym, ap, ◌∙◌, arith, Bool, true, false, List, []}
use Rattle.std.proofs.Common.{◌∷◌, ◌++◌, length, length-append, Option, Some, None, if◌then◌else◌}
use Rattle.std.specs.Prelude.{ℤ, slice_get, nat_eq, nat_lt}
use Rattle.std.proofs.lemmas.Bool.{lt-ltb, ltb-true, ltb-false}
use Rattle.source_courses.specs.rpp_words.declared.input.FieldWord.{FieldWord}
use Rattle.source_courses.specs.rpp_words.declared.input.Limits.{Limits}
use Rattle.source_courses.specs.rpp_tree.Tree.{Source}
use Rattle.source_courses.specs.roopl_semantics.Run.{Run, Done, Fault, More}
use Rattle.source_courses.specs.roopl_semantics.Store.{State}
use Rattle.source_courses.specs.roopl_semantics.Execution.{Setting, exec}
use Rattle.source_courses.specs.roopl_semantics.Source.{main_body, starting}
use Rattle.source_lines.specs.meaning_points.Points.{Point, points}
use Rattle.source_lines.specs.meaning_points.Trail.{Trail, trail}
use Rattle.source_courses.proofs.meaning_points_laws.Growing.{points_added, points_done, points_fault}
use Rattle.source_courses.specs.pisa_scripts.declared.command.Command.{Command}
use Rattle.source_courses.specs.pisa_scripts.declared.command.Command.TheVariants.{Step, Back, To, BackTo, Regs, Cells}
use Rattle.source_courses.specs.declared.moves.TheConstants.{LAST_POSITION}
use Rattle.source_courses.specs.declared.moves.Walk.{Walk}
use Rattle.source_courses.specs.declared.moves.Ending.TheVariants.{Made}
use Rattle.source_courses.specs.Walks.{Stand, Unknown, end_stand, point_stand, stand_at, has_place, is_at, Onward}
use Rattle.source_courses.specs.Walks.{Moves, Stays, beyond, onward, ends, move_on, forward, backward}
use Rattle.source_debugger.specs.Shown.{Told, line_at, regs_at, cells_shown_at, reply_at, walked_trail, told_by, behind_text, and_told}
use Rattle.source_debugger.specs.Shown.{told}

-- a longer trail of the same run: the same one if the run is over, else one with more trace points
data IsLonger (short long : Trail) : Type 0 where
  same : long ≡ short → IsLonger short long
  longer : short.end ≡ More → (more : List Point) → long.points ≡ short.points ++ more → IsLonger short long

-- ---- trails that go on

get_front : (ps more : List Point) (j : ℕ) → j < length ps → slice_get (ps ++ more) j ≡ slice_get ps j
get_front [] more j h = absurd (omega arith)
get_front (p ∷ ps) more zero h = refl
get_front (p ∷ ps) more (suc j) h = get_front ps more j (omega arith)

get_past : (ps : List Point) (j : ℕ) → length ps ≤ j → slice_get ps j ≡ None
get_past [] j h = refl
get_past (p ∷ ps) zero h = absurd (omega arith)
get_past (p ∷ ps) (suc j) h = get_past ps j (omega arith)

some_there : (ps : List Point) (j : ℕ) → j < length ps → slice_get ps j ≡ None → ⊥
some_there [] j h e = absurd (omega arith)
some_there (p ∷ ps) zero h e = cc
some_there (p ∷ ps) (suc j) h e = some_there ps j (omega arith) e

module _ (short long : Trail) (more : List Point) (open_end : short.end ≡ More)
    (on : long.points ≡ short.points ++ more) where
  some_points : length short.points ≤ length long.points
  some_points = let a = ap length on in let b = length-append short.points more in omega arith

  stand_front : (j : ℕ) → j < length short.points → stand_at long j ≡ stand_at short j
  stand_front j h = by (slice_get short.points j) refl
    where
      rest : Bool → Run State → Stand
      rest b end = if b then end_stand end else Unknown

      by : (o : Option Point) → slice_get short.points j ≡ o → stand_at long j ≡ stand_at short j
      by (Some p) e =
          ap (λ o. point_stand o (rest (nat_eq j (length long.points)) long.end))
          (ap (λ ps. slice_get ps j) on ∙ get_front short.points more j h ∙ e)
          ∙ sym (ap (λ o. point_stand o (rest (nat_eq j (length short.points)) short.end)) e)
      by None e = absurd (some_there short.points j h e)

  is_front : (place : Option ℤ) (j : ℕ) → j < length short.points → is_at long place j ≡ is_at short place j
  is_front None j h = refl
  is_front (Some place) j h = ap (has_place place) (stand_front j h)

  -- after its trace points the shorter trail is not known
  hidden : (j : ℕ) → length short.points ≤ j → stand_at short j ≡ Unknown
  hidden j h = ap (λ o. point_stand o (if nat_eq j (length short.points) then end_stand short.end else Unknown))
      (get_past short.points j h) ∙ ap (λ end. if nat_eq j (length short.points) then end_stand end else Unknown)
      open_end ∙ by (nat_eq j (length short.points))
    where
      by : (b : Bool) → (if b then end_stand More else Unknown) ≡ Unknown
      by true = refl
      by false = refl

  abbrev onward_by : Bool → Bool → Bool → Run State → Onward
  onward_by below further here end = if below then (if further then Moves else beyond here end) else Stays Made

  abbrev BelowForward : Option ℤ → ℕ → ℕ → Walk → Type 0
  BelowForward place n j w = forward short place n (j + 1) ≡ Some w → forward long place n (j + 1) ≡ Some w

  forward_front : (place : Option ℤ) (n j : ℕ) (w : Walk) → forward short place n j ≡ Some w
      → forward long place n j ≡ Some w
  forward_front place zero j w e = e
  forward_front place (suc n) j w e = by_last (λ is. forward_front place n (j + 1) w is) (nat_lt j LAST_POSITION) refl
    where
      step_of : Trail → Onward → Option Walk
      step_of t o = move_on o j (if is_at t place (j + 1) then Some (ends (j + 1) Made) else forward t place n (j + 1))

      onward_short : (b c : Bool) → nat_lt j LAST_POSITION ≡ b → nat_lt (j + 1) (length short.points) ≡ c
          → onward short j ≡ onward_by b c (nat_lt j (length short.points)) More
      onward_short b c p q =
          ap (λ x. onward_by x (nat_lt (j + 1) (length short.points)) (nat_lt j (length short.points)) short.end) p
          ∙ ap (λ x. onward_by b x (nat_lt j (length short.points)) short.end) q
          ∙ ap (onward_by b c (nat_lt j (length short.points))) open_end

      onward_long : (b c : Bool) → nat_lt j LAST_POSITION ≡ b → nat_lt (j + 1) (length long.points) ≡ c
          → onward long j ≡ onward_by b c (nat_lt j (length long.points)) long.end
      onward_long b c p q =
          ap (λ x. onward_by x (nat_lt (j + 1) (length long.points)) (nat_lt j (length long.points)) long.end) p
          ∙ ap (λ x. onward_by b x (nat_lt j (length long.points)) long.end) q

      by_place : BelowForward place n j w → (b : Bool) → (if b then Some (ends (j + 1) Made) else forward short place n
          (j + 1)) ≡ Some w → (if b then Some (ends (j + 1) Made) else forward long place n (j + 1)) ≡ Some w
      by_place below true e = e
      by_place below false e = below e

      by_more : BelowForward place n j w → nat_lt j LAST_POSITION ≡ true → (c : Bool)
          → nat_lt (j + 1) (length short.points) ≡ c → forward long place (suc n) j ≡ Some w
      by_more below p true q =
          let l = ltb-true (j + 1) (length short.points) q in
          let s = some_points in
          let there = is_front place (j + 1) l in
          ap (step_of long) (onward_long true true p (lt-ltb (j + 1) (length long.points) (omega arith)))
          ∙ ap (λ b. if b then Some (ends (j + 1) Made) else forward long place n (j + 1)) there
          ∙ by_place below (is_at short place (j + 1)) (sym (ap (step_of short) (onward_short true true p q)) ∙ e)
      by_more below p false q = let no : None ≡ Some w = sym (ap (step_of short) (onward_short true false p q))
          ∙ e in cc

      by_last : BelowForward place n j w → (b : Bool) → nat_lt j LAST_POSITION ≡ b
          → forward long place (suc n) j ≡ Some w
      by_last below false p =
          ap (step_of long) (onward_long false (nat_lt (j + 1) (length long.points)) p refl)
          ∙ sym (ap (step_of short) (onward_short false (nat_lt (j + 1) (length short.points)) p refl)) ∙ e
      by_last below true p = by_more below p (nat_lt (j + 1) (length short.points)) refl

  backward_front : (place : Option ℤ) (n j : ℕ) → j ≤ length short.points
      → backward long place n j ≡ backward short place n j
  backward_front place zero j h = refl
  backward_front place (suc n) zero h = refl
  backward_front place (suc n) (suc j) h =
      ap (λ b. if b then ends j Made else backward long place n j) (is_front place j (omega arith))
      ∙ ap (λ w. if is_at short place j then ends j Made else w) (backward_front place n j (omega arith))

  -- what is printed leads to a position of the shorter trail
  record SameAnswer (a b : Option Told) (t : Told) : Type 0 where
    then_same : b ≡ Some t
    inside : t.position < length short.points

  told_at : (j : ℕ) (text : Stand → Option (List ℕ)) (t : Told) → text Unknown ≡ None
      → reply_at j (text (stand_at short j)) ≡ Some t → SameAnswer (reply_at j (text (stand_at short j)))
      (reply_at j (text (stand_at long j))) t
  told_at j text t none e = by (nat_lt j (length short.points)) refl
    where
      position_is : (o : Option (List ℕ)) → reply_at j o ≡ Some t → j ≡ t.position
      position_is None e = cc
      position_is (Some x) e = cc

      by : (b : Bool) → nat_lt j (length short.points) ≡ b
          → SameAnswer (reply_at j (text (stand_at short j))) (reply_at j (text (stand_at long j))) t
      by true l =
          let less = ltb-true j (length short.points) l in
          let at = position_is (text (stand_at short j)) e in
          record { then_same = ap (λ s. reply_at j (text s)) (stand_front j less) ∙ e; inside = omega arith }
      by false l =
          let past = ltb-false j (length short.points) l in
          let no : None ≡ Some t = sym (ap (λ s. reply_at j (text s)) (hidden j past) ∙ ap (reply_at j) none) ∙ e in
          cc

  walked_same : (a b : Option Walk) (t : Told) → ((w : Walk) → a ≡ Some w → b ≡ Some w) → walked_trail short a ≡ Some t
      → SameAnswer (walked_trail short a) (walked_trail long b) t
  walked_same None b t h e = cc
  walked_same (Some w) b t h e =
      let same = told_at w.position (λ s. line_at w.position s w.ending) t refl e in
      record { then_same = ap (walked_trail long) (h w refl) ∙ same.then_same; inside = same.inside }

  told_same : (program : Source) (command : Command) (j : ℕ) (t : Told) → j ≤ length short.points
      → told_by program short command j ≡ Some t → SameAnswer (told_by program short command j)
      (told_by program long command j) t
  told_same program (Step n) j t h e = walked_same (forward short None n j) (forward long None n j) t
      (λ w. forward_front None n j w) e
  told_same program (Back n) j t h e = walked_same (Some (backward short None n j)) (Some (backward long None n j)) t
      (λ w is. ap Some (backward_front None n j h) ∙ is) e
  told_same program (To place n) j t h e = walked_same (forward short (Some place) n j) (forward long (Some place) n j)
      t (λ w. forward_front (Some place) n j w) e
  told_same program (BackTo place n) j t h e = walked_same (Some (backward short (Some place) n j))
      (Some (backward long (Some place) n j)) t (λ w is. ap Some (backward_front (Some place) n j h) ∙ is) e
  told_same program Regs j t h e = told_at j (regs_at program) t refl e
  told_same program (Cells from count) j t h e = told_at j (cells_shown_at program from count) t refl e

  abbrev BelowAll : Source → List Command → Type 0
  BelowAll program commands = (k : ℕ) (u : Told) → k ≤ length short.points → told program short commands k ≡ Some u
      → told program long commands k ≡ Some u

  all_same : (program : Source) (commands : List Command) (j : ℕ) (t : Told) → j ≤ length short.points
      → told program short commands j ≡ Some t → told program long commands j ≡ Some t
  all_same program [] j t h e = e
  all_same program (command ∷ commands) j t h e = by (λ k u within is. all_same program commands k u within is)
      (told_by program short command j) refl e
    where
      rest_same : BelowAll program commands → (x : Told) (o : Option Told) → told program short commands x.position ≡ o
          → x.position ≤ length short.points → behind_text x.text o ≡ Some t
          → behind_text x.text (told program long commands x.position) ≡ Some t
      rest_same below x None is h e = cc
      rest_same below x (Some y) is h e = ap (behind_text x.text) (below x.position y h is) ∙ e

      by : BelowAll program commands → (o : Option Told) → told_by program short command j ≡ o
          → and_told o (told program short commands) ≡ Some t → told program long (command ∷ commands) j ≡ Some t
      by below None is e = cc
      by below (Some x) is e =
          let same = told_same program command j x h is in
          let within = same.inside in
          ap (λ o. and_told o (told program long commands)) same.then_same
          ∙ rest_same below x (told program short commands x.position) refl (omega arith) e

-- ---- the law

trails_on : (program : Source) (limits : Limits) (input : List FieldWord) (n m : ℕ) → n ≤ m
    → IsLonger (trail program limits input n) (trail program limits input m)
trails_on program limits input n m h = by (exec here n (main_body program) (starting program input)) refl
  where
    here : Setting
    here = record { program = program; limits = limits }

    by : (r : Run State) → exec here n (main_body program) (starting program input) ≡ r
        → IsLonger (trail program limits input n) (trail program limits input m)
    by (Done end cost) e =
        let on = points_done here n m 0 (main_body program) (starting program input) end cost h e in
        same (ap (λ ps. record { points = ps; end = exec here m (main_body program) (starting program input) }) on.0
        ∙ ap (λ r. record { points = points here n 0 (main_body program) (starting program input); end = r })
        (on.1 ∙ sym e))
    by (Fault code cost) e =
        let on = points_fault here n m 0 (main_body program) (starting program input) code cost h e in
        same (ap (λ ps. record { points = ps; end = exec here m (main_body program) (starting program input) }) on.0
        ∙ ap (λ r. record { points = points here n 0 (main_body program) (starting program input); end = r })
        (on.1 ∙ sym e))
    by More e = let on = points_added here n m 0 (main_body program) (starting program input) h in longer e on.0 on.1

pub more_fuel_tells : (program : Source) (limits : Limits) (input : List FieldWord) (commands : List Command) (n m : ℕ)
    (t : Told) → n ≤ m
    → told program (trail program limits input n) commands 0 ≡ Some t
    → told program (trail program limits input m) commands 0 ≡ Some t
more_fuel_tells program limits input commands n m t h e = by (trails_on program limits input n m h)
  where
    by : IsLonger (trail program limits input n) (trail program limits input m)
        → told program (trail program limits input m) commands 0 ≡ Some t
    by (same is) = ap (λ (x : Trail). told program x commands 0) is ∙ e
    by (longer open_end more on) = all_same (trail program limits input n) (trail program limits input m) more open_end
        on program commands 0 t (omega arith) e
