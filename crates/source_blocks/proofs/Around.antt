-- A run that turns round: what is past is to come, undone.
use Rattle.std.proofs.Common.{◌≡◌, ◌<◌, ℕ, zero, suc, ◌+◌, refl, sym, ap, ap₂, subst, ◌∙◌, arith, Bool, true}
use Rattle.std.proofs.Common.{not, List, [], ◌∷◌, ◌++◌, map, reverse, length, All, set, get_or, take, drop, append-nil}
use Rattle.std.proofs.lemmas.List.{reverse-append, take_all, drop_all}
use Rattle.source_steps.specs.rpp_tree.declared.tree.Ident.{Ident}
use Rattle.source_steps.specs.rpp_tree.Tree.{Whole, Object as AnObject, Statements, Delete, End, Then, joined}
use Rattle.source_steps.specs.rpp_tree.Views.{expression_of, block_of}
use Rattle.source_steps.specs.inverse_rules.Inverse.{inverse}
use Rattle.source_steps.proofs.inverse_rules_laws.Inverses.{inverse-joined}
use Rattle.source_steps.specs.roopl_semantics.Execution.{in_direction, constructed}
use Rattle.source_steps.specs.meaning_machine.Machine.{Config, Open, OpenPart as Runs, First, Again}
use Rattle.source_steps.specs.meaning_machine.Turned.{each_undone, turned_open, turned_part, turn}
use Rattle.source_blocks.specs.declared.frames.Frame.{Frame}
use Rattle.source_blocks.specs.declared.frames.Loop.{Loop}
use Rattle.source_blocks.specs.declared.frames.Part.TheVariants as runs
use Rattle.source_blocks.specs.declared.run.Run.{Run}
use Rattle.source_blocks.specs.Blocks.{statement_at, rest_at, past_at, statement_count}
use Rattle.source_blocks.specs.Tasks.{task_of}
use Rattle.source_blocks.specs.Opens.{open_of, part_of, IsOpen}
use Rattle.source_blocks.specs.Runs.{IsSound, config_of, state_in}
use Rattle.source_blocks.proofs.Blocks.{rest_here, rest_end, count_inverse, at_inverse}
use Rattle.source_steps.proofs.roopl_semantics_laws.Changed.{direction_undone}

-- ---- blocks that are undone

-- a tactic takes only lemmas of its own crate
pub body_undone : (back : Bool) (body : Statements)
    → in_direction (not back) body ≡ inverse (in_direction back body)
body_undone back body = direction_undone back body

pub made_undone : (at : ℕ) (class name : Ident) (body : Statements)
    → inverse (constructed at class name body) ≡ constructed at class name (inverse body)
made_undone at class name body =
    let last = Delete at (AnObject class) (Whole name) in
    ap (λ r. joined r (Then last End)) (inverse-joined true body (Then last End))

-- what is past of a block undone is what was to come
pub past_undone : (body : Statements) (at after : ℕ) → at + after ≡ statement_count body
    → past_at after (inverse body) ≡ each_undone (rest_at at body)
past_undone body at zero e = sym (ap each_undone (rest_end at body (omega arith)))
past_undone body at (suc after) e =
    ap₂ (λ s b. Then s b) (at_inverse body after at (omega arith)) (past_undone body (suc at) after (omega arith))
    ∙ sym (ap each_undone (rest_here at body (omega arith)))

-- and what is to come is what was past
pub rest_undone : (body : Statements) (at after : ℕ) → at + after ≡ statement_count body
    → rest_at after (inverse body) ≡ each_undone (past_at at body)
rest_undone body zero after e = let c = count_inverse body in rest_end after (inverse body) (omega arith)
rest_undone body (suc at) after e =
    let c = count_inverse body in
    rest_here after (inverse body) (omega arith)
    ∙ ap₂ (λ s b. Then s b) (at_inverse body after at (omega arith)) (rest_undone body at (suc after) (omega arith))

-- ---- open statements

pub open_undone : (old new : Frame) → old.at + suc new.at ≡ statement_count (task_of old.task)
    → task_of new.task ≡ inverse (task_of old.task) → part_of new.part ≡ turned_part (part_of old.part)
    → open_of new ≡ turned_open (open_of old)
open_undone old new a t p =
    let body = task_of old.task in
    let stands : Statements → Runs → Open = λ (b : Statements) (q : Runs). record {
      past = past_at new.at b;
      here = statement_at new.at b;
      rest = rest_at (suc new.at) b;
      part = q;
    } in
    let undone = turned_open (open_of old) in
    ap₂ stands t p
    ∙ ap (λ b. record (stands (inverse body) (turned_part (part_of old.part))) { past = b })
    (past_undone body (suc old.at) new.at (omega arith))
    ∙ ap (λ s. record (stands (inverse body) (turned_part (part_of old.part))) { past = undone.past; here = s })
    (at_inverse body new.at old.at (omega arith))
    ∙ ap (λ b. record undone { rest = b }) (rest_undone body old.at (suc new.at) (omega arith))

pub open_within : (old new : Frame) → old.at + suc new.at ≡ statement_count (task_of old.task)
    → task_of new.task ≡ inverse (task_of old.task) → new.at < statement_count (task_of new.task)
open_within old new a t =
    let c = count_inverse (task_of old.task) in
    let d : statement_count (task_of new.task) ≡ statement_count (inverse (task_of old.task)) = ap statement_count t in
    omega arith

-- a loop undone
module _ (l : Loop) where
  abbrev undone : Loop
  undone = record l { entry = l.exit; exit = l.entry; back = not l.back }

  pub first_undone : part_of (runs.First undone) ≡ turned_part (part_of (runs.First l))
  first_undone = ap₂ (λ (a b : Statements). First (expression_of l.exit.now) a b (expression_of l.entry.now))
      (direction_undone l.back (block_of l.first.now)) (direction_undone l.back (block_of l.again.now))

  pub again_undone : part_of (runs.Again undone) ≡ turned_part (part_of (runs.Again l))
  again_undone = ap₂ (λ (a b : Statements). Again (expression_of l.exit.now) a b (expression_of l.entry.now))
      (direction_undone l.back (block_of l.first.now)) (direction_undone l.back (block_of l.again.now))

-- the first so many open statements are undone
abbrev pub turned_to : ℕ → List Open → List Open
turned_to zero os = os
turned_to (suc i) [] = []
turned_to (suc i) (o ∷ os) = turned_open o ∷ turned_to i os

pub turned_all : (os : List Open) (n : ℕ) → n ≡ length os → turned_to n os ≡ map turned_open os
turned_all [] zero h = refl
turned_all [] (suc n) h = absurd (omega arith)
turned_all (o ∷ os) zero h = absurd (omega arith)
turned_all (o ∷ os) (suc n) h = ap (λ l. turned_open o ∷ l) (turned_all os n (omega arith))

turned_more : (i : ℕ) (now : List Frame) (os : List Open) (frame was : Frame) → i < length now
    → map open_of now ≡ turned_to i os → open_of frame ≡ turned_open (open_of (get_or now i was))
    → map open_of (set now i frame) ≡ turned_to (suc i) os
turned_more i [] os frame was h e f = absurd (omega arith)
turned_more zero (x ∷ now) [] frame was h e f = cc
turned_more zero (x ∷ now) (o ∷ os) frame was h e f =
    let first : open_of x ≡ o = cc in
    let others : map open_of now ≡ os = cc in
    ap₂ (λ p l. p ∷ l) (f ∙ ap turned_open first) others
turned_more (suc i) (x ∷ now) [] frame was h e f = cc
turned_more (suc i) (x ∷ now) (o ∷ os) frame was h e f =
    let first : open_of x ≡ turned_open o = cc in
    let others : map open_of now ≡ turned_to i os = cc in
    ap₂ (λ p l. p ∷ l) first (turned_more i now os frame was (omega arith) others f)

pub turned_next : (i : ℕ) (now : List Frame) (os : List Open) (frame was : Frame) → i < length now
    → map open_of now ≡ turned_to i os → open_of frame ≡ turned_open (open_of (get_or now i was))
    → map open_of (set now i frame) ≡ turned_to (i + 1) os
turned_next i now os frame was h e f =
    let one : suc i ≡ i + 1 = omega arith in
    turned_more i now os frame was h e f ∙ ap (λ (k : ℕ). turned_to k os) one

map_append : {A B : Type 0} (f : A → B) (xs ys : List A) → map f (xs ++ ys) ≡ map f xs ++ map f ys
map_append f [] ys = refl
map_append f (x ∷ xs) ys = ap (λ l. f x ∷ l) (map_append f xs ys)

pub map_reverse : {A B : Type 0} (f : A → B) (xs : List A) → map f (reverse xs) ≡ reverse (map f xs)
map_reverse f [] = refl
map_reverse f (x ∷ xs) =
    ap (map f) (reverse-append (x ∷ []) xs) ∙ map_append f (reverse xs) (x ∷ [])
    ∙ ap (λ l. l ++ f x ∷ []) (map_reverse f xs) ∙ sym (reverse-append (f x ∷ []) (map f xs))

-- what a loop over a whole list has written is the list
pub written_whole : {A : Type 0} (now old : List A) (n : ℕ) → length now ≡ length old → n ≡ length old
    → now ≡ take n (now ++ drop (length now) old)
written_whole now old n as_many whole = sym (ap (λ l. take n (now ++ l)) (drop_all (length now) old (omega arith))
    ∙ ap (take n) (append-nil now) ∙ take_all n now (omega arith))

-- ---- the run

module _ (run new : Run) (task : task_of new.task ≡ inverse (task_of run.task))
    (at : run.at + new.at ≡ statement_count (task_of run.task))
    (same : new ≡ record run { task = new.task; at = new.at; frames = new.frames }) where
  pub turned_is : map open_of new.frames.items ≡ map turned_open (map open_of run.frames.items)
      → config_of new ≡ turn (config_of run)
  turned_is frames =
      let body = task_of run.task in
      let stands : Statements → List Open → Config = λ (b : Statements) (around : List Open). record {
        past = past_at new.at b;
        rest = rest_at new.at b;
        params = length run.params.now;
        state = state_in run;
        around = around;
      } in
      let around : map open_of (reverse new.frames.items) ≡ map turned_open (map open_of (reverse run.frames.items)) =
      map_reverse open_of new.frames.items ∙ ap reverse frames
      ∙ sym (ap (map turned_open) (map_reverse open_of run.frames.items)
      ∙ map_reverse turned_open (map open_of run.frames.items)) in
      let turned = turn (config_of run) in
      ap config_of same
      ∙ ap₂ stands task around
      ∙ ap (λ b. record turned { past = b; rest = rest_at new.at (inverse body) }) (past_undone body run.at new.at at)
      ∙ ap (λ b. record turned { rest = b }) (rest_undone body run.at new.at at)

  pub turned_sound : IsSound run → All IsOpen new.frames.items → IsSound new
  turned_sound s opens = subst IsSound (sym same) (record {
    each = s.each;
    order = s.order;
    marked = s.marked;
    opens = opens;
    within = let c = count_inverse (task_of run.task) in
        let d : statement_count (task_of new.task) ≡ statement_count (inverse (task_of run.task)) =
        ap statement_count task in
        omega arith;
  })
