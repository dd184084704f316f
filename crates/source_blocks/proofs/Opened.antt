-- Blocks that are opened and closed, as the machine sees them.
use Rattle.std.proofs.Common.{◌≡◌, ◌<◌, ℕ, zero, suc, ◌+◌, refl, sym, ap, ap₂, subst, ◌∙◌, arith, List, [], ◌∷◌, ◌++◌, map}
use Rattle.std.proofs.Common.{reverse, length, All, Some, Bool}
use Rattle.std.proofs.lemmas.List.{reverse-append, length-append, length-map, length-reverse}
use Rattle.std.specs.Prelude.{slice_get, slice_set}
use Rattle.std.proofs.lemmas.List.Elements.{All-push, All-pop}
use Rattle.source_steps.specs.rpp_tree.Tree.{Statements, End}
use Rattle.source_steps.specs.meaning_machine.Machine.{Config, Open, OpenPart as Runs, past_it, inside}
use Rattle.source_blocks.specs.declared.task.Task.{Task}
use Rattle.source_blocks.specs.declared.frames.Part.{Part}
use Rattle.source_blocks.specs.declared.frames.Frame.{Frame}
use Rattle.source_blocks.specs.declared.run.Run.{Run}
use Rattle.source_blocks.specs.Blocks.{statement_count}
use Rattle.source_blocks.specs.Tasks.{task_of}
use Rattle.source_blocks.specs.Opens.{open_of, part_of, IsOpen, HasPart}
use Rattle.source_blocks.specs.Turns.{loop_part, gone_over, Changed}
use Rattle.source_blocks.specs.Runs.{IsSound, config_of, state_in, here_in, rest_in, leaving}

-- one more open statement is the innermost
pub around_more : (frames : List Frame) (frame : Frame)
    → map open_of (reverse (frames ++ frame ∷ [])) ≡ open_of frame ∷ map open_of (reverse frames)
around_more frames frame = ap (map open_of) (reverse-append frames (frame ∷ []))

pub passed : (run : Run) (next : ℕ) → next ≡ run.at + 1
    → config_of (record run { at = next }) ≡ past_it (config_of run) (here_in run) (rest_in run) (state_in run)
passed run next e =
    let same : next ≡ suc run.at = omega arith in
    ap (λ n. config_of (record run { at = n })) same

module _ (run new : Run) where
  pub opened_is : (part : Part) (task : Task) → new ≡ record run { task = task; at = 0; frames = new.frames }
      → new.frames.items ≡ run.frames.items ++ record { task = run.task; at = run.at; part = part } ∷ []
      → config_of new ≡ inside (config_of run) (here_in run) (rest_in run) (part_of part) (task_of task) (state_in run)
  opened_is part task e f =
      let build : List Open → Config = λ around. record {
        past = End;
        rest = task_of task;
        params = length run.params.now;
        state = state_in run;
        around = around;
      } in
      ap config_of e
      ∙ ap build (ap (λ frames. map open_of (reverse frames)) f
      ∙ around_more run.frames.items (record { task = run.task; at = run.at; part = part }))

  pub closed_is : (frame : Frame) (next : ℕ) → run.frames.items ≡ new.frames.items ++ frame ∷ []
      → next ≡ frame.at + 1 → new ≡ record run { task = frame.task; at = next; frames = new.frames }
      → config_of new ≡ leaving (config_of run) (config_of run).around
  closed_is frame next f n e =
      let same : next ≡ suc frame.at = omega arith in
      let outer : (config_of run).around ≡ open_of frame ∷ map open_of (reverse new.frames.items) =
      ap (λ frames. map open_of (reverse frames)) f ∙ around_more new.frames.items frame in
      ap config_of e
      ∙ ap (λ n. config_of (record run { task = frame.task; at = n; frames = new.frames })) same
      ∙ sym (ap (leaving (config_of run)) outer)

pub passed_sound : (run : Run) (next : ℕ) → next ≡ run.at + 1 → run.at < statement_count (task_of run.task) → IsSound run
    → IsSound (record run { at = next })
passed_sound run next e h s = record {
  each = s.each;
  order = s.order;
  marked = s.marked;
  opens = s.opens;
  within = omega arith;
}

module _ (run new : Run) (frame : Frame) where
  pub opened_sound : (task : Task) → new ≡ record run { task = task; at = 0; frames = new.frames }
      → new.frames.items ≡ run.frames.items ++ frame ∷ [] → IsSound run → IsOpen frame → IsSound new
  opened_sound task e f s o = subst IsSound (sym e) (record {
    each = s.each;
    order = s.order;
    marked = s.marked;
    opens = subst (All IsOpen) (sym f) (All-push IsOpen run.frames.items frame s.opens o);
    within = omega arith;
  })

  pub frame_open : run.frames.items ≡ new.frames.items ++ frame ∷ [] → IsSound run → IsOpen frame
  frame_open f s = (All-pop IsOpen run.frames.items new.frames.items (Some frame) f s.opens).1

  pub closed_sound : (next : ℕ) → next ≡ frame.at + 1
      → new ≡ record run { task = frame.task; at = next; frames = new.frames }
      → run.frames.items ≡ new.frames.items ++ frame ∷ [] → IsSound run → IsSound new
  closed_sound next n e f s = let o = (frame_open f s).within in subst IsSound (sym e) (record {
    each = s.each;
    order = s.order;
    marked = s.marked;
    opens = (All-pop IsOpen run.frames.items new.frames.items (Some frame) f s.opens).0;
    within = omega arith;
  })

-- the innermost open statement goes on in a part of its iteration
module _ (run new : Run) (second : Bool) (task : Task)
    (h : Changed second run.frames.items new.frames.items (task_of task))
    (e : new ≡ record run { task = task; at = 0; frames = new.frames }) where
  pub over_is : config_of new ≡ gone_over second (config_of run) (config_of run).around
  over_is =
      let outer : (config_of run).around ≡ open_of h.first ∷ map open_of (reverse h.front) =
      ap (λ frames. map open_of (reverse frames)) h.was ∙ around_more h.front h.first in
      let changed : Open = record (open_of h.first) { part = loop_part second (part_of h.first.part) } in
      let inner : (config_of new).around ≡ changed ∷ map open_of (reverse h.front) =
      ap (λ frames. map open_of (reverse frames)) h.is ∙ around_more h.front h.last
      ∙ ap (λ o. o ∷ map open_of (reverse h.front)) h.turned in
      let build : List Open → Statements → Config = λ around body. record {
        past = End;
        rest = body;
        params = length run.params.now;
        state = state_in run;
        around = around;
      } in
      ap config_of e ∙ ap₂ build inner h.task ∙ sym (ap (gone_over second (config_of run)) outer)

  pub over_sound : IsSound run → IsSound new
  over_sound s =
      let all = All-pop IsOpen run.frames.items h.front (Some h.first) h.was s.opens in
      subst IsSound (sym e) (record {
        each = s.each;
        order = s.order;
        marked = s.marked;
        opens = subst (All IsOpen) (sym h.is) (All-push IsOpen h.front h.last all.0 (h.opens all.1));
        within = omega arith;
      })

-- ---- lists of which the last is read and changed

last_read : {A : Type 0} (front : List A) (x y : A) (n : ℕ) → n ≡ length front
    → slice_get (front ++ x ∷ []) n ≡ Some y → x ≡ y
last_read [] x y zero e h = cc
last_read [] x y (suc n) e h = absurd (omega arith)
last_read (z ∷ front) x y zero e h = absurd (omega arith)
last_read (z ∷ front) x y (suc n) e h = last_read front x y n (omega arith) h

last_changed : {A : Type 0} (front : List A) (x y : A) (n : ℕ) → n ≡ length front
    → slice_set (front ++ x ∷ []) n y ≡ front ++ y ∷ []
last_changed [] x y zero e = refl
last_changed [] x y (suc n) e = absurd (omega arith)
last_changed (z ∷ front) x y zero e = absurd (omega arith)
last_changed (z ∷ front) x y (suc n) e = ap (λ l. z ∷ l) (last_changed front x y n (omega arith))

-- the last of a list, and those before it
pub record Ends {A : Type 0} (xs : List A) : Type 0 where
  pub front : List A
  pub last : A
  pub is : xs ≡ front ++ last ∷ []

pub some_last : {A : Type 0} (xs : List A) → 0 < length xs → Ends xs
some_last [] h = absurd (omega arith)
some_last (x ∷ []) h = record { front = []; last = x; is = refl }
some_last (x ∷ (y ∷ xs)) h =
    let rest : Ends (y ∷ xs) = some_last (y ∷ xs) (omega arith) in
    record { front = x ∷ rest.front; last = rest.last; is = ap (λ l. x ∷ l) rest.is }

-- the last of the open statements changes
pub last_set : (items front : List Frame) (frame next : Frame) (last : ℕ) → items ≡ front ++ frame ∷ []
    → length items ≡ suc last → slice_set items last next ≡ front ++ next ∷ []
last_set items front frame next last f l =
    let many : length items ≡ length front + 1 =
    ap (λ (l : List Frame). length l) f ∙ length-append front (frame ∷ []) in
    let at : last ≡ length front = omega arith in
    ap (λ (l : List Frame). slice_set l last next) f ∙ last_changed front frame next last at

-- it is the one that is read there
pub last_same : (items front : List Frame) (frame old : Frame) (last : ℕ) → items ≡ front ++ frame ∷ []
    → length items ≡ suc last → slice_get items last ≡ Some old → frame ≡ old
last_same items front frame old last f l g =
    let many : length items ≡ length front + 1 =
    ap (λ (l : List Frame). length l) f ∙ length-append front (frame ∷ []) in
    let at : last ≡ length front = omega arith in
    last_read front frame old last at (sym (ap (λ (l : List Frame). slice_get l last) f) ∙ g)

-- the part of the innermost open statement
abbrev pub in_front : (run : Run) (front : List Frame) (frame : Frame) → run.frames.items ≡ front ++ frame ∷ []
    → HasPart (config_of run).around (part_of frame.part)
in_front run front frame f = record {
  inmost = open_of frame;
  others = map open_of (reverse front);
  is = ap (λ frames. map open_of (reverse frames)) f ∙ around_more front frame;
  same = refl;
}

-- if a part runs, a statement is open
pub some_open : (run : Run) (part : Runs) → HasPart (config_of run).around part → 0 < length run.frames.items
some_open run part h =
    let one : length (map open_of (reverse run.frames.items)) ≡ suc (length h.others) =
    ap (λ (os : List Open). length os)
    h.is in
    let as_many = length-map (reverse run.frames.items) open_of in
    let as_long = length-reverse run.frames.items in
    omega arith
