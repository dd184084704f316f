-- Calls undone.
use Rattle.std.proofs.Common.{◌≡◌, ℕ, suc, ◌+◌, ◌≤◌, refl, sym, ap, subst, ◌∙◌, arith, Bool, not, List, []}
use Rattle.std.proofs.Common.{◌∷◌, ◌++◌, length, map, Option, Some, None, nat_lt, unwrap_or, length-append, position}
use Rattle.std.proofs.Common.{slice_get}
use Rattle.std.proofs.lemmas.List.{map-append}
use Rattle.std.specs.Str.{bytes_eq}
use Rattle.meaning_reached.specs.rpp_tree.declared.tree.Ident.{Ident}
use Rattle.meaning_reached.specs.rpp_tree.Tree.{Whole, Statements, Call, End, Then, Procedure}
use Rattle.meaning_reached.specs.class_rules.Classes.{class_fields, method_named}
use Rattle.meaning_reached.specs.roopl_semantics.Run.{Run, Done, ◌>>=◌, spend, fault_if}
use Rattle.meaning_reached.specs.roopl_semantics.Store.{Value, Word, Nil, Name, Object, Binding, State, is_nil, number_of, object_named}
use Rattle.meaning_reached.specs.roopl_semantics.Store.{object_at, class_of_head, no_object}
use Rattle.meaning_reached.specs.class_rules.Members.{field_of}
use Rattle.meaning_reached.specs.roopl_semantics.Value.{Cell, Slot, Part, slot_of, slot_or_field, cell_named, own_class, value_at, read}
use Rattle.meaning_reached.specs.roopl_semantics.Value.{NIL}
use Rattle.meaning_reached.specs.roopl_semantics.Execution.{Setting, statement, exec, bound, moved_out, moved_back, in_direction}
use Rattle.meaning_reached.specs.roopl_semantics.Execution.{cells_named, class_of, is_too_deep, TOO_DEEP, invoked}
use Rattle.meaning_reached.specs.roopl_semantics.Agreement.{renamed}
use Rattle.meaning_inverse.specs.StatesAgree.{renamed_binding}
use Rattle.meaning_inverse.proofs.Runs.{in_parts, done_then, done_cost, passed_check, passes, Runs}
use Rattle.meaning_inverse.proofs.Later.{IsSound, Later, later_then, later_moved_out, later_returned, later_moved_back}
use Rattle.meaning_inverse.proofs.Later.{exec_later, frame_names}
use Rattle.meaning_inverse.proofs.Seen.{Names, Sees, cell_for, read_seen, named_seen, class_seen, own_class_seen}
use Rattle.meaning_inverse.proofs.Ground.{Ground, CallFacts, Each, IsLive, AreLive, entered, returned}
use Rattle.meaning_inverse.proofs.Undone.{SameOn, Undone}
use Rattle.meaning_inverse.proofs.Nested.{Undoes}
use Rattle.meaning_inverse.proofs.Moves.{moved_back_does, moved_there_and_back, moved_out_seen}
use Rattle.meaning_inverse.proofs.Moves.{moved_back_seen}
use Rattle.meaning_inverse.proofs.Moves.{moved_out_frame, live_moved_out, bound_names, bound_values, bound_renamed}
use Rattle.meaning_inverse.proofs.Moves.{rebound}
use Rattle.meaning_reached.proofs.roopl_semantics_laws.Changed.{direction_undone}

-- maps that do the same to what a frame holds give the same frame
pub frame_alike : (f g : ℕ → ℕ) (frame : List Binding) → ((i n : ℕ) → value_at frame i ≡ Name n → f n ≡ g n)
    → map (renamed_binding f) frame ≡ map (renamed_binding g) frame
frame_alike f g [] h = refl
frame_alike f g (b ∷ frame) h = ap (λ v. record b { value = v } ∷ map (renamed_binding f) frame) (by b.value refl)
    ∙ ap (λ l. renamed_binding g b ∷ l) (frame_alike f g frame (λ i n e. h (suc i) n e))
  where
    by : (v : Value) → b.value ≡ v → renamed f b.value ≡ renamed g b.value
    by (Word w) e = ap (renamed f) e ∙ ap (renamed g) (sym e)
    by Nil e = ap (renamed f) e ∙ ap (renamed g) (sym e)
    by (Name n) e = ap (renamed f) e ∙ ap (λ k. Name k) (h 0 n e) ∙ ap (renamed g) (sym e)

length_map : {A B : Type 0} (f : A → B) (xs : List A) → length (map f xs) ≡ length xs
length_map f [] = refl
length_map f (x ∷ xs) = ap suc (length_map f xs)

-- the values of a renamed frame
values_renamed : (f : ℕ → ℕ) (frame : List Binding) → map (λ binding. binding.value) (map (renamed_binding f) frame)
    ≡ map (renamed f) (map (λ binding. binding.value) frame)
values_renamed f [] = refl
values_renamed f (b ∷ frame) = ap (λ l. renamed f b.value ∷ l) (values_renamed f frame)

abbrev tail_or : {A : Type 0} → List A → List A
tail_or [] = []
tail_or (x ∷ xs) = xs

abbrev head_or : {A : Type 0} → A → List A → A
head_or d [] = d
head_or d (x ∷ xs) = x

-- the second of two lists that are joined alike
same_rest : {A : Type 0} (xs ys us vs : List A) → length xs ≡ length us → xs ++ ys ≡ us ++ vs → (xs ≡ us) × (ys ≡ vs)
same_rest [] ys [] vs n e = (refl, e)
same_rest [] ys (u ∷ us) vs n e = absurd (omega arith)
same_rest (x ∷ xs) ys [] vs n e = absurd (omega arith)
same_rest (x ∷ xs) ys (u ∷ us) vs n e =
    let rest = same_rest xs ys us vs (omega arith) (ap (λ l. tail_or l) e) in
    (ap (λ z. z ∷ xs) (ap (λ l. head_or x l) e) ∙ ap (λ l. u ∷ l) rest.0, rest.1)

-- a name's cell is of the frame or of the object
cell_renamed_alike : (f g : Names) (setting : Setting) (st : State) (name : List ℕ) → f.there st.self ≡ g.there st.self
    → cell_for f (cell_named setting.program st name) ≡ cell_for g (cell_named setting.program st name)
cell_renamed_alike f g setting st name e = by (slot_of st.frame name)
  where
    by : (o : Option ℕ) → cell_for f (slot_or_field setting.program st name o)
        ≡ cell_for g (slot_or_field setting.program st name o)
    by (Some i) = refl
    by None = ap (λ n. Part n (unwrap_or (field_of (class_fields setting.program (own_class st)) name) 0)) e

-- cells that are of the frame or of the object
abbrev pub OwnCells : Setting → State → List Cell → Type 0
OwnCells setting st cells = Each (λ c. (f g : Names) → f.there st.self ≡ g.there st.self → cell_for f c ≡ cell_for g c)
    cells

own_cells : (setting : Setting) (st : State) (names : List Ident) → OwnCells setting st (cells_named setting st names)
own_cells setting st [] = tt
own_cells setting st (name ∷ names) = (
  (λ f g e. cell_renamed_alike f g setting st name.text e),
  own_cells setting st names,
)

cells_alike : (setting : Setting) (st : State) (cells : List Cell) (f g : Names) → OwnCells setting st cells
    → f.there st.self ≡ g.there st.self → map (cell_for f) cells ≡ map (cell_for g) cells
cells_alike setting st [] f g own e = refl
cells_alike setting st (c ∷ cells) f g own e = ap (λ x. x ∷ map (cell_for f) cells) (own.0 f g e)
    ∙ ap (λ l. cell_for g c ∷ l) (cells_alike setting st cells f g own.1 e)

reads_seen : (h : ℕ) (f : Names) (first second : State) → Sees h f first second → (cells : List Cell)
    → map (read second) (map (cell_for f) cells) ≡ map (renamed f.there) (map (read first) cells)
reads_seen h f first second s [] = refl
reads_seen h f first second s (c ∷ cells) = ap (λ x. x ∷ map (read second) (map (cell_for f) cells))
    (read_seen h f first second s c) ∙ ap (λ l. renamed f.there (read first c) ∷ l)
    (reads_seen h f first second s cells)

-- a live name is of the class that it was of
pub class_later : (a b : State) (n : ℕ) → IsSound a → Later a b → IsLive a.store n → IsLive b.store n
    → class_of_head (object_at b.store n).head ≡ class_of_head (object_at a.store n).head
class_later a b n sound later la lb =
    let was = later.old n lb.object (let d = sound.drawn n la.object la.there in d) lb.there in
    ap (λ o. class_of_head (unwrap_or o no_object).head) lb.there ∙ ap class_of_head was.head
    ∙ ap (λ o. class_of_head (unwrap_or o no_object).head) (sym was.there)

-- a name that a cell holds is live
pub live_read : (st : State) (c : Cell) (n : ℕ) → AreLive st → read st c ≡ Name n → IsLive st.store n
live_read st (Slot i) n live e = live.frame i n e
live_read st (Part name i) n live e = by (object_named st.store name) refl e
  where
    got : (o : Object) → object_named st.store name ≡ Some o → (v : Option Value) → slice_get o.cells i ≡ v
        → unwrap_or v Nil ≡ Name n → IsLive st.store n
    got o is None f g = cc
    got o is (Some v) f g = live.cells name o is i n (f ∙ ap (λ x. Some x) g)

    by : (o : Option Object) → object_named st.store name ≡ o
        → unwrap_or (slice_get (unwrap_or o no_object).cells i) Nil ≡ Name n → IsLive st.store n
    by None is g = cc
    by (Some o) is g = got o is (slice_get o.cells i) refl g

-- names mean the same cells later
pub cells_later : (setting : Setting) (a b : State) → frame_names b.frame ≡ frame_names a.frame → b.self ≡ a.self
    → own_class b ≡ own_class a → (name : List ℕ) → cell_named setting.program b name
    ≡ cell_named setting.program a name
cells_later setting a b names self class name = ap (slot_or_field setting.program b name)
    (ap (λ l. position (bytes_eq name) l) names) ∙ by (slot_of a.frame name)
  where
    by : (o : Option ℕ) → slot_or_field setting.program b name o ≡ slot_or_field setting.program a name o
    by (Some i) = refl
    by None = ap (λ n. Part n (unwrap_or (field_of (class_fields setting.program (own_class b)) name) 0)) self
        ∙ ap (λ c. Part a.self (unwrap_or (field_of (class_fields setting.program c) name) 0)) class

module _ (setting : Setting) (G : Ground setting) where
  -- what came of a call's inverse
  pub record CallUndone (back : Bool) (method : Procedure) (self : ℕ) (receiver args : List Cell) (f : Names)
      (a b b' : State) (cost : ℕ) : Type 0 where
    pub end : State
    pub names : Names
    pub goes : (m : ℕ) → cost ≤ m → invoked setting (exec setting m) (not back) method (f.there self)
        (map (cell_for f) receiver) (map (cell_for f) args) b' ≡ Done end cost
    pub sees : Sees setting.limits.heap names a end
    pub same : SameOn f names a b
    pub holds : map (read b) receiver ≡ map (read a) receiver

  call_undone : (n : ℕ) → Undoes setting G n → (C : G.Context) (a b : State) (c : ℕ) (back : Bool) (method : Procedure)
      (self : ℕ) (receiver args : List Cell)
      → CallFacts setting G.Context G.Good G.Typed C a back method self receiver args → G.Good C a → G.Good C b
      → OwnCells setting a (receiver ++ args)
      → ((f g : Names) → f.there self ≡ g.there self → map (renamed f.there) (map (read a) receiver)
      ≡ map (renamed g.there) (map (read a) receiver))
      → IsLive a.store self → (map (read b) receiver ≡ map (read a) receiver → IsLive b.store self)
      → invoked setting (exec setting n) back method self receiver args a ≡ Done b c → (f : Names) (b' : State)
      → Sees setting.limits.heap f b b' → CallUndone back method self receiver args f a b b' c
  call_undone n ih C a b c back method self receiver args facts good good_b own alike live_a live_b e f b' sees =
      let h = setting.limits.heap in
      let cells = receiver ++ args in
      let caller = moved_out cells a in
      let entry = entered method self receiver args a in
      let body = in_direction back method.body in
      let one = in_parts (exec setting n body entry) (λ end. moved_back cells
      (map (read a) receiver ++ map (λ binding. binding.value) end.frame)
      (record caller { store = end.store; log = end.log })) b c e in
      let end = one.middle in
      let mid = returned cells a end in
      let values = map (read a) receiver ++ map (λ binding. binding.value) end.frame in
      let sound_a = G.sound C a good in
      let out = later_moved_out cells a sound_a in
      let later_in = exec_later setting n body entry end one.before
      (record { unique = out.sound.unique; drawn = out.sound.drawn; positive = out.sound.positive }) one.first in
      let good_end = G.keeps facts.inner n body entry end one.before facts.typed facts.good one.first in
      let many_args : length (map (read a) args) ≡ length method.params = length_map (read a) args ∙ facts.arity in
      let names_end : frame_names end.frame ≡ map (λ var. var.name.text) method.params = later_in.names
      ∙ bound_names method.params (map (read a) args) many_args in
      let many_end : length end.frame ≡ length args = sym (length_map (λ binding. binding.name) end.frame)
      ∙ ap length names_end ∙ length_map (λ var. var.name.text) method.params ∙ sym facts.arity in
      let many : length values ≡ length cells =
      length-append (map (read a) receiver) (map (λ binding. binding.value) end.frame)
      ∙ ap (λ k. k + length (map (λ binding. binding.value) end.frame)) (length_map (read a) receiver)
      ∙ ap (λ k. length receiver + k) (length_map (λ binding. binding.value) end.frame ∙ many_end)
      ∙ sym (length-append receiver args) in
      let back_in = later_returned caller end _ _ _ later_in in
      let later_b : Later a b = later_then a caller b out (later_then caller mid b back_in
      (later_moved_back cells values mid b one.after back_in.sound one.second)) in
      let moved = moved_back_does cells values mid b one.after many facts.distinct
      (facts.still end b one.after good_end later_in good_b one.second) one.second
      (facts.sorts end b one.after good_end later_in good_b one.second) in
      let parts = same_rest (map (read b) receiver) (map (read b) args) (map (read a) receiver)
      (map (λ binding. binding.value) end.frame) (length_map (read b) receiver ∙ sym (length_map (read a) receiver))
      (sym (map-append (read b) receiver args) ∙ moved.holds) in
      let receiver' = map (cell_for f) receiver in
      let args' = map (cell_for f) args in
      let cells' = receiver' ++ args' in
      let joins : map (cell_for f) cells ≡ cells' = map-append (cell_for f) receiver args in
      let caller' = moved_out cells' b' in
      let P : List Cell → Type 0 = λ l. Sees h f (moved_out cells b) (moved_out l b') in
      let Q : State → Type 0 = λ s. Sees h f s caller' in
      let sees_mid : Sees h f mid caller' = subst Q moved.undone (subst P joins (moved_out_seen h f cells b b' sees)) in
      let entry' = entered method (f.there self) receiver' args' b' in
      let sees_entry : Sees h f end entry' = record {
        frame = ap (bound method.params) (reads_seen h f b b' sees args ∙ ap (map (renamed f.there)) parts.1)
            ∙ bound_renamed f.there method.params (map (λ binding. binding.value) end.frame)
            ∙ ap (map (renamed_binding f.there)) (rebound method.params end.frame names_end);
        self = ap f.there (sym later_in.self);
        depth = let d1 = later_in.depth in let d2 = sees.depth in let d3 = later_b.depth in omega arith;
        objects = sees_mid.objects;
        book = sees_mid.book;
        blocks = sees_mid.blocks;
        sound = record {
          unique = sees_mid.sound.unique;
          drawn = sees_mid.sound.drawn;
          positive = sees_mid.sound.positive;
        };
      } in
      let inner = ih facts.inner body entry end one.before facts.typed facts.good one.first f entry' sees_entry in
      let g = inner.names in
      let R : State → ℕ → Type 0 = λ s n. IsLive s.store n in
      let stays : (n : ℕ) → IsLive a.store n → IsLive b.store n → g.there n ≡ f.there n = λ n la lb.
      (let l1 = live_moved_out cells a n la in let l2 = subst (λ s. R s n) moved.undone (live_moved_out cells b n lb) in
      inner.same n l1.object l2.object l1.there l2.there) in
      let self_stays : f.there a.self ≡ g.there a.self =
      sym (stays a.self (G.live C a good).self (let S : ℕ → Type 0 = λ n. IsLive b.store n in
      subst S later_b.self (G.live C b good_b).self)) in
      let mid' : State = record caller' { store = inner.back.store; log = inner.back.log } in
      let sees_caller : Sees h g caller mid' = record {
        frame = sees_mid.frame ∙ frame_alike f.there g.there caller.frame (λ i n e.
            sym (stays n ((G.live C a good).frame i n (moved_out_frame cells a i n e))
            ((G.live C b good_b).frame i n (moved_out_frame cells b i n
            (ap (λ s. value_at s.frame i) moved.undone ∙ e)))));
        self = sees_mid.self ∙ ap f.there out.self ∙ self_stays ∙ ap g.there (sym out.self);
        depth = sees_mid.depth;
        objects = inner.sees.objects;
        book = inner.sees.book;
        blocks = inner.sees.blocks;
        sound = record {
          unique = inner.sees.sound.unique;
          drawn = inner.sees.sound.drawn;
          positive = inner.sees.sound.positive;
        };
      } in
      let returns = moved_back_seen h g cells (map (read a) cells) caller mid' a 0 sees_caller
      (moved_there_and_back cells a facts.distinct facts.there) in
      let same_cells : cells' ≡ map (cell_for g) cells = sym joins ∙ cells_alike setting a cells f g own self_stays in
      let same_values : map (read b') receiver' ++ map (λ binding. binding.value) inner.back.frame
      ≡ map (renamed g.there) (map (read a) cells) =
      ap (λ l. l ++ map (λ binding. binding.value) inner.back.frame)
      (reads_seen h f b b' sees receiver ∙ ap (map (renamed f.there)) parts.0
      ∙ alike f g (sym (stays self live_a (live_b parts.0))))
      ∙ ap (λ l. map (renamed g.there) (map (read a) receiver) ++ l)
      (ap (map (λ binding. binding.value)) inner.sees.frame ∙ values_renamed g.there entry.frame
      ∙ ap (map (renamed g.there)) (bound_values method.params (map (read a) args) many_args))
      ∙ sym (map-append (renamed g.there) (map (read a) receiver) (map (read a) args))
      ∙ ap (map (renamed g.there)) (sym (map-append (read a) receiver args)) in
      let S : Statements → Type 0 = λ s. Runs setting s entry' inner.back one.before in
      let runs = subst S (sym (direction_undone back method.body)) inner.runs in
      let after : moved_back cells' (map (read b') receiver' ++ map (λ binding. binding.value) inner.back.frame) mid'
      ≡ Done returns.back 0 =
      ap (λ l. moved_back l (map (read b') receiver' ++ map (λ binding. binding.value) inner.back.frame) mid')
      same_cells
      ∙ ap (λ l. moved_back (map (cell_for g) cells) l mid') same_values
      ∙ returns.done in
      record {
        end = returns.back;
        names = g;
        goes = λ m l. done_then (exec setting m (in_direction (not back) method.body) entry')
            (λ end. moved_back cells' (map (read b') receiver' ++ map (λ binding. binding.value) end.frame)
            (record caller' { store = end.store; log = end.log })) inner.back returns.back one.before 0 c
            (runs.by m (let s = one.sum in omega arith)) after (let s = one.sum in let z = moved.free in omega arith);
        sees = returns.sees;
        same = λ name o p k l. stays name (record { object = o; there = k }) (record { object = p; there = l });
        holds = parts.0;
      }

  too_deep_seen : (f : Names) (a b b' : State) → Later a b → Sees setting.limits.heap f b b'
      → is_too_deep setting b' ≡ is_too_deep setting a
  too_deep_seen f a b b' later sees = ap (λ d. not (nat_lt d setting.limits.deep)) (sees.depth ∙ later.depth)

  cells_seen : (f : Names) (a b b' : State) → Later a b → own_class b ≡ own_class a → Sees setting.limits.heap f b b'
      → (names : List Ident) → cells_named setting b' names ≡ map (cell_for f) (cells_named setting a names)
  cells_seen f a b b' later class sees [] = refl
  cells_seen f a b b' later class sees (name ∷ names) =
      ap (λ c. c ∷ cells_named setting b' names) (named_seen setting.limits.heap f b b' sees setting.program name.text
      ∙ ap (cell_for f) (cells_later setting a b later.names later.self class name.text))
      ∙ ap (λ l. cell_for f (cell_named setting.program a name.text) ∷ l) (cells_seen f a b b' later class sees names)

  pub undo_call_own : (n : ℕ) → Undoes setting G n → (C : G.Context) (at : ℕ) (back : Bool) (method : Ident)
      (args : List Ident) (a b : State) (c : ℕ) → G.Typed C (Then (Call at back None method args) End) → G.Good C a
      → G.Good C b → Later a b
      → statement setting n (exec setting n) (Call at back None method args) a ≡ Done b c → (f : Names) (b' : State)
      → Sees setting.limits.heap f b b' → Undone setting (Call at back None method args) f a b b' c
  undo_call_own n ih C at back method args a b c typed good good_b later e f b' sees =
      let cells = cells_named setting a args in
      let proc = method_named setting.program (own_class a) method.text in
      let one = in_parts (spend (length args)) (λ u. fault_if TOO_DEEP (is_too_deep setting a) >>=
      (λ w. invoked setting (exec setting n) back proc a.self [] cells a)) b c e in
      let two = in_parts (fault_if TOO_DEEP (is_too_deep setting a))
      (λ w. invoked setting (exec setting n) back proc a.self [] cells a) b one.after one.second in
      let check = passed_check TOO_DEEP (is_too_deep setting a) two.middle two.before two.first in
      let live_a = (G.live C a good).self in
      let S : ℕ → Type 0 = λ n. IsLive b.store n in
      let live_b = subst S later.self (G.live C b good_b).self in
      let call = call_undone n ih C a b two.after back proc a.self [] cells
      (G.call_own C at back method args a typed good check.0) good good_b (own_cells setting a args) (λ f g e. refl)
      live_a (λ h. live_b) two.second f b' sees in
      let class : own_class b ≡ own_class a = ap (λ n. class_of_head (object_at b.store n).head) later.self
      ∙ class_later a b a.self (G.sound C a good) later live_a live_b in
      let class' : own_class b' ≡ own_class a = own_class_seen setting.limits.heap f b b' sees ∙ class in
      let self' : b'.self ≡ f.there a.self = sees.self ∙ ap f.there later.self in
      let same : (m : ℕ) → invoked setting (exec setting m) (not back)
      (method_named setting.program (own_class b') method.text) b'.self [] (cells_named setting b' args) b'
      ≡ invoked setting (exec setting m) (not back) proc (f.there a.self) [] (map (cell_for f) cells) b' = λ m.
      ap (λ k. invoked setting (exec setting m) (not back) (method_named setting.program k method.text) b'.self []
      (cells_named setting b' args) b') class'
      ∙ ap (λ k. invoked setting (exec setting m) (not back) proc k [] (cells_named setting b' args) b') self'
      ∙ ap (λ l. invoked setting (exec setting m) (not back) proc (f.there a.self) [] l b')
      (cells_seen f a b b' later class sees args) in
      let spent = done_cost tt one.middle (length args) one.before one.first in
      record {
        back = call.end;
        names = call.names;
        does = record {
          by = λ m l. done_then (spend (length args)) (λ u. fault_if TOO_DEEP (is_too_deep setting b') >>=
              (λ w. invoked setting (exec setting m) (not back)
              (method_named setting.program (own_class b') method.text) b'.self [] (cells_named setting b' args)
              b')) tt call.end (length args) two.after c refl
              (done_then (fault_if TOO_DEEP (is_too_deep setting b'))
              (λ w. invoked setting (exec setting m) (not back)
              (method_named setting.program (own_class b') method.text) b'.self [] (cells_named setting b' args)
              b') tt call.end 0 two.after two.after (passes TOO_DEEP (is_too_deep setting b')
              (too_deep_seen f a b b' later sees ∙ check.0))
              (same m ∙ call.goes m (let s1 = one.sum in let s2 = two.sum in omega arith)) (omega arith))
              (let s1 = one.sum in let s2 = two.sum in let z = check.1 in omega arith);
        };
        sees = call.sees;
        same = call.same;
      }

  pub undo_call : (n : ℕ) → Undoes setting G n → (C : G.Context) (at : ℕ) (back : Bool) (name method : Ident)
      (args : List Ident) (a b : State) (c : ℕ) → G.Typed C (Then (Call at back (Some (Whole name)) method args) End)
      → G.Good C a → G.Good C b → Later a b
      → statement setting n (exec setting n) (Call at back (Some (Whole name)) method args) a ≡ Done b c
      → (f : Names) (b' : State) → Sees setting.limits.heap f b b'
      → Undone setting (Call at back (Some (Whole name)) method args) f a b b' c
  undo_call n ih C at back name method args a b c typed good good_b later e f b' sees =
      let cells = cells_named setting a args in
      let cell = cell_named setting.program a name.text in
      let number = number_of (read a cell) in
      let proc0 = method_named setting.program (class_of setting a number) method.text in
      let one = in_parts (spend (length args)) (λ u. fault_if NIL (is_nil (read a cell)) >>=
      (λ w. fault_if TOO_DEEP (is_too_deep setting a) >>=
      (λ x. invoked setting (exec setting n) back proc0 number (cell ∷ []) cells a))) b c e in
      let two = in_parts (fault_if NIL (is_nil (read a cell)))
      (λ w. fault_if TOO_DEEP (is_too_deep setting a) >>=
      (λ x. invoked setting (exec setting n) back proc0 number (cell ∷ []) cells a)) b one.after one.second in
      let three = in_parts (fault_if TOO_DEEP (is_too_deep setting a))
      (λ x. invoked setting (exec setting n) back proc0 number (cell ∷ []) cells a) b two.after two.second in
      let not_nil = passed_check NIL (is_nil (read a cell)) two.middle two.before two.first in
      let check = passed_check TOO_DEEP (is_too_deep setting a) three.middle three.before three.first in
      let facts = G.call C at back name method args a typed good not_nil.0 check.0 in
      let self = facts.0 in
      let proc = method_named setting.program (class_of setting a self) method.text in
      let is_self : number ≡ self = ap number_of facts.1 in
      let S : ℕ → Type 0 = λ k. invoked setting (exec setting n) back
      (method_named setting.program (class_of setting a k) method.text) k (cell ∷ []) cells a
      ≡ Done b three.after in
      let ran = subst S is_self three.second in
      let live_a = live_read a cell self (G.live C a good) facts.1 in
      let class_own : own_class b ≡ own_class a = ap (λ n. class_of_head (object_at b.store n).head) later.self
      ∙ class_later a b a.self (G.sound C a good) later (G.live C a good).self
      (let T : ℕ → Type 0 = λ n. IsLive b.store n in subst T later.self (G.live C b good_b).self) in
      let same_cell : cell_named setting.program b name.text ≡ cell =
      cells_later setting a b later.names later.self class_own name.text in
      let call = call_undone n ih C a b three.after back proc self (cell ∷ []) cells facts.2 good good_b
      ((λ f g e. cell_renamed_alike f g setting a name.text e), own_cells setting a args)
      (λ f g e. ap (λ v. renamed f.there v ∷ []) facts.1 ∙ ap (λ k. Name k ∷ []) e
      ∙ ap (λ v. renamed g.there v ∷ []) (sym facts.1)) live_a
      (λ h. live_read b cell self (G.live C b good_b) (ap (λ l. head_or Nil l) h ∙ facts.1)) ran f b' sees in
      let holds_b : read b cell ≡ Name self = ap (λ l. head_or Nil l) call.holds ∙ facts.1 in
      let live_b = live_read b cell self (G.live C b good_b) holds_b in
      let cell' = cell_for f cell in
      let named' : cell_named setting.program b' name.text ≡ cell' =
      named_seen setting.limits.heap f b b' sees setting.program name.text ∙ ap (cell_for f) same_cell in
      let holds' : read b' (cell_named setting.program b' name.text) ≡ Name (f.there self) = ap (read b') named'
      ∙ read_seen setting.limits.heap f b b' sees cell ∙ ap (renamed f.there) holds_b in
      let class_self : class_of setting b' (f.there self) ≡ class_of setting a self =
      class_seen setting.limits.heap f b b' sees self ∙ class_later a b self (G.sound C a good) later live_a live_b
      in
      let invoke : (m : ℕ) → Run State = λ m. invoked setting (exec setting m) (not back)
      (method_named setting.program (class_of setting b'
      (number_of (read b' (cell_named setting.program b' name.text)))) method.text)
      (number_of (read b' (cell_named setting.program b' name.text))) (cell_named setting.program b' name.text ∷ [])
      (cells_named setting b' args) b' in
      let same : (m : ℕ) → invoke m ≡ invoked setting (exec setting m) (not back) proc (f.there self) (cell' ∷ [])
      (map (cell_for f) cells) b' = λ m.
      ap (λ v. invoked setting (exec setting m) (not back)
      (method_named setting.program (class_of setting b' (number_of v)) method.text) (number_of v)
      (cell_named setting.program b' name.text ∷ []) (cells_named setting b' args) b') holds'
      ∙ ap (λ k. invoked setting (exec setting m) (not back) (method_named setting.program k method.text) (f.there self)
      (cell_named setting.program b' name.text ∷ []) (cells_named setting b' args) b') class_self
      ∙ ap (λ k. invoked setting (exec setting m) (not back) proc (f.there self) (k ∷ []) (cells_named setting b' args)
      b') named'
      ∙ ap (λ l. invoked setting (exec setting m) (not back) proc (f.there self) (cell' ∷ []) l b')
      (cells_seen f a b b' later class_own sees args) in
      let spent = done_cost tt one.middle (length args) one.before one.first in
      record {
        back = call.end;
        names = call.names;
        does = record {
          by = λ m l. done_then (spend (length args)) (λ u. fault_if NIL
              (is_nil (read b' (cell_named setting.program b' name.text))) >>=
              (λ w. fault_if TOO_DEEP (is_too_deep setting b') >>= (λ x. invoke m))) tt call.end (length args)
              three.after c refl
              (done_then (fault_if NIL (is_nil (read b' (cell_named setting.program b' name.text))))
              (λ w. fault_if TOO_DEEP (is_too_deep setting b') >>= (λ x. invoke m)) tt call.end 0
              three.after three.after (passes NIL (is_nil
              (read b' (cell_named setting.program b' name.text))) (ap is_nil holds'))
              (done_then (fault_if TOO_DEEP (is_too_deep setting b')) (λ x. invoke m) tt call.end 0 three.after
              three.after (passes TOO_DEEP (is_too_deep setting b')
              (too_deep_seen f a b b' later sees ∙ check.0))
              (same m ∙ call.goes m (let s1 = one.sum in let s2 = two.sum in let s3 = three.sum in omega arith))
              (omega arith)) (omega arith))
              (let s1 = one.sum in let s2 = two.sum in let s3 = three.sum in let z = check.1 in let y = not_nil.1 in
              omega arith);
        };
        sees = call.sees;
        same = call.same;
      }
