-- A call keeps every live object reached.
use Rattle.std.proofs.Common.{◌≡◌, ◌∙◌, sym, ap, subst, refl, ℕ, zero, suc, ◌+◌, ◌<◌, Bool, true, false, List, [], ◌∷◌}
use Rattle.std.proofs.Common.{◌++◌, map, length, arith}
use Rattle.std.proofs.lemmas.Bool.{ltb-true, ltb-false}
use Rattle.std.proofs.lemmas.List.{map-append}
use Rattle.std.specs.Prelude.{nat_lt, is_some, not, if◌then◌else◌}
use Rattle.meaning_sound.specs.rpp_tree.declared.tree.Var.{Var}
use Rattle.meaning_sound.specs.rpp_tree.Tree.{Statements, Procedure, Source}
use Rattle.meaning_sound.specs.class_rules.declared.kind.Kind.{Kind}
use Rattle.meaning_sound.specs.class_rules.Table.{table_of}
use Rattle.meaning_sound.specs.class_rules.Scope.{Locals}
use Rattle.meaning_sound.specs.class_rules.Statements.{verdict_passed, check_statements}
use Rattle.meaning_sound.specs.class_rules.Program.{setting_in, with_parameters}
use Rattle.meaning_sound.specs.roopl_semantics.Store.{Value, Word, Nil, Name, Binding, State, is_zero, cleared}
use Rattle.meaning_sound.specs.roopl_semantics.Value.{Cell, Slot, Part, value_at, read, written}
use Rattle.meaning_sound.specs.roopl_semantics.Execution.{Setting, Runner, moved_out, moved_back, TOUCHED}
use Rattle.meaning_sound.specs.roopl_semantics.Execution.{in_direction}
use Rattle.meaning_sound.specs.roopl_semantics.Execution.{invoked}
use Rattle.meaning_sound.specs.roopl_semantics.Laws.{one_if_name, holders_among}
use Rattle.meaning_sound.specs.Sound.{is_live, AllFit, bound_value, Sound, Keeps, Typed}
use Rattle.meaning_sound.specs.Plain.{IsPlain}
use Rattle.meaning_sound.specs.Kept.{MeansSame}
use Rattle.meaning_sound.proofs.Classes.{KnowsClasses}
use Rattle.meaning_sound.proofs.Lists.{all_kept}
use Rattle.meaning_sound.proofs.Stores.{same_number}
use Rattle.meaning_sound.proofs.Cells.{heads_written, typed_written, kind_stays}
use Rattle.meaning_sound.proofs.AfterWrites.{read_other, read_same}
use Rattle.meaning_sound.proofs.Runs.{Ends, ends_then, ends_check, ends_more}
use Rattle.meaning_sound.proofs.Blocks.{KeepsAll}
use Rattle.meaning_sound.proofs.Moves.{CellsHave, ApartFrom, AllApart, AllOwn, cells_kept}
use Rattle.meaning_sound.proofs.Invocations.{IsCall, caller, given, more, callee, begun, after, returned, out}
use Rattle.meaning_sound.proofs.Invocations.{given_fit, bound_values, begun_sound, body_checks, body_plain}
use Rattle.meaning_sound.proofs.Invocations.{means_callee, after_typed, cells_after, returned_fit}
use Rattle.meaning_reached.specs.Reached.{is_value_within, is_rooted, IsClosed, Reaches}
use Rattle.meaning_reached.proofs.Rooted.{own_rooted, closed_before}
use Rattle.meaning_sound.proofs.Objects.{one_is}

-- a runner keeps every live object reached
pub record ReachesAll (setting : Setting) (run : Runner) : Type 0 where
  pub by : (extra : ℕ → ℕ) (locals shape : Locals) (class : ℕ) (body : Statements) (st : State)
      → class < length setting.program.classes → MeansSame locals shape
      → check_statements (setting_in setting.program (table_of setting.program) class) locals body ≡ verdict_passed
      → IsPlain body
      → Sound setting extra shape class st → Reaches extra st → Ends (Reaches extra) (run body st)

pub ends_both : {A : Type 0} (P Q : A → Type 0) (r : Rattle.meaning_sound.specs.roopl_semantics.Run.Run A) → Ends P r
    → Ends Q r
    → Ends (λ a. P a × Q a) r
ends_both P Q (Rattle.meaning_sound.specs.roopl_semantics.Run.Done result cost) h k = (h, k)
ends_both P Q (Rattle.meaning_sound.specs.roopl_semantics.Run.Fault code cost) h k = tt
ends_both P Q Rattle.meaning_sound.specs.roopl_semantics.Run.More h k = tt

-- ---- values in a set

abbrev pub AllWithin : (ℕ → Bool) → List Value → Type 0
AllWithin names [] = Unit {0}
AllWithin names (v ∷ vs) = (is_value_within names v ≡ true) × AllWithin names vs

within_append : (names : ℕ → Bool) (vs ws : List Value) → AllWithin names vs → AllWithin names ws
    → AllWithin names (vs ++ ws)
within_append names [] ws h k = k
within_append names (v ∷ vs) ws h k = (h.0, within_append names vs ws h.1 k)

within_front : (names : ℕ → Bool) (vs ws : List Value) → AllWithin names (vs ++ ws) → AllWithin names vs
within_front names [] ws h = tt
within_front names (v ∷ vs) ws h = (h.0, within_front names vs ws h.1)

within_back : (names : ℕ → Bool) (vs ws : List Value) → AllWithin names (vs ++ ws) → AllWithin names ws
within_back names [] ws h = h
within_back names (v ∷ vs) ws h = within_back names vs ws h.1

value_holds : (names : ℕ → Bool) (v : Value) (m : ℕ) → is_value_within names v ≡ true → 0 < one_if_name m v
    → names m ≡ true
value_holds names (Word w) m h p = absurd (let z : 0 < 0 = p in omega arith)
value_holds names Nil m h p = absurd (let z : 0 < 0 = p in omega arith)
value_holds names (Name n) m h p = ap names (sym (one_is m n p)) ∙ h

-- what values of the set hold is in it
pub within_holds : (names : ℕ → Bool) (vs : List Value) (m : ℕ) → AllWithin names vs → 0 < holders_among m vs
    → names m ≡ true
within_holds names [] m h p = absurd (let z : 0 < 0 = p in omega arith)
within_holds names (v ∷ vs) m h p = by (nat_lt 0 (one_if_name m v)) refl (λ q. within_holds names vs m h.1 q)
  where
    by : (b : Bool) → nat_lt 0 (one_if_name m v) ≡ b → (0 < holders_among m vs → names m ≡ true) → names m ≡ true
    by true e rest = value_holds names v m h.0 (ltb-true 0 (one_if_name m v) e)
    by false e rest = rest (let q = ltb-false 0 (one_if_name m v) e in omega arith)

-- and values that hold only what is in the set are of it
pub holds_within : (names : ℕ → Bool) (vs : List Value) → ((m : ℕ) → 0 < holders_among m vs → names m ≡ true)
    → AllWithin names vs
holds_within names [] h = tt
holds_within names (v ∷ vs) h = (one v (λ m p. h m (omega arith)), holds_within names vs (λ m p. h m (omega arith)))
  where
    one : (v : Value) → ((m : ℕ) → 0 < one_if_name m v → names m ≡ true) → is_value_within names v ≡ true
    one (Word w) h = refl
    one Nil h = refl
    one (Name n) h = h n (let e : one_if_name n (Name n) ≡ 1 = ap (λ b. if b then 1 else 0) (same_number n) in
        omega arith)

-- the variables of a frame
slots_within : (names : ℕ → Bool) (frame : List Binding) → ((i : ℕ) → is_value_within names (value_at frame i) ≡ true)
    → AllWithin names (map bound_value frame)
slots_within names [] h = tt
slots_within names (b ∷ frame) h = (h 0, slots_within names frame (λ i. h (suc i)))

within_slots : (names : ℕ → Bool) (frame : List Binding) → AllWithin names (map bound_value frame) → (i : ℕ)
    → is_value_within names (value_at frame i) ≡ true
within_slots names [] h i = refl
within_slots names (b ∷ frame) h zero = h.0
within_slots names (b ∷ frame) h (suc i) = within_slots names frame h.1 i

any_of_three : (a b c : ℕ) {A : Type 0} → 0 < a + b + c → (0 < a → A) → (0 < b → A) → (0 < c → A) → A
any_of_three a b c {A} p f g h = by (nat_lt 0 a) refl (nat_lt 0 b) refl
  where
    by : (x : Bool) → nat_lt 0 a ≡ x → (y : Bool) → nat_lt 0 b ≡ y → A
    by true e y d = f (ltb-true 0 a e)
    by false e true d = g (ltb-true 0 b d)
    by false e false d = h (let q = ltb-false 0 a e in let r = ltb-false 0 b d in omega arith)

zero_within : (names : ℕ → Bool) (v : Value) → not (is_zero v) ≡ false → is_value_within names v ≡ true
zero_within names (Word w) h = refl
zero_within names Nil h = refl
zero_within names (Name n) h = absurd (cc)

-- ---- values that move out and back

reads_within : (names : ℕ → Bool) (st : State) (cell : Cell) (v : Value) (cells : List Cell) → ApartFrom cell cells
    → AllWithin names (map (read st) cells) → AllWithin names (map (read (written st cell v)) cells)
reads_within names st cell v [] a h = tt
reads_within names st cell v (c ∷ cells) a h = (
  ap (is_value_within names) (read_other st cell c v a.0)
      ∙ h.0,
  reads_within names st cell v cells a.1 h.1,
)

out_before : (names : ℕ → Bool) (extra : ℕ → ℕ) (cells : List Cell) (st : State) → AllApart cells
    → AllWithin names (map (read st) cells) → IsClosed names extra (moved_out cells st) → IsClosed names extra st
out_before names extra [] st a h c = c
out_before names extra (cell ∷ cells) st a h c =
    let v = cleared (read st cell) in
    closed_before names extra st cell v (λ q. h.0) (out_before names extra cells (written st cell v) a.1
    (reads_within names st cell v cells a.0 h.1) c)

module _ (setting : Setting) (extra : ℕ → ℕ) (shape : Locals) (class : ℕ) where
  pub record Back (st : State) (values : List Value) (last : State) : Type 0 where
    pub before : (names : ℕ → Bool) → IsClosed names extra last → IsClosed names extra st
    pub values_within : (names : ℕ → Bool) → IsClosed names extra last → AllWithin names values
    pub lives : (n : ℕ) → is_live last.store n ≡ true → is_live st.store n ≡ true

  pub moves_within : (self : ℕ) (ks : List Kind) (cells : List Cell) (values : List Value) (st : State)
      → Typed setting extra shape class st → CellsHave setting.program shape st.store ks cells
      → AllFit setting.program st.store ks values → 0 < extra self → AllOwn self cells
      → Ends (Back st values) (moved_back cells values st)
  moves_within self [] [] [] st t h f p o = record {
    before = λ names c. c;
    values_within = λ names c. tt;
    lives = λ n l. l;
  }
  moves_within self [] [] (v ∷ values) st t h f p o = absurd f
  moves_within self [] (c ∷ cells) values st t h f p o = absurd h
  moves_within self (k ∷ ks) [] values st t h f p o = absurd h
  moves_within self (k ∷ ks) (c ∷ cells) [] st t h f p o = absurd f
  moves_within self (k ∷ ks) (c ∷ cells) (v ∷ values) st t h f p o =
      let st1 = written st c v in
      let t1 = typed_written setting extra shape class st c k v t h.0 f.0 in
      let ih = moves_within self ks cells values st1 t1 (cells_kept setting.program shape st.store st1.store ks cells
      (kind_stays setting extra shape class st c v) h.1)
      (all_kept setting.program st.store st1.store ks values
      (λ m x l. heads_written setting extra shape class st c v m) f.1) p o.1 in
      ends_check (Back st (v ∷ values)) TOUCHED (not (is_zero (read st c))) (λ x. moved_back cells values st1)
      (λ q.
      ends_more (Back st1 values) (Back st (v ∷ values)) (moved_back cells values st1) (λ last b. record {
        before = λ names z. closed_before names extra st c v (λ r. zero_within names (read st c) q) (b.before names z);
        values_within = λ names z.
            let z1 = b.before names z in (
              ap (is_value_within names) (sym (read_same setting extra shape class st c k v t h.0))
                  ∙ z1.cells c (own_rooted names extra st1 self c z1 p o.0),
              b.values_within names z,
            );
        lives = λ n l. ap is_some (sym (heads_written setting extra shape class st c v n)) ∙ b.lives n l;
      }) ih)

-- ---- a method that is run on an object

module _ (setting : Setting) (classes : KnowsClasses setting.program) (run : Runner) (keeps : KeepsAll setting run)
    (reaches : ReachesAll setting run) (extra : ℕ → ℕ) (shape : Locals) (class : ℕ) where
  module _ (back : Bool) (method : Procedure) (self own : ℕ) (params : List Var) (receiver args : List Cell)
      (receiver_kinds : List Kind) (st : State) (call : IsCall setting classes run keeps extra shape class st method
      self own params receiver args receiver_kinds) where
    abbrev program : Source
    program = setting.program

    abbrev caller_state : State
    caller_state = caller setting classes run keeps extra shape class back method self own params receiver args
        receiver_kinds st call

    abbrev first : State
    first = begun setting classes run keeps extra shape class back method self own params receiver args receiver_kinds
        st call

    abbrev more_held : ℕ → ℕ
    more_held = more setting classes run keeps extra shape class back method self own params receiver args
        receiver_kinds st call

    abbrev in_callee : Locals
    in_callee = callee setting classes run keeps extra shape class back method self own params receiver args
        receiver_kinds st call

    abbrev values : List Value
    values = given setting classes run keeps extra shape class back method self own params receiver args receiver_kinds
        st call

    moved : Rattle.meaning_sound.proofs.Moves.MovedOut setting extra shape class st (receiver ++ args) caller_state
    moved = out setting classes run keeps extra shape class back method self own params receiver args receiver_kinds st
        call

    values_are : map bound_value first.frame ≡ values
    values_are = bound_values program caller_state.store method.params values
        (given_fit setting classes run keeps extra shape class back method self own params receiver args receiver_kinds
        st call)

    begun_reaches : Reaches extra st → Reaches more_held first
    begun_reaches r = record {
      all = λ names c n l. r.all names (before names c) n
          (ap is_some (sym (moved.moved.heads n)) ∙ l);
    }
      where
        before : (names : ℕ → Bool) → IsClosed names more_held first → IsClosed names extra st
        before names c =
            let in_frame : AllWithin names (map bound_value caller_state.frame) =
            holds_within names (map bound_value caller_state.frame) (λ m p. c.extras m (omega arith)) in
            let in_receiver : AllWithin names (map (read st) receiver) =
            holds_within names (map (read st) receiver) (λ m p. c.extras m (omega arith)) in
            let in_args : AllWithin names (map (read st) args) =
            subst (AllWithin names) values_are (slots_within names first.frame (λ i. c.cells (Slot i) refl)) in
            let all : AllWithin names (map (read st) (receiver ++ args)) =
            subst (AllWithin names) (sym (map-append (read st) receiver args))
            (within_append names (map (read st) receiver) (map (read st) args) in_receiver in_args) in
            out_before names extra (receiver ++ args) st call.apart all
            (record { extras = λ m p. c.extras m (omega arith); cells = λ d h. cells c in_frame d h })
          where
            cells : IsClosed names more_held first → AllWithin names (map bound_value caller_state.frame) → (d : Cell)
                → is_rooted names d ≡ true → is_value_within names (read caller_state d) ≡ true
            cells c f (Slot i) h = within_slots names caller_state.frame f i
            cells c f (Part n i) h = c.cells (Part n i) h

    module _ (end : State) (kept : Keeps setting more_held in_callee call.found.class first end) where
      abbrev caller_after : State
      caller_after = after setting classes run keeps extra shape class back method self own params receiver args
          receiver_kinds st call end kept

      abbrev values_back : List Value
      values_back = returned setting classes run keeps extra shape class back method self own params receiver args
          receiver_kinds st call end kept

      ended_reaches : (last : State) → Reaches more_held end
          → Back setting extra shape class caller_after values_back last → Reaches extra last
      ended_reaches last r b = record {
        all = λ names c n l. r.all names
            (closed names (b.before names c) (b.values_within names c)) n (b.lives n l);
      }
        where
          closed : (names : ℕ → Bool) → IsClosed names extra caller_after → AllWithin names values_back
              → IsClosed names more_held end
          closed names c w =
              let in_frame : AllWithin names (map bound_value caller_state.frame) =
              slots_within names caller_state.frame (λ i. c.cells (Slot i) refl) in
              let in_receiver : AllWithin names (map (read st) receiver) =
              within_front names (map (read st) receiver) (map bound_value end.frame) w in
              let in_callee_frame : AllWithin names (map bound_value end.frame) =
              within_back names (map (read st) receiver) (map bound_value end.frame) w in
              record {
                extras = λ m p. any_of_three (extra m) (holders_among m (map bound_value caller_state.frame))
                    (holders_among m (map (read st) receiver)) p (λ q. c.extras m q)
                    (λ q. within_holds names (map bound_value caller_state.frame) m in_frame q)
                    (λ q. within_holds names (map (read st) receiver) m in_receiver q);
                cells = λ d h. cells in_callee_frame d h;
              }
            where
              cells : AllWithin names (map bound_value end.frame) → (d : Cell) → is_rooted names d ≡ true
                  → is_value_within names (read end d) ≡ true
              cells f (Slot i) h = within_slots names end.frame f i
              cells f (Part n i) h = c.cells (Part n i) h

      moved_back_reaches : Reaches more_held end → Ends (Reaches extra)
          (moved_back (receiver ++ args) values_back caller_after)
      moved_back_reaches r =
          ends_more (Back setting extra shape class caller_after values_back) (Reaches extra)
          (moved_back (receiver ++ args) values_back caller_after) (λ last b. ended_reaches last r b)
          (moves_within setting extra shape class st.self (receiver_kinds
          ++ map (Rattle.meaning_sound.specs.class_rules.Inheritance.kind_of_var program) params) (receiver ++ args)
          values_back caller_after
          (after_typed setting classes run keeps extra shape class back method self own params receiver args
          receiver_kinds st call end kept)
          (cells_after setting classes run keeps extra shape class back method self own params receiver args
          receiver_kinds st call end kept)
          (returned_fit setting classes run keeps extra shape class back method self own params receiver args
          receiver_kinds st call end kept)
          call.sound.self_held call.owned)

    pub invoked_reaches : Reaches extra st → Ends (Reaches extra)
        (invoked setting run back method self receiver args st)
    invoked_reaches r =
        let locals = with_parameters (setting_in program (table_of program) call.found.class) [] method.params in
        let means = means_callee setting classes run keeps extra shape class back method self own params receiver args
        receiver_kinds st call in
        let checks = body_checks setting classes run keeps extra shape class back method self own params receiver args
        receiver_kinds st call back in
        let plain = body_plain setting classes run keeps extra shape class back method self own params receiver args
        receiver_kinds st call back in
        let sound = begun_sound setting classes run keeps extra shape class back method self own params receiver args
        receiver_kinds st call in
        ends_then (λ end. Keeps setting more_held in_callee call.found.class first end × Reaches more_held end)
        (Reaches extra) (run (in_direction back method.body) first) _
        (ends_both (Keeps setting more_held in_callee call.found.class first) (Reaches more_held)
        (run (in_direction back method.body) first)
        (keeps.by more_held locals in_callee call.found.class (in_direction back method.body) first call.found.inside
        means checks plain sound)
        (reaches.by more_held locals in_callee call.found.class (in_direction back method.body) first call.found.inside
        means checks plain sound (begun_reaches r)))
        (λ end both. moved_back_reaches end both.0 both.1)
