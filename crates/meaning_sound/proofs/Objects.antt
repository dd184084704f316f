-- Objects and arrays that appear and go, and counts that change.
use Rattle.std.proofs.Common.{◌≡◌, ◌∙◌, sym, ap, subst, refl, ℕ, zero, suc, ◌+◌, ◌<◌, ◌≤◌, Bool, true, false, List, []}
use Rattle.std.proofs.Common.{◌∷◌, map, length, Option, Some, None, arith, slice_get}
use Rattle.std.proofs.lemmas.Bool.{eqb-true}
use Rattle.std.specs.Prelude.{nat_eq, nat_lt, is_none, is_some, not, ◌||◌, if◌then◌else◌}
use Rattle.std.specs.Option.{unwrap_or, option_map}
use Rattle.roopl_semantics.specs.rpp_tree.Tree.{Source}
use Rattle.roopl_semantics.specs.class_rules.declared.kind.Kind.{Kind}
use Rattle.roopl_semantics.specs.class_rules.declared.kind.Kind.TheVariants as kind
use Rattle.roopl_semantics.specs.class_rules.Scope.{Locals}
use Rattle.roopl_semantics.specs.buddy_book.Place.{Taken, Log, count_taken, place}
use Rattle.roopl_semantics.specs.Run.{give}
use Rattle.roopl_semantics.specs.Store.{Value, Word, Nil, Name, Head, Object, Store, State, main_name, is_nil}
use Rattle.roopl_semantics.specs.Store.{object_named, no_object}
use Rattle.roopl_semantics.specs.Value.{Cell, Slot, Part, read, written}
use Rattle.roopl_semantics.specs.Execution.{Setting, order_of_cells, new_object, allocated, HEAP_FULL}
use Rattle.roopl_semantics.specs.Laws.{one_if_name, holders_among, holders}
use Rattle.meaning_sound.specs.Sound.{head_of, head_named, count_of, count_named, is_live, head_fits, named_fits}
use Rattle.meaning_sound.specs.Sound.{is_of_kind, cell_kinds, AllFit, bound_value, local_type, held, Descending, Sound, Keeps}
use Rattle.meaning_sound.specs.Sound.{part_kind, cell_kind, Typed}
use Rattle.meaning_sound.proofs.Lists.{all_kept}
use Rattle.meaning_sound.proofs.Stores.{same_number, other_number, here, there, none_above, below_bound}
use Rattle.meaning_sound.proofs.Cells.{typed_of, sound_of, counts_written, typed_written, held_written}
use Rattle.meaning_sound.proofs.Runs.{Ends, ends_check}
use Rattle.meaning_sound.proofs.Writes.{stays_through, nil_is, stays_written}
use Rattle.meaning_sound.proofs.Placing.{took_block, block_kept_taken, placed_taken}

-- ---- a name that no value can hold

named_live : (program : Source) (k : Kind) (o : Option Head) → named_fits program k o ≡ true → is_some o ≡ true
named_live program k None h = absurd (cc)
named_live program k (Some head) h = refl

pub one_is : (m n : ℕ) → 0 < one_if_name m (Name n) → n ≡ m
one_is m n h = by (nat_eq n m) refl h
  where
    by : (b : Bool) → nat_eq n m ≡ b → 0 < (if b then 1 else 0) → n ≡ m
    by true e q = eqb-true n m e
    by false e q = absurd (let z : 0 < 0 = q in omega arith)

pub fit_live : (program : Source) (store : Store) (v : Value) (k : Kind) (m : ℕ) → is_of_kind program store v k ≡ true
    → 0 < one_if_name m v → is_live store m ≡ true
fit_live program store (Word w) k m f h = absurd (let z : 0 < 0 = h in omega arith)
fit_live program store Nil k m f h = absurd (let z : 0 < 0 = h in omega arith)
fit_live program store (Name n) k m f h = ap (is_live store) (sym (one_is m n h))
    ∙ named_live program k (head_named store n) f

pub all_live : (program : Source) (store : Store) (ks : List Kind) (vs : List Value) (m : ℕ)
    → AllFit program store ks vs → 0 < holders_among m vs → is_live store m ≡ true
all_live program store [] [] m all h = absurd (let z : 0 < 0 = h in omega arith)
all_live program store [] (v ∷ vs) m all h = absurd all
all_live program store (k ∷ ks) [] m all h = absurd all
all_live program store (k ∷ ks) (v ∷ vs) m all h = by (nat_lt 0 (one_if_name m v)) refl
    (λ q. all_live program store ks vs m all.1 q)
  where
    by : (b : Bool) → nat_lt 0 (one_if_name m v) ≡ b → (0 < holders_among m vs → is_live store m ≡ true)
        → is_live store m ≡ true
    by true e rest = fit_live program store v k m all.0 (Rattle.std.proofs.lemmas.Bool.ltb-true 0 (one_if_name m v) e)
    by false e rest = rest (let q = Rattle.std.proofs.lemmas.Bool.ltb-false 0 (one_if_name m v) e in omega arith)

holders_none : (bound : ℕ) (store : Store) (m : ℕ) → Descending bound store
    → ((n : ℕ) (o : Object) → object_named store n ≡ Some o → holders_among m o.cells ≡ 0) → holders m store ≡ 0
holders_none bound [] m d h = refl
holders_none bound ((k, o) ∷ store) m d h =
    let first = h k o (here k k o store (same_number k)) in
    let rest = holders_none k store m d.1 (λ n x q. h n x (there k n o store (other_number k n (λ e.
    let none = none_above k store n d.1 (let l : k ≤ n = omega arith in l) in cc)) ∙ q)) in
    omega arith

pub clash : (b : Bool) → b ≡ true → b ≡ false → ⊥
clash true h k = cc
clash false h k = cc

pub not_pos : (n : ℕ) → (0 < n → ⊥) → n ≡ 0
not_pos zero h = refl
not_pos (suc n) h = absurd (h (omega arith))

module _ (setting : Setting) (extra : ℕ → ℕ) (shape : Locals) (class : ℕ) where
  abbrev program : Source
  program = setting.program

  -- a name that is not live is held by nothing
  pub unheld : (st : State) (m : ℕ) → Typed setting extra shape class st → is_live st.store m ≡ false → held m st ≡ 0
  unheld st m t dead =
      let cells = holders_none (2 + count_taken st.log) st.store m t.fresh
      (λ n o q. not_pos (holders_among m o.cells) (λ p. clash (is_live st.store m)
      (all_live program st.store (cell_kinds program o.head) o.cells m (t.objects n o q) p) dead)) in
      let vars = not_pos (holders_among m (map bound_value st.frame))
      (λ p. clash (is_live st.store m) (all_live program st.store (map local_type shape) (map bound_value st.frame) m
      t.variables p) dead) in
      omega arith

  pub dead_above : (st : State) (m : ℕ) → Typed setting extra shape class st → 2 + count_taken st.log ≤ m
      → is_live st.store m ≡ false
  dead_above st m t h = ap (λ o. is_some (option_map head_of o))
      (none_above (2 + count_taken st.log) st.store m t.fresh h)

  no_extra : (st : State) (m : ℕ) → Typed setting extra shape class st → is_live st.store m ≡ false → extra m ≡ 0
  no_extra st m t dead = not_pos (extra m) (λ p. clash (is_live st.store m) (t.lives m p) dead)

  -- ---- new

  module _ (st : State) (head : Head) (cells : List Value) where
    abbrev pub new_name : ℕ
    new_name = 2 + count_taken st.log

    abbrev pub grown : Store
    grown = (new_name, new_object head cells) ∷ st.store

    abbrev pub request : Log
    request = Taken new_name (order_of_cells (length (cell_kinds program head))) ∷ st.log

    abbrev pub bigger : State
    bigger = record st { store = grown; log = request }

    pub older_head : (m : ℕ) → Typed setting extra shape class st → is_live st.store m ≡ true
        → head_named grown m ≡ head_named st.store m
    older_head m t live =
        let l = below_bound (2 + count_taken st.log) st.store m t.fresh live in
        ap (option_map head_of) (there new_name m (new_object head cells) st.store
        (other_number new_name m (λ e. omega arith)))

    pub bigger_typed : Typed setting extra shape class st
        → ((store : Store) → AllFit program store (cell_kinds program head) cells)
        → is_none (place setting.limits.heap request) ≡ false → Typed setting extra shape class bigger
    bigger_typed t fit some =
        let kept : (ks : List Kind) (vs : List Value) → AllFit program st.store ks vs
        → AllFit program grown ks vs = λ ks vs a. all_kept program st.store grown ks vs (λ m x y. older_head m t y)
        a in
        record {
          names = t.names;
          variables = kept (map local_type shape) (map bound_value st.frame) t.variables;
          objects = λ m o q. object_of m o q (nat_eq new_name m) refl kept;
          lives = λ m x. ap is_some (older_head m t (t.lives m x)) ∙ t.lives m x;
          self_is = ap (named_fits program (kind.Class class)) (older_head st.self t (t.lives st.self t.self_held))
              ∙ t.self_is;
          self_held = t.self_held;
          main_extra = t.main_extra;
          fresh = (
            let z : new_name < suc (2 + count_taken st.log) = omega arith in
                let y : new_name < 2 + suc (count_taken st.log) = omega arith in y,
            t.fresh,
          );
          placed = placed_taken setting st.store st.log new_name (new_object head cells) t.placed t.fresh (omega arith)
              some;
        }
      where
        object_of : (m : ℕ) (o : Object) → object_named grown m ≡ Some o → (b : Bool) → nat_eq new_name m ≡ b
            → ((ks : List Kind) (vs : List Value) → AllFit program st.store ks vs → AllFit program grown ks vs)
            → AllFit program grown (cell_kinds program o.head) o.cells
        object_of m o q true e kept =
            let s : new_object head cells ≡ o = let x = sym (here new_name m (new_object head cells) st.store e)
            ∙ q in cc in
            subst (λ (z : Object). AllFit program grown (cell_kinds program z.head) z.cells) s (fit grown)
        object_of m o q false e kept = kept (cell_kinds program o.head) o.cells
            (t.objects m o (sym (there new_name m (new_object head cells) st.store e) ∙ q))

    pub cell_bigger : (cell : Cell) (k : Kind) → Typed setting extra shape class st
        → cell_kind program shape st.store cell ≡ Some k → cell_kind program shape grown cell ≡ Some k
    cell_bigger (Slot i) k t h = h
    cell_bigger (Part n i) k t h = ap (λ z. part_kind program z i) (older_head n t (live (head_named st.store n) h)) ∙ h
      where
        live : (o : Option Head) → part_kind program o i ≡ Some k → is_some o ≡ true
        live None q = absurd (cc)
        live (Some hd) q = refl

    pub read_bigger : (cell : Cell) (k : Kind) → Typed setting extra shape class st
        → cell_kind program shape st.store cell ≡ Some k → read bigger cell ≡ read st cell
    read_bigger (Slot i) k t h = refl
    read_bigger (Part n i) k t h = by (nat_eq new_name n) refl
      where
        live : (o : Option Head) → part_kind program o i ≡ Some k → is_some o ≡ true
        live None q = absurd (cc)
        live (Some hd) q = refl

        by : (b : Bool) → nat_eq new_name n ≡ b → read bigger (Part n i) ≡ read st (Part n i)
        by true e =
            let l = below_bound (2 + count_taken st.log) st.store n t.fresh (live (head_named st.store n) h) in
            let s = eqb-true new_name n e in
            absurd (omega arith)
        by false e = ap (λ o. unwrap_or (slice_get (unwrap_or o no_object).cells i) Nil)
            (there new_name n (new_object head cells) st.store e)

    pub allocated_keeps : (size : ℕ) (cell : Cell) (k : Kind) → size ≡ length (cell_kinds program head)
        → Sound setting extra shape class st → cell_kind program shape st.store cell ≡ Some k
        → not (is_nil (read st cell)) ≡ false → head_fits program k head ≡ true
        → ((store : Store) → AllFit program store (cell_kinds program head) cells)
        → ((m : ℕ) → holders_among m cells ≡ 0)
        → Ends (Keeps setting extra shape class st) (allocated setting size cell head cells st)
    allocated_keeps size cell k sized s h empty fit_head fit none =
        subst (λ n. Ends (Keeps setting extra shape class st) (allocated setting n cell head cells st)) (sym sized)
        (ends_check (Keeps setting extra shape class st) HEAP_FULL
        (nat_lt setting.limits.heap (order_of_cells (length (cell_kinds program head))) || is_none
        (place setting.limits.heap request)) (λ x. give (written bigger cell (Name new_name)))
        (λ q. kept (second (nat_lt setting.limits.heap (order_of_cells (length (cell_kinds program head)))) q)))
      where
        second : (a : Bool) {b : Bool} → (a || b) ≡ false → b ≡ false
        second true e = absurd (cc)
        second false e = e

        t : Typed setting extra shape class st
        t = typed_of setting extra shape class st s

        dead : is_live st.store new_name ≡ false
        dead = dead_above st new_name t (omega arith)

        kept : is_none (place setting.limits.heap request) ≡ false
            → Keeps setting extra shape class st (written bigger cell (Name new_name))
        kept some =
            let tb = bigger_typed t fit some in
            let hb = cell_bigger cell k t h in
            let end = written bigger cell (Name new_name) in
            let fits_name : is_of_kind program grown (Name new_name) k ≡ true =
            ap (λ o. named_fits program k (option_map head_of o))
            (here new_name new_name (new_object head cells) st.store (same_number new_name)) ∙ fit_head in
            let was = read_bigger cell k t h ∙ nil_is (read st cell) empty in
            let gained : (m : ℕ) → held m end ≡ held m st + one_if_name m (Name new_name) =
            λ m. let a = held_written setting extra shape class bigger cell k (Name new_name) m tb hb in let b =
            ap (one_if_name m) was in let c = none m in omega arith in
            let took = took_block setting.limits.heap new_name (order_of_cells (length (cell_kinds program head)))
            st.log t.placed.at t.placed.placed some in
            record {
              sound = sound_of setting extra shape class end (typed_written setting extra shape class bigger cell k
                  (Name new_name) tb hb fits_name) (record {
                    counts = λ m c q. count_is m c (gained m) (nat_eq new_name m) refl
                        (sym (counts_written setting extra shape class bigger cell (Name new_name) m) ∙ q);
                    main_unheld = let g = gained main_name in let u = s.main_unheld in
                        let o : one_if_name main_name (Name new_name) ≡ 0 =
                        ap (λ b. if b then 1 else 0) (other_number new_name main_name (λ e. omega arith)) in
                        omega arith;
                  });
              stays = stays_through setting extra st bigger end (record {
                self_same = refl;
                depth_same = refl;
                heads_same = λ m p. older_head m t (t.lives m p);
                blocks_same = λ m p. block_kept_taken setting new_name
                    (order_of_cells (length (cell_kinds program head))) m st.log t.placed.at t.placed.placed took
                    (λ e. clash (is_live st.store m) (t.lives m p) (ap (is_live st.store) (sym e) ∙ dead));
              }) (stays_written setting extra shape class bigger cell (Name new_name));
            }
          where
            count_is : (m c : ℕ) → {x : ℕ} → x ≡ held m st + one_if_name m (Name new_name) → (b : Bool)
                → nat_eq new_name m ≡ b → count_named grown m ≡ Some c → c ≡ x + extra m
            count_is m c g true e q =
                let one : 1 ≡ c = let y = sym (ap (option_map count_of)
                (here new_name m (new_object head cells) st.store e)) ∙ q in cc in
                let same = eqb-true new_name m e in
                let dead_m : is_live st.store m ≡ false = ap (is_live st.store) (sym same) ∙ dead in
                let h0 = unheld st m t dead_m in
                let x0 = no_extra st m t dead_m in
                let o : one_if_name m (Name new_name) ≡ 1 = ap (λ b. if b then 1 else 0) e in
                omega arith
            count_is m c g false e q =
                let before : count_named st.store m ≡ Some c = sym
                (ap (option_map count_of) (there new_name m (new_object head cells) st.store e)) ∙ q in
                let a = s.counts m c before in
                let o : one_if_name m (Name new_name) ≡ 0 = ap (λ b. if b then 1 else 0) e in
                omega arith
