-- What is kept stays so if a value moves up into the frame above, and back.
use Rattle.std.proofs.Common.{◌≡◌, ℕ, ◌+◌, ◌<◌, Bool, true, false, List, [], ◌∷◌, map, Some, refl, sym, ap, ◌∙◌, arith}
use Rattle.std.proofs.lemmas.Bool.{ltb-true, ltb-false}
use Rattle.std.specs.Prelude.{nat_lt, is_some}
use Rattle.method_calls.specs.class_rules.declared.kind.Kind.TheVariants as kind
use Rattle.method_calls.specs.rpp_tree.declared.tree.Ident.{Ident}
use Rattle.method_calls.specs.class_rules.declared.kind.Kind.{Kind}
use Rattle.method_calls.specs.roopl_semantics.Store.{Value, Word, Nil, Name, Store, State, main_name, is_zero, cleared}
use Rattle.method_calls.specs.roopl_semantics.Value.{Cell, Slot, Part, read, written}
use Rattle.method_calls.specs.roopl_semantics.Execution.{Setting}
use Rattle.method_calls.specs.roopl_semantics.Laws.{one_if_name}
use Rattle.method_calls.specs.meaning_sound.Sound.{named_fits, head_named, is_live, is_of_kind, held, local_type, bound_value, cell_kind}
use Rattle.method_calls.specs.meaning_sound.Sound.{part_kind, Typed, count_named}
use Rattle.method_calls.specs.refine_frame.Open.{IsGrounded}
use Rattle.method_calls.proofs.meaning_sound_laws.Lists.{fits_kept, all_kept}
use Rattle.method_calls.proofs.meaning_sound_laws.Cells.{heads_written, counts_written, read_fits, typed_written, held_written}
use Rattle.method_calls.proofs.meaning_sound_laws.Moves.{cleared_fits}
use Rattle.method_calls.proofs.meaning_sound_laws.Objects.{all_live}
use Rattle.method_calls.specs.refine_form.Form.{Scope, Moved}
use Rattle.method_calls.specs.refine_form.Frames.{CallerFrame, Under, cell_in}
use Rattle.method_calls.specs.refine_form.Stands.{shape_of, extra, setup, CallersFit, AllMoved, Kept}

cleared_none : (m : ℕ) (v : Value) → one_if_name m (cleared v) ≡ 0
cleared_none m (Word w) = refl
cleared_none m Nil = refl
cleared_none m (Name n) = refl

zero_none : (m : ℕ) (v : Value) → is_zero v ≡ true → one_if_name m v ≡ 0
zero_none m (Word w) h = refl
zero_none m Nil h = refl
zero_none m (Name n) h = absurd (cc)

-- each count is the number of cells that hold the name
abbrev pub CountsAre : Under → List Moved → State → Type 0
CountsAre u moved st = (name count : ℕ) → count_named st.store name ≡ Some count
    → count ≡ held name st + extra u moved name

module _ (setting : Setting) (statics : List ℕ) where
  -- ---- if heads stay, so do types

  pub callers_stay : (store other : Store) → ((m : ℕ) → head_named other m ≡ head_named store m)
      → (callers : List CallerFrame) → CallersFit setting statics store callers → CallersFit setting statics other callers
  callers_stay store other heads [] h = tt
  callers_stay store other heads (c ∷ callers) h = (
    all_kept setting.program store other (map local_type (shape_of setting.program c.scope)) (map bound_value c.frame)
        (λ m x y. heads m) h.0,
    ap (named_fits setting.program (kind.Class c.scope.class)) (heads c.self) ∙ h.1,
    heads c.self ∙ h.2,
    callers_stay store other heads callers h.3,
  )

  pub kind_same : (s : Scope) (store other : Store) → ((m : ℕ) → head_named other m ≡ head_named store m) → (c : Cell)
      → cell_kind setting.program (shape_of setting.program s) other c
      ≡ cell_kind setting.program (shape_of setting.program s) store c
  kind_same s store other heads (Slot i) = refl
  kind_same s store other heads (Part n i) = ap (λ z. part_kind setting.program z i) (heads n)

  pub moved_stays : (s : Scope) (u : Under) (store other : Store) → ((m : ℕ) → head_named other m ≡ head_named store m)
      → (moved : List Moved) → AllMoved setting statics store s u moved → AllMoved setting statics other s u moved
  moved_stays s u store other heads [] h = tt
  moved_stays s u store other heads (x ∷ moved) h = (
    record {
      kind = h.0.kind;
      of_cell = kind_same s store other heads (cell_in setting statics s u x.from) ∙ h.0.of_cell;
      fit = fits_kept setting.program store other x.value h.0.kind (λ m p q. heads m) h.0.fit;
    },
    moved_stays s u store other heads moved h.1,
  )

  pub grounded_stays : (store other : Store) → ((m : ℕ) → head_named other m ≡ head_named store m)
      → IsGrounded (setup setting statics) store → IsGrounded (setup setting statics) other
  grounded_stays store other heads g = record { limits = g.limits; room = g.room; main = heads main_name ∙ g.main }

  module _ (s : Scope) (u : Under) (moved : List Moved) (st : State)
      (t : Typed setting (extra u moved) (shape_of setting.program s) s.class st)
      (k : Kept setting statics s u moved st) (cell : Cell) (type : Kind)
      (has : cell_kind setting.program (shape_of setting.program s) st.store cell ≡ Some type) where
    abbrev E : ℕ → ℕ
    E = extra u moved

    heads : (v : Value) (m : ℕ) → head_named (written st cell v).store m ≡ head_named st.store m
    heads v m = heads_written setting E (shape_of setting.program s) s.class st cell v m

    log_same : (v : Value) → (written st cell v).log ≡ st.log
    log_same v = by cell
      where
        by : (c : Cell) → (written st c v).log ≡ st.log
        by (Slot i) = refl
        by (Part n i) = refl

    -- a write of any value of the type that leaves the main object unheld, with other values above
    pub kept_unheld : (v : Value) (moved' : List Moved) → is_of_kind setting.program st.store v type ≡ true
        → held main_name (written st cell v) ≡ 0
        → ((m : ℕ) → 0 < extra u moved' m → is_live st.store m ≡ true)
        → extra u moved' main_name ≡ 1
        → AllMoved setting statics st.store s u moved'
        → Kept setting statics s u moved' (written st cell v)
    kept_unheld v moved' fit unheld lives main all =
        let w = typed_written setting E (shape_of setting.program s) s.class st cell type v t has fit in
        record {
          class_inside = k.class_inside;
          variables = w.variables;
          objects = w.objects;
          arrays = λ m hd q. k.arrays m hd (sym (heads v m) ∙ q);
          lives = λ m p. ap is_some (heads v m) ∙ lives m p;
          self_is = ap (named_fits setting.program (kind.Class s.class)) (heads v u.self) ∙ k.self_is;
          own_is = heads v u.self ∙ k.own_is;
          self_held = k.self_held;
          main_extra = main;
          main_unheld = unheld;
          fresh = w.fresh;
          placed = w.placed;
          grounded = grounded_stays st.store (written st cell v).store (heads v) k.grounded;
          callers_fit = callers_stay st.store (written st cell v).store (heads v) u.callers k.callers_fit;
          callers_held = k.callers_held;
          moved_fit = moved_stays s u st.store (written st cell v).store (heads v) moved' all;
        }

    -- a write that only moves what is held
    pub kept_write : (v : Value) (moved' : List Moved) → is_of_kind setting.program st.store v type ≡ true
        → ((m : ℕ) → held m (written st cell v) + extra u moved' m ≡ held m st + extra u moved m)
        → ((m : ℕ) → 0 < extra u moved' m → is_live st.store m ≡ true)
        → extra u moved' main_name ≡ 1
        → AllMoved setting statics st.store s u moved'
        → Kept setting statics s u moved' (written st cell v)
    kept_write v moved' fit total lives main all =
        kept_unheld v moved' fit (let b = total main_name in let c = k.main_unheld in let d = k.main_extra in
        omega (arith, b, c, d, main)) lives main all

    pub counts_write : (v : Value) (moved' : List Moved) →
        ((m : ℕ) → held m (written st cell v) + extra u moved' m ≡ held m st + extra u moved m)
        → CountsAre u moved st → CountsAre u moved' (written st cell v)
    counts_write v moved' total counts m c q =
        let a = counts m c (sym (counts_written setting E (shape_of setting.program s) s.class st cell v m) ∙ q) in
        let b = total m in
        omega (arith, a, b)

    fit_here : is_of_kind setting.program st.store (read st cell) type ≡ true
    fit_here = read_fits setting E (shape_of setting.program s) s.class st cell type t has

    change : (v : Value) (m : ℕ) → held m (written st cell v) + one_if_name m (read st cell)
        ≡ held m st + one_if_name m v
    change v m = held_written setting E (shape_of setting.program s) s.class st cell type v m t has

    total_up : (name : Ident) (m : ℕ) → held m (written st cell (cleared (read st cell))) + extra u
        (record { from = name; value = read st cell } ∷ moved) m ≡ held m st + extra u moved m
    total_up name m =
        let a = change (cleared (read st cell)) m in
        let b = cleared_none m (read st cell) in
        omega (arith, a, b)

    pub counts_up : (name : Ident) → CountsAre u moved st
        → CountsAre u (record { from = name; value = read st cell } ∷ moved) (written st cell (cleared (read st cell)))
    counts_up name counts = counts_write (cleared (read st cell)) (record { from = name; value = read st cell } ∷ moved)
        (total_up name) counts

    -- up
    pub kept_up : (name : Ident) → cell ≡ cell_in setting statics s u name
        → Kept setting statics s u (record { from = name; value = read st cell } ∷ moved)
        (written st cell (cleared (read st cell)))
    kept_up name is =
        let r = read st cell in
        kept_write (cleared r) (record { from = name; value = r } ∷ moved)
        (cleared_fits setting.program st.store r type fit_here)
        (total_up name)
        (λ m p. live m p (nat_lt 0 (one_if_name m r)) refl)
        (let a = change (cleared r) main_name in let b = cleared_none main_name r in let c = k.main_unheld in
        let d = k.main_extra in omega (arith, a, b, c, d)) (
          record {
            kind = type;
            of_cell = ap (cell_kind setting.program (shape_of setting.program s) st.store) (sym is)
                ∙ has;
            fit = fit_here;
          },
          k.moved_fit,
        )
      where
        live : (m : ℕ) → 0 < extra u (record { from = name; value = read st cell } ∷ moved) m → (b : Bool)
            → nat_lt 0 (one_if_name m (read st cell)) ≡ b → is_live st.store m ≡ true
        live m p true e = all_live setting.program st.store (type ∷ []) (read st cell ∷ []) m (fit_here, tt)
            (let q = ltb-true 0 (one_if_name m (read st cell)) e in omega (arith, q))
        live m p false e = k.lives m (let q = ltb-false 0 (one_if_name m (read st cell)) e in omega (arith, p, q))

  -- and back
  module _ (s : Scope) (u : Under) (x : Moved) (moved : List Moved) (st : State)
      (t : Typed setting (extra u (x ∷ moved)) (shape_of setting.program s) s.class st)
      (k : Kept setting statics s u (x ∷ moved) st) (zero_here : is_zero (read st (cell_in setting statics s u x.from))
      ≡ true) where
    abbrev cell_back : Cell
    cell_back = cell_in setting statics s u x.from

    total_back : (m : ℕ) → held m (written st cell_back x.value) + extra u moved m ≡ held m st + extra u (x ∷ moved) m
    total_back m =
        let f = k.moved_fit.0 in
        let a : held m (written st cell_back x.value) + one_if_name m (read st cell_back)
        ≡ held m st + one_if_name m x.value =
        held_written setting (extra u (x ∷ moved)) (shape_of setting.program s) s.class st cell_back f.kind x.value m t
        f.of_cell in
        let b = zero_none m (read st cell_back) zero_here in
        omega (arith, a, b)

    pub kept_back : Kept setting statics s u moved (written st cell_back x.value)
    kept_back =
        let f = k.moved_fit.0 in
        kept_write s u (x ∷ moved) st t k cell_back f.kind f.of_cell x.value moved f.fit total_back
        (λ m p. k.lives m (omega (arith, p)))
        (let d = k.main_extra in omega (arith, d))
        k.moved_fit.1

    pub counts_back : CountsAre u (x ∷ moved) st → CountsAre u moved (written st cell_back x.value)
    counts_back counts = let f = k.moved_fit.0 in counts_write s u (x ∷ moved) st t k cell_back f.kind f.of_cell x.value
        moved total_back counts
