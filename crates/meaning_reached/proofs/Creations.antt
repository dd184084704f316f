-- `new`, `delete`, `copy` and `uncopy` keep every live object reached.
use Rattle.std.proofs.Common.{◌≡◌, ◌∙◌, sym, ap, refl, ℕ, zero, suc, ◌+◌, ◌<◌, Bool, true, false, List, [], ◌∷◌, Option}
use Rattle.std.proofs.Common.{Some, None, slice_get}
use Rattle.std.proofs.lemmas.Bool.{eqb-true, or_left, or_right}
use Rattle.std.specs.Prelude.{nat_eq, is_some, ◌&&◌, ◌||◌}
use Rattle.std.specs.Option.{unwrap_or, option_map}
use Rattle.meaning_sound.specs.rpp_tree.Tree.{Source}
use Rattle.meaning_sound.specs.class_rules.declared.kind.Kind.{Kind}
use Rattle.meaning_sound.specs.class_rules.Scope.{Locals}
use Rattle.meaning_sound.specs.buddy_book.Place.{Log, count_taken}
use Rattle.meaning_sound.specs.roopl_semantics.Store.{Value, Word, Nil, Name, Object, State, is_zero, object_named}
use Rattle.meaning_sound.specs.roopl_semantics.Store.{object_at}
use Rattle.meaning_sound.specs.roopl_semantics.Store.{no_object, without}
use Rattle.meaning_sound.specs.roopl_semantics.Value.{Cell, Slot, Part, read, written}
use Rattle.meaning_sound.specs.roopl_semantics.Execution.{Setting, same_cell, all_zero, count_changed, one_less}
use Rattle.meaning_sound.specs.Sound.{head_of, is_live, cell_kind, Typed}
use Rattle.meaning_sound.proofs.Stores.{same_number, differs, there, without_other, without_here}
use Rattle.meaning_sound.proofs.Cells.{heads_written}
use Rattle.meaning_sound.proofs.Makes.{is_array}
use Rattle.meaning_sound.proofs.AfterWrites.{same_cell_is, read_other, read_same}
use Rattle.meaning_sound.proofs.Removal.{counted_heads}
use Rattle.meaning_reached.specs.Reached.{is_value_within, is_rooted, IsClosed, Reaches}
use Rattle.meaning_reached.proofs.Rooted.{IsVisible, visible_rooted, closed_before}
use Rattle.meaning_reached.proofs.Changes.{reaches_on, stays_under, closed_uncounted}
use Rattle.meaning_sound.proofs.Objects.{clash}

zero_within : (names : ℕ → Bool) (v : Value) → is_zero v ≡ true → is_value_within names v ≡ true
zero_within names (Word w) h = refl
zero_within names Nil h = refl
zero_within names (Name n) h = absurd (cc)

zeros_within : (names : ℕ → Bool) (vs : List Value) (i : ℕ) → all_zero vs ≡ true
    → is_value_within names (unwrap_or (slice_get vs i) Nil) ≡ true
zeros_within names [] i h = refl
zeros_within names (v ∷ vs) i h = by (is_zero v) refl i h (λ j q. zeros_within names vs j q)
  where
    by : (b : Bool) → is_zero v ≡ b → (i : ℕ) → (b && all_zero vs) ≡ true
        → ((j : ℕ) → all_zero vs ≡ true → is_value_within names (unwrap_or (slice_get vs j) Nil) ≡ true)
        → is_value_within names (unwrap_or (slice_get (v ∷ vs) i) Nil) ≡ true
    by true e zero q rest = zero_within names v e
    by true e (suc j) q rest = rest j q
    by false e i q rest = absurd (cc)

within_more : (names more : ℕ → Bool) (v : Value) → ((n : ℕ) → names n ≡ true → more n ≡ true)
    → is_value_within names v ≡ true → is_value_within more v ≡ true
within_more names more (Word w) h q = refl
within_more names more Nil h q = refl
within_more names more (Name n) h q = h n q

module _ (setting : Setting) (extra : ℕ → ℕ) (shape : Locals) (class : ℕ) where
  abbrev program : Source
  program = setting.program

  -- ---- new

  -- a state with a new object or array
  abbrev pub grown : State → ℕ → Object → Log → State
  grown st name object log = record st { store = (name, object) ∷ st.store; log = log }

  pub grown_reaches : (st : State) (name : ℕ) (object : Object) (log : Log) (cell : Cell) (k : Kind)
      → IsVisible program shape st k cell → 0 < extra st.self → object_named st.store name ≡ None
      → Typed setting extra shape class (grown st name object log)
      → cell_kind program shape (grown st name object log).store cell ≡ Some k
      → ((holder : Cell) (array : Kind) → cell_kind program shape st.store holder ≡ Some array
      → (read (grown st name object log) holder ≡ read st holder)
      × (cell_kind program shape (grown st name object log).store holder ≡ Some array))
      → is_value_within (λ n. false) (read (grown st name object log) cell) ≡ true
      → Reaches extra st → Reaches extra (written (grown st name object log) cell (Name name))
  grown_reaches st name object log cell k v held none tb hb older empty r =
      record { all = λ names c n l. by names c n l (nat_eq name n) refl }
    where
      big : State
      big = grown st name object log

      end : State
      end = written big cell (Name name)

      stays : (holder : Cell) (array : Kind) → cell_kind program shape st.store holder ≡ Some array
          → is_array array ≡ true → is_array k ≡ false → read end holder ≡ read st holder
      stays holder array h a na =
          let o = older holder array h in
          stays_under setting extra shape class big cell (Name name) k k hb (λ q. q) holder array o.1 a na ∙ o.0

      new_within : (names : ℕ → Bool) → IsClosed names extra end → names name ≡ true
      new_within names c =
          ap (is_value_within names) (sym (read_same setting extra shape class big cell k (Name name) tb hb))
          ∙ c.cells cell (visible_rooted program shape names extra st end k cell v held stays c)

      before : (names : ℕ → Bool) → IsClosed names extra end → IsClosed names extra st
      before names c =
          let cb = closed_before names extra big cell (Name name)
          (λ q. within_more (λ n. false) names (read big cell) (λ n z. absurd (clash false z refl)) empty) c in
          record { extras = cb.extras; cells = λ d h. one cb d h }
        where
          one : IsClosed names extra big → (d : Cell) → is_rooted names d ≡ true
              → is_value_within names (read st d) ≡ true
          one cb (Slot i) h = cb.cells (Slot i) h
          one cb (Part n i) h = part (nat_eq name n) refl
            where
              part : (b : Bool) → nat_eq name n ≡ b → is_value_within names (read st (Part n i)) ≡ true
              part true e = ap (λ (o : Option Object). is_value_within names
                  (unwrap_or (slice_get (unwrap_or o no_object).cells i) Nil))
                  (ap (object_named st.store) (sym (eqb-true name n e)) ∙ none)
              part false e = ap (λ (o : Option Object). is_value_within names
                  (unwrap_or (slice_get (unwrap_or o no_object).cells i) Nil)) (sym (there name n object st.store e))
                  ∙ cb.cells (Part n i) h

      by : (names : ℕ → Bool) → IsClosed names extra end → (n : ℕ) → is_live end.store n ≡ true → (b : Bool)
          → nat_eq name n ≡ b → names n ≡ true
      by names c n l true e = ap names (sym (eqb-true name n e)) ∙ new_within names c
      by names c n l false e =
          let x : is_live big.store n ≡ true = ap is_some (sym
          (heads_written setting extra shape class big cell (Name name) n)) ∙ l in
          r.all names (before names c) n (ap (λ o. is_some (option_map head_of o))
          (sym (there name n object st.store e)) ∙ x)

  -- ---- delete

  abbrev pub shrunk : State → ℕ → Log → State
  shrunk st name log = record st { store = without st.store name; log = log }

  module _ (st : State) (cell : Cell) (name : ℕ) (log : Log) (t : Typed setting extra shape class st)
      (reads : read st cell ≡ Name name) (zeros : all_zero (object_at st.store name).cells ≡ true) where
    abbrev small : State
    small = shrunk st name log

    abbrev without_it : State
    without_it = written small cell Nil

    -- the set with what goes
    abbrev more : (ℕ → Bool) → ℕ → Bool
    more names n = names n || nat_eq name n

    wider : (names : ℕ → Bool) (v : Value) → is_value_within names v ≡ true → is_value_within (more names) v ≡ true
    wider names v h = within_more names (more names) v (λ n q. or_left (names n) (nat_eq name n) q) h

    -- a cell outside of what goes
    other : (names : ℕ → Bool) → IsClosed names extra without_it → (d : Cell) → read small d ≡ read st d
        → is_rooted names d ≡ true → (s : Bool) → same_cell cell d ≡ s → is_value_within (more names) (read st d) ≡ true
    other names c d same h true e = ap (is_value_within (more names))
        (sym (ap (read st) (same_cell_is cell d e)) ∙ reads)
        ∙ or_right (names name) (nat_eq name name) (same_number name)
    other names c d same h false e = ap (is_value_within (more names)) (sym (read_other small cell d Nil e ∙ same))
        ∙ wider names (read without_it d) (c.cells d h)

    first : (a b : Bool) → (a || b) ≡ true → b ≡ false → a ≡ true
    first true b q e = refl
    first false b q e = absurd (clash b q e)

    cells_more : (names : ℕ → Bool) → IsClosed names extra without_it → (d : Cell) → is_rooted (more names) d ≡ true
        → is_value_within (more names) (read st d) ≡ true
    cells_more names c (Slot i) h = other names c (Slot i) refl refl (same_cell cell (Slot i)) refl
    cells_more names c (Part n i) h = part (nat_eq name n) refl
      where
        part : (b : Bool) → nat_eq name n ≡ b → is_value_within (more names) (read st (Part n i)) ≡ true
        part true e = ap (λ k. is_value_within (more names) (unwrap_or (slice_get (object_at st.store k).cells i) Nil))
            (sym (eqb-true name n e)) ∙ zeros_within (more names) (object_at st.store name).cells i zeros
        part false e = other names c (Part n i) (ap (λ (o : Option Object). unwrap_or
            (slice_get (unwrap_or o no_object).cells i) Nil) (without_other st.store name n (differs name n e)))
            (first (names n) (nat_eq name n) h e) (same_cell cell (Part n i)) refl

    before_gone : (names : ℕ → Bool) → IsClosed names extra without_it → IsClosed (more names) extra st
    before_gone names c = record {
      extras = λ n p. or_left (names n) (nat_eq name n) (c.extras n p);
      cells = cells_more names c;
    }

    pub shrunk_reaches : Reaches extra st → Reaches extra (written (shrunk st name log) cell Nil)
    shrunk_reaches r = record { all = λ names c n l. by names c n l (nat_eq name n) refl }
      where
        by : (names : ℕ → Bool) → IsClosed names extra without_it → (n : ℕ) → is_live without_it.store n ≡ true
            → (b : Bool) → nat_eq name n ≡ b → names n ≡ true
        by names c n l true e =
            let x : is_live small.store n ≡ true = ap is_some
            (sym (heads_written setting extra shape class small cell Nil n)) ∙ l in
            let y : is_live small.store name ≡ true = ap (is_live small.store) (eqb-true name n e) ∙ x in
            let z : is_live small.store name ≡ false = ap (λ o. is_some (option_map head_of o))
            (without_here (2 + count_taken st.log) st.store name t.fresh) in
            absurd (clash (is_live small.store name) y z)
        by names c n l false e =
            let x : is_live small.store n ≡ true = ap is_some
            (sym (heads_written setting extra shape class small cell Nil n)) ∙ l in
            let y : is_live st.store n ≡ true = ap (λ o. is_some (option_map head_of o))
            (sym (without_other st.store name n (differs name n e))) ∙ x in
            first (names n) (nat_eq name n) (r.all (more names) (before_gone names c) n y) e

  -- ---- copy and uncopy

  live_uncounted : (st : State) (n : ℕ) (f : ℕ → ℕ) (m : ℕ) → is_live (count_changed f st n).store m ≡ true
      → is_live st.store m ≡ true
  live_uncounted st n f m l = ap is_some (sym (counted_heads setting extra shape class st n f m)) ∙ l

  live_unwritten : (st : State) (cell : Cell) (v : Value) (n : ℕ) → is_live (written st cell v).store n ≡ true
      → is_live st.store n ≡ true
  live_unwritten st cell v n l = ap is_some (sym (heads_written setting extra shape class st cell v n)) ∙ l

  pub copy_reaches : (st : State) (b : Cell) (v : Value) (n : ℕ) → read st b ≡ Nil → Reaches extra st
      → Reaches extra (count_changed suc (written st b v) n)
  copy_reaches st b v n empty r =
      reaches_on extra st (count_changed suc (written st b v) n)
      (λ names c. closed_before names extra st b v (λ q. ap (is_value_within names) empty)
      (closed_uncounted names extra (written st b v) n suc c))
      (λ m l. live_unwritten st b v m (live_uncounted (written st b v) n suc m l)) r

  -- what goes from the second lvalue is in the first; arrays are copied like objects here
  pub uncopy_reaches : (st : State) (a b : Cell) (ka kb : Kind) (n : ℕ) → IsVisible program shape st ka a
      → 0 < extra st.self → cell_kind program shape st.store b ≡ Some kb → (is_array ka ≡ false → is_array kb ≡ false)
      → read st b ≡ read st a → same_cell b a ≡ false
      → Reaches extra st → Reaches extra (count_changed one_less (written st b Nil) n)
  uncopy_reaches st a b ka kb n va held hb arrays same apart r =
      reaches_on extra st (count_changed one_less (written st b Nil) n)
      (λ names c. before names (closed_uncounted names extra (written st b Nil) n one_less c))
      (λ m l. live_unwritten st b Nil m (live_uncounted (written st b Nil) n one_less m l)) r
    where
      before : (names : ℕ → Bool) → IsClosed names extra (written st b Nil) → IsClosed names extra st
      before names c =
          let ra = visible_rooted program shape names extra st (written st b Nil) ka a va held
          (stays_under setting extra shape class st b Nil ka kb hb arrays) c in
          let has : is_value_within names (read st a) ≡ true =
          ap (is_value_within names) (sym (read_other st b a Nil apart))
          ∙ c.cells a ra in
          closed_before names extra st b Nil (λ q. ap (is_value_within names) same ∙ has) c
