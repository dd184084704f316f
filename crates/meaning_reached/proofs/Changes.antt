-- Each change of a state keeps every live object reached.
use Rattle.std.proofs.Common.{◌≡◌, ◌∙◌, sym, ap, subst, refl, ℕ, zero, suc, Bool, true, false, List, [], ◌∷◌, Option}
use Rattle.std.proofs.Common.{Some, None, slice_get}
use Rattle.std.proofs.lemmas.Bool.{eqb-true}
use Rattle.std.specs.Prelude.{nat_eq, is_some, ◌&&◌, ◌||◌}
use Rattle.std.specs.Option.{unwrap_or, option_map}
use Rattle.meaning_sound.specs.rpp_tree.Tree.{Source}
use Rattle.meaning_sound.specs.class_rules.declared.kind.Kind.{Kind}
use Rattle.meaning_sound.specs.class_rules.Scope.{Locals}
use Rattle.meaning_sound.specs.roopl_semantics.Store.{Value, Nil, Object, Binding, State, object_named, object_at}
use Rattle.meaning_sound.specs.roopl_semantics.Store.{no_object}
use Rattle.meaning_sound.specs.roopl_semantics.Store.{changed_at}
use Rattle.meaning_sound.specs.roopl_semantics.Value.{Cell, Slot, Part, value_at, read, written}
use Rattle.meaning_sound.specs.roopl_semantics.Execution.{Setting, same_cell, opened, closed}
use Rattle.meaning_sound.specs.roopl_semantics.Execution.{count_changed}
use Rattle.meaning_sound.specs.Sound.{is_live, cell_kind, Typed}
use Rattle.meaning_sound.proofs.Stores.{same_number, differs, changed_here, changed_other}
use Rattle.meaning_sound.proofs.Cells.{heads_written}
use Rattle.meaning_sound.proofs.Makes.{is_array}
use Rattle.meaning_sound.proofs.AfterWrites.{same_cell_is, read_other, read_same, read_moved}
use Rattle.meaning_reached.specs.Reached.{is_value_within, is_rooted, IsClosed, Reaches}
use Rattle.meaning_reached.proofs.Rooted.{IsVisible, kinds_apart, visible_rooted, closed_before}
use Rattle.meaning_sound.proofs.Objects.{clash}

pub or_either : (a b : Bool) {A : Type 0} → (a || b) ≡ true → (a ≡ true → A) → (b ≡ true → A) → A
or_either true b h f g = f refl
or_either false b h f g = g h

pub cell_turned : (a b : Cell) → same_cell a b ≡ false → same_cell b a ≡ false
cell_turned a b e = by (same_cell b a) refl
  where
    itself : (c : Cell) → same_cell c c ≡ true
    itself (Slot i) = same_number i
    itself (Part n i) = ap (λ b. b && nat_eq i i) (same_number n) ∙ same_number i

    by : (s : Bool) → same_cell b a ≡ s → same_cell b a ≡ false
    by false q = q
    by true q = absurd (clash (same_cell a b) (ap (λ c. same_cell a c) (same_cell_is b a q) ∙ itself a) e)

-- if closed sets were closed before, and nothing new lives, what lives is reached
pub reaches_on : (extra : ℕ → ℕ) (st end : State) → ((names : ℕ → Bool) → IsClosed names extra end
    → IsClosed names extra st) → ((n : ℕ) → is_live end.store n ≡ true → is_live st.store n ≡ true) → Reaches extra st
    → Reaches extra end
reaches_on extra st end back lives r = record { all = λ names c n l. r.all names (back names c) n (lives n l) }

-- ---- variables that appear and go

pub opened_reaches : (extra : ℕ → ℕ) (name : List ℕ) (v : Value) (st : State) → Reaches extra st
    → Reaches extra (opened name v st)
opened_reaches extra name v st r = reaches_on extra st (opened name v st)
    (λ names c. record { extras = c.extras; cells = cells names c }) (λ n l. l) r
  where
    cells : (names : ℕ → Bool) → IsClosed names extra (opened name v st) → (cell : Cell) → is_rooted names cell ≡ true
        → is_value_within names (read st cell) ≡ true
    cells names c (Slot i) h = c.cells (Slot (suc i)) refl
    cells names c (Part n i) h = c.cells (Part n i) h

pub closed_reaches : (extra : ℕ → ℕ) (end : State) → ((names : ℕ → Bool)
    → is_value_within names (value_at end.frame 0) ≡ true) → Reaches extra end → Reaches extra (closed end)
closed_reaches extra end none r = reaches_on extra end (closed end)
    (λ names c. record { extras = c.extras; cells = cells names c }) (λ n l. l) r
  where
    slots : (names : ℕ → Bool) (frame : List Binding) → is_value_within names (value_at frame 0) ≡ true
        → ((i : ℕ) → is_value_within names (value_at (Rattle.meaning_sound.specs.roopl_semantics.Execution.rest_of
        frame) i)
        ≡ true)
        → (i : ℕ) → is_value_within names (value_at frame i) ≡ true
    slots names [] first rest i = refl
    slots names (b ∷ frame) first rest zero = first
    slots names (b ∷ frame) first rest (suc i) = rest i

    cells : (names : ℕ → Bool) → IsClosed names extra (closed end) → (cell : Cell) → is_rooted names cell ≡ true
        → is_value_within names (read end cell) ≡ true
    cells names c (Slot i) h = slots names end.frame (none names) (λ j. c.cells (Slot j) refl) i
    cells names c (Part n i) h = c.cells (Part n i) h

-- ---- counts

pub read_counted : (st : State) (n : ℕ) (f : ℕ → ℕ) (cell : Cell) → read (count_changed f st n) cell ≡ read st cell
read_counted st n f (Slot i) = refl
read_counted st n f (Part m i) = by (nat_eq n m) refl
  where
    g : Object → Object
    g o = record o { count = f o.count }

    mapped : (r : Option Object) → (unwrap_or (option_map g r) no_object).cells ≡ (unwrap_or r no_object).cells
    mapped None = refl
    mapped (Some o) = refl

    by : (b : Bool) → nat_eq n m ≡ b → read (count_changed f st n) (Part m i) ≡ read st (Part m i)
    by true e =
        subst (λ k. unwrap_or (slice_get (object_at (changed_at st.store n g) k).cells i) Nil
        ≡ unwrap_or (slice_get (object_at st.store k).cells i) Nil) (eqb-true n m e)
        (ap (λ (r : Option Object). unwrap_or (slice_get (unwrap_or r no_object).cells i) Nil)
        (changed_here st.store n g) ∙ ap (λ cs. unwrap_or (slice_get cs i) Nil)
        (mapped (object_named st.store n)))
    by false e = ap (λ (r : Option Object). unwrap_or (slice_get (unwrap_or r no_object).cells i) Nil)
        (changed_other st.store n m g (differs n m e))

pub closed_uncounted : (names : ℕ → Bool) (extra : ℕ → ℕ) (st : State) (n : ℕ) (f : ℕ → ℕ)
    → IsClosed names extra (count_changed f st n) → IsClosed names extra st
closed_uncounted names extra st n f c = record {
  extras = c.extras;
  cells = λ cell h. ap (is_value_within names) (sym (read_counted st n f cell)) ∙ c.cells cell h;
}

module _ (setting : Setting) (extra : ℕ → ℕ) (shape : Locals) (class : ℕ) where
  abbrev program : Source
  program = setting.program

  live_before : (st : State) (cell : Cell) (v : Value) (n : ℕ) → is_live (written st cell v).store n ≡ true
      → is_live st.store n ≡ true
  live_before st cell v n l = ap is_some (sym (heads_written setting extra shape class st cell v n)) ∙ l

  -- ---- one write, and a swap

  pub write_reaches : (st : State) (cell : Cell) (v : Value)
      → ((names : ℕ → Bool) → IsClosed names extra (written st cell v) → is_rooted names cell ≡ true
      → is_value_within names (read st cell) ≡ true) → Reaches extra st → Reaches extra (written st cell v)
  write_reaches st cell v was r = reaches_on extra st (written st cell v)
      (λ names c. closed_before names extra st cell v (was names c) c) (live_before st cell v) r

  pub stays_under : (st : State) (cell : Cell) (v : Value) (k kc : Kind)
      → cell_kind program shape st.store cell ≡ Some kc → (is_array k ≡ false → is_array kc ≡ false)
      → (holder : Cell) (array : Kind) → cell_kind program shape st.store holder ≡ Some array → is_array array ≡ true
      → is_array k ≡ false → read (written st cell v) holder ≡ read st holder
  stays_under st cell v k kc h none holder array ha a na =
      read_other st cell holder v (kinds_apart program shape st.store cell holder kc array h ha (none na) a)

  pub swap_reaches : (st : State) (a b : Cell) (k : Kind) → Typed setting extra shape class st
      → cell_kind program shape st.store a ≡ Some k → cell_kind program shape st.store b ≡ Some k
      → IsVisible program shape st k a → IsVisible program shape st k b → (st1 : State) → st1 ≡ written st a (read st b)
      → Typed setting extra shape class st1 → cell_kind program shape st1.store b ≡ Some k
      → Reaches extra st → Reaches extra (written st1 b (read st a))
  swap_reaches st a b k t ha hb va vb st1 is t1 hb1 r = reaches_on extra st end back lives r
    where
      x : Value
      x = read st a

      y : Value
      y = read st b

      end : State
      end = written st1 b x

      lives : (n : ℕ) → is_live end.store n ≡ true → is_live st.store n ≡ true
      lives n l = live_before st a y n (ap (λ (s : State). is_live s.store n) (sym is) ∙ live_before st1 b x n l)

      read_one : (c : Cell) → read st1 c ≡ read (written st a y) c
      read_one c = ap (λ s. read s c) is

      stays : (holder : Cell) (array : Kind) → cell_kind program shape st.store holder ≡ Some array
          → is_array array ≡ true → is_array k ≡ false → read end holder ≡ read st holder
      stays holder array h ah na =
          read_other st1 b holder x (kinds_apart program shape st.store b holder k array hb h na ah) ∙ read_one holder
          ∙ stays_under st a y k k ha (λ q. q) holder array h ah na

      back : (names : ℕ → Bool) → IsClosed names extra end → IsClosed names extra st
      back names c =
          let ra = visible_rooted program shape names extra st end k a va t.self_held stays c in
          let rb = visible_rooted program shape names extra st end k b vb t.self_held stays c in
          let has_x : is_value_within names x ≡ true = ap (is_value_within names)
          (sym (read_same setting extra shape class st1 b k x t1 hb1)) ∙ c.cells b rb in
          let has_y : is_value_within names y ≡ true = second (same_cell a b) refl ra has_x in
          let moved : read st1 b ≡ y = read_one b ∙ read_moved setting extra shape class st a b k t ha in
          let c1 = closed_before names extra st1 b x (λ q. ap (is_value_within names) moved ∙ has_y) c in
          closed_before names extra st a y (λ q. has_x) (subst (IsClosed names extra) is c1)
        where
          second : (s : Bool) → same_cell a b ≡ s → is_rooted names a ≡ true → is_value_within names x ≡ true
              → is_value_within names y ≡ true
          second true e ra has_x = ap (λ d. is_value_within names (read st d)) (sym (same_cell_is a b e)) ∙ has_x
          second false e ra has_x =
              let turned = cell_turned a b e in
              let q : read end a ≡ y = read_other st1 b a x turned ∙ read_one a
              ∙ read_same setting extra shape class st a k y t ha in
              ap (is_value_within names) (sym q) ∙ c.cells a ra
