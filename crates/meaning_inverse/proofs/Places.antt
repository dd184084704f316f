-- The places of blocks through a take and a give, and states with one object less or more.
use Rattle.std.proofs.Common.{◌≡◌, ◌≢◌, ℕ, zero, suc, ◌+◌, ◌^◌, ◌≤◌, refl, sym, ap, subst, ◌∙◌, arith, true, false}
use Rattle.std.proofs.Common.{Bool, List, [], ◌∷◌, Some, None, Option, option_map, nat_eq, nat_le, is_none, eqb-true}
use Rattle.std.proofs.Common.{eq-eqb, ne_eqb, if◌then◌else◌}
use Rattle.meaning_reached.specs.code_conventions.declared.memory.TheConstants.{HEADER_WORDS}
use Rattle.meaning_reached.specs.buddy_book.Book.{Book, take, give_back, order_from}
use Rattle.meaning_reached.specs.buddy_book.Shown.{is_sound}
use Rattle.meaning_reached.specs.buddy_book.Place.{Log, Taken, Given, count_taken, Placing, block_of, without_name}
use Rattle.meaning_reached.specs.buddy_book.Place.{with_block}
use Rattle.meaning_reached.specs.buddy_book.Place.{after_request, place}
use Rattle.meaning_reached.proofs.buddy_book_laws.Orders.{take_took}
use Rattle.meaning_reached.specs.roopl_semantics.Store.{Value, Nil, Name, Head, Object, Store, State, main_name}
use Rattle.meaning_reached.specs.roopl_semantics.Store.{object_named}
use Rattle.meaning_reached.specs.roopl_semantics.Store.{changed_at, without}
use Rattle.meaning_reached.specs.roopl_semantics.Value.{Cell, Part, with_value, read, written}
use Rattle.meaning_reached.specs.roopl_semantics.Execution.{order_of_cells, new_object}
use Rattle.meaning_reached.specs.roopl_semantics.Agreement.{renamed_object}
use Rattle.meaning_reached.specs.roopl_semantics.Laws.{book_of, block_in}
use Rattle.meaning_inverse.proofs.Cells.{IsCell, IsSlot, IsPart, with_with, with_same, written_twice}
use Rattle.meaning_inverse.proofs.Cells.{written_same}
use Rattle.meaning_reached.specs.roopl_semantics.Laws.{HasNamesOnce as IsUnique}
use Rattle.meaning_inverse.proofs.Later.{IsSound, named_without, named_without_same, later_dropped}
use Rattle.meaning_inverse.proofs.Seen.{Names, Sees, same_names}
use Rattle.std.proofs.lemmas.Option.{same_Some}
use Rattle.meaning_reached.proofs.roopl_semantics_laws.Changed.{with_cell}

order_from_least : (tries k words : ℕ) → k ≤ order_from tries k words
order_from_least zero k words = omega arith
order_from_least (suc tries) k words = by (nat_le words (2 ^ k)) (order_from_least tries (suc k) words)
  where
    by : (t : Bool) → suc k ≤ order_from tries (suc k) words → k ≤ (if t then k else order_from tries (suc k) words)
    by true h = omega arith
    by false h = omega arith

pub order_positive : (cells : ℕ) → 1 ≤ order_of_cells cells
order_positive cells = order_from_least 31 1 (HEADER_WORDS + cells)

pub block_without : (blocks : List (ℕ × ℕ)) (n m : ℕ) → nat_eq n m ≡ false
    → block_of (without_name blocks n) m ≡ block_of blocks m
block_without [] n m e = refl
block_without ((k, b) ∷ blocks) n m e = by (block_without blocks n m e) (nat_eq k n) refl
  where
    by : block_of (without_name blocks n) m ≡ block_of blocks m → (t : Bool) → nat_eq k n ≡ t
        → block_of (if t then blocks else (k, b) ∷ without_name blocks n) m
        ≡ (if nat_eq k m then b else block_of blocks m)
    by again true f = rw (ap (λ x. nat_eq x m) (eqb-true k n f) ∙ e) refl
    by again false f = ap (λ x. if nat_eq k m then b else x) again

given_book : (p q : Option Placing) (n n' o : ℕ) → book_of q ≡ book_of p → block_in q n' ≡ block_in p n
    → book_of (after_request (Given n' o) q) ≡ book_of (after_request (Given n o) p)
given_book None None n n' o e h = refl
given_book None (Some q) n n' o e h = cc
given_book (Some p) None n n' o e h = cc
given_book (Some p) (Some q) n n' o e h = ap (λ b. Some (give_back b o (block_of q.blocks n')))
    (same_Some q.book p.book e)
    ∙ ap (λ k. Some (give_back p.book o k)) (same_Some (block_of q.blocks n') (block_of p.blocks n) h)

given_block : (p q : Option Placing) (n n' m m' o : ℕ) → nat_eq n m ≡ false → nat_eq n' m' ≡ false
    → block_in q m' ≡ block_in p m → block_in (after_request (Given n' o) q) m'
    ≡ block_in (after_request (Given n o) p) m
given_block None None n n' m m' o e e' h = refl
given_block None (Some q) n n' m m' o e e' h = cc
given_block (Some p) None n n' m m' o e e' h = cc
given_block (Some p) (Some q) n n' m m' o e e' h =
    ap (λ k. Some k) (block_without q.blocks n' m' e') ∙ h ∙ ap (λ k. Some k) (sym (block_without p.blocks n m e))

-- a block that is taken and given back
pub taken_given : (h name o : ℕ) (at : Placing) → 1 ≤ o → is_sound (2 ^ h) 2 at.book ≡ true
    → is_none (after_request (Taken name o) (Some at)) ≡ false
    → after_request (Given name o) (after_request (Taken name o) (Some at)) ≡ Some at
taken_given h name o at from sound some = by (take at.book o) refl some
  where
    by : (t : Option (ℕ × Book)) → take at.book o ≡ t → is_none (with_block name at.blocks t) ≡ false
        → after_request (Given name o) (with_block name at.blocks t) ≡ Some at
    by None e s = cc
    by (Some (block, book)) e s =
        let took = take_took h o block at.book book from sound e in
        let same : nat_eq name name ≡ true = eq-eqb name name refl in
        ap (λ t. Some (record {
          book = give_back book o (if t then block else block_of at.blocks name);
          blocks = if t then at.blocks else (name, block) ∷ without_name at.blocks name;
        })) same
        ∙ ap (λ b. Some (record { book = b; blocks = at.blocks })) took.undone

-- ---- one object less

abbrev pub dropped : State → ℕ → ℕ → State
dropped st n order = record st { store = without st.store n; log = Given n order ∷ st.log }

pub named_dropped : (store : Store) (n m : ℕ) (o : Object) → IsUnique store → object_named (without store n) m ≡ Some o
    → (nat_eq n m ≡ false) × (object_named store m ≡ Some o)
named_dropped store n m o u e = by (nat_eq n m) refl
  where
    by : (t : Bool) → nat_eq n m ≡ t → (nat_eq n m ≡ false) × (object_named store m ≡ Some o)
    by false f = (f, sym (named_without store n m f) ∙ e)
    by true f = (let P : ℕ → Type 0 = λ x. object_named (without store n) x ≡ None in
        let none = subst P (eqb-true n m f) (named_without_same store n u) in let z : None ≡ Some o = sym none
        ∙ e in cc)

pub dropped_seen : (h : ℕ) (f : Names) (first second : State) → Sees h f first second → IsSound first
    → (n order : ℕ) (object : Object) → object_named first.store n ≡ Some object → n ≢ main_name
    → Sees h f (dropped first n order) (dropped second (f.there n) order)
dropped_seen h f first second s sound n order object there not_main =
    record {
      frame = s.frame;
      self = s.self;
      depth = s.depth;
      objects = λ m. objects m (nat_eq n m) refl;
      book = given_book (place h first.log) (place h second.log) n (f.there n) order s.book
          (s.blocks n object there not_main);
      blocks = λ m o e ne. (let live = named_dropped first.store n m o sound.unique e in
          given_block (place h first.log) (place h second.log) n (f.there n) m (f.there m) order live.0
          (same_names f n m ∙ live.0) (s.blocks m o live.1 ne));
      sound = (later_dropped second (f.there n) order s.sound).sound;
    }
  where
    objects : (m : ℕ) (t : Bool) → nat_eq n m ≡ t → object_named (without second.store (f.there n)) (f.there m)
        ≡ option_map (renamed_object f.there) (object_named (without first.store n) m)
    objects m false e = named_without second.store (f.there n) (f.there m) (same_names f n m ∙ e) ∙ s.objects m
        ∙ ap (option_map (renamed_object f.there)) (sym (named_without first.store n m e))
    objects m true e =
        let P : ℕ → Type 0 = λ x. object_named (without second.store (f.there n)) (f.there x)
        ≡ option_map (renamed_object f.there) (object_named (without first.store n) x) in
        subst P (eqb-true n m e) (named_without_same second.store (f.there n) s.sound.unique
        ∙ ap (option_map (renamed_object f.there)) (sym (named_without_same first.store n sound.unique)))

-- the log may be another one that places alike
pub relogged : (h : ℕ) (f : Names) (first second : State) (log : Log)
    → book_of (place h log) ≡ book_of (place h first.log)
    → ((name : ℕ) → block_in (place h log) name ≡ block_in (place h first.log) name)
    → Sees h f (record first { log = log }) second → Sees h f first second
relogged h f first second log books blocks s =
    record {
      frame = s.frame;
      self = s.self;
      depth = s.depth;
      objects = s.objects;
      book = s.book
          ∙ books;
      blocks = λ name o e ne. s.blocks name o e ne ∙ blocks name;
      sound = s.sound;
    }

-- ---- one object more

abbrev pub added : State → ℕ → Head → List Value → State
added st size head cells = record st {
  store = (2 + count_taken st.log, new_object head cells) ∷ st.store;
  log = Taken (2 + count_taken st.log) (order_of_cells size) ∷ st.log;
}

abbrev pub made : State → Cell → ℕ → Head → List Value → State
made st cell size head cells = written (added st size head cells) cell (Name (2 + count_taken st.log))

-- what is live is not the name that is drawn next
pub not_drawn : (st : State) → IsSound st → (k : ℕ) (object : Object) → object_named st.store k ≡ Some object
    → nat_eq (2 + count_taken st.log) k ≡ false
not_drawn st s k object e = ne_eqb (2 + count_taken st.log) k
    (λ h. (let d = s.drawn k object e in absurd (omega arith)))

-- what is made and dropped leaves the state as it was, except for the log
pub made_dropped : (st : State) (cell : Cell) (size : ℕ) (head : Head) (cells : List Value) (order : ℕ) → IsSound st
    → IsCell st cell → read st cell ≡ Nil
    → written (dropped (made st cell size head cells) (2 + count_taken st.log) order) cell Nil
    ≡ record st {
      log = Given (2 + count_taken st.log) order
          ∷ (Taken (2 + count_taken st.log) (order_of_cells size) ∷ st.log);
    }
made_dropped st cell size head cells order s (IsSlot i h) nil =
    let name = 2 + count_taken st.log in
    let log : Log = Given name order ∷ (Taken name (order_of_cells size) ∷ st.log) in
    ap (λ f. record st {
      frame = f;
      store = if nat_eq name name then st.store else (name, new_object head cells)
          ∷ without st.store name;
      log = log;
    }) (with_with st.frame i (Name name) Nil
    ∙ ap (with_value st.frame i) (sym nil) ∙ with_same st.frame i)
    ∙ ap (λ t. record st {
      store = if t then st.store else (name, new_object head cells) ∷ without st.store name;
      log = log;
    }) (eq-eqb name name refl)
made_dropped st cell size head cells order s (IsPart k i object e h) nil =
    let name = 2 + count_taken st.log in
    let log : Log = Given name order ∷ (Taken name (order_of_cells size) ∷ st.log) in
    let apart = not_drawn st s k object e in
    let g1 = with_cell i (Name name) in
    let g2 = with_cell i Nil in
    let back : changed_at (changed_at st.store k g1) k g2 ≡ st.store =
    ap (λ s. s.store) (written_twice st (Part k i) (Name name) Nil ∙ ap (written st (Part k i)) (sym nil)
    ∙ written_same st (Part k i)) in
    ap (λ t. record st {
      store = changed_at (without (if t then (name, g1 (new_object head cells))
          ∷ st.store else (name, new_object head cells) ∷ changed_at st.store k g1) name) k g2;
      log = log;
    }) apart
    ∙ ap (λ t. record st {
      store = changed_at (if t then changed_at st.store k g1 else (name, new_object head cells)
          ∷ without (changed_at st.store k g1) name) k g2;
      log = log;
    }) (eq-eqb name name refl)
    ∙ ap (λ x. record st { store = x; log = log }) back

-- the object that was made
pub named_made : (st : State) (cell : Cell) (size : ℕ) (head : Head) (cells : List Value) → IsSound st → IsCell st cell
    → object_named (made st cell size head cells).store (2 + count_taken st.log) ≡ Some (new_object head cells)
named_made st cell size head cells s (IsSlot i h) = let name = 2 + count_taken st.log in
    ap (λ t. if t then Some (new_object head cells) else object_named st.store name) (eq-eqb name name refl)
named_made st cell size head cells s (IsPart k i object e h) =
    let name = 2 + count_taken st.log in
    ap (λ t. object_named (if t then (name, with_cell i (Name name) (new_object head cells))
    ∷ st.store else (name, new_object head cells) ∷ changed_at st.store k (with_cell i (Name name))) name)
    (not_drawn st s k object e)
    ∙ ap (λ t. if t then Some (new_object head cells) else object_named
    (changed_at st.store k (with_cell i (Name name))) name) (eq-eqb name name refl)

-- the cell holds its name
pub read_made : (st : State) (cell : Cell) (size : ℕ) (head : Head) (cells : List Value) → IsSound st → IsCell st cell
    → IsCell (added st size head cells) cell
read_made st cell size head cells s (IsSlot i h) = IsSlot i h
read_made st cell size head cells s (IsPart k i object e h) =
    let name = 2 + count_taken st.log in
    IsPart k i object (ap (λ t. if t then Some (new_object head cells) else object_named st.store k)
    (not_drawn st s k object e) ∙ e) h
