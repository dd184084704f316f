-- An object that was deleted comes back under a new name, at its block.
use Rattle.std.proofs.Common.{◌≡◌, ◌≢◌, ℕ, suc, ◌+◌, ◌<◌, ◌≤◌, refl, sym, ap, subst, ◌∙◌, arith, true, false, Bool}
use Rattle.std.proofs.Common.{List, [], ◌∷◌, map, Some, None, Option, option_map, nat_eq, is_none, eqb-true, eq-eqb}
use Rattle.std.proofs.Common.{ne_eqb, if◌then◌else◌, slice_get}
use Rattle.meaning_reached.specs.buddy_book.Book.{Book, take, give_back}
use Rattle.meaning_reached.specs.buddy_book.Place.{Log, Taken, Given, count_taken, Placing, block_of, with_block, after_request, place}
use Rattle.meaning_reached.specs.roopl_semantics.Store.{Value, Word, Nil, Name, Head, Object, State, main_name, object_named, without}
use Rattle.meaning_reached.specs.roopl_semantics.Value.{Cell, Slot, Part, read, written}
use Rattle.meaning_reached.specs.roopl_semantics.Execution.{order_of_cells, new_object}
use Rattle.meaning_reached.specs.roopl_semantics.Agreement.{renamed, renamed_object}
use Rattle.meaning_inverse.specs.StatesAgree.{renamed_binding}
use Rattle.meaning_reached.specs.roopl_semantics.Laws.{book_of, block_in}
use Rattle.meaning_inverse.proofs.Cells.{IsCell, IsSlot, IsPart, named_changed, written_twice, written_same}
use Rattle.meaning_inverse.proofs.Cells.{apart_sym}
use Rattle.meaning_inverse.proofs.Later.{IsSound, named_without, named_without_same, undrawn, later_made}
use Rattle.meaning_inverse.proofs.Seen.{Names, Sees, cell_for, one_to_one, same_names, written_seen}
use Rattle.meaning_inverse.proofs.Ground.{IsLive, AreLive}
use Rattle.meaning_inverse.proofs.Undone.{SameOn}
use Rattle.meaning_inverse.proofs.Moves.{live_written}
use Rattle.meaning_inverse.proofs.Calls.{frame_alike}
use Rattle.meaning_inverse.proofs.Places.{dropped, added, made, not_drawn, block_without}
use Rattle.std.proofs.lemmas.Option.{same_Some}
use Rattle.meaning_reached.proofs.roopl_semantics_laws.Changed.{with_cell}

-- two numbers change places
abbrev swap_number : ℕ → ℕ → ℕ → ℕ
swap_number p q x = if nat_eq x p then q else (if nat_eq x q then p else x)

swap_other : (p q x : ℕ) → nat_eq x p ≡ false → nat_eq x q ≡ false → swap_number p q x ≡ x
swap_other p q x e h = ap (λ t. if t then q else (if nat_eq x q then p else x)) e ∙ ap (λ t. if t then p else x) h

swap_first : (p q : ℕ) → swap_number p q p ≡ q
swap_first p q = ap (λ t. if t then q else (if nat_eq p q then p else p)) (eq-eqb p p refl)

swap_second : (p q x : ℕ) → nat_eq x p ≡ false → x ≡ q → swap_number p q x ≡ p
swap_second p q x e h = ap (λ t. if t then q else (if nat_eq x q then p else x)) e
    ∙ ap (λ t. if t then p else x) (eq-eqb x q h)

swap_twice : (p q x : ℕ) → swap_number p q (swap_number p q x) ≡ x
swap_twice p q x = by (nat_eq x p) refl (nat_eq x q) refl
  where
    back : (t : Bool) → nat_eq q p ≡ t → swap_number p q q ≡ p
    back true e = ap (λ t. if t then q else (if nat_eq q q then p else q)) e ∙ eqb-true q p e
    back false e = swap_second p q q e refl

    by : (s : Bool) → nat_eq x p ≡ s → (t : Bool) → nat_eq x q ≡ t → swap_number p q (swap_number p q x) ≡ x
    by true e t h = ap (λ s. swap_number p q (if s then q else (if nat_eq x q then p else x))) e
        ∙ back (nat_eq q p) refl ∙ sym (eqb-true x p e)
    by false e true h = ap (swap_number p q) (swap_second p q x e (eqb-true x q h)) ∙ swap_first p q
        ∙ sym (eqb-true x q h)
    by false e false h = ap (swap_number p q) (swap_other p q x e h) ∙ swap_other p q x e h

apart : (n m : ℕ) → (n ≡ m → ⊥) → nat_eq n m ≡ false
apart n m h = ne_eqb n m h

-- the map that carries a name to one that is drawn
pub drawn_names : (f : Names) (n m : ℕ) → 0 < n → n ≢ main_name → 2 ≤ m → Names
drawn_names f n m positive not_main from =
    record {
      there = λ x. swap_number (f.there n) m (f.there x);
      back = λ y. f.back (swap_number (f.there n) m y);
      there_and_back = λ x. ap f.back (swap_twice (f.there n) m (f.there x)) ∙ f.there_and_back x;
      back_and_there = λ y. ap (swap_number (f.there n) m) (f.back_and_there (swap_number (f.there n) m y))
          ∙ swap_twice (f.there n) m y;
      zero_stays = ap (swap_number (f.there n) m) f.zero_stays
          ∙ swap_other (f.there n) m 0 (apart 0 (f.there n) (λ e.
          (let z : 0 ≡ n = one_to_one f 0 n (f.zero_stays ∙ e) in absurd (omega arith))))
          (apart 0 m (λ e. absurd (omega arith)));
      main_stays = ap (swap_number (f.there n) m) f.main_stays
          ∙ swap_other (f.there n) m main_name (apart main_name (f.there n)
          (λ e. not_main (sym (one_to_one f main_name n (f.main_stays ∙ e)))))
          (apart main_name m (λ e. absurd (omega arith)));
    }

drawn_other : (f : Names) (n m x : ℕ) → nat_eq n x ≡ false → nat_eq m (f.there x) ≡ false
    → swap_number (f.there n) m (f.there x) ≡ f.there x
drawn_other f n m x e h = swap_other (f.there n) m (f.there x) (same_names f x n ∙ apart_sym n x e)
    (apart_sym m (f.there x) h)

-- a cell that is not of the object
abbrev pub IsApart : ℕ → Cell → Type 0
IsApart n (Slot i) = Unit {0}
IsApart n (Part k i) = nat_eq n k ≡ false

-- the state without the object, and with its cell emptied
abbrev pub gone : State → Cell → ℕ → ℕ → State
gone st cell n order = written (dropped st n order) cell Nil

pub gone_frame : (st : State) (cell : Cell) (n order : ℕ) → (gone st cell n order).frame ≡ (written st cell Nil).frame
gone_frame st (Slot i) n order = refl
gone_frame st (Part k i) n order = refl

pub gone_self : (st : State) (cell : Cell) (n order : ℕ) → (gone st cell n order).self ≡ (written st cell Nil).self
gone_self st (Slot i) n order = refl
gone_self st (Part k i) n order = refl

pub gone_depth : (st : State) (cell : Cell) (n order : ℕ) → (gone st cell n order).depth ≡ (written st cell Nil).depth
gone_depth st (Slot i) n order = refl
gone_depth st (Part k i) n order = refl

pub gone_log : (st : State) (cell : Cell) (n order : ℕ) → (gone st cell n order).log ≡ Given n order ∷ st.log
gone_log st (Slot i) n order = refl
gone_log st (Part k i) n order = refl

pub written_log : (st : State) (cell : Cell) (v : Value) → (written st cell v).log ≡ st.log
written_log st (Slot i) v = refl
written_log st (Part k i) v = refl

-- the object itself is gone
pub gone_none : (st : State) (cell : Cell) (n order : ℕ) → IsSound st
    → object_named (gone st cell n order).store n ≡ None
gone_none st (Slot i) n order s = named_without_same st.store n s.unique
gone_none st (Part k i) n order s = named_changed (without st.store n) k (with_cell i Nil) n ∙ by (nat_eq k n)
  where
    by : (t : Bool) → (if t then option_map (with_cell i Nil) (object_named (without st.store n) n) else object_named
        (without st.store n) n) ≡ None
    by true = ap (option_map (with_cell i Nil)) (named_without_same st.store n s.unique)
    by false = named_without_same st.store n s.unique

-- and all others are as they were
pub gone_other : (st : State) (cell : Cell) (n order m : ℕ) → nat_eq n m ≡ false
    → object_named (written st cell Nil).store m ≡ object_named (gone st cell n order).store m
gone_other st (Slot i) n order m e = sym (named_without st.store n m e)
gone_other st (Part k i) n order m e =
    named_changed st.store k (with_cell i Nil) m
    ∙ ap (λ o. if nat_eq k m then option_map (with_cell i Nil) o else o) (sym (named_without st.store n m e))
    ∙ sym (named_changed (without st.store n) k (with_cell i Nil) m)

emptied_object : (st : State) (cell : Cell) (n : ℕ) → IsApart n cell
    → object_named (written st cell Nil).store n ≡ object_named st.store n
emptied_object st (Slot i) n a = refl
emptied_object st (Part k i) n a = named_changed st.store k (with_cell i Nil) n
    ∙ ap (λ t. if t then option_map (with_cell i Nil) (object_named st.store n) else object_named st.store n)
    (apart_sym n k a)

none_mapped : (f : Object → Object) (o : Option Object) → option_map f o ≡ None → o ≡ None
none_mapped f None e = refl
none_mapped f (Some o) e = cc

values_alike : (f g : ℕ → ℕ) (cells : List Value) → ((i n : ℕ) → slice_get cells i ≡ Some (Name n) → f n ≡ g n)
    → map (renamed f) cells ≡ map (renamed g) cells
values_alike f g [] h = refl
values_alike f g (v ∷ cells) h = ap (λ x. x ∷ map (renamed f) cells) (by v refl)
    ∙ ap (λ l. renamed g v ∷ l) (values_alike f g cells (λ i n e. h (suc i) n e))
  where
    by : (w : Value) → v ≡ w → renamed f v ≡ renamed g v
    by (Word w) e = ap (renamed f) e ∙ ap (renamed g) (sym e)
    by Nil e = ap (renamed f) e ∙ ap (renamed g) (sym e)
    by (Name n) e = ap (renamed f) e ∙ ap (λ k. Name k) (h 0 n (ap (λ x. Some x) e)) ∙ ap (renamed g) (sym e)

-- the block is taken again
record Retaken (h : ℕ) (log : Log) (name order block : ℕ) (book : Book) : Type 0 where
  at : Placing
  was : place h log ≡ Some at
  is : place h (Taken name order ∷ log) ≡ Some (record { book = book; blocks = (name, block) ∷ at.blocks })

retaken : (h : ℕ) (log : Log) (name order block : ℕ) (given book : Book) → book_of (place h log) ≡ Some given
    → take given order ≡ Some (block, book) → Retaken h log name order block book
retaken h log name order block given book e takes = by (place h log) refl e
  where
    by : (p : Option Placing) → place h log ≡ p → book_of p ≡ Some given → Retaken h log name order block book
    by None f g = cc
    by (Some at) f g =
        record {
          at = at;
          was = f;
          is = ap (after_request (Taken name order)) f ∙ ap (λ b. with_block name at.blocks (take b order))
              (same_Some at.book given g) ∙ ap (with_block name at.blocks) takes;
        }

pub record Redrawn (h : ℕ) (f : Names) (a b b' : State) (cell : Cell) (size : ℕ) (head : Head) (cells : List Value) :
    Type 0 where
  pub names : Names
  pub sees : Sees h names a (made b' (cell_for f cell) size head cells)
  pub same : SameOn f names a b
  pub placed : is_none (place h (Taken (2 + count_taken b'.log) (order_of_cells size) ∷ b'.log)) ≡ false

module _ (h : ℕ) (f : Names) (a b' : State) (cell : Cell) (n : ℕ) (object : Object) (size : ℕ) (head : Head)
    (cells : List Value)
    (sound : IsSound a) (there : IsCell a cell) (named : object_named a.store n ≡ Some object)
    (is : object ≡ new_object head cells) (plain : (g : ℕ → ℕ) → map (renamed g) cells ≡ cells)
    (holds : read a cell ≡ Name n) (aside : IsApart n cell) (not_main : n ≢ main_name)
    (live : AreLive (gone a cell n (order_of_cells size)))
    (at : Placing) (placed : place h a.log ≡ Some at) (takes : take
    (give_back at.book (order_of_cells size) (block_of at.blocks n)) (order_of_cells size)
    ≡ Some (block_of at.blocks n, at.book))
    (sees : Sees h f (gone a cell n (order_of_cells size)) b') where
  abbrev b : State
  b = gone a cell n (order_of_cells size)

  abbrev drawn : ℕ
  drawn = 2 + count_taken b'.log

  abbrev g : Names
  g = drawn_names f n drawn (sound.positive n object named) not_main
      (let z : 2 ≤ 2 + count_taken b'.log = omega arith in z)

  live_apart : (m : ℕ) → IsLive b.store m → nat_eq n m ≡ false
  live_apart m l = by (nat_eq n m) refl
    where
      by : (t : Bool) → nat_eq n m ≡ t → nat_eq n m ≡ false
      by false e = e
      by true e = (let P : ℕ → Type 0 = λ x. object_named b.store x ≡ None in
          let none = subst P (eqb-true n m e) (gone_none a cell n (order_of_cells size) sound) in
          let z : None ≡ Some l.object = sym none ∙ l.there in cc)

  live_undrawn : (m : ℕ) → IsLive b.store m → nat_eq drawn (f.there m) ≡ false
  live_undrawn m l = not_drawn b' sees.sound (f.there m) (renamed_object f.there l.object)
      (sees.objects m ∙ ap (option_map (renamed_object f.there)) l.there)

  agree : (m : ℕ) → IsLive b.store m → g.there m ≡ f.there m
  unfolding drawn_names
  agree m l = drawn_other f n drawn m (live_apart m l) (live_undrawn m l)

  at_drawn : g.there n ≡ drawn
  unfolding drawn_names
  at_drawn = swap_first (f.there n) drawn

  again : Retaken h b'.log drawn (order_of_cells size) (block_of at.blocks n) at.book
  again = retaken h b'.log drawn (order_of_cells size) (block_of at.blocks n)
      (give_back at.book (order_of_cells size) (block_of at.blocks n)) at.book
      (sees.book ∙ ap (λ l. book_of (place h l)) (gone_log a cell n (order_of_cells size))
      ∙ ap (λ p. book_of (after_request (Given n (order_of_cells size)) p)) placed) takes

  objects : (m : ℕ) (t : Bool) → nat_eq n m ≡ t → (u : Bool) → nat_eq drawn (f.there m) ≡ u
      → object_named ((drawn, new_object head cells) ∷ b'.store) (g.there m)
      ≡ option_map (renamed_object g.there) (object_named (written a cell Nil).store m)
  unfolding drawn_names
  objects m true e u k =
      let P : ℕ → Type 0 = λ x. object_named ((drawn, new_object head cells) ∷ b'.store) (g.there x)
      ≡ option_map (renamed_object g.there) (object_named (written a cell Nil).store x) in
      subst P (eqb-true n m e)
      (ap (λ x. if nat_eq drawn x then Some (new_object head cells) else object_named b'.store x) at_drawn
      ∙ ap (λ t. if t then Some (new_object head cells) else object_named b'.store drawn) (eq-eqb drawn drawn refl)
      ∙ ap (λ c. Some (new_object head c)) (sym (plain g.there))
      ∙ ap (λ o. option_map (renamed_object g.there) (Some o)) (sym is)
      ∙ ap (option_map (renamed_object g.there)) (sym (emptied_object a cell n aside ∙ named)))
  objects m false e true k =
      let is_drawn : drawn ≡ f.there m = eqb-true drawn (f.there m) k in
      let none : object_named b.store m ≡ None = none_mapped (renamed_object f.there) (object_named b.store m)
      (sym (sees.objects m) ∙ ap (object_named b'.store) (sym is_drawn) ∙ undrawn b' sees.sound) in
      let moved : g.there m ≡ f.there n = swap_second (f.there n) drawn (f.there m) (same_names f m n ∙ apart_sym n m e)
      (sym is_drawn) in
      let differs : nat_eq drawn (f.there n) ≡ false = ap (λ x. nat_eq x (f.there n)) is_drawn ∙ same_names f m n
      ∙ apart_sym n m e in
      ap (λ x. if nat_eq drawn x then Some (new_object head cells) else object_named b'.store x) moved
      ∙ ap (λ t. if t then Some (new_object head cells) else object_named b'.store (f.there n)) differs
      ∙ sees.objects n ∙ ap (option_map (renamed_object f.there)) (gone_none a cell n (order_of_cells size) sound)
      ∙ ap (option_map (renamed_object g.there)) (sym (gone_other a cell n (order_of_cells size) m e ∙ none))
  objects m false e false k =
      ap (λ x. if nat_eq drawn x then Some (new_object head cells) else object_named b'.store x)
      (drawn_other f n drawn m e k)
      ∙ ap (λ t. if t then Some (new_object head cells) else object_named b'.store (f.there m)) k
      ∙ sees.objects m
      ∙ by (object_named b.store m) refl
      ∙ ap (option_map (renamed_object g.there)) (sym (gone_other a cell n (order_of_cells size) m e))
    where
      by : (o : Option Object) → object_named b.store m ≡ o
          → option_map (renamed_object f.there) (object_named b.store m)
          ≡ option_map (renamed_object g.there) (object_named b.store m)
      by None q = ap (option_map (renamed_object f.there)) q ∙ ap (option_map (renamed_object g.there)) (sym q)
      by (Some o) q =
          ap (option_map (renamed_object f.there)) q
          ∙ ap (λ c. Some (record o { cells = c })) (values_alike f.there g.there o.cells
          (λ i x w. sym (agree x (live.cells m o q i x w))))
          ∙ ap (option_map (renamed_object g.there)) (sym q)

  blocks : (m : ℕ) (o : Object) → object_named (written a cell Nil).store m ≡ Some o → m ≢ main_name → (t : Bool)
      → nat_eq n m ≡ t → block_in (place h (Taken drawn (order_of_cells size) ∷ b'.log)) (g.there m)
      ≡ block_in (place h a.log) m
  blocks m o e ne true q =
      let P : ℕ → Type 0 = λ x. block_in (place h (Taken drawn (order_of_cells size) ∷ b'.log)) (g.there x)
      ≡ block_in (place h a.log) x in
      subst P (eqb-true n m q)
      (ap (λ p. block_in p (g.there n)) again.is
      ∙ ap (λ x. Some (if nat_eq drawn x then block_of at.blocks n else block_of again.at.blocks x)) at_drawn
      ∙ ap (λ t. Some (if t then block_of at.blocks n else block_of again.at.blocks drawn)) (eq-eqb drawn drawn refl)
      ∙ ap (λ p. block_in p n) (sym placed))
  blocks m o e ne false q =
      let l : IsLive b.store m = record { object = o; there = sym (gone_other a cell n (order_of_cells size) m q) ∙ e }
      in
      ap (λ p. block_in p (g.there m)) again.is
      ∙ ap (λ x. Some (if nat_eq drawn x then block_of at.blocks n else block_of again.at.blocks x)) (agree m l)
      ∙ ap (λ t. Some (if t then block_of at.blocks n else block_of again.at.blocks (f.there m))) (live_undrawn m l)
      ∙ ap (λ p. block_in p (f.there m)) (sym again.was)
      ∙ sees.blocks m l.object l.there ne
      ∙ ap (λ l. block_in (place h l) m) (gone_log a cell n (order_of_cells size))
      ∙ ap (λ p. block_in (after_request (Given n (order_of_cells size)) p) m) placed
      ∙ ap (λ x. Some x) (block_without at.blocks n m q)
      ∙ ap (λ p. block_in p m) (sym placed)

  sees_added : Sees h g (written a cell Nil) (added b' size head cells)
  sees_added =
      record {
        frame = sees.frame ∙ frame_alike f.there g.there b.frame (λ i m e. sym (agree m (live.frame i m e)))
            ∙ ap (map (renamed_binding g.there)) (gone_frame a cell n (order_of_cells size));
        self = sees.self ∙ sym (agree b.self live.self) ∙ ap g.there (gone_self a cell n (order_of_cells size));
        depth = sees.depth ∙ gone_depth a cell n (order_of_cells size);
        objects = λ m. objects m (nat_eq n m) refl (nat_eq drawn (f.there m)) refl;
        book = ap book_of again.is ∙ ap book_of (sym placed)
            ∙ ap (λ l. book_of (place h l)) (sym (written_log a cell Nil));
        blocks = λ m o e ne. blocks m o e ne (nat_eq n m) refl
            ∙ ap (λ l. block_in (place h l) m) (sym (written_log a cell Nil));
        sound = (later_made b' (order_of_cells size) (new_object head cells) sees.sound).sound;
      }

  same_cell_for : (c : Cell) → IsCell a c → IsApart n c → cell_for g c ≡ cell_for f c
  same_cell_for c (IsSlot i k) q = refl
  same_cell_for c (IsPart k i o e l) q =
      let live_k = live_written a cell Nil k (record { object = o; there = e }) in
      ap (λ x. Part x i) (agree k (record {
        object = live_k.object;
        there = sym (gone_other a cell n (order_of_cells size) k q) ∙ live_k.there;
      }))

  pub redrawn : Redrawn h f a b b' cell size head cells
  redrawn =
      let one = written_seen h g (written a cell Nil) (added b' size head cells) sees_added cell (Name n) in
      let P : State → Type 0 = λ s. Sees h g s (written (added b' size head cells) (cell_for g cell) (Name (g.there n)))
      in
      let Q : Cell → Type 0 = λ c. Sees h g a (written (added b' size head cells) c (Name (g.there n))) in
      let R : ℕ → Type 0 = λ x. Sees h g a (written (added b' size head cells) (cell_for f cell) (Name x)) in
      record {
        names = g;
        sees = subst R at_drawn (subst Q (same_cell_for cell there aside)
            (subst P (written_twice a cell Nil (Name n) ∙ ap (written a cell) (sym holds) ∙ written_same a cell)
            one));
        same = λ m o p e q. agree m (record { object = p; there = q });
        placed = ap is_none again.is;
      }
