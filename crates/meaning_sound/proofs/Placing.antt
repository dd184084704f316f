-- Blocks through the requests of a run.
use Rattle.std.proofs.Common.{◌≡◌, ◌≢◌, ◌∙◌, sym, ap, refl, ℕ, ◌+◌, ◌<◌, Bool, true, false, List, [], ◌∷◌}
use Rattle.std.proofs.Common.{◌++◌, map, length, Option, Some, None}
use Rattle.std.proofs.lemmas.Bool.{eqb-true}
use Rattle.std.specs.Prelude.{nat_eq, is_none, is_some, if◌then◌else◌}
use Rattle.std.specs.Option.{option_map}
use Rattle.roopl_semantics.specs.buddy_book.Book.{Book, take, give_back}
use Rattle.roopl_semantics.specs.buddy_book.Place.{Taken, Given, Log, Placing, block_of, without_name, with_block, after_request, place}
use Rattle.roopl_semantics.specs.buddy_book.Shown.{Shown, TakenBlocks, order_in, with_taken, without_taken}
use Rattle.roopl_semantics.proofs.buddy_book_laws.Table.{order_in-with}
use Rattle.roopl_semantics.proofs.buddy_book_laws.Orders.{take_took, give_gave}
use Rattle.roopl_semantics.proofs.buddy_book_laws.Kept.{none_taken, take_kept, given_back, give_kept}
use Rattle.roopl_semantics.proofs.buddy_book_laws.Requests.{order_in-with_other, order_in-without_other}
use Rattle.roopl_semantics.proofs.buddy_book_laws.Requests.{block_of_other}
use Rattle.roopl_semantics.specs.Store.{Head, Object, Store, main_name, without}
use Rattle.roopl_semantics.specs.Execution.{Setting, order_of_cells}
use Rattle.roopl_semantics.specs.Laws.{block_in}
use Rattle.roopl_semantics.proofs.Orders.{order_from_one}
use Rattle.meaning_sound.specs.Sound.{head_of, head_named, is_live, cell_kinds, Descending, entry_name, IsPlaced}
use Rattle.meaning_sound.proofs.Stores.{other_number, differs, here, there, without_other, without_here}

-- ---- names

abbrev less : ℕ → List ℕ → List ℕ
less n [] = []
less n (k ∷ ks) = if nat_eq k n then ks else k ∷ less n ks

less_store : (store : Store) (n : ℕ) → map entry_name (without store n) ≡ less n (map entry_name store)
less_store [] n = refl
less_store ((k, o) ∷ store) n = by (less_store store n) (nat_eq k n)
  where
    by : map entry_name (without store n) ≡ less n (map entry_name store) → (t : Bool)
        → map entry_name (if t then store else (k, o) ∷ without store n)
        ≡ (if t then map entry_name store else k ∷ less n (map entry_name store))
    by rest true = refl
    by rest false = ap (λ z. k ∷ z) rest

less_blocks : (blocks : List (ℕ × ℕ)) (n : ℕ) → map entry_name (without_name blocks n) ≡ less n (map entry_name blocks)
less_blocks [] n = refl
less_blocks ((k, b) ∷ blocks) n = by (less_blocks blocks n) (nat_eq k n)
  where
    by : map entry_name (without_name blocks n) ≡ less n (map entry_name blocks) → (t : Bool)
        → map entry_name (if t then blocks else (k, b) ∷ without_name blocks n)
        ≡ (if t then map entry_name blocks else k ∷ less n (map entry_name blocks))
    by rest true = refl
    by rest false = ap (λ z. k ∷ z) rest

less_before : (n m : ℕ) (ks : List ℕ) → n ≢ m → less n (ks ++ m ∷ []) ≡ less n ks ++ m ∷ []
less_before n m [] h = ap (λ t. if t then [] else m ∷ []) (other_number m n (λ e. h (sym e)))
less_before n m (k ∷ ks) h = by (less_before n m ks h) (nat_eq k n)
  where
    by : less n (ks ++ m ∷ []) ≡ less n ks ++ m ∷ [] → (t : Bool)
        → (if t then ks ++ m ∷ [] else k ∷ less n (ks ++ m ∷ [])) ≡ (if t then ks else k ∷ less n ks) ++ m ∷ []
    by rest true = refl
    by rest false = ap (λ z. k ∷ z) rest

-- ---- a block is taken

-- what a request found
pub record TookBlock (at : Placing) (order : ℕ) : Type 0 where
  pub block : ℕ
  pub book : Book
  pub is : take at.book order ≡ Some (block, book)

pub took_block : (h name order : ℕ) (log : Log) (at : Placing) → place h log ≡ Some at
    → is_none (place h (Taken name order ∷ log)) ≡ false → TookBlock at order
took_block h name order log at placed some = by (take at.book order) refl
  where
    by : (r : Option (ℕ × Book)) → take at.book order ≡ r → TookBlock at order
    by None e =
        let none : is_none (place h (Taken name order ∷ log)) ≡ true =
        ap (λ p. is_none (after_request (Taken name order) p)) placed
        ∙ ap (λ r. is_none (with_block name at.blocks r)) e in
        absurd (cc)
    by (Some (block, book)) e = record { block = block; book = book; is = e }

pub place_taken : (h name order : ℕ) (log : Log) (at : Placing) → place h log ≡ Some at → (t : TookBlock at order)
    → place h (Taken name order ∷ log) ≡ Some (record { book = t.book; blocks = (name, t.block) ∷ at.blocks })
place_taken h name order log at placed t = ap (after_request (Taken name order)) placed
    ∙ ap (with_block name at.blocks) t.is

module _ (setting : Setting) where
  abbrev heap : ℕ
  heap = setting.limits.heap

  pub block_kept_taken : (name order n : ℕ) (log : Log) (at : Placing) → place heap log ≡ Some at → TookBlock at order
      → name ≢ n → block_in (place heap (Taken name order ∷ log)) n ≡ block_in (place heap log) n
  block_kept_taken name order n log at placed t h =
      ap (λ p. block_in p n) (place_taken heap name order log at placed t)
      ∙ ap (λ b. Some (if b then t.block else block_of at.blocks n)) (other_number name n h)
      ∙ sym (ap (λ p. block_in p n) placed)

  pub block_kept_given : (name order n : ℕ) (log : Log) (at : Placing) → place heap log ≡ Some at → name ≢ n
      → block_in (place heap (Given name order ∷ log)) n ≡ block_in (place heap log) n
  block_kept_given name order n log at placed h =
      ap (λ p. block_in (after_request (Given name order) p) n) placed
      ∙ ap (λ b. Some b) (block_of_other at.blocks name n h)
      ∙ sym (ap (λ p. block_in p n) placed)

  abbrev shown : Placing → TakenBlocks → Shown
  shown at taken = record { h = heap; base = 0; free = at.book; taken = taken }

  older : (name m : ℕ) (o : Object) (store : Store) → name ≢ m → head_named ((name, o) ∷ store) m ≡ head_named store m
  older name m o store h = ap (option_map head_of) (there name m o store (other_number name m h))

  pub placed_taken : (store : Store) (log : Log) (name : ℕ) (object : Object) → IsPlaced setting store log
      → Descending name store → main_name < name
      → is_none (place heap (Taken name (order_of_cells (length (cell_kinds setting.program object.head))) ∷ log))
      ≡ false
      → IsPlaced setting ((name, object) ∷ store) (Taken name
      (order_of_cells (length (cell_kinds setting.program object.head))) ∷ log)
  placed_taken store log name object p fresh above some =
      let k = order_of_cells (length (cell_kinds setting.program object.head)) in
      let t = took_block heap name k log p.at p.placed some in
      let from = order_from_one (length (cell_kinds setting.program object.head)) in
      let none : order_in p.taken t.block ≡ None = none_taken (shown p.at p.taken) k t.block t.book p.kept from t.is
      (order_in p.taken t.block) refl in
      record {
        at = record { book = t.book; blocks = (name, t.block) ∷ p.at.blocks };
        placed = place_taken heap name k log p.at p.placed t;
        names = ap (λ z. name ∷ z) p.names;
        taken = with_taken t.block k p.taken;
        kept = take_kept (shown p.at p.taken) k t.block t.book p.kept from t.is
            ((take_took heap k t.block p.at.book t.book from p.kept.sound t.is).count ∙ p.kept.lists);
        orders = λ m head named no_main. order_of k t none m head named no_main (nat_eq name m) refl refl;
        apart = λ n m a b c d e. both k t none n m a b c d e (nat_eq name n) refl (nat_eq name m) refl;
      }
    where
      in_taken : (m : ℕ) → is_live store m ≡ true → m ≢ main_name → (t : ℕ) → order_in p.taken t ≡ None
          → t ≢ block_of p.at.blocks m
      in_taken m live no_main t none e = by (head_named store m) refl live
        where
          by : (r : Option Head) → head_named store m ≡ r → is_some r ≡ true → ⊥
          by None q l = cc
          by (Some hd) q l = let o = p.orders m hd q no_main in let z = ap (order_in p.taken) e in cc

      first_block : (k : ℕ) (t : TookBlock p.at k) (m : ℕ) → nat_eq name m ≡ true
          → block_of ((name, t.block) ∷ p.at.blocks) m ≡ t.block
      first_block k t m e = ap (λ b. if b then t.block else block_of p.at.blocks m) e

      later_block : (k : ℕ) (t : TookBlock p.at k) (m : ℕ) → nat_eq name m ≡ false
          → block_of ((name, t.block) ∷ p.at.blocks) m ≡ block_of p.at.blocks m
      later_block k t m e = ap (λ b. if b then t.block else block_of p.at.blocks m) e

      live_before : (m : ℕ) → nat_eq name m ≡ false → is_live ((name, object) ∷ store) m ≡ true → is_live store m ≡ true
      live_before m e l = ap is_some (sym (older name m object store (differs name m e))) ∙ l

      order_of : (k : ℕ) (t : TookBlock p.at k) → order_in p.taken t.block ≡ None → (m : ℕ) (head : Head)
          → head_named ((name, object) ∷ store) m ≡ Some head → m ≢ main_name → (b : Bool) → nat_eq name m ≡ b
          → k ≡ order_of_cells (length (cell_kinds setting.program object.head))
          → order_in (with_taken t.block k p.taken) (block_of ((name, t.block) ∷ p.at.blocks) m)
          ≡ Some (order_of_cells (length (cell_kinds setting.program head)))
      order_of k t none m head named no_main true e is =
          let same : object.head ≡ head = let x = sym (ap (option_map head_of) (here name m object store e))
          ∙ named in cc in
          ap (order_in (with_taken t.block k p.taken)) (first_block k t m e) ∙ order_in-with t.block k p.taken none
          ∙ ap (λ z. Some z) (is ∙ ap (λ hd. order_of_cells (length (cell_kinds setting.program hd))) same)
      order_of k t none m head named no_main false e is =
          let before : head_named store m ≡ Some head = sym (older name m object store (differs name m e)) ∙ named in
          ap (order_in (with_taken t.block k p.taken)) (later_block k t m e)
          ∙ order_in-with_other t.block k (block_of p.at.blocks m) p.taken
          (in_taken m (ap is_some before) no_main t.block none)
          ∙ p.orders m head before no_main

      both : (k : ℕ) (t : TookBlock p.at k) → order_in p.taken t.block ≡ None → (n m : ℕ)
          → is_live ((name, object) ∷ store) n ≡ true → is_live ((name, object) ∷ store) m ≡ true → n ≢ main_name
          → m ≢ main_name → n ≢ m → (b : Bool) → nat_eq name n ≡ b → (c : Bool) → nat_eq name m ≡ c
          → block_of ((name, t.block) ∷ p.at.blocks) n ≢ block_of ((name, t.block) ∷ p.at.blocks) m
      both k t none n m ln lm n_no m_no apart true e true f q = apart (sym (eqb-true name n e) ∙ eqb-true name m f)
      both k t none n m ln lm n_no m_no apart true e false f q =
          in_taken m (live_before m f lm) m_no t.block none (sym (first_block k t n e) ∙ q ∙ later_block k t m f)
      both k t none n m ln lm n_no m_no apart false e true f q =
          in_taken n (live_before n e ln) n_no t.block none (sym (first_block k t m f) ∙ sym q ∙ later_block k t n e)
      both k t none n m ln lm n_no m_no apart false e false f q =
          p.apart n m (live_before n e ln) (live_before m f lm) n_no m_no apart
          (sym (later_block k t n e) ∙ q ∙ later_block k t m f)

  pub placed_given : (store : Store) (log : Log) (bound name : ℕ) (head : Head) → IsPlaced setting store log
      → Descending bound store → name ≢ main_name → head_named store name ≡ Some head
      → IsPlaced setting (without store name) (Given name (order_of_cells (length (cell_kinds setting.program head)))
      ∷ log)
  placed_given store log bound name head p fresh no_main named =
      let k = order_of_cells (length (cell_kinds setting.program head)) in
      let block = block_of p.at.blocks name in
      let from = order_from_one (length (cell_kinds setting.program head)) in
      let own = p.orders name head named no_main in
      let back = given_back (shown p.at p.taken) k block p.kept own in
      record {
        at = record { book = give_back p.at.book k block; blocks = without_name p.at.blocks name };
        placed = ap (after_request (Given name k)) p.placed;
        names = less_store store name ∙ ap (less name) p.names
            ∙ less_before name main_name (map entry_name p.at.blocks) no_main
            ∙ ap (λ z. z ++ main_name ∷ []) (sym (less_blocks p.at.blocks name));
        taken = without_taken block p.taken;
        kept = give_kept (shown p.at p.taken) k block p.kept from own
            ((give_gave heap k block p.at.book from back.order_to p.kept.lists p.kept.sound back.aligned
            back.fits).count ∙ p.kept.lists);
        orders = λ m hd q m_no.
            let other : name ≢ m = λ e. dead m e (ap is_some q) in
            let before : head_named store m ≡ Some hd = sym (kept_head m other) ∙ q in
            ap (order_in (without_taken block p.taken)) (block_of_other p.at.blocks name m other)
            ∙ order_in-without_other block (block_of p.at.blocks m) p.taken
            (p.apart name m (ap is_some named) (ap is_some before) no_main m_no other)
            ∙ p.orders m hd before m_no;
        apart = λ n m ln lm n_no m_no apart e.
            let on : name ≢ n = λ q. dead n q ln in
            let om : name ≢ m = λ q. dead m q lm in
            p.apart n m (ap is_some (sym (kept_head n on)) ∙ ln) (ap is_some (sym (kept_head m om)) ∙ lm) n_no m_no
            apart (sym (block_of_other p.at.blocks name n on) ∙ e ∙ block_of_other p.at.blocks name m om);
      }
    where
      kept_head : (m : ℕ) → name ≢ m → head_named (without store name) m ≡ head_named store m
      kept_head m h = ap (option_map head_of) (without_other store name m h)

      dead : (m : ℕ) → name ≡ m → is_live (without store name) m ≡ true → ⊥
      dead m e l =
          let none : is_live (without store name) name ≡ false =
          ap (λ o. is_some (option_map head_of o)) (without_here bound store name fresh) in
          let l2 : is_live (without store name) name ≡ true = ap (is_live (without store name)) e ∙ l in
          cc
