-- An object or array goes, and counts change.
use Rattle.std.proofs.Common.{◌≡◌, ◌≢◌, ◌∙◌, sym, ap, subst, refl, ℕ, suc, ◌+◌, ◌<◌, Bool, true, false, List, [], ◌∷◌}
use Rattle.std.proofs.Common.{map, length, Some, None, arith, slice_get}
use Rattle.std.proofs.lemmas.Bool.{eqb-true}
use Rattle.std.specs.Prelude.{nat_eq, is_some, not, ◌&&◌, if◌then◌else◌}
use Rattle.std.specs.Option.{unwrap_or, option_map}
use Rattle.roopl_semantics.specs.rpp_tree.Tree.{Source}
use Rattle.roopl_semantics.specs.class_rules.declared.kind.Kind.{Kind}
use Rattle.roopl_semantics.specs.class_rules.declared.kind.Kind.TheVariants as kind
use Rattle.roopl_semantics.specs.class_rules.Expressions.{is_int}
use Rattle.roopl_semantics.specs.class_rules.Scope.{Locals}
use Rattle.roopl_semantics.specs.buddy_book.Place.{Given, count_taken}
use Rattle.roopl_semantics.specs.Store.{Value, Word, Nil, Name, Head, Object, Store, State, main_name, is_nil, is_zero}
use Rattle.roopl_semantics.specs.Store.{object_named, object_at, changed_at, without}
use Rattle.roopl_semantics.specs.Value.{Cell, Slot, Part, read, written}
use Rattle.roopl_semantics.specs.Execution.{Setting, order_of_cells, freed, count_changed, all_zero, one_less}
use Rattle.roopl_semantics.specs.Laws.{one_if_name, holders_among}
use Rattle.meaning_sound.specs.Sound.{head_of, head_named, count_of, count_named, is_live, named_fits, is_of_kind}
use Rattle.meaning_sound.specs.Sound.{cell_kinds, AllFit, bound_value, local_type, held, Descending, Sound, Stays, Keeps}
use Rattle.meaning_sound.specs.Sound.{cell_kind, Typed}
use Rattle.meaning_sound.proofs.Lists.{all_kept, all_length, holders_get}
use Rattle.meaning_sound.proofs.Stores.{same_number, other_number, differs, changed_here, changed_other}
use Rattle.meaning_sound.proofs.Stores.{without_other, without_here, descends_without, descends_changed}
use Rattle.meaning_sound.proofs.Stores.{names_changed, holders_changed, holders_without, holders_inside, live_object}
use Rattle.meaning_sound.proofs.Stores.{live_named}
use Rattle.meaning_sound.proofs.Cells.{typed_of, sound_of, changed_told, changed_objects, placed_same, heads_written}
use Rattle.meaning_sound.proofs.Cells.{counts_written, read_fits, typed_written, held_written}
use Rattle.meaning_sound.proofs.Writes.{stays_through, stays_written}
use Rattle.meaning_sound.proofs.Placing.{block_kept_given, placed_given}
use Rattle.meaning_sound.proofs.Objects.{fit_live}

-- ---- a change of one object and the drop of another

without_changed : (store : Store) (n m : ℕ) (f : Object → Object) → n ≢ m
    → without (changed_at store m f) n ≡ changed_at (without store n) m f
without_changed [] n m f h = refl
without_changed ((k, o) ∷ store) n m f h = by (without_changed store n m f h) (nat_eq k m) refl (nat_eq k n) refl
  where
    by : without (changed_at store m f) n ≡ changed_at (without store n) m f → (b : Bool) → nat_eq k m ≡ b → (c : Bool)
        → nat_eq k n ≡ c → without (if b then (k, f o) ∷ store else (k, o) ∷ changed_at store m f) n
        ≡ changed_at (if c then store else (k, o) ∷ without store n) m f
    by rest true e true d = absurd (h (sym (eqb-true k n d) ∙ eqb-true k m e))
    by rest true e false d = ap (λ z. if z then store else (k, f o) ∷ without store n) d
        ∙ sym (ap (λ z. if z then (k, f o) ∷ without store n else (k, o) ∷ changed_at (without store n) m f) e)
    by rest false e true d = ap (λ z. if z then changed_at store m f else (k, o) ∷ without (changed_at store m f) n) d
    by rest false e false d = ap (λ z. if z then changed_at store m f else (k, o) ∷ without (changed_at store m f) n) d
        ∙ ap (λ z. (k, o) ∷ z) rest ∙ sym (ap (λ z. if z then (k, f o) ∷ without store n else (k, o)
        ∷ changed_at (without store n) m f) e)

zero_none : (v : Value) (m : ℕ) → is_zero v ≡ true → one_if_name m v ≡ 0
zero_none (Word w) m h = refl
zero_none Nil m h = refl
zero_none (Name n) m h = absurd (cc)

pub zeros_none : (vs : List Value) (m : ℕ) → all_zero vs ≡ true → holders_among m vs ≡ 0
zeros_none [] m h = refl
zeros_none (v ∷ vs) m h = by (is_zero v) refl h (λ q. zeros_none vs m q)
  where
    by : (b : Bool) → is_zero v ≡ b → (b && all_zero vs) ≡ true → (all_zero vs ≡ true → holders_among m vs ≡ 0)
        → holders_among m (v ∷ vs) ≡ 0
    by true e q rest = let a = zero_none v m e in let b = rest q in omega arith
    by false e q rest = absurd (cc)

-- what a value is that is not nil and no int
pub record IsName (v : Value) : Type 0 where
  pub name : ℕ
  pub is : v ≡ Name name

pub reference : (program : Source) (store : Store) (v : Value) (k : Kind) → is_of_kind program store v k ≡ true
    → is_int k ≡ false → is_nil v ≡ false → IsName v
reference program store (Word w) k f no_int no_nil = absurd (by (is_int k) _ no_int f)
  where
    by : (b c : Bool) → b ≡ false → (b && c) ≡ true → ⊥
    by true c e q = cc
    by false c e q = cc
reference program store Nil k f no_int no_nil = absurd (cc)
reference program store (Name n) k f no_int no_nil = record { name = n; is = refl }

pub one_name : (n : ℕ) → one_if_name n (Name n) ≡ 1
one_name n = ap (λ b. if b then 1 else 0) (same_number n)

pub other_one : (m n : ℕ) → n ≢ m → one_if_name m (Name n) ≡ 0
other_one m n h = ap (λ b. if b then 1 else 0) (other_number n m h)

pub not_less : (b : Bool) → not b ≡ false → b ≡ true
not_less true h = refl
not_less false h = absurd (cc)

module _ (setting : Setting) (extra : ℕ → ℕ) (shape : Locals) (class : ℕ) where
  abbrev program : Source
  program = setting.program

  -- the state without an object that nothing holds
  module _ (st : State) (name : ℕ) (head : Head) where
    abbrev pub smaller : State
    smaller = record st {
      store = without st.store name;
      log = Given name
          (order_of_cells (length (cell_kinds program head))) ∷ st.log;
    }

    pub smaller_typed : Typed setting extra shape class st → name ≢ main_name → head_named st.store name ≡ Some head
        → held name st ≡ 0 → extra name ≡ 0 → Typed setting extra shape class smaller
    smaller_typed t no_main named unheld no_extra =
        let kept_head : (m : ℕ) → name ≢ m → head_named (without st.store name) m ≡ head_named st.store m =
        λ m h. ap (option_map head_of) (without_other st.store name m h) in
        let more : (m : ℕ) → 0 < extra m → name ≢ m = λ m p e. let z = ap extra e in omega arith in
        record {
          names = t.names;
          variables = all_kept program st.store (without st.store name) (map local_type shape) (map bound_value st.frame)
              (λ m p l. kept_head m (λ e. let z : holders_among name (map bound_value st.frame)
              ≡ holders_among m (map bound_value st.frame) = ap (λ k. holders_among k (map bound_value st.frame)) e in
              omega arith)) t.variables;
          objects = λ m o q. objects_of m o q kept_head (nat_eq name m) refl;
          lives = λ m p. ap is_some (kept_head m (more m p)) ∙ t.lives m p;
          self_is = ap (named_fits program (kind.Class class)) (kept_head st.self (more st.self t.self_held))
              ∙ t.self_is;
          self_held = t.self_held;
          main_extra = t.main_extra;
          fresh = descends_without (2 + count_taken st.log) st.store name t.fresh;
          placed = placed_given setting st.store st.log (2 + count_taken st.log) name head t.placed t.fresh no_main
              named;
        }
      where
        objects_of : (m : ℕ) (o : Object) → object_named (without st.store name) m ≡ Some o
            → ((m : ℕ) → name ≢ m → head_named (without st.store name) m ≡ head_named st.store m) → (b : Bool)
            → nat_eq name m ≡ b → AllFit program (without st.store name) (cell_kinds program o.head) o.cells
        objects_of m o q kept_head true e =
            let none = without_here (2 + count_taken st.log) st.store name t.fresh in
            let x : object_named (without st.store name) name ≡ Some o =
            ap (object_named (without st.store name)) (eqb-true name m e) ∙ q in
            absurd (cc)
        objects_of m o q kept_head false e =
            let was : object_named st.store m ≡ Some o = sym (without_other st.store name m (differs name m e)) ∙ q in
            let inside = holders_inside name st.store m o was in
            all_kept program st.store (without st.store name) (cell_kinds program o.head) o.cells
            (λ x p l. kept_head x (λ d. let z : holders_among name o.cells
            ≡ holders_among x o.cells = ap (λ k. holders_among k o.cells) d in omega arith)) (t.objects m o was)

  -- ---- delete

  -- the place of what is deleted is in no cell of it
  pub apart_cell : (st : State) (cell : Cell) (n : ℕ) → read st cell ≡ Name n
      → all_zero (object_at st.store n).cells ≡ true → (m i : ℕ) → cell ≡ Part m i → n ≢ m
  apart_cell st cell n r zeros m i is e =
      let held_there : one_if_name n (read st (Part m i)) ≡ 1 = ap (λ c. one_if_name n (read st c)) (sym is)
      ∙ ap (one_if_name n) r ∙ one_name n in
      let same : read st (Part m i) ≡ unwrap_or (slice_get (object_at st.store n).cells i) Nil =
      ap (λ k. unwrap_or (slice_get (object_at st.store k).cells i) Nil) (sym e) in
      let below = holders_get n (object_at st.store n).cells i in
      let none = zeros_none (object_at st.store n).cells n zeros in
      let z = ap (one_if_name n) same in
      omega arith

  pub freed_is : (st : State) (cell : Cell) (n : ℕ) (order : ℕ) → ((m i : ℕ) → cell ≡ Part m i → n ≢ m)
      → record (written st cell Nil) {
        store = without (written st cell Nil).store n;
        log = Given n order ∷ (written st cell Nil).log;
      } ≡ written
      (record st { store = without st.store n; log = Given n order ∷ st.log }) cell Nil
  freed_is st (Slot i) n order h = refl
  freed_is st (Part m i) n order h = ap (λ z. record st { store = z; log = Given n order ∷ st.log })
      (without_changed st.store n m _ (h m i refl))

  pub object_stays : (st : State) (cell : Cell) (n : ℕ) (v : Value) → ((m i : ℕ) → cell ≡ Part m i → n ≢ m)
      → object_named (written st cell v).store n ≡ object_named st.store n
  object_stays st (Slot i) n v h = refl
  object_stays st (Part m i) n v h = changed_other st.store m n _ (λ e. h m i refl (sym e))

  pub freed_keeps : (st : State) (cell : Cell) (k : Kind) (name : ℕ) → Sound setting extra shape class st
      → cell_kind program shape st.store cell ≡ Some k → is_int k ≡ false → read st cell ≡ Name name
      → not (nat_eq (object_at st.store name).count 1) ≡ false → all_zero (object_at st.store name).cells ≡ true
      → Keeps setting extra shape class st (freed setting cell name st)
  freed_keeps st cell k name s h no_int reads one zeros =
      let t = typed_of setting extra shape class st s in
      let object = object_at st.store name in
      let fit : is_of_kind program st.store (Name name) k ≡ true =
      subst (λ v. is_of_kind program st.store v k ≡ true) reads (read_fits setting extra shape class st cell k t h) in
      let live = fit_live program st.store (Name name) k name fit (let o = one_name name in omega arith) in
      let named = live_object st.store name live in
      let counted_one : object.count ≡ 1 = eqb-true object.count 1 (not_less _ one) in
      let law = s.counts name object.count (ap (option_map count_of) named) in
      let st1 = written st cell Nil in
      let fits_nil : is_of_kind program st.store Nil k ≡ true = ap not no_int in
      let t1 = typed_written setting extra shape class st cell k Nil t h fits_nil in
      let moved : (m : ℕ) → held m st1 + one_if_name m (Name name) ≡ held m st = λ m. let a =
      held_written setting extra shape class st cell k Nil m t h in let b = ap (one_if_name m) reads in
      omega arith in
      let lost = moved name in
      let mine = one_name name in
      let no_extra : extra name ≡ 0 = omega arith in
      let unheld : held name st1 ≡ 0 = omega arith in
      let no_main : name ≢ main_name = λ e. let z : held name st ≡ held main_name st = ap (λ x. held x st) e in let u =
      s.main_unheld in omega arith in
      let apart = apart_cell st cell name reads zeros in
      let stays_object = object_stays st cell name Nil apart in
      let named1 : head_named st1.store name ≡ Some object.head = ap (option_map head_of) (stays_object ∙ named) in
      let sized : length object.cells ≡ length (cell_kinds program object.head) =
      all_length program st.store (cell_kinds program object.head) object.cells (t.objects name object named) in
      let end = smaller st1 name object.head in
      let is : end ≡ freed setting cell name st = freed_is st cell name
      (order_of_cells (length (cell_kinds program object.head))) apart
      ∙ ap (λ n. written (record st { store = without st.store name; log = Given name (order_of_cells n) ∷ st.log })
      cell Nil) (sym sized) in
      let t2 = smaller_typed st1 name object.head t1 no_main named1 unheld no_extra in
      let same_held : (m : ℕ) → held m end + one_if_name m (Name name) ≡ held m st = λ m. let a = moved m in let b =
      holders_without m st1.store name object (stays_object ∙ named) in let c = zeros_none object.cells m zeros in
      omega arith in
      subst (Keeps setting extra shape class st) is (record {
        sound = sound_of setting extra shape class end t2 (record {
          counts = λ m c q. count_is st1 t1.fresh m c (held m end)
              (λ y. counts_written setting extra shape class st cell Nil y) (same_held m) (s.counts m) q (nat_eq name m)
              refl;
          main_unheld = let a = same_held main_name in let b = s.main_unheld in omega arith;
        });
        stays = stays_through setting extra st st1 end (stays_written setting extra shape class st cell Nil) (record {
          self_same = refl;
          depth_same = refl;
          heads_same = λ m p. ap (option_map head_of) (without_other st1.store name m
              (λ e. let z = ap extra e in omega arith));
          blocks_same = λ m p. block_kept_given setting name (order_of_cells (length (cell_kinds program object.head)))
              m st1.log t1.placed.at t1.placed.placed (λ e. let z = ap extra e in omega arith);
        });
      })
    where
      count_is : (st1 : State) → Descending (2 + count_taken st1.log) st1.store → (m c x : ℕ)
          → ((y : ℕ) → count_named st1.store y ≡ count_named st.store y) → x + one_if_name m (Name name) ≡ held m st
          → ((c : ℕ) → count_named st.store m ≡ Some c → c ≡ held m st + extra m)
          → count_named (without st1.store name) m ≡ Some c → (b : Bool) → nat_eq name m ≡ b → c ≡ x + extra m
      count_is st1 fresh m c x same g law q true e =
          let none = without_here (2 + count_taken st1.log) st1.store name fresh in
          let y : count_named (without st1.store name) name ≡ Some c =
          ap (count_named (without st1.store name)) (eqb-true name m e) ∙ q in
          let z : count_named (without st1.store name) name ≡ None = ap (option_map count_of) none in
          absurd (cc)
      count_is st1 fresh m c x same g law q false e =
          let apart = differs name m e in
          let a = law c (sym (same m) ∙ sym (ap (option_map count_of) (without_other st1.store name m apart)) ∙ q) in
          let o = other_one m name apart in
          omega arith

  -- ---- counts that change

  abbrev pub recount : (ℕ → ℕ) → Object → Object
  recount f o = record o { count = f o.count }

  pub counted_heads : (st : State) (n : ℕ) (f : ℕ → ℕ) (m : ℕ)
      → head_named (count_changed f st n).store m ≡ head_named st.store m
  counted_heads st n f m = changed_told st.store n (recount f) head_of (λ o. refl) m

  pub counted_typed : (st : State) (n : ℕ) (f : ℕ → ℕ) → Typed setting extra shape class st
      → Typed setting extra shape class (count_changed f st n)
  counted_typed st n f t =
      let store' = changed_at st.store n (recount f) in
      let heads = counted_heads st n f in
      let kept : (ks : List Kind) (vs : List Value) → AllFit program st.store ks vs
      → AllFit program store' ks vs = λ ks vs a. all_kept program st.store store' ks vs (λ m x y. heads m) a in
      let P : Object → Type 0 = λ o. AllFit program store' (cell_kinds program o.head) o.cells in
      record {
        names = t.names;
        variables = kept (map local_type shape) (map bound_value st.frame) t.variables;
        objects = changed_objects P st.store n (recount f) (λ m o q. kept (cell_kinds program o.head) o.cells
            (t.objects m o q)) (λ o q. kept (cell_kinds program o.head) o.cells (t.objects n o q));
        lives = λ m x. ap is_some (heads m) ∙ t.lives m x;
        self_is = ap (named_fits program (kind.Class class)) (heads st.self) ∙ t.self_is;
        self_held = t.self_held;
        main_extra = t.main_extra;
        fresh = descends_changed (2 + count_taken st.log) st.store n (recount f) t.fresh;
        placed = placed_same setting st.store store' st.log (names_changed st.store n (recount f)) heads t.placed;
      }

  pub counted_held : (st : State) (n : ℕ) (f : ℕ → ℕ) (o : Object) → object_named st.store n ≡ Some o → (m : ℕ)
      → held m (count_changed f st n) ≡ held m st
  counted_held st n f o named m = let a = holders_changed m st.store n (recount f) o named in omega arith

  pub stays_counted : (st : State) (n : ℕ) (f : ℕ → ℕ) → Stays setting extra st (count_changed f st n)
  stays_counted st n f = record {
    self_same = refl;
    depth_same = refl;
    heads_same = λ m p. counted_heads st n f m;
    blocks_same = λ m p. refl;
  }

  -- an object id gets one reference more or less, and its reference count follows
  recounted : (st st1 : State) (n : ℕ) (o : Object) (f : ℕ → ℕ) → Sound setting extra shape class st
      → Stays setting extra st st1 → Typed setting extra shape class st1
      → ((m : ℕ) → count_named st1.store m ≡ count_named st.store m) → object_named st1.store n ≡ Some o
      → ((m : ℕ) → n ≢ m → held m st1 ≡ held m st) → (f o.count ≡ held n st1 + extra n) → n ≢ main_name
      → Keeps setting extra shape class st (count_changed f st1 n)
  recounted st st1 n o f s stays t same named others own no_main = record {
    sound = sound_of setting extra shape class (count_changed f st1 n) (counted_typed st1 n f t) (record {
      counts = λ m c q. count_is m c q (nat_eq n m) refl;
      main_unheld = counted_held st1 n f o named main_name ∙ others main_name no_main ∙ s.main_unheld;
    });
    stays = stays_through setting extra st st1 (count_changed f st1 n) stays (stays_counted st1 n f);
  }
    where
      count_is : (m c : ℕ) → count_named (count_changed f st1 n).store m ≡ Some c → (b : Bool) → nat_eq n m ≡ b
          → c ≡ held m (count_changed f st1 n) + extra m
      count_is m c q true e =
          let is = eqb-true n m e in
          let found : count_named (count_changed f st1 n).store n ≡ Some (f o.count) =
          ap (option_map count_of) (changed_here st1.store n (recount f) ∙ ap (option_map (recount f)) named) in
          let x : Some (f o.count) ≡ Some c = sym found ∙ ap (count_named (count_changed f st1 n).store) is ∙ q in
          let y : f o.count ≡ c = cc in
          let z = counted_held st1 n f o named n in
          subst (λ k. c ≡ held k (count_changed f st1 n) + extra k) is (sym y ∙ own ∙ ap (λ w. w + extra n) (sym z))
      count_is m c q false e =
          let apart = differs n m e in
          let was : count_named st.store m ≡ Some c = sym (same m)
          ∙ sym (ap (option_map count_of) (changed_other st1.store n m (recount f) apart)) ∙ q in
          let a = s.counts m c was in
          let b = counted_held st1 n f o named m in
          let d = others m apart in
          omega arith

  -- an object that a typed value names
  pub record Named (st : State) (n : ℕ) : Type 0 where
    pub object : Object
    pub named : object_named st.store n ≡ Some object
    pub law : object.count ≡ held n st + extra n
    pub no_main : n ≢ main_name

  pub named_of : (st : State) (cell : Cell) (k : Kind) (n : ℕ) → Sound setting extra shape class st
      → cell_kind program shape st.store cell ≡ Some k → read st cell ≡ Name n → Named st n
  named_of st cell k n s h reads =
      let t = typed_of setting extra shape class st s in
      let fit : is_of_kind program st.store (Name n) k ≡ true = subst (λ v. is_of_kind program st.store v k ≡ true) reads
      (read_fits setting extra shape class st cell k t h) in
      let live = fit_live program st.store (Name n) k n fit (let o = one_name n in omega arith) in
      let named = live_object st.store n live in
      let a = held_written setting extra shape class st cell k (Word 0) n t h in
      let b : one_if_name n (read st cell) ≡ 1 = ap (one_if_name n) reads ∙ one_name n in
      record {
        object = object_at st.store n;
        named = named;
        law = s.counts n (object_at st.store n).count (ap (option_map count_of) named);
        no_main = λ e. let z : held n st ≡ held main_name st = ap (λ x. held x st) e in let u = s.main_unheld in
            omega arith;
      }

  counts_object : (st : State) (n c : ℕ) → count_named st.store n ≡ Some c → (o : Object)
      → object_named st.store n ≡ Some o → o.count ≡ c
  counts_object st n c h o named = let x : Some o.count ≡ Some c = sym (ap (option_map count_of) named) ∙ h in cc

  -- what is there after a write
  there_after : (st : State) (cell : Cell) (v : Value) (n : ℕ) (o : Object) → object_named st.store n ≡ Some o
      → (object_named (written st cell v).store n ≡ Some (object_at (written st cell v).store n))
      × ((object_at (written st cell v).store n).count ≡ o.count)
  there_after st cell v n o named =
      let live : is_live (written st cell v).store n ≡ true =
      ap is_some (heads_written setting extra shape class st cell v n) ∙ live_named st.store n o named in
      let is = live_object (written st cell v).store n live in (
        is,
        counts_object (written st cell v) n o.count (counts_written setting extra shape class st cell v n
            ∙ ap (option_map count_of) named) (object_at (written st cell v).store n) is,
      )

  pub copy_keeps : (st : State) (a b : Cell) (ka kb : Kind) (n : ℕ) → Sound setting extra shape class st
      → cell_kind program shape st.store a ≡ Some ka → cell_kind program shape st.store b ≡ Some kb
      → read st a ≡ Name n → read st b ≡ Nil → is_of_kind program st.store (Name n) kb ≡ true
      → Keeps setting extra shape class st (count_changed suc (written st b (Name n)) n)
  copy_keeps st a b ka kb n s ha hb reads empty fit =
      let t = typed_of setting extra shape class st s in
      let o = named_of st a ka n s ha reads in
      let st1 = written st b (Name n) in
      let t1 = typed_written setting extra shape class st b kb (Name n) t hb fit in
      let gained : (m : ℕ) → held m st1 ≡ held m st + one_if_name m (Name n) = λ m. let x =
      held_written setting extra shape class st b kb (Name n) m t hb in let y = ap (one_if_name m) empty in
      omega arith in
      let after = there_after st b (Name n) n o.object o.named in
      recounted st st1 n (object_at st1.store n) suc s (stays_written setting extra shape class st b (Name n)) t1
      (counts_written setting extra shape class st b (Name n)) after.0
      (λ m h. let g = gained m in let q = other_one m n h in omega arith)
      (let g = gained n in let q = one_name n in let l = o.law in let c = after.1 in omega arith)
      o.no_main

  pub uncopy_keeps : (st : State) (a b : Cell) (ka kb : Kind) (n : ℕ) → Sound setting extra shape class st
      → cell_kind program shape st.store a ≡ Some ka → cell_kind program shape st.store b ≡ Some kb → is_int kb ≡ false
      → read st a ≡ Name n → read st b ≡ Name n
      → Keeps setting extra shape class st (count_changed one_less (written st b Nil) n)
  uncopy_keeps st a b ka kb n s ha hb no_int reads same =
      let t = typed_of setting extra shape class st s in
      let o = named_of st a ka n s ha reads in
      let st1 = written st b Nil in
      let t1 = typed_written setting extra shape class st b kb Nil t hb (ap not no_int) in
      let lost : (m : ℕ) → held m st1 + one_if_name m (Name n) ≡ held m st = λ m. let x =
      held_written setting extra shape class st b kb Nil m t hb in let y = ap (one_if_name m) same in omega arith in
      let after = there_after st b Nil n o.object o.named in
      recounted st st1 n (object_at st1.store n) one_less s (stays_written setting extra shape class st b Nil) t1
      (counts_written setting extra shape class st b Nil) after.0
      (λ m h. let g = lost m in let q = other_one m n h in omega arith)
      (let g = lost n in let q = one_name n in let l = o.law in let c = after.1 in omega arith)
      o.no_main
