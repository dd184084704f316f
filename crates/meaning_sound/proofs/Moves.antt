-- Values that move into a call and back.
use Rattle.std.proofs.Common.{◌≡◌, ◌∙◌, sym, ap, refl, ℕ, ◌+◌, Bool, true, false, List, [], ◌∷◌, ◌++◌, map, Option}
use Rattle.std.proofs.Common.{Some, None, arith}
use Rattle.std.specs.Prelude.{not, ◌&&◌}
use Rattle.roopl_semantics.specs.rpp_tree.Tree.{Source}
use Rattle.roopl_semantics.specs.class_rules.declared.kind.Kind.{Kind}
use Rattle.roopl_semantics.specs.class_rules.declared.kind.Kind.TheVariants as kind
use Rattle.roopl_semantics.specs.class_rules.Expressions.{is_int}
use Rattle.roopl_semantics.specs.class_rules.Scope.{Locals}
use Rattle.roopl_semantics.specs.Store.{Value, Word, Nil, Name, Head, Store, State, is_zero, cleared}
use Rattle.roopl_semantics.specs.Value.{Cell, Slot, Part, read, written}
use Rattle.roopl_semantics.specs.Execution.{Setting, same_cell, moved_out, moved_back, TOUCHED}
use Rattle.roopl_semantics.specs.Laws.{one_if_name, holders_among}
use Rattle.meaning_sound.specs.Sound.{head_named, count_named, named_fits, is_of_kind, AllFit, held, Stays, cell_kind}
use Rattle.meaning_sound.specs.Sound.{Typed}
use Rattle.meaning_sound.proofs.Lists.{all_kept}
use Rattle.meaning_sound.proofs.Cells.{heads_written, counts_written, read_fits, typed_written, held_written}
use Rattle.meaning_sound.proofs.Cells.{kind_stays}
use Rattle.meaning_sound.proofs.AfterWrites.{read_other}
use Rattle.meaning_sound.proofs.Runs.{Ends, ends_check}
use Rattle.meaning_sound.proofs.Writes.{stays_itself, stays_through, stays_written}

-- cells with their types
abbrev pub CellsHave : Source → Locals → Store → List Kind → List Cell → Type 0
CellsHave program shape store [] [] = Unit {0}
CellsHave program shape store [] (c ∷ cs) = ⊥
CellsHave program shape store (k ∷ ks) [] = ⊥
CellsHave program shape store (k ∷ ks) (c ∷ cs) = (cell_kind program shape store c ≡ Some k)
    × CellsHave program shape store ks cs

abbrev pub ApartFrom : Cell → List Cell → Type 0
ApartFrom c [] = Unit {0}
ApartFrom c (d ∷ ds) = (same_cell c d ≡ false) × ApartFrom c ds

-- no cell twice
abbrev pub AllApart : List Cell → Type 0
AllApart [] = Unit {0}
AllApart (c ∷ cs) = ApartFrom c cs × AllApart cs

-- cells of the frame and of one object
abbrev pub IsOwn : ℕ → Cell → Type 0
IsOwn self (Slot i) = Unit {0}
IsOwn self (Part n i) = n ≡ self

abbrev pub AllOwn : ℕ → List Cell → Type 0
AllOwn self [] = Unit {0}
AllOwn self (c ∷ cs) = IsOwn self c × AllOwn self cs

pub cells_kept : (program : Source) (shape : Locals) (store other : Store) (ks : List Kind) (cs : List Cell)
    → ((c : Cell) → cell_kind program shape other c ≡ cell_kind program shape store c)
    → CellsHave program shape store ks cs → CellsHave program shape other ks cs
cells_kept program shape store other [] [] h all = tt
cells_kept program shape store other [] (c ∷ cs) h all = absurd all
cells_kept program shape store other (k ∷ ks) [] h all = absurd all
cells_kept program shape store other (k ∷ ks) (c ∷ cs) h all =
    (h c ∙ all.0, cells_kept program shape store other ks cs h all.1)

pub own_cells_kept : (program : Source) (shape : Locals) (store other : Store) (self : ℕ) (ks : List Kind)
    (cs : List Cell) → head_named other self ≡ head_named store self → AllOwn self cs
    → CellsHave program shape store ks cs → CellsHave program shape other ks cs
own_cells_kept program shape store other self [] [] h own all = tt
own_cells_kept program shape store other self [] (c ∷ cs) h own all = absurd all
own_cells_kept program shape store other self (k ∷ ks) [] h own all = absurd all
own_cells_kept program shape store other self (k ∷ ks) (Slot i ∷ cs) h own all =
    (all.0, own_cells_kept program shape store other self ks cs h own.1 all.1)
own_cells_kept program shape store other self (k ∷ ks) (Part n i ∷ cs) h own all = (
  ap (λ z. Rattle.meaning_sound.specs.Sound.part_kind program z i)
      (ap (head_named other) own.0 ∙ h ∙ sym (ap (head_named store) own.0))
      ∙ all.0,
  own_cells_kept program shape store other self ks cs h own.1 all.1,
)

pub cleared_fits : (program : Source) (store : Store) (v : Value) (k : Kind) → is_of_kind program store v k ≡ true
    → is_of_kind program store (cleared v) k ≡ true
cleared_fits program store (Word w) k h = by (is_int k) _ h
  where
    by : (b c : Bool) → (b && c) ≡ true → (b && true) ≡ true
    by true c e = refl
    by false c e = absurd (cc)
cleared_fits program store Nil k h = h
cleared_fits program store (Name n) k h = by k (head_named store n) h
  where
    by : (k : Kind) (o : Option Head) → named_fits program k o ≡ true → not (is_int k) ≡ true
    by kind.Int None e = absurd (cc)
    by kind.Int (Some hd) e = absurd (cc)
    by kind.Nil o e = refl
    by (kind.Class c) o e = refl
    by kind.IntArray o e = refl
    by (kind.ClassArray c) o e = refl

cleared_none : (v : Value) (m : ℕ) → one_if_name m (cleared v) ≡ 0
cleared_none (Word w) m = refl
cleared_none Nil m = refl
cleared_none (Name n) m = refl

zero_none : (v : Value) (m : ℕ) → not (is_zero v) ≡ false → one_if_name m v ≡ 0
zero_none (Word w) m h = refl
zero_none Nil m h = refl
zero_none (Name n) m h = absurd (cc)

pub holders_append : (m : ℕ) (vs ws : List Value) → holders_among m (vs ++ ws) ≡ holders_among m vs + holders_among m ws
holders_append m [] ws = omega arith
holders_append m (v ∷ vs) ws = let a = holders_append m vs ws in omega arith

module _ (setting : Setting) (extra : ℕ → ℕ) (shape : Locals) (class : ℕ) where
  abbrev program : Source
  program = setting.program

  reads_apart : (st : State) (cell : Cell) (v : Value) (cells : List Cell) → ApartFrom cell cells
      → map (read (written st cell v)) cells ≡ map (read st) cells
  reads_apart st cell v [] h = refl
  reads_apart st cell v (c ∷ cells) h = ap (λ z. z ∷ map (read (written st cell v)) cells) (read_other st cell c v h.0)
      ∙ ap (λ z. read st c ∷ z) (reads_apart st cell v cells h.1)

  -- a state after moves: what it holds, and what stays
  pub record Moved (st end : State) : Type 0 where
    pub typed : Typed setting extra shape class end
    pub heads : (m : ℕ) → head_named end.store m ≡ head_named st.store m
    pub counts : (m : ℕ) → count_named end.store m ≡ count_named st.store m
    pub stays : Stays setting extra st end

  pub record MovedOut (st : State) (cells : List Cell) (end : State) : Type 0 where
    pub moved : Moved st end
    pub holds : (m : ℕ) → held m end + holders_among m (map (read st) cells) ≡ held m st

  moved_itself : (st : State) → Typed setting extra shape class st → Moved st st
  moved_itself st t = record { typed = t; heads = λ m. refl; counts = λ m. refl; stays = stays_itself setting extra st }

  moved_through : (a b c : State) → Moved a b → Moved b c → Moved a c
  moved_through a b c h k = record {
    typed = k.typed;
    heads = λ m. k.heads m ∙ h.heads m;
    counts = λ m. k.counts m
        ∙ h.counts m;
    stays = stays_through setting extra a b c h.stays k.stays;
  }

  moved_write : (st : State) (cell : Cell) (k : Kind) (v : Value) → Typed setting extra shape class st
      → cell_kind program shape st.store cell ≡ Some k → is_of_kind program st.store v k ≡ true
      → Moved st (written st cell v)
  moved_write st cell k v t h f = record {
    typed = typed_written setting extra shape class st cell k v t h f;
    heads = heads_written setting extra shape class st cell v;
    counts = counts_written setting extra shape class st cell v;
    stays = stays_written setting extra shape class st cell v;
  }

  pub moves_out : (ks : List Kind) (cells : List Cell) (st : State) → Typed setting extra shape class st
      → CellsHave program shape st.store ks cells → AllApart cells → MovedOut st cells (moved_out cells st)
  moves_out [] [] st t h a = record { moved = moved_itself st t; holds = λ m. omega arith }
  moves_out [] (c ∷ cells) st t h a = absurd h
  moves_out (k ∷ ks) [] st t h a = absurd h
  moves_out (k ∷ ks) (c ∷ cells) st t h a =
      let v = cleared (read st c) in
      let st1 = written st c v in
      let one = moved_write st c k v t h.0 (cleared_fits program st.store (read st c) k
      (read_fits setting extra shape class st c k t h.0)) in
      let rest = moves_out ks cells st1 one.typed (cells_kept program shape st.store st1.store ks cells
      (kind_stays setting extra shape class st c v) h.1) a.1 in
      record {
        moved = moved_through st st1 (moved_out cells st1) one rest.moved;
        holds = λ m.
            let x = held_written setting extra shape class st c k v m t h.0 in
            let y = rest.holds m in
            let z = cleared_none (read st c) m in
            let w = ap (holders_among m) (reads_apart st c v cells a.0) in
            omega arith;
      }

  pub record MovedBack (st : State) (values : List Value) (end : State) : Type 0 where
    pub moved : Moved st end
    pub holds : (m : ℕ) → held m end ≡ held m st + holders_among m values

  pub moves_back : (ks : List Kind) (cells : List Cell) (values : List Value) (st : State)
      → Typed setting extra shape class st → CellsHave program shape st.store ks cells
      → AllFit program st.store ks values → Ends (MovedBack st values) (moved_back cells values st)
  moves_back [] [] [] st t h f = record { moved = moved_itself st t; holds = λ m. omega arith }
  moves_back [] [] (v ∷ values) st t h f = absurd f
  moves_back [] (c ∷ cells) values st t h f = absurd h
  moves_back (k ∷ ks) [] values st t h f = absurd h
  moves_back (k ∷ ks) (c ∷ cells) [] st t h f = absurd f
  moves_back (k ∷ ks) (c ∷ cells) (v ∷ values) st t h f =
      let st1 = written st c v in
      let one = moved_write st c k v t h.0 f.0 in
      let ih = moves_back ks cells values st1 one.typed (cells_kept program shape st.store st1.store ks cells
      (kind_stays setting extra shape class st c v) h.1)
      (all_kept program st.store st1.store ks values (λ m p l. one.heads m) f.1) in
      ends_check (MovedBack st (v ∷ values)) TOUCHED (not (is_zero (read st c)))
      (λ x. moved_back cells values st1) (λ q.
      Rattle.meaning_sound.proofs.Runs.ends_more (MovedBack st1 values) (MovedBack st (v ∷ values))
      (moved_back cells values st1) (λ end b. record {
        moved = moved_through st st1 end one b.moved;
        holds = λ m. let x = held_written setting extra shape class st c k v m t h.0 in let y = b.holds m in let z =
            zero_none (read st c) m q in omega arith;
      }) ih)
