-- What stays in a write, and writes that keep a state sound.
use Rattle.std.proofs.Common.{◌≡◌, ◌∙◌, sym, ap, refl, ℕ, ◌+◌, true, false, Some, arith}
use Rattle.std.specs.Prelude.{not}
use Rattle.roopl_semantics.specs.class_rules.declared.kind.Kind.{Kind}
use Rattle.roopl_semantics.specs.class_rules.Scope.{Locals}
use Rattle.roopl_semantics.specs.buddy_book.Place.{place}
use Rattle.roopl_semantics.specs.Store.{Value, Word, Nil, Name, State, main_name, is_nil}
use Rattle.roopl_semantics.specs.Value.{Cell, Slot, Part, read, written}
use Rattle.roopl_semantics.specs.Execution.{Setting}
use Rattle.roopl_semantics.specs.Laws.{one_if_name, block_in}
use Rattle.meaning_sound.specs.Sound.{count_named, is_of_kind, held, Sound, Stays, Keeps, cell_kind}
use Rattle.meaning_sound.proofs.Lists.{fits_kept}
use Rattle.meaning_sound.proofs.Cells.{Counted, typed_of, sound_of, heads_written, counts_written, read_fits}
use Rattle.meaning_sound.proofs.Cells.{typed_written, held_written, kind_stays}
use Rattle.meaning_sound.proofs.AfterWrites.{read_moved}

pub stays_itself : (setting : Setting) (extra : ℕ → ℕ) (st : State) → Stays setting extra st st
stays_itself setting extra st = record {
  self_same = refl;
  depth_same = refl;
  heads_same = λ n h. refl;
  blocks_same = λ n h. refl;
}

pub stays_through : (setting : Setting) (extra : ℕ → ℕ) (a b c : State) → Stays setting extra a b
    → Stays setting extra b c → Stays setting extra a c
stays_through setting extra a b c h k = record {
  self_same = k.self_same ∙ h.self_same;
  depth_same = k.depth_same ∙ h.depth_same;
  heads_same = λ n p. k.heads_same n p ∙ h.heads_same n p;
  blocks_same = λ n p. k.blocks_same n p ∙ h.blocks_same n p;
}

pub written_log : (st : State) (cell : Cell) (v : Value) → (written st cell v).log ≡ st.log
written_log st (Slot i) v = refl
written_log st (Part n i) v = refl

pub written_self : (st : State) (cell : Cell) (v : Value) → (written st cell v).self ≡ st.self
written_self st (Slot i) v = refl
written_self st (Part n i) v = refl

pub written_depth : (st : State) (cell : Cell) (v : Value) → (written st cell v).depth ≡ st.depth
written_depth st (Slot i) v = refl
written_depth st (Part n i) v = refl

pub nil_is : (v : Value) → not (is_nil v) ≡ false → v ≡ Nil
nil_is (Word w) h = absurd (cc)
nil_is Nil h = refl
nil_is (Name n) h = absurd (cc)

module _ (setting : Setting) (extra : ℕ → ℕ) (shape : Locals) (class : ℕ) where
  pub stays_written : (st : State) (cell : Cell) (v : Value) → Stays setting extra st (written st cell v)
  stays_written st cell v = record {
    self_same = written_self st cell v;
    depth_same = written_depth st cell v;
    heads_same = λ n h. heads_written setting extra shape class st cell v n;
    blocks_same = λ n h. ap (λ l. block_in (place setting.limits.heap l) n) (written_log st cell v);
  }

  pub fits_written : (st : State) (cell : Cell) (v w : Value) (k : Kind) → is_of_kind setting.program st.store w k ≡ true
      → is_of_kind setting.program (written st cell v).store w k ≡ true
  fits_written st cell v w k h = fits_kept setting.program st.store (written st cell v).store w k
      (λ m p l. heads_written setting extra shape class st cell v m) h

  -- counts go on if the cell holds as many names afterwards
  pub counted_same : (st end : State) → ((m : ℕ) → count_named end.store m ≡ count_named st.store m)
      → ((m : ℕ) → held m end ≡ held m st) → Sound setting extra shape class st → Counted extra end
  counted_same st end counts same s = record {
    counts = λ n c h. s.counts n c (sym (counts n) ∙ h) ∙ ap (λ z. z + extra n) (sym (same n));
    main_unheld = same main_name ∙ s.main_unheld;
  }

  pub write_keeps : (st : State) (cell : Cell) (k : Kind) (v : Value) → Sound setting extra shape class st
      → cell_kind setting.program shape st.store cell ≡ Some k → is_of_kind setting.program st.store v k ≡ true
      → ((m : ℕ) → one_if_name m v ≡ one_if_name m (read st cell))
      → Keeps setting extra shape class st (written st cell v)
  write_keeps st cell k v s h f same =
      let t = typed_of setting extra shape class st s in
      record {
        sound = sound_of setting extra shape class (written st cell v)
            (typed_written setting extra shape class st cell k v t h f)
            (counted_same st (written st cell v) (counts_written setting extra shape class st cell v)
            (λ m. let a = held_written setting extra shape class st cell k v m t h in let b = same m in
            omega arith) s);
        stays = stays_written st cell v;
      }

  pub swap_keeps : (st : State) (a b : Cell) (k : Kind) → Sound setting extra shape class st
      → cell_kind setting.program shape st.store a ≡ Some k → cell_kind setting.program shape st.store b ≡ Some k
      → Keeps setting extra shape class st (written (written st a (read st b)) b (read st a))
  swap_keeps st a b k s ha hb =
      let t = typed_of setting extra shape class st s in
      let x = read st a in
      let y = read st b in
      let st1 = written st a y in
      let t1 = typed_written setting extra shape class st a k y t ha (read_fits setting extra shape class st b k t hb)
      in
      let hb1 : cell_kind setting.program shape st1.store b ≡ Some k = kind_stays setting extra shape class st a y b
      ∙ hb in
      let fx : is_of_kind setting.program st1.store x k ≡ true =
      fits_written st a y x k (read_fits setting extra shape class st a k t ha) in
      let moved = read_moved setting extra shape class st a b k t ha in
      record {
        sound = sound_of setting extra shape class (written st1 b x)
            (typed_written setting extra shape class st1 b k x t1 hb1 fx)
            (counted_same st (written st1 b x) (λ m. counts_written setting extra shape class st1 b x m
            ∙ counts_written setting extra shape class st a y m)
            (λ m. let p = held_written setting extra shape class st a k y m t ha in
            let q = held_written setting extra shape class st1 b k x m t1 hb1 in
            let r = ap (one_if_name m) moved in omega arith) s);
        stays = stays_through setting extra st st1 (written st1 b x) (stays_written st a y) (stays_written st1 b x);
      }
