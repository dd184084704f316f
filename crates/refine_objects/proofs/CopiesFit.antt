-- The code of a copy has the law of a statement over current frames, and its inverse that of an
-- uncopy.
use Rattle.std.proofs.Common.{◌≡◌, ◌≢◌, ℕ, suc, ◌+◌, ◌-◌, ◌^◌, ◌<◌, ◌≤◌, true, false, List, [], ◌++◌, length, Some}
use Rattle.std.proofs.Common.{refl, sym, ap, ◌∙◌, subst, arith}
use Rattle.std.specs.Prelude.{slice_index, slice_set, Ok}
use Rattle.object_codegen.specs.rpp_tree.declared.tree.VarType.{VarType}
use Rattle.object_codegen.specs.rpp_tree.Tree.{Lvalue, Copy, Uncopy, Source}
use Rattle.object_codegen.specs.class_rules.declared.kind.Kind.{Kind}
use Rattle.object_codegen.specs.class_rules.Expressions.{is_int}
use Rattle.object_codegen.specs.class_rules.Statements.{verdict_passed, copy_rules}
use Rattle.object_codegen.specs.buddy_book.Place.{Placing}
use Rattle.object_codegen.specs.pisa_isa.Machine.{Memory}
use Rattle.object_codegen.specs.pisa_isa.declared.image.TheConstants.{MOST_STATICS}
use Rattle.object_codegen.specs.paired_code.declared.part.Symbol.{Symbol}
use Rattle.object_codegen.specs.paired_code.Layout.{mirror_cells}
use Rattle.object_codegen.specs.roopl_semantics.Store.{Value, Word, Nil, Name, State, object_at}
use Rattle.object_codegen.specs.roopl_semantics.Value.{Cell, read, written, cell_of}
use Rattle.object_codegen.specs.roopl_semantics.Elements.{index_elements, own_element, share_array}
use Rattle.object_codegen.specs.roopl_semantics.Execution.{count_changed, one_less, exec, same_cell}
use Rattle.object_codegen.specs.meaning_sound.Plain.{PlaceHasWords}
use Rattle.object_codegen.specs.meaning_sound.Sound.{cell_kind, is_of_kind, Typed}
use Rattle.object_codegen.proofs.meaning_sound_laws.AfterWrites.{same_cell_is}
use Rattle.object_codegen.proofs.meaning_sound_laws.Cells.{read_fits}
use Rattle.object_codegen.proofs.meaning_sound_laws.Classes.{KnowsClasses}
use Rattle.object_codegen.proofs.refine_frame_laws.Tells.{IsRef, cells_small, reference_cell, names_tell}
use Rattle.object_codegen.specs.refine_form.Form.{Scope, StmtLaw}
use Rattle.object_codegen.specs.refine_form.Frames.{Under, stack_base, address_of, value_word}
use Rattle.object_codegen.specs.refine_form.Stands.{shape_of, extra, setup, Reads, Stands}
use Rattle.object_codegen.specs.refine_form.Worlds.{Place, world_of, rates_of}
use Rattle.object_codegen.specs.refine_form.declared.spot.Spot.{Spot}
use Rattle.object_codegen.specs.expr_uncompute.Code.{place_words}
use Rattle.object_codegen.specs.register_expressions.Laws.{bases_of}
use Rattle.object_codegen.specs.expr_uncompute.Means.{shown, cell_address, MeansPlace, TellsShares}
use Rattle.object_codegen.specs.register_expressions.Number.{lvalue_read, index_of}
use Rattle.object_codegen.specs.expr_uncompute.Promises.{free_at, CanEvaluate}
use Rattle.object_codegen.specs.Promises.{CopyLaw, referring, unreferring}
use Rattle.object_codegen.proofs.CopyRows as rows
use Rattle.refine_expressions.proofs.refine_calls_laws.Bridge.{same_at, typed, reads_of}
use Rattle.refine_expressions.proofs.refine_calls_laws.MovesFit.{place_of}
use Rattle.refine_expressions.specs.Typing.{HasFrameSpace, IsPassed, typing_in, visible_spot, free_in_scope}
use Rattle.refine_expressions.proofs.ArraysTold.{tells_shares, index_typed}
use Rattle.refine_expressions.proofs.ExpressionsRead.{means_place, sees_place}
use Rattle.refine_expressions.proofs.FramesWritten.{A, L, R, known, address_is, place_is, cell_holds, place_kind}
use Rattle.refine_expressions.proofs.FramesWritten.{context}
use Rattle.refine_expressions.proofs.FramesWritten.{same_names, same_slots}
use Rattle.refine_expressions.proofs.SameReadings.{cells_of_place}
use Rattle.refine_expressions.proofs.ValuesFit.{ready, some_counts}
use Rattle.refine_expressions.proofs.WordsRead.{shown_read}
use Rattle.refine_objects.proofs.CountPlaces.{IsRefers, refers, at_block, above_nil, count_low, count_apart, count_word}
use Rattle.refine_objects.proofs.CountPlaces.{cells_apart, count_small, count_some}
use Rattle.refine_objects.proofs.CountsWritten.{copied_stands, uncopied_stands}
use Rattle.refine_expressions.proofs.meaning_inverse_laws.Facts.{CopyTyped, copy_typed, PlacesCopied, places_copied}

module _ (p : Place) (few : length p.statics ≤ MOST_STATICS) (classes : KnowsClasses p.setting.program) (s : Scope)
    (u : Under) (at : ℕ) (kind : VarType) (source target : Lvalue)
    (rules : copy_rules (typing_in p.setting.program s) (shape_of p.setting.program s) at kind source target
    ≡ verdict_passed)
    (source_words : PlaceHasWords source) (target_words : PlaceHasWords target)
    (room : HasFrameSpace p.setting.program s (place_words source + place_words target)) where
  abbrev P : Source
  P = p.setting.program

  abbrev Ad : State → ℕ → ℕ
  Ad = A p classes s u

  abbrev Sl : State → ℕ → ℕ
  Sl = L p classes s u

  abbrev Rel : State → Memory → Type 0
  Rel = R p classes s u

  abbrev spot : List ℕ → Spot
  spot = visible_spot P s

  abbrev free : ℕ
  free = free_in_scope P s

  module _ (st : State) (m : Memory) (r : Rel st m) where
    abbrev h : Reads p.setting p.statics s u [] st m.cells
    h = reads_of r.open_frame

    abbrev t : Typed p.setting (extra u []) (shape_of P s) s.class st
    t = typed p.setting p.statics s u [] st m.cells h

    abbrev Typing : Type 0
    Typing = CopyTyped p.setting classes (context p classes s u st m.cells h) source target

    typing : Typing
    typing = copy_typed p.setting classes (context p classes s u st m.cells h) at kind source target rules

    abbrev first : Kind
    first = typing.parts.first

    abbrev second : Kind
    second = typing.parts.second

    can : CanEvaluate spot free (place_words source + place_words target) (lvalue_read source) (lvalue_read target) m
    can = subst (λ z. CanEvaluate spot free (place_words source + place_words target) (lvalue_read source)
        (lvalue_read target) z)
        (sym (known p classes s u st m r)) (record {
          ready = ready p few classes s u st m.cells h (place_words source + place_words target) 0 0 room;
          first = sees_place p.setting p.statics few classes s u st m.cells h source first source_words
              typing.parts.source_is;
          second = sees_place p.setting p.statics few classes s u st m.cells h target second target_words
              typing.parts.target_is;
        })

    source_means : MeansPlace (Ad st) (Sl st) P st spot (bases_of m) m.cells source
    source_means = subst (λ z. MeansPlace (Ad st) (Sl st) P st spot (bases_of z) z.cells source)
        (sym (known p classes s u st m r)) (means_place p.setting p.statics few classes s u st m.cells h source first
        source_words typing.parts.source_is)

    target_means : MeansPlace (Ad st) (Sl st) P st spot (bases_of m) m.cells target
    target_means = subst (λ z. MeansPlace (Ad st) (Sl st) P st spot (bases_of z) z.cells target)
        (sym (known p classes s u st m r)) (means_place p.setting p.statics few classes s u st m.cells h target second
        target_words typing.parts.target_is)

    tells : TellsShares (Ad st) (Sl st) P st spot (bases_of m) m.cells target (index_of source) (index_of target)
    tells = subst (λ z. TellsShares (Ad st) (Sl st) P st spot (bases_of z) z.cells target (index_of source)
        (index_of target)) (sym (known p classes s u st m r))
        (tells_shares p.setting p.statics few classes s u st m.cells h target second (index_of source) (index_of target)
        typing.parts.target_is (index_typed p.setting p.statics few classes s u st m.cells h source first
        typing.parts.source_is) (index_typed p.setting p.statics few classes s u st m.cells h target second
        typing.parts.target_is))

    -- ---- cells of a class or array type

    abbrev HasKind : Cell → Kind → Type 0
    HasKind c k = cell_kind P (shape_of P s) st.store c ≡ Some k

    source_kind : (a : Cell) → cell_of P st source ≡ Ok a → HasKind a first
    source_kind a q = place_kind p classes s u st m.cells h source first a typing.parts.source_is q

    target_kind : (b : Cell) → cell_of P st target ≡ Ok b → HasKind b second
    target_kind b q = place_kind p classes s u st m.cells h target second b typing.parts.target_is q

    abbrev Refers : ℕ → Type 0
    Refers n = IsRefers p.setting p.statics s u st m.cells h n

    -- the address of an object
    address : (n : ℕ) → address_of p.setting p.statics h.keeps.placed.at n ≡ Ad st n
    address n = ap (λ (a : Placing). address_of p.setting p.statics a n)
        (same_at p.setting p.statics s u [] st m.cells h) ∙ sym (address_is p classes s u st m.cells h n)

    place : (c : Cell) → place_of p.setting p.statics h.keeps.placed.at u st c ≡ cell_address (Ad st) (Sl st) c
    place c = ap (λ (a : Placing). place_of p.setting p.statics a u st c)
        (same_at p.setting p.statics s u [] st m.cells h) ∙ place_is p classes s u st m.cells h c

    no_nil : (n : ℕ) → Refers n → Ad st n ≢ 0
    no_nil n f z = above_nil p.setting p.statics s u st m.cells h n f (address n ∙ z)

    refers_by : (c : Cell) (k : Kind) → HasKind c k → is_int k ≡ false → rows.Refers (Ad st) (read st c)
    refers_by c k has no_int = by (read st c) refl (reference_cell (setup p.setting p.statics) (extra u [])
        (shape_of P s) s.class st t h.keeps.main_unheld c k has no_int)
      where
        by : (v : Value) → read st c ≡ v → IsRef (setup p.setting p.statics) (extra u []) (shape_of P s) s.class st t
            h.keeps.main_unheld v → rows.Refers (Ad st) v
        by (Word w) e f = absurd f
        by Nil e f = tt
        by (Name n) e f = no_nil n f

    word_by : (c : Cell) (k : Kind) → HasKind c k → slice_index m.cells (cell_address (Ad st) (Sl st) c)
        ≡ shown (Ad st) (Sl st) (read st c)
    word_by c k has =
        cell_holds p classes s u st m.cells h c k has
        ∙ ap (λ (a : Placing). value_word p.setting p.statics a (read st c))
        (sym (same_at p.setting p.statics s u [] st m.cells h))
        ∙ shown_read p.setting p.statics classes s u st m.cells h c k has

    name_word : (n : ℕ) → Refers n → value_word p.setting p.statics h.frame.at (Name n) ≡ Ad st n
    name_word n f =
        ap (λ (a : Placing). value_word p.setting p.statics a (Name n))
        (sym (same_at p.setting p.statics s u [] st m.cells h))
        ∙ sym (at_block p.setting p.statics s u st m.cells h n f) ∙ address n

    -- ---- the places, and the object of the first one

    module _ (a b : Cell) (na : cell_of P st source ≡ Ok a) (nb : cell_of P st target ≡ Ok b) where
      abbrev kind_a : HasKind a first
      kind_a = source_kind a na

      abbrev kind_b : HasKind b second
      kind_b = target_kind b nb

      one_name : (n n' : ℕ) → read st a ≡ Name n → read st b ≡ Name n' → Ad st n ≡ Ad st n' → n ≡ n'
      one_name n n' ea eb e =
          let f = refers p.setting p.statics s u st m.cells h a first n kind_a ea in
          let g = refers p.setting p.statics s u st m.cells h b second n' kind_b eb in
          let x = at_block p.setting p.statics s u st m.cells h n f in
          let y = at_block p.setting p.statics s u st m.cells h n' g in
          names_tell (setup p.setting p.statics) (extra u []) (shape_of P s) s.class st t h.keeps.main_unheld n n' f g
          (sym x ∙ address n ∙ e ∙ sym (address n') ∙ y)

      one_cell : same_cell a b ≡ true → cell_address (Ad st) (Sl st) a ≡ cell_address (Ad st) (Sl st) b
      one_cell e = ap (cell_address (Ad st) (Sl st)) (same_cell_is a b e)

      two_cells : same_cell a b ≡ false → cell_address (Ad st) (Sl st) a ≢ cell_address (Ad st) (Sl st) b
      two_cells e z = cells_apart p.setting p.statics s u st m.cells h a b first second kind_a kind_b e
          (place a ∙ z ∙ sym (place b))

      places : (v : Value) (n : ℕ) (change : ℕ → ℕ) → share_array P st (own_element target)
          (index_elements source ++ index_elements target) ≡ false
          → PlacesCopied p.setting classes (context p classes s u st m.cells h) source target st
          (count_changed change (written st b v) n)
      places v n change e = places_copied p.setting classes (context p classes s u st m.cells h) source target st b v n
          change t typing nb e

      keeps : (v : Value) (n : ℕ) (change : ℕ → ℕ) → share_array P st (own_element target)
          (index_elements source ++ index_elements target) ≡ false
          → rows.Keeps p.setting Ad Sl Rel spot free source target st (count_changed change (written st b v) n)
      keeps v n change e =
          let q = places v n change e in
          record {
            addresses = λ k. same_names p classes s u st b v k;
            slots = λ i. same_slots p classes s u st b v i;
            source_same = cells_of_place P st (count_changed change (written st b v) n) source q.source_same;
            target_same = cells_of_place P st (count_changed change (written st b v) n) target q.target_same;
            apart = q.apart;
          }

      module _ (n : ℕ) (ea : read st a ≡ Name n) where
        abbrev f : Refers n
        f = refers p.setting p.statics s u st m.cells h a first n kind_a ea

        abbrev count : ℕ
        count = (object_at st.store n).count

        small : count + 1 < 2 ^ 32
        small = count_small p.setting p.statics few s u st m.cells r.open_frame n f

        low : Ad st n + 1 < stack_base p.setting p.statics
        low = let l = count_low p.setting p.statics s u st m.cells h n f in let e = address n in omega (arith, l, e)

        stands : rows.StandsAt p.setting Ad Sl Rel spot free source target st m a b n
        stands = record {
          inside = subst (λ z. Ad st n + 1 < free_at free z) (sym (known p classes s u st m r))
              (let l = low in omega (arith, l));
          source_apart = λ z. count_apart p.setting p.statics s u st m.cells h n f a first kind_a
              (place a ∙ z ∙ ap (λ k. k + 1) (sym (address n)));
          target_apart = λ z. count_apart p.setting p.statics s u st m.cells h n f b second kind_b
              (place b ∙ z ∙ ap (λ k. k + 1) (sym (address n)));
          count = ap (λ k. slice_index m.cells (k + 1)) (sym (address n))
              ∙ count_word p.setting p.statics s u st m.cells h n f;
          some = count_some p.setting p.statics few s u st m.cells r.open_frame n f a first kind_a ea;
          more = small;
        }

        word_small : value_word p.setting p.statics h.frame.at (Name n) < 2 ^ 32
        word_small =
            let e = name_word n f in
            let l = low in
            let c = cells_small (setup p.setting p.statics) h.keeps.grounded.limits few in
            omega (arith, e, l, c)

        fit : is_of_kind P st.store (Name n) second ≡ true
        fit = typing.parts.below st.store n (subst (λ v. is_of_kind P st.store v first ≡ true) ea
            (read_fits p.setting (extra u []) (shape_of P s) s.class st a first t kind_a))

        -- the cells after a write of a word for a reference, and of a count
        cells_by : (w w' c c' : ℕ) → w ≡ w' → c ≡ c' → slice_set
            (slice_set m.cells (place_of p.setting p.statics h.frame.at u st b) w)
            (address_of p.setting p.statics h.frame.at n + 1) c
            ≡ slice_set (slice_set m.cells (cell_address (Ad st) (Sl st) b) w') (Ad st n + 1) c'
        cells_by w w' c c' e d =
            ap (λ k. slice_set (slice_set m.cells k w) (address_of p.setting p.statics h.frame.at n + 1) c)
            (place_is p classes s u st m.cells h b)
            ∙ ap (λ k. slice_set (slice_set m.cells (cell_address (Ad st) (Sl st) b) k)
            (address_of p.setting p.statics h.frame.at n + 1) c) e
            ∙ ap (λ k. slice_set (slice_set m.cells (cell_address (Ad st) (Sl st) b) w') (k + 1) c)
            (sym (address_is p classes s u st m.cells h n))
            ∙ ap (slice_set (slice_set m.cells (cell_address (Ad st) (Sl st) b) w') (Ad st n + 1)) d

        copied : read st b ≡ Nil → Rel (count_changed suc (written st b (Name n)) n)
            (record m { cells = referring (cell_address (Ad st) (Sl st) b) (Ad st n) (count + 1) m.cells })
        copied eb =
            let c : suc count ≡ count + 1 = omega arith in
            record {
              regs_are = r.regs_are;
              open_frame = subst (λ z. Stands p.setting p.statics s u [] (count_changed suc (written st b (Name n)) n)
                  z)
                  (cells_by (value_word p.setting p.statics h.frame.at (Name n)) (Ad st n) (suc count) (count + 1)
                  (name_word n f) c)
                  (copied_stands p.setting p.statics s u st m.cells r.open_frame a b first second kind_a kind_b n f ea
                  eb fit word_small small);
            }

        uncopied : read st b ≡ Name n → Rel (count_changed one_less (written st b Nil) n)
            (record m { cells = unreferring (cell_address (Ad st) (Sl st) b) (Ad st n) (count - 1) m.cells })
        uncopied eb =
            record {
              regs_are = r.regs_are;
              open_frame = subst (λ z. Stands p.setting p.statics s u [] (count_changed one_less (written st b Nil) n)
                  z)
                  (cells_by 0 0 (count - 1) (count - 1) refl refl)
                  (uncopied_stands p.setting p.statics s u st m.cells r.open_frame a b first second kind_a kind_b n f ea
                  eb typing.parts.second_refers small);
            }

  pub facts : rows.CopyFacts p.setting Ad Sl Rel spot free source target
  facts = record {
    can = can;
    source_means = source_means;
    target_means = target_means;
    tells = tells;
    source_refers = λ st m a r na. refers_by st m r a (first st m r) (source_kind st m r a na)
        (typing st m r).parts.first_refers;
    target_refers = λ st m b r nb. refers_by st m r b (second st m r) (target_kind st m r b nb)
        (typing st m r).parts.second_refers;
    source_word = λ st m a r na. word_by st m r a (first st m r) (source_kind st m r a na);
    target_word = λ st m b r nb. word_by st m r b (second st m r) (target_kind st m r b nb);
    stands = λ st m a b n r na nb ea. stands st m r a b na nb n ea;
    one_name = λ st m a b n n' r na nb ea eb e. one_name st m r a b na nb n n' ea eb e;
    one_cell = λ st m a b r na nb e. one_cell st m r a b na nb e;
    two_cells = λ st m a b r na nb e. two_cells st m r a b na nb e;
    copied = λ st m a b n r na nb e ea eb. (copied st m r a b na nb n ea eb, keeps st m r a b na nb (Name n) n suc e);
    uncopied = λ st m a b n r na nb e ea eb apart. (
      uncopied st m r a b na nb n ea eb,
      keeps st m r a b na nb Nil n one_less e,
    );
  }

-- the law of a copy
pub copy_fits : (p : Place) → length p.statics ≤ MOST_STATICS → KnowsClasses p.setting.program
    → (s : Scope) (at : ℕ) (kind : VarType) (source target : Lvalue)
    → IsPassed p.setting.program s (Copy at kind source target) (place_words source + place_words target)
    → (q : List Symbol) → CopyLaw (visible_spot p.setting.program s) (free_in_scope p.setting.program s) source target q
    → StmtLaw (world_of p) s (Copy at kind source target) q
copy_fits p few classes s at kind source target ok q law n owes d u =
    rows.copy_does p.setting (A p classes s u) (L p classes s u) (R p classes s u) (visible_spot p.setting.program s)
    (free_in_scope p.setting.program s) source target (rates_of p.setting) (some_counts _) (omega arith) q law
    (facts p few classes s u at kind source target ok.rules ok.has_words.0 ok.has_words.1 ok.room) p.im (suc n) d at n
    kind (exec p.setting n)

-- and of an uncopy
pub uncopy_fits : (p : Place) → length p.statics ≤ MOST_STATICS → KnowsClasses p.setting.program
    → (s : Scope) (at : ℕ) (kind : VarType) (source target : Lvalue)
    → IsPassed p.setting.program s (Uncopy at kind source target) (place_words source + place_words target)
    → (q : List Symbol) → CopyLaw (visible_spot p.setting.program s) (free_in_scope p.setting.program s) source target q
    → StmtLaw (world_of p) s (Uncopy at kind source target) (mirror_cells q)
uncopy_fits p few classes s at kind source target ok q law n owes d u =
    rows.uncopy_does p.setting (A p classes s u) (L p classes s u) (R p classes s u) (visible_spot p.setting.program s)
    (free_in_scope p.setting.program s) source target (rates_of p.setting) (some_counts _) (omega arith) q law
    (facts p few classes s u at kind source target ok.rules ok.has_words.0 ok.has_words.1 ok.room) p.im (suc n) d at n
    kind (exec p.setting n)
