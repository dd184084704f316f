-- The code of a swap has the law of a statement over current frames.
use Rattle.std.proofs.Common.{◌≡◌, ℕ, suc, ◌+◌, ◌^◌, ◌<◌, ◌≤◌, true, false, List, [], ◌++◌, length, Some, sym, ap, ◌∙◌}
use Rattle.std.proofs.Common.{subst, arith}
use Rattle.std.specs.Prelude.{slice_index, slice_set, Ok}
use Rattle.refine_calls.specs.rpp_tree.Tree.{Lvalue, Swap, Source}
use Rattle.refine_calls.specs.class_rules.declared.kind.Kind.{Kind}
use Rattle.refine_calls.specs.class_rules.Expressions.{place_type}
use Rattle.refine_calls.specs.buddy_book.Place.{Placing}
use Rattle.refine_calls.specs.pisa_isa.Machine.{Memory}
use Rattle.refine_calls.specs.pisa_isa.declared.image.TheConstants.{MOST_STATICS}
use Rattle.refine_calls.specs.paired_code.declared.part.Symbol.{Symbol}
use Rattle.refine_calls.specs.roopl_semantics.Store.{Value, State, Word, main_name}
use Rattle.refine_calls.specs.roopl_semantics.Value.{Cell, read, written, cell_of}
use Rattle.refine_calls.specs.roopl_semantics.Elements.{index_elements, own_element, share_array}
use Rattle.refine_calls.specs.roopl_semantics.Laws.{one_if_name}
use Rattle.refine_calls.specs.roopl_semantics.Execution.{exec}
use Rattle.refine_calls.specs.meaning_sound.Sound.{cell_kind, is_of_kind, count_named, held}
use Rattle.refine_calls.proofs.meaning_sound_laws.Classes.{KnowsClasses}
use Rattle.refine_calls.proofs.meaning_sound_laws.Lists.{fits_kept}
use Rattle.refine_calls.proofs.meaning_sound_laws.Cells.{read_fits, counts_written, heads_written, kind_stays}
use Rattle.refine_calls.proofs.meaning_sound_laws.AfterWrites.{read_moved}
use Rattle.meaning_inverse.proofs.Facts.{SwapTyped, swap_typed, PlacesSwapped, places_swapped}
use Rattle.refine_calls.specs.refine_form.Form.{Scope, StmtLaw}
use Rattle.refine_calls.specs.refine_form.Frames.{Under, value_word}
use Rattle.refine_calls.specs.refine_form.Stands.{shape_of, extra, Reads, Stands}
use Rattle.refine_calls.specs.refine_form.Worlds.{Place, world_of, rates_of}
use Rattle.refine_calls.proofs.Bridge.{typed, reads_of}
use Rattle.refine_calls.proofs.MovesFit.{place_of}
use Rattle.expr_uncompute.specs.Code.{place_words}
use Rattle.expr_uncompute.specs.register_expressions.Number.{lvalue_read, index_of}
use Rattle.expr_uncompute.specs.register_expressions.Laws.{bases_of}
use Rattle.expr_uncompute.specs.Laws.{swapped_at}
use Rattle.expr_uncompute.specs.Promises.{CanEvaluate, SwapLaw}
use Rattle.expr_uncompute.specs.Means.{cell_address, MeansPlace, TellsShares}
use Rattle.expr_uncompute.proofs.StatementRows.{swap_does}
use Rattle.expr_uncompute.proofs.Transport.{SwapNeeds, swap_facts}
use Rattle.refine_expressions.specs.Typing.{IsPassed, typing_in, visible_spot, free_in_scope}
use Rattle.refine_expressions.proofs.ExpressionsRead.{means_place, sees_place}
use Rattle.refine_expressions.proofs.ValuesFit.{ready, some_counts}
use Rattle.refine_expressions.proofs.ArraysTold.{tells_shares, index_typed}
use Rattle.refine_expressions.proofs.CellsWritten.{held_after, reads_after}
use Rattle.refine_expressions.proofs.FramesWritten.{A, L, R, known, place_is, cell_holds, place_kind, context}
use Rattle.refine_expressions.proofs.FramesWritten.{same_names}
use Rattle.refine_expressions.proofs.FramesWritten.{same_slots, same_place, same_placing}
use Rattle.refine_expressions.proofs.SameReadings.{cells_of_place}

module _ (p : Place) (few : length p.statics ≤ MOST_STATICS) (classes : KnowsClasses p.setting.program) (s : Scope)
    (u : Under) where
  abbrev P : Source
  P = p.setting.program

  abbrev Ad : State → ℕ → ℕ
  Ad = A p classes s u

  abbrev Sl : State → ℕ → ℕ
  Sl = L p classes s u

  abbrev Rel : State → Memory → Type 0
  Rel = R p classes s u

  -- ---- two cells of one type, and their values in each other's place

  module _ (st : State) (m : Memory) (r : Rel st m) (x y : Cell) (k : Kind)
      (has_x : cell_kind P (shape_of P s) st.store x ≡ Some k) (has_y : cell_kind P (shape_of P s) st.store y ≡ Some k)
    where
      abbrev h : Reads p.setting p.statics s u [] st m.cells
      h = reads_of r.open_frame

      abbrev vx : Value
      vx = read st x

      abbrev vy : Value
      vy = read st y

      abbrev mid : State
      mid = written st x vy

      abbrev end : State
      end = written mid y vx

      abbrev word : Value → ℕ
      word v = value_word p.setting p.statics h.frame.at v

      -- what a cell holds is a word, of the type, and not the main object
      small : (c : Cell) → cell_kind P (shape_of P s) st.store c ≡ Some k → word (read st c) < 2 ^ 32
      small c has = subst (λ z. z < 2 ^ 32) (cell_holds p classes s u st m.cells h c k has)
          (h.words (cell_address (Ad st) (Sl st) c))

      fit : (c : Cell) → cell_kind P (shape_of P s) st.store c ≡ Some k → is_of_kind P st.store (read st c) k ≡ true
      fit c has = read_fits p.setting (extra u []) (shape_of P s) s.class st c k
          (typed p.setting p.statics s u [] st m.cells h) has

      no_main : (c : Cell) → cell_kind P (shape_of P s) st.store c ≡ Some k → one_if_name main_name (read st c) ≡ 0
      no_main c has = let a = held_after p.setting p.statics s u st m.cells h c k has (Word 0) main_name in let b =
          h.keeps.main_unheld in omega (arith, a, b)

      -- the first write
      h1 : Reads p.setting p.statics s u [] mid (slice_set m.cells (place_of p.setting p.statics h.frame.at u st x)
          (word vy))
      h1 = reads_after p.setting p.statics s u st m.cells h x k has_x vy (fit y has_y) (no_main y has_y) (small y has_y)

      same_at : h1.frame.at ≡ h.frame.at
      same_at = same_placing p classes s u st x vy m.cells _ h h1

      has_mid : cell_kind P (shape_of P s) mid.store y ≡ Some k
      has_mid = kind_stays p.setting (extra u []) (shape_of P s) s.class st x vy y ∙ has_y

      fit_mid : is_of_kind P mid.store vx k ≡ true
      fit_mid = fits_kept P st.store mid.store vx k (λ n q l. heads_written p.setting (extra u []) (shape_of P s)
          s.class
          st x vy n) (fit x has_x)

      -- the second
      h2 : Reads p.setting p.statics s u [] end (slice_set (slice_set m.cells
          (place_of p.setting p.statics h.frame.at u st x) (word vy))
          (place_of p.setting p.statics h1.frame.at u mid y) (value_word p.setting p.statics h1.frame.at vx))
      h2 =
          reads_after p.setting p.statics s u mid (slice_set m.cells (place_of p.setting p.statics h.frame.at u st x)
          (word vy)) h1 y k has_mid vx fit_mid (no_main x has_x)
          (subst (λ (a : Placing). value_word p.setting p.statics a vx < 2 ^ 32) (sym same_at) (small x has_x))

      -- each name is held as often
      held_end : (n : ℕ) → held n end ≡ held n st
      held_end n =
          let a = held_after p.setting p.statics s u st m.cells h x k has_x vy n in
          let b = held_after p.setting p.statics s u mid (slice_set m.cells
          (place_of p.setting p.statics h.frame.at u st x) (word vy)) h1 y k has_mid vx n in
          let c : one_if_name n (read mid y) ≡ one_if_name n vy =
          ap (one_if_name n) (read_moved p.setting (extra u []) (shape_of P s) s.class st x y k
          (typed p.setting p.statics s u [] st m.cells h) has_x) in
          omega (arith, a, b, c)

      counts_end : (n : ℕ) → count_named end.store n ≡ count_named st.store n
      counts_end n = counts_written p.setting (extra u []) (shape_of P s) s.class mid y vx n
          ∙ counts_written p.setting (extra u []) (shape_of P s) s.class st x vy n

      stands : Stands p.setting p.statics s u [] end (slice_set
          (slice_set m.cells (place_of p.setting p.statics h.frame.at u st x) (word vy))
          (place_of p.setting p.statics h1.frame.at u mid y) (value_word p.setting p.statics h1.frame.at vx))
      stands = record {
        frame = h2.frame;
        keeps = h2.keeps;
        words = h2.words;
        counts = λ name count c. (let a = r.open_frame.counts name count (sym (counts_end name) ∙ c) in
            let b = held_end name in omega (arith, a, b));
      }

      cells_are : slice_set (slice_set m.cells (place_of p.setting p.statics h.frame.at u st x) (word vy))
          (place_of p.setting p.statics h1.frame.at u mid y) (value_word p.setting p.statics h1.frame.at vx)
          ≡ swapped_at (cell_address (Ad st) (Sl st) x) (cell_address (Ad st) (Sl st) y) m.cells
      cells_are =
          let px = cell_address (Ad st) (Sl st) x in
          let py = cell_address (Ad st) (Sl st) y in
          let first : slice_set m.cells (place_of p.setting p.statics h.frame.at u st x) (word vy)
          ≡ slice_set m.cells px (slice_index m.cells py) =
          ap (λ a. slice_set m.cells a (word vy)) (place_is p classes s u st m.cells h x)
          ∙ ap (slice_set m.cells px) (sym (cell_holds p classes s u st m.cells h y k has_y)) in
          let second : place_of p.setting p.statics h1.frame.at u mid y ≡ py = place_is p classes s u mid _ h1 y
          ∙ same_place p classes s u st x vy y in
          let third : value_word p.setting p.statics h1.frame.at vx ≡ slice_index m.cells px =
          ap (λ (a : Placing). value_word p.setting p.statics a vx) same_at
          ∙ sym (cell_holds p classes s u st m.cells h x k has_x) in
          ap (λ z. slice_set z (place_of p.setting p.statics h1.frame.at u mid y)
          (value_word p.setting p.statics h1.frame.at vx)) first
          ∙ ap (λ a. slice_set (slice_set m.cells px (slice_index m.cells py)) a
          (value_word p.setting p.statics h1.frame.at vx)) second
          ∙ ap (slice_set (slice_set m.cells px (slice_index m.cells py)) py) third

      swaps : Rel end (record m {
        cells = swapped_at (cell_address (Ad st) (Sl st) x) (cell_address (Ad st) (Sl st) y)
            m.cells;
      })
      swaps = record {
        regs_are = r.regs_are;
        open_frame = subst (λ z. Stands p.setting p.statics s u [] end z) cells_are
            stands;
      }

  -- ---- what a swap needs

  module _ (at : ℕ) (left right : Lvalue) (ok : IsPassed p.setting.program s (Swap at left right)
      (place_words left + place_words right)) where
    abbrev spot : List ℕ → Rattle.refine_calls.specs.refine_form.declared.spot.Spot.Spot
    spot = visible_spot P s

    abbrev free : ℕ
    free = free_in_scope P s

    abbrev Apart : State → Type 0
    Apart st = share_array P st (own_element left ++ own_element right) (index_elements left ++ index_elements right)
        ≡ false

    module _ (st : State) (m : Memory) (r : Rel st m) where
      abbrev g : Reads p.setting p.statics s u [] st m.cells
      g = reads_of r.open_frame

      rules : SwapTyped p.setting classes (context p classes s u st m.cells g) left right
      rules = swap_typed p.setting classes (context p classes s u st m.cells g) at left right ok.rules

      can : CanEvaluate spot free (place_words left + place_words right) (lvalue_read left) (lvalue_read right) m
      can = subst (λ z. CanEvaluate spot free (place_words left + place_words right) (lvalue_read left)
          (lvalue_read right) z)
          (sym (known p classes s u st m r)) (record {
            ready = ready p few classes s u st m.cells g (place_words left + place_words right) 0 0 ok.room;
            first = sees_place p.setting p.statics few classes s u st m.cells g left rules.kind ok.has_words.0
                rules.left_is;
            second = sees_place p.setting p.statics few classes s u st m.cells g right rules.kind ok.has_words.1
                rules.right_is;
          })

      tells : (target : Lvalue) → place_type (typing_in P s) (shape_of P s) target ≡ Ok rules.kind
          → TellsShares (Ad st) (Sl st) P st spot (bases_of m) m.cells target (index_of left) (index_of right)
      tells target t = subst (λ z. TellsShares (Ad st) (Sl st) P st spot (bases_of z) z.cells target (index_of left)
          (index_of right)) (sym (known p classes s u st m r))
          (tells_shares p.setting p.statics few classes s u st m.cells g target rules.kind (index_of left)
          (index_of right) t (index_typed p.setting p.statics few classes s u st m.cells g left rules.kind
          rules.left_is) (index_typed p.setting p.statics few classes s u st m.cells g right rules.kind
          rules.right_is))

      left_means : MeansPlace (Ad st) (Sl st) P st spot (bases_of m) m.cells left
      left_means = subst (λ z. MeansPlace (Ad st) (Sl st) P st spot (bases_of z) z.cells left)
          (sym (known p classes s u st m r)) (means_place p.setting p.statics few classes s u st m.cells g left
          rules.kind ok.has_words.0 rules.left_is)

      right_means : MeansPlace (Ad st) (Sl st) P st spot (bases_of m) m.cells right
      right_means = subst (λ z. MeansPlace (Ad st) (Sl st) P st spot (bases_of z) z.cells right)
          (sym (known p classes s u st m r)) (means_place p.setting p.statics few classes s u st m.cells g right
          rules.kind ok.has_words.1 rules.right_is)

      module _ (x y : Cell) (is_x : cell_of P st left ≡ Ok x) (is_y : cell_of P st right ≡ Ok y) where
        after : Rel (written (written st x (read st y)) y (read st x))
            (record m { cells = swapped_at (cell_address (Ad st) (Sl st) x) (cell_address (Ad st) (Sl st) y) m.cells })
        after = swaps st m r x y rules.kind (place_kind p classes s u st m.cells g left rules.kind x rules.left_is is_x)
            (place_kind p classes s u st m.cells g right rules.kind y rules.right_is is_y)

        stays : Apart st → PlacesSwapped p.setting classes (context p classes s u st m.cells g) left right st x y
        stays a = places_swapped p.setting classes (context p classes s u st m.cells g) left right rules.kind st x y
            (typed p.setting p.statics s u [] st m.cells g) rules.left_is rules.right_is rules.left_apart
            rules.right_apart is_x is_y a

    needs : SwapNeeds p.setting Ad Sl Rel spot free left right
    needs = record {
      left_tells = λ st m r. tells st m r left (rules st m r).left_is;
      right_tells = λ st m r. tells st m r right (rules st m r).right_is;
      can = can;
      left_means = left_means;
      right_means = right_means;
      after = λ st m x y r q q' a. after st m r x y q q';
      same_addresses = λ st cell v n. same_names p classes s u st cell v n;
      same_slots = λ st cell v i. same_slots p classes s u st cell v i;
      left_same = λ st m x y r q q' a. cells_of_place P st (written (written st x (read st y)) y (read st x)) left
          (stays st m r x y q q' a).left_same;
      right_same = λ st m x y r q q' a. cells_of_place P st (written (written st x (read st y)) y (read st x)) right
          (stays st m r x y q q' a).right_same;
      same_arrays = λ st m x y r q q' a. (stays st m r x y q q' a).apart;
    }

-- the law of a swap
pub swap_fits : (p : Place) → length p.statics ≤ MOST_STATICS → KnowsClasses p.setting.program
    → (s : Scope) (at : ℕ) (left right : Lvalue) → IsPassed p.setting.program s (Swap at left right)
    (place_words left + place_words right)
    → (q : List Symbol) → SwapLaw (visible_spot p.setting.program s) (free_in_scope p.setting.program s) left right q
    → StmtLaw (world_of p) s (Swap at left right) q
swap_fits p few classes s at left right ok q law n owes d u =
    let spot = visible_spot p.setting.program s in
    let free = free_in_scope p.setting.program s in
    let facts = swap_facts p.setting (A p classes s u) (L p classes s u) (R p classes s u) spot free left right
    (needs p few classes s u at left right ok) in
    swap_does p.setting (A p classes s u) (L p classes s u) (R p classes s u) spot free (rates_of p.setting)
    (some_counts _) (omega arith) left right q law facts p.im (suc n) d at n (exec p.setting n)
