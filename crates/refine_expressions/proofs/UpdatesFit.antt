-- The code of an update has the law of a statement over current frames.
use Rattle.std.proofs.Common.{◌≡◌, ℕ, suc, ◌+◌, ◌^◌, ◌<◌, ◌≤◌, false, List, [], ◌++◌, length, Some, refl, sym, ap, ◌∙◌}
use Rattle.std.proofs.Common.{subst, arith}
use Rattle.std.specs.Prelude.{slice_index, slice_set, Ok}
use Rattle.refine_calls.specs.rpp_tree.declared.tree.UpdateOp.{UpdateOp}
use Rattle.refine_calls.specs.rpp_tree.Tree.{Expression, Lvalue, Update, Source}
use Rattle.refine_calls.specs.class_rules.declared.kind.Kind.TheVariants as kind
use Rattle.refine_calls.specs.pisa_isa.Machine.{Memory}
use Rattle.refine_calls.specs.pisa_isa.declared.image.TheConstants.{MOST_STATICS}
use Rattle.refine_calls.specs.paired_code.declared.part.Symbol.{Symbol}
use Rattle.refine_calls.specs.roopl_semantics.Operators.{updated}
use Rattle.refine_calls.specs.roopl_semantics.Store.{Value, Word, State, number_of}
use Rattle.refine_calls.specs.roopl_semantics.Value.{Cell, read, written, value, cell_of}
use Rattle.refine_calls.specs.roopl_semantics.Elements.{elements, index_elements, own_element, share_array}
use Rattle.refine_calls.specs.roopl_semantics.Laws.{one_if_name}
use Rattle.refine_calls.specs.roopl_semantics.Execution.{exec}
use Rattle.refine_calls.specs.meaning_sound.Sound.{cell_kind}
use Rattle.refine_calls.proofs.meaning_sound_laws.Classes.{KnowsClasses}
use Rattle.refine_calls.proofs.meaning_sound_laws.Cells.{read_fits, counts_written}
use Rattle.refine_calls.proofs.meaning_sound_laws.Values.{IsInt, int_value, value_found, word_fits, updated_word}
use Rattle.meaning_inverse.proofs.Facts.{UpdateTyped, update_typed, PlaceWritten, place_written}
use Rattle.refine_calls.specs.refine_form.Form.{Scope, StmtLaw}
use Rattle.refine_calls.specs.refine_form.Frames.{Under, value_word}
use Rattle.refine_calls.specs.refine_form.Stands.{shape_of, extra, Reads, Stands}
use Rattle.refine_calls.specs.refine_form.Worlds.{Place, world_of, rates_of}
use Rattle.refine_calls.proofs.Bridge.{typed, reads_of}
use Rattle.expr_uncompute.specs.register_expressions.Code.{words}
use Rattle.expr_uncompute.specs.Code.{place_words}
use Rattle.expr_uncompute.specs.register_expressions.Number.{lvalue_read, index_of}
use Rattle.expr_uncompute.specs.register_expressions.Laws.{bases_of}
use Rattle.expr_uncompute.specs.Promises.{CanEvaluate, UpdateLaw}
use Rattle.expr_uncompute.specs.Means.{shown, cell_address, Means, MeansPlace, TellsShares}
use Rattle.expr_uncompute.proofs.StatementRows.{update_does}
use Rattle.expr_uncompute.proofs.Transport.{UpdateNeeds, update_facts}
use Rattle.refine_expressions.specs.Typing.{IsPassed, visible_spot, free_in_scope}
use Rattle.refine_expressions.proofs.ExpressionsRead.{means, sees, means_place, sees_place, value_is}
use Rattle.refine_expressions.proofs.ValuesFit.{ready, some_counts}
use Rattle.refine_expressions.proofs.ArraysTold.{tells_shares, index_typed}
use Rattle.refine_expressions.proofs.CellsWritten.{held_after, reads_after}
use Rattle.refine_expressions.proofs.FramesWritten.{A, L, R, known, place_is, cell_holds, place_kind, context}
use Rattle.refine_expressions.proofs.FramesWritten.{same_names}
use Rattle.refine_expressions.proofs.FramesWritten.{same_slots}
use Rattle.refine_expressions.proofs.SameReadings.{values_of_reads, cells_of_place}

module _ (p : Place) (few : length p.statics ≤ MOST_STATICS) (classes : KnowsClasses p.setting.program) (s : Scope)
    (u : Under) (at : ℕ) (op : UpdateOp) (target : Lvalue) (e : Expression)
    (ok : IsPassed p.setting.program s (Update at op target e) (place_words target + words e)) where
  abbrev P : Source
  P = p.setting.program

  abbrev spot : List ℕ → Rattle.refine_calls.specs.refine_form.declared.spot.Spot.Spot
  spot = visible_spot P s

  abbrev free : ℕ
  free = free_in_scope P s

  abbrev Ad : State → ℕ → ℕ
  Ad = A p classes s u

  abbrev Sl : State → ℕ → ℕ
  Sl = L p classes s u

  abbrev Rel : State → Memory → Type 0
  Rel = R p classes s u

  abbrev Apart : State → Type 0
  Apart st = share_array P st (own_element target) (index_elements target ++ elements e) ≡ false

  module _ (st : State) (m : Memory) (r : Rel st m) where
    abbrev h : Reads p.setting p.statics s u [] st m.cells
    h = reads_of r.open_frame

    rules : UpdateTyped p.setting classes (context p classes s u st m.cells h) target e
    rules = update_typed p.setting classes (context p classes s u st m.cells h) at op target e ok.rules

    can : CanEvaluate spot free (place_words target + words e) (lvalue_read target) e m
    can = subst (λ z. CanEvaluate spot free (place_words target + words e) (lvalue_read target) e z)
        (sym (known p classes s u st m r)) (record {
          ready = ready p few classes s u st m.cells h (place_words target + words e) 0 0 ok.room;
          first = sees_place p.setting p.statics few classes s u st m.cells h target kind.Int ok.has_words.0
              rules.target_is;
          second = sees p.setting p.statics few classes s u st m.cells h e kind.Int ok.has_words.1 rules.value_is;
        })

    tells : TellsShares (Ad st) (Sl st) P st spot (bases_of m) m.cells target (index_of target) e
    tells = subst (λ z. TellsShares (Ad st) (Sl st) P st spot (bases_of z) z.cells target (index_of target) e)
        (sym (known p classes s u st m r))
        (tells_shares p.setting p.statics few classes s u st m.cells h target kind.Int (index_of target) e
        rules.target_is (index_typed p.setting p.statics few classes s u st m.cells h target kind.Int
        rules.target_is) (kind.Int, rules.value_is))

    place_means : MeansPlace (Ad st) (Sl st) P st spot (bases_of m) m.cells target
    place_means = subst (λ z. MeansPlace (Ad st) (Sl st) P st spot (bases_of z) z.cells target)
        (sym (known p classes s u st m r)) (means_place p.setting p.statics few classes s u st m.cells h target kind.Int
        ok.has_words.0 rules.target_is)

    value_means : Means (Ad st) (Sl st) P st spot (bases_of m) m.cells e
    value_means = subst (λ z. Means (Ad st) (Sl st) P st spot (bases_of z) z.cells e) (sym (known p classes s u st m r))
        (means p.setting p.statics few classes s u st m.cells h e kind.Int ok.has_words.1 rules.value_is)

    int_of : (x : Value) → value P st e ≡ Ok x → IsInt x
    int_of x q = int_value P st.store x (value_found P st.store kind.Int (value P st e) x
        (value_is p.setting p.statics few classes s u st m.cells h e kind.Int ok.has_words.1 rules.value_is) q)

    has : (cell : Cell) → cell_of P st target ≡ Ok cell → cell_kind P (shape_of P s) st.store cell ≡ Some kind.Int
    has cell q = place_kind p classes s u st m.cells h target kind.Int cell rules.target_is q

    int_read : (cell : Cell) → cell_of P st target ≡ Ok cell → IsInt (read st cell)
    int_read cell q = int_value P st.store (read st cell)
        (read_fits p.setting (extra u []) (shape_of P s) s.class st cell kind.Int
        (typed p.setting p.statics s u [] st m.cells h) (has cell q))

    int_cell : (cell : Cell) → cell_of P st target ≡ Ok cell
        → slice_index m.cells (cell_address (Ad st) (Sl st) cell) ≡ number_of (read st cell)
    int_cell cell q =
        let i = int_read cell q in
        cell_holds p classes s u st m.cells h cell kind.Int (has cell q)
        ∙ ap (value_word p.setting p.statics h.frame.at) i.is ∙ sym (ap number_of i.is)

    stays : (cell : Cell) (x : Value) → cell_of P st target ≡ Ok cell → Apart st
        → PlaceWritten p.setting classes (context p classes s u st m.cells h) target e st cell x
    stays cell x q a = place_written p.setting classes (context p classes s u st m.cells h) target e st cell x
        (typed p.setting p.statics s u [] st m.cells h) rules q a

    -- a word is written
    writes : (cell : Cell) → cell_of P st target ≡ Ok cell → (x : ℕ) → x < 2 ^ 32
        → Rel (written st cell (Word x)) (record m { cells = slice_set m.cells (cell_address (Ad st) (Sl st) cell) x })
    writes cell q x small =
        let k = has cell q in
        let i = int_read cell q in
        let fit = word_fits P st.store x small in
        let after = reads_after p.setting p.statics s u st m.cells h cell kind.Int k (Word x) fit refl small in
        record {
          regs_are = r.regs_are;
          open_frame = subst (λ a. Stands p.setting p.statics s u [] (written st cell (Word x)) (slice_set m.cells a x))
              (place_is p classes s u st m.cells h cell) (record {
                frame = after.frame;
                keeps = after.keeps;
                words = after.words;
                counts = λ name count c.
                    let a = r.open_frame.counts name count (sym (counts_written p.setting (extra u []) (shape_of P s)
                    s.class st cell (Word x) name) ∙ c) in
                    let b = held_after p.setting p.statics s u st m.cells h cell kind.Int k (Word x) name in
                    let d : one_if_name name (read st cell) ≡ 0 = ap (one_if_name name) i.is in
                    omega (arith, a, b, d);
              });
        }

  number_shown : (st : State) (x : Value) → IsInt x → number_of x ≡ shown (Ad st) (Sl st) x
  number_shown st x i = ap number_of i.is ∙ sym (ap (shown (Ad st) (Sl st)) i.is)

  abbrev after_word : UpdateOp → State → Cell → Value → ℕ
  after_word o st cell x = updated o (number_of (read st cell)) (number_of x)

  after : (o : UpdateOp) (st : State) (m : Memory) (cell : Cell) (x : Value) → Rel st m → cell_of P st target ≡ Ok cell
      → value P st e ≡ Ok x
      → Rel (written st cell (Word (after_word o st cell x)))
      (record m { cells = slice_set m.cells (cell_address (Ad st) (Sl st) cell) (after_word o st cell x) })
  after o st m cell x r q q' =
      let i = int_read st m r cell q in
      let j = int_of st m r x q' in
      writes st m r cell q (after_word o st cell x)
      (updated_word o (number_of (read st cell)) (number_of x) (subst (λ z. number_of z < 2 ^ 32) (sym i.is) i.small)
      (subst (λ z. number_of z < 2 ^ 32) (sym j.is) j.small))

  needs : UpdateNeeds p.setting Ad Sl Rel spot free target e
  needs = record {
    tells = tells;
    can = can;
    place_means = place_means;
    value_means = value_means;
    int_value = λ st m x r q. number_shown st x (int_of st m r x q);
    int_cell = λ st m cell r q. int_cell st m r cell q;
    after = λ o st m cell x r q q' a. after o st m cell x r q q';
    same_addresses = λ st cell x n. same_names p classes s u st cell x n;
    same_slots = λ st cell x i. same_slots p classes s u st cell x i;
    same_cells = λ o st m cell x r q q' a. cells_of_place P st (written st cell (Word (after_word o st cell x))) target
        (stays st m r cell (Word (after_word o st cell x)) q a).target_same;
    same_values = λ o st m cell x r q q' a. values_of_reads P st (written st cell (Word (after_word o st cell x))) e
        (stays st m r cell (Word (after_word o st cell x)) q a).amount_same;
    same_arrays = λ o st m cell x r q q' a. (stays st m r cell (Word (after_word o st cell x)) q a).apart;
  }

-- the law of an update
pub update_fits : (p : Place) → length p.statics ≤ MOST_STATICS → KnowsClasses p.setting.program
    → (s : Scope) (at : ℕ) (op : UpdateOp) (target : Lvalue) (e : Expression)
    → IsPassed p.setting.program s (Update at op target e) (place_words target + words e)
    → (q : List Symbol) → UpdateLaw (visible_spot p.setting.program s) (free_in_scope p.setting.program s) op target e q
    → StmtLaw (world_of p) s (Update at op target e) q
update_fits p few classes s at op target e ok q law n owes d u =
    let spot = visible_spot p.setting.program s in
    let free = free_in_scope p.setting.program s in
    let facts = update_facts p.setting (A p classes s u) (L p classes s u) (R p classes s u) spot free op target e
    (needs p few classes s u at op target e ok) in
    update_does p.setting (A p classes s u) (L p classes s u) (R p classes s u) spot free (rates_of p.setting)
    (some_counts _) (omega arith) op target e q law facts p.im (suc n) d at n (exec p.setting n)
