-- Current frames before and after a write: the addresses of cells, what they hold, and the memory
-- after the write.
use Rattle.std.proofs.Common.{◌≡◌, ℕ, ◌+◌, ◌-◌, List, [], length, Some, refl, sym, ap, ◌∙◌, arith}
use Rattle.std.specs.Prelude.{slice_index, Ok}
use Rattle.std.specs.Option.{unwrap_or}
use Rattle.refine_calls.specs.code_conventions.declared.memory.TheConstants.{FIRST_VARIABLE, HEADER_WORDS}
use Rattle.refine_calls.specs.pisa_isa.Machine.{Memory}
use Rattle.refine_calls.specs.rpp_tree.Tree.{Lvalue, Source}
use Rattle.refine_calls.specs.class_rules.declared.kind.Kind.{Kind}
use Rattle.refine_calls.specs.class_rules.Expressions.{place_type}
use Rattle.refine_calls.specs.buddy_book.Place.{place}
use Rattle.refine_calls.specs.roopl_semantics.Store.{Value, State}
use Rattle.refine_calls.specs.roopl_semantics.Value.{Cell, Slot, Part, read, written, cell_of}
use Rattle.refine_calls.specs.roopl_semantics.Layout.{no_placing}
use Rattle.refine_calls.specs.meaning_sound.Sound.{cell_kind}
use Rattle.refine_calls.proofs.meaning_sound_laws.Classes.{KnowsClasses}
use Rattle.refine_calls.proofs.meaning_sound_laws.Values.{cell_found, place_fits}
use Rattle.refine_calls.specs.refine_form.Form.{Scope, HasOpenFrame, registers}
use Rattle.refine_calls.specs.refine_form.Frames.{Under, address_of, value_word}
use Rattle.refine_calls.specs.refine_form.Stands.{shape_of, extra, Reads}
use Rattle.refine_calls.specs.refine_form.Worlds.{Place, world_of}
use Rattle.refine_calls.proofs.refine_form_laws.Rules.{as_known}
use Rattle.meaning_inverse.proofs.Known.{Context}
use Rattle.meaning_inverse.proofs.Cells.{length_with}
use Rattle.refine_calls.proofs.Bridge.{typed}
use Rattle.refine_calls.proofs.MovesFit.{frame_address, place_of, frame_read}
use Rattle.refine_calls.proofs.FactsMoves.{same_means}
use Rattle.expr_uncompute.specs.Means.{cell_address}
use Rattle.refine_expressions.specs.Typing.{typing_in}

module _ (p : Place) (classes : KnowsClasses p.setting.program) (s : Scope) (u : Under) where
  abbrev pub P : Source
  P = p.setting.program

  -- the addresses of objects and variables in a state
  abbrev pub A : State → ℕ → ℕ
  A st n = address_of p.setting p.statics (unwrap_or (place p.setting.limits.heap st.log) no_placing) n

  abbrev pub L : State → ℕ → ℕ
  L st i = frame_address p.setting p.statics u + (FIRST_VARIABLE + (length st.frame - 1 - i))

  abbrev pub R : State → Memory → Type 0
  R = HasOpenFrame (world_of p) s u

  pub known : (st : State) (m : Memory) → R st m → m ≡ record
      { regs = registers 0 u.object (frame_address p.setting p.statics u) 0 0 0 0 0; cells = m.cells }
  known st m r = as_known m (registers 0 u.object (frame_address p.setting p.statics u) 0 0 0 0 0) r.regs_are

  module _ (st : State) (cells : List ℕ) (h : Reads p.setting p.statics s u [] st cells) where
    pub address_is : (n : ℕ) → A st n ≡ address_of p.setting p.statics h.frame.at n
    address_is n = ap (λ o. address_of p.setting p.statics (unwrap_or o no_placing) n) h.frame.placed

    pub place_is : (c : Cell) → place_of p.setting p.statics h.frame.at u st c ≡ cell_address (A st) (L st) c
    place_is (Slot i) = refl
    place_is (Part n i) =
        let e : address_of p.setting p.statics h.frame.at n + (HEADER_WORDS + i)
        ≡ address_of p.setting p.statics h.frame.at n + i + HEADER_WORDS = omega arith in
        e ∙ ap (λ a. a + i + HEADER_WORDS) (sym (address_is n))

    pub cell_holds : (c : Cell) (k : Kind) → cell_kind P (shape_of P s) st.store c ≡ Some k
        → slice_index cells (cell_address (A st) (L st) c) ≡ value_word p.setting p.statics h.frame.at (read st c)
    cell_holds c k has = ap (slice_index cells) (sym (place_is c))
        ∙ frame_read p.setting p.statics s u [] st cells h c k has

    -- the cell of a place has the place's type
    pub place_kind : (target : Lvalue) (k : Kind) (cell : Cell)
        → place_type (typing_in P s) (shape_of P s) target ≡ Ok k → cell_of P st target ≡ Ok cell
        → cell_kind P (shape_of P s) st.store cell ≡ Some k
    place_kind target k cell t is =
        cell_found P (shape_of P s) st.store k (cell_of P st target) cell
        (place_fits p.setting classes (extra u []) (shape_of P s) (shape_of P s) s.class h.keeps.class_inside
        (same_means (shape_of P s)) st target k (typed p.setting p.statics s u [] st cells h) t) is

    abbrev pub context : Context p.setting
    context = record {
      extra = extra u [];
      locals = shape_of P s;
      shape = shape_of P s;
      class = s.class;
      inside = h.keeps.class_inside;
      means = same_means (shape_of P s);
    }

  -- ---- a write moves nothing

  pub same_names : (st : State) (c : Cell) (v : Value) (n : ℕ) → A (written st c v) n ≡ A st n
  same_names st (Slot j) v n = refl
  same_names st (Part m j) v n = refl

  pub same_slots : (st : State) (c : Cell) (v : Value) (i : ℕ) → L (written st c v) i ≡ L st i
  same_slots st (Slot j) v i = ap (λ k. frame_address p.setting p.statics u + (FIRST_VARIABLE + (k - 1 - i)))
      (length_with st.frame j v)
  same_slots st (Part m j) v i = refl

  pub same_place : (st : State) (c : Cell) (v : Value) (d : Cell)
      → cell_address (A (written st c v)) (L (written st c v)) d ≡ cell_address (A st) (L st) d
  same_place st c v (Slot i) = same_slots st c v i
  same_place st c v (Part n i) = ap (λ a. a + i + HEADER_WORDS) (same_names st c v n)

  pub same_placing : (st : State) (c : Cell) (v : Value) (cells cells' : List ℕ)
      (h : Reads p.setting p.statics s u [] st cells) (h' : Reads p.setting p.statics s u [] (written st c v) cells')
      → h'.frame.at ≡ h.frame.at
  same_placing st c v cells cells' h h' = let e : Some h'.frame.at ≡ Some h.frame.at = sym h'.frame.placed
      ∙ ap (place p.setting.limits.heap) (by c) ∙ h.frame.placed in cc
    where
      by : (d : Cell) → (written st d v).log ≡ st.log
      by (Slot j) = refl
      by (Part m j) = refl
