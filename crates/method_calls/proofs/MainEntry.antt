-- The run of the main fragment up to the body of `main`, and from there on.
use Rattle.std.proofs.Common.{◌≡◌, ◌≢◌, ℕ, ◌+◌, ◌^◌, ◌<◌, ◌≤◌, false, List, [], ◌∷◌, length, Some}
use Rattle.std.proofs.Common.{refl, sym, ap, ◌∙◌, subst, arith}
use Rattle.std.specs.Prelude.{pos}
use Rattle.refine_form.specs.rpp_words.declared.input.FieldWord.{FieldWord}
use Rattle.refine_form.specs.pisa_isa.Loaded.{loaded}
use Rattle.refine_form.specs.pisa_isa.Machine.{Memory, fetch}
use Rattle.refine_form.specs.code_conventions.declared.memory.TheConstants.{MAIN_OBJECT}
use Rattle.refine_form.specs.code_conventions.declared.registers.TheConstants.{LINK}
use Rattle.refine_form.specs.code_conventions.Cells.{bra}
use Rattle.refine_form.specs.paired_code.Cells.{swapbr}
use Rattle.refine_form.specs.paired_code.declared.part.Symbol.{Symbol}
use Rattle.refine_form.specs.paired_code.declared.part.Symbol.TheVariants.{Enter}
use Rattle.refine_form.specs.paired_code.Machine.{Image, memory_reg, memory_with_reg}
use Rattle.refine_form.specs.paired_code.Layout.{at, base, between, code_line, mirror_cells, Stands, Routine}
use Rattle.refine_form.specs.paired_code.Pieces.{Path, Done, Way, Ends, finishes, Will}
use Rattle.refine_form.specs.paired_code.Rows.{line}
use Rattle.refine_form.proofs.paired_code_laws.Paths.{append, within_call}
use Rattle.refine_form.proofs.paired_code_laws.Ways.{front, rest, and_then, from_to, way_wider}
use Rattle.refine_form.proofs.paired_code_laws.Call.{on_line, negates, ends_jump, neg_between, between_positive, between_small}
use Rattle.refine_form.proofs.paired_code_laws.Call.{apart, call_cell, enter_path, leave_path}
use Rattle.refine_form.proofs.paired_code_laws.Mirrored.{will_mirror}
use Rattle.refine_form.specs.roopl_semantics.Store.{State}
use Rattle.refine_form.specs.roopl_semantics.Layout.{layout}
use Rattle.refine_form.specs.Form.{World, Entered}
use Rattle.refine_form.proofs.Rules.{as_known}
use Rattle.method_calls.specs.CallCode.{main_row, main_code}
use Rattle.method_calls.specs.Facts.{KnownCalls, FrameFacts, MainFacts}
use Rattle.method_calls.specs.Laws.{EntersMain, main_start, body_start, body_end}
use Rattle.method_calls.proofs.MainPiece.{sets_out, comes_home}
use Rattle.refine_form.proofs.Memories.{mk}

-- if the outcome of a fragment is known, it goes along to its end
way_of : (im : Image) (p : List Symbol) (m m' : Memory) (k i : ℕ) → Will im p false m (λ o. o ≡ Done m' k)
    → i + length p < 2 ^ 30 → Stands im code_line i p → Way im code_line false i (i + length p) k i m (i + length p) m'
way_of im p m m' k i h l st =
    let e = h.will code_line i l st in
    goes (subst (Ends im code_line false i (i + length p) i m (i + length p)) e.2 e.1)
  where
    goes : Ends im code_line false i (i + length p) i m (i + length p) (Done m' k)
        → Way im code_line false i (i + length p) k i m (i + length p) m'
    goes (finishes w) = w

-- ---- a call of a routine from cell p of the code

module _ (im : Image) (r top : ℕ) (body : List Symbol) (t : Routine im r top body) (a b p : ℕ) (lo : a ≤ p)
    (hi : p < b) (hp : p < 2 ^ 30) (stands : Stands im code_line p (Enter r false ∷ [])) where
  caller : fetch im.code (pos p) ≡ Some (call_cell false (between p (top + 1)))
  caller = subst (λ z. fetch im.code z ≡ Some (bra (between p (top + 1)))) (on_line p)
      (stands.0 ∙ ap (λ z. Some (base im.routines z (Enter r false))) (on_line p)
      ∙ ap (λ n. Some (bra (between p n))) t.listed)

  swap : fetch im.code (pos (top + 1)) ≡ Some (swapbr 2)
  swap = subst (λ z. fetch im.code z ≡ Some (swapbr 2)) (on_line (top + 1)) t.sub_cell

  ne : p ≢ top + 1
  ne = apart im false (between p (top + 1)) p (top + 1) caller swap

  go_in : (m : Memory) → memory_reg m LINK ≡ 0 → Path im code_line a b 2 0 (at code_line false p m) 1
      (at code_line false (top + 1 + 1) (memory_with_reg m LINK (between p (top + 1))))
  go_in m z = enter_path im r top body t code_line false false a b p p lo hi (on_line p) caller ne hp false refl m z

  go_out : (m : Memory) → memory_reg m LINK ≡ between (top + 1) p
      → Path im code_line a b 2 1 (at code_line false (top + 1) m) 0
      (at code_line false (p + 1) (memory_with_reg m LINK 0))
  go_out m z = leave_path im r top body t code_line false false a b p p lo hi (on_line p) caller ne hp false refl m z

-- ---- the main fragment

module _ (w : World) (knows : KnownCalls w) (f : FrameFacts w knows) (statics : List ℕ) (input : List FieldWord)
    (mf : MainFacts w statics input) where
  abbrev number : ℕ
  number = w.routines.number mf.main

  abbrev top : ℕ
  top = w.routines.top mf.main

  abbrev body : List Symbol
  body = w.routines.body mf.main

  abbrev frame : ℕ
  frame = w.frame_of mf.first

  abbrev cells : List ℕ
  cells = loaded statics w.setting.limits input

  module _ (i : ℕ) (short : i + length (main_code number) < 2 ^ 30)
      (stands : Stands w.im code_line i (main_code number)) where
    abbrev p : ℕ
    p = i + 6

    abbrev last : ℕ
    last = i + 13

    routine : Routine w.im number top body
    routine = f.image.placed mf.main mf.is_routine

    behind : Stands w.im code_line p (Enter number false ∷ mirror_cells (line main_row))
    behind = rest w.im code_line i (line main_row) (Enter number false ∷ mirror_cells (line main_row)) stands

    p_small : p < 2 ^ 30
    p_small = omega (arith, short)

    top_small : top + 1 < 2 ^ 30
    top_small = let l = routine.small in omega arith

    differ : top + 1 ≢ p
    differ e = ne w.im number top body routine i last p (omega arith) (omega arith) p_small (behind.0, tt) (sym e)

    abbrev word : ℕ
    word = between (top + 1) p

    abbrev first : Memory
    first = mk word MAIN_OBJECT frame 0 0 0 0 0 cells

    -- the rows, the call, NEG
    front_way : Way w.im code_line false i last 6 i (mk 0 0 0 0 0 0 0 0 cells) p
        (mk 0 MAIN_OBJECT frame 0 0 0 0 0 cells)
    front_way = way_wider i last (omega arith) (omega arith)
        (way_of w.im (line main_row) (mk 0 0 0 0 0 0 0 0 cells) (mk 0 MAIN_OBJECT frame 0 0 0 0 0 cells) 6 i
        (sets_out w.im frame cells (mf.base_in _ _ mf.starts) (mf.base_is _ _ mf.starts) mf.frame_small)
        (omega (arith, short))
        (front w.im code_line i (line main_row) (Enter number false ∷ mirror_cells (line main_row)) stands))

    call_path : Path w.im code_line i last 2 0 (at code_line false p (mk 0 MAIN_OBJECT frame 0 0 0 0 0 cells)) 1
        (at code_line false (top + 1 + 1) (mk (between p (top + 1)) MAIN_OBJECT frame 0 0 0 0 0 cells))
    call_path = go_in w.im number top body routine i last p (omega arith) (omega arith) p_small (behind.0, tt)
        (mk 0 MAIN_OBJECT frame 0 0 0 0 0 cells) refl

    negated_way : Way w.im code_line false top (top + 1 + 1 + 1 + length body + 1) 1 (top + 1 + 1)
        (mk (between p (top + 1)) MAIN_OBJECT frame 0 0 0 0 0 cells) (top + 1 + 1 + 1) first
    negated_way =
        let e = neg_between p (top + 1) (λ h. differ (sym h)) p_small top_small in
        subst (λ v. Way w.im code_line false top (top + 1 + 1 + 1 + length body + 1) 1 (top + 1 + 1)
        (mk (between p (top + 1)) MAIN_OBJECT frame 0 0 0 0 0 cells) (top + 1 + 1 + 1)
        (mk v MAIN_OBJECT frame 0 0 0 0 0 cells)) e
        (negates w.im number top body routine false (mk (between p (top + 1)) MAIN_OBJECT frame 0 0 0 0 0 cells))

    goes_in : Path w.im code_line i last 9 0 (at code_line false i (main_start w statics input)) 1
        (at code_line false (body_start w mf.main) first)
    goes_in = append front_way.path (append call_path (within_call code_line i last negated_way.path))

    goes_out : (st : State) (m : Memory) (k : ℕ) → Entered w (w.routines.scope mf.main) mf.first word 0 st m
        → Way w.im code_line false (body_start w mf.main) (body_end w mf.main) k (body_start w mf.main) first
        (body_end w mf.main) m
        → Way w.im code_line false i last (9 + k + 10) i (main_start w statics input) last
        (mk 0 0 0 0 0 0 0 0 (layout w.setting.program w.setting.limits statics st.store st.log))
    goes_out st m k h along =
        let known : m ≡ mk word MAIN_OBJECT frame 0 0 0 0 0 m.cells = as_known m _
        (h.regs_are ∙ ap (λ o. (mk word o frame 0 0 0 0 0 m.cells).regs) mf.object_is) in
        let home : Way w.im code_line false i last 6 (p + 1) (mk 0 MAIN_OBJECT frame 0 0 0 0 0 m.cells) last
        (mk 0 0 0 0 0 0 0 0 m.cells) = from_to refl refl (let c : p + 1 + 6 ≡ last = omega arith in c)
        (way_wider i last (omega arith) (omega arith)
        (way_of w.im (mirror_cells (line main_row)) (mk 0 MAIN_OBJECT frame 0 0 0 0 0 m.cells)
        (mk 0 0 0 0 0 0 0 0 m.cells) 6
        (p + 1) (will_mirror w.im (line main_row) false (mk 0 MAIN_OBJECT frame 0 0 0 0 0 m.cells) _
        (comes_home w.im frame m.cells (mf.base_in st m.cells h.open_frame) (mf.base_is st m.cells h.open_frame)
        mf.frame_small)) (omega (arith, short)) behind.1)) in
        let out : Path w.im code_line i last 2 1 (at code_line false (top + 1) m) 0
        (at code_line false (p + 1) (mk 0 MAIN_OBJECT frame 0 0 0 0 0 m.cells)) =
        subst (λ z. Path w.im code_line i last 2 1 (at code_line false (top + 1) m) 0
        (at code_line false (p + 1) (memory_with_reg z LINK 0))) known
        (go_out w.im number top body routine i last p (omega arith) (omega arith) p_small (behind.0, tt) m
        (ap (λ z. memory_reg z LINK) known)) in
        let inside = and_then (way_wider top (top + 1 + 1 + 1 + length body + 1) (omega arith) (omega arith) along)
        (ends_jump w.im number top body routine false m) in
        let all : Way w.im code_line false i last (9 + (k + 2 + (2 + 6))) i (main_start w statics input) last
        (mk 0 0 0 0 0 0 0 0 m.cells) = record {
          path = append goes_in (append (within_call code_line i last inside.path) (append out home.path));
        } in
        subst (λ z. Way w.im code_line false i last (9 + k + 10) i (main_start w statics input) last
        (mk 0 0 0 0 0 0 0 0 z)) (mf.ends st m.cells h.open_frame)
        (from_to (let c : 9 + (k + 2 + (2 + 6)) ≡ 9 + k + 10 = omega arith in c) refl refl all)

    pub main_enters : EntersMain w statics input mf i (main_code number)
    main_enters = record {
      link = word;
      is_place = between_positive (top + 1) p differ top_small p_small;
      is_word = between_small (top + 1) p;
      first = first;
      entered = record {
        regs_are = ap (λ o. (mk word o frame 0 0 0 0 0 cells).regs) (sym mf.object_is);
        open_frame = mf.starts;
      };
      enters = goes_in;
      returns = λ st m k h along. goes_out st m k h along;
    }
