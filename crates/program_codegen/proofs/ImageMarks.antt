-- The marks of a linked image are one for each statement of the program.
use Rattle.std.proofs.Common.{inl, ◌≡◌, sym, subst, ℕ, ◌+◌, ◌-◌, ◌≤◌, List, [], ◌∷◌, ◌++◌, length, take, drop, refl}
use Rattle.std.proofs.Common.{arith}
use Rattle.std.specs.Prelude.{All, ◌<◌, ◌^◌, suc}
use Rattle.std.specs.List.{AllZip}
use Rattle.std.specs.List.Sorted.{IsPermutation}
use Rattle.std.proofs.lemmas.List.{take-append-drop, length-take-le, length-drop}
use Rattle.std.proofs.lemmas.List.Elements.{All-nil, All-append, All-weaker}
use Rattle.std.proofs.lemmas.List.Sorted.{IsPermutation-refl, IsPermutation-append}
use Rattle.refine_program.specs.rpp_words.declared.input.Limits.{Limits}
use Rattle.refine_program.specs.rpp_tree.Tree.{Source}
use Rattle.refine_program.specs.pisa_isa.Image.{Segments}
use Rattle.refine_program.specs.pisa_isa.declared.notes.Mark.{Mark}
use Rattle.refine_program.specs.paired_code.declared.part.Symbol.{Symbol}
use Rattle.refine_program.specs.paired_code.Code.{Code, bodies, moved_on, shift, routine_marks}
use Rattle.refine_program.specs.paired_code.Machine.{Image}
use Rattle.refine_program.specs.paired_code.Layout.{code_line, Stands}
use Rattle.refine_program.specs.paired_code.Link.{AllPlaced}
use Rattle.refine_program.proofs.paired_code_laws.Ways.{front, rest}
use Rattle.statement_codegen.specs.Rows.{Row}
use Rattle.statement_codegen.specs.Ranges.{IsRange, AreNested}
use Rattle.statement_codegen.specs.Pieces.{IsRowCode}
use Rattle.statement_codegen.proofs.Nesting.{each_append, each_moved, each_all, shift_same, all_moved, nested_moved}
use Rattle.statement_codegen.proofs.Nesting.{nested_append, IsBetween, apart_by}
use Rattle.refine_program.specs.refine_form.Form.{HasOpenFrame, run_result, one, turned_statement}
use Rattle.refine_program.specs.refine_form.Worlds.{Place, world_of, rates_of}
use Rattle.refine_program.specs.paired_code.Does.{Meets}
use Rattle.refine_program.specs.class_rules.Program.{IsAccepted}
use Rattle.refine_program.specs.refine_calls.Laws.{IsLinked}
use Rattle.refine_program.specs.Methods.{RoutineEntry, routine_in}
use Rattle.refine_program.specs.Laws.{statement_address, HasRoutines}
use Rattle.program_codegen.specs.Notes.{method_rows, rows_of, WillGo, IsStatementMark}
use Rattle.program_codegen.specs.Routines.{IsRoutine}

-- the cells of a range of a fragment are where the fragment is
there_in : (im : Image) (at : ℕ) (p : List Symbol) (i j : ℕ) → i ≤ j → j ≤ length p → Stands im code_line at p
    → Stands im code_line (at + i) (take (j - i) (drop i p))
there_in im at p i j h l stands =
    let whole : take i p ++ drop i p ≡ p = take-append-drop i p in
    let behind = rest im code_line at (take i p) (drop i p) (subst (Stands im code_line at) (sym whole) stands) in
    let long : length (take i p) ≡ i = length-take-le i p (omega arith) in
    let moved : Stands im code_line (at + i) (drop i p) =
    subst (λ n. Stands im code_line (at + n) (drop i p)) long behind in
    front im code_line (at + i) (take (j - i) (drop i p)) (drop (j - i) (drop i p))
    (subst (Stands im code_line (at + i)) (sym (take-append-drop (j - i) (drop i p))) moved)

module _ (program : Source) (image : Segments) (starts : List ℕ) (accepted : IsAccepted program)
    (has : HasRoutines program image starts) where
  abbrev im : Image
  im = record { code = image.code; routines = starts }

  abbrev here : Limits → Place
  here = statement_address program image starts has.bodies has.tops

  linked : (limits : Limits) → IsLinked (here limits) (routine_in program)
  linked limits = record { accepted = accepted; routed = has.linked limits }

  -- the law of an entry, which holds at any code address, holds for the cells under the mark: the
  -- image is linked, and there are no assumptions about its routines
  mark_of : (at : ℕ) (p : List Symbol) → Stands im code_line at p → at + length p < 2 ^ 30 → (row : Row) (k : Mark)
      → IsRange (IsRowCode program) p row k → IsStatementMark here row (moved_on at k)
  mark_of at p stands short row k h =
      let a = h.in_order in
      let b = h.within in
      let cells : List Symbol = take (k.end - k.first) (drop k.first p) in
      let long : at + k.first + length cells ≡ at + k.end =
      omega (
        arith,
        a,
        length-take-le (k.end - k.first) (drop k.first p)
            (omega (arith, a, b, length-drop k.first p)),
      ) in
      record {
        place = h.place;
        in_order = omega (arith, a);
        cells = λ limits. record {
          does = λ n d u st m frame.
              let law = h.law.law (here limits) (routine_in program) (linked limits) refl n
              (has.owed limits (suc n)) d u in
              subst (λ e. WillGo im d (at + k.first) e m (Meets (HasOpenFrame (world_of (here limits)) row.scope u)
              (rates_of (here limits).setting) (suc n) 0 (run_result
              (one (here limits).setting n (turned_statement d row.statement) st)))) long
              ((law.does st m frame).will code_line (at + k.first) (omega (arith, long, short, b))
              (there_in im at p k.first k.end a b stands));
        };
      }

  -- the ranges of these methods, whose routines begin at a cell
  pub record Ranges (at : ℕ) (rows : List Row) (marks : List Mark) : Type 0 where
    pub ranges : List Mark
    pub same : IsPermutation marks ranges
    pub each : AllZip (IsStatementMark here) rows ranges
    pub nested : AreNested rows ranges
    pub last : ℕ
    pub between : All (IsBetween at last) ranges

  pub ranges_of : (n at : ℕ) (es : List RoutineEntry) (ps : List Code) → AllZip (IsRoutine program) es ps
      → AllPlaced im n at (bodies ps) → Ranges at (rows_of es) (routine_marks at ps)
  ranges_of n at [] [] h placed = record {
    ranges = [];
    same = IsPermutation-refl [];
    each = tt;
    nested = tt;
    last = at;
    between = All-nil (IsBetween at at);
  }
  ranges_of n at [] (p ∷ ps) h placed = absurd h
  ranges_of n at (e ∷ es) [] h placed = absurd h
  ranges_of n at (e ∷ es) (p ∷ ps) h placed =
      let m = h.0.marks in
      let first = at + 1 + 1 + 1 in
      let next = first + length p.cells + 1 in
      let more = ranges_of (n + 1) next es ps h.1 placed.1 in
      let inside : All (IsBetween first (first + length p.cells)) (shift first m.ranges) =
      all_moved (IsBetween 0 (length p.cells)) (IsBetween first (first + length p.cells)) first
      (λ k x. (let a = x.0 in omega arith, let a = x.1 in omega arith, let a = x.2 in omega arith)) m.ranges
      (each_all (IsRange (IsRowCode program) p.cells) (IsBetween 0 (length p.cells))
      (λ r k x. (let a = x.in_order in omega arith, x.in_order, x.within)) (method_rows e) m.ranges m.each)
      in
      record {
        ranges = shift first m.ranges ++ more.ranges;
        same = IsPermutation-append _ _ _ _ (shift_same first p.marks m.ranges m.same) more.same;
        each =
            each_append (IsStatementMark here) (method_rows e) (shift first m.ranges) (rows_of es) more.ranges
            (each_moved (IsRange (IsRowCode program) p.cells) (IsStatementMark here) first
            (mark_of first p.cells placed.0.body_there placed.0.small) (method_rows e) m.ranges m.each) more.each;
        nested =
            nested_append (method_rows e) (shift first m.ranges) (rows_of es) more.ranges
            (nested_moved first (method_rows e) m.ranges m.nested) more.nested
            (apart_by first (first + length p.cells) next more.last (inl (omega arith)) (shift first m.ranges)
            more.ranges inside more.between);
        last = next + more.last;
        between =
            All-append (IsBetween at (next + more.last)) (shift first m.ranges) more.ranges
            (All-weaker (IsBetween first (first + length p.cells)) (IsBetween at (next + more.last))
            (λ k x. (let a = x.0 in omega arith, x.1, let a = x.2 in omega arith)) (shift first m.ranges) inside)
            (All-weaker (IsBetween next more.last) (IsBetween at (next + more.last))
            (λ k x. (let a = x.0 in omega arith, x.1, let a = x.2 in omega arith)) more.ranges more.between);
      }
