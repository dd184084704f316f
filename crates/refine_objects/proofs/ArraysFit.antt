-- The code of a new array has the law of a statement over current frames, and its inverse that of a
-- delete.
use Rattle.std.proofs.Common.{◌≡◌, ◌≢◌, ℕ, suc, ◌+◌, ◌^◌, ◌<◌, ◌≤◌, true, false, List, [], length, Some, refl, sym, ap}
use Rattle.std.proofs.Common.{◌∙◌, subst, arith}
use Rattle.std.proofs.lemmas.Int.{ints}
use Rattle.std.proofs.lemmas.Bool.Decides.{nat_tests}
use Rattle.std.proofs.lemmas.List.{length-replicate}
use Rattle.std.specs.Prelude.{replicate, Ok}
use Rattle.std.specs.Option.{option_map}
use Rattle.object_codegen.specs.code_conventions.declared.memory.TheConstants.{HEADER_WORDS}
use Rattle.object_codegen.specs.rpp_words.Words.{is_less}
use Rattle.object_codegen.specs.rpp_tree.declared.tree.Ident.{Ident}
use Rattle.object_codegen.specs.rpp_tree.Tree.{Expression, Lvalue, Whole, Item, Creation, Ints, Objects, New, Delete}
use Rattle.object_codegen.specs.rpp_tree.Tree.{Source}
use Rattle.object_codegen.specs.class_rules.declared.kind.Kind.{Kind}
use Rattle.object_codegen.specs.class_rules.declared.kind.Kind.TheVariants as kind
use Rattle.object_codegen.specs.class_rules.Refusal.{not_an_array}
use Rattle.object_codegen.specs.class_rules.Expressions.{is_int, element_kind, element_kind_of, variable_type}
use Rattle.object_codegen.specs.class_rules.Expressions.{first_token}
use Rattle.object_codegen.specs.class_rules.Expressions.{index_is_int}
use Rattle.object_codegen.specs.class_rules.Expressions.{type_of, place_type, occurs}
use Rattle.object_codegen.specs.class_rules.Statements.{is_int_array, length_is_int}
use Rattle.object_codegen.proofs.class_rules_laws.PassedRules.{handed_on, some_of, int_kind}
use Rattle.object_codegen.specs.pisa_isa.Machine.{Memory}
use Rattle.object_codegen.specs.pisa_isa.declared.image.TheConstants.{MOST_STATICS}
use Rattle.object_codegen.specs.paired_code.declared.part.Symbol.{Symbol}
use Rattle.object_codegen.specs.paired_code.Layout.{mirror_cells}
use Rattle.object_codegen.specs.buddy_pisa.Promise.{most_steps}
use Rattle.object_codegen.specs.roopl_semantics.Store.{Value, Word, Nil, Name, Head, OfInts, OfObjects, State}
use Rattle.object_codegen.specs.roopl_semantics.Store.{number_of, object_at}
use Rattle.object_codegen.specs.roopl_semantics.Value.{Cell, cell_named, read, value}
use Rattle.object_codegen.specs.roopl_semantics.Elements.{elements}
use Rattle.object_codegen.specs.roopl_semantics.Execution.{exec, freed, order_of_cells, all_zero}
use Rattle.object_codegen.specs.roopl_semantics.Layout.{head_word}
use Rattle.object_codegen.specs.meaning_sound.Plain.{HasWords}
use Rattle.object_codegen.specs.meaning_sound.Sound.{head_of, head_named, head_fits, named_fits, is_of_kind, cell_kinds}
use Rattle.object_codegen.specs.meaning_sound.Sound.{cell_kind, Typed}
use Rattle.object_codegen.proofs.meaning_sound_laws.Cells.{read_fits}
use Rattle.object_codegen.proofs.meaning_sound_laws.Classes.{KnowsClasses}
use Rattle.object_codegen.proofs.meaning_sound_laws.Stores.{live_object}
use Rattle.object_codegen.proofs.meaning_sound_laws.Values.{IsInt, int_value, value_found}
use Rattle.refine_expressions.proofs.meaning_inverse_laws.Known.{Context, Good}
use Rattle.refine_expressions.proofs.meaning_inverse_laws.Making.{MakeParts, make_parts, made_stays, gone_stays}
use Rattle.refine_expressions.proofs.meaning_inverse_laws.Steady.{reads_stay, all_unit}
use Rattle.object_codegen.specs.refine_form.Form.{Scope, StmtLaw}
use Rattle.object_codegen.specs.refine_form.Frames.{Under}
use Rattle.object_codegen.specs.refine_form.Stands.{shape_of, extra, Reads, Stands}
use Rattle.object_codegen.specs.refine_form.Worlds.{Place, world_of, rates_of}
use Rattle.object_codegen.specs.refine_form.declared.spot.Spot.{Spot}
use Rattle.refine_expressions.specs.refine_calls.Laws.{IsLinked}
use Rattle.refine_expressions.proofs.refine_calls_laws.Bridge.{typed, reads_of}
use Rattle.refine_expressions.proofs.refine_calls_laws.FactsFit.{known as known_classes}
use Rattle.refine_expressions.proofs.refine_calls_laws.MovesFit.{frame_address}
use Rattle.object_codegen.specs.register_expressions.Code.{words}
use Rattle.object_codegen.specs.expr_uncompute.Code.{place_words}
use Rattle.object_codegen.specs.register_expressions.Laws.{bases_of}
use Rattle.object_codegen.specs.expr_uncompute.Means.{shown, cell_address, Means, MeansPlace, SameValues}
use Rattle.object_codegen.specs.register_expressions.Number.{lvalue_read}
use Rattle.object_codegen.specs.expr_uncompute.Promises.{free_at, CanEvaluate}
use Rattle.refine_expressions.specs.Typing.{HasFrameSpace, IsPassed, typing_in, visible_spot, free_in_scope}
use Rattle.refine_expressions.proofs.ExpressionsRead.{means, sees, means_place, sees_place, value_is}
use Rattle.refine_expressions.proofs.FramesWritten.{A, L, R, known, place_kind}
use Rattle.refine_expressions.proofs.SameReadings.{values_of_reads}
use Rattle.refine_expressions.proofs.ValuesFit.{ready, some_counts}
use Rattle.object_codegen.specs.declared.shape.Shape.TheVariants.{Lengthy}
use Rattle.object_codegen.specs.Creations.{creation_words}
use Rattle.object_codegen.specs.News.{Lacks, ArrayLaw}
use Rattle.object_codegen.proofs.MakeFacts as facts
use Rattle.object_codegen.proofs.ArrayRows.{from_one_on, new_ints_does, delete_ints_does, new_objects_does}
use Rattle.object_codegen.proofs.ArrayRows.{delete_objects_does}
use Rattle.refine_objects.proofs.CountPlaces.{IsRefers, refers}
use Rattle.refine_objects.proofs.ArrayHeads.{Arrays, as_many, cells_fit, none_held, all_nothing, no_int, no_element}
use Rattle.refine_objects.proofs.ArrayHeads.{found_mark, found_some, of_ints, ints_place, OfObjectsOf, of_objects}
use Rattle.refine_objects.proofs.BlocksFit.{order_word, refers_by, word_by, sized, stands_there, head_word_is}
use Rattle.refine_objects.proofs.BlocksFit.{lacks_block}
use Rattle.refine_objects.proofs.BlocksFit.{takes_block, after_given, gives_block}
use Rattle.refine_objects.proofs.GoodFrames.{good, context as good_context}

module _ (p : Place) (routine : ℕ → Ident → ℕ) (linked : IsLinked p routine) (s : Scope) (u : Under) (name : Ident)
    (size : Expression) (array element : Kind) (head : ℕ → Head) (first : Value)
    (arrays : Arrays p.setting.program array element head first)
    (place_typed : place_type (typing_in p.setting.program s) (shape_of p.setting.program s) (Whole name) ≡ Ok array)
    (size_typed : type_of (typing_in p.setting.program s) (shape_of p.setting.program s) size ≡ Ok kind.Int)
    (apart : occurs name.text size ≡ false) (size_words : HasWords size)
    (room : HasFrameSpace p.setting.program s (place_words (Whole name) + words size)) where
  abbrev P : Source
  P = p.setting.program

  few : length p.statics ≤ MOST_STATICS
  few = linked.routed.few

  abbrev classes : KnowsClasses p.setting.program
  classes = known_classes p.setting.program linked.accepted

  abbrev Ad : State → ℕ → ℕ
  Ad = A p classes s u

  abbrev Sl : State → ℕ → ℕ
  Sl = L p classes s u

  abbrev Rel : State → Memory → Type 0
  Rel = R p classes s u

  abbrev spot : List ℕ → Spot
  spot = visible_spot p.setting.program s

  abbrev free : ℕ
  free = free_in_scope p.setting.program s

  abbrev F : ℕ
  F = frame_address p.setting p.statics u

  abbrev own : State → Cell
  own st = cell_named p.setting.program st name.text

  abbrev at : State → ℕ
  at st = cell_address (Ad st) (Sl st) (own st)

  abbrev n : ℕ
  n = place_words (Whole name) + words size

  abbrev Takes' : (st st' : State) (m : Memory) (a v : ℕ) → Type 0
  Takes' st st' m a v = facts.TakesBlock p.setting Ad Sl Rel spot free u.object F p.im st st' m a v (order_of_cells v) n
      Lengthy

  abbrev Gives' : (st st' : State) (m : Memory) (a x v : ℕ) → Type 0
  Gives' st st' m a x v = facts.GivesBlock p.setting Ad Sl Rel spot free u.object F p.im st st' m a x v
      (order_of_cells v) n Lengthy

  module _ (st : State) (m : Memory) (r : Rel st m) where
    abbrev h : Stands p.setting p.statics s u [] st m.cells
    h = r.open_frame

    abbrev rd : Reads p.setting p.statics s u [] st m.cells
    rd = reads_of r.open_frame

    abbrev t : Typed p.setting (extra u []) (shape_of p.setting.program s) s.class st
    t = typed p.setting p.statics s u [] st m.cells rd

    can : CanEvaluate spot free n (lvalue_read (Whole name)) size m
    can = subst (λ z. CanEvaluate spot free n (lvalue_read (Whole name)) size z) (sym (known p classes s u st m r))
        (record {
          ready = ready p few classes s u st m.cells rd n 0 0 room;
          first = sees_place p.setting p.statics few classes s u st m.cells rd (Whole name) array tt place_typed;
          second = sees p.setting p.statics few classes s u st m.cells rd size kind.Int size_words size_typed;
        })

    place_means : MeansPlace (Ad st) (Sl st) P st spot (bases_of m) m.cells (Whole name)
    place_means = subst (λ z. MeansPlace (Ad st) (Sl st) P st spot (bases_of z) z.cells (Whole name))
        (sym (known p classes s u st m r)) (means_place p.setting p.statics few classes s u st m.cells rd (Whole name)
        array tt place_typed)

    size_means : Means (Ad st) (Sl st) P st spot (bases_of m) m.cells size
    size_means = subst (λ z. Means (Ad st) (Sl st) P st spot (bases_of z) z.cells size)
        (sym (known p classes s u st m r)) (means p.setting p.statics few classes s u st m.cells rd size kind.Int
        size_words size_typed)

    int_of : (x : Value) → value P st size ≡ Ok x → IsInt x
    int_of x q = int_value P st.store x (value_found P st.store kind.Int (value P st size) x
        (value_is p.setting p.statics few classes s u st m.cells rd size kind.Int size_words size_typed) q)

    int_shown : (x : Value) → value P st size ≡ Ok x → number_of x ≡ shown (Ad st) (Sl st) x
    int_shown x q = let i = int_of x q in ap number_of i.is ∙ sym (ap (shown (Ad st) (Sl st)) i.is)

    int_word : (x : Value) → value P st size ≡ Ok x → number_of x < 2 ^ 32
    int_word x q = let i = int_of x q in subst (λ z. number_of z < 2 ^ 32) (sym i.is) i.small

    has : cell_kind P (shape_of P s) st.store (own st) ≡ Some array
    has = place_kind p classes s u st m.cells rd (Whole name) array (own st) place_typed refl

    -- ---- the array of the place

    module _ (k : ℕ) (named : read st (own st) ≡ Name k) where
      f : IsRefers p.setting p.statics s u st m.cells rd k
      f = refers p.setting p.statics s u st m.cells rd (own st) array k has named

      headed : head_named st.store k ≡ Some (object_at st.store k).head
      headed = ap (option_map head_of) (live_object st.store k f.live)

      head_fit : head_fits P array (object_at st.store k).head ≡ true
      head_fit = ap (named_fits P array) (sym headed) ∙ subst (λ v. is_of_kind P st.store v array ≡ true) named
          (read_fits p.setting (extra u []) (shape_of P s) s.class st (own st) array t has)

      many_kinds : length (object_at st.store k).cells ≡ length (cell_kinds P (object_at st.store k).head)
      many_kinds = sized p routine linked classes s u st m r k f

      marked : head_word P (object_at st.store k).head ≡ length (object_at st.store k).cells
      marked = found_mark P array element head first arrays (object_at st.store k).head head_fit ∙ sym many_kinds

      some : 1 ≤ length (object_at st.store k).cells
      some = let q = found_some P array element head first arrays (object_at st.store k).head head_fit
          (h.keeps.arrays k (object_at st.store k).head headed) in let z = many_kinds in omega (arith, q, z)

      small : length (object_at st.store k).cells < 2 ^ 32
      small = let l = (stands_there p routine linked classes s u st m r k f).small in omega (arith, l)

      stands : facts.ArrayStands p.setting Ad Sl Rel spot free u.object F p.im head first name size st m k
      stands = record {
        there = stands_there p routine linked classes s u st m r k f;
        mark = head_word_is p routine linked classes s u st m r k f ∙ marked;
        some = some;
      }

    -- ---- a new array

    module _ (v : ℕ) (empty : read st (own st) ≡ Nil) (v_small : v < 2 ^ 31) (v_some : v ≢ 0)
        (not_full : facts.is_full p.setting v st ≡ false) where
      many : length (cell_kinds P (head v)) ≡ v
      many = as_many P array element head first arrays v

      mark : head_word P (head v) ≡ v
      mark = arrays.marks v

      makes : Takes' st (facts.with_array p.setting Ad Sl Rel spot free u.object F p.im head first name size v st) m
          (at st) v
      makes =
          takes_block p routine linked classes s u st m r (own st) array has empty (head v) (replicate v first)
          (arrays.heads v) (cells_fit P array element head first arrays v)
          (none_held P array element head first arrays v) (all_nothing P array element head first arrays v)
          (arrays.some v (omega (arith, v_some)))
          (subst (λ z. facts.is_full p.setting z st ≡ false) (sym many) not_full)
          (let e = mark in omega (arith, e, v_small))
          v v (order_of_cells v) n Lengthy (sym many) (ap order_of_cells (sym many)) (sym (length-replicate v first))
          (sym mark) (omega (arith, v_small)) (order_word (HEADER_WORDS + v)) tt

    abbrev C : Context p.setting
    C = good_context p.setting p.statics few s h.keeps.class_inside u st m.cells h

    good_now : Good p.setting C st
    good_now = good p.setting p.statics few s h.keeps.class_inside u st m.cells h

    made_same : (v : ℕ) → SameValues P st (facts.with_array p.setting Ad Sl Rel spot free u.object F p.im head first
        name size v st) size
    made_same v =
        let end = facts.with_array p.setting Ad Sl Rel spot free u.object F p.im head first name size v st in
        let stay = made_stays p.setting classes C st good_now v (head v) (replicate v first) (Whole name) array (own st)
        place_typed refl in
        values_of_reads P st end size (reads_stay (typing_in P s) (shape_of P s) name.text name.text (λ other. Unit {0})
        st end stay size kind.Int size_typed (all_unit (elements size)) apart apart)

    lacks : (v : ℕ) → v < 2 ^ 32 → facts.is_full p.setting v st ≡ true
        → Lacks p.im u.object F (order_of_cells v) (at st) v Lengthy (free_at free m) n
        (most_steps p.setting.limits.heap + 7) m.cells
    lacks v v_small full = lacks_block p routine linked classes s u st m r (own st) array has v v n Lengthy v_small
        (order_word (HEADER_WORDS + v)) tt full

    -- ---- an array given back

    module _ (k : ℕ) (named : read st (own st) ≡ Name k) (single : (object_at st.store k).count ≡ 1)
        (zeros : all_zero (object_at st.store k).cells ≡ true) where
      frees : (v : ℕ) → length (object_at st.store k).cells ≡ v
          → Gives' st (freed p.setting (own st) k st) m (at st) (Ad st k) v
      frees v is =
          let l = small k named in
          gives_block p routine linked classes s u st m r (own st) array has (no_int P array element head first arrays)
          k named single zeros
          v (order_of_cells v) n Lengthy (ap order_of_cells (sym is ∙ many_kinds k named)) (sym is)
          (sym (marked k named ∙ is)) (omega (arith, l, is)) (order_word (HEADER_WORDS + v)) tt

      freed_same : SameValues P st (freed p.setting (own st) k st) size
      freed_same =
          let end = freed p.setting (own st) k st in
          let after = after_given p routine linked classes s u st m r (own st) array has
          (no_int P array element head first arrays) k named single zeros in
          let g' = good p.setting p.statics few s h.keeps.class_inside u end _ after.open_frame in
          let stay = gone_stays p.setting classes C st good_now (Whole name) array (own st) place_typed refl k
          (order_of_cells (length (object_at st.store k).cells)) g' in
          values_of_reads P st end size (reads_stay (typing_in P s) (shape_of P s) name.text name.text
          (λ other. Unit {0}) st end stay size kind.Int size_typed (all_unit (elements size)) apart apart)

  pub array_facts : facts.ArrayFacts p.setting Ad Sl Rel spot free u.object F p.im head first name size
  array_facts = record {
    regs_are = λ st m r. r.regs_are;
    can = can;
    means = place_means;
    size_means = size_means;
    is_int = λ st m v r q. int_shown st m r v q;
    is_word = λ st m v r q. int_word st m r v q;
    refers = λ st m r. refers_by p routine linked classes s u st m r (own st) array (has st m r)
        (no_int P array element head first arrays);
    word = λ st m r. word_by p routine linked classes s u st m r (own st) array (has st m r);
    stands = λ st m k r e. stands st m r k e;
    makes = λ st m v r q e l f. let b = from_one_on (number_of v) (int_word st m r v q) l in
        makes st m r (number_of v) e b.0 b.1 f;
    made_same = λ st m v r q e l f. made_same st m r (number_of v);
    lacks = λ st m v r q e l f. lacks st m r (number_of v) (int_word st m r v q) f;
    frees = λ st m v k r q e l c z. frees st m r k e c z (number_of v) l;
    freed_same = λ st m v k r q e l c z. freed_same st m r k e c z;
  }

-- ---- the laws

int_length : (P : Source) (s : Scope) (size : Expression)
    → length_is_int (typing_in P s) (shape_of P s) (Ints size) ≡ Ok true
    → type_of (typing_in P s) (shape_of P s) size ≡ Ok kind.Int
int_length P s size h =
    let l = handed_on (type_of (typing_in P s) (shape_of P s) size) _ true h in
    let b : is_int l.value ≡ true = (let g = l.goes in cc) in
    l.is ∙ ap (λ k. Ok k) (int_kind l.value b)

-- an element is no place for an array
no_item : (P : Source) (s : Scope) (name : Ident) (index : Expression) (array element : Kind) (head : ℕ → Head)
    (first : Value) → Arrays P array element head first → place_type (typing_in P s) (shape_of P s) (Item name index)
    ≡ Ok array → ⊥
no_item P s name index array element head first arrays h =
    let outer = handed_on (variable_type (typing_in P s) (shape_of P s) name) _ array h in
    let inner = handed_on (element_kind_of name outer.value) _ array outer.goes in
    let at = handed_on (type_of (typing_in P s) (shape_of P s) index) _ array inner.goes in
    no_element P array element head first arrays outer.value
    (some_of (element_kind outer.value) (not_an_array name.at) inner.value inner.is
    ∙ ap (λ z. Some z) (indexed inner.value (first_token index) at.value at.goes))
  where
    indexed : (x : Kind) (at : ℕ) (i : Kind) → index_is_int x at i ≡ Ok array → x ≡ array
    indexed x at kind.Int e = cc
    indexed x at kind.Nil e = cc
    indexed x at (kind.Class c) e = cc
    indexed x at kind.IntArray e = cc
    indexed x at (kind.ClassArray c) e = cc

ints_in : (P : Source) (k : Kind) → is_int_array k ≡ true → Arrays P k kind.Int OfInts (Word 0)
ints_in P k h = subst (λ z. Arrays P z kind.Int OfInts (Word 0)) (sym (ints_place k h)) (of_ints P)

abbrev Parts : (p : Place) → Scope → Creation → Lvalue → Type 0
Parts p s made target = MakeParts (typing_in p.setting.program s) (shape_of p.setting.program s) made target

module _ (p : Place) (routine : ℕ → Ident → ℕ) (linked : IsLinked p routine) (s : Scope) (size : Expression) where
  -- arrays of int
  ints_facts : (u : Under) (name : Ident) → Parts p s (Ints size) (Whole name) → HasWords size
      → HasFrameSpace p.setting.program s (place_words (Whole name) + words size)
      → facts.ArrayFacts p.setting (A p (known_classes p.setting.program linked.accepted) s u)
      (L p (known_classes p.setting.program linked.accepted) s u)
      (R p (known_classes p.setting.program linked.accepted) s u) (visible_spot p.setting.program s)
      (free_in_scope p.setting.program s) u.object (frame_address p.setting p.statics u) p.im OfInts (Word 0) name size
  ints_facts u name m has_words room =
      array_facts p routine linked s u name size m.type kind.Int OfInts (Word 0)
      (ints_in p.setting.program m.type m.takes_it) m.is (int_length p.setting.program s size m.int) m.length
      has_words room

  pub new_ints_fits : (at : ℕ) (target : Lvalue) → IsPassed p.setting.program s (New at (Ints size) target)
      (creation_words (Ints size) target) → (q : List Symbol)
      → ArrayLaw (visible_spot p.setting.program s) (free_in_scope p.setting.program s) target size q
      → StmtLaw (world_of p) s (New at (Ints size) target) q
  new_ints_fits at (Whole name) ok q law n owes d u =
      new_ints_does p.setting (A p (known_classes p.setting.program linked.accepted) s u)
      (L p (known_classes p.setting.program linked.accepted) s u)
      (R p (known_classes p.setting.program linked.accepted) s u) (visible_spot p.setting.program s)
      (free_in_scope p.setting.program s) u.object (frame_address p.setting p.statics u) p.im name size
      (rates_of p.setting) (some_counts _) (omega arith) q law (suc n)
      (ints_facts u name (make_parts (typing_in p.setting.program s) (shape_of p.setting.program s) at (Ints size)
      (Whole name) ok.rules) ok.has_words.0 ok.room) d at n (exec p.setting n)
  new_ints_fits at (Item name index) ok q law n owes d u =
      let m = make_parts (typing_in p.setting.program s) (shape_of p.setting.program s) at (Ints size) (Item name index)
      ok.rules in
      absurd (no_item p.setting.program s name index m.type kind.Int OfInts (Word 0)
      (ints_in p.setting.program m.type m.takes_it) m.is)

  pub delete_ints_fits : (at : ℕ) (target : Lvalue) → IsPassed p.setting.program s (Delete at (Ints size) target)
      (creation_words (Ints size) target) → (q : List Symbol)
      → ArrayLaw (visible_spot p.setting.program s) (free_in_scope p.setting.program s) target size q
      → StmtLaw (world_of p) s (Delete at (Ints size) target) (mirror_cells q)
  delete_ints_fits at (Whole name) ok q law n owes d u =
      delete_ints_does p.setting (A p (known_classes p.setting.program linked.accepted) s u)
      (L p (known_classes p.setting.program linked.accepted) s u)
      (R p (known_classes p.setting.program linked.accepted) s u) (visible_spot p.setting.program s)
      (free_in_scope p.setting.program s) u.object (frame_address p.setting p.statics u) p.im name size
      (rates_of p.setting) (some_counts _) (omega arith) q law (suc n)
      (ints_facts u name (make_parts (typing_in p.setting.program s) (shape_of p.setting.program s) at (Ints size)
      (Whole name) ok.rules) ok.has_words.0 ok.room) d at n (exec p.setting n)
  delete_ints_fits at (Item name index) ok q law n owes d u =
      let m = make_parts (typing_in p.setting.program s) (shape_of p.setting.program s) at (Ints size) (Item name index)
      ok.rules in
      absurd (no_item p.setting.program s name index m.type kind.Int OfInts (Word 0)
      (ints_in p.setting.program m.type m.takes_it) m.is)

  -- arrays of references
  module _ (class : Ident) where
    in_class : (target : Lvalue) → (m : Parts p s (Objects class size) target)
        → OfObjectsOf p.setting.program class m.type
    in_class target m = of_objects p.setting.program class m.type m.takes_it

    objects_facts : (u : Under) (name : Ident) → Parts p s (Objects class size) (Whole name) → HasWords size
        → HasFrameSpace p.setting.program s (place_words (Whole name) + words size)
        → facts.ArrayFacts p.setting (A p (known_classes p.setting.program linked.accepted) s u)
        (L p (known_classes p.setting.program linked.accepted) s u)
        (R p (known_classes p.setting.program linked.accepted) s u) (visible_spot p.setting.program s)
        (free_in_scope p.setting.program s) u.object (frame_address p.setting p.statics u) p.im
        (OfObjects (facts.number_in p.setting class)) Nil name size
    objects_facts u name m has_words room =
        let o = in_class (Whole name) m in
        array_facts p routine linked s u name size m.type o.element (OfObjects (facts.number_in p.setting class)) Nil
        o.arrays m.is (int_length p.setting.program s size m.int) m.length has_words room

    pub new_objects_fits : (at : ℕ) (target : Lvalue) → IsPassed p.setting.program s
        (New at (Objects class size) target) (creation_words (Objects class size) target) → (q : List Symbol)
        → ArrayLaw (visible_spot p.setting.program s) (free_in_scope p.setting.program s) target size q
        → StmtLaw (world_of p) s (New at (Objects class size) target) q
    new_objects_fits at (Whole name) ok q law n owes d u =
        new_objects_does p.setting (A p (known_classes p.setting.program linked.accepted) s u)
        (L p (known_classes p.setting.program linked.accepted) s u)
        (R p (known_classes p.setting.program linked.accepted) s u) (visible_spot p.setting.program s)
        (free_in_scope p.setting.program s) u.object (frame_address p.setting p.statics u) p.im name size
        (rates_of p.setting) (some_counts _) (omega arith) q law (suc n)
        class (objects_facts u name (make_parts (typing_in p.setting.program s) (shape_of p.setting.program s) at
        (Objects class size) (Whole name) ok.rules) ok.has_words.0 ok.room) d at n (exec p.setting n)
    new_objects_fits at (Item name index) ok q law n owes d u =
        let m = make_parts (typing_in p.setting.program s) (shape_of p.setting.program s) at (Objects class size)
        (Item name index) ok.rules in
        let o = in_class (Item name index) m in
        absurd (no_item p.setting.program s name index m.type o.element (OfObjects (facts.number_in p.setting class))
        Nil o.arrays m.is)

    pub delete_objects_fits : (at : ℕ) (target : Lvalue) → IsPassed p.setting.program s
        (Delete at (Objects class size) target) (creation_words (Objects class size) target) → (q : List Symbol)
        → ArrayLaw (visible_spot p.setting.program s) (free_in_scope p.setting.program s) target size q
        → StmtLaw (world_of p) s (Delete at (Objects class size) target) (mirror_cells q)
    delete_objects_fits at (Whole name) ok q law n owes d u =
        delete_objects_does p.setting (A p (known_classes p.setting.program linked.accepted) s u)
        (L p (known_classes p.setting.program linked.accepted) s u)
        (R p (known_classes p.setting.program linked.accepted) s u) (visible_spot p.setting.program s)
        (free_in_scope p.setting.program s) u.object (frame_address p.setting p.statics u) p.im name size
        (rates_of p.setting) (some_counts _) (omega arith) q law (suc n)
        class (objects_facts u name (make_parts (typing_in p.setting.program s) (shape_of p.setting.program s) at
        (Objects class size) (Whole name) ok.rules) ok.has_words.0 ok.room) d at n (exec p.setting n)
    delete_objects_fits at (Item name index) ok q law n owes d u =
        let m = make_parts (typing_in p.setting.program s) (shape_of p.setting.program s) at (Objects class size)
        (Item name index) ok.rules in
        let o = in_class (Item name index) m in
        absurd (no_item p.setting.program s name index m.type o.element (OfObjects (facts.number_in p.setting class))
        Nil o.arrays m.is)
