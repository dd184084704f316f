-- The code of `new` and `delete` of objects has the law of a statement over current frames.
use Rattle.std.proofs.Common.{◌≡◌, ◌≢◌, ◌∙◌, sym, ap, subst, refl, ℕ, suc, ◌+◌, ◌^◌, ◌<◌, ◌≤◌, Bool, true, false, List}
use Rattle.std.proofs.Common.{[], ◌∷◌, length, Some, None, Option, arith}
use Rattle.std.proofs.lemmas.Bool.{eqb-true}
use Rattle.std.proofs.lemmas.List.{length-map}
use Rattle.std.specs.Prelude.{◌&&◌, Ok}
use Rattle.std.specs.Option.{option_map, unwrap_or}
use Rattle.object_codegen.specs.rpp_tree.declared.limits.TheConstants.{MOST_FIELDS}
use Rattle.object_codegen.specs.code_conventions.declared.memory.TheConstants.{HEADER_WORDS}
use Rattle.object_codegen.specs.rpp_tree.declared.tree.Ident.{Ident}
use Rattle.object_codegen.specs.rpp_tree.declared.tree.Var.{Var}
use Rattle.object_codegen.specs.rpp_tree.declared.tree.VarType.{VarType}
use Rattle.object_codegen.specs.rpp_tree.declared.tree.VarType.TheVariants as type
use Rattle.object_codegen.specs.rpp_tree.Tree.{Null, Lvalue, Object as AnObject, New, Delete, Source}
use Rattle.object_codegen.specs.class_rules.declared.kind.Kind.{Kind}
use Rattle.object_codegen.specs.class_rules.declared.kind.Kind.TheVariants as kind
use Rattle.object_codegen.specs.class_rules.Classes.{class_number, class_fields}
use Rattle.object_codegen.specs.class_rules.Expressions.{is_int}
use Rattle.object_codegen.specs.class_rules.Inheritance.{kind_of_var}
use Rattle.object_codegen.specs.class_rules.Statements.{verdict_passed, make_rules}
use Rattle.object_codegen.specs.class_rules.Table.{table_of}
use Rattle.object_codegen.specs.buddy_book.Book.{order_for}
use Rattle.object_codegen.specs.buddy_pisa.Promise.{most_steps}
use Rattle.object_codegen.specs.pisa_isa.Machine.{Memory}
use Rattle.object_codegen.specs.pisa_isa.declared.image.TheConstants.{MOST_STATICS}
use Rattle.object_codegen.specs.paired_code.declared.part.Symbol.{Symbol}
use Rattle.object_codegen.specs.paired_code.Layout.{mirror_cells}
use Rattle.object_codegen.specs.roopl_semantics.Layout.{table_at, head_word}
use Rattle.object_codegen.specs.roopl_semantics.Store.{Nil, Name, Head, OfClass, OfInts, OfObjects, State, object_at}
use Rattle.object_codegen.specs.roopl_semantics.Store.{is_zero}
use Rattle.object_codegen.specs.roopl_semantics.Store.{zero_value, zero_values}
use Rattle.object_codegen.specs.roopl_semantics.Value.{Cell, read, cell_of}
use Rattle.object_codegen.specs.roopl_semantics.Elements.{index_elements, own_element, share_array}
use Rattle.object_codegen.specs.roopl_semantics.Execution.{exec, order_of_cells, is_of_class, all_zero, freed}
use Rattle.object_codegen.specs.meaning_sound.Plain.{PlaceHasWords}
use Rattle.object_codegen.specs.meaning_sound.Sound.{head_of, head_named, head_fits, named_fits, is_of_kind, cell_kinds}
use Rattle.object_codegen.specs.meaning_sound.Sound.{cell_kind}
use Rattle.object_codegen.proofs.meaning_sound_laws.Cells.{read_fits}
use Rattle.object_codegen.proofs.meaning_sound_laws.Classes.{KnowsClasses}
use Rattle.object_codegen.proofs.meaning_sound_laws.Makes.{NewClass, new_class, no_int_takes, class_is_inside}
use Rattle.object_codegen.proofs.meaning_sound_laws.Makes.{zeros_fit, zeros_hold_none}
use Rattle.object_codegen.proofs.meaning_sound_laws.Stores.{live_object, differs}
use Rattle.refine_expressions.proofs.meaning_inverse_laws.Heap.{zeros_are_zero}
use Rattle.refine_expressions.proofs.meaning_inverse_laws.Making.{MakeParts, make_parts, made_place, made_apart}
use Rattle.refine_expressions.proofs.meaning_inverse_laws.Making.{gone_place, gone_apart}
use Rattle.refine_expressions.proofs.meaning_inverse_laws.Steady.{avoids_of}
use Rattle.object_codegen.specs.refine_form.Form.{Scope, StmtLaw}
use Rattle.object_codegen.specs.refine_form.Frames.{Under}
use Rattle.object_codegen.specs.refine_form.Stands.{shape_of, extra, Reads, Stands}
use Rattle.object_codegen.specs.refine_form.Worlds.{Place, world_of, rates_of}
use Rattle.object_codegen.specs.refine_form.declared.spot.Spot.{Spot}
use Rattle.object_codegen.specs.expr_uncompute.Code.{place_words}
use Rattle.object_codegen.specs.register_expressions.Laws.{bases_of}
use Rattle.object_codegen.specs.expr_uncompute.Means.{cell_address, MeansPlace, TellsShares, SameCells}
use Rattle.object_codegen.specs.register_expressions.Number.{lvalue_read, index_of}
use Rattle.object_codegen.specs.expr_uncompute.Promises.{free_at, CanEvaluate}
use Rattle.refine_expressions.specs.refine_calls.Laws.{IsLinked}
use Rattle.refine_expressions.proofs.refine_calls_laws.Bridge.{typed, reads_of}
use Rattle.refine_expressions.proofs.refine_calls_laws.FactsFit.{known as classes_known}
use Rattle.refine_expressions.proofs.refine_calls_laws.MovesFit.{frame_address}
use Rattle.refine_expressions.specs.Typing.{HasFrameSpace, IsPassed, typing_in, visible_spot, free_in_scope}
use Rattle.refine_expressions.proofs.ArraysTold.{tells_shares, index_typed}
use Rattle.refine_expressions.proofs.ExpressionsRead.{means_place, sees_place}
use Rattle.refine_expressions.proofs.FramesWritten.{A, L, R, known, place_kind}
use Rattle.refine_expressions.proofs.SameReadings.{cells_of_place}
use Rattle.refine_expressions.proofs.ValuesFit.{ready, some_counts}
use Rattle.object_codegen.specs.Creations.{NewLaw, created_class, created_fields}
use Rattle.object_codegen.specs.News.{Lacks}
use Rattle.object_codegen.specs.declared.shape.Shape.TheVariants.{Fixed}
use Rattle.object_codegen.proofs.MakeFacts.{made, fresh_cells, same_class, is_full, count_at, is_empty, ObjectStands}
use Rattle.object_codegen.proofs.MakeFacts.{ObjectFacts, TakesBlock, GivesBlock}
use Rattle.object_codegen.proofs.ObjectRows as rows
use Rattle.refine_objects.proofs.CountPlaces.{refers}
use Rattle.object_codegen.proofs.static_layout_laws.Counted.{fields_few}
use Rattle.refine_objects.proofs.Tables.{tables_apart, table_small}
use Rattle.refine_objects.proofs.GoodFrames.{good, context}
use Rattle.refine_objects.proofs.BlocksFit as blocks

module _ (p : Place) (routine : ℕ → Ident → ℕ) (linked : IsLinked p routine) (classes : KnowsClasses p.setting.program)
    (s : Scope) (u : Under) (here : ℕ) (class : Ident) (target : Lvalue)
    (rules : make_rules (typing_in p.setting.program s) (shape_of p.setting.program s) here (AnObject class) target
    ≡ verdict_passed) (target_words : PlaceHasWords target)
    (room : HasFrameSpace p.setting.program s (place_words target))
  where
    abbrev P : Source
    P = p.setting.program

    abbrev Ad : State → ℕ → ℕ
    Ad = A p classes s u

    abbrev Sl : State → ℕ → ℕ
    Sl = L p classes s u

    abbrev Rel : State → Memory → Type 0
    Rel = R p classes s u

    abbrev spot : List ℕ → Spot
    spot = visible_spot P s

    abbrev free : ℕ
    free = free_in_scope P s

    abbrev F : ℕ
    F = frame_address p.setting p.statics u

    -- ---- the class

    parts : MakeParts (typing_in P s) (shape_of P s) (AnObject class) target
    parts = make_parts (typing_in P s) (shape_of P s) here (AnObject class) target rules

    own : NewClass P class parts.type
    own = new_class P class parts.type parts.takes_it

    no_int : is_int parts.type ≡ false
    no_int = no_int_takes (table_of P) (AnObject class) parts.type parts.takes_it

    abbrev number : ℕ
    number = created_class P class

    number_is : created_class P class ≡ own.number
    number_is = ap (λ o. unwrap_or o 0) own.is

    named_number : class_number P class.text ≡ Some (created_class P class)
    named_number = own.is ∙ ap (λ n. Some n) (sym number_is)

    pub number_inside : created_class P class < length P.classes
    number_inside = class_is_inside P class.text (created_class P class) named_number

    fit_head : head_fits P parts.type (OfClass (created_class P class)) ≡ true
    fit_head = subst (λ n. head_fits P parts.type (OfClass n) ≡ true) (sym number_is) own.fit

    abbrev fields : ℕ
    fields = created_fields P class

    pub few_fields : created_fields P class ≤ MOST_FIELDS
    few_fields = fields_few P linked.accepted (created_class P class) number_inside

    abbrev table : ℕ
    table = table_at P (created_class P class)

    table_word : table_at P (created_class P class) < 2 ^ 32
    table_word = table_small P linked.routed.image linked.routed.has (subst (λ (l : List ℕ). length l ≤ MOST_STATICS)
        linked.routed.statics_are
        linked.routed.few) (created_class P class) (let i = number_inside in omega (arith, i))

    abbrev order : ℕ
    order = order_for (HEADER_WORDS + created_fields P class)

    order_small : order_for (HEADER_WORDS + created_fields P class) < 2 ^ 32
    order_small = blocks.order_word (HEADER_WORDS + created_fields P class)

    fresh_long : length (fresh_cells p.setting class) ≡ created_fields P class
    fresh_long = length-map (class_fields P (created_class P class)) (λ (var : Var). zero_value var.kind)

    kinds_long : (n : ℕ) → length (cell_kinds P (OfClass n)) ≡ length (class_fields P n)
    kinds_long n = length-map (class_fields P n) (kind_of_var P)

    fresh_kinds : length (fresh_cells p.setting class) ≡ length (cell_kinds P (OfClass (created_class P class)))
    fresh_kinds = fresh_long ∙ sym (kinds_long (created_class P class))

    order_is : order_for (HEADER_WORDS + created_fields P class)
        ≡ order_of_cells (length (cell_kinds P (OfClass (created_class P class))))
    order_is = ap (λ n. order_for (HEADER_WORDS + n)) (sym (kinds_long (created_class P class)))

    fresh_order : order_of_cells (length (fresh_cells p.setting class))
        ≡ order_for (HEADER_WORDS + created_fields P class)
    fresh_order = ap (λ n. order_for (HEADER_WORDS + n)) fresh_long

    -- the head of an object of the class
    of_class : (head : Head) → is_of_class head (class_number P class.text) ≡ true
        → head ≡ OfClass (created_class P class)
    of_class head e = by head (sym (ap (is_of_class head) named_number) ∙ e)
      where
        by : (head : Head) → is_of_class head (Some (created_class P class)) ≡ true
            → head ≡ OfClass (created_class P class)
        by (OfClass c) q = ap (λ n. OfClass n) (eqb-true c (created_class P class) q)
        by (OfInts l) q = absurd (cc)
        by (OfObjects c l) q = absurd (cc)

    -- and one of another class has another table
    of_other : (kd : Kind) (head : Head) → Rattle.object_codegen.specs.class_rules.Statements.takes (table_of P)
        (AnObject class) kd
        ≡ true → head_fits P kd head ≡ true → is_of_class head (class_number P class.text) ≡ false
        → head_word P head ≢ table_at P (created_class P class)
    of_other kd head takes_it fit e = by (Rattle.object_codegen.specs.class_rules.Table.class_of (table_of P)
        class.text) kd head
        takes_it fit (sym (ap (is_of_class head) named_number) ∙ e)
      where
        by : (o : Option ℕ) (kd : Kind) (head : Head) →
            Rattle.object_codegen.specs.class_rules.Statements.takes_object_of (table_of P)
            o
            kd ≡ true → head_fits P kd head ≡ true → is_of_class head (Some (created_class P class)) ≡ false
            → head_word P head ≢ table_at P (created_class P class)
        by None kd head q f e = absurd (cc)
        by (Some c) kind.Int head q f e = absurd (cc)
        by (Some c) kind.Nil head q f e = absurd (cc)
        by (Some c) kind.IntArray head q f e = absurd (cc)
        by (Some c) (kind.ClassArray d) head q f e = absurd (cc)
        by (Some c) (kind.Class d) (OfClass x) q f e = tables_apart P x (created_class P class)
            (differs x (created_class P class) e)
        by (Some c) (kind.Class d) (OfInts l) q f e = absurd (cc)
        by (Some c) (kind.Class d) (OfObjects x l) q f e = absurd (cc)

    abbrev sharing : State → Bool
    sharing st = share_array P st (own_element target) (index_elements target)

    -- ---- in a state

    module _ (st : State) (m : Memory) (r : Rel st m) where
      abbrev h : Stands p.setting p.statics s u [] st m.cells
      h = r.open_frame

      abbrev rd : Reads p.setting p.statics s u [] st m.cells
      rd = reads_of r.open_frame

      can : CanEvaluate spot free (place_words target) (lvalue_read target) (Null 0) m
      can = subst (λ z. CanEvaluate spot free (place_words target) (lvalue_read target) (Null 0) z)
          (sym (known p classes s u st m r)) (record {
            ready = ready p linked.routed.few classes s u st m.cells rd (place_words target) 0 0 room;
            first = sees_place p.setting p.statics linked.routed.few classes s u st m.cells rd target parts.type
                target_words
                parts.is;
            second = tt;
          })

      means : MeansPlace (Ad st) (Sl st) P st spot (bases_of m) m.cells target
      means = subst (λ z. MeansPlace (Ad st) (Sl st) P st spot (bases_of z) z.cells target)
          (sym (known p classes s u st m r)) (means_place p.setting p.statics linked.routed.few classes s u st m.cells
          rd
          target
          parts.type target_words parts.is)

      tells : TellsShares (Ad st) (Sl st) P st spot (bases_of m) m.cells target (index_of target) (Null 0)
      tells = subst (λ z. TellsShares (Ad st) (Sl st) P st spot (bases_of z) z.cells target (index_of target) (Null 0))
          (sym (known p classes s u st m r))
          (tells_shares p.setting p.statics linked.routed.few classes s u st m.cells rd target parts.type
          (index_of target)
          (Null 0) parts.is (index_typed p.setting p.statics linked.routed.few classes s u st m.cells rd target
          parts.type
          parts.is) (kind.Nil, refl))

      module _ (cell : Cell) (nc : cell_of P st target ≡ Ok cell) where
        abbrev HasKind : Type 0
        HasKind = cell_kind P (shape_of P s) st.store cell ≡ Some parts.type

        has : cell_kind P (shape_of P s) st.store cell ≡ Some parts.type
        has = place_kind p classes s u st m.cells rd target parts.type cell parts.is nc

        stands : (name : ℕ) → read st cell ≡ Name name → ObjectStands p.setting Ad Sl Rel spot free u.object F p.im
            class
            target table fields order st m name
        stands name e =
            let f = refers p.setting p.statics s u st m.cells rd cell parts.type name has e in
            let word = blocks.head_word_is p routine linked classes s u st m r name f in
            let long = blocks.sized p routine linked classes s u st m r name f in
            let fit : named_fits P parts.type (head_named st.store name) ≡ true =
            subst (λ v. is_of_kind P st.store v parts.type ≡ true) e
            (read_fits p.setting (extra u []) (shape_of P s) s.class st cell parts.type
            (typed p.setting p.statics s u [] st m.cells rd) has) in
            let fit_own : head_fits P parts.type (object_at st.store name).head ≡ true =
            sym (ap (named_fits P parts.type) (ap (option_map head_of) (live_object st.store name f.live))) ∙ fit in
            record {
              there = blocks.stands_there p routine linked classes s u st m r name f;
              mark = λ q. word ∙ ap (head_word P) (of_class (object_at st.store name).head q);
              other = λ q z. of_other parts.type (object_at st.store name).head parts.takes_it fit_own q (sym word ∙ z);
              size = λ q. long ∙ ap (λ (x : Head). length (cell_kinds P x)) (of_class (object_at st.store name).head q)
                  ∙ kinds_long (created_class P class);
            }

        -- ---- a new object

        abbrev with_object : State
        with_object = made (length (fresh_cells p.setting class)) (OfClass (created_class P class))
            (fresh_cells p.setting class) cell st

        makes : read st cell ≡ Nil → is_full p.setting (length (fresh_cells p.setting class)) st ≡ false
            → TakesBlock p.setting Ad Sl Rel spot free u.object F p.im st with_object m
            (cell_address (Ad st) (Sl st) cell) 0 order (place_words target) (Fixed table fields)
        makes empty not_full =
            blocks.takes_block p routine linked classes s u st m r cell parts.type has empty
            (OfClass (created_class P class))
            (fresh_cells p.setting class) fit_head
            (λ store. zeros_fit P store (class_fields P (created_class P class)))
            (zeros_hold_none (class_fields P (created_class P class)))
            (zeros_are_zero (class_fields P (created_class P class)))
            tt
            (subst (λ n. is_full p.setting n st ≡ false) fresh_kinds not_full) table_word
            (length (fresh_cells p.setting class)) 0 order (place_words target) (Fixed table fields) fresh_kinds
            order_is
            (sym fresh_long) refl (omega arith) order_small refl

        made_same : sharing st ≡ false → SameCells P st with_object target × (sharing with_object ≡ false)
        made_same unshared =
            let C = context p.setting p.statics linked.routed.few s h.keeps.class_inside u st m.cells h in
            let g = good p.setting p.statics linked.routed.few s h.keeps.class_inside u st m.cells h in (
              cells_of_place P st with_object target (made_place p.setting classes C st g
                  (length (fresh_cells p.setting class)) (OfClass (created_class P class)) (fresh_cells p.setting class)
                  target parts.type cell parts.is nc parts.own (avoids_of P st target (index_elements target)
                  unshared)),
              made_apart p.setting classes C st g (length (fresh_cells p.setting class))
                  (OfClass (created_class P class))
                  (fresh_cells p.setting class) target parts.type cell parts.is nc parts.own unshared,
            )

        lacks : is_full p.setting (length (fresh_cells p.setting class)) st ≡ true
            → Lacks p.im u.object F order (cell_address (Ad st) (Sl st) cell) 0 (Fixed table fields) (free_at free m)
            (place_words target) (most_steps p.setting.limits.heap + 7) m.cells
        lacks full =
            subst (λ o. Lacks p.im u.object F o (cell_address (Ad st) (Sl st) cell) 0 (Fixed table fields)
            (free_at free m) (place_words target) (most_steps p.setting.limits.heap + 7) m.cells) fresh_order
            (blocks.lacks_block p routine linked classes s u st m r cell parts.type has
            (length (fresh_cells p.setting class)) 0 (place_words target) (Fixed table fields) (omega arith)
            (subst (λ o. o < 2 ^ 32) (sym fresh_order) order_small) refl full)

        -- ---- one that goes

        module _ (name : ℕ) (reads : read st cell ≡ Name name) (same : same_class p.setting class st name ≡ true)
            (single : count_at st name ≡ 1) (zeros : is_empty st name ≡ true) where
          head_is : (object_at st.store name).head ≡ OfClass (created_class P class)
          head_is = of_class (object_at st.store name).head same

          frees : GivesBlock p.setting Ad Sl Rel spot free u.object F p.im st (freed p.setting cell name st) m
              (cell_address (Ad st) (Sl st) cell) (Ad st name) 0 order (place_words target) (Fixed table fields)
          frees =
              let f = refers p.setting p.statics s u st m.cells rd cell parts.type name has reads in
              let long = blocks.sized p routine linked classes s u st m r name f in
              let kinds = ap (λ (x : Head). length (cell_kinds P x)) head_is ∙ kinds_long (created_class P class) in
              blocks.gives_block p routine linked classes s u st m r cell parts.type has no_int name reads single zeros
              0
              order (place_words target) (Fixed table fields)
              (ap (λ n. order_for (HEADER_WORDS + n)) (sym kinds)) (sym (long ∙ kinds)) (sym (ap (head_word P) head_is))
              (omega arith) order_small refl

          freed_same : sharing st ≡ false → SameCells P st (freed p.setting cell name st) target
              × (sharing (freed p.setting cell name st) ≡ false)
          freed_same unshared =
              let C = context p.setting p.statics linked.routed.few s h.keeps.class_inside u st m.cells h in
              let g = good p.setting p.statics linked.routed.few s h.keeps.class_inside u st m.cells h in
              let b = blocks.after_given p routine linked classes s u st m r cell parts.type has no_int name reads
              single
              zeros in
              let g' = good p.setting p.statics linked.routed.few s h.keeps.class_inside u
              (freed p.setting cell name st) _
              b.open_frame in (
                cells_of_place P st (freed p.setting cell name st) target
                    (gone_place p.setting classes C st g target parts.type cell parts.is nc name
                    (order_of_cells (length (object_at st.store name).cells)) g' parts.own
                    (avoids_of P st target (index_elements target) unshared)),
                gone_apart p.setting classes C st g target parts.type cell parts.is nc name
                    (order_of_cells (length (object_at st.store name).cells)) g' parts.own unshared,
              )

    pub facts : ObjectFacts p.setting Ad Sl Rel spot free u.object F p.im class target table fields order
    facts = record {
      regs_are = λ st m r. r.regs_are;
      can = can;
      means = means;
      tells = tells;
      refers = λ st m cell r nc. blocks.refers_by p routine linked classes s u st m r cell parts.type
          (has st m r cell nc)
          no_int;
      word = λ st m cell r nc. blocks.word_by p routine linked classes s u st m r cell parts.type (has st m r cell nc);
      stands = λ st m cell name r nc e. stands st m r cell nc name e;
      makes = λ st m cell r nc unshared empty not_full. makes st m r cell nc empty not_full;
      made_same = λ st m cell r nc unshared empty not_full. made_same st m r cell nc unshared;
      lacks = λ st m cell r nc empty full. lacks st m r cell nc full;
      frees = λ st m cell name r nc unshared reads same single zeros. frees st m r cell nc name reads same single zeros;
      freed_same = λ st m cell name r nc unshared reads same single zeros. freed_same st m r cell nc name reads same
          single zeros unshared;
    }

-- the law of a new object
pub new_object_fits : (p : Place) (routine : ℕ → Ident → ℕ) → IsLinked p routine
    → (s : Scope) (at : ℕ) (class : Ident) (target : Lvalue)
    → IsPassed p.setting.program s (New at (AnObject class) target) (place_words target)
    → (q : List Symbol) → NewLaw p.setting.program (visible_spot p.setting.program s)
    (free_in_scope p.setting.program s)
    (AnObject class) target q → StmtLaw (world_of p) s (New at (AnObject class) target) q
new_object_fits p routine linked s at class target ok q law n owes d u =
    let classes = classes_known p.setting.program linked.accepted in
    let fs = facts p routine linked classes s u at class target ok.rules ok.has_words.1 ok.room in
    record {
      does = λ st m r.
          (rows.new_does p.setting (A p classes s u) (L p classes s u) (R p classes s u)
          (visible_spot p.setting.program s)
          (free_in_scope p.setting.program s) u.object (frame_address p.setting p.statics u) p.im class target
          (table_at p.setting.program (created_class p.setting.program class)) (created_fields p.setting.program class)
          (order_for (HEADER_WORDS + created_fields p.setting.program class))
          (rates_of p.setting) (some_counts _) (omega arith) r.open_frame.keeps.grounded.limits.heap_from
          (few_fields p routine linked classes s u at class target ok.rules ok.has_words.1 ok.room) q law fs (suc n)
          d at n (exec p.setting n)).does st m r;
    }

-- and of a deleted one
pub delete_object_fits : (p : Place) (routine : ℕ → Ident → ℕ) → IsLinked p routine
    → (s : Scope) (at : ℕ) (class : Ident) (target : Lvalue)
    → IsPassed p.setting.program s (Delete at (AnObject class) target) (place_words target)
    → (q : List Symbol) → NewLaw p.setting.program (visible_spot p.setting.program s)
    (free_in_scope p.setting.program s)
    (AnObject class) target q → StmtLaw (world_of p) s (Delete at (AnObject class) target) (mirror_cells q)
delete_object_fits p routine linked s at class target ok q law n owes d u =
    let classes = classes_known p.setting.program linked.accepted in
    let fs = facts p routine linked classes s u at class target ok.rules ok.has_words.1 ok.room in
    record {
      does = λ st m r.
          (rows.delete_does p.setting (A p classes s u) (L p classes s u) (R p classes s u)
          (visible_spot p.setting.program s) (free_in_scope p.setting.program s) u.object
          (frame_address p.setting p.statics u) p.im class target
          (table_at p.setting.program (created_class p.setting.program class)) (created_fields p.setting.program class)
          (order_for (HEADER_WORDS + created_fields p.setting.program class))
          (rates_of p.setting) (some_counts _) (omega arith) r.open_frame.keeps.grounded.limits.heap_from
          (few_fields p routine linked classes s u at class target ok.rules ok.has_words.1 ok.room) q law fs (suc n)
          d at n (exec p.setting n)).does st m r;
    }
