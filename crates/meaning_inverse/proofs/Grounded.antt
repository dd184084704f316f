-- The ground of the law of inverses, for programs whose classes are known.
use Rattle.std.proofs.Common.{◌≡◌, ℕ, suc, ◌+◌, ◌<◌, refl, sym, ap, subst, ◌∙◌, arith, true, false, Bool, List, [], ◌∷◌}
use Rattle.std.proofs.Common.{◌++◌, length, map, Some, None, option_map, unwrap_or, slice_get}
use Rattle.meaning_reached.specs.rpp_tree.declared.tree.Ident.{Ident}
use Rattle.meaning_reached.specs.rpp_tree.declared.tree.Var.{Var}
use Rattle.meaning_reached.specs.rpp_tree.Tree.{Expression, Whole, Object as AnObject, Ints, Objects, Statement, Statements, Update}
use Rattle.meaning_reached.specs.rpp_tree.Tree.{Swap, If, From, Construct, Local, New, Delete, Copy, Uncopy, Call, Skip, End, Then}
use Rattle.meaning_reached.specs.rpp_tree.Tree.{Procedure, Source}
use Rattle.meaning_reached.specs.class_rules.declared.kind.Kind.{Kind}
use Rattle.meaning_reached.specs.class_rules.declared.kind.Kind.TheVariants as kind
use Rattle.meaning_reached.specs.class_rules.Table.{table_of}
use Rattle.meaning_reached.specs.class_rules.Classes.{method_named}
use Rattle.meaning_reached.specs.class_rules.Scope.{Typing, Locals}
use Rattle.meaning_reached.specs.class_rules.Expressions.{is_int, type_of, place_type}
use Rattle.meaning_reached.specs.class_rules.Statements.{in_turn, test_rules, check_statements}
use Rattle.meaning_reached.specs.class_rules.Program.{setting_in}
use Rattle.meaning_reached.specs.buddy_book.Place.{Log, count_taken}
use Rattle.meaning_reached.specs.roopl_semantics.Run.{Done}
use Rattle.meaning_reached.specs.roopl_semantics.Store.{Nil, Name, Object, Store, Binding, State, is_nil, object_at}
use Rattle.meaning_reached.specs.roopl_semantics.Value.{Cell, Slot, Part, cell_named, own_class, read}
use Rattle.meaning_reached.specs.roopl_semantics.Execution.{Setting, same_cell, bound, moved_out, moved_back, cells_named, class_of}
use Rattle.meaning_reached.specs.roopl_semantics.Execution.{exec}
use Rattle.meaning_reached.specs.class_rules.Inheritance.{kind_of_var}
use Rattle.meaning_reached.specs.meaning_sound.Sound.{head_of, head_named, is_live, is_of_kind, cell_kinds, cell_kind, Descending}
use Rattle.meaning_reached.proofs.meaning_sound_laws.Lists.{all_inside, all_get}
use Rattle.meaning_reached.proofs.meaning_sound_laws.Stores.{live_object}
use Rattle.meaning_reached.specs.meaning_sound.Sound.{Typed}
use Rattle.meaning_reached.proofs.meaning_sound_laws.Cells.{read_fits, part_of}
use Rattle.meaning_reached.proofs.meaning_sound_laws.Classes.{KnowsClasses}
use Rattle.meaning_reached.proofs.class_rules_laws.PassedRules.{both_passed, handed_on}
use Rattle.meaning_reached.proofs.meaning_sound_laws.Moves.{CellsHave, ApartFrom, AllApart, own_cells_kept, moves_out}
use Rattle.meaning_reached.proofs.meaning_sound_laws.Invocations.{cells_append}
use Rattle.meaning_reached.proofs.meaning_sound_laws.Makes.{copy_parts}
use Rattle.meaning_inverse.proofs.Cells.{IsCell, IsSlot, IsPart}
use Rattle.meaning_inverse.proofs.Later.{IsSound, Later, later_then, later_moved_out, later_returned, later_moved_back}
use Rattle.meaning_inverse.proofs.Later.{frame_names}
use Rattle.meaning_inverse.proofs.Ground.{Ground, CallFacts, Each, AreDistinct, IsLive, is_word, entered, returned}
use Rattle.meaning_inverse.proofs.Ground.{CleanIn}
use Rattle.meaning_inverse.proofs.Moves.{live_moved_out}
use Rattle.meaning_inverse.specs.ArrayLengths.{ArraysHaveElements}
use Rattle.meaning_inverse.proofs.Known.{Context, Checked, Good, word_of_kind, typed_in, clean_of, clean_place_of}
use Rattle.meaning_inverse.proofs.Known.{is_cell}
use Rattle.meaning_inverse.proofs.Known.{are_live, counts_of, placed_of}
use Rattle.meaning_inverse.proofs.Facts.{first_rule, update_facts, swap_facts, copy_facts, uncopy_facts}
use Rattle.meaning_inverse.proofs.Making.{make_parts}
use Rattle.meaning_inverse.proofs.MakeFacts.{new_object_facts, new_ints_facts, new_objects_facts, delete_object_facts}
use Rattle.meaning_inverse.proofs.MakeFacts.{delete_ints_facts, delete_objects_facts, length_typed}
use Rattle.meaning_inverse.proofs.Entries.{Entry, local_entry, local_rules_say, local_typed, construct_entry}
use Rattle.meaning_inverse.proofs.Entries.{element_entry}
use Rattle.meaning_inverse.proofs.Entries.{IsCallIn, own_call, object_call, CallInner, call_inner}
use Rattle.meaning_inverse.specs.InverseLaws.{InverseLeadsBack}
use Rattle.meaning_inverse.proofs.Seen.{Names, Sees}
use Rattle.meaning_inverse.proofs.Undone.{BlockUndone}
use Rattle.meaning_inverse.proofs.Whole.{undo_block, block_leads_back}
use Rattle.meaning_inverse.proofs.ElementsKept.{elements_moved_out, first_checked, rest_checked, good_after}

-- a live name keeps its head
heads_later : (a b : State) (n : ℕ) → IsSound a → Later a b → IsLive a.store n → IsLive b.store n
    → head_named b.store n ≡ head_named a.store n
heads_later a b n sound later la lb =
    let was = later.old n lb.object (sound.drawn n la.object la.there) lb.there in
    ap (option_map head_of) lb.there ∙ ap (λ h. Some h) was.head ∙ sym (ap (option_map head_of) was.there)

live_of : (store : Store) (n : ℕ) → is_live store n ≡ true → IsLive store n
live_of store n h = record { object = object_at store n; there = live_object store n h }

each_apart : (c : Cell) (cells : List Cell) → ApartFrom c cells → Each (λ d. same_cell c d ≡ false) cells
each_apart c [] h = tt
each_apart c (d ∷ cells) h = (h.0, each_apart c cells h.1)

all_distinct : (cells : List Cell) → AllApart cells → AreDistinct cells
all_distinct [] h = tt
all_distinct (c ∷ cells) h = (each_apart c cells h.0, all_distinct cells h.1)

each_typed : (program : Source) (shape : Locals) (store : Store) (P : Cell → Type 0) (kinds : List Kind)
    (cells : List Cell) → CellsHave program shape store kinds cells
    → ((c : Cell) (k : Kind) → cell_kind program shape store c ≡ Some k → P c) → Each P cells
each_typed program shape store P [] [] h f = tt
each_typed program shape store P [] (c ∷ cells) h f = absurd h
each_typed program shape store P (k ∷ kinds) [] h f = absurd h
each_typed program shape store P (k ∷ kinds) (c ∷ cells) h f =
    (f c k h.0, each_typed program shape store P kinds cells h.1 f)

-- two lists of typed cells, of the same types
each_alike : (program : Source) (shape : Locals) (s t : Store) (P : Cell → Type 0) (kinds : List Kind)
    (cells : List Cell) → CellsHave program shape s kinds cells → CellsHave program shape t kinds cells
    → ((c : Cell) (k : Kind) → cell_kind program shape s c ≡ Some k → cell_kind program shape t c ≡ Some k → P c)
    → Each P cells
each_alike program shape s t P [] [] h g f = tt
each_alike program shape s t P [] (c ∷ cells) h g f = absurd h
each_alike program shape s t P (k ∷ kinds) [] h g f = absurd h
each_alike program shape s t P (k ∷ kinds) (c ∷ cells) h g f =
    (f c k h.0 g.0, each_alike program shape s t P kinds cells h.1 g.1 f)

length_names : (frame : List Binding) → length (frame_names frame) ≡ length frame
length_names [] = refl
length_names (b ∷ frame) = ap suc (length_names frame)

length_mapped : {A B : Type 0} (f : A → B) (xs : List A) → length (map f xs) ≡ length xs
length_mapped f [] = refl
length_mapped f (x ∷ xs) = ap suc (length_mapped f xs)

module _ (setting : Setting) (classes : KnowsClasses setting.program) where
  abbrev program : Source
  program = setting.program

  abbrev typing : Context setting → Typing
  typing C = setting_in program (table_of program) C.class

  call_facts : (C : Context setting) (back : Bool) (method : Procedure) (self own : ℕ) (params : List Var)
      (receiver args : List Cell) (kinds : List Kind) (st : State) → Good setting C st
      → IsCallIn setting classes C st method self own params receiver args kinds → length args ≡ length params
      → CallFacts setting (Context setting) (Good setting) (Checked setting) C st back method self receiver args
  call_facts C back method self own params receiver args kinds st g call many =
      record {
        distinct = all_distinct cells call.apart;
        there = each_typed program C.shape st.store (IsCell st) all_kinds cells have
            (λ c k h. is_cell setting classes C st c k t h);
        arity = many ∙ sym (length_mapped (kind_of_var program) params) ∙ ap length (sym call.found.same_types)
            ∙ length_mapped (kind_of_var program) method.params;
        inner = inner.inner;
        good = record {
          sound = inner.sound;
          drawn = record
              { unique = out.sound.unique; drawn = out.sound.drawn; positive = out.sound.positive };
          arrays = elements_moved_out cells st g.arrays;
        };
        typed = inner.checked back;
        still = λ end after cost good later good_after e. each_typed program C.shape end.store
            (IsCell (returned cells st end)) all_kinds cells (have_end end good later)
            (λ c k h. still_cell end good c k h);
        sorts = λ end after cost good later good_after e. each_alike program C.shape end.store after.store
            (λ c. is_word (read (returned cells st end) c) ≡ is_word (read after c)) all_kinds cells
            (have_end end good later) (have_after end after cost good later good_after e)
            (λ c k h h'. sort_mid end good c k h ∙ sym (word_of_kind program after.store (read after c) k
            (read_fits setting C.extra C.shape C.class after c k (typed_in setting classes C after good_after)
            h')));
      }
    where
      cells : List Cell
      cells = receiver ++ args

      all_kinds : List Kind
      all_kinds = kinds ++ map (kind_of_var program) params

      t : Typed setting C.extra C.shape C.class st
      t = typed_in setting classes C st g

      have : CellsHave program C.shape st.store all_kinds cells
      have = cells_append program C.shape st.store kinds (map (kind_of_var program) params) receiver args
          call.receiver_has call.args_have

      inner : CallInner setting classes C method self receiver args st
      inner = call_inner setting classes C method self own params receiver args kinds st call

      out : Later st (moved_out cells st)
      out = later_moved_out cells st g.drawn

      live_self : IsLive st.store st.self
      live_self = (are_live setting classes C st t).self

      heads_end : (end : State) → Good setting inner.inner end → Later (entered method self receiver args st) end
          → head_named end.store st.self ≡ head_named st.store st.self
      heads_end end good later =
          let live_end = live_of end.store st.self (good.sound.lives st.self
          (inner.held_more st.self g.sound.self_held)) in
          let live_mid = live_moved_out cells st st.self live_self in
          heads_later (entered method self receiver args st) end st.self
          (record { unique = out.sound.unique; drawn = out.sound.drawn; positive = out.sound.positive }) later
          live_mid live_end
          ∙ heads_later st (moved_out cells st) st.self g.drawn out live_self live_mid

      have_end : (end : State) → Good setting inner.inner end → Later (entered method self receiver args st) end
          → CellsHave program C.shape end.store all_kinds cells
      have_end end good later = own_cells_kept program C.shape st.store end.store st.self all_kinds cells
          (heads_end end good later) call.owned have

      have_after : (end after : State) (cost : ℕ) → Good setting inner.inner end
          → Later (entered method self receiver args st) end → Good setting C after
          → moved_back cells (map (read st) receiver ++ map (λ binding. binding.value) end.frame)
          (returned cells st end) ≡ Done after cost → CellsHave program C.shape after.store all_kinds cells
      have_after end after cost good later good_after e =
          let mid = later_returned (moved_out cells st) end (bound method.params (map (read st) args)) self
          (1 + st.depth) later in
          let whole = later_then st (moved_out cells st) after out
          (later_then (moved_out cells st) (returned cells st end) after mid
          (later_moved_back cells (map (read st) receiver ++ map (λ binding. binding.value) end.frame)
          (returned cells st end) after cost mid.sound e)) in
          let P : ℕ → Type 0 = λ n. IsLive after.store n in
          own_cells_kept program C.shape st.store after.store st.self all_kinds cells
          (heads_later st after st.self g.drawn whole live_self
          (subst P whole.self (are_live setting classes C after
          (typed_in setting classes C after good_after)).self)) call.owned have

      long_frame : (i : ℕ) → i < length st.frame → i < length (moved_out cells st).frame
      long_frame i h = let a = length_names st.frame in let b = length_names (moved_out cells st).frame in let c =
          ap length out.names in omega arith

      still_cell : (end : State) → Good setting inner.inner end → (c : Cell) (k : Kind)
          → cell_kind program C.shape end.store c ≡ Some k → IsCell (returned cells st end) c
      still_cell end good (Slot i) k h = IsSlot i (long_frame i
          (slot_inside (is_cell setting classes C st (Slot i) k t h)))
        where
          slot_inside : IsCell st (Slot i) → i < length st.frame
          slot_inside (IsSlot j q) = q
      still_cell end good (Part n i) k h =
          let p = part_of program end.store n i k h in
          IsPart n i p.object p.named (all_inside program end.store (cell_kinds program p.object.head) p.object.cells i
          k (good.sound.objects n p.object p.named) p.kind_is)

      sort_mid : (end : State) → Good setting inner.inner end → (c : Cell) (k : Kind)
          → cell_kind program C.shape end.store c ≡ Some k → is_word (read (returned cells st end) c) ≡ is_int k
      sort_mid end good (Slot i) k h =
          let moved = moves_out setting C.extra C.shape C.class all_kinds cells st t have call.apart in
          word_of_kind program (moved_out cells st).store (read (moved_out cells st) (Slot i)) k
          (read_fits setting C.extra C.shape C.class (moved_out cells st) (Slot i) k moved.moved.typed h)
      sort_mid end good (Part n i) k h =
          let p = part_of program end.store n i k h in
          let P : Object → Type 0 = λ o. is_of_kind program end.store (unwrap_or (slice_get o.cells i) Nil) k ≡ true in
          word_of_kind program end.store (read (returned cells st end) (Part n i)) k
          (subst P (sym p.at) (all_get program end.store (cell_kinds program p.object.head) p.object.cells i k
          (good.sound.objects n p.object p.named) p.kind_is))

  clean_all : (C : Context setting) (s : Statement) (st : State) → Checked setting C (Then s End) → Good setting C st
      → CleanIn program st s
  clean_all C (Update at op target value) st h g =
      let t = typed_in setting classes C st g in
      let p = handed_on (place_type (typing C) C.locals target) _ tt
      (first_rule setting C (Update at op target value) h) in
      let v = handed_on (type_of (typing C) C.locals value) _ tt p.goes in (
        clean_place_of setting classes C st target p.value t h.plain.0.0 p.is,
        clean_of setting classes C st value v.value t h.plain.0.1 v.is,
      )
  clean_all C (Swap at left right) st h g =
      let t = typed_in setting classes C st g in
      let l = handed_on (place_type (typing C) C.locals left) _ tt (first_rule setting C (Swap at left right) h) in
      let r = handed_on (place_type (typing C) C.locals right) _ tt l.goes in (
        clean_place_of setting classes C st left l.value t h.plain.0.0 l.is,
        clean_place_of setting classes C st right r.value t h.plain.0.1 r.is,
      )
  clean_all C (If at test taken other after) st h g =
      let t = typed_in setting classes C st g in
      let a = both_passed (test_rules (typing C) C.locals test after) _
      (first_rule setting C (If at test taken other after) h) in
      let x = handed_on (type_of (typing C) C.locals test) _ tt a.0 in
      let y = handed_on (type_of (typing C) C.locals after) _ tt x.goes in (
        clean_of setting classes C st test x.value t h.plain.0.0 x.is,
        clean_of setting classes C st after y.value t h.plain.0.3 y.is,
      )
  clean_all C (From at entry first again exit) st h g =
      let t = typed_in setting classes C st g in
      let a = both_passed (test_rules (typing C) C.locals entry exit) _
      (first_rule setting C (From at entry first again exit) h) in
      let x = handed_on (type_of (typing C) C.locals entry) _ tt a.0 in
      let y = handed_on (type_of (typing C) C.locals exit) _ tt x.goes in (
        clean_of setting classes C st entry x.value t h.plain.0.0 x.is,
        clean_of setting classes C st exit y.value t h.plain.0.3 y.is,
      )
  clean_all C (Construct at class name body end) st h g = tt
  clean_all C (Local at var value body end_var end_value) st h g =
      let t = typed_in setting classes C st g in
      let r = local_typed setting classes C at var value body end_var end_value h in (
        clean_of setting classes C st value r.0 t h.plain.0.0 r.2,
        clean_of setting classes C st end_value r.1 t h.plain.0.2 r.3,
      )
  clean_all C (New at (AnObject class) target) st h g =
      let p = make_parts (typing C) C.locals at (AnObject class) target
      (first_rule setting C (New at (AnObject class) target) h) in
      (tt, clean_place_of setting classes C st target p.type (typed_in setting classes C st g) h.plain.0.1 p.is)
  clean_all C (New at (Ints size) target) st h g =
      let p = make_parts (typing C) C.locals at (Ints size) target (first_rule setting C (New at (Ints size) target) h)
      in (
        clean_of setting classes C st size kind.Int (typed_in setting classes C st g) h.plain.0.0
            (length_typed setting classes C size p.int),
        clean_place_of setting classes C st target p.type (typed_in setting classes C st g) h.plain.0.1 p.is,
      )
  clean_all C (New at (Objects class size) target) st h g =
      let p = make_parts (typing C) C.locals at (Objects class size) target
      (first_rule setting C (New at (Objects class size) target) h) in (
        clean_of setting classes C st size kind.Int (typed_in setting classes C st g) h.plain.0.0
            (length_typed setting classes C size p.int),
        clean_place_of setting classes C st target p.type (typed_in setting classes C st g) h.plain.0.1 p.is,
      )
  clean_all C (Delete at (AnObject class) target) st h g =
      let p = make_parts (typing C) C.locals at (AnObject class) target
      (first_rule setting C (Delete at (AnObject class) target) h) in
      (tt, clean_place_of setting classes C st target p.type (typed_in setting classes C st g) h.plain.0.1 p.is)
  clean_all C (Delete at (Ints size) target) st h g =
      let p = make_parts (typing C) C.locals at (Ints size) target
      (first_rule setting C (Delete at (Ints size) target) h) in (
        clean_of setting classes C st size kind.Int (typed_in setting classes C st g) h.plain.0.0
            (length_typed setting classes C size p.int),
        clean_place_of setting classes C st target p.type (typed_in setting classes C st g) h.plain.0.1 p.is,
      )
  clean_all C (Delete at (Objects class size) target) st h g =
      let p = make_parts (typing C) C.locals at (Objects class size) target
      (first_rule setting C (Delete at (Objects class size) target) h) in (
        clean_of setting classes C st size kind.Int (typed_in setting classes C st g) h.plain.0.0
            (length_typed setting classes C size p.int),
        clean_place_of setting classes C st target p.type (typed_in setting classes C st g) h.plain.0.1 p.is,
      )
  clean_all C (Copy at written source target) st h g =
      let p = copy_parts setting classes (exec setting 0) C.extra C.locals C.shape C.class C.inside C.means at written
      source target (first_rule setting C (Copy at written source target) h) in (
        clean_place_of setting classes C st source p.first (typed_in setting classes C st g) h.plain.0.0 p.source_is,
        clean_place_of setting classes C st target p.second (typed_in setting classes C st g) h.plain.0.1
            p.target_is,
      )
  clean_all C (Uncopy at written source target) st h g =
      let p = copy_parts setting classes (exec setting 0) C.extra C.locals C.shape C.class C.inside C.means at written
      source target (first_rule setting C (Uncopy at written source target) h) in (
        clean_place_of setting classes C st source p.first (typed_in setting classes C st g) h.plain.0.0 p.source_is,
        clean_place_of setting classes C st target p.second (typed_in setting classes C st g) h.plain.0.1
            p.target_is,
      )
  clean_all C (Call at back receiver method args) st h g = tt
  clean_all C (Skip at) st h g = tt

  -- an entry whose state is good
  good_entry : (C : Context setting) (body : Statements) (st inside : State) → Good setting C st
      → inside.store ≡ st.store → inside.log ≡ st.log → Entry setting body inside
      → (inner : Context setting) × Good setting inner inside × Checked setting inner body
  good_entry C body st inside g store log e =
      let P : Store → Type 0 = λ s. ArraysHaveElements s in
      let Q : Store → Log → Type 0 = λ s l. IsSound (record st { store = s; log = l }) in
      let drawn : IsSound (record st { store = inside.store; log = inside.log }) =
      subst (λ s. Q s inside.log) (sym store) (subst (λ l. Q st.store l) (sym log) g.drawn) in (
        e.inner,
        record {
          sound = e.sound;
          drawn = record {
            unique = drawn.unique;
            drawn = drawn.drawn;
            positive = drawn.positive;
          };
          arrays = subst P (sym store) g.arrays;
        },
        e.checked,
      )

  blocks_of_if : (C : Context setting) (at : ℕ) (test : Expression) (taken other : Statements) (after : Expression)
      → Checked setting C (Then (If at test taken other after) End) → Checked setting C taken × Checked setting C other
  blocks_of_if C at test taken other after h =
      let a = both_passed (test_rules (typing C) C.locals test after)
      (in_turn (check_statements (typing C) C.locals taken) (check_statements (typing C) C.locals other))
      (first_rule setting C (If at test taken other after) h) in
      let b = both_passed (check_statements (typing C) C.locals taken) (check_statements (typing C) C.locals other) a.1
      in
      (record { passes = b.0; plain = h.plain.0.1 }, record { passes = b.1; plain = h.plain.0.2 })

  blocks_of_from : (C : Context setting) (at : ℕ) (entry : Expression) (first again : Statements) (exit : Expression)
      → Checked setting C (Then (From at entry first again exit) End)
      → Checked setting C first × Checked setting C again
  blocks_of_from C at entry first again exit h =
      let a = both_passed (test_rules (typing C) C.locals entry exit)
      (in_turn (check_statements (typing C) C.locals first) (check_statements (typing C) C.locals again))
      (first_rule setting C (From at entry first again exit) h) in
      let b = both_passed (check_statements (typing C) C.locals first) (check_statements (typing C) C.locals again) a.1
      in
      (record { passes = b.0; plain = h.plain.0.1 }, record { passes = b.1; plain = h.plain.0.2 })

  own_call_facts : (C : Context setting) (at : ℕ) (back : Bool) (method : Ident) (args : List Ident) (st : State)
      → Checked setting C (Then (Call at back None method args) End) → Good setting C st
      → CallFacts setting (Context setting) (Good setting) (Checked setting) C st back
      (method_named program (own_class st) method.text) st.self [] (cells_named setting st args)
  own_call_facts C at back method args st h g =
      let c = own_call setting classes C at back method args st h g.sound in
      let P : ℕ → Type 0 = λ k. CallFacts setting (Context setting) (Good setting) (Checked setting) C st back
      (method_named program k method.text) st.self [] (cells_named setting st args) in
      subst P (sym c.class_is) (call_facts C back (method_named program c.own method.text) st.self c.own c.params []
      (cells_named setting st args) [] st g c.call (length_mapped
      (λ (name : Ident). cell_named program st name.text) args ∙ c.as_many))

  object_call_facts : (C : Context setting) (at : ℕ) (back : Bool) (name method : Ident) (args : List Ident)
      (st : State) → Checked setting C (Then (Call at back (Some (Whole name)) method args) End) → Good setting C st
      → is_nil (read st (cell_named program st name.text)) ≡ false
      → (self : ℕ) × (read st (cell_named program st name.text) ≡ Name self)
      × CallFacts setting (Context setting) (Good setting) (Checked setting) C st back
      (method_named program (class_of setting st self) method.text) self (cell_named program st name.text ∷ [])
      (cells_named setting st args)
  object_call_facts C at back name method args st h g some =
      let c = object_call setting classes C at back name method args st h g.sound some in
      let P : ℕ → Type 0 = λ k. CallFacts setting (Context setting) (Good setting) (Checked setting) C st back
      (method_named program k method.text) c.self (cell_named program st name.text ∷ [])
      (cells_named setting st args) in (
        c.self,
        c.holds,
        subst P (sym c.class_is) (call_facts C back (method_named program c.own method.text) c.self
            c.own c.params (cell_named program st name.text ∷ []) (cells_named setting st args)
            (kind.Class c.static ∷ []) st g c.call (length_mapped (λ (name : Ident). cell_named program st name.text)
            args ∙ c.as_many)),
      )

  -- the ground of the law
  pub grounded : Ground setting
  grounded =
      record {
        Context = Context setting;
        Good = λ C st. Good setting C st;
        Typed = λ C body. Checked setting C body;
        sound = λ C st g. g.drawn;
        live = λ C st g. are_live setting classes C st (typed_in setting classes C st g);
        keeps = λ C n body st end cost h g e. good_after setting classes C n body st end cost h g e;
        rest = λ C first rest h. rest_checked setting C first rest h;
        alone = λ C first rest h. first_checked setting C first rest h;
        clean = λ C first st h g. clean_all C first st h g;
        update = λ C at op target value st cell v h g e f apart. update_facts setting classes C at op target value st
            cell v h g e f apart;
        swap = λ C at left right st a b h g e f apart. swap_facts setting classes C at left right st a b h g e f apart;
        branches = λ C at test taken other after h. blocks_of_if C at test taken other after h;
        turns = λ C at entry first again exit h. blocks_of_from C at entry first again exit h;
        local = λ C at var value body end_var end_value st v h g is. good_entry C body st _ g refl refl
            (local_entry setting classes C at var value body end_var end_value st v h g.sound is);
        local_words = λ C at var value body end_var end_value h. local_rules_say setting classes C at var value body
            end_var end_value h;
        construct = λ C at class name body end st h g. good_entry C _ st _ g refl refl
            (construct_entry setting classes C at class name body end st h g.sound);
        element = λ C at back name index method args st h g. good_entry C _ st _ g refl refl
            (element_entry setting classes C at back name index method args st h g.sound);
        call_own = λ C at back method args st h g deep. own_call_facts C at back method args st h g;
        call = λ C at back name method args st h g some deep. object_call_facts C at back name method args st h g some;
        copy = λ C at written source target st a b h g e f apart some none. copy_facts setting classes C at written
            source target st a b h g e f apart some;
        uncopy = λ C at written source target st a b h g e f apart some same differ. uncopy_facts setting classes C at
            written source target st a b h g e f apart some;
        counts = λ C st g c name object e is. counts_of setting classes C st g c name object e is;
        placed = λ C st g. placed_of setting classes C st g;
        new_object = λ C at class target st cell h g e apart nil. new_object_facts setting classes C at class target st
            cell h g e apart;
        new_ints = λ C at size target st cell v h g e f nil. new_ints_facts setting classes C at size target st cell v h
            g e f;
        new_objects = λ C at class size target st cell v h g e f nil. new_objects_facts setting classes C at class size
            target st cell v h g e f;
        delete_object = λ C at class target st cell h g e apart some end. delete_object_facts setting classes C at class
            target st cell h g e apart some end;
        delete_ints = λ C at size target st cell v h g e f some end. delete_ints_facts setting classes C at size target
            st cell v h g e f some end;
        delete_objects = λ C at class size target st cell v h g e f some end. delete_objects_facts setting classes C at
            class size target st cell v h g e f some end;
      }

  -- the ground of the law, for laws above: checked blocks are typed in it, states that are good are good in it, and the
  -- names of good states descend
  pub record CheckedGround : Type 1 where
    pub ground : Ground setting
    pub context : Context setting → ground.Context
    pub typed : (C : Context setting) (body : Statements) → Checked setting C body → ground.Typed (context C) body
    pub good : (C : Context setting) (st : State) → Good setting C st → ground.Good (context C) st
    pub fresh : (C : ground.Context) (st : State) → ground.Good C st → Descending (2 + count_taken st.log) st.store

  pub checked_ground : CheckedGround
  unfolding grounded
  checked_ground = record {
    ground = grounded;
    context = λ C. C;
    typed = λ C body h. h;
    good = λ C st g. g;
    fresh = λ C st g. g.sound.fresh;
  }

  -- the inverse of a checked block leads back from where the block led from a good state
  pub leads_back_from : (C : Context setting) (n : ℕ) (body : Statements) (a b : State) (c : ℕ) → Checked setting C body
      → Good setting C a → exec setting n body a ≡ Done b c → InverseLeadsBack setting body a b c
  unfolding grounded
  leads_back_from C n body a b c checked good e = block_leads_back setting grounded C n body a b c checked good e

  -- a checked block is undone from every state that its end is seen as
  pub undone_from : (C : Context setting) (n : ℕ) (body : Statements) (a b : State) (c : ℕ) → Checked setting C body
      → Good setting C a → exec setting n body a ≡ Done b c → (f : Names) (b' : State) → Sees setting.limits.heap f b b'
      → BlockUndone setting body f a b b' c
  unfolding grounded
  undone_from C n body a b c checked good e f b' sees = undo_block setting grounded n C body a b c checked good e f b'
      sees
