-- A heap has no more cells of objects and arrays than words: so a name is held by few cells, and
-- its count is small.
use Rattle.std.proofs.Common.{◌≡◌, ◌≢◌, ◌∙◌, sym, ap, subst, refl, ℕ, ◌+◌, ◌*◌, ◌^◌, ◌<◌, ◌≤◌, Bool, true, false, List}
use Rattle.std.proofs.Common.{[], ◌∷◌, ◌++◌, map, length, Some, arith}
use Rattle.std.proofs.lemmas.List.{length-map}
use Rattle.std.specs.Prelude.{nat_eq, slice_index, if◌then◌else◌}
use Rattle.std.specs.Option.{unwrap_or, option_map}
use Rattle.object_codegen.specs.code_conventions.declared.memory.TheConstants.{HEADER_WORDS, OBJECT_WORD}
use Rattle.object_codegen.specs.buddy_book.Place.{Log, Placing, count_taken}
use Rattle.object_codegen.specs.buddy_book.Shown.{TakenBlocks, order_in, without_taken, size_of, taken_weight}
use Rattle.object_codegen.proofs.buddy_book_laws.Requests.{order_in-without_other}
use Rattle.object_codegen.proofs.buddy_book_laws.StoredLaws.{two_power}
use Rattle.object_codegen.proofs.buddy_book_laws.Table.{taken_weight-without}
use Rattle.object_codegen.specs.roopl_semantics.Store.{Value, Word, Nil, Name, Object, Store, State, main_name, object_named}
use Rattle.object_codegen.specs.roopl_semantics.Store.{object_at, no_object}
use Rattle.object_codegen.specs.roopl_semantics.Laws.{one_if_name, holders, holders_among}
use Rattle.object_codegen.specs.roopl_semantics.Execution.{Setting, order_of_cells}
use Rattle.object_codegen.specs.meaning_sound.Sound.{head_of, head_named, cell_kinds, AllFit, Descending, entry_name, bound_value, held}
use Rattle.object_codegen.specs.meaning_sound.Sound.{IsPlaced}
use Rattle.object_codegen.proofs.meaning_sound_laws.Lists.{all_length}
use Rattle.object_codegen.proofs.meaning_sound_laws.Regions.{BlocksDescend, EntriesAre, NotAt, block_apart, room_of, blocks_descend}
use Rattle.object_codegen.proofs.meaning_sound_laws.Regions.{entries_are}
use Rattle.object_codegen.proofs.meaning_sound_laws.Stores.{here, there, other_number, same_number, below_bound, live_named}
use Rattle.object_codegen.proofs.refine_frame_laws.Memory.{main_cells}
use Rattle.object_codegen.specs.refine_form.Form.{Scope}
use Rattle.object_codegen.specs.refine_form.Frames.{CallerFrame, Under, CallersStand}
use Rattle.object_codegen.specs.refine_form.Stands.{shape_of, extra, below_held, receiver_held, main_held, setup, Reads}
use Rattle.refine_expressions.proofs.refine_calls_laws.Bridge.{typed}
use Rattle.object_codegen.specs.pisa_isa.declared.image.TheConstants.{MOST_STATICS}

-- ---- how often values hold a name

one_most : (name : ℕ) (v : Value) → one_if_name name v ≤ 1
one_most name (Word w) = omega arith
one_most name Nil = omega arith
one_most name (Name n) = by (nat_eq n name)
  where
    by : (b : Bool) → (if b then 1 else 0) ≤ 1
    by true = omega arith
    by false = omega arith

among_most : (name : ℕ) (vs : List Value) → holders_among name vs ≤ length vs
among_most name [] = omega arith
among_most name (v ∷ vs) = let a = one_most name v in let b = among_most name vs in omega (arith, a, b)

-- ---- the cells of a store

abbrev cells_in : Store → ℕ
cells_in [] = 0
cells_in ((n, object) ∷ store) = length object.cells + cells_in store

holders_most : (name : ℕ) (store : Store) → holders name store ≤ cells_in store
holders_most name [] = omega arith
holders_most name ((n, object) ∷ store) = let a = among_most name object.cells in let b = holders_most name store in
    omega (arith, a, b)

-- the blocks of these entries have the same orders in two tables
abbrev SameOrders : TakenBlocks → TakenBlocks → List (ℕ × ℕ) → Type 0
SameOrders taken other [] = Unit {0}
SameOrders taken other ((n, b) ∷ rest) = (order_in other b ≡ order_in taken b) × SameOrders taken other rest

orders_same : (taken : TakenBlocks) (blocks : List (ℕ × ℕ)) → SameOrders taken taken blocks
orders_same taken [] = tt
orders_same taken ((n, b) ∷ rest) = (refl, orders_same taken rest)

orders_without : (taken other : TakenBlocks) (block : ℕ) (rest : List (ℕ × ℕ)) → NotAt block rest
    → SameOrders taken other rest → SameOrders taken (without_taken block other) rest
orders_without taken other block [] h k = tt
orders_without taken other block ((n, b) ∷ rest) h k =
    (order_in-without_other block b other h.0 ∙ k.0, orders_without taken other block rest h.1 k.1)

-- what a part of a store determines, the whole determines
abbrev IsPartOf : Store → Store → Type 0
IsPartOf store part = (m : ℕ) (o : Object) → object_named part m ≡ Some o → object_named store m ≡ Some o

part_less : (store part : Store) (bound n : ℕ) (o : Object) → Descending bound ((n, o) ∷ part)
    → IsPartOf store ((n, o) ∷ part) → IsPartOf store part
part_less store part bound n o d h m x q =
    let l = below_bound n part m d.1 (live_named part m x q) in
    h m x (there n m o part (other_number n m (λ e. omega (arith, e, l))) ∙ q)

module _ (setting : Setting) (store : Store) (log : Log) (p : IsPlaced setting store log)
    (objects : (name : ℕ) (object : Object) → object_named store name ≡ Some object
    → AllFit setting.program store (cell_kinds setting.program object.head) object.cells) where
  abbrev main_size : ℕ
  main_size = length (object_at store main_name).cells

  room_most : (n w x y t : ℕ) → HEADER_WORDS + n ≤ w → x ≡ w + y → t ≤ main_size + y → n + t ≤ main_size + x
  room_most n w x y t a b c = omega (arith, a, b, c)

  few_in : (bound top : ℕ) (part : Store) (blocks : List (ℕ × ℕ)) (taken : TakenBlocks)
      → map entry_name part ≡ map entry_name blocks ++ main_name ∷ [] → Descending bound part → BlocksDescend top blocks
      → EntriesAre store p.at.blocks blocks → IsPartOf store part → SameOrders p.taken taken blocks
      → cells_in part ≤ main_size + taken_weight size_of taken
  few_in bound top [] [] taken e d b a h s = absurd (cc)
  few_in bound top [] ((n, x) ∷ blocks) taken e d b a h s = absurd (cc)
  few_in bound top ((m, o) ∷ y ∷ part) [] taken e d b a h s = absurd (cc)
  few_in bound top ((m, o) ∷ []) [] taken e d b a h s =
      let same : m ≡ main_name = cc in
      let is : object_named store m ≡ Some o = h m o (here m m o [] (same_number m)) in
      let at : object_at store main_name ≡ o = ap (λ z. unwrap_or (object_named store z) no_object) (sym same)
      ∙ ap (λ z. unwrap_or z no_object) is in
      let size = ap (λ (z : Object). length z.cells) at in
      omega (arith, size)
  few_in bound top ((m, o) ∷ part) ((n, x) ∷ blocks) taken e d b a h s =
      let same : m ≡ n = cc in
      let rest : map entry_name part ≡ map entry_name blocks ++ main_name ∷ [] = cc in
      let no_main : n ≢ main_name = (let l = b.1 in λ z. omega (arith, l, z)) in
      let is : object_named store m ≡ Some o = h m o (here m m o part (same_number m)) in
      let is_n : object_named store n ≡ Some o = ap (object_named store) (sym same) ∙ is in
      let head_is : head_named store n ≡ Some o.head = ap (option_map head_of) is_n in
      let order = order_of_cells (length (cell_kinds setting.program o.head)) in
      let room = room_of setting store log p n o.head head_is no_main in
      let long = all_length setting.program store (cell_kinds setting.program o.head) o.cells (objects n o is_n) in
      let there : order_in taken x ≡ Some order = s.0 ∙ ap (order_in p.taken) (sym a.1)
      ∙ p.orders n o.head head_is no_main in
      let w = taken_weight-without size_of x order taken there in
      let apart : NotAt x blocks = subst (λ z. NotAt z blocks) a.1
      (block_apart setting store log p n n blocks a.0 b.1 (omega arith) b.2 a.2) in
      let r = few_in m n part blocks (without_taken x taken) rest d.1 b.2 a.2 (part_less store part bound m o d h)
      (orders_without p.taken taken x blocks apart s.1) in
      room_most (length o.cells) (2 ^ order) (taken_weight size_of taken) (taken_weight size_of (without_taken x taken))
      (cells_in part) (subst (λ k. HEADER_WORDS + k ≤ 2 ^ order) (sym long) room) w r

  -- no more cells than those of the main object, and a heap of words
  few_cells : Descending (2 + count_taken log) store → cells_in store ≤ main_size + 2 ^ setting.limits.heap
  few_cells fresh =
      let bound = 2 + count_taken log in
      let few = few_in bound bound store p.at.blocks p.taken p.names fresh
      (blocks_descend setting store log bound p fresh) (entries_are setting store log bound p fresh) (λ m o q. q)
      (orders_same p.taken p.at.blocks) in
      let total = p.kept.balanced size_of (λ block size. omega arith) in
      omega (arith, few, total)

-- ---- the frames below

module _ (setting : Setting) (statics : List ℕ) where
  receiver_most : (name self : ℕ) (put_by : List ℕ) → receiver_held name self put_by ≤ 1
  receiver_most name self put_by = by (nat_eq (slice_index put_by OBJECT_WORD) 0)
    where
      by : (b : Bool) → (if b then 0 else one_if_name name (Name self)) ≤ 1
      by true = omega arith
      by false = one_most name (Name self)

  main_most : (name : ℕ) → main_held name ≤ 1
  main_most name = by (nat_eq name main_name)
    where
      by : (b : Bool) → (if b then 1 else 0) ≤ 1
      by true = omega arith
      by false = omega arith

  below_most : (name : ℕ) (at : Placing) (store : Store) (callers : List CallerFrame)
      → CallersStand setting statics at store callers → below_held name callers ≤ 49 * length callers
  below_most name at store [] h = omega arith
  below_most name at store (c ∷ callers) h =
      let a = among_most name (map bound_value c.frame) in
      let b = length-map c.frame bound_value in
      let d = receiver_most name c.self c.put_by in
      let e = below_most name at store callers h.3 in
      let f = h.2 in
      omega (arith, a, b, d, e, f)

  -- an object id has few references
  pub holders_few : (s : Scope) (u : Under) (st : State) (cells : List ℕ) → length statics ≤ MOST_STATICS
      → Reads setting statics s u [] st cells → (name : ℕ) → held name st + extra u [] name < 2000000
  holders_few s u st cells few h name =
      let t = typed setting statics s u [] st cells h in
      let a = holders_most name st.store in
      let b = few_cells setting st.store st.log h.keeps.placed h.keeps.objects h.keeps.fresh in
      let c = main_cells (setup setting statics) (extra u []) (shape_of setting.program s) s.class st t h.keeps.grounded
      in
      let room = h.keeps.grounded.room in
      let big = two_power setting.limits.heap h.keeps.grounded.limits.heap_to in
      let small : 2 ^ 20 ≡ 1048576 = refl in
      let deep = h.keeps.grounded.limits.deep_to in
      let d = among_most name (map bound_value st.frame) in
      let e = length-map st.frame bound_value in
      let f = h.frame.few in
      let g = main_most name in
      let i = receiver_most name u.self u.put_by in
      let j = below_most name h.frame.at st.store u.callers h.frame.callers_stand in
      let k = h.frame.depth_is in
      let l = h.frame.in_depth in
      omega (arith, a, b, c, few, room, big, small, deep, d, e, f, g, i, j, k, l)
