-- Updates of a place by a value, and swaps of two places.
use Rattle.std.proofs.Common.{◌≡◌, ℕ, ◌+◌, ◌^◌, ◌<◌, Bool, true, false, List, [], ◌∷◌, ◌++◌, length, length-set, refl}
use Rattle.std.proofs.Common.{sym, ap, ◌∙◌, subst, arith}
use Rattle.std.specs.Prelude.{slice_index, slice_set, ◌||◌, if◌then◌else◌, Ok, Err}
use Rattle.std.proofs.lemmas.List.{get_or-set_same, set-set}
use Rattle.register_expressions.specs.rpp_tree.declared.tree.UpdateOp.{UpdateOp}
use Rattle.register_expressions.specs.rpp_tree.declared.tree.UpdateOp.TheVariants as update
use Rattle.register_expressions.specs.rpp_tree.declared.tree.Ident.{Ident}
use Rattle.register_expressions.specs.rpp_tree.Tree.{Expression, Number, Null, Variable, Element, Binary, Lvalue, Whole, Item}
use Rattle.register_expressions.specs.pisa_isa.Machine.{Memory}
use Rattle.register_expressions.specs.code_conventions.declared.registers.TheConstants.{AMOUNT, CONTENT, FIRST_WORD, OTHER_PLACE, PLACE}
use Rattle.register_expressions.specs.code_conventions.declared.registers.TheConstants.{RIGHT, SECOND_WORD}
use Rattle.register_expressions.specs.paired_code.declared.part.Symbol.{Symbol}
use Rattle.register_expressions.specs.roopl_semantics.Operators.{updated}
use Rattle.register_expressions.specs.refine_form.declared.spot.Spot.{Spot}
use Rattle.register_expressions.specs.Code.{around, words, exch}
use Rattle.expr_uncompute.specs.Code.{update_cell, place_words, place_cells, fetch_cells, apart_cells, both_apart_cells}
use Rattle.expr_uncompute.specs.Code.{update_middle, four_exchanges, swap_middle, found_update_cells, update_cells}
use Rattle.expr_uncompute.specs.Code.{found_swap_cells, swap_cells, held_update_cells, operated_update_cells}
use Rattle.expr_uncompute.specs.Code.{near_place_cells, near_update_cells, item_update_cells}
use Rattle.register_expressions.specs.Code.{base_of, addi}
use Rattle.expr_uncompute.specs.Code.{near_swap_cells}
use Rattle.register_expressions.specs.code_scope.Visible.{offset_of}
use Rattle.register_expressions.specs.Held.{need, has_element, is_opened_once, is_near, is_near_index}
use Rattle.register_expressions.specs.Number.{Bases, spot_address, number, word_of, element_at, lvalue_read, index_of}
use Rattle.register_expressions.specs.Number.{place_address, reads_array, update_shares, swap_shares, Sees, Same}
use Rattle.register_expressions.specs.Number.{SamePlace}
use Rattle.expr_uncompute.specs.Laws.{swapped_at}
use Rattle.expr_uncompute.specs.Steps.{place_steps, fetch_steps, apart_steps, both_apart_steps, update_steps}
use Rattle.register_expressions.specs.Steps.{around_steps, held_steps}
use Rattle.expr_uncompute.specs.Steps.{found_update_steps, found_swap_steps, swap_steps, operated_update_steps}
use Rattle.expr_uncompute.specs.Steps.{near_update_steps, item_update_steps, near_swap_steps}
use Rattle.register_expressions.proofs.HeldBounds.{need_least, neither_left, neither_right, once_few, near_few}
use Rattle.register_expressions.proofs.HeldBounds.{near_index_few}
use Rattle.expr_uncompute.proofs.HeldUpdates.{no_fault, held_update_goes, near_update_goes, near_update_traps}
use Rattle.expr_uncompute.proofs.HeldUpdates.{held_prepared}
use Rattle.register_expressions.proofs.Opened.{is_number}
use Rattle.register_expressions.proofs.Goes.{Goes, Traps, TrapsBoth, goes_seq, goes_cons, goes_to, goes_around}
use Rattle.register_expressions.proofs.Goes.{goes_xor, goes_add, goes_sub, goes_exch, traps_first, traps_then}
use Rattle.register_expressions.proofs.Goes.{traps_more, traps_around, both_more}
use Rattle.register_expressions.proofs.Reading.{moved}
use Rattle.expr_uncompute.proofs.Standing.{there_goes}
use Rattle.register_expressions.proofs.Scratch.{keeping, mem}
use Rattle.register_expressions.proofs.Numbers.{Agree, AllWords, number_same, number_word, element_address_same}
use Rattle.register_expressions.proofs.Numbers.{sees_same}
use Rattle.expr_uncompute.proofs.Stored.{stored, stored_length, stored_below, same_number}
use Rattle.expr_uncompute.proofs.KeptApart.{shares_same, index_seen, swap_shares_same, apart_goes, apart_traps}
use Rattle.expr_uncompute.proofs.KeptApart.{both_apart_go, both_apart_traps}
use Rattle.expr_uncompute.proofs.Leaves.{number_goes, variable_goes}
use Rattle.expr_uncompute.proofs.Exchanged.{four_swap, spots_go, variable_first, variable_second}
use Rattle.register_expressions.proofs.Operators.{operands}
use Rattle.register_expressions.proofs.Ways.{ok_is, inside_of}
use Rattle.expr_uncompute.proofs.Prepare.{PartsDone, stored_words, parts_done}
use Rattle.expr_uncompute.proofs.PlaceLaws.{FitPlace, placed, near_goes, near_traps, place_points, other_points}
use Rattle.expr_uncompute.proofs.PlaceLaws.{place_goes, place_traps, fetch_goes, fetch_traps}
use Rattle.expr_uncompute.proofs.Written.{FitFrom, place_fits, value_fits, other_fits, placed_below, placed_length}
use Rattle.expr_uncompute.proofs.Written.{placed_words, placed_written, filled, filled_written, both_placed}
use Rattle.expr_uncompute.proofs.Written.{both_written, write_one, write_two}

no_truth : false ≡ true → ⊥
no_truth e = cc

-- ---- the middle of an update

module _ (b : Bases) (f : ℕ → ℕ) (v a : ℕ) where
  abbrev put : ℕ → List ℕ → Memory
  put z ws = mem b f (record (keeping v a 0) { content = z }) ws

  alter : (op : UpdateOp) (x : ℕ) (ws : List ℕ) → x < 2 ^ 32 → v < 2 ^ 32
      → Goes (update_cell op CONTENT AMOUNT ∷ []) 1 (mem b f (record (keeping v a 0) { content = x }) ws)
      (mem b f (record (keeping v a 0) { content = updated op x v }) ws)
  alter update.Add x ws h k = goes_add _ (λ z. put z ws) x v h k refl (omega arith) (λ z. refl) (λ z. refl)
  alter update.Sub x ws h k = goes_sub _ (λ z. put z ws) x v h k refl (omega arith) (λ z. refl) (λ z. refl)
  alter update.Xor x ws h k = goes_xor _ (λ z. put z ws) x v refl (omega arith) (λ z. refl) (λ z. refl)

  pub update_mid : (op : UpdateOp) (x : ℕ) (ys : List ℕ) → a < length ys → slice_index ys a ≡ x → x < 2 ^ 32
      → v < 2 ^ 32
      → Goes (exch CONTENT PLACE ∷ update_cell op CONTENT AMOUNT ∷ exch CONTENT PLACE ∷ []) 3
      (mem b f (keeping v a 0) ys) (mem b f (keeping v a 0) (slice_set ys a (updated op x v)))
  update_mid op x ys h e xw vw =
      let ws : List ℕ = slice_set ys a 0 in
      let y : ℕ = updated op x v in
      let h' : a < length ws = rw (length-set ys a 0) h in
      goes_cons (goes_to refl refl (ap (λ z. put z ws) e) (goes_exch _ put a 0 ys h refl (omega arith) (λ z zs. refl)
      (λ z zs. refl)))
      (goes_cons (alter op x ws xw vw)
      (goes_to refl refl (ap (λ z. put z (slice_set ws a y)) (get_or-set_same ys a 0 0 h)
      ∙ ap (put 0) (set-set ys a 0 y)) (goes_exch _ put a y ws h' refl (omega arith) (λ z zs. refl)
      (λ z zs. refl))))

-- ---- the middle of a swap

module _ (b : Bases) (f : ℕ → ℕ) (p q : ℕ) where
  abbrev both : (x y : ℕ) → List ℕ → Memory
  both x y ws = mem b f (record (keeping 0 p q) { first = x; second = y }) ws

  pub swap_mid : (ys : List ℕ) → p < length ys → q < length ys
      → Goes (four_exchanges PLACE OTHER_PLACE) 4 (mem b f (keeping 0 p q) ys)
      (mem b f (keeping 0 p q) (swapped_at p q ys))
  swap_mid ys h k = four_swap both p q (exch FIRST_WORD PLACE) (exch SECOND_WORD OTHER_PLACE) (exch SECOND_WORD PLACE)
      (exch FIRST_WORD OTHER_PLACE)
      (λ x y ws l. goes_exch _ (λ z zs. both z y zs) p x ws l refl (omega arith) (λ z zs. refl) (λ z zs. refl))
      (λ x y ws l. goes_exch _ (λ z zs. both x z zs) q y ws l refl (omega arith) (λ z zs. refl) (λ z zs. refl))
      (λ x y ws l. goes_exch _ (λ z zs. both x z zs) p y ws l refl (omega arith) (λ z zs. refl) (λ z zs. refl))
      (λ x y ws l. goes_exch _ (λ z zs. both z y zs) q x ws l refl (omega arith) (λ z zs. refl) (λ z zs. refl)) ys h k

-- ---- whole statements

module _ (spot : List ℕ → Spot) (free : ℕ) (b : Bases) where
  abbrev low : ℕ
  low = b.frame + free

  pub place_low : (target : Lvalue) (a : ℕ) (zs : List ℕ) → Sees spot b low zs (lvalue_read target)
      → place_address spot b zs target ≡ Ok a → a < low
  place_low (Whole name) a zs s n = let e = ok_is n in omega arith
  place_low (Item name index) a zs s n =
      let k = inside_of zs (word_of spot b zs name.text) (number spot b zs index) a n in
      let block = s.1.room k.array_is in
      let below = k.below in
      let at = k.at in
      omega arith

  module _ (f : ℕ → ℕ) (target : Lvalue) (e : Expression) where
    -- the address in `PLACE` and the value in `AMOUNT`
    pub found_goes : (zs : List ℕ) (a v : ℕ) → FitFrom spot free b target (words e) zs → Sees spot b low zs e
        → place_address spot b zs target ≡ Ok a → number spot b zs e ≡ Ok v
        → Goes (place_cells spot free target 0 PLACE ++ fetch_cells spot free e (place_words target) AMOUNT)
        (place_steps target + fetch_steps e) (mem b f (keeping 0 0 0) zs)
        (mem b f (keeping v a 0) (filled spot free b target e zs))
    found_goes zs a v h s na nv =
        let zs1 : List ℕ = placed spot free b target 0 zs in
        goes_seq (place_goes spot free b PLACE f 0 0 0 0 a 0 a (place_points spot free b f 0 0 a) 0 zs target
        (place_fits spot free b target (words e) zs h) na)
        (fetch_goes spot free b f a 0 e (place_words target) zs1 (value_fits spot free b target e zs h s) v
        (number_same spot b low zs zs1 (placed_below spot free b target zs) e s ∙ nv))

    -- what holds for the cells then
    record Filled (zs ys : List ℕ) : Type 0 where
      all : AllWords ys
      count : length ys ≡ length zs
      below : Agree low zs ys

    filled_is : (zs : List ℕ) → FitFrom spot free b target (words e) zs → Sees spot b low zs e
        → Filled zs (filled spot free b target e zs)
    filled_is zs h s =
        let d : PartsDone spot free b e (place_words target) (placed spot free b target 0 zs) =
        parts_done spot free b e (place_words target) (placed spot free b target 0 zs)
        (value_fits spot free b target e zs h s) in
        record {
          all = d.all;
          count = d.count ∙ placed_length spot free b target zs;
          below = λ a l. d.below a l
              ∙ placed_below spot free b target zs a l;
        }

    -- no array is shared, and nothing changes
    apart_goes_on : (zs : List ℕ) (a v : ℕ) → FitFrom spot free b target (words e) zs → Sees spot b low zs e
        → update_shares spot b zs target e ≡ false
        → Goes (apart_cells spot target (index_of target) e) (apart_steps target (index_of target) e)
        (mem b f (keeping v a 0) (filled spot free b target e zs))
        (mem b f (keeping v a 0) (filled spot free b target e zs))
    apart_goes_on zs a v h s apart =
        let ys : List ℕ = filled spot free b target e zs in
        let k = filled_is zs h s in
        let fits = h.fits in
        let small = h.small in
        let i = index_seen spot b low target zs h.sees in
        apart_goes spot b low f v a 0 ys (let c = k.count in omega arith) (let c = k.count in omega arith) target
        (index_of target) e (sees_same spot b low zs ys k.below (lvalue_read target) h.sees)
        (sees_same spot b low zs ys k.below (index_of target) i) (sees_same spot b low zs ys k.below e s)
        (shares_same spot b low zs ys k.below target (index_of target) e h.sees i s ∙ apart)

    -- or one is
    pub sharing_traps : (zs : List ℕ) (a v : ℕ) → FitFrom spot free b target (words e) zs → Sees spot b low zs e
        → update_shares spot b zs target e ≡ true
        → Traps (apart_cells spot target (index_of target) e) (apart_steps target (index_of target) e) 16
        (mem b f (keeping v a 0) (filled spot free b target e zs))
    sharing_traps zs a v h s shared =
        let ys : List ℕ = filled spot free b target e zs in
        let k = filled_is zs h s in
        let fits = h.fits in
        let small = h.small in
        let i = index_seen spot b low target zs h.sees in
        apart_traps spot b low f v a 0 ys (let c = k.count in omega arith) (let c = k.count in omega arith) target
        (index_of target) e (sees_same spot b low zs ys k.below (lvalue_read target) h.sees)
        (sees_same spot b low zs ys k.below (index_of target) i) (sees_same spot b low zs ys k.below e s)
        (shares_same spot b low zs ys k.below target (index_of target) e h.sees i s ∙ shared)

    -- place, value and check
    pub held_goes : (zs : List ℕ) (a v : ℕ) → FitFrom spot free b target (words e) zs → Sees spot b low zs e
        → place_address spot b zs target ≡ Ok a → number spot b zs e ≡ Ok v → update_shares spot b zs target e ≡ false
        → Goes ((place_cells spot free target 0 PLACE ++ fetch_cells spot free e (place_words target) AMOUNT)
        ++ apart_cells spot target (index_of target) e) (place_steps target + fetch_steps e + apart_steps target
        (index_of target) e) (mem b f (keeping 0 0 0) zs)
        (mem b f (keeping v a 0) (filled spot free b target e zs))
    held_goes zs a v h s na nv apart = goes_seq (found_goes zs a v h s na nv) (apart_goes_on zs a v h s apart)

    -- the place's fault comes first, whatever is to be done
    pub found_traps_place : (check mid : List Symbol) (zs : List ℕ) (c : ℕ) → FitFrom spot free b target (words e) zs
        → place_address spot b zs target ≡ Err c
        → TrapsBoth (around ((place_cells spot free target 0 PLACE
        ++ fetch_cells spot free e (place_words target) AMOUNT) ++ check) mid) (place_steps target) c
        (mem b f (keeping 0 0 0) zs)
    found_traps_place check mid zs c h n =
        traps_around mid (traps_first check (traps_first (fetch_cells spot free e (place_words target) AMOUNT)
        (place_traps spot free b PLACE f 0 0 0 target 0 c zs (place_fits spot free b target (words e) zs h) n)))

    pub found_traps_value : (check mid : List Symbol) (zs : List ℕ) (a c : ℕ) → FitFrom spot free b target (words e) zs
        → Sees spot b low zs e → place_address spot b zs target ≡ Ok a → number spot b zs e ≡ Err c
        → TrapsBoth (around ((place_cells spot free target 0 PLACE
        ++ fetch_cells spot free e (place_words target) AMOUNT) ++ check) mid)
        (place_steps target + fetch_steps e) c (mem b f (keeping 0 0 0) zs)
    found_traps_value check mid zs a c h s na n =
        let zs1 : List ℕ = placed spot free b target 0 zs in
        traps_around mid (traps_first check (traps_then (place_goes spot free b PLACE f 0 0 0 0 a 0 a
        (place_points spot free b f 0 0 a) 0 zs target (place_fits spot free b target (words e) zs h) na)
        (fetch_traps spot free b f a 0 e (place_words target) zs1 (value_fits spot free b target e zs h s) c
        (number_same spot b low zs zs1 (placed_below spot free b target zs) e s ∙ n))))

    -- and then that of a shared array
    pub found_traps_sharing : (mid : List Symbol) (zs : List ℕ) (a v : ℕ) → FitFrom spot free b target (words e) zs
        → Sees spot b low zs e → place_address spot b zs target ≡ Ok a → number spot b zs e ≡ Ok v
        → update_shares spot b zs target e ≡ true
        → TrapsBoth (around ((place_cells spot free target 0 PLACE
        ++ fetch_cells spot free e (place_words target) AMOUNT)
        ++ apart_cells spot target (index_of target) e) mid)
        (place_steps target + fetch_steps e + apart_steps target (index_of target) e) 16
        (mem b f (keeping 0 0 0) zs)
    found_traps_sharing mid zs a v h s na nv shared = traps_around mid
        (traps_then (found_goes zs a v h s na nv) (sharing_traps zs a v h s shared))

  reads_none : (zs : List ℕ) (array : ℕ) (e : Expression) → has_element e ≡ false
      → reads_array spot b zs array e ≡ false
  reads_none zs array (Number at word) h = refl
  reads_none zs array (Null at) h = refl
  reads_none zs array (Variable name) h = refl
  reads_none zs array (Element name index) h = absurd (cc)
  reads_none zs array (Binary at o left right) h = ap (λ t. t || reads_array spot b zs array right)
      (reads_none zs array left (neither_left (has_element left) (has_element right) h))
      ∙ reads_none zs array right (neither_right (has_element left) (has_element right) h)

  module _ (f : ℕ → ℕ) (op : UpdateOp) where
    -- forward: the word at the place is updated, by these cells in so many steps
    abbrev pub Updates : Lvalue → Expression → List Symbol → (steps : ℕ) → Type 0
    Updates target e code steps = (zs zs' : List ℕ) (a v : ℕ) → FitFrom spot free b target (words e) zs
        → FitFrom spot free b target (words e) zs' → Sees spot b low zs e → Sees spot b low zs' e
        → place_address spot b zs target ≡ Ok a → place_address spot b zs' target ≡ Ok a → number spot b zs e ≡ Ok v
        → number spot b zs' e ≡ Ok v → SamePlace spot b zs zs' target → Same spot b zs zs' e
        → update_shares spot b zs target e ≡ false → update_shares spot b zs' target e ≡ false
        → zs' ≡ slice_set zs a (updated op (slice_index zs a) v)
        → Goes code steps (mem b f (keeping 0 0 0) zs) (mem b f (keeping 0 0 0) zs')

    by_number : (name : Ident) (at word : ℕ) → Updates (Whole name) (Number at word)
        (update_cells spot free op (Whole name) (Number at word)) 5
    by_number name at word zs zs' a v h h' s s' na na' nv nv' sp sv apart apart' q =
        let l = h.sees in
        let fits = h.fits in
        let cells = ap (λ i. slice_set zs i (updated op (slice_index zs i) word)) (ok_is na)
        ∙ ap (λ z. slice_set zs a (updated op (slice_index zs a) z)) (ok_is nv) ∙ sym q in
        goes_to refl refl (ap (mem b f (keeping 0 0 0)) cells)
        (number_goes b f op (spot name.text) word zs h.all (omega arith) h.small s)

    by_variable : (name other : Ident) → Updates (Whole name) (Variable other)
        (update_cells spot free op (Whole name) (Variable other)) 9
    by_variable name other zs zs' a v h h' s s' na na' nv nv' sp sv apart apart' q =
        let l = h.sees in
        let fits = h.fits in
        let y : ℕ = spot_address b (spot name.text) in
        let x : ℕ = spot_address b (spot other.text) in
        let cells : slice_set zs y (updated op (slice_index zs y) (slice_index zs x)) ≡ zs' =
        ap (λ i. slice_set zs i (updated op (slice_index zs i) (slice_index zs x))) (ok_is na)
        ∙ ap (λ z. slice_set zs a (updated op (slice_index zs a) z)) (ok_is nv) ∙ sym q in
        goes_to refl refl (ap (mem b f (keeping 0 0 0)) cells)
        (variable_goes b f op (spot other.text) (spot name.text) zs h.all (omega arith) (omega arith) h.small
        (ap (λ z. slice_index z x) cells ∙ sv))

    found_update_goes : (target : Lvalue) (e : Expression)
        → Updates target e (found_update_cells spot free op target e) (found_update_steps target e)
    found_update_goes target e zs zs' a v h h' s s' na na' nv nv' sp sv apart apart' q =
        let ys : List ℕ = filled spot free b target e zs in
        let x : ℕ = slice_index zs a in
        let y : ℕ = updated op x v in
        let al : a < low = place_low target a zs h.sees na in
        let fits = h.fits in
        let zs1 : List ℕ = placed spot free b target 0 zs in
        let d = parts_done spot free b e (place_words target) zs1 (value_fits spot free b target e zs h s) in
        let ylen : length ys ≡ length zs = d.count ∙ placed_length spot free b target zs in
        let here : slice_index ys a ≡ x = d.below a al ∙ placed_below spot free b target zs a al in
        let mid = update_mid b f v a op x ys (omega arith) here (h.all a) (number_word spot b low zs h.all e s v nv) in
        let over : filled spot free b target e zs' ≡ slice_set ys a y =
        ap (filled spot free b target e) q
        ∙ filled_written spot free b (λ z. slice_set z a y) (write_one spot free b a y al) target e zs h.sees
        (subst (λ z. Sees spot b low z (lvalue_read target)) q h'.sees) (subst (λ z. SamePlace spot b zs z target) q sp)
        s (subst (λ z. Sees spot b low z e) q s') (subst (λ z. Same spot b zs z e) q sv) in
        goes_around (held_goes f target e zs a v h s na nv apart) mid
        (goes_to refl refl (ap (mem b f (keeping v a 0)) over) (held_goes f target e zs' a v h' s' na' nv' apart'))

    by_operator : (name : Ident) (e : Expression) → Updates (Whole name) e (operated_update_cells spot free op name e)
        (operated_update_steps (Whole name) e)
    by_operator name e = by (is_opened_once e) refl
      where
        by : (t : Bool) → is_opened_once e ≡ t
            → Updates (Whole name) e (if t then held_update_cells spot op (spot name.text) e
            else found_update_cells spot free op (Whole name) e)
            (if t then around_steps (held_steps e) 5 else found_update_steps (Whole name) e)
        by false q = found_update_goes (Whole name) e
        by true t = λ zs zs' a v h h' s s' na na' nv nv' sp sv apart apart' q.
            let al : a < low = place_low (Whole name) a zs h.sees na in
            let fits = h.fits in
            let few = once_few e t in
            held_update_goes b f spot low op e zs zs' a v few.1 h.all h.small (omega arith) (omega arith) s sv nv q
            (spot name.text) few.0 (ok_is na)

    by_near : (name : Ident) (index e : Expression) → 2 + need index + need e < 10 → has_element e ≡ false
        → has_element index ≡ false
        → Updates (Item name index) e (near_update_cells spot op name.text index e) (near_update_steps index e)
    by_near name index e few plain bare zs zs' a v h h' s s' na na' nv nv' sp sv apart apart' q =
        let al : a < low = place_low (Item name index) a zs h.sees na in
        let n = inside_of zs (word_of spot b zs name.text) (number spot b zs index) a na in
        let n' = inside_of zs' (word_of spot b zs' name.text) (number spot b zs' index) a na' in
        let fits = h.fits in
        let same_x : n'.x ≡ n.x = ok_is (sym n'.index ∙ same_number spot free b index zs zs' sp.1 ∙ n.index) in
        near_update_goes b f spot low op e zs zs' a v plain h.all h.small (omega arith) (omega arith) s sv nv q name
        index few bare h.sees h'.sees sp.1 n n' same_x

    by_item : (name : Ident) (index e : Expression)
        → Updates (Item name index) e (item_update_cells spot free op name index e)
        (item_update_steps (Item name index) index e)
    by_item name index e = by (is_near index e) refl
      where
        by : (t : Bool) → is_near index e ≡ t
            → Updates (Item name index) e (if t then near_update_cells spot op name.text index e
            else found_update_cells spot free op (Item name index) e)
            (if t then near_update_steps index e else found_update_steps (Item name index) e)
        by true q = let few = near_few index e q in by_near name index e few.0 few.1 few.2
        by false q = found_update_goes (Item name index) e

    pub update_goes : (target : Lvalue) (e : Expression)
        → Updates target e (update_cells spot free op target e) (update_steps target e)
    update_goes (Whole name) (Number at word) = by_number name at word
    update_goes (Whole name) (Variable other) = by_variable name other
    update_goes (Whole name) (Null at) = found_update_goes (Whole name) (Null at)
    update_goes (Whole name) (Element array index) = found_update_goes (Whole name) (Element array index)
    update_goes (Whole name) (Binary at o left right) = by_operator name (Binary at o left right)
    update_goes (Item name index) e = by_item name index e

    -- the faults of an update: a variable has none as a place, nor has a leaf as a value
    pub update_traps_place : (target : Lvalue) (e : Expression) (zs : List ℕ) (c : ℕ)
        → FitFrom spot free b target (words e) zs → place_address spot b zs target ≡ Err c
        → TrapsBoth (update_cells spot free op target e) (place_steps target) c (mem b f (keeping 0 0 0) zs)
    update_traps_place (Whole name) e zs c h n = absurd (cc)
    update_traps_place (Item name index) e zs c h n = by (is_near index e) refl
      where
        by : (t : Bool) → is_near index e ≡ t
            → TrapsBoth (if t then near_update_cells spot op name.text index e
            else found_update_cells spot free op (Item name index) e) (place_steps (Item name index)) c
            (mem b f (keeping 0 0 0) zs)
        by true q =
            let few = near_few index e q in
            let least = need_least e in
            let fits = h.fits in
            let room = few.0 in
            let less = held_prepared index in
            both_more (omega arith) (near_update_traps b f spot low op e zs h.all h.small (omega arith) name index
            (omega arith) few.2 h.sees c n)
        by false q = found_traps_place f (Item name index) e (apart_cells spot (Item name index) index e)
            (update_middle op) zs c h n

    pub update_traps_value : (target : Lvalue) (e : Expression) (zs : List ℕ) (a c : ℕ)
        → FitFrom spot free b target (words e) zs → Sees spot b low zs e → place_address spot b zs target ≡ Ok a
        → number spot b zs e ≡ Err c → TrapsBoth (update_cells spot free op target e)
        (place_steps target + fetch_steps e) c (mem b f (keeping 0 0 0) zs)
    update_traps_value (Whole name) (Number at word) zs a c h s na n = absurd (cc)
    update_traps_value (Whole name) (Null at) zs a c h s na n = absurd (cc)
    update_traps_value (Whole name) (Variable other) zs a c h s na n = absurd (cc)
    update_traps_value (Whole name) (Element array index) zs a c h s na n =
        found_traps_value f (Whole name) (Element array index) [] (update_middle op) zs a c h s na n
    update_traps_value (Whole name) (Binary at o left right) zs a c h s na n =
        by (Binary at o left right) (is_opened_once (Binary at o left right)) refl h s n
      where
        by : (e : Expression) (t : Bool) → is_opened_once e ≡ t → FitFrom spot free b (Whole name) (words e) zs
            → Sees spot b low zs e → number spot b zs e ≡ Err c
            → TrapsBoth (if t then held_update_cells spot op (spot name.text) e
            else found_update_cells spot free op (Whole name) e) (place_steps (Whole name) + fetch_steps e) c
            (mem b f (keeping 0 0 0) zs)
        by e false q h s n = found_traps_value f (Whole name) e [] (update_middle op) zs a c h s na n
        by e true q h s n = let few = once_few e q in absurd (no_fault (sym (is_number spot b zs e few.1) ∙ n))
    update_traps_value (Item name index) e zs a c h s na n = by (is_near index e) refl
      where
        by : (t : Bool) → is_near index e ≡ t → TrapsBoth (if t then near_update_cells spot op name.text index e
            else found_update_cells spot free op (Item name index) e) (place_steps (Item name index) + fetch_steps e) c
            (mem b f (keeping 0 0 0) zs)
        by true q =
            let few = near_few index e q in absurd (no_fault (sym (is_number spot b zs e few.1) ∙ n))
        by false q = found_traps_value f (Item name index) e (apart_cells spot (Item name index) index e)
            (update_middle op) zs a c h s na n

    pub update_traps_sharing : (target : Lvalue) (e : Expression) (zs : List ℕ) (a v : ℕ)
        → FitFrom spot free b target (words e) zs → Sees spot b low zs e → place_address spot b zs target ≡ Ok a
        → number spot b zs e ≡ Ok v → update_shares spot b zs target e ≡ true
        → TrapsBoth (update_cells spot free op target e)
        (place_steps target + fetch_steps e + apart_steps target (index_of target) e) 16
        (mem b f (keeping 0 0 0) zs)
    update_traps_sharing (Whole name) e zs a v h s na nv shared = absurd (cc)
    update_traps_sharing (Item name index) e zs a v h s na nv shared = by (is_near index e) refl
      where
        by : (t : Bool) → is_near index e ≡ t → TrapsBoth (if t then near_update_cells spot op name.text index e
            else found_update_cells spot free op (Item name index) e)
            (place_steps (Item name index) + fetch_steps e + apart_steps (Item name index) index e) 16
            (mem b f (keeping 0 0 0) zs)
        by true q =
            let few = near_few index e q in
            absurd (no_truth (sym (ap (λ t. t || reads_array spot b zs (word_of spot b zs name.text) e)
            (reads_none zs (word_of spot b zs name.text) index few.2)
            ∙ reads_none zs (word_of spot b zs name.text) e few.1) ∙ shared))
        by false q = found_traps_sharing f (Item name index) e (update_middle op) zs a v h s na nv shared

  -- ---- swaps

  pub address_same : (target : Lvalue) (zs zs' : List ℕ) → Agree low zs zs' → Sees spot b low zs (lvalue_read target)
      → place_address spot b zs' target ≡ place_address spot b zs target
  address_same (Whole name) zs zs' ag s = refl
  address_same (Item name index) zs zs' ag s =
      ap (λ z. element_at zs' z (number spot b zs' index)) (ag _ s.0)
      ∙ ap (element_at zs' (word_of spot b zs name.text)) (number_same spot b low zs zs' ag index s.2)
      ∙ element_address_same spot b low zs zs' ag (word_of spot b zs name.text) (number spot b zs index) s.1

  module _ (f : ℕ → ℕ) (target other : Lvalue) where
    pub both_found : (zs : List ℕ) (p q : ℕ) → FitFrom spot free b target (place_words other) zs
        → Sees spot b low zs (lvalue_read other) → place_address spot b zs target ≡ Ok p
        → place_address spot b zs other ≡ Ok q
        → Goes (place_cells spot free target 0 PLACE ++ place_cells spot free other (place_words target) OTHER_PLACE)
        (place_steps target + place_steps other) (mem b f (keeping 0 0 0) zs)
        (mem b f (keeping 0 p q) (both_placed spot free b target other zs))
    both_found zs p q h s np nq =
        let zs1 : List ℕ = placed spot free b target 0 zs in
        goes_seq (place_goes spot free b PLACE f 0 0 0 0 p 0 p (place_points spot free b f 0 0 p) 0 zs target
        (place_fits spot free b target (place_words other) zs h) np)
        (place_goes spot free b OTHER_PLACE f 0 p 0 0 p q q (other_points spot free b f 0 p q) (place_words target) zs1
        other (other_fits spot free b target other zs h s)
        (address_same other zs zs1 (placed_below spot free b target zs) s ∙ nq))

    other_length : (other : Lvalue) (ws : List ℕ) → length (placed spot free b other (place_words target) ws)
        ≡ length ws
    other_length (Whole name) ws = refl
    other_length (Item name index) ws = stored_length spot free b index (place_words target) ws

    other_below : (other : Lvalue) (ws : List ℕ) → Agree low ws (placed spot free b other (place_words target) ws)
    other_below (Whole name) ws a l = refl
    other_below (Item name index) ws a l = stored_below spot free b index (place_words target) ws a l

    other_words : (other : Lvalue) (ws : List ℕ) → AllWords ws → Sees spot b low ws (lvalue_read other)
        → AllWords (placed spot free b other (place_words target) ws)
    other_words (Whole name) ws w s = w
    other_words (Item name index) ws w s = stored_words spot free b index (place_words target) ws w s.2

    pub record Placed (zs ys : List ℕ) : Type 0 where
      pub all : AllWords ys
      pub count : length ys ≡ length zs
      pub below : Agree low zs ys

    pub placed_is : (zs : List ℕ) → FitFrom spot free b target (place_words other) zs
        → Sees spot b low zs (lvalue_read other) → Placed zs (both_placed spot free b target other zs)
    placed_is zs h s =
        let zs1 : List ℕ = placed spot free b target 0 zs in
        let below1 : Agree low zs zs1 = placed_below spot free b target zs in
        record {
          all = other_words other zs1 (placed_words spot free b target zs h.all h.sees)
              (sees_same spot b low zs zs1 below1 (lvalue_read other) s);
          count = other_length other zs1 ∙ placed_length spot free b target zs;
          below = λ a l. other_below other zs1 a l ∙ below1 a l;
        }

    both_apart_on : (zs : List ℕ) (p q : ℕ) → FitFrom spot free b target (place_words other) zs
        → Sees spot b low zs (lvalue_read other) → swap_shares spot b zs target other ≡ false
        → Goes (both_apart_cells spot target other) (both_apart_steps target other)
        (mem b f (keeping 0 p q) (both_placed spot free b target other zs))
        (mem b f (keeping 0 p q) (both_placed spot free b target other zs))
    both_apart_on zs p q h s apart =
        let ys : List ℕ = both_placed spot free b target other zs in
        let k = placed_is zs h s in
        let fits = h.fits in
        let small = h.small in
        both_apart_go spot b low f 0 p q ys (let c = k.count in omega arith) (let c = k.count in omega arith)
        target other (sees_same spot b low zs ys k.below (lvalue_read target) h.sees)
        (sees_same spot b low zs ys k.below (lvalue_read other) s)
        (swap_shares_same spot b low zs ys k.below target other h.sees s ∙ apart)

    both_sharing_traps : (zs : List ℕ) (p q : ℕ) → FitFrom spot free b target (place_words other) zs
        → Sees spot b low zs (lvalue_read other) → swap_shares spot b zs target other ≡ true
        → Traps (both_apart_cells spot target other) (both_apart_steps target other) 16
        (mem b f (keeping 0 p q) (both_placed spot free b target other zs))
    both_sharing_traps zs p q h s shared =
        let ys : List ℕ = both_placed spot free b target other zs in
        let k = placed_is zs h s in
        let fits = h.fits in
        let small = h.small in
        both_apart_traps spot b low f 0 p q ys (let c = k.count in omega arith) (let c = k.count in omega arith)
        target other (sees_same spot b low zs ys k.below (lvalue_read target) h.sees)
        (sees_same spot b low zs ys k.below (lvalue_read other) s)
        (swap_shares_same spot b low zs ys k.below target other h.sees s ∙ shared)

    both_held : (zs : List ℕ) (p q : ℕ) → FitFrom spot free b target (place_words other) zs
        → Sees spot b low zs (lvalue_read other) → place_address spot b zs target ≡ Ok p
        → place_address spot b zs other ≡ Ok q → swap_shares spot b zs target other ≡ false
        → Goes ((place_cells spot free target 0 PLACE ++ place_cells spot free other (place_words target) OTHER_PLACE)
        ++ both_apart_cells spot target other) (place_steps target + place_steps other + both_apart_steps target
        other) (mem b f (keeping 0 0 0) zs) (mem b f (keeping 0 p q) (both_placed spot free b target other zs))
    both_held zs p q h s np nq apart = goes_seq (both_found zs p q h s np nq) (both_apart_on zs p q h s apart)

    abbrev pub Swaps : List Symbol → (steps : ℕ) → Type 0
    Swaps code steps = (zs zs' : List ℕ) (p q : ℕ) → FitFrom spot free b target (place_words other) zs
        → FitFrom spot free b target (place_words other) zs' → Sees spot b low zs (lvalue_read other)
        → Sees spot b low zs' (lvalue_read other) → place_address spot b zs target ≡ Ok p
        → place_address spot b zs' target ≡ Ok p → place_address spot b zs other ≡ Ok q
        → place_address spot b zs' other ≡ Ok q → SamePlace spot b zs zs' target → SamePlace spot b zs zs' other
        → swap_shares spot b zs target other ≡ false → swap_shares spot b zs' target other ≡ false
        → zs' ≡ swapped_at p q zs
        → Goes code steps (mem b f (keeping 0 0 0) zs) (mem b f (keeping 0 0 0) zs')

    found_swap_goes : Swaps (found_swap_cells spot free target other) (found_swap_steps target other)
    found_swap_goes zs zs' p q h h' s s' np np' nq nq' st so apart apart' e =
        let ys : List ℕ = both_placed spot free b target other zs in
        let pl : p < low = place_low target p zs h.sees np in
        let ql : q < low = place_low other q zs s nq in
        let fits = h.fits in
        let k = placed_is zs h s in
        let ylen = k.count in
        let below : Agree low zs ys = k.below in
        let mid = swap_mid b f p q ys (omega arith) (omega arith) in
        let mid' = goes_to refl refl (ap (λ y. mem b f (keeping 0 p q)
        (slice_set (slice_set ys p y) q (slice_index ys p))) (below q ql)
        ∙ ap (λ x. mem b f (keeping 0 p q) (slice_set (slice_set ys p (slice_index zs q)) q x)) (below p pl)) mid
        in
        let over : both_placed spot free b target other zs'
        ≡ slice_set (slice_set ys p (slice_index zs q)) q (slice_index zs p) =
        ap (both_placed spot free b target other) e
        ∙ both_written spot free b (λ z. slice_set (slice_set z p (slice_index zs q)) q (slice_index zs p))
        (write_two spot free b p (slice_index zs q) q (slice_index zs p) pl ql) target other zs h.sees
        (subst (λ z. Sees spot b low z (lvalue_read target)) e h'.sees) (subst (λ z. SamePlace spot b zs z target) e st)
        s (subst (λ z. Sees spot b low z (lvalue_read other)) e s') (subst (λ z. SamePlace spot b zs z other) e so) in
        goes_around (both_held zs p q h s np nq apart) mid'
        (goes_to refl refl (ap (mem b f (keeping 0 p q)) over) (both_held zs' p q h' s' np' nq' apart'))

    pub both_traps_first : (check mid : List Symbol) (zs : List ℕ) (c : ℕ)
        → FitFrom spot free b target (place_words other) zs → place_address spot b zs target ≡ Err c
        → TrapsBoth (around ((place_cells spot free target 0 PLACE
        ++ place_cells spot free other (place_words target) OTHER_PLACE) ++ check) mid) (place_steps target) c
        (mem b f (keeping 0 0 0) zs)
    both_traps_first check mid zs c h n =
        traps_around mid (traps_first check (traps_first (place_cells spot free other (place_words target) OTHER_PLACE)
        (place_traps spot free b PLACE f 0 0 0 target 0 c zs
        (place_fits spot free b target (place_words other) zs h) n)))

    pub both_traps_second : (check mid : List Symbol) (zs : List ℕ) (p c : ℕ)
        → FitFrom spot free b target (place_words other) zs → Sees spot b low zs (lvalue_read other)
        → place_address spot b zs target ≡ Ok p → place_address spot b zs other ≡ Err c
        → TrapsBoth (around ((place_cells spot free target 0 PLACE
        ++ place_cells spot free other (place_words target) OTHER_PLACE) ++ check) mid)
        (place_steps target + place_steps other) c (mem b f (keeping 0 0 0) zs)
    both_traps_second check mid zs p c h s np n =
        let zs1 : List ℕ = placed spot free b target 0 zs in
        traps_around mid (traps_first check (traps_then (place_goes spot free b PLACE f 0 0 0 0 p 0 p
        (place_points spot free b f 0 0 p) 0 zs target
        (place_fits spot free b target (place_words other) zs h) np)
        (place_traps spot free b OTHER_PLACE f 0 p 0 other (place_words target) c zs1
        (other_fits spot free b target other zs h s) (address_same other zs zs1
        (placed_below spot free b target zs) s ∙ n))))

    found_swap_traps_sharing : (zs : List ℕ) (p q : ℕ) → FitFrom spot free b target (place_words other) zs
        → Sees spot b low zs (lvalue_read other) → place_address spot b zs target ≡ Ok p
        → place_address spot b zs other ≡ Ok q → swap_shares spot b zs target other ≡ true
        → TrapsBoth (found_swap_cells spot free target other) (place_steps target + place_steps other + both_apart_steps
        target other) 16 (mem b f (keeping 0 0 0) zs)
    found_swap_traps_sharing zs p q h s np nq shared =
        traps_around (exch FIRST_WORD PLACE ∷ exch SECOND_WORD OTHER_PLACE ∷ exch SECOND_WORD PLACE
        ∷ exch FIRST_WORD OTHER_PLACE ∷ []) (traps_then (both_found zs p q h s np nq)
        (both_sharing_traps zs p q h s shared))

  module _ (f : ℕ → ℕ) where
    whole_swap_goes : (name other : Ident) → Swaps f (Whole name) (Whole other)
        (swap_cells spot free (Whole name) (Whole other)) 8
    whole_swap_goes name other zs zs' p q h h' s s' np np' nq nq' st so apart apart' e =
        let l = h.sees in
        let fits = h.fits in
        let x : ℕ = spot_address b (spot name.text) in
        let y : ℕ = spot_address b (spot other.text) in
        let cells : swapped_at x y zs ≡ zs' = ap (λ i. swapped_at i y zs) (ok_is np)
        ∙ ap (λ i. swapped_at p i zs) (ok_is nq)
        ∙ sym e in
        goes_to refl refl (ap (mem b f (keeping 0 0 0)) cells)
        (spots_go b f (spot name.text) (spot other.text) zs (omega arith) (omega arith) h.small)

    -- a variable and an element that is found once, by what exchanges the two words
    near_swap_goes : (x : Spot) (name : Ident) (index : Expression) (zs zs' : List ℕ) (p q a : ℕ) (four : List Symbol)
        → p < low → q < low → spot_address b x < low → FitPlace spot free b (Item name index) 0 zs
        → FitPlace spot free b (Item name index) 0 zs' → place_address spot b zs (Item name index) ≡ Ok a
        → place_address spot b zs' (Item name index) ≡ Ok a → SamePlace spot b zs zs' (Item name index)
        → zs' ≡ swapped_at p q zs
        → ((i : ℕ) (ys : List ℕ) → length ys ≡ length zs
        → Goes four 4 (mem (moved b x) f (operands 0 0 0 i a) ys)
        (mem (moved b x) f (operands 0 0 0 i a) (swapped_at p q ys)))
        → Goes (around (near_place_cells spot free name.text index ++ addi (base_of x) (offset_of x) ∷ []) four)
        (near_swap_steps index) (mem b f (keeping 0 0 0) zs) (mem b f (keeping 0 0 0) zs')
    near_swap_goes x name index zs zs' p q a four pl ql xl fit fit' na na' sp e mid =
        let target : Lvalue = Item name index in
        let n = inside_of zs (word_of spot b zs name.text) (number spot b zs index) a na in
        let n' = inside_of zs' (word_of spot b zs' name.text) (number spot b zs' index) a na' in
        let ys : List ℕ = stored spot free b index 0 zs in
        let ys' : List ℕ = stored spot free b index 0 zs' in
        let below = placed_below spot free b target zs in
        let count : length ys ≡ length zs = placed_length spot free b target zs in
        let fits = fit.fits in
        let small = fit.small in
        let same_x : n'.x ≡ n.x = ok_is (sym n'.index ∙ same_number spot free b index zs zs' sp.1 ∙ n.index) in
        let u : ℕ = slice_index zs q in
        let v : ℕ = slice_index zs p in
        let over : ys' ≡ swapped_at p q ys = ap (placed spot free b target 0) e
        ∙ placed_written spot free b (λ z. slice_set (slice_set z p u) q v) (write_two spot free b p u q v pl ql) target
        zs fit.sees (subst (λ z. Sees spot b low z (lvalue_read target)) e fit'.sees)
        (subst (λ z. SamePlace spot b zs z target) e sp)
        ∙ sym (ap (λ w. slice_set (slice_set ys p w) q (slice_index ys p)) (below q ql)
        ∙ ap (λ w. slice_set (slice_set ys p u) q w) (below p pl)) in
        goes_around (goes_seq (near_goes spot free b f 0 0 0 0 zs name index fit a n)
        (there_goes b f (operands 0 0 0 n.x a) ys x (omega arith)))
        (goes_to refl refl (ap (mem (moved b x) f (operands 0 0 0 n.x a)) (sym over)) (mid n.x ys count))
        (goes_seq (goes_to refl refl (ap (λ i. mem b f (operands 0 0 0 i a) ys') same_x)
        (near_goes spot free b f 0 0 0 0 zs' name index fit' a n'))
        (there_goes b f (operands 0 0 0 n.x a) ys' x (omega arith)))

    by_first : (name other : Ident) (index : Expression) → Swaps f (Whole name) (Item other index)
        (near_swap_cells spot free (base_of (spot name.text)) RIGHT (spot name.text) other.text index)
        (near_swap_steps index)
    by_first name other index zs zs' p q h h' s s' np np' nq nq' st so apart apart' e =
        let x : ℕ = spot_address b (spot name.text) in
        let l = h.sees in
        let fits = h.fits in
        let ql : q < low = place_low (Item other index) q zs s nq in
        near_swap_goes (spot name.text) other index zs zs' x q q
        (four_exchanges (base_of (spot name.text)) RIGHT) (omega arith) ql (omega arith)
        (other_fits spot free b (Whole name) (Item other index) zs h s)
        (other_fits spot free b (Whole name) (Item other index) zs' h' s') nq nq' so
        (e ∙ sym (ap (λ i. swapped_at i q zs) (ok_is np)))
        (λ i ys same. variable_first b f i q (spot name.text) ys (omega arith) (omega arith))

    by_second : (name other : Ident) (index : Expression) → Swaps f (Item name index) (Whole other)
        (near_swap_cells spot free RIGHT (base_of (spot other.text)) (spot other.text) name.text index)
        (near_swap_steps index)
    by_second name other index zs zs' p q h h' s s' np np' nq nq' st so apart apart' e =
        let x : ℕ = spot_address b (spot other.text) in
        let l = s in
        let fits = h.fits in
        let pl : p < low = place_low (Item name index) p zs h.sees np in
        near_swap_goes (spot other.text) name index zs zs' p x p
        (four_exchanges RIGHT (base_of (spot other.text))) pl (omega arith) (omega arith)
        (place_fits spot free b (Item name index) (place_words (Whole other)) zs h)
        (place_fits spot free b (Item name index) (place_words (Whole other)) zs' h') np np' st
        (e ∙ sym (ap (λ i. swapped_at p i zs) (ok_is nq)))
        (λ i ys same. variable_second b f i p (spot other.text) ys (omega arith) (omega arith))

    first_goes : (name other : Ident) (index : Expression) → Swaps f (Whole name) (Item other index)
        (swap_cells spot free (Whole name) (Item other index)) (swap_steps (Whole name) (Item other index))
    first_goes name other index = by (is_near_index index)
      where
        by : (t : Bool) → Swaps f (Whole name) (Item other index)
            (if t then near_swap_cells spot free (base_of (spot name.text)) RIGHT (spot name.text) other.text
            index else found_swap_cells spot free (Whole name) (Item other index))
            (if t then near_swap_steps index else found_swap_steps (Whole name) (Item other index))
        by true = by_first name other index
        by false = found_swap_goes f (Whole name) (Item other index)

    second_goes : (name other : Ident) (index : Expression) → Swaps f (Item name index) (Whole other)
        (swap_cells spot free (Item name index) (Whole other)) (swap_steps (Item name index) (Whole other))
    second_goes name other index = by (is_near_index index)
      where
        by : (t : Bool) → Swaps f (Item name index) (Whole other)
            (if t then near_swap_cells spot free RIGHT (base_of (spot other.text)) (spot other.text) name.text
            index else found_swap_cells spot free (Item name index) (Whole other))
            (if t then near_swap_steps index else found_swap_steps (Item name index) (Whole other))
        by true = by_second name other index
        by false = found_swap_goes f (Item name index) (Whole other)

    pub swap_goes : (target other : Lvalue) → Swaps f target other (swap_cells spot free target other)
        (swap_steps target other)
    swap_goes (Whole name) (Whole other) = whole_swap_goes name other
    swap_goes (Whole name) (Item other index) = first_goes name other index
    swap_goes (Item name index) (Whole other) = second_goes name other index
    swap_goes (Item name index) (Item other k) = found_swap_goes f (Item name index) (Item other k)

    -- the faults of a swap: a variable has none as a place
    near_swap_traps : (x : Spot) (name : Ident) (index : Expression) (four : List Symbol) (zs : List ℕ) (c : ℕ)
        → FitPlace spot free b (Item name index) 0 zs → place_address spot b zs (Item name index) ≡ Err c
        → TrapsBoth (around (near_place_cells spot free name.text index ++ addi (base_of x) (offset_of x) ∷ []) four)
        (place_steps (Item name index)) c (mem b f (keeping 0 0 0) zs)
    near_swap_traps x name index four zs c fit n = traps_around four
        (traps_first (addi (base_of x) (offset_of x) ∷ []) (traps_more (omega arith)
        (near_traps spot free b f 0 0 0 name index 0 c zs fit n)))

    pub swap_traps_first : (target other : Lvalue) (zs : List ℕ) (c : ℕ)
        → FitFrom spot free b target (place_words other) zs → place_address spot b zs target ≡ Err c
        → TrapsBoth (swap_cells spot free target other) (place_steps target) c (mem b f (keeping 0 0 0) zs)
    swap_traps_first (Whole name) other zs c h n = absurd (cc)
    swap_traps_first (Item name index) (Item other k) zs c h n = both_traps_first f (Item name index) (Item other k)
        (both_apart_cells spot (Item name index) (Item other k)) swap_middle zs c h n
    swap_traps_first (Item name index) (Whole other) zs c h n = by (is_near_index index)
      where
        by : (t : Bool) → TrapsBoth (if t
            then near_swap_cells spot free RIGHT (base_of (spot other.text)) (spot other.text) name.text index
            else found_swap_cells spot free (Item name index) (Whole other)) (place_steps (Item name index)) c
            (mem b f (keeping 0 0 0) zs)
        by true = near_swap_traps (spot other.text) name index
            (four_exchanges RIGHT (base_of (spot other.text))) zs c
            (place_fits spot free b (Item name index) (place_words (Whole other)) zs h) n
        by false = both_traps_first f (Item name index) (Whole other)
            (both_apart_cells spot (Item name index) (Whole other)) swap_middle zs c h n

    pub swap_traps_second : (target other : Lvalue) (zs : List ℕ) (p c : ℕ)
        → FitFrom spot free b target (place_words other) zs → Sees spot b low zs (lvalue_read other)
        → place_address spot b zs target ≡ Ok p → place_address spot b zs other ≡ Err c
        → TrapsBoth (swap_cells spot free target other) (place_steps target + place_steps other) c
        (mem b f (keeping 0 0 0) zs)
    swap_traps_second target (Whole other) zs p c h s np n = absurd (cc)
    swap_traps_second (Item name index) (Item other k) zs p c h s np n = both_traps_second f (Item name index)
        (Item other k) (both_apart_cells spot (Item name index) (Item other k)) swap_middle zs p c h s np n
    swap_traps_second (Whole name) (Item other index) zs p c h s np n = by (is_near_index index)
      where
        by : (t : Bool) → TrapsBoth (if t
            then near_swap_cells spot free (base_of (spot name.text)) RIGHT (spot name.text) other.text index
            else found_swap_cells spot free (Whole name) (Item other index))
            (place_steps (Whole name) + place_steps (Item other index)) c (mem b f (keeping 0 0 0) zs)
        by true = both_more (omega arith) (near_swap_traps (spot name.text) other index
            (four_exchanges (base_of (spot name.text)) RIGHT) zs c
            (other_fits spot free b (Whole name) (Item other index) zs h s) n)
        by false = both_traps_second f (Whole name) (Item other index)
            (both_apart_cells spot (Whole name) (Item other index)) swap_middle zs p c h s np n

    -- an index that reads no element shares no array
    not_shared : (zs : List ℕ) (array : ℕ) (index : Expression) → is_near_index index ≡ true
        → reads_array spot b zs array index ≡ false
    not_shared zs array index q = reads_none zs array index (near_index_few index q)

    pub swap_traps_sharing : (target other : Lvalue) (zs : List ℕ) (p q : ℕ)
        → FitFrom spot free b target (place_words other) zs → Sees spot b low zs (lvalue_read other)
        → place_address spot b zs target ≡ Ok p → place_address spot b zs other ≡ Ok q
        → swap_shares spot b zs target other ≡ true
        → TrapsBoth (swap_cells spot free target other) (place_steps target + place_steps other + both_apart_steps
        target other) 16 (mem b f (keeping 0 0 0) zs)
    swap_traps_sharing (Whole name) (Whole other) zs p q h s np nq shared = absurd (cc)
    swap_traps_sharing (Item name index) (Item other k) zs p q h s np nq shared =
        found_swap_traps_sharing f (Item name index) (Item other k) zs p q h s np nq shared
    swap_traps_sharing (Whole name) (Item other index) zs p q h s np nq shared = by (is_near_index index) refl
      where
        by : (t : Bool) → is_near_index index ≡ t → TrapsBoth (if t
            then near_swap_cells spot free (base_of (spot name.text)) RIGHT (spot name.text) other.text index
            else found_swap_cells spot free (Whole name) (Item other index))
            (place_steps (Whole name) + place_steps (Item other index) + both_apart_steps (Whole name)
            (Item other index)) 16 (mem b f (keeping 0 0 0) zs)
        by true q1 = absurd (no_truth (sym (not_shared zs (word_of spot b zs other.text) index q1) ∙ shared))
        by false q1 = found_swap_traps_sharing f (Whole name) (Item other index) zs p q h s np nq shared
    swap_traps_sharing (Item name index) (Whole other) zs p q h s np nq shared = by (is_near_index index) refl
      where
        by : (t : Bool) → is_near_index index ≡ t → TrapsBoth (if t
            then near_swap_cells spot free RIGHT (base_of (spot other.text)) (spot other.text) name.text index
            else found_swap_cells spot free (Item name index) (Whole other))
            (place_steps (Item name index) + place_steps (Whole other) + both_apart_steps (Item name index)
            (Whole other)) 16 (mem b f (keeping 0 0 0) zs)
        by true q1 = absurd (no_truth (sym (ap (λ t. (t || false) || false)
            (not_shared zs (word_of spot b zs name.text) index q1)) ∙ shared))
        by false q1 = found_swap_traps_sharing f (Item name index) (Whole other) zs p q h s np nq shared
