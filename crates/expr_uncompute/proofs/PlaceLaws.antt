-- The address of a place in a register, and a value kept in another.
use Rattle.std.proofs.Common.{◌≡◌, ◌≢◌, ℕ, ◌+◌, ◌^◌, ◌<◌, ◌≤◌, List, [], ◌∷◌, ◌++◌, length, refl, sym, ap, ◌∙◌, subst}
use Rattle.std.proofs.Common.{arith}
use Rattle.std.specs.Prelude.{slice_index, Ok, Err}
use Rattle.register_expressions.specs.code_conventions.declared.memory.TheConstants.{HEADER_WORDS}
use Rattle.register_expressions.specs.rpp_tree.declared.tree.Ident.{Ident}
use Rattle.register_expressions.specs.rpp_tree.Tree.{Expression, Number, Null, Variable, Element, Binary, Lvalue, Whole, Item}
use Rattle.register_expressions.specs.pisa_isa.Machine.{Memory}
use Rattle.register_expressions.specs.code_conventions.declared.registers.TheConstants.{AMOUNT, OTHER_PLACE, PLACE, RIGHT}
use Rattle.register_expressions.specs.paired_code.Layout.{mirror_cells}
use Rattle.register_expressions.specs.paired_code.declared.part.Symbol.{Symbol}
use Rattle.register_expressions.specs.refine_form.declared.spot.Spot.{Spot}
use Rattle.register_expressions.specs.refine_form.declared.spot.Spot.TheVariants.{Field, Frame}
use Rattle.register_expressions.specs.Code.{xor, addi, around, base_of, point_cells}
use Rattle.expr_uncompute.specs.Code.{checked_cells, open_cells, prepare_cells, fetch_cells, place_words, place_cells}
use Rattle.expr_uncompute.specs.Code.{result_of}
use Rattle.register_expressions.specs.code_scope.Visible.{offset_of}
use Rattle.register_expressions.specs.Number.{Bases, spot_address, word_given, word_of, number, place_address, lvalue_read, Sees}
use Rattle.expr_uncompute.specs.Steps.{checked_steps, open_steps, prepare_steps, fetch_steps, place_steps}
use Rattle.register_expressions.proofs.Goes.{Goes, Traps, goes_seq, goes_cons, goes_to, goes_around, goes_set}
use Rattle.register_expressions.proofs.Goes.{goes_addi, traps_first, traps_then, traps_more}
use Rattle.register_expressions.proofs.Scratch.{keeping, mem}
use Rattle.register_expressions.proofs.Operators.{operands}
use Rattle.register_expressions.proofs.Results.{amount_goes}
use Rattle.register_expressions.proofs.Numbers.{Agree, AllWords, number_same, sees_same}
use Rattle.expr_uncompute.proofs.Stored.{home, stored, parted, Reads, stored_length, stored_below, stored_reads}
use Rattle.expr_uncompute.proofs.Opening.{Room, based, emptied, opened, open_goes, open_gives, result_has, checked_goes}
use Rattle.expr_uncompute.proofs.Opening.{checked_nil, checked_past, pointed_goes}
use Rattle.expr_uncompute.proofs.Prepare.{Fit, stored_words, parts_done, parted_sees, parted_number, parted_room}
use Rattle.expr_uncompute.proofs.Prepare.{parts_goes, prepare_goes, prepare_traps, node_fault, fault_then}
use Rattle.register_expressions.proofs.Ways.{ok_is, IsInside, inside_of, IsFault, by_index, by_nil, by_end, fault_of}

module _ (spot : List ℕ → Spot) (free : ℕ) (b : Bases) where
  abbrev low : ℕ
  low = b.frame + free

  -- a place can be found from word i on
  pub record FitPlace (target : Lvalue) (i : ℕ) (zs : List ℕ) : Type 0 where
    pub all : AllWords zs
    pub sees : Sees spot b low zs (lvalue_read target)
    pub fits : home spot free b (i + place_words target) ≤ length zs
    pub small : length zs ≤ 2 ^ 31
    pub empty : (a : ℕ) → home spot free b i ≤ a → a < home spot free b (i + place_words target) → slice_index zs a ≡ 0

  -- the cells afterwards
  abbrev pub placed : Lvalue → (i : ℕ) → List ℕ → List ℕ
  placed (Whole name) i zs = zs
  placed (Item name index) i zs = stored spot free b index i zs

  -- the address goes into a register that is 0
  pub record Points (into : ℕ) (f : ℕ → ℕ) (m p q m' p' q' a : ℕ) : Type 0 where
    pub by_base : (zs : List ℕ) (sp : Spot) → spot_address b sp ≡ a → a < 2 ^ 32
        → Goes (xor into (base_of sp) ∷ addi into (offset_of sp) ∷ []) 2 (mem b f (keeping m p q) zs)
        (mem b f (keeping m' p' q') zs)
    pub by_operand : (x : ℕ) (zs : List ℕ) → Goes (xor into RIGHT ∷ []) 1 (mem b f (operands m p q x a) zs)
        (mem b f (operands m' p' q' x a) zs)

  place_base : (f : ℕ → ℕ) (m q : ℕ) (zs : List ℕ) (sp : Spot) → spot_address b sp < 2 ^ 32
      → Goes (xor PLACE (base_of sp) ∷ addi PLACE (offset_of sp) ∷ []) 2 (mem b f (keeping m 0 q) zs)
      (mem b f (keeping m (spot_address b sp) q) zs)
  place_base f m q zs (Field i) h = goes_cons (goes_set _ (λ z. mem b f (keeping m z q) zs) b.object refl (omega arith)
      (λ z. refl) (λ z. refl)) (goes_addi _ (λ z. mem b f (keeping m z q) zs) b.object (HEADER_WORDS + i) h refl
      (omega arith)
      (λ z. refl) (λ z. refl))
  place_base f m q zs (Frame i) h = goes_cons (goes_set _ (λ z. mem b f (keeping m z q) zs) b.frame refl (omega arith)
      (λ z. refl) (λ z. refl)) (goes_addi _ (λ z. mem b f (keeping m z q) zs) b.frame i h refl (omega arith)
      (λ z. refl) (λ z. refl))

  other_base : (f : ℕ → ℕ) (m p : ℕ) (zs : List ℕ) (sp : Spot) → spot_address b sp < 2 ^ 32
      → Goes (xor OTHER_PLACE (base_of sp) ∷ addi OTHER_PLACE (offset_of sp) ∷ []) 2 (mem b f (keeping m p 0) zs)
      (mem b f (keeping m p (spot_address b sp)) zs)
  other_base f m p zs (Field i) h = goes_cons (goes_set _ (λ z. mem b f (keeping m p z) zs) b.object refl (omega arith)
      (λ z. refl) (λ z. refl)) (goes_addi _ (λ z. mem b f (keeping m p z) zs) b.object (HEADER_WORDS + i) h refl
      (omega arith)
      (λ z. refl) (λ z. refl))
  other_base f m p zs (Frame i) h = goes_cons (goes_set _ (λ z. mem b f (keeping m p z) zs) b.frame refl (omega arith)
      (λ z. refl) (λ z. refl)) (goes_addi _ (λ z. mem b f (keeping m p z) zs) b.frame i h refl (omega arith)
      (λ z. refl) (λ z. refl))

  pub place_points : (f : ℕ → ℕ) (m q a : ℕ) → Points PLACE f m 0 q m a q a
  place_points f m q a = record {
    by_base = λ zs sp e h. goes_to refl refl (ap (λ z. mem b f (keeping m z q) zs) e) (place_base f m q zs sp (rw e h));
    by_operand = λ x zs. goes_set _ (λ z. mem b f (operands m z q x a) zs) a refl (omega arith) (λ z. refl) (λ z. refl);
  }

  pub other_points : (f : ℕ → ℕ) (m p a : ℕ) → Points OTHER_PLACE f m p 0 m p a a
  other_points f m p a = record {
    by_base = λ zs sp e h. goes_to refl refl (ap (λ z. mem b f (keeping m p z) zs) e) (other_base f m p zs sp (rw e h));
    by_operand = λ x zs. goes_set _ (λ z. mem b f (operands m p z x a) zs) a refl (omega arith) (λ z. refl) (λ z. refl);
  }

  -- an index as an expression of its own
  index_fit : (name : Ident) (index : Expression) (i : ℕ) (zs : List ℕ) → FitPlace (Item name index) i zs
      → Fit spot free b index i zs
  index_fit name index i zs h = record {
    all = h.all;
    sees = h.sees.2;
    room = record { fits = h.fits; small = h.small };
    empty = h.empty;
  }

  -- with the index prepared
  record ItemFacts (name : Ident) (index : Expression) (i x : ℕ) (zs : List ℕ) : Type 0 where
    all : AllWords (stored spot free b index i zs)
    sees : Sees spot b low (stored spot free b index i zs) (Element name index)
    room : Room spot free b index i (stored spot free b index i zs)
    gives : number spot b (stored spot free b index i zs) index ≡ Ok x
    reads : Reads spot free b (stored spot free b index i zs) index i x
    array : word_of spot b (stored spot free b index i zs) name.text ≡ word_of spot b zs name.text

  item_facts : (name : Ident) (index : Expression) (i x : ℕ) (zs : List ℕ) → FitPlace (Item name index) i zs
      → number spot b zs index ≡ Ok x → ItemFacts name index i x zs
  item_facts name index i x zs h g =
      let below : Agree low zs (stored spot free b index i zs) = stored_below spot free b index i zs in
      record {
        all = stored_words spot free b index i zs h.all h.sees.2;
        sees = sees_same spot b low zs _ below (Element name index) h.sees;
        room = record {
          fits = rw (stored_length spot free b index i zs) h.fits;
          small = rw (stored_length spot free b index i zs) h.small;
        };
        gives = number_same spot b low zs _ below index h.sees.2 ∙ g;
        reads = subst (Reads spot free b (stored spot free b index i zs) index i) (ap word_given g)
            (stored_reads spot free b index i zs h.fits);
        array = below _ h.sees.0;
      }

  module _ (f : ℕ → ℕ) (m p q i : ℕ) (zs : List ℕ) (name : Ident) (index : Expression)
      (h : FitPlace (Item name index) i zs) (a : ℕ)
      (n : IsInside zs (word_of spot b zs name.text) (number spot b zs index) a) where
    -- if its index is prepared, an element's index and its address are in registers
    pub item_opens : Goes (checked_cells spot free name.text index i ++ point_cells) (checked_steps index + 2)
        (mem b f (keeping m p q) (stored spot free b index i zs))
        (mem b f (operands m p q n.x a) (stored spot free b index i zs))
    item_opens =
        let zs1 : List ℕ = stored spot free b index i zs in
        let k = item_facts name index i n.x zs h n.index in
        let arr : word_of spot b zs1 name.text ≡ word_of spot b zs name.text = k.array in
        let there : word_of spot b zs1 name.text ≢ 0 = λ e. n.array_is (sym arr ∙ e) in
        let block = h.sees.1.room n.array_is in
        let head : slice_index zs1 (word_of spot b zs name.text) ≡ slice_index zs (word_of spot b zs name.text) =
        stored_below spot free b index i zs _ (omega arith) in
        let inside : n.x < slice_index zs1 (word_of spot b zs1 name.text) = rw arr (rw head n.below) in
        let at : word_of spot b zs1 name.text + n.x + HEADER_WORDS ≡ a = ap (λ y. y + n.x + HEADER_WORDS) arr ∙ n.at
        in
        goes_to refl refl (ap (λ y. mem b f (operands m p q n.x y) zs1) at)
        (goes_seq (checked_goes spot free b m p q f name.text index i n.x zs1 k.all k.sees.0 k.sees.1 k.sees.2
        k.room k.gives k.reads there inside) (pointed_goes spot free b m p q f name.text index i n.x zs1 k.all
        k.sees.0 k.sees.1 k.sees.2 k.room k.gives k.reads there inside))

    index_goes : Goes (prepare_cells spot free index i) (prepare_steps index) (mem b f (keeping m p q) zs)
        (mem b f (keeping m p q) (stored spot free b index i zs))
    index_goes = prepare_goes spot free b m p q f index i n.x zs (index_fit name index i zs h) n.index

    pub near_goes : Goes (prepare_cells spot free index i
        ++ (checked_cells spot free name.text index i ++ point_cells))
        (prepare_steps index + (checked_steps index + 2)) (mem b f (keeping m p q) zs)
        (mem b f (operands m p q n.x a) (stored spot free b index i zs))
    near_goes = goes_seq index_goes item_opens

  module _ (into : ℕ) (f : ℕ → ℕ) (m p q m' p' q' a : ℕ) (points : Points into f m p q m' p' q' a) (i : ℕ) (zs : List ℕ)
    where
      item_goes : (name : Ident) (index : Expression) → FitPlace (Item name index) i zs
          → IsInside zs (word_of spot b zs name.text) (number spot b zs index) a
          → Goes (place_cells spot free (Item name index) i into) (place_steps (Item name index))
          (mem b f (keeping m p q) zs) (mem b f (keeping m' p' q') (stored spot free b index i zs))
      item_goes name index h n = goes_seq (index_goes f m p q i zs name index h a n)
          (goes_around (item_opens f m p q i zs name index h a n)
          (points.by_operand n.x (stored spot free b index i zs)) (item_opens f m' p' q' i zs name index h a n))

      pub place_goes : (target : Lvalue) → FitPlace target i zs → place_address spot b zs target ≡ Ok a
          → Goes (place_cells spot free target i into) (place_steps target) (mem b f (keeping m p q) zs)
          (mem b f (keeping m' p' q') (placed target i zs))
      place_goes (Whole name) h n = let l = h.sees in let k = h.fits in let s = h.small in
          points.by_base zs (spot name.text) (ok_is n) (let e = ok_is n in omega arith)
      place_goes (Item name index) h n = item_goes name index h
          (inside_of zs (word_of spot b zs name.text) (number spot b zs index) a n)

  -- ---- faults of a place

  -- before whatever else is done with its registers
  front_traps : (f : ℕ → ℕ) (m p q : ℕ) (name : Ident) (index : Expression) (i c : ℕ) (zs : List ℕ)
      → FitPlace (Item name index) i zs → place_address spot b zs (Item name index) ≡ Err c
      → (tail : List Symbol → List Symbol)
      → ((w : List Symbol) (k d : ℕ) (z : Memory) → Traps w k d z → Traps (tail w) k d z)
      → Traps (prepare_cells spot free index i ++ tail (checked_cells spot free name.text index i))
      (prepare_steps index + checked_steps index) c (mem b f (keeping m p q) zs)
  front_traps f m p q name index i c zs h n tail carry =
      by (fault_of zs (word_of spot b zs name.text) (number spot b zs index) c n)
    where
      fit : Fit spot free b index i zs
      fit = index_fit name index i zs h

      -- the index is prepared, and the checks trap
      checks : (x d : ℕ) → number spot b zs index ≡ Ok x → Traps (checked_cells spot free name.text index i)
          (checked_steps index) d (mem b f (keeping m p q) (stored spot free b index i zs))
          → Traps (prepare_cells spot free index i ++ tail (checked_cells spot free name.text index i))
          (prepare_steps index + checked_steps index) d (mem b f (keeping m p q) zs)
      checks x d g t = traps_then (prepare_goes spot free b m p q f index i x zs fit g) (carry _ _ _ _ t)

      by : IsFault zs (word_of spot b zs name.text) (number spot b zs index) c
          → Traps (prepare_cells spot free index i ++ tail (checked_cells spot free name.text index i))
          (prepare_steps index + checked_steps index) c (mem b f (keeping m p q) zs)
      by (by_index e) = traps_more (omega arith) (traps_first (tail (checked_cells spot free name.text index i))
          (prepare_traps spot free b m p q f index i c zs fit e))
      by (by_nil x g z q5) =
          let k = item_facts name index i x zs h g in
          subst (λ c. Traps (prepare_cells spot free index i ++ tail (checked_cells spot free name.text index i))
          (prepare_steps index + checked_steps index) c (mem b f (keeping m p q) zs)) (sym q5) (checks x 5 g
          (checked_nil spot free b m p q f name.text index i x _ k.all k.sees.0 k.sees.1 k.sees.2 k.room k.gives
          k.reads (k.array ∙ z)))
      by (by_end x g n l q9) =
          let k = item_facts name index i x zs h g in
          let block = h.sees.1.room n in
          let head : slice_index (stored spot free b index i zs) (word_of spot b zs name.text)
          ≡ slice_index zs (word_of spot b zs name.text) = stored_below spot free b index i zs _ (omega arith) in
          let l' : slice_index (stored spot free b index i zs)
          (word_of spot b (stored spot free b index i zs) name.text) ≤ x = rw k.array (rw head l) in
          subst (λ c. Traps (prepare_cells spot free index i ++ tail (checked_cells spot free name.text index i))
          (prepare_steps index + checked_steps index) c (mem b f (keeping m p q) zs)) (sym q9) (checks x 9 g
          (checked_past spot free b m p q f name.text index i x _ k.all k.sees.0 k.sees.1 k.sees.2 k.room k.gives
          k.reads (λ e. n (sym k.array ∙ e)) l'))

  pub near_traps : (f : ℕ → ℕ) (m p q : ℕ) (name : Ident) (index : Expression) (i c : ℕ) (zs : List ℕ)
      → FitPlace (Item name index) i zs → place_address spot b zs (Item name index) ≡ Err c
      → Traps (prepare_cells spot free index i ++ (checked_cells spot free name.text index i ++ point_cells))
      (prepare_steps index + checked_steps index) c (mem b f (keeping m p q) zs)
  near_traps f m p q name index i c zs h n = front_traps f m p q name index i c zs h n (λ w. w ++ point_cells)
      (λ w k d z t. traps_first point_cells t)

  pub place_traps : (into : ℕ) (f : ℕ → ℕ) (m p q : ℕ) (target : Lvalue) (i c : ℕ) (zs : List ℕ) → FitPlace target i zs
      → place_address spot b zs target ≡ Err c → Traps (place_cells spot free target i into) (place_steps target) c
      (mem b f (keeping m p q) zs)
  place_traps into f m p q (Whole name) i c zs h n = absurd (cc)
  place_traps into f m p q (Item name index) i c zs h n = traps_more (omega arith)
      (front_traps f m p q name index i c zs h n (λ w. around (w ++ point_cells) (xor into RIGHT ∷ []))
      (λ w k d z t. traps_first ((xor into RIGHT ∷ []) ++ mirror_cells (w ++ point_cells))
      (traps_first point_cells t)))

  -- ---- a value kept in `AMOUNT`

  no_amount : (p q : ℕ) (zs : List ℕ) (e : Expression) → record (opened spot free b 0 p q zs e) { amount = 0 }
      ≡ opened spot free b 0 p q zs e
  no_amount p q zs (Number at word) = refl
  no_amount p q zs (Null at) = refl
  no_amount p q zs (Variable name) = refl
  no_amount p q zs (Element name index) = refl
  no_amount p q zs (Binary at o left right) = refl

  an_amount : (p q v : ℕ) (zs : List ℕ) (e : Expression)
      → record (opened spot free b 0 p q zs e) { amount = v } ≡ opened spot free b v p q zs e
  an_amount p q v zs (Number at word) = refl
  an_amount p q v zs (Null at) = refl
  an_amount p q v zs (Variable name) = refl
  an_amount p q v zs (Element name index) = refl
  an_amount p q v zs (Binary at o left right) = refl

  module _ (f : ℕ → ℕ) (p q : ℕ) (e : Expression) (i : ℕ) (zs : List ℕ) (fit : Fit spot free b e i zs) where
    pub fetch_goes : (v : ℕ) → number spot b zs e ≡ Ok v → Goes (fetch_cells spot free e i AMOUNT) (fetch_steps e)
        (mem b f (keeping 0 p q) zs) (mem b f (keeping v p q) (parted spot free b e i zs))
    fetch_goes v n =
        let zs1 : List ℕ = parted spot free b e i zs in
        let d = parts_done spot free b e i zs fit in
        let there : (m : ℕ) → Goes (open_cells spot free e i) (open_steps e) (mem b f (keeping m p q) zs1)
        (mem (based spot free b e) f (opened spot free b m p q zs1 e) (emptied spot free b e zs1)) =
        λ m. open_goes spot free b m p q f e i v zs1 d.all (parted_sees spot free b e i zs fit)
        (parted_room spot free b e i zs fit) d.parts (parted_number spot free b e i zs fit ∙ n) in
        let gives = open_gives spot free b 0 p q f e v zs1 (emptied spot free b e zs1)
        (parted_number spot free b e i zs fit ∙ n) in
        let sink = amount_goes (based spot free b e) (result_of e) (result_has spot free b 0 p q f e) f
        (opened spot free b 0 p q zs1 e)
        (emptied spot free b e zs1) v gives in
        let kept = goes_to refl (ap (λ s. mem (based spot free b e) f s (emptied spot free b e zs1))
        (no_amount p q zs1 e))
        (ap (λ s. mem (based spot free b e) f s (emptied spot free b e zs1)) (an_amount p q v zs1 e)) sink in
        goes_seq (parts_goes spot free b 0 p q f e i v zs fit n) (goes_around (there 0) kept (there v))

    pub fetch_traps : (c : ℕ) → number spot b zs e ≡ Err c
        → Traps (fetch_cells spot free e i AMOUNT) (fetch_steps e) c (mem b f (keeping 0 p q) zs)
    fetch_traps c n = traps_more (omega arith) (fault_then spot free b 0 p q f e i c zs
        (node_fault spot free b 0 p q f e i c zs fit n) ((xor AMOUNT (result_of e) ∷ [])
        ++ mirror_cells (open_cells spot free e i)))
