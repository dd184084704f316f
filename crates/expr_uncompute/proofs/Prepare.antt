-- Every element and operator of an expression computed once into its word of the frame.
use Rattle.std.proofs.Common.{◌≡◌, ℕ, ◌+◌, ◌^◌, ◌<◌, ◌≤◌, inl, inr, List, [], ◌∷◌, ◌++◌, length, refl, sym, ap, ◌∙◌}
use Rattle.std.proofs.Common.{subst, arith, ⊎_elim}
use Rattle.std.specs.Prelude.{slice_index, slice_set, Result, Ok, Err}
use Rattle.register_expressions.specs.rpp_tree.declared.tree.BinOp.{BinOp}
use Rattle.register_expressions.specs.rpp_tree.declared.tree.Ident.{Ident}
use Rattle.register_expressions.specs.rpp_tree.Tree.{Expression, Number, Null, Variable, Element, Binary}
use Rattle.register_expressions.specs.pisa_isa.Machine.{Memory}
use Rattle.register_expressions.specs.code_conventions.declared.registers.TheConstants.{ITEM, RIGHT}
use Rattle.register_expressions.specs.paired_code.Layout.{mirror_cells}
use Rattle.register_expressions.specs.paired_code.declared.part.Symbol.{Symbol}
use Rattle.register_expressions.specs.refine_form.declared.spot.Spot.{Spot}
use Rattle.register_expressions.specs.refine_form.declared.spot.Spot.TheVariants.{Frame}
use Rattle.register_expressions.specs.Code.{words, point_cells, exch, store_cells}
use Rattle.expr_uncompute.specs.Code.{open_cells}
use Rattle.register_expressions.specs.Code.{operator_result}
use Rattle.expr_uncompute.specs.Code.{prepare_cells, parts_cells}
use Rattle.register_expressions.specs.Number.{Bases, word_given, word_of, number, element_at, word_in, Sees}
use Rattle.expr_uncompute.specs.Steps.{open_steps, prepare_steps, parts_steps}
use Rattle.register_expressions.proofs.Goes.{Goes, Traps, nothing, goes_seq, goes_to, traps_first, traps_then}
use Rattle.register_expressions.proofs.Goes.{traps_more}
use Rattle.register_expressions.proofs.Scratch.{keeping, mem}
use Rattle.register_expressions.proofs.Numbers.{Agree, AllWords, number_same, sees_same, number_word, words_set}
use Rattle.expr_uncompute.proofs.Stored.{home, stored, parted, Reads, stored_length, stored_other, stored_below}
use Rattle.expr_uncompute.proofs.Stored.{stored_reads, reads_same}
use Rattle.expr_uncompute.proofs.Opening.{Room, Parted, open_traps}
use Rattle.expr_uncompute.proofs.Nodes.{binary_node, element_node}
use Rattle.register_expressions.proofs.Ways.{err_is, both_ok, one_err, inside_of, address_of_word}

module _ (spot : List ℕ → Spot) (free : ℕ) (b : Bases) where
  abbrev low : ℕ
  low = b.frame + free

  -- an expression can be prepared from word i on
  pub record Fit (e : Expression) (i : ℕ) (zs : List ℕ) : Type 0 where
    pub all : AllWords zs
    pub sees : Sees spot b low zs e
    pub room : Room spot free b e i zs
    pub empty : (a : ℕ) → home spot free b i ≤ a → a < home spot free b (i + words e) → slice_index zs a ≡ 0

  given_word : (zs : List ℕ) → AllWords zs → (e : Expression) → Sees spot b low zs e → (r : Result ℕ ℕ)
      → number spot b zs e ≡ r → word_given r < 2 ^ 32
  given_word zs w e s (Ok v) q = number_word spot b low zs w e s v q
  given_word zs w e s (Err c) q = omega arith

  pub stored_words : (e : Expression) (i : ℕ) (zs : List ℕ) → AllWords zs → Sees spot b low zs e
      → AllWords (stored spot free b e i zs)
  stored_words (Number at word) i zs w s = w
  stored_words (Null at) i zs w s = w
  stored_words (Variable name) i zs w s = w
  stored_words (Element name index) i zs w s = words_set (stored spot free b index (i + 1) zs) (home spot free b i) _
      (stored_words index (i + 1) zs w s.2) (given_word zs w (Element name index) s _ refl)
  stored_words (Binary at o left right) i zs w s =
      let zs1 = stored spot free b left (i + 1) zs in
      let w1 = stored_words left (i + 1) zs w s.0 in
      words_set (stored spot free b right (i + 1 + words left) zs1) (home spot free b i) _
      (stored_words right (i + 1 + words left) zs1 w1 (sees_same spot b low zs zs1
      (stored_below spot free b left (i + 1) zs) right s.1)) (given_word zs w (Binary at o left right) s _ refl)

  -- what is so with the parts prepared
  pub record PartsDone (e : Expression) (i : ℕ) (zs : List ℕ) : Type 0 where
    pub all : AllWords (parted spot free b e i zs)
    pub below : Agree low zs (parted spot free b e i zs)
    pub parts : Parted spot free b (parted spot free b e i zs) e i
    pub count : length (parted spot free b e i zs) ≡ length zs
    pub own : slice_index (parted spot free b e i zs) (home spot free b i) ≡ slice_index zs (home spot free b i)

  -- of a part
  part_left : (at : ℕ) (o : BinOp) (left right : Expression) (i : ℕ) (zs : List ℕ) → Fit (Binary at o left right) i zs
      → Fit left (i + 1) zs
  part_left at o left right i zs h = record {
    all = h.all;
    sees = h.sees.0;
    room = record { fits = let l = h.room.fits in omega arith; small = h.room.small };
    empty = λ a lo hi. h.empty a (omega arith) (omega arith);
  }

  part_right : (at : ℕ) (o : BinOp) (left right : Expression) (i : ℕ) (zs : List ℕ) → Fit (Binary at o left right) i zs
      → Fit right (i + 1 + words left) (stored spot free b left (i + 1) zs)
  part_right at o left right i zs h = record {
    all = stored_words left (i + 1) zs h.all h.sees.0;
    sees = sees_same spot b low zs _ (stored_below spot free b left (i + 1) zs) right h.sees.1;
    room = record {
      fits = rw (stored_length spot free b left (i + 1) zs) (let l = h.room.fits in omega arith);
      small = rw (stored_length spot free b left (i + 1) zs) h.room.small;
    };
    empty = λ a lo hi. stored_other spot free b left (i + 1) zs a (inr (omega arith))
        ∙ h.empty a (omega arith) (omega arith);
  }

  part_index : (name : Ident) (index : Expression) (i : ℕ) (zs : List ℕ) → Fit (Element name index) i zs
      → Fit index (i + 1) zs
  part_index name index i zs h = record {
    all = h.all;
    sees = h.sees.2;
    room = record { fits = let l = h.room.fits in omega arith; small = h.room.small };
    empty = λ a lo hi. h.empty a (omega arith) (omega arith);
  }

  pub parts_done : (e : Expression) (i : ℕ) (zs : List ℕ) → Fit e i zs → PartsDone e i zs
  parts_done (Number at word) i zs h = record { all = h.all; below = λ a l. refl; parts = tt; count = refl; own = refl }
  parts_done (Null at) i zs h = record { all = h.all; below = λ a l. refl; parts = tt; count = refl; own = refl }
  parts_done (Variable name) i zs h = record { all = h.all; below = λ a l. refl; parts = tt; count = refl; own = refl }
  parts_done (Element name index) i zs h = record {
    all = stored_words index (i + 1) zs h.all h.sees.2;
    below = stored_below spot free b index (i + 1) zs;
    parts = subst (Reads spot free b (stored spot free b index (i + 1) zs) index (i + 1))
        (sym (ap word_given (number_same spot b low zs _ (stored_below spot free b index (i + 1) zs) index h.sees.2)))
        (stored_reads spot free b index (i + 1) zs (let l = h.room.fits in omega arith));
    count = stored_length spot free b index (i + 1) zs;
    own = stored_other spot free b index (i + 1) zs (home spot free b i) (inl (omega arith));
  }
  parts_done (Binary at o left right) i zs h =
      let j : ℕ = i + 1 + words left in
      let zs1 : List ℕ = stored spot free b left (i + 1) zs in
      let zs2 : List ℕ = stored spot free b right j zs1 in
      let r = part_right at o left right i zs h in
      let b1 : Agree low zs zs1 = stored_below spot free b left (i + 1) zs in
      let b2 : Agree low zs1 zs2 = stored_below spot free b right j zs1 in
      let below : Agree low zs zs2 = λ a l. b2 a l ∙ b1 a l in
      let fits = h.room.fits in
      let s1 = sees_same spot b low zs zs1 b1 left h.sees.0 in
      let left_reads : Reads spot free b zs2 left (i + 1) (word_given (number spot b zs left)) =
      reads_same spot free b left (i + 1) _ zs1 zs2 s1 b2
      (λ a lo hi. stored_other spot free b right j zs1 a (inl (omega arith)))
      (stored_reads spot free b left (i + 1) zs (omega arith)) in
      let right_reads : Reads spot free b zs2 right j (word_given (number spot b zs1 right)) =
      stored_reads spot free b right j zs1 r.room.fits in
      record {
        all = stored_words right j zs1 r.all r.sees;
        below = below;
        parts = (
          subst (Reads spot free b zs2 left (i + 1)) (sym (ap word_given
              (number_same spot b low zs zs2 below left h.sees.0))) left_reads,
          subst (Reads spot free b zs2 right j) (sym (ap word_given (number_same spot b low zs1 zs2 b2 right r.sees)))
              right_reads,
        );
        count = stored_length spot free b right j zs1 ∙ stored_length spot free b left (i + 1) zs;
        own = stored_other spot free b right j zs1 (home spot free b i) (inl (omega arith))
            ∙ stored_other spot free b left (i + 1) zs (home spot free b i) (inl (omega arith));
      }

  -- so with its parts prepared an expression sees the same, and has the same number
  pub parted_sees : (e : Expression) (i : ℕ) (zs : List ℕ) → Fit e i zs → Sees spot b low (parted spot free b e i zs) e
  parted_sees e i zs h = sees_same spot b low zs _ (parts_done e i zs h).below e h.sees

  pub parted_number : (e : Expression) (i : ℕ) (zs : List ℕ) → Fit e i zs
      → number spot b (parted spot free b e i zs) e ≡ number spot b zs e
  parted_number e i zs h = number_same spot b low zs _ (parts_done e i zs h).below e h.sees

  pub parted_room : (e : Expression) (i : ℕ) (zs : List ℕ) → Fit e i zs
      → Room spot free b e i (parted spot free b e i zs)
  parted_room e i zs h = let c = (parts_done e i zs h).count in
      record { fits = rw c h.room.fits; small = rw c h.room.small }

  module _ (m p q : ℕ) (f : ℕ → ℕ) where
    pub prepare_goes : (e : Expression) (i v : ℕ) (zs : List ℕ) → Fit e i zs → number spot b zs e ≡ Ok v
        → Goes (prepare_cells spot free e i) (prepare_steps e) (mem b f (keeping m p q) zs)
        (mem b f (keeping m p q) (stored spot free b e i zs))
    prepare_goes (Number at word) i v zs h n = nothing _
    prepare_goes (Null at) i v zs h n = nothing _
    prepare_goes (Variable name) i v zs h n = nothing _
    prepare_goes (Element name index) i v zs h n =
        let whole : Expression = Element name index in
        let d = parts_done whole i zs h in
        let a = address_of_word zs (element_at zs (word_of spot b zs name.text) (number spot b zs index)) v n in
        let g = inside_of zs (word_of spot b zs name.text) (number spot b zs index) a.0 a.1 in
        let fits = h.room.fits in
        let zero : slice_index (parted spot free b whole i zs) (home spot free b i) ≡ 0 = d.own
        ∙ h.empty (home spot free b i) (omega arith) (omega arith) in
        let vw = number_word spot b low zs h.all whole h.sees v n in
        let node = element_node spot free b m p q f i v (parted spot free b whole i zs) d.all vw name index
        (parted_sees whole i zs h) (parted_room whole i zs h) d.parts (parted_number whole i zs h ∙ n) zero in
        goes_to refl refl (ap (λ z. mem b f (keeping m p q)
        (slice_set (parted spot free b whole i zs) (home spot free b i) (word_given z))) (sym n))
        (goes_seq (prepare_goes index (i + 1) g.x zs (part_index name index i zs h) g.index) node)
    prepare_goes (Binary at o left right) i v zs h n =
        let whole : Expression = Binary at o left right in
        let d = parts_done whole i zs h in
        let g = both_ok o (number spot b zs left) (number spot b zs right) v n in
        let fits = h.room.fits in
        let zero : slice_index (parted spot free b whole i zs) (home spot free b i) ≡ 0 = d.own
        ∙ h.empty (home spot free b i) (omega arith) (omega arith) in
        let vw = number_word spot b low zs h.all whole h.sees v n in
        let node = binary_node spot free b m p q f i v (parted spot free b whole i zs) d.all vw at o left right
        (parted_sees whole i zs h) (parted_room whole i zs h) d.parts (parted_number whole i zs h ∙ n) zero in
        let right_is = number_same spot b low zs (stored spot free b left (i + 1) zs)
        (stored_below spot free b left (i + 1) zs) right h.sees.1 ∙ g.right in
        goes_to refl refl (ap (λ z. mem b f (keeping m p q)
        (slice_set (parted spot free b whole i zs) (home spot free b i) (word_given z))) (sym n))
        (goes_seq (goes_seq (prepare_goes left (i + 1) g.x zs (part_left at o left right i zs h) g.left)
        (prepare_goes right (i + 1 + words left) g.y (stored spot free b left (i + 1) zs)
        (part_right at o left right i zs h) right_is)) node)

    -- the parts of an expression that has a number
    pub parts_goes : (e : Expression) (i v : ℕ) (zs : List ℕ) → Fit e i zs → number spot b zs e ≡ Ok v
        → Goes (parts_cells spot free e i) (parts_steps e) (mem b f (keeping m p q) zs)
        (mem b f (keeping m p q) (parted spot free b e i zs))
    parts_goes (Number at word) i v zs h n = nothing _
    parts_goes (Null at) i v zs h n = nothing _
    parts_goes (Variable name) i v zs h n = nothing _
    parts_goes (Element name index) i v zs h n =
        let a = address_of_word zs (element_at zs (word_of spot b zs name.text) (number spot b zs index)) v n in
        let g = inside_of zs (word_of spot b zs name.text) (number spot b zs index) a.0 a.1 in
        prepare_goes index (i + 1) g.x zs (part_index name index i zs h) g.index
    parts_goes (Binary at o left right) i v zs h n =
        let g = both_ok o (number spot b zs left) (number spot b zs right) v n in
        let right_is = number_same spot b low zs (stored spot free b left (i + 1) zs)
        (stored_below spot free b left (i + 1) zs) right h.sees.1 ∙ g.right in
        goes_seq (prepare_goes left (i + 1) g.x zs (part_left at o left right i zs h) g.left)
        (prepare_goes right (i + 1 + words left) g.y (stored spot free b left (i + 1) zs)
        (part_right at o left right i zs h) right_is)

    -- ---- faults

    -- in the parts, or where the node is opened
    pub data NodeFault (e : Expression) (i c : ℕ) (zs : List ℕ) : Type 0 where
      early : Traps (parts_cells spot free e i) (parts_steps e) c (mem b f (keeping m p q) zs) → NodeFault e i c zs
      late : {m1 : Memory} → Goes (parts_cells spot free e i) (parts_steps e) (mem b f (keeping m p q) zs) m1
          → Traps (open_cells spot free e i) (open_steps e) c m1 → NodeFault e i c zs

    -- what begins with them traps
    pub fault_then : (e : Expression) (i c : ℕ) (zs : List ℕ) → NodeFault e i c zs → (w : List Symbol)
        → Traps (parts_cells spot free e i ++ (open_cells spot free e i ++ w)) (parts_steps e + open_steps e) c
        (mem b f (keeping m p q) zs)
    fault_then e i c zs (early t) w = traps_more (omega arith) (traps_first (open_cells spot free e i ++ w) t)
    fault_then e i c zs (late g t) w = traps_then g (traps_first w t)

    prepared_traps : (e : Expression) (i c : ℕ) (zs : List ℕ) → number spot b zs e ≡ Err c → NodeFault e i c zs
        → Traps (prepare_cells spot free e i) (prepare_steps e) c (mem b f (keeping m p q) zs)
    prepared_traps (Number at word) i c zs n h = absurd (cc)
    prepared_traps (Null at) i c zs n h = absurd (cc)
    prepared_traps (Variable name) i c zs n h = absurd (cc)
    prepared_traps (Element name index) i c zs n h =
        let whole : Expression = Element name index in
        traps_more (omega arith) (fault_then whole i c zs h
        (store_cells (Frame (free + i)) ITEM ++ mirror_cells (open_cells spot free whole i)))
    prepared_traps (Binary at o left right) i c zs n h =
        let whole : Expression = Binary at o left right in
        traps_more (omega arith) (fault_then whole i c zs h
        (store_cells (Frame (free + i)) (operator_result o) ++ mirror_cells (open_cells spot free whole i)))

    pub node_fault : (e : Expression) (i c : ℕ) (zs : List ℕ) → Fit e i zs → number spot b zs e ≡ Err c
        → NodeFault e i c zs
    node_fault (Number at word) i c zs h n = absurd (cc)
    node_fault (Null at) i c zs h n = absurd (cc)
    node_fault (Variable name) i c zs h n = absurd (cc)
    node_fault (Element name index) i c zs h n = by (λ e. node_fault index (i + 1) c zs (part_index name index i zs h)
        e) (number spot b zs index) refl
      where
        part : Fit index (i + 1) zs
        part = part_index name index i zs h

        by : (number spot b zs index ≡ Err c → NodeFault index (i + 1) c zs) → (r : Result ℕ ℕ)
            → number spot b zs index ≡ r → NodeFault (Element name index) i c zs
        by again (Err d) e =
            let same : d ≡ c = err_is (ap (λ r. word_in zs (element_at zs (word_of spot b zs name.text) r)) (sym e) ∙ n)
            in
            early (prepared_traps index (i + 1) c zs (e ∙ ap Err same) (again (e ∙ ap Err same)))
        by again (Ok x) e =
            let whole : Expression = Element name index in
            let d = parts_done whole i zs h in
            let g : number spot b (parted spot free b whole i zs) index ≡ Ok x =
            number_same spot b low zs _ d.below index h.sees.2 ∙ e in
            late (prepare_goes index (i + 1) x zs part e) (traps_more (omega arith)
            (traps_first (point_cells ++ exch ITEM RIGHT ∷ [])
            (open_traps spot free b m p q f 0 name index i x c (parted spot free b whole i zs) d.all
            (parted_sees whole i zs h) (parted_room whole i zs h) d.parts g
            (parted_number whole i zs h ∙ n))))
    node_fault (Binary at o left right) i c zs h n =
        ⊎_elim (λ l. first l (node_fault left (i + 1) c zs (part_left at o left right i zs h) l))
        (λ r. second r.0 r.1 r.2 (λ k. node_fault right (i + 1 + words left) c (stored spot free b left (i + 1) zs)
        (part_right at o left right i zs h) k)) (one_err o (number spot b zs left) (number spot b zs right) c n)
      where
        j : ℕ
        j = i + 1 + words left

        first : number spot b zs left ≡ Err c → NodeFault left (i + 1) c zs → NodeFault (Binary at o left right) i c zs
        first e sub = early (traps_more (omega arith) (traps_first (prepare_cells spot free right (i + 1 + words left))
            (prepared_traps left (i + 1) c zs e sub)))

        second : (x : ℕ) → number spot b zs left ≡ Ok x → number spot b zs right ≡ Err c
            → (number spot b (stored spot free b left (i + 1) zs) right ≡ Err c
            → NodeFault right (i + 1 + words left) c (stored spot free b left (i + 1) zs))
            → NodeFault (Binary at o left right) i c zs
        second x g e sub =
            let zs1 : List ℕ = stored spot free b left (i + 1) zs in
            let e1 : number spot b zs1 right ≡ Err c = number_same spot b low zs zs1
            (stored_below spot free b left (i + 1) zs) right h.sees.1 ∙ e in
            let fit = part_right at o left right i zs h in
            early (traps_then (prepare_goes left (i + 1) x zs (part_left at o left right i zs h) g)
            (prepared_traps right (i + 1 + words left) c zs1 e1 (sub e1)))

    pub prepare_traps : (e : Expression) (i c : ℕ) (zs : List ℕ) → Fit e i zs → number spot b zs e ≡ Err c
        → Traps (prepare_cells spot free e i) (prepare_steps e) c (mem b f (keeping m p q) zs)
    prepare_traps e i c zs h n = prepared_traps e i c zs n (node_fault e i c zs h n)
