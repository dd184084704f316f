-- One node computed into its word of the frame.
use Rattle.std.proofs.Common.{◌≡◌, ◌≢◌, ℕ, ◌+◌, ◌^◌, ◌<◌, ◌≤◌, List, length, length-set, refl, sym, ap, ◌∙◌, subst}
use Rattle.std.proofs.Common.{arith}
use Rattle.std.specs.Prelude.{slice_index, slice_set, Result, Ok, Err}
use Rattle.std.proofs.lemmas.List.{get_or-set_other, set_comm}
use Rattle.register_expressions.specs.code_conventions.declared.memory.TheConstants.{HEADER_WORDS}
use Rattle.register_expressions.specs.rpp_tree.declared.tree.BinOp.{BinOp}
use Rattle.register_expressions.specs.rpp_tree.declared.tree.BinOp.TheVariants as op
use Rattle.register_expressions.specs.rpp_tree.declared.tree.Ident.{Ident}
use Rattle.register_expressions.specs.rpp_tree.Tree.{Expression, Element, Binary}
use Rattle.register_expressions.specs.refine_form.declared.spot.Spot.{Spot}
use Rattle.register_expressions.specs.refine_form.declared.spot.Spot.TheVariants.{Frame}
use Rattle.register_expressions.specs.Code.{words, around, store_cells, operator_result}
use Rattle.expr_uncompute.specs.Code.{open_cells}
use Rattle.register_expressions.specs.Number.{Bases, word_given, word_of, number, element_at, Sees}
use Rattle.register_expressions.specs.Steps.{around_steps}
use Rattle.expr_uncompute.specs.Steps.{open_steps}
use Rattle.register_expressions.proofs.Goes.{Goes, goes_to, goes_around}
use Rattle.register_expressions.proofs.Scratch.{keeping, mem}
use Rattle.register_expressions.proofs.Operators.{operands, operated_scratch}
use Rattle.register_expressions.proofs.Reading.{store_goes}
use Rattle.register_expressions.proofs.Results.{content_goes}
use Rattle.register_expressions.proofs.Numbers.{Agree, AllWords, number_same, sees_same, words_set}
use Rattle.expr_uncompute.proofs.Stored.{home, Reads, reads_same}
use Rattle.expr_uncompute.proofs.Opening.{Room, Parted, element_place, opened, open_goes, open_gives, result_has}
use Rattle.register_expressions.proofs.Ways.{ok_is, inside_of, address_of_word}
use Rattle.register_expressions.specs.code_conventions.declared.registers.TheConstants.{CONTENT, ITEM}

operator_apart : (o : BinOp) → operator_result o ≢ CONTENT
operator_apart op.Add e = omega arith
operator_apart op.Sub e = omega arith
operator_apart op.Xor e = omega arith
operator_apart _ e = omega arith

module _ (spot : List ℕ → Spot) (free : ℕ) (b : Bases) where
  abbrev low : ℕ
  low = b.frame + free

  given_ok : (r : Result ℕ ℕ) (x : ℕ) → r ≡ Ok x → r ≡ Ok (word_given r)
  given_ok (Ok y) x e = refl
  given_ok (Err c) x e = absurd (cc)

  -- the address of an element that is there is below
  pub place_low : (name : Ident) (index : Expression) (v : ℕ) (zs : List ℕ) → Sees spot b low zs (Element name index)
      → number spot b zs (Element name index) ≡ Ok v → element_place spot free b zs name.text index < low
  place_low name index v zs s e =
      let a = address_of_word zs (element_at zs (word_of spot b zs name.text) (number spot b zs index)) v e in
      let n = inside_of zs (word_of spot b zs name.text) (number spot b zs index) a.0 a.1 in
      let same : n.x ≡ word_given (number spot b zs index) = ok_is (sym n.index ∙ given_ok _ n.x n.index) in
      let block = s.1.room n.array_is in
      let below = n.below in
      omega arith

  module _ (m p q : ℕ) (f : ℕ → ℕ) (i v : ℕ) (zs : List ℕ) (w : AllWords zs) (vw : v < 2 ^ 32) where
    after : List ℕ
    after = slice_set zs (home spot free b i) v

    agrees : Agree low zs (slice_set zs (home spot free b i) v)
    agrees a h = get_or-set_other zs (home spot free b i) a v 0 (λ e. omega arith)

    away : (a : ℕ) → a ≢ home spot free b i → slice_index (slice_set zs (home spot free b i) v) a ≡ slice_index zs a
    away a n = get_or-set_other zs (home spot free b i) a v 0 n

    room_after : (e : Expression) → Room spot free b e i zs → Room spot free b e i (slice_set zs (home spot free b i) v)
    room_after e r = record {
      fits = rw (length-set zs (home spot free b i) v) r.fits;
      small = rw (length-set zs (home spot free b i) v) r.small;
    }

    value_after : (e : Expression) → Sees spot b low zs e
        → word_given (number spot b (slice_set zs (home spot free b i) v) e) ≡ word_given (number spot b zs e)
    value_after e s = ap word_given (number_same spot b low zs _ agrees e s)

    part_reads : (d : Expression) (j : ℕ) → i < j → Sees spot b low zs d
        → Reads spot free b zs d j (word_given (number spot b zs d))
        → Reads spot free b (slice_set zs (home spot free b i) v) d j
        (word_given (number spot b (slice_set zs (home spot free b i) v) d))
    part_reads d j l s r =
        subst (Reads spot free b (slice_set zs (home spot free b i) v) d j) (sym (value_after d s))
        (reads_same spot free b d j _ zs _ s agrees (λ a lo hi. away a (λ e. omega arith)) r)

    pub binary_node : (at : ℕ) (o : BinOp) (left right : Expression) → Sees spot b low zs (Binary at o left right)
        → Room spot free b (Binary at o left right) i zs → Parted spot free b zs (Binary at o left right) i
        → number spot b zs (Binary at o left right) ≡ Ok v → slice_index zs (home spot free b i) ≡ 0
        → Goes (around (open_cells spot free (Binary at o left right) i)
        (store_cells (Frame (free + i)) (operator_result o)))
        (around_steps (open_steps (Binary at o left right)) 5) (mem b f (keeping m p q) zs)
        (mem b f (keeping m p q) (slice_set zs (home spot free b i) v))
    binary_node at o left right s r k e z =
        let whole : Expression = Binary at o left right in
        let h : home spot free b i < length zs = let l = r.fits in omega arith in
        let first = open_goes spot free b m p q f whole i v zs w s r k e in
        let sink = content_goes b (operator_result o) (operator_apart o) (result_has spot free b m p q f whole) f
        (opened spot free b m p q zs whole) v (λ zs'. open_gives spot free b m p q f whole v zs zs' e) in
        let store = store_goes b (operator_result o) v f (opened spot free b m p q zs whole) zs (Frame (free + i)) h
        r.small z sink in
        let zs2 : List ℕ = slice_set zs (home spot free b i) v in
        let s2 = sees_same spot b low zs zs2 agrees whole s in
        let parts2 : Parted spot free b zs2 whole i = (
          part_reads left (i + 1) (omega arith) s.0 k.0,
          part_reads right (i + 1 + words left) (omega arith) s.1 k.1,
        ) in
        let last = open_goes spot free b m p q f whole i v zs2 (words_set zs (home spot free b i) v w vw) s2
        (room_after whole r) parts2 (number_same spot b low zs zs2 agrees whole s ∙ e) in
        let same : opened spot free b m p q zs2 whole ≡ opened spot free b m p q zs whole =
        ap (λ x. operated_scratch m p q o x (word_given (number spot b zs2 right))) (value_after left s.0)
        ∙ ap (operated_scratch m p q o (word_given (number spot b zs left))) (value_after right s.1) in
        goes_around first store (goes_to refl refl (ap (λ t. mem b f t zs2) same) last)

    pub element_node : (name : Ident) (index : Expression) → Sees spot b low zs (Element name index)
        → Room spot free b (Element name index) i zs → Parted spot free b zs (Element name index) i
        → number spot b zs (Element name index) ≡ Ok v → slice_index zs (home spot free b i) ≡ 0
        → Goes (around (open_cells spot free (Element name index) i) (store_cells (Frame (free + i)) ITEM))
        (around_steps (open_steps (Element name index)) 5) (mem b f (keeping m p q) zs)
        (mem b f (keeping m p q) (slice_set zs (home spot free b i) v))
    element_node name index s r k e z =
        let whole : Expression = Element name index in
        let pl : ℕ = element_place spot free b zs name.text index in
        let zs1 : List ℕ = slice_set zs pl 0 in
        let below : pl < low = place_low name index v zs s e in
        let n : home spot free b i ≢ pl = λ q. omega arith in
        let h : home spot free b i < length zs = let l = r.fits in omega arith in
        let h1 : home spot free b i < length zs1 = rw (length-set zs pl 0) h in
        let small1 : length zs1 ≤ 2 ^ 31 = rw (length-set zs pl 0) r.small in
        let z1 : slice_index zs1 (home spot free b i) ≡ 0 = get_or-set_other zs pl (home spot free b i) 0 0 n ∙ z in
        let first = open_goes spot free b m p q f whole i v zs w s r k e in
        let sink = content_goes b ITEM (λ q. omega arith) (result_has spot free b m p q f whole) f
        (opened spot free b m p q zs whole) v (λ zs'. open_gives spot free b m p q f whole v zs zs' e) in
        let store = store_goes b ITEM v f (opened spot free b m p q zs whole) zs1 (Frame (free + i)) h1 small1 z1 sink
        in
        let zs2 : List ℕ = slice_set zs (home spot free b i) v in
        let s2 = sees_same spot b low zs zs2 agrees whole s in
        let last = open_goes spot free b m p q f whole i v zs2 (words_set zs (home spot free b i) v w vw) s2
        (room_after whole r) (part_reads index (i + 1) (omega arith) s.2 k)
        (number_same spot b low zs zs2 agrees whole s ∙ e) in
        let arr : word_of spot b zs2 name.text ≡ word_of spot b zs name.text = agrees _ s.0 in
        let pl2 : element_place spot free b zs2 name.text index ≡ pl =
        ap (λ y. y + word_given (number spot b zs2 index) + HEADER_WORDS) arr
        ∙ ap (λ x. word_of spot b zs name.text + x + HEADER_WORDS) (value_after index s.2) in
        let same : opened spot free b m p q zs2 whole ≡ opened spot free b m p q zs whole =
        ap (λ x. record (operands m p q x (element_place spot free b zs2 name.text index))
        { item = slice_index zs2 (element_place spot free b zs2 name.text index) }) (value_after index s.2)
        ∙ ap (λ y. record (operands m p q (word_given (number spot b zs index)) y) { item = slice_index zs2 y }) pl2
        ∙ ap (λ y. record (operands m p q (word_given (number spot b zs index)) pl) { item = y }) (agrees pl below) in
        let cells : slice_set zs2 (element_place spot free b zs2 name.text index) 0
        ≡ slice_set zs1 (home spot free b i) v = ap (λ y. slice_set zs2 y 0) pl2
        ∙ set_comm zs (home spot free b i) pl v 0 n in
        goes_around first store (goes_to refl refl (ap (λ t. mem b f t
        (slice_set zs2 (element_place spot free b zs2 name.text index) 0)) same
        ∙ ap (mem b f (opened spot free b m p q zs whole)) cells) last)
