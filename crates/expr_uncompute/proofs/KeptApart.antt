-- A changed element's array is none of those of which elements are read, or fault 16.
use Rattle.std.proofs.Common.{◌≡◌, ◌≢◌, ℕ, ◌+◌, ◌^◌, ◌<◌, ◌≤◌, Bool, true, false, List, ◌++◌, length, refl}
use Rattle.std.proofs.Common.{ap, ◌∙◌, arith}
use Rattle.std.specs.Prelude.{slice_index, slice_set, nat_eq, ◌||◌}
use Rattle.std.proofs.lemmas.Bool.Decides.{nat_tests}
use Rattle.register_expressions.specs.pisa_isa.Machine.{Memory}
use Rattle.register_expressions.specs.rpp_tree.Tree.{Expression, Number, Null, Variable, Element, Binary, Lvalue, Whole, Item}
use Rattle.register_expressions.specs.code_conventions.declared.faults.TheConstants.{SHARED_ARRAY}
use Rattle.register_expressions.specs.code_conventions.declared.registers.TheConstants.{CONTENT, LEFT}
use Rattle.register_expressions.specs.paired_code.Layout.{Differ}
use Rattle.register_expressions.specs.refine_form.declared.spot.Spot.{Spot}
use Rattle.register_expressions.specs.Number.{Bases, spot_address, word_of, lvalue_read, index_of, reads_array, shares}
use Rattle.register_expressions.specs.Number.{swap_shares, Sees}
use Rattle.register_expressions.specs.Code.{reach_cells, copy_cells}
use Rattle.expr_uncompute.specs.Code.{compare_cells, compare_all, apart_cells, both_apart_cells}
use Rattle.expr_uncompute.specs.Steps.{compare_steps, apart_steps, both_apart_steps}
use Rattle.register_expressions.proofs.Goes.{Goes, Traps, nothing, goes_seq, goes_around, goes_check, traps_check}
use Rattle.register_expressions.proofs.Goes.{traps_mid, traps_then, traps_first, traps_more}
use Rattle.register_expressions.proofs.Numbers.{Agree}
use Rattle.register_expressions.proofs.Reading.{moved, reach_goes, copy_goes, left_takes}
use Rattle.register_expressions.proofs.Scratch.{keeping, mem}

pub neither : (x y : Bool) → (x || y) ≡ false → (x ≡ false) × (y ≡ false)
neither false y e = (refl, e)
neither true y e = absurd (cc)

module _ (spot : List ℕ → Spot) (b : Bases) (low : ℕ) where
  -- what is read is below an address: there the words decide
  pub reads_same : (zs zs' : List ℕ) → Agree low zs zs' → (y : ℕ) (e : Expression) → Sees spot b low zs e
      → reads_array spot b zs' y e ≡ reads_array spot b zs y e
  reads_same zs zs' ag y (Number at word) s = refl
  reads_same zs zs' ag y (Null at) s = refl
  reads_same zs zs' ag y (Variable name) s = refl
  reads_same zs zs' ag y (Element name index) s =
      ap (λ z. nat_eq y z || reads_array spot b zs' y index) (ag _ s.0)
      ∙ ap (λ t. nat_eq y (word_of spot b zs name.text) || t) (reads_same zs zs' ag y index s.2)
  reads_same zs zs' ag y (Binary at op left right) s =
      ap (λ t. t || reads_array spot b zs' y right) (reads_same zs zs' ag y left s.0)
      ∙ ap (λ t. reads_array spot b zs y left || t) (reads_same zs zs' ag y right s.1)

  pub shares_same : (zs zs' : List ℕ) → Agree low zs zs' → (target : Lvalue) (e e' : Expression)
      → Sees spot b low zs (lvalue_read target) → Sees spot b low zs e → Sees spot b low zs e'
      → shares spot b zs' target e e' ≡ shares spot b zs target e e'
  shares_same zs zs' ag (Whole name) e e' s t t' = refl
  shares_same zs zs' ag (Item name index) e e' s t t' =
      ap (λ y. reads_array spot b zs' y e || reads_array spot b zs' y e') (ag _ s.0)
      ∙ ap (λ t. t || reads_array spot b zs' (word_of spot b zs name.text) e')
      (reads_same zs zs' ag (word_of spot b zs name.text) e t)
      ∙ ap (λ t. reads_array spot b zs (word_of spot b zs name.text) e || t)
      (reads_same zs zs' ag (word_of spot b zs name.text) e' t')

  -- the index of a place is seen with it
  pub index_seen : (target : Lvalue) (zs : List ℕ) → Sees spot b low zs (lvalue_read target)
      → Sees spot b low zs (index_of target)
  index_seen (Whole name) zs s = tt
  index_seen (Item name index) zs s = s.2

  pub swap_shares_same : (zs zs' : List ℕ) → Agree low zs zs' → (left right : Lvalue)
      → Sees spot b low zs (lvalue_read left) → Sees spot b low zs (lvalue_read right)
      → swap_shares spot b zs' left right ≡ swap_shares spot b zs left right
  swap_shares_same zs zs' ag left right s t =
      ap (λ z. z || shares spot b zs' right (index_of left) (index_of right))
      (shares_same zs zs' ag left (index_of left) (index_of right) s (index_seen left zs s) (index_seen right zs t))
      ∙ ap (λ z. shares spot b zs left (index_of left) (index_of right) || z)
      (shares_same zs zs' ag right (index_of left) (index_of right) t (index_seen left zs s)
      (index_seen right zs t))

  module _ (f : ℕ → ℕ) (v p q : ℕ) (zs : List ℕ) (fits : low ≤ length zs) (small : length zs ≤ 2 ^ 31) where
    abbrev here : Memory
    here = mem b f (keeping v p q) zs

    abbrev word : Spot → ℕ
    word x = slice_index zs (spot_address b x)

    -- ---- two words

    abbrev compared : (x y : Spot) → Memory
    compared x y = mem (moved b y) f (record (keeping v p q)
        { a = slice_index zs (spot_address b x); content = slice_index zs (spot_address b y) })
        (slice_set zs (spot_address b y) 0)

    both_there : (x y : Spot) → spot_address b x < length zs → spot_address b y < length zs
        → Goes (copy_cells x LEFT ++ reach_cells y) 7 (mem b f (keeping v p q) zs) (compared x y)
    both_there x y h k =
        let u : ℕ = slice_index zs (spot_address b x) in
        goes_seq (copy_goes b zs x h small refl (left_takes b f (keeping v p q) u))
        (reach_goes b f (record (keeping v p q) { a = u }) zs y k small)

    other_words : (x y : ℕ) → nat_eq x y ≡ false → x ≢ y
    other_words x y e q = grind (arith, nat_tests)

    same_words : (x y : ℕ) → nat_eq x y ≡ true → x ≡ y
    same_words x y e = grind (arith, nat_tests)

    compare_goes : (x y : Spot) → spot_address b x < length zs → spot_address b y < length zs
        → nat_eq (slice_index zs (spot_address b x)) (slice_index zs (spot_address b y)) ≡ false
        → Goes (compare_cells x y) 16 (mem b f (keeping v p q) zs) (mem b f (keeping v p q) zs)
    compare_goes x y h k e = goes_around (both_there x y h k)
        (goes_check (Differ LEFT CONTENT) SHARED_ARRAY _ (other_words (word x) (word y) e)) (both_there x y h k)

    compare_traps : (x y : Spot) → spot_address b x < length zs → spot_address b y < length zs
        → nat_eq (slice_index zs (spot_address b x)) (slice_index zs (spot_address b y)) ≡ true
        → Traps (compare_cells x y) 8 16 (mem b f (keeping v p q) zs)
    compare_traps x y h k e = traps_mid (both_there x y h k)
        (traps_check (Differ LEFT CONTENT) SHARED_ARRAY _ (same_words (word x) (word y) e))

    -- ---- all elements that an expression reads

    module _ (x : Spot) (there : spot_address b x < length zs) where
      all_go : (e : Expression) → Sees spot b low zs e → reads_array spot b zs (slice_index zs (spot_address b x)) e
          ≡ false → Goes (compare_all spot x e) (compare_steps e) (mem b f (keeping v p q) zs)
          (mem b f (keeping v p q) zs)
      all_go (Number at word) s h = nothing _
      all_go (Null at) s h = nothing _
      all_go (Variable name) s h = nothing _
      all_go (Element name index) s h =
          let n = neither (nat_eq (slice_index zs (spot_address b x)) (word_of spot b zs name.text)) _ h in
          let l = s.0 in
          goes_seq (compare_goes x (spot name.text) there (omega arith) n.0) (all_go index s.2 n.1)
      all_go (Binary at op left right) s h =
          let n = neither (reads_array spot b zs (slice_index zs (spot_address b x)) left) _ h in
          goes_seq (all_go left s.0 n.0) (all_go right s.1 n.1)

      -- the first decides, or the rest
      element_by : (y : Spot) (rest : Expression) → spot_address b y < length zs → (t : Bool)
          → nat_eq (slice_index zs (spot_address b x)) (slice_index zs (spot_address b y)) ≡ t
          → (t || reads_array spot b zs (slice_index zs (spot_address b x)) rest) ≡ true
          → (reads_array spot b zs (slice_index zs (spot_address b x)) rest ≡ true
          → Traps (compare_all spot x rest) (compare_steps rest) 16 (mem b f (keeping v p q) zs))
          → Traps (compare_cells x y ++ compare_all spot x rest) (16 + compare_steps rest) 16
          (mem b f (keeping v p q) zs)
      element_by y rest k true e h r = traps_more (omega arith)
          (traps_first (compare_all spot x rest) (compare_traps x y there k e))
      element_by y rest k false e h r = traps_then (compare_goes x y there k e) (r h)

      sides_by : (left right : Expression) → Sees spot b low zs left → (t : Bool)
          → reads_array spot b zs (slice_index zs (spot_address b x)) left ≡ t
          → (t || reads_array spot b zs (slice_index zs (spot_address b x)) right) ≡ true
          → (reads_array spot b zs (slice_index zs (spot_address b x)) left ≡ true
          → Traps (compare_all spot x left) (compare_steps left) 16 (mem b f (keeping v p q) zs))
          → (reads_array spot b zs (slice_index zs (spot_address b x)) right ≡ true
          → Traps (compare_all spot x right) (compare_steps right) 16 (mem b f (keeping v p q) zs))
          → Traps (compare_all spot x left ++ compare_all spot x right) (compare_steps left + compare_steps right) 16
          (mem b f (keeping v p q) zs)
      sides_by left right s true e h l r = traps_more (omega arith) (traps_first (compare_all spot x right) (l e))
      sides_by left right s false e h l r = traps_then (all_go left s e) (r h)

      all_trap : (e : Expression) → Sees spot b low zs e → reads_array spot b zs (slice_index zs (spot_address b x)) e
          ≡ true → Traps (compare_all spot x e) (compare_steps e) 16 (mem b f (keeping v p q) zs)
      all_trap (Number at word) s h = absurd (cc)
      all_trap (Null at) s h = absurd (cc)
      all_trap (Variable name) s h = absurd (cc)
      all_trap (Element name index) s h =
          let l = s.0 in
          element_by (spot name.text) index (omega arith) (nat_eq (slice_index zs (spot_address b x))
          (word_of spot b zs name.text)) refl h (λ r. all_trap index s.2 r)
      all_trap (Binary at op left right) s h =
          sides_by left right s.0 (reads_array spot b zs (slice_index zs (spot_address b x)) left) refl h
          (λ l. all_trap left s.0 l) (λ r. all_trap right s.1 r)

    -- ---- the check of a place

    pub apart_goes : (target : Lvalue) (e e' : Expression) → Sees spot b low zs (lvalue_read target)
        → Sees spot b low zs e
        → Sees spot b low zs e' → shares spot b zs target e e' ≡ false
        → Goes (apart_cells spot target e e') (apart_steps target e e') (mem b f (keeping v p q) zs)
        (mem b f (keeping v p q) zs)
    apart_goes (Whole name) e e' s t t' h = nothing _
    apart_goes (Item name index) e e' s t t' h =
        let n = neither (reads_array spot b zs (word_of spot b zs name.text) e) _ h in
        let l = s.0 in
        goes_seq (all_go (spot name.text) (omega arith) e t n.0) (all_go (spot name.text) (omega arith) e' t' n.1)

    pub apart_traps : (target : Lvalue) (e e' : Expression) → Sees spot b low zs (lvalue_read target)
        → Sees spot b low zs e
        → Sees spot b low zs e' → shares spot b zs target e e' ≡ true
        → Traps (apart_cells spot target e e') (apart_steps target e e') 16 (mem b f (keeping v p q) zs)
    apart_traps (Whole name) e e' s t t' h = absurd (cc)
    apart_traps (Item name index) e e' s t t' h =
        let l = s.0 in
        sides_by (spot name.text) (omega arith) e e' t (reads_array spot b zs (word_of spot b zs name.text) e) refl h
        (λ l. all_trap (spot name.text) (omega arith) e t l) (λ r. all_trap (spot name.text) (omega arith) e' t' r)

    -- of both places of a swap
    pub both_apart_go : (left right : Lvalue) → Sees spot b low zs (lvalue_read left)
        → Sees spot b low zs (lvalue_read right)
        → swap_shares spot b zs left right ≡ false → Goes (both_apart_cells spot left right)
        (both_apart_steps left right) (mem b f (keeping v p q) zs) (mem b f (keeping v p q) zs)
    both_apart_go left right s t h =
        let n = neither (shares spot b zs left (index_of left) (index_of right)) _ h in
        let i = index_seen left zs s in
        let j = index_seen right zs t in
        goes_seq (apart_goes left (index_of left) (index_of right) s i j n.0)
        (apart_goes right (index_of left) (index_of right) t i j n.1)

    both_by : (left right : Lvalue) → Sees spot b low zs (lvalue_read left) → Sees spot b low zs (lvalue_read right)
        → (u : Bool) → shares spot b zs left (index_of left) (index_of right) ≡ u
        → (u || shares spot b zs right (index_of left) (index_of right)) ≡ true
        → Traps (both_apart_cells spot left right) (both_apart_steps left right) 16 (mem b f (keeping v p q) zs)
    both_by left right s t true e h =
        traps_more (omega arith) (traps_first (apart_cells spot right (index_of left) (index_of right))
        (apart_traps left (index_of left) (index_of right) s (index_seen left zs s) (index_seen right zs t) e))
    both_by left right s t false e h =
        let i = index_seen left zs s in
        let j = index_seen right zs t in
        traps_then (apart_goes left (index_of left) (index_of right) s i j e)
        (apart_traps right (index_of left) (index_of right) t i j h)

    pub both_apart_traps : (left right : Lvalue) → Sees spot b low zs (lvalue_read left)
        → Sees spot b low zs (lvalue_read right) → swap_shares spot b zs left right ≡ true
        → Traps (both_apart_cells spot left right) (both_apart_steps left right) 16 (mem b f (keeping v p q) zs)
    both_apart_traps left right s t h = both_by left right s t (shares spot b zs left (index_of left) (index_of right))
        refl h
