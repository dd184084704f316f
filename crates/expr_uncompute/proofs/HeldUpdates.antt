-- A word updated by a value whose subexpressions are in registers: the word of a variable, or of an
-- element that is found once.
use Rattle.std.proofs.Common.{◌≡◌, ◌≢◌, ℕ, zero, suc, ◌+◌, ◌-◌, ◌^◌, ◌<◌, ◌≤◌, ◌⊎◌, inl, inr, List, [], ◌∷◌, ◌++◌, ◌*◌}
use Rattle.std.proofs.Common.{length, false}
use Rattle.std.proofs.Common.{length-set, refl, sym, ap, ◌∙◌, subst, arith}
use Rattle.std.specs.Prelude.{true, slice_index, slice_set, Ok, Err}
use Rattle.std.proofs.lemmas.List.{get_or-set_same, set-set}
use Rattle.register_expressions.specs.rpp_words.Words.{sum_of, difference_of}
use Rattle.register_expressions.specs.rpp_tree.declared.tree.UpdateOp.{UpdateOp}
use Rattle.register_expressions.specs.rpp_tree.declared.tree.UpdateOp.TheVariants as update
use Rattle.register_expressions.specs.rpp_tree.declared.tree.Ident.{Ident}
use Rattle.register_expressions.specs.rpp_tree.Tree.{Expression, Number, Null, Variable, Element, Binary}
use Rattle.std.specs.Prelude.{bit_xor}
use Rattle.register_expressions.specs.pisa_isa.Machine.{Memory}
use Rattle.register_expressions.specs.code_conventions.declared.registers.TheConstants.{CONTENT, FRAME, OBJECT}
use Rattle.register_expressions.specs.paired_code.declared.part.Symbol.{Symbol}
use Rattle.register_expressions.specs.roopl_semantics.Operators.{updated}
use Rattle.register_expressions.specs.refine_form.declared.spot.Spot.{Spot}
use Rattle.register_expressions.specs.refine_form.declared.spot.Spot.TheVariants.{Field, Frame}
use Rattle.register_expressions.specs.Code.{around, base_of, reach_cells, part}
use Rattle.expr_uncompute.specs.Code.{update_cell}
use Rattle.register_expressions.specs.Code.{held_cells, element_cells}
use Rattle.expr_uncompute.specs.Code.{held_update_cells, near_middle, near_update_cells}
use Rattle.register_expressions.specs.Held.{need, has_element, kind}
use Rattle.register_expressions.specs.Number.{Bases, spot_address, word_given, word_of, number, element_at, IsArray}
use Rattle.register_expressions.specs.Number.{Sees}
use Rattle.register_expressions.specs.Number.{Same}
use Rattle.register_expressions.specs.Steps.{around_steps, element_steps, held_steps}
use Rattle.expr_uncompute.specs.Steps.{near_update_steps, operand_steps, prepare_steps}
use Rattle.register_expressions.proofs.Goes.{Goes, TrapsBoth, nothing, goes_seq, goes_to, goes_around, traps_first}
use Rattle.register_expressions.proofs.Goes.{traps_around}
use Rattle.register_expressions.proofs.HeldBounds.{need_least, neither_left, neither_right, operated_most}
use Rattle.register_expressions.proofs.Known.{known, word_out, reach_goes, xor_goes, add_goes, sub_goes, written_off}
use Rattle.register_expressions.proofs.Numbers.{AllWords, number_word}
use Rattle.register_expressions.proofs.Opened.{Free, Changes, Opens, Reads, Shows, HasElement, reads_self, is_number}
use Rattle.register_expressions.proofs.Opened.{more_change, less_free, still_free, held_opens, pointed, has_address}
use Rattle.register_expressions.proofs.Opened.{element_traps}
use Rattle.register_expressions.proofs.Results.{written}
use Rattle.register_expressions.proofs.Scratch.{keeping, registers, mem}
use Rattle.register_expressions.proofs.Ways.{IsInside, fault_of}

-- an index is opened in no more steps than it is prepared and read in
pub held_prepared : (e : Expression) → held_steps e ≤ prepare_steps e + 2 * operand_steps e + 1
held_prepared (Number at word) = omega arith
held_prepared (Null at) = omega arith
held_prepared (Variable name) = omega arith
held_prepared (Element name index) = let a = held_prepared index in omega arith
held_prepared (Binary at o left right) =
    let a = held_prepared left in
    let c = held_prepared right in
    let p = operated_most (kind o) o left right (held_steps left) (held_steps right) in
    omega arith

pub no_fault : {v c : ℕ} → Ok v ≡ Err c → ⊥
no_fault e = cc

module _ (b : Bases) (f : ℕ → ℕ) where
  -- the registers of a statement that keeps nothing
  abbrev none_kept : ℕ → ℕ
  none_kept = slice_index (registers b f (keeping 0 0 0))

  part_clear : (j : ℕ) → j < 9 → none_kept (part j) ≡ 0
  part_clear zero h = refl
  part_clear (suc zero) h = refl
  part_clear (suc (suc zero)) h = refl
  part_clear (suc (suc (suc zero))) h = refl
  part_clear (suc (suc (suc (suc zero)))) h = refl
  part_clear (suc (suc (suc (suc (suc zero))))) h = refl
  part_clear (suc (suc (suc (suc (suc (suc zero)))))) h = refl
  part_clear (suc (suc (suc (suc (suc (suc (suc zero))))))) h = refl
  part_clear (suc (suc (suc (suc (suc (suc (suc (suc zero)))))))) h = refl
  part_clear (suc (suc (suc (suc (suc (suc (suc (suc (suc j))))))))) h = absurd (omega arith)

  all_free : Free b 0 9 none_kept
  all_free = record {
    object_is = refl;
    frame_is = refl;
    content_is = refl;
    nought_is = refl;
    outcome_is = refl;
    clear = λ r lo hi. (let e : part (r - 16) ≡ r = omega arith in
        subst (λ k. none_kept k ≡ 0) e (part_clear (r - 16) (omega arith)));
  }

  known_is : (zs : List ℕ) → known 32 none_kept zs ≡ mem b f (keeping 0 0 0) zs
  known_is zs = refl

-- the word that is out, updated by a register of parts
module _ (k : ℕ) (hk : k < 9) where
  alter : (op : UpdateOp) (g : ℕ → ℕ) (ws : List ℕ) (x v : ℕ) → g (part k) ≡ v → x < 2 ^ 32 → v < 2 ^ 32
      → Goes (update_cell op CONTENT (part k) ∷ []) 1 (known 32 (written g CONTENT x) ws)
      (known 32 (written g CONTENT (updated op x v)) ws)
  alter update.Add g ws x v e h l = goes_to refl refl (ap (λ u. known 32 (written g CONTENT (sum_of x u)) ws) e)
      (add_goes 32 g ws CONTENT (omega arith) (part k) (omega arith) (λ e. omega arith) x h
      (subst (λ u. u < 2 ^ 32) (sym e) l))
  alter update.Sub g ws x v e h l = goes_to refl refl (ap (λ u. known 32 (written g CONTENT (difference_of x u)) ws) e)
      (sub_goes 32 g ws CONTENT (omega arith) (part k) (omega arith) (λ e. omega arith) x h
      (subst (λ u. u < 2 ^ 32) (sym e) l))
  alter update.Xor g ws x v e h l = goes_to refl refl (ap (λ u. known 32 (written g CONTENT (bit_xor x u)) ws) e)
      (xor_goes 32 g ws CONTENT (omega arith) (part k) (omega arith) (λ e. omega arith) x)

  -- between the cells that take it out and put it back
  around_alter : {w : List Symbol} {t : ℕ} (op : UpdateOp) (zs : List ℕ) (g h : ℕ → ℕ) (a v : ℕ) → h (part k) ≡ v
      → v < 2 ^ 32 → AllWords zs → a < length zs
      → ((ws : List ℕ) → length ws ≡ length zs → Goes w t (known 32 g ws)
      (known 32 (written h CONTENT (slice_index ws a)) (slice_set ws a 0)))
      → Goes (around w (update_cell op CONTENT (part k) ∷ [])) (t + (1 + t)) (known 32 g zs)
      (known 32 g (slice_set zs a (updated op (slice_index zs a) v)))
  around_alter op zs g h a v ev vw all l out =
      let x : ℕ = slice_index zs a in
      let y : ℕ = updated op x v in
      let ws : List ℕ = slice_set zs a y in
      goes_around (out zs refl) (alter op h (slice_set zs a 0) x v ev (all a) vw)
      (goes_to refl refl (ap (λ z. known 32 (written h CONTENT z) (slice_set ws a 0)) (get_or-set_same zs a y 0 l)
      ∙ ap (known 32 (written h CONTENT y)) (set-set zs a y 0)) (out ws (length-set zs a y)))

part_not : (sp : Spot) → part 0 ≢ base_of sp
part_not (Field i) e = omega arith
part_not (Frame i) e = omega arith

-- the word of a storage slot
word_goes : (b : Bases) (op : UpdateOp) (g : ℕ → ℕ) (zs : List ℕ) (sp : Spot) (v : ℕ) → g OBJECT ≡ b.object
    → g FRAME ≡ b.frame → g CONTENT ≡ 0 → g (part 0) ≡ v → AllWords zs → v < 2 ^ 32 → spot_address b sp < length zs
    → length zs ≤ 2 ^ 31
    → Goes (around (reach_cells sp) (update_cell op CONTENT (part 0) ∷ [])) 5 (known 32 g zs)
    (known 32 g (slice_set zs (spot_address b sp) (updated op (slice_index zs (spot_address b sp)) v)))
word_goes b op g zs sp v eo ef ec ep w vw h l =
    let a : ℕ = spot_address b sp in
    around_alter 0 (omega arith) op zs g (written g (base_of sp) a) a v
    (written_off g (base_of sp) a (part 0) (part_not sp) ∙ ep) vw w h
    (λ ws q. reach_goes 32 b g ws sp (omega arith) eo ef ec (rw q h) (rw q l))

-- the word at an address in the second register of parts
point_goes : (k : ℕ) → k < 9 → (op : UpdateOp) (g : ℕ → ℕ) (zs : List ℕ) (a v : ℕ) → g (part 1) ≡ a → g CONTENT ≡ 0
    → g (part k) ≡ v → AllWords zs → v < 2 ^ 32 → a < length zs
    → Goes (near_middle op k) 3 (known 32 g zs) (known 32 g (slice_set zs a (updated op (slice_index zs a) v)))
point_goes k hk op g zs a v ea ec ep w vw h = around_alter k hk op zs g g a v ep vw w h
    (λ ws q. word_out 32 g ws (part 1) a (omega arith) (omega arith) (λ e. omega arith) ea ec (rw q h))

-- what an array has at an index
has_element_at : (spot : List ℕ → Spot) (b : Bases) (low : ℕ) (ws : List ℕ) (arr x : ℕ)
    → IsArray spot b low ws arr → arr ≢ 0
    → x < slice_index ws arr → low ≤ length ws → length ws ≤ 2 ^ 31 → HasElement arr x ws
has_element_at spot b low ws arr x is some l inside small =
    let short = is.short some in
    let room = is.room some in
    record {
      array_is = some;
      array_small = omega arith;
      inside_it = l;
      length_small = short;
      below = omega arith;
    }

module _ (b : Bases) (spot : List ℕ → Spot) (low : ℕ) (zs zs' : List ℕ) (count : length zs' ≡ length zs)
    (all : AllWords zs) (small : length zs ≤ 2 ^ 31) (inside : low ≤ length zs) where
  -- before the update and after it
  abbrev either : List ℕ → Type 0
  either ws = (ws ≡ zs) ⊎ (ws ≡ zs')

  length_is : (ws : List ℕ) → either ws → length ws ≡ length zs
  length_is ws (inl q) = ap (λ u. length u) q
  length_is ws (inr q) = ap (λ u. length u) q ∙ count

  still_small : (ws : List ℕ) → either ws → length ws ≤ 2 ^ 31
  still_small ws y = let l = length_is ws y in omega arith

  still_inside : (ws : List ℕ) → either ws → low ≤ length ws
  still_inside ws y = let l = length_is ws y in omega arith

  reads_of : (ws : List ℕ) (u : Expression) → has_element u ≡ false → Same spot b zs ws u
      → Reads 32 b either spot still_small (omega arith) low still_inside zs all ws u
  reads_of ws (Number at word) h s = tt
  reads_of ws (Null at) h s = tt
  reads_of ws (Variable name) h s = s
  reads_of ws (Element name index) h s = absurd (cc)
  reads_of ws (Binary at o left right) h s = (
    reads_of ws left (neither_left (has_element left) (has_element right) h) s.1,
    reads_of ws right (neither_right (has_element left) (has_element right) h) s.2,
  )

  alike : (u : Expression) → has_element u ≡ false → Same spot b zs zs' u → (ws : List ℕ) → either ws
      → Reads 32 b either spot still_small (omega arith) low still_inside zs all ws u
  alike u h s ws (inl q) = subst (λ w. Reads 32 b either spot still_small (omega arith) low still_inside zs all w u)
      (sym q) (reads_self 32 b either spot still_small (omega arith) low still_inside zs all u)
  alike u h s ws (inr q) = subst (λ w. Reads 32 b either spot still_small (omega arith) low still_inside zs all w u)
      (sym q) (reads_of zs' u h s)

  -- an expression that reads no element, opened over either
  module _ (u : Expression) (k : ℕ) (few : k + need u < 10) (plain : has_element u ≡ false)
      (sees : Sees spot b low zs u) (same : Same spot b zs zs' u) where
    opens_of : Opens 32 b either (held_cells spot u k) (held_steps u) k (k + need u) (word_given (number spot b zs u))
    opens_of = held_opens 32 b either spot still_small (omega arith) low still_inside zs all u k (omega arith)
        (omega arith) (is_number spot b zs u plain) sees (alike u plain same)

  module _ (op : UpdateOp) (e : Expression) (a v k : ℕ) (few : k + need e < 10) (plain : has_element e ≡ false)
      (below : a < length zs) (sees : Sees spot b low zs e) (same : Same spot b zs zs' e)
      (value : number spot b zs e ≡ Ok v) (made : zs' ≡ slice_set zs a (updated op (slice_index zs a) v)) where
    abbrev opened : Opens 32 b either (held_cells spot e k) (held_steps e) k (k + need e)
        (word_given (number spot b zs e))
    opened = opens_of e k few plain sees same

    abbrev wide : Changes 32 b either (held_cells spot e k) (held_steps e) k 9
    wide = more_change 32 b either (omega arith) (omega arith) opened.change

    -- the value opened after what precedes it, a change of that word, and the inverse
    pub opened_around : {front mid : List Symbol} {j t : ℕ} {z z' : Memory} (g : ℕ → ℕ) → Free b k 9 g
        → Goes front j z (known 32 g zs) → Goes front j z' (known 32 g zs')
        → ((h : ℕ → ℕ) → ((r : ℕ) → r < part k → h r ≡ g r) → h (part k) ≡ v → v < 2 ^ 32
        → Goes mid t (known 32 h zs) (known 32 h (slice_set zs a (updated op (slice_index zs a) v))))
        → Goes (around (front ++ held_cells spot e k) mid) ((j + held_steps e) + (t + (j + held_steps e))) z z'
    opened_around g free there back mid =
        let h : ℕ → ℕ = opened.change.puts g in
        let has : h (part k) ≡ v = opened.has g ∙ ap word_given value in
        let vw : v < 2 ^ 32 = number_word spot b low zs all e sees v value in
        goes_around (goes_seq there (wide.goes g free zs (inl refl)))
        (goes_to refl refl (ap (known 32 h) (sym made)) (mid h (λ r l. wide.low g r l) has vw))
        (goes_seq back (wide.goes g free zs' (inr refl)))

  -- an element's index and address over either
  module _ (name : Ident) (index : Expression) (few : 2 + need index < 10) (plain : has_element index ≡ false)
      (sees : Sees spot b low zs (Element name index)) (sees' : Sees spot b low zs' (Element name index))
      (same : Same spot b zs zs' index) (a : ℕ)
      (n : IsInside zs (word_of spot b zs name.text) (number spot b zs index) a)
      (n' : IsInside zs' (word_of spot b zs' name.text) (number spot b zs' index) a) (x_same : n'.x ≡ n.x) where
    abbrev arr : ℕ
    arr = word_of spot b zs name.text

    abbrev x : ℕ
    x = word_given (number spot b zs index)

    x_is : word_given (number spot b zs index) ≡ n.x
    x_is = ap word_given n.index

    same_array : word_of spot b zs' name.text ≡ word_of spot b zs name.text
    same_array = let p = n.at in let q = n'.at in omega arith

    shown : Shows 32 b either spot still_small (omega arith) true (spot name.text) (word_of spot b zs name.text)
    shown ws (inl q) = (
      let l = length_is ws (inl q) in let h = sees.0 in omega arith,
      ap (λ u. slice_index u (spot_address b (spot name.text))) q,
    )
    shown ws (inr q) = (
      let l = length_is ws (inr q) in let h = sees.0 in omega arith,
      ap (λ u. slice_index u (spot_address b (spot name.text))) q ∙ same_array,
    )

    stands_before : HasElement (word_of spot b zs name.text) (word_given (number spot b zs index)) zs
    stands_before = has_element_at spot b low zs arr x sees.1 n.array_is
        (let p = n.below in let q = x_is in omega arith)
        inside small

    stands_after : HasElement (word_of spot b zs' name.text) (word_given (number spot b zs index)) zs'
    stands_after = has_element_at spot b low zs' (word_of spot b zs' name.text) x sees'.1 n'.array_is
        (let p = n'.below in let q = x_is in omega arith) (omega arith) (omega arith)

    stands : (ws : List ℕ) → either ws → HasElement (word_of spot b zs name.text) (word_given (number spot b zs index))
        ws
    stands ws (inl q) = subst (λ u. HasElement arr x u) (sym q) stands_before
    stands ws (inr q) = subst (λ u. HasElement arr x u) (sym q)
        (subst (λ y. HasElement y x zs') same_array stands_after)

    abbrev one : Opens 32 b either (held_cells spot index 2) (held_steps index) (0 + 2) (0 + 2 + need index)
        (word_given (number spot b zs index))
    one = opens_of index 2 few plain sees.2 same

    abbrev place : Changes 32 b either (element_cells spot name.text (held_cells spot index 2) 0)
        (element_steps (held_steps index)) 0 (2 + need index)
    place = more_change 32 b either (omega arith) (omega arith)
        (pointed 32 b either spot still_small (omega arith) 0 (need index) (need_least index) (omega arith)
        one (spot name.text) arr shown stands)

    place_has : (f : ℕ → ℕ) → place.puts f (part 1) ≡ a
    place_has f = has_address 32 b either spot still_small (omega arith) 0 (need index) (need_least index)
        (omega arith) one (spot name.text) arr shown stands f ∙ (let p = n.at in let q = x_is in omega arith)

module _ (b : Bases) (f : ℕ → ℕ) (spot : List ℕ → Spot) (low : ℕ) (op : UpdateOp) (e : Expression)
    (zs zs' : List ℕ) (a v : ℕ) (plain : has_element e ≡ false) (all : AllWords zs) (small : length zs ≤ 2 ^ 31)
    (inside : low ≤ length zs) (below : a < length zs)
    (sees : Sees spot b low zs e) (same : Same spot b zs zs' e) (value : number spot b zs e ≡ Ok v)
    (made : zs' ≡ slice_set zs a (updated op (slice_index zs a) v)) where
  count : length zs' ≡ length zs
  count = ap (λ u. length u) made ∙ length-set zs a _

  pub held_update_goes : (sp : Spot) → need e < 10 → spot_address b sp ≡ a
      → Goes (held_update_cells spot op sp e) (around_steps (held_steps e) 5)
      (mem b f (keeping 0 0 0) zs) (mem b f (keeping 0 0 0) zs')
  held_update_goes sp few at =
      let free = all_free b f in
      goes_to (omega arith) (known_is b f zs) (known_is b f zs')
      (opened_around b spot low zs zs' count all small inside op e a v 0 (omega arith) plain below sees same value made
      (none_kept b f) free (nothing (known 32 (none_kept b f) zs)) (nothing (known 32 (none_kept b f) zs'))
      (λ h is has vw. goes_to refl refl
      (ap (λ i. known 32 h (slice_set zs i (updated op (slice_index zs i) v))) at)
      (word_goes b op h zs sp v (is OBJECT (omega arith) ∙ free.object_is)
      (is FRAME (omega arith) ∙ free.frame_is) (is CONTENT (omega arith) ∙ free.content_is) has all vw
      (rw at below) small)))

  -- an element whose index and address are in registers below the value
  pub near_update_goes : (name : Ident) (index : Expression) → 2 + need index + need e < 10
      → has_element index ≡ false → Sees spot b low zs (Element name index) → Sees spot b low zs' (Element name index)
      → Same spot b zs zs' index → (n : IsInside zs (word_of spot b zs name.text) (number spot b zs index) a)
      → (n' : IsInside zs' (word_of spot b zs' name.text) (number spot b zs' index) a) → n'.x ≡ n.x
      → Goes (near_update_cells spot op name.text index e) (near_update_steps index e)
      (mem b f (keeping 0 0 0) zs) (mem b f (keeping 0 0 0) zs')
  near_update_goes name index few bare seen seen' also n n' x_same =
      let free = all_free b f in
      let i = need_least e in
      let c : Changes 32 b (either b spot low zs zs' count all small inside)
      (element_cells spot name.text (held_cells spot index 2) 0) (element_steps (held_steps index)) 0 (2 + need index) =
      place b spot low zs zs' count all small inside name index (omega arith) bare seen seen' also a n n' x_same in
      let g : ℕ → ℕ = c.puts (none_kept b f) in
      let wide : Changes 32 b (either b spot low zs zs' count all small inside)
      (element_cells spot name.text (held_cells spot index 2) 0) (element_steps (held_steps index)) 0 9 =
      more_change 32 b (either b spot low zs zs' count all small inside) (omega arith) (omega arith) c in
      goes_to refl (known_is b f zs) (known_is b f zs')
      (opened_around b spot low zs zs' count all small inside op e a v (2 + need index) (omega arith) plain below sees
      same value made g
      (still_free 32 b (either b spot low zs zs' count all small inside) c (omega arith) (none_kept b f) 9 (omega arith)
      free)
      (wide.goes (none_kept b f) free zs (inl refl)) (wide.goes (none_kept b f) free zs' (inr refl))
      (λ h is has vw. point_goes (2 + need index) (omega arith) op h zs a v
      (is (part 1) (omega arith) ∙ place_has b spot low zs zs' count all small inside name index (omega arith) bare
      seen seen' also a n n' x_same (none_kept b f))
      (is CONTENT (omega arith) ∙ c.low (none_kept b f) CONTENT (omega arith) ∙ free.content_is) has all vw below))

-- or the fault of the element, either way
module _ (b : Bases) (f : ℕ → ℕ) (spot : List ℕ → Spot) (low : ℕ) (op : UpdateOp) (e : Expression) (zs : List ℕ)
    (all : AllWords zs) (small : length zs ≤ 2 ^ 31) (inside : low ≤ length zs) where
  abbrev only : List ℕ → Type 0
  only ws = ws ≡ zs

  only_small : (ws : List ℕ) → ws ≡ zs → length ws ≤ 2 ^ 31
  only_small ws q = subst (λ u. length u ≤ 2 ^ 31) (sym q) small

  only_inside : (ws : List ℕ) → ws ≡ zs → low ≤ length ws
  only_inside ws q = subst (λ u. low ≤ length u) (sym q) inside

  pub near_update_traps : (name : Ident) (index : Expression) → 2 + need index < 10 → has_element index ≡ false
      → Sees spot b low zs (Element name index) → (c : ℕ)
      → element_at zs (word_of spot b zs name.text) (number spot b zs index) ≡ Err c
      → TrapsBoth (near_update_cells spot op name.text index e) (element_steps (held_steps index)) c
      (mem b f (keeping 0 0 0) zs)
  near_update_traps name index few bare sees c n =
      traps_around (near_middle op (2 + need index)) (traps_first (held_cells spot e (2 + need index))
      (element_traps 32 b only spot only_small (omega arith) low only_inside zs all name index 0 c (omega arith) few
      sees (λ ws q. q) refl (none_kept b f) (less_free 32 b only (omega arith) (omega arith) (none_kept b f)
      (all_free b f)) (λ q. absurd (no_fault (sym (is_number spot b zs index bare) ∙ q)))
      (fault_of zs (word_of spot b zs name.text) (number spot b zs index) c n)))
