-- Two words of memory that are swapped by registers.
use Rattle.std.proofs.Common.{◌≡◌, ◌≢◌, ℕ, ◌+◌, ◌^◌, ◌<◌, ◌≤◌, Bool, true, false, List, [], ◌∷◌, length, length-set}
use Rattle.std.proofs.Common.{refl}
use Rattle.std.proofs.Common.{sym, ap, ◌∙◌, arith, ⊎_elim}
use Rattle.std.specs.Prelude.{slice_index, slice_set, nat_eq, not, if◌then◌else◌}
use Rattle.std.proofs.lemmas.List.{get_or-set_same, get_or-set_other, set_comm, set-set}
use Rattle.std.proofs.lemmas.Bool.{cases_eq}
use Rattle.std.proofs.lemmas.Bool.Decides.{nat_tests}
use Rattle.register_expressions.specs.code_conventions.declared.memory.TheConstants.{HEADER_WORDS}
use Rattle.register_expressions.specs.pisa_isa.Machine.{Memory}
use Rattle.register_expressions.specs.code_conventions.declared.registers.TheConstants.{FIRST_WORD, RIGHT, SECOND_WORD}
use Rattle.register_expressions.specs.paired_code.declared.part.Symbol.{Symbol}
use Rattle.register_expressions.specs.refine_form.declared.spot.Spot.{Spot}
use Rattle.register_expressions.specs.refine_form.declared.spot.Spot.TheVariants.{Field, Frame}
use Rattle.register_expressions.specs.code_scope.Visible.{offset_of}
use Rattle.register_expressions.specs.Code.{addi, exch, base_of}
use Rattle.expr_uncompute.specs.Code.{onward_cell, four_exchanges, swap_at, swap_by_one, have_one_base, swap_spots}
use Rattle.register_expressions.specs.Number.{Bases, spot_address}
use Rattle.expr_uncompute.specs.Laws.{swapped_at}
use Rattle.register_expressions.proofs.Goes.{Goes, goes_seq, goes_cons, goes_to, goes_around, goes_exch}
use Rattle.register_expressions.proofs.Operators.{operands}
use Rattle.register_expressions.proofs.Reading.{moved}
use Rattle.register_expressions.proofs.Scratch.{Scratch, keeping, mem}
use Rattle.expr_uncompute.proofs.Standing.{stand, onto, stands_there, stands_on, there_goes, on_goes, Exchanges}
use Rattle.expr_uncompute.proofs.Standing.{exchanged}

-- ---- four exchanges, of two registers and two words

module _ (both : (x y : ℕ) → List ℕ → Memory) (p q : ℕ) (first_p second_q second_p first_q : Symbol)
    (go1 : (x y : ℕ) (ws : List ℕ) → p < length ws → Goes (first_p ∷ []) 1 (both x y ws)
    (both (slice_index ws p) y (slice_set ws p x)))
    (go2 : (x y : ℕ) (ws : List ℕ) → q < length ws → Goes (second_q ∷ []) 1 (both x y ws)
    (both x (slice_index ws q) (slice_set ws q y)))
    (go3 : (x y : ℕ) (ws : List ℕ) → p < length ws → Goes (second_p ∷ []) 1 (both x y ws)
    (both x (slice_index ws p) (slice_set ws p y)))
    (go4 : (x y : ℕ) (ws : List ℕ) → q < length ws → Goes (first_q ∷ []) 1 (both x y ws)
    (both (slice_index ws q) y (slice_set ws q x))) where
  abbrev four : List Symbol
  four = first_p ∷ second_q ∷ second_p ∷ first_q ∷ []

  -- whatever is there
  four_go : (ys ws1 ws2 ws3 ws4 : List ℕ) (x y y' x' : ℕ) → p < length ys → q < length ys
      → slice_index ys p ≡ x → slice_set ys p 0 ≡ ws1 → slice_index ws1 q ≡ y → slice_set ws1 q 0 ≡ ws2
      → slice_index ws2 p ≡ y' → slice_set ws2 p y ≡ ws3 → slice_index ws3 q ≡ x' → slice_set ws3 q x ≡ ws4
      → Goes (first_p ∷ second_q ∷ second_p ∷ first_q ∷ []) 4 (both 0 0 ys) (both x' y' ws4)
  four_go ys ws1 ws2 ws3 ws4 x y y' x' h k e1 s1 e2 s2 e3 s3 e4 s4 =
      let l1 : length ws1 ≡ length ys = ap length (sym s1) ∙ length-set ys p 0 in
      let l2 : length ws2 ≡ length ys = ap length (sym s2) ∙ length-set ws1 q 0 ∙ l1 in
      let l3 : length ws3 ≡ length ys = ap length (sym s3) ∙ length-set ws2 p y ∙ l2 in
      goes_cons (goes_to refl refl (ap (λ z. both z 0 (slice_set ys p 0)) e1 ∙ ap (both x 0) s1) (go1 0 0 ys h))
      (goes_cons (goes_to refl refl (ap (λ z. both x z (slice_set ws1 q 0)) e2 ∙ ap (both x y) s2)
      (go2 x 0 ws1 (omega arith)))
      (goes_cons (goes_to refl refl (ap (λ z. both x z (slice_set ws2 p y)) e3 ∙ ap (both x y') s3)
      (go3 x y ws2 (omega arith)))
      (goes_to refl refl (ap (λ z. both z y' (slice_set ws3 q x)) e4 ∙ ap (both x' y') s4)
      (go4 x y' ws3 (omega arith)))))

  two : (ys : List ℕ) → p < length ys → q < length ys → p ≢ q
      → Goes (first_p ∷ second_q ∷ second_p ∷ first_q ∷ []) 4 (both 0 0 ys) (both 0 0 (swapped_at p q ys))
  two ys h k n =
      let x : ℕ = slice_index ys p in
      let y : ℕ = slice_index ys q in
      let n' : q ≢ p = λ e. n (sym e) in
      let ws1 : List ℕ = slice_set ys p 0 in
      let ws2 : List ℕ = slice_set ws1 q 0 in
      let ws3 : List ℕ = slice_set ws2 p y in
      let k1 : q < length ws1 = rw (length-set ys p 0) k in
      let last : slice_set ws3 q x ≡ slice_set (slice_set ys p y) q x =
      ap (λ z. slice_set z q x) (set_comm ws1 q p 0 y n' ∙ ap (λ z. slice_set z q 0) (set-set ys p 0 y))
      ∙ set-set (slice_set ys p y) q 0 x in
      four_go ys ws1 ws2 ws3 _ x y 0 0 h k refl refl (get_or-set_other ys p q 0 0 n') refl
      (get_or-set_other ws1 q p 0 0 n ∙ get_or-set_same ys p 0 0 h) refl
      (get_or-set_other ws2 p q y 0 n' ∙ get_or-set_same ws1 q 0 0 k1) last

  one : (ys : List ℕ) → p < length ys → q < length ys → p ≡ q
      → Goes (first_p ∷ second_q ∷ second_p ∷ first_q ∷ []) 4 (both 0 0 ys) (both 0 0 (swapped_at p q ys))
  one ys h k e =
      let x : ℕ = slice_index ys p in
      let y : ℕ = slice_index ys q in
      let ws1 : List ℕ = slice_set ys p 0 in
      let at : (z : List ℕ) → slice_index z q ≡ slice_index z p = λ z. ap (slice_index z) (sym e) in
      let on : (z : List ℕ) (w : ℕ) → slice_set z q w ≡ slice_set z p w =
      λ z w. ap (λ i. slice_set z i w) (sym e) in
      let zero : slice_index ws1 p ≡ 0 = get_or-set_same ys p 0 0 h in
      let last : slice_set ws1 q x ≡ slice_set (slice_set ys p y) q x =
      on ws1 x ∙ set-set ys p 0 x ∙ sym (on (slice_set ys p y) x ∙ set-set ys p y x) in
      four_go ys ws1 ws1 ws1 _ x 0 0 0 h k refl refl (at ws1 ∙ zero) (on ws1 0 ∙ set-set ys p 0 0) zero
      (set-set ys p 0 0) (at ws1 ∙ zero) last

  pub four_swap : (ys : List ℕ) → p < length ys → q < length ys
      → Goes (first_p ∷ second_q ∷ second_p ∷ first_q ∷ []) 4 (both 0 0 ys) (both 0 0 (swapped_at p q ys))
  four_swap ys h k = ⊎_elim (λ e. one ys h k e) (λ n. two ys h k n) (cases_eq p q)

-- ---- two variables

no_true : (t : Bool) → t ≡ true → not t ≡ true → ⊥
no_true true e k = absurd (cc)
no_true false e k = absurd (cc)

no_false : (t : Bool) → t ≡ false → not t ≡ false → ⊥
no_false true e k = absurd (cc)
no_false false e k = absurd (cc)

module _ (b : Bases) (f : ℕ → ℕ) where
  abbrev holding : (x y : ℕ) → Scratch
  holding x y = record (keeping 0 0 0) { first = x; second = y }

  first_out : (y : ℕ) → Exchanges f FIRST_WORD (λ z. holding z y)
  first_out y = record {
    by_object = λ c z ws h. goes_exch _ (λ z ws. mem c f (holding z y) ws) c.object z ws h refl (omega arith)
        (λ z ws. refl) (λ z ws. refl);
    by_frame = λ c z ws h. goes_exch _ (λ z ws. mem c f (holding z y) ws) c.frame z ws h refl (omega arith)
        (λ z ws. refl) (λ z ws. refl);
  }

  second_out : (x : ℕ) → Exchanges f SECOND_WORD (λ z. holding x z)
  second_out x = record {
    by_object = λ c z ws h. goes_exch _ (λ z ws. mem c f (holding x z) ws) c.object z ws h refl (omega arith)
        (λ z ws. refl) (λ z ws. refl);
    by_frame = λ c z ws h. goes_exch _ (λ z ws. mem c f (holding x z) ws) c.frame z ws h refl (omega arith)
        (λ z ws. refl) (λ z ws. refl);
  }

  both_at : (x y : Spot) (zs : List ℕ) → spot_address b x < 2 ^ 32 → spot_address b y < 2 ^ 32
      → Goes (addi (base_of x) (offset_of x) ∷ onward_cell x y ∷ []) 2 (mem b f (keeping 0 0 0) zs)
      (mem (onto b x y) f (keeping 0 0 0) zs)
  both_at x y zs h k = goes_cons (there_goes b f (keeping 0 0 0) zs x h) (on_goes b f (keeping 0 0 0) zs x y h k)

  -- both bases are at their storage slots
  at_goes : (x y : Spot) (zs : List ℕ) → stand (onto b x y) x ≡ spot_address b x → spot_address b x < length zs
      → spot_address b y < length zs → length zs ≤ 2 ^ 31 → Goes (swap_at x y) 8 (mem b f (keeping 0 0 0) zs)
      (mem b f (keeping 0 0 0) (swapped_at (spot_address b x) (spot_address b y) zs))
  at_goes x y zs e h k small =
      let p : ℕ = spot_address b x in
      let q : ℕ = spot_address b y in
      let c : Bases = onto b x y in
      let e' : stand c y ≡ q = stands_on b x y in
      goes_around (both_at x y zs (omega arith) (omega arith)) (four_swap (λ x y ws. mem c f (holding x y) ws) p q
      (exch FIRST_WORD (base_of x)) (exch SECOND_WORD (base_of y)) (exch SECOND_WORD (base_of x))
      (exch FIRST_WORD (base_of y)) (λ z w ws l. exchanged f (first_out w) c x p e z ws l)
      (λ z w ws l. exchanged f (second_out z) c y q e' w ws l) (λ z w ws l. exchanged f (second_out z) c x p e w ws l)
      (λ z w ws l. exchanged f (first_out w) c y q e' z ws l) zs h k)
      (both_at x y (swapped_at p q zs) (omega arith) (omega arith))

  -- one base goes to the second spot while the first word is out
  by_one_goes : (x y : Spot) (zs : List ℕ) → spot_address b x ≢ spot_address b y → spot_address b x < length zs
      → spot_address b y < length zs → length zs ≤ 2 ^ 31 → Goes (swap_by_one x y) 8 (mem b f (keeping 0 0 0) zs)
      (mem b f (keeping 0 0 0) (swapped_at (spot_address b x) (spot_address b y) zs))
  by_one_goes x y zs n h k small =
      let p : ℕ = spot_address b x in
      let q : ℕ = spot_address b y in
      let v : ℕ = slice_index zs p in
      let w : ℕ = slice_index zs q in
      let n' : q ≢ p = λ e. n (sym e) in
      let c : Bases = moved b x in
      let d : Bases = onto b x y in
      let e : stand c x ≡ p = stands_there b x in
      let e' : stand d y ≡ q = stands_on b x y in
      let ws1 : List ℕ = slice_set zs p 0 in
      let ws2 : List ℕ = slice_set ws1 q 0 in
      let ws3 : List ℕ = slice_set ws2 q v in
      let k1 : q < length ws1 = rw (length-set zs p 0) k in
      let k2 : q < length ws2 = rw (length-set ws1 q 0) k1 in
      let h2 : p < length ws2 = rw (length-set ws1 q 0) (rw (length-set zs p 0) h) in
      let h3 : p < length ws3 = rw (length-set ws2 q v) h2 in
      let out = exchanged f (first_out 0) c x p e 0 zs h in
      let there = goes_to refl refl (ap (λ z. mem d f (holding v z) ws2) (get_or-set_other zs p q 0 0 n'))
      (exchanged f (second_out v) d y q e' 0 ws1 k1) in
      let in_place = goes_to refl refl (ap (λ z. mem d f (holding z w) ws3) (get_or-set_same ws1 q 0 0 k1))
      (exchanged f (first_out w) d y q e' v ws2 k2) in
      let over = goes_around (on_goes b f (holding v 0) ws1 x y (omega arith) (omega arith))
      (goes_cons there in_place) (on_goes b f (holding 0 w) ws3 x y (omega arith) (omega arith)) in
      let nothing : slice_index ws3 p ≡ 0 = get_or-set_other ws2 q p v 0 n ∙ get_or-set_other ws1 q p 0 0 n
      ∙ get_or-set_same zs p 0 0 h in
      let all : slice_set ws3 p w ≡ swapped_at p q zs =
      ap (λ z. slice_set z p w) (set-set ws1 q 0 v) ∙ set_comm ws1 q p v w n'
      ∙ ap (λ z. slice_set z q v) (set-set zs p 0 w) in
      let home = goes_to refl refl (ap (λ z. mem c f (holding 0 z) (slice_set ws3 p w)) nothing
      ∙ ap (mem c f (keeping 0 0 0)) all) (exchanged f (second_out 0) c x p e w ws3 h3) in
      goes_around (there_goes b f (keeping 0 0 0) zs x (omega arith)) (goes_seq (goes_cons out over) home)
      (there_goes b f (keeping 0 0 0) (swapped_at p q zs) x (omega arith))

  differ : (x y : Spot) → have_one_base x y ≡ true → spot_address b x ≢ spot_address b y
  differ (Field i) (Field j) e q =
      let same : i ≡ j = omega arith in
      no_true (nat_eq (HEADER_WORDS + i) (HEADER_WORDS + j)) (grind (arith, nat_tests)) e
  differ (Frame i) (Frame j) e q =
      let same : i ≡ j = omega arith in
      no_true (nat_eq i j) (grind (arith, nat_tests)) e
  differ (Field i) (Frame j) e q = absurd (cc)
  differ (Frame i) (Field j) e q = absurd (cc)

  meet : (x y : Spot) → have_one_base x y ≡ false → stand (onto b x y) x ≡ spot_address b x
  meet (Field i) (Field j) e = ⊎_elim (λ same. (let l : i ≡ j = same in omega arith))
      (λ n. absurd (no_false (nat_eq (HEADER_WORDS + i) (HEADER_WORDS + j)) (grind (arith, nat_tests)) e))
      (cases_eq i j)
  meet (Frame i) (Frame j) e = ⊎_elim (λ same. (let l : i ≡ j = same in omega arith))
      (λ n. absurd (no_false (nat_eq i j) (grind (arith, nat_tests)) e)) (cases_eq i j)
  meet (Field i) (Frame j) e = refl
  meet (Frame i) (Field j) e = refl

  pub spots_go : (x y : Spot) (zs : List ℕ) → spot_address b x < length zs → spot_address b y < length zs
      → length zs ≤ 2 ^ 31 → Goes (swap_spots x y) 8 (mem b f (keeping 0 0 0) zs)
      (mem b f (keeping 0 0 0) (swapped_at (spot_address b x) (spot_address b y) zs))
  spots_go x y zs h k small = go (have_one_base x y) refl
    where
      go : (t : Bool) → have_one_base x y ≡ t
          → Goes (if t then swap_by_one x y else swap_at x y) 8 (mem b f (keeping 0 0 0) zs)
          (mem b f (keeping 0 0 0) (swapped_at (spot_address b x) (spot_address b y) zs))
      go true e = by_one_goes x y zs (differ x y e) h k small
      go false e = at_goes x y zs (meet x y e) h k small

-- ---- a variable, whose word holds its base, and an element whose address is in the register of
-- its array

module _ (b : Bases) (f : ℕ → ℕ) (i a : ℕ) where
  abbrev beside : (x y : ℕ) → Scratch
  beside x y = record (operands 0 0 0 i a) { first = x; second = y }

  first_at : (y : ℕ) → Exchanges f FIRST_WORD (λ z. beside z y)
  first_at y = record {
    by_object = λ c z ws h. goes_exch _ (λ z ws. mem c f (beside z y) ws) c.object z ws h refl (omega arith)
        (λ z ws. refl) (λ z ws. refl);
    by_frame = λ c z ws h. goes_exch _ (λ z ws. mem c f (beside z y) ws) c.frame z ws h refl (omega arith)
        (λ z ws. refl) (λ z ws. refl);
  }

  second_at : (x : ℕ) → Exchanges f SECOND_WORD (λ z. beside x z)
  second_at x = record {
    by_object = λ c z ws h. goes_exch _ (λ z ws. mem c f (beside x z) ws) c.object z ws h refl (omega arith)
        (λ z ws. refl) (λ z ws. refl);
    by_frame = λ c z ws h. goes_exch _ (λ z ws. mem c f (beside x z) ws) c.frame z ws h refl (omega arith)
        (λ z ws. refl) (λ z ws. refl);
  }

  abbrev there : Bases → (u v : ℕ) → List ℕ → Memory
  there c u v ws = mem c f (beside u v) ws

  first_element : (c : Bases) (u v : ℕ) (ws : List ℕ) → a < length ws → Goes (exch FIRST_WORD RIGHT ∷ []) 1
      (there c u v ws) (there c (slice_index ws a) v (slice_set ws a u))
  first_element c u v ws l = goes_exch _ (λ z zs. there c z v zs) a u ws l refl (omega arith) (λ z zs. refl)
      (λ z zs. refl)

  second_element : (c : Bases) (u v : ℕ) (ws : List ℕ) → a < length ws → Goes (exch SECOND_WORD RIGHT ∷ []) 1
      (there c u v ws) (there c u (slice_index ws a) (slice_set ws a v))
  second_element c u v ws l = goes_exch _ (λ z zs. there c u z zs) a v ws l refl (omega arith) (λ z zs. refl)
      (λ z zs. refl)

  pub variable_first : (x : Spot) (ys : List ℕ) → spot_address b x < length ys → a < length ys
      → Goes (four_exchanges (base_of x) RIGHT) 4 (mem (moved b x) f (operands 0 0 0 i a) ys)
      (mem (moved b x) f (operands 0 0 0 i a) (swapped_at (spot_address b x) a ys))
  variable_first x ys h k =
      let c : Bases = moved b x in
      let p : ℕ = spot_address b x in
      let e : stand c x ≡ p = stands_there b x in
      four_swap (there c) p a (exch FIRST_WORD (base_of x)) (exch SECOND_WORD RIGHT)
      (exch SECOND_WORD (base_of x)) (exch FIRST_WORD RIGHT)
      (λ u v ws l. exchanged f (first_at v) c x p e u ws l) (second_element c)
      (λ u v ws l. exchanged f (second_at u) c x p e v ws l) (first_element c) ys h k

  pub variable_second : (x : Spot) (ys : List ℕ) → a < length ys → spot_address b x < length ys
      → Goes (four_exchanges RIGHT (base_of x)) 4 (mem (moved b x) f (operands 0 0 0 i a) ys)
      (mem (moved b x) f (operands 0 0 0 i a) (swapped_at a (spot_address b x) ys))
  variable_second x ys k h =
      let c : Bases = moved b x in
      let p : ℕ = spot_address b x in
      let e : stand c x ≡ p = stands_there b x in
      four_swap (there c) a p (exch FIRST_WORD RIGHT) (exch SECOND_WORD (base_of x))
      (exch SECOND_WORD RIGHT) (exch FIRST_WORD (base_of x)) (first_element c)
      (λ u v ws l. exchanged f (second_at u) c x p e v ws l) (second_element c)
      (λ u v ws l. exchanged f (first_at v) c x p e u ws l) ys k h
