-- The value of a node in its register, if its parts are prepared.
use Rattle.std.proofs.Common.{◌≡◌, ◌≢◌, ℕ, ◌+◌, ◌^◌, ◌<◌, ◌≤◌, List, [], ◌∷◌, length, refl, sym, ap, ◌∙◌, subst, arith}
use Rattle.std.specs.Prelude.{slice_index, slice_set, Result, Ok, Err}
use Rattle.register_expressions.specs.code_conventions.declared.memory.TheConstants.{HEADER_WORDS}
use Rattle.register_expressions.specs.rpp_tree.Tree.{Expression, Number, Null, Variable, Element, Binary}
use Rattle.register_expressions.specs.paired_code.Machine.{memory_reg}
use Rattle.register_expressions.specs.roopl_semantics.Operators.{operated}
use Rattle.register_expressions.specs.refine_form.declared.spot.Spot.{Spot}
use Rattle.register_expressions.specs.refine_form.declared.spot.Spot.TheVariants.{Frame}
use Rattle.register_expressions.specs.Code.{words}
use Rattle.expr_uncompute.specs.Code.{operand_cells, checked_cells}
use Rattle.register_expressions.specs.Code.{point_cells, exch}
use Rattle.expr_uncompute.specs.Code.{open_cells, result_of}
use Rattle.register_expressions.specs.Number.{Bases, spot_address, word_given, word_of, number, element_at, IsArray, Sees}
use Rattle.expr_uncompute.specs.Steps.{operand_steps, checked_steps, open_steps}
use Rattle.register_expressions.proofs.Goes.{Goes, Traps, nothing, goes_seq, goes_to, goes_set, goes_exch, traps_first}
use Rattle.register_expressions.proofs.Goes.{traps_then, traps_more}
use Rattle.register_expressions.proofs.Scratch.{Scratch, keeping, mem}
use Rattle.register_expressions.proofs.Operators.{operands, operated_scratch, operator_goes, operator_gives}
use Rattle.register_expressions.proofs.Operators.{operator_has}
use Rattle.register_expressions.proofs.Reading.{HasResult, in_content, in_item, Takes, left_takes, right_takes}
use Rattle.register_expressions.proofs.Reading.{copy_goes, moved, reach_goes}
use Rattle.register_expressions.proofs.Checks.{nil_goes, nil_traps, index_goes, index_traps, point_goes}
use Rattle.register_expressions.proofs.Numbers.{AllWords, number_word}
use Rattle.expr_uncompute.proofs.Stored.{home, Reads}
use Rattle.register_expressions.proofs.Ways.{ok_is, both_ok, inside_of, fault_of, address_of_word, fault_of_word}
use Rattle.register_expressions.proofs.Ways.{IsFault, by_index, by_nil, by_end}
use Rattle.register_expressions.specs.code_conventions.declared.registers.TheConstants.{LEFT, RIGHT}

module _ (spot : List ℕ → Spot) (free : ℕ) (b : Bases) where
  abbrev low : ℕ
  low = b.frame + free

  -- the words that an expression needs are there
  pub record Room (e : Expression) (i : ℕ) (zs : List ℕ) : Type 0 where
    pub fits : home spot free b (i + words e) ≤ length zs
    pub small : length zs ≤ 2 ^ 31

  pub operand_goes : {into v : ℕ} {f f' : ℕ → ℕ} {s s' : Scratch} (e : Expression) (i : ℕ) (zs : List ℕ)
      → Sees spot b low zs e → Room e i zs → Reads spot free b zs e i v → Takes b into v f f' s s'
      → Goes (operand_cells spot free e i into) (operand_steps e) (mem b f (record s { content = 0 }) zs)
      (mem b f' (record s' { content = 0 }) zs)
  operand_goes {into = into} {v = v} {f = f} {f' = f'} {s = s} {s' = s'} (Number at word) i zs h k r t =
      subst (λ w. Goes (Rattle.register_expressions.specs.Code.xori into w ∷ []) 1
      (mem b f (record s { content = 0 }) zs) (mem b f' (record s' { content = 0 }) zs))
      (sym r) (t.by_number (subst (λ z. z < 2 ^ 32) r h) zs)
  operand_goes {f = f} {s = s} (Null at) i zs h k r t = goes_to refl refl (t.by_nothing (sym r) zs)
      (nothing (mem b f (record s { content = 0 }) zs))
  operand_goes (Variable name) i zs h k r t = let l = k.fits in
      copy_goes b zs (spot name.text) (omega arith) k.small r t
  operand_goes (Element name index) i zs h k r t = let l = k.fits in
      copy_goes b zs (Frame (free + i)) (omega arith) k.small r t
  operand_goes (Binary at op left right) i zs h k r t = let l = k.fits in
      copy_goes b zs (Frame (free + i)) (omega arith) k.small r t

  -- an element's index and array in their registers, both checked
  module _ (m p q : ℕ) (f : ℕ → ℕ) (name : List ℕ) (index : Expression) (i x : ℕ) (zs : List ℕ) (all : AllWords zs)
      (at_name : spot_address b (spot name) < low) (array : IsArray spot b low zs (word_of spot b zs name))
      (sees : Sees spot b low zs index) (room : Room index i zs) (gives : number spot b zs index ≡ Ok x)
      (reads : Reads spot free b zs index i x) where
    abbrev array_at : ℕ
    array_at = word_of spot b zs name

    x_word : x < 2 ^ 32
    x_word = number_word spot b low zs all index sees x gives

    index_there : Goes (operand_cells spot free index i LEFT) (operand_steps index) (mem b f (keeping m p q) zs)
        (mem b f (operands m p q x 0) zs)
    index_there = operand_goes index i zs sees room reads (left_takes b f (keeping m p q) x)

    array_there : Goes (Rattle.register_expressions.specs.Code.copy_cells (spot name) RIGHT) 5
        (mem b f (operands m p q x 0) zs) (mem b f (operands m p q x (word_of spot b zs name)) zs)
    array_there = let l = room.fits in copy_goes b zs (spot name) (omega arith) room.small refl
        (right_takes b f (operands m p q x 0) (word_of spot b zs name))

    pub checked_goes : word_of spot b zs name ≢ 0 → x < slice_index zs (word_of spot b zs name)
        → Goes (checked_cells spot free name index i) (checked_steps index) (mem b f (keeping m p q) zs)
        (mem b f (operands m p q x (word_of spot b zs name)) zs)
    checked_goes n l =
        let r = array.room n in
        let z = room.fits in
        goes_seq index_there (goes_seq array_there (goes_seq (nil_goes m p q b f zs x array_at (omega arith) n)
        (index_goes m p q b f zs x array_at (slice_index zs array_at) (omega arith) refl (array.short n) l)))

    pub checked_nil : word_of spot b zs name ≡ 0 → Traps (checked_cells spot free name index i) (checked_steps index) 5
        (mem b f (keeping m p q) zs)
    checked_nil e =
        traps_more (omega arith) (traps_then index_there (traps_then array_there
        (traps_first Rattle.register_expressions.specs.Code.index_check (nil_traps m p q b f zs x array_at e))))

    pub checked_past : word_of spot b zs name ≢ 0 → slice_index zs (word_of spot b zs name) ≤ x
        → Traps (checked_cells spot free name index i) (checked_steps index) 9 (mem b f (keeping m p q) zs)
    checked_past n l =
        let r = array.room n in
        let z = room.fits in
        traps_more (omega arith) (traps_then index_there (traps_then array_there
        (traps_then (nil_goes m p q b f zs x array_at (omega arith) n)
        (index_traps m p q b f zs x array_at (slice_index zs array_at) x_word (omega arith) refl
        (array.short n) l))))

    -- the element's address
    pub pointed_goes : word_of spot b zs name ≢ 0 → x < slice_index zs (word_of spot b zs name)
        → Goes point_cells 2 (mem b f (operands m p q x (word_of spot b zs name)) zs)
        (mem b f (operands m p q x (word_of spot b zs name + x + HEADER_WORDS)) zs)
    pointed_goes n l =
        let r = array.room n in
        let s = array.short n in
        let z = room.fits in
        let y = room.small in
        point_goes m p q b f zs x array_at (omega arith) (omega arith)

  -- ---- open nodes

  -- the parts of a node are prepared
  abbrev pub Parted : List ℕ → Expression → (i : ℕ) → Type 0
  Parted zs (Element name index) i = Reads spot free b zs index (i + 1) (word_given (number spot b zs index))
  Parted zs (Binary at op left right) i =
      Reads spot free b zs left (i + 1) (word_given (number spot b zs left))
      × Reads spot free b zs right (i + 1 + words left) (word_given (number spot b zs right))
  Parted zs e i = Unit {0}

  -- the address of an element, if it has one
  abbrev pub element_place : List ℕ → List ℕ → Expression → ℕ
  element_place zs name index = word_of spot b zs name + word_given (number spot b zs index) + HEADER_WORDS

  -- the bases while a node is open
  abbrev pub based : Expression → Bases
  based (Variable name) = moved b (spot name.text)
  based _ = b

  -- the cells
  abbrev pub emptied : Expression → List ℕ → List ℕ
  emptied (Variable name) zs = slice_set zs (spot_address b (spot name.text)) 0
  emptied (Element name index) zs = slice_set zs (element_place zs name.text index) 0
  emptied _ zs = zs

  module _ (m p q : ℕ) where
    -- and the registers
    abbrev pub opened : List ℕ → Expression → Scratch
    opened zs (Number at word) = record (keeping m p q) { content = word }
    opened zs (Null at) = keeping m p q
    opened zs (Variable name) = record (keeping m p q) { content = word_of spot b zs name.text }
    opened zs (Element name index) =
        record (operands m p q (word_given (number spot b zs index)) (element_place zs name.text index))
        { item = slice_index zs (element_place zs name.text index) }
    opened zs (Binary at op left right) = operated_scratch m p q op (word_given (number spot b zs left))
        (word_given (number spot b zs right))

    module _ (f : ℕ → ℕ) where
      given_ok : (r : Result ℕ ℕ) (x : ℕ) → r ≡ Ok x → r ≡ Ok (word_given r)
      given_ok (Ok y) x e = refl
      given_ok (Err c) x e = absurd (cc)

      pub open_goes : (e : Expression) (i v : ℕ) (zs : List ℕ) → AllWords zs → Sees spot b low zs e → Room e i zs
          → Parted zs e i → number spot b zs e ≡ Ok v
          → Goes (open_cells spot free e i) (open_steps e) (mem b f (keeping m p q) zs)
          (mem (based e) f (opened zs e) (emptied e zs))
      open_goes (Number at word) i v zs w s r k e = goes_set _
          (λ z. mem b f (record (keeping m p q) { content = z }) zs) word refl s (λ z. refl) (λ z. refl)
      open_goes (Null at) i v zs w s r k e = nothing _
      open_goes (Variable name) i v zs w s r k e = let l = r.fits in
          reach_goes b f (keeping m p q) zs (spot name.text) (omega arith) r.small
      open_goes (Element name index) i v zs w s r k e =
          let a = address_of_word zs (element_at zs (word_of spot b zs name.text) (number spot b zs index)) v e in
          let n = inside_of zs (word_of spot b zs name.text) (number spot b zs index) a.0 a.1 in
          let x : ℕ = word_given (number spot b zs index) in
          let g : number spot b zs index ≡ Ok x = given_ok _ n.x n.index in
          let same : n.x ≡ x = ok_is (sym n.index ∙ g) in
          let l : x < slice_index zs (word_of spot b zs name.text) =
          subst (λ z. z < slice_index zs (word_of spot b zs name.text)) same n.below in
          let room : Room index (i + 1) zs = record { fits = let h = r.fits in omega arith; small = r.small } in
          let block = s.1.room n.array_is in
          let short = s.1.short n.array_is in
          let fits = r.fits in
          let small = r.small in
          goes_seq (checked_goes m p q f name.text index (i + 1) x zs w s.0 s.1 s.2 room g k n.array_is l)
          (goes_seq (pointed_goes m p q f name.text index (i + 1) x zs w s.0 s.1 s.2 room g k n.array_is l)
          (goes_exch _ (λ z zs'. mem b f (record (operands m p q x (element_place zs name.text index)) { item = z })
          zs') (element_place zs name.text index) 0 zs (omega arith) refl (omega arith) (λ z zs'. refl)
          (λ z zs'. refl)))
      open_goes (Binary at o left right) i v zs w s r k e =
          let n = both_ok o (number spot b zs left) (number spot b zs right) v e in
          let x : ℕ = word_given (number spot b zs left) in
          let y : ℕ = word_given (number spot b zs right) in
          let fits = r.fits in
          let room_left : Room left (i + 1) zs = record { fits = omega arith; small = r.small } in
          let room_right : Room right (i + 1 + words left) zs = record { fits = omega arith; small = r.small } in
          let xw : x < 2 ^ 32 = number_word spot b low zs w left s.0 x (given_ok _ n.x n.left) in
          let yw : y < 2 ^ 32 = number_word spot b low zs w right s.1 y (given_ok _ n.y n.right) in
          goes_seq (operand_goes left (i + 1) zs s.0 room_left k.0 (left_takes b f (keeping m p q) x))
          (goes_seq (operand_goes right (i + 1 + words left) zs s.1 room_right k.1
          (right_takes b f (operands m p q x 0) y))
          (operator_goes m p q b f zs x y xw yw o))

      -- the register of its value
      pub result_has : (e : Expression) → HasResult (result_of e)
      result_has (Number at word) = in_content
      result_has (Null at) = in_content
      result_has (Variable name) = in_content
      result_has (Element name index) = in_item
      result_has (Binary at o left right) = operator_has o

      pub open_gives : (e : Expression) (v : ℕ) (zs zs' : List ℕ) → number spot b zs e ≡ Ok v
          → memory_reg (mem (based e) f (opened zs e) zs') (result_of e) ≡ v
      open_gives (Number at word) v zs zs' e = ok_is e
      open_gives (Null at) v zs zs' e = ok_is e
      open_gives (Variable name) v zs zs' e = ok_is e
      open_gives (Element name index) v zs zs' e =
          let a = address_of_word zs (element_at zs (word_of spot b zs name.text) (number spot b zs index)) v e in
          let n = inside_of zs (word_of spot b zs name.text) (number spot b zs index) a.0 a.1 in
          let same : n.x ≡ word_given (number spot b zs index) = ok_is (sym n.index ∙ given_ok _ n.x n.index) in
          ap (slice_index zs) (ap (λ z. word_of spot b zs name.text + z + HEADER_WORDS) (sym same) ∙ n.at) ∙ a.2
      open_gives (Binary at o left right) v zs zs' e =
          let n = both_ok o (number spot b zs left) (number spot b zs right) v e in
          let ex : n.x ≡ word_given (number spot b zs left) = ok_is (sym n.left ∙ given_ok _ n.x n.left) in
          let ey : n.y ≡ word_given (number spot b zs right) = ok_is (sym n.right ∙ given_ok _ n.y n.right) in
          operator_gives m p q b f zs' (word_given (number spot b zs left)) (word_given (number spot b zs right)) o
          ∙ ap (λ z. operated o z (word_given (number spot b zs right))) (sym ex) ∙ ap (operated o n.x) (sym ey) ∙ n.is

      -- an element that is not there
      pub open_traps : (at : ℕ) (name : Rattle.register_expressions.specs.rpp_tree.declared.tree.Ident.Ident)
          (index : Expression) (i x c : ℕ) (zs : List ℕ) → AllWords zs → Sees spot b low zs (Element name index)
          → Room (Element name index) i zs → Parted zs (Element name index) i → number spot b zs index ≡ Ok x
          → number spot b zs (Element name index) ≡ Err c
          → Traps (checked_cells spot free name.text index (i + 1)) (checked_steps index) c (mem b f (keeping m p q) zs)
      open_traps at name index i x c zs w s r k g e =
          by (fault_of zs (word_of spot b zs name.text) (number spot b zs index) c
          (fault_of_word zs (element_at zs (word_of spot b zs name.text) (number spot b zs index)) c e))
        where
          room : Room index (i + 1) zs
          room = record { fits = let h = r.fits in omega arith; small = r.small }

          reads : Reads spot free b zs index (i + 1) x
          reads = subst (Reads spot free b zs index (i + 1)) (ap word_given g) k

          by : IsFault zs (word_of spot b zs name.text) (number spot b zs index) c
              → Traps (checked_cells spot free name.text index (i + 1)) (checked_steps index) c
              (mem b f (keeping m p q) zs)
          by (by_index h) = absurd (cc)
          by (by_nil y h n q5) = subst (λ z. Traps (checked_cells spot free name.text index (i + 1))
              (checked_steps index) z (mem b f (keeping m p q) zs)) (sym q5)
              (checked_nil m p q f name.text index (i + 1) x zs w s.0 s.1 s.2 room g reads n)
          by (by_end y h n l q9) =
              let l' : slice_index zs (word_of spot b zs name.text) ≤ x =
              subst (λ z. slice_index zs (word_of spot b zs name.text) ≤ z) (ok_is (sym h ∙ g)) l in
              subst (λ z. Traps (checked_cells spot free name.text index (i + 1)) (checked_steps index) z
              (mem b f (keeping m p q) zs)) (sym q9) (checked_past m p q f name.text index (i + 1) x zs w s.0 s.1
              s.2 room g reads n l')
