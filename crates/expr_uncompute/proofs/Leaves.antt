-- A variable updated by a number or by a variable.
use Rattle.std.proofs.Common.{◌≡◌, ◌≢◌, ℕ, ◌+◌, ◌-◌, ◌%◌, ◌^◌, ◌<◌, ◌≤◌, List, [], ◌∷◌, length, length-set, refl}
use Rattle.std.proofs.Common.{sym, ap, ◌∙◌, subst, arith, ⊎_elim}
use Rattle.std.specs.Prelude.{slice_index, slice_set}
use Rattle.std.specs.Int.Bits.{xor_self}
use Rattle.std.proofs.lemmas.List.{get_or-set_same, get_or-set_other, set_comm, set-set}
use Rattle.std.proofs.lemmas.Bool.{cases_eq}
use Rattle.register_expressions.specs.rpp_words.Words.{sum_of, difference_of}
use Rattle.register_expressions.specs.rpp_tree.declared.tree.UpdateOp.{UpdateOp}
use Rattle.register_expressions.specs.rpp_tree.declared.tree.UpdateOp.TheVariants as update
use Rattle.register_expressions.specs.pisa_isa.Machine.{Memory}
use Rattle.register_expressions.specs.code_conventions.declared.registers.TheConstants.{AMOUNT, CONTENT}
use Rattle.register_expressions.specs.roopl_semantics.Operators.{updated}
use Rattle.register_expressions.specs.refine_form.declared.spot.Spot.{Spot}
use Rattle.register_expressions.specs.code_scope.Visible.{offset_of}
use Rattle.register_expressions.specs.Code.{around, addi, exch, base_of, reach_cells}
use Rattle.expr_uncompute.specs.Code.{update_cell, number_cell, onward_cell, both_reached}
use Rattle.register_expressions.specs.Number.{Bases, spot_address}
use Rattle.register_expressions.proofs.Goes.{Goes, goes_seq, goes_cons, goes_to, goes_around, goes_xor, goes_add}
use Rattle.register_expressions.proofs.Goes.{goes_sub, goes_addi_word}
use Rattle.register_expressions.proofs.Numbers.{AllWords, words_set}
use Rattle.register_expressions.proofs.Reading.{moved, changed_goes}
use Rattle.register_expressions.proofs.Scratch.{keeping, mem}
use Rattle.expr_uncompute.proofs.Standing.{stands_there, stands_on, onto, there_goes, on_goes, exchanged, amount_out}
use Rattle.expr_uncompute.proofs.Standing.{content_out}

-- ---- a word that its own update does not change is 0

no_change : (op : UpdateOp) (x : ℕ) → x < 2 ^ 32 → updated op x x ≡ x → x ≡ 0
no_change update.Add x h e = let q : (x + x) % 2 ^ 32 ≡ x = e in omega arith
no_change update.Sub x h e = let q : (x + (2 ^ 32 - x)) % 2 ^ 32 ≡ x = e in omega arith
no_change update.Xor x h e = sym e ∙ xor_self x

nothing_changed : (op : UpdateOp) → updated op 0 0 ≡ 0
nothing_changed update.Add = refl
nothing_changed update.Sub = refl
nothing_changed update.Xor = refl

-- ---- the cells while a word and one that is updated by it are out, before the update and after it

module _ (op : UpdateOp) (zs : List ℕ) (w : AllWords zs) (a : ℕ) (k : a < length zs) where
  abbrev updated_by : ℕ → List ℕ
  updated_by p = slice_set zs a (updated op (slice_index zs a) (slice_index zs p))

  record Again (p : ℕ) : Type 0 where
    word : slice_index (slice_set (updated_by p) p 0) a
        ≡ updated op (slice_index (slice_set zs p 0) a) (slice_index zs p)
    cells : slice_set (slice_set (updated_by p) p 0) a 0 ≡ slice_set (slice_set zs p 0) a 0

  apart : (p : ℕ) → p ≢ a → Again p
  apart p n =
      let n' : a ≢ p = λ e. n (sym e) in
      let y : ℕ = updated op (slice_index zs a) (slice_index zs p) in
      record {
        word = get_or-set_other (slice_set zs a y) p a 0 0 n' ∙ get_or-set_same zs a y 0 k
            ∙ ap (λ z. updated op z (slice_index zs p)) (sym (get_or-set_other zs p a 0 0 n'));
        cells = ap (λ z. slice_set z a 0) (set_comm zs a p y 0 n') ∙ set-set (slice_set zs p 0) a y 0;
      }

  one : slice_index (updated_by a) a ≡ slice_index zs a → Again a
  one kept =
      let x : ℕ = slice_index zs a in
      let y : ℕ = updated op x x in
      let zero : x ≡ 0 = no_change op x (w a) (sym (get_or-set_same zs a y 0 k) ∙ kept) in
      let out : slice_index (slice_set zs a 0) a ≡ 0 = get_or-set_same zs a 0 0 k in
      let same : updated op (slice_index (slice_set zs a 0) a) x ≡ 0 = ap (λ z. updated op z x) out
      ∙ ap (updated op 0) zero ∙ nothing_changed op in
      record {
        word = get_or-set_same (slice_set zs a y) a 0 0 (rw (length-set zs a y) k) ∙ sym same;
        cells = ap (λ z. slice_set z a 0) (set-set zs a y 0);
      }

  again : (p : ℕ) → slice_index (updated_by p) p ≡ slice_index zs p → Again p
  again p kept = ⊎_elim (λ e. subst (λ q. slice_index (updated_by q) q ≡ slice_index zs q → Again q) (sym e) one kept)
      (λ n. apart p n) (cases_eq p a)

module _ (b : Bases) (f : ℕ → ℕ) where
  -- ---- by a number

  alter_by : (op : UpdateOp) (x word : ℕ) → x < 2 ^ 32 → word < 2 ^ 32 → (c : Bases) (zs : List ℕ)
      → Goes (number_cell op CONTENT word ∷ []) 1 (mem c f (record (keeping 0 0 0) { content = x }) zs)
      (mem c f (record (keeping 0 0 0) { content = updated op x word }) zs)
  alter_by update.Add x word h k c zs = goes_addi_word _
      (λ z. mem c f (record (keeping 0 0 0) { content = z }) zs) x word h k refl k (λ z. refl) (λ z. refl)
  alter_by update.Sub x word h k c zs =
      let put : ℕ → Memory = λ z. mem c f (record (keeping 0 0 0) { content = z }) zs in
      let e : sum_of x (difference_of 0 word) ≡ difference_of x word = omega arith in
      goes_to refl refl (ap put e) (goes_addi_word _ put x (difference_of 0 word) h (omega arith) refl (omega arith)
      (λ z. refl) (λ z. refl))
  alter_by update.Xor x word h k c zs = goes_xor _ (λ z. mem c f (record (keeping 0 0 0) { content = z }) zs) x word
      refl k (λ z. refl) (λ z. refl)

  pub number_goes : (op : UpdateOp) (sp : Spot) (word : ℕ) (zs : List ℕ) → AllWords zs → spot_address b sp < length zs
      → length zs ≤ 2 ^ 31 → word < 2 ^ 32 → Goes (around (reach_cells sp) (number_cell op CONTENT word ∷ [])) 5
      (mem b f (keeping 0 0 0) zs) (mem b f (keeping 0 0 0) (slice_set zs (spot_address b sp)
      (updated op (slice_index zs (spot_address b sp)) word)))
  number_goes op sp word zs w h small k =
      let x : ℕ = slice_index zs (spot_address b sp) in
      changed_goes b x (updated op x word) f (keeping 0 0 0) zs sp h small refl
      (alter_by op x word (w (spot_address b sp)) k)

  -- ---- by a variable

  take_goes : (zs : List ℕ) (x : Spot) → spot_address b x < length zs → length zs ≤ 2 ^ 31
      → Goes (addi (base_of x) (offset_of x) ∷ exch AMOUNT (base_of x) ∷ []) 2 (mem b f (keeping 0 0 0) zs)
      (mem (moved b x) f (keeping (slice_index zs (spot_address b x)) 0 0) (slice_set zs (spot_address b x) 0))
  take_goes zs x h k = goes_cons (there_goes b f (keeping 0 0 0) zs x (omega arith))
      (exchanged f (amount_out f) (moved b x) x (spot_address b x) (stands_there b x) 0 zs h)

  onward_goes : (v : ℕ) (zs : List ℕ) (x y : Spot) → spot_address b x < 2 ^ 32 → spot_address b y < length zs
      → length zs ≤ 2 ^ 31 → Goes (onward_cell x y ∷ exch CONTENT (base_of y) ∷ []) 2
      (mem (moved b x) f (keeping v 0 0) zs)
      (mem (onto b x y) f (record (keeping v 0 0) { content = slice_index zs (spot_address b y) })
      (slice_set zs (spot_address b y) 0))
  onward_goes v zs x y l h k = goes_cons (on_goes b f (keeping v 0 0) zs x y l (omega arith))
      (exchanged f (content_out f v) (onto b x y) y (spot_address b y) (stands_on b x y) 0 zs h)

  both_there : (zs : List ℕ) (x y : Spot) → spot_address b x < length zs → spot_address b y < length zs
      → length zs ≤ 2 ^ 31 → Goes (both_reached x y) 4 (mem b f (keeping 0 0 0) zs)
      (mem (onto b x y) f (record (keeping (slice_index zs (spot_address b x)) 0 0)
      { content = slice_index (slice_set zs (spot_address b x) 0) (spot_address b y) })
      (slice_set (slice_set zs (spot_address b x) 0) (spot_address b y) 0))
  both_there zs x y h k small =
      let p : ℕ = spot_address b x in
      goes_seq (take_goes zs x h small) (onward_goes (slice_index zs p) (slice_set zs p 0) x y (omega arith)
      (rw (length-set zs p 0) k) (rw (length-set zs p 0) small))

  alter : (op : UpdateOp) (c : Bases) (u v : ℕ) (ws : List ℕ) → u < 2 ^ 32 → v < 2 ^ 32
      → Goes (update_cell op CONTENT AMOUNT ∷ []) 1 (mem c f (record (keeping v 0 0) { content = u }) ws)
      (mem c f (record (keeping v 0 0) { content = updated op u v }) ws)
  alter update.Add c u v ws h k = goes_add _ (λ z. mem c f (record (keeping v 0 0) { content = z }) ws) u v h k refl
      (omega arith) (λ z. refl) (λ z. refl)
  alter update.Sub c u v ws h k = goes_sub _ (λ z. mem c f (record (keeping v 0 0) { content = z }) ws) u v h k refl
      (omega arith) (λ z. refl) (λ z. refl)
  alter update.Xor c u v ws h k = goes_xor _ (λ z. mem c f (record (keeping v 0 0) { content = z }) ws) u v refl
      (omega arith) (λ z. refl) (λ z. refl)

  pub variable_goes : (op : UpdateOp) (x y : Spot) (zs : List ℕ) → AllWords zs → spot_address b x < length zs
      → spot_address b y < length zs → length zs ≤ 2 ^ 31 → slice_index (slice_set zs (spot_address b y)
      (updated op (slice_index zs (spot_address b y)) (slice_index zs (spot_address b x)))) (spot_address b x)
      ≡ slice_index zs (spot_address b x)
      → Goes (around (both_reached x y) (update_cell op CONTENT AMOUNT ∷ [])) 9 (mem b f (keeping 0 0 0) zs)
      (mem b f (keeping 0 0 0) (slice_set zs (spot_address b y)
      (updated op (slice_index zs (spot_address b y)) (slice_index zs (spot_address b x)))))
  variable_goes op x y zs w h k small kept =
      let p : ℕ = spot_address b x in
      let a : ℕ = spot_address b y in
      let v : ℕ = slice_index zs p in
      let u : ℕ = slice_index (slice_set zs p 0) a in
      let new : ℕ = updated op (slice_index zs a) v in
      let zs' : List ℕ = slice_set zs a new in
      let n = again op zs w a k p kept in
      let h' : p < length zs' = rw (length-set zs a new) h in
      let k' : a < length zs' = rw (length-set zs a new) k in
      let small' : length zs' ≤ 2 ^ 31 = rw (length-set zs a new) small in
      let last = goes_to refl refl (ap (λ z. mem (onto b x y) f (record (keeping z 0 0)
      { content = slice_index (slice_set zs' p 0) a }) (slice_set (slice_set zs' p 0) a 0)) kept
      ∙ ap (λ z. mem (onto b x y) f (record (keeping v 0 0) { content = z }) (slice_set (slice_set zs' p 0) a 0)) n.word
      ∙ ap (mem (onto b x y) f (record (keeping v 0 0) { content = updated op u v })) n.cells)
      (both_there zs' x y h' k' small') in
      goes_around (both_there zs x y h k small) (alter op (onto b x y) u v (slice_set (slice_set zs p 0) a 0)
      (words_set zs p 0 w (omega arith) a) (w p)) last
