-- The words of the frame that hold the elements and operators of an expression.
use Rattle.std.proofs.Common.{◌≡◌, ◌≢◌, ℕ, ◌+◌, ◌<◌, ◌≤◌, ◌⊎◌, inl, inr, List, length, length-set, refl, sym, ap, ◌∙◌}
use Rattle.std.proofs.Common.{arith}
use Rattle.std.specs.Prelude.{slice_index, slice_set, Ok}
use Rattle.std.proofs.lemmas.List.{get_or-set_same, get_or-set_other}
use Rattle.register_expressions.specs.rpp_tree.Tree.{Expression, Number, Null, Variable, Element, Binary}
use Rattle.register_expressions.specs.refine_form.declared.spot.Spot.{Spot}
use Rattle.register_expressions.specs.refine_form.declared.spot.Spot.TheVariants.{Frame}
use Rattle.register_expressions.specs.Code.{words}
use Rattle.register_expressions.specs.Number.{Bases, spot_address, word_given, word_of, number, Sees, Same}
use Rattle.register_expressions.proofs.Numbers.{Agree, number_same, sees_same}

module _ (spot : List ℕ → Spot) (free : ℕ) (b : Bases) where
  -- the address of a word of the frame
  abbrev pub home : ℕ → ℕ
  home i = spot_address b (Frame (free + i))

  abbrev value : List ℕ → Expression → ℕ
  value zs e = word_given (number spot b zs e)

  -- the cells after `prepare`
  abbrev pub stored : Expression → (i : ℕ) → List ℕ → List ℕ
  stored (Number at word) i zs = zs
  stored (Null at) i zs = zs
  stored (Variable name) i zs = zs
  stored (Element name index) i zs = slice_set (stored index (i + 1) zs) (home i)
      (word_given (number spot b zs (Element name index)))
  stored (Binary at op left right) i zs =
      slice_set (stored right (i + 1 + words left) (stored left (i + 1) zs)) (home i)
      (word_given (number spot b zs (Binary at op left right)))

  -- and those with only the subexpressions prepared
  abbrev pub parted : Expression → (i : ℕ) → List ℕ → List ℕ
  parted (Element name index) i zs = stored index (i + 1) zs
  parted (Binary at op left right) i zs = stored right (i + 1 + words left) (stored left (i + 1) zs)
  parted _ i zs = zs

  pub stored_length : (e : Expression) (i : ℕ) (zs : List ℕ) → length (stored e i zs) ≡ length zs
  stored_length (Number at word) i zs = refl
  stored_length (Null at) i zs = refl
  stored_length (Variable name) i zs = refl
  stored_length (Element name index) i zs = length-set (stored index (i + 1) zs) (home i) _
      ∙ stored_length index (i + 1) zs
  stored_length (Binary at op left right) i zs =
      length-set (stored right (i + 1 + words left) (stored left (i + 1) zs)) (home i) _
      ∙ stored_length right (i + 1 + words left) (stored left (i + 1) zs) ∙ stored_length left (i + 1) zs

  -- an address that is none of the words
  abbrev pub Off : Expression → (i a : ℕ) → Type 0
  Off e i a = (a < home i) ⊎ (home (i + words e) ≤ a)

  off_part : (e d : Expression) (i j a : ℕ) → i ≤ j → j + words d ≤ i + words e → Off e i a → Off d j a
  off_part e d i j a lo hi (inl h) = inl (omega arith)
  off_part e d i j a lo hi (inr h) = inr (omega arith)

  off_not : (e : Expression) (i a : ℕ) → 1 ≤ words e → Off e i a → a ≢ home i
  off_not e i a w (inl h) = λ q. omega arith
  off_not e i a w (inr h) = λ q. omega arith

  pub stored_other : (e : Expression) (i : ℕ) (zs : List ℕ) (a : ℕ) → Off e i a
      → slice_index (stored e i zs) a ≡ slice_index zs a
  stored_other (Number at word) i zs a o = refl
  stored_other (Null at) i zs a o = refl
  stored_other (Variable name) i zs a o = refl
  stored_other (Element name index) i zs a o =
      get_or-set_other (stored index (i + 1) zs) (home i) a _ 0 (off_not (Element name index) i a (omega arith) o)
      ∙ stored_other index (i + 1) zs a (off_part (Element name index) index i (i + 1) a (omega arith) (omega arith) o)
  stored_other (Binary at op left right) i zs a o =
      get_or-set_other (stored right (i + 1 + words left) (stored left (i + 1) zs)) (home i) a _ 0
      (off_not (Binary at op left right) i a (omega arith) o)
      ∙ stored_other right (i + 1 + words left) (stored left (i + 1) zs) a
      (off_part (Binary at op left right) right i (i + 1 + words left) a (omega arith) (omega arith) o)
      ∙ stored_other left (i + 1) zs a (off_part (Binary at op left right) left i (i + 1) a (omega arith) (omega arith)
      o)

  -- so the words below stay
  pub stored_below : (e : Expression) (i : ℕ) (zs : List ℕ) → Agree (b.frame + free) zs (stored e i zs)
  stored_below e i zs a h = stored_other e i zs a (inl (omega arith))

  -- ---- what an operand reads

  abbrev pub Reads : List ℕ → Expression → (i v : ℕ) → Type 0
  Reads zs (Number at word) i v = word ≡ v
  Reads zs (Null at) i v = 0 ≡ v
  Reads zs (Variable name) i v = word_of spot b zs name.text ≡ v
  Reads zs (Element name index) i v = slice_index zs (home i) ≡ v
  Reads zs (Binary at op left right) i v = slice_index zs (home i) ≡ v

  -- after `prepare` it reads its value
  pub stored_reads : (e : Expression) (i : ℕ) (zs : List ℕ) → home (i + words e) ≤ length zs
      → Reads (stored e i zs) e i (word_given (number spot b zs e))
  stored_reads (Number at word) i zs h = refl
  stored_reads (Null at) i zs h = refl
  stored_reads (Variable name) i zs h = refl
  stored_reads (Element name index) i zs h =
      get_or-set_same (stored index (i + 1) zs) (home i) _ 0 (rw (stored_length index (i + 1) zs) (omega arith))
  stored_reads (Binary at op left right) i zs h =
      get_or-set_same (stored right (i + 1 + words left) (stored left (i + 1) zs)) (home i) _ 0
      (rw (stored_length right (i + 1 + words left) (stored left (i + 1) zs), stored_length left (i + 1) zs)
      (omega arith))

  -- and goes on reading it if its own words and those below stay
  pub reads_same : (e : Expression) (i v : ℕ) (zs zs' : List ℕ) → Sees spot b (b.frame + free) zs e
      → Agree (b.frame + free) zs zs' → ((a : ℕ) → home i ≤ a → a < home (i + words e)
      → slice_index zs' a ≡ slice_index zs a) → Reads zs e i v → Reads zs' e i v
  reads_same (Number at word) i v zs zs' s ag own r = r
  reads_same (Null at) i v zs zs' s ag own r = r
  reads_same (Variable name) i v zs zs' s ag own r = ag _ s ∙ r
  reads_same (Element name index) i v zs zs' s ag own r = own (home i) (omega arith) (omega arith) ∙ r
  reads_same (Binary at op left right) i v zs zs' s ag own r = own (home i) (omega arith) (omega arith) ∙ r

  -- ---- a write below the words, that changes no value

  pub same_number : (e : Expression) (zs zs' : List ℕ) → Same spot b zs zs' e → number spot b zs' e ≡ number spot b zs e
  same_number (Number at word) zs zs' h = refl
  same_number (Null at) zs zs' h = refl
  same_number (Variable name) zs zs' h = ap Ok h
  same_number (Element name index) zs zs' h = h.0
  same_number (Binary at op left right) zs zs' h = h.0

  -- the same if all words below stay
  pub same_lifted : (e : Expression) (zs zs' ys ys' : List ℕ) → Agree (b.frame + free) zs ys
      → Agree (b.frame + free) zs' ys' → Sees spot b (b.frame + free) zs e → Sees spot b (b.frame + free) zs' e
      → Same spot b zs zs' e → Same spot b ys ys' e
  same_lifted (Number at word) zs zs' ys ys' k k' s s' h = tt
  same_lifted (Null at) zs zs' ys ys' k k' s s' h = tt
  same_lifted (Variable name) zs zs' ys ys' k k' s s' h = k' _ s' ∙ h ∙ sym (k _ s)
  same_lifted (Element name index) zs zs' ys ys' k k' s s' h = (
    number_same spot b (b.frame + free) zs' ys' k' (Element name index) s' ∙ h.0
        ∙ sym (number_same spot b (b.frame + free) zs ys k (Element name index) s),
    same_lifted index zs zs' ys ys' k k' s.2 s'.2 h.1,
  )
  same_lifted (Binary at op left right) zs zs' ys ys' k k' s s' h = (
    number_same spot b (b.frame + free) zs' ys' k' (Binary at op left right) s' ∙ h.0
        ∙ sym (number_same spot b (b.frame + free) zs ys k (Binary at op left right) s),
    same_lifted left zs zs' ys ys' k k' s.0 s'.0 h.1,
    same_lifted right zs zs' ys ys' k k' s.1 s'.1 h.2,
  )

  -- a write of words below
  pub record IsWrite (write : List ℕ → List ℕ) : Type 0 where
    pub passes : (zs : List ℕ) (h v : ℕ) → b.frame + free ≤ h → write (slice_set zs h v) ≡ slice_set (write zs) h v
    pub lifts : (zs ys : List ℕ) → length ys ≡ length zs → Agree (b.frame + free) zs ys
        → Agree (b.frame + free) (write zs) (write ys)

  -- it may be made before or after the words are filled
  pub stored_written : (write : List ℕ → List ℕ) → IsWrite write → (e : Expression) (i : ℕ) (zs : List ℕ)
      → Sees spot b (b.frame + free) zs e → Sees spot b (b.frame + free) (write zs) e → Same spot b zs (write zs) e
      → stored e i (write zs) ≡ write (stored e i zs)
  stored_written write w (Number at word) i zs s s' h = refl
  stored_written write w (Null at) i zs s s' h = refl
  stored_written write w (Variable name) i zs s s' h = refl
  stored_written write w (Element name index) i zs s s' h =
      ap (λ n. slice_set (stored index (i + 1) (write zs)) (home i) (word_given n)) h.0
      ∙ ap (λ ys. slice_set ys (home i) (word_given (number spot b zs (Element name index))))
      (stored_written write w index (i + 1) zs s.2 s'.2 h.1)
      ∙ sym (w.passes (stored index (i + 1) zs) (home i) (word_given (number spot b zs (Element name index)))
      (omega arith))
  stored_written write w (Binary at op left right) i zs s s' h =
      let j : ℕ = i + 1 + words left in
      let zs1 : List ℕ = stored left (i + 1) zs in
      let n : ℕ = word_given (number spot b zs (Binary at op left right)) in
      let below = stored_below left (i + 1) zs in
      let below' : Agree (b.frame + free) (write zs) (write zs1) =
      w.lifts zs zs1 (stored_length left (i + 1) zs) below in
      ap (λ n. slice_set (stored right (i + 1 + words left) (stored left (i + 1) (write zs))) (home i) (word_given n))
      h.0
      ∙ ap (λ ys. slice_set (stored right (i + 1 + words left) ys) (home i) n)
      (stored_written write w left (i + 1) zs s.0 s'.0 h.1)
      ∙ ap (λ ys. slice_set ys (home i) n) (stored_written write w right j zs1
      (sees_same spot b (b.frame + free) zs zs1 below right s.1)
      (sees_same spot b (b.frame + free) (write zs) (write zs1) below' right s'.1)
      (same_lifted right zs (write zs) zs1 (write zs1) below below' s.1 s'.1 h.2))
      ∙ sym (w.passes (stored right j zs1) (home i) n (omega arith))

  pub parted_written : (write : List ℕ → List ℕ) → IsWrite write → (e : Expression) (i : ℕ) (zs : List ℕ)
      → Sees spot b (b.frame + free) zs e → Sees spot b (b.frame + free) (write zs) e → Same spot b zs (write zs) e
      → parted e i (write zs) ≡ write (parted e i zs)
  parted_written write w (Number at word) i zs s s' h = refl
  parted_written write w (Null at) i zs s s' h = refl
  parted_written write w (Variable name) i zs s s' h = refl
  parted_written write w (Element name index) i zs s s' h = stored_written write w index (i + 1) zs s.2 s'.2 h.1
  parted_written write w (Binary at op left right) i zs s s' h =
      let j : ℕ = i + 1 + words left in
      let zs1 : List ℕ = stored left (i + 1) zs in
      let below = stored_below left (i + 1) zs in
      let below' : Agree (b.frame + free) (write zs) (write zs1) =
      w.lifts zs zs1 (stored_length left (i + 1) zs) below in
      ap (λ ys. stored right (i + 1 + words left) ys) (stored_written write w left (i + 1) zs s.0 s'.0 h.1)
      ∙ stored_written write w right j zs1 (sees_same spot b (b.frame + free) zs zs1 below right s.1)
      (sees_same spot b (b.frame + free) (write zs) (write zs1) below' right s'.1)
      (same_lifted right zs (write zs) zs1 (write zs1) below below' s.1 s'.1 h.2)
