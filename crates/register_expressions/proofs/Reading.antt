-- A word of memory, by its spot: copied into a register, or a register xored into it.
use Rattle.std.proofs.Common.{◌≡◌, ℕ, ◌+◌, ◌^◌, ◌<◌, ◌≤◌, List, [], ◌∷◌, length, length-set, refl, sym, ap, ◌∙◌, arith}
use Rattle.std.specs.Prelude.{slice_index, slice_set}
use Rattle.std.proofs.lemmas.List.{get_or-set_same, set-set}
use Rattle.code_scope.specs.code_conventions.declared.memory.TheConstants.{HEADER_WORDS}
use Rattle.code_scope.specs.paired_code.declared.part.Symbol.{Symbol}
use Rattle.code_scope.specs.refine_form.declared.spot.Spot.{Spot}
use Rattle.code_scope.specs.refine_form.declared.spot.Spot.TheVariants.{Field, Frame}
use Rattle.register_expressions.specs.Code.{xor, xori, around, reach_cells, copy_cells, store_cells}
use Rattle.register_expressions.specs.Number.{Bases, spot_address}
use Rattle.register_expressions.proofs.Goes.{Goes, goes_cons, goes_around, goes_to, goes_set, goes_addi, goes_exch}
use Rattle.register_expressions.proofs.Scratch.{Scratch, mem}
use Rattle.code_scope.specs.code_conventions.declared.registers.TheConstants.{CONTENT, ITEM, LEFT, OUTCOME, RIGHT, TRUTH}

-- the registers that have a result
pub data HasResult : ℕ → Type 0 where
  in_content : HasResult CONTENT
  in_outcome : HasResult OUTCOME
  in_left : HasResult LEFT
  in_item : HasResult ITEM
  in_truth : HasResult TRUTH

module _ (b : Bases) where
  -- the bases while the word of a storage slot is out: its own is at the word
  abbrev pub moved : Spot → Bases
  moved (Field i) = record b { object = spot_address b (Field i) }
  moved (Frame i) = record b { frame = spot_address b (Frame i) }

  pub reach_goes : (f : ℕ → ℕ) (s : Scratch) (cells : List ℕ) (sp : Spot) → spot_address b sp < length cells
      → length cells ≤ 2 ^ 31
      → Goes (reach_cells sp) 2 (mem b f (record s { content = 0 }) cells)
      (mem (moved sp) f (record s { content = slice_index cells (spot_address b sp) })
      (slice_set cells (spot_address b sp) 0))
  reach_goes f s cells (Field i) h k =
      let a : ℕ = spot_address b (Field i) in
      goes_cons (goes_addi _ (λ z. mem (record b { object = z }) f (record s { content = 0 }) cells) b.object
      (HEADER_WORDS + i)
      (omega arith) refl (omega arith) (λ z. refl) (λ z. refl))
      (goes_exch _ (λ z zs. mem (record b { object = a }) f (record s { content = z }) zs) a 0 cells h refl
      (omega arith) (λ z zs. refl) (λ z zs. refl))
  reach_goes f s cells (Frame i) h k =
      let a : ℕ = spot_address b (Frame i) in
      goes_cons (goes_addi _ (λ z. mem (record b { frame = z }) f (record s { content = 0 }) cells) b.frame i
      (omega arith) refl (omega arith) (λ z. refl) (λ z. refl))
      (goes_exch _ (λ z zs. mem (record b { frame = a }) f (record s { content = z }) zs) a 0 cells h refl
      (omega arith) (λ z zs. refl) (λ z zs. refl))

  -- a register that takes a word: from `CONTENT`, as a number, or 0 as nothing
  pub record Takes (into v : ℕ) (f f' : ℕ → ℕ) (s s' : Scratch) : Type 0 where
    pub by_content : (c : Bases) (zs : List ℕ) → Goes (xor into CONTENT ∷ []) 1
        (mem c f (record s { content = v }) zs) (mem c f' (record s' { content = v }) zs)
    pub by_number : v < 2 ^ 32 → (zs : List ℕ) → Goes (xori into v ∷ []) 1
        (mem b f (record s { content = 0 }) zs) (mem b f' (record s' { content = 0 }) zs)
    pub by_nothing : v ≡ 0 → (zs : List ℕ) → mem b f (record s { content = 0 }) zs
        ≡ mem b f' (record s' { content = 0 }) zs

  pub left_takes : (f : ℕ → ℕ) (s : Scratch) (v : ℕ) → Takes LEFT v f f (record s { a = 0 })
      (record s { a = v })
  left_takes f s v = record {
    by_content = λ c zs. goes_set _ (λ z. mem c f (record s { content = v; a = z }) zs) v refl
        (omega arith) (λ z. refl) (λ z. refl);
    by_number = λ h zs. goes_set _ (λ z. mem b f (record s { content = 0; a = z }) zs) v refl h (λ z. refl)
        (λ z. refl);
    by_nothing = λ e zs. ap (λ z. mem b f (record s { content = 0; a = z }) zs) (sym e);
  }

  pub right_takes : (f : ℕ → ℕ) (s : Scratch) (v : ℕ) → Takes RIGHT v f f (record s { b = 0 })
      (record s { b = v })
  right_takes f s v = record {
    by_content = λ c zs. goes_set _ (λ z. mem c f (record s { content = v; b = z }) zs) v refl
        (omega arith) (λ z. refl) (λ z. refl);
    by_number = λ h zs. goes_set _ (λ z. mem b f (record s { content = 0; b = z }) zs) v refl h (λ z. refl)
        (λ z. refl);
    by_nothing = λ e zs. ap (λ z. mem b f (record s { content = 0; b = z }) zs) (sym e);
  }

  -- a word of memory copied
  pub copy_goes : {into v : ℕ} {f f' : ℕ → ℕ} {s s' : Scratch} (cells : List ℕ) (sp : Spot)
      → spot_address b sp < length cells → length cells ≤ 2 ^ 31 → slice_index cells (spot_address b sp) ≡ v
      → Takes into v f f' s s'
      → Goes (copy_cells sp into) 5 (mem b f (record s { content = 0 }) cells)
      (mem b f' (record s' { content = 0 }) cells)
  copy_goes {into = into} {v = v} {f = f} {f' = f'} {s = s} {s' = s'} cells sp h k e t =
      let emptied : List ℕ = slice_set cells (spot_address b sp) 0 in
      let there : (g : ℕ → ℕ) (r : Scratch) → Goes (reach_cells sp) 2
      (mem b g (record r { content = 0 }) cells)
      (mem (moved sp) g (record r { content = v }) (slice_set cells (spot_address b sp) 0)) =
      λ g r. goes_to refl refl (ap (λ z. mem (moved sp) g (record r { content = z }) emptied) e)
      (reach_goes g r cells sp h k) in
      goes_around (there f s) (t.by_content (moved sp) emptied) (there f' s')

  -- a word of memory changed in `CONTENT`
  pub changed_goes : {mid : List Symbol} {n : ℕ} (x y : ℕ) (f : ℕ → ℕ) (s : Scratch) (cells : List ℕ) (sp : Spot)
      → spot_address b sp < length cells → length cells ≤ 2 ^ 31 → slice_index cells (spot_address b sp) ≡ x
      → ((c : Bases) (zs : List ℕ) → Goes mid n (mem c f (record s { content = x }) zs)
      (mem c f (record s { content = y }) zs))
      → Goes (around (reach_cells sp) mid) (2 + (n + 2)) (mem b f (record s { content = 0 }) cells)
      (mem b f (record s { content = 0 }) (slice_set cells (spot_address b sp) y))
  changed_goes x y f s cells sp h k e change =
      let a : ℕ = spot_address b sp in
      let first = goes_to refl refl (ap (λ z. mem (moved sp) f (record s { content = z }) (slice_set cells a 0)) e)
      (reach_goes f s cells sp h k) in
      let h' : a < length (slice_set cells a y) = rw (length-set cells a y) h in
      let k' : length (slice_set cells a y) ≤ 2 ^ 31 = rw (length-set cells a y) k in
      let last = goes_to refl refl (ap (λ z. mem (moved sp) f (record s { content = z })
      (slice_set (slice_set cells a y) a 0)) (get_or-set_same cells a y 0 h)
      ∙ ap (λ z. mem (moved sp) f (record s { content = y }) z) (set-set cells a y 0))
      (reach_goes f s (slice_set cells a y) sp h' k') in
      goes_around first (change (moved sp) (slice_set cells a 0)) last

  -- a register xored into a word of memory that is 0
  pub store_goes : (r v : ℕ) (f : ℕ → ℕ) (s : Scratch) (cells : List ℕ) (sp : Spot) → spot_address b sp < length cells
      → length cells ≤ 2 ^ 31 → slice_index cells (spot_address b sp) ≡ 0
      → ((c : Bases) (zs : List ℕ) → Goes (xor CONTENT r ∷ []) 1 (mem c f (record s { content = 0 }) zs)
      (mem c f (record s { content = v }) zs))
      → Goes (store_cells sp r) 5 (mem b f (record s { content = 0 }) cells)
      (mem b f (record s { content = 0 }) (slice_set cells (spot_address b sp) v))
  store_goes r v f s cells sp h k e sink = changed_goes 0 v f s cells sp h k e sink
