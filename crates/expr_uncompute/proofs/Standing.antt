-- A base that goes to a storage slot and on to another, and exchanges the word there with a
-- register.
use Rattle.std.proofs.Common.{◌≡◌, ℕ, ◌+◌, ◌^◌, ◌<◌, List, [], ◌∷◌, length, refl, ap, subst, arith}
use Rattle.std.specs.Prelude.{slice_index, slice_set}
use Rattle.register_expressions.specs.code_conventions.declared.memory.TheConstants.{HEADER_WORDS}
use Rattle.register_expressions.specs.rpp_words.Words.{sum_of, difference_of}
use Rattle.register_expressions.specs.pisa_isa.Machine.{Memory}
use Rattle.register_expressions.specs.code_conventions.declared.registers.TheConstants.{AMOUNT, CONTENT, FRAME, OBJECT}
use Rattle.register_expressions.specs.refine_form.declared.spot.Spot.{Spot}
use Rattle.register_expressions.specs.refine_form.declared.spot.Spot.TheVariants.{Field, Frame}
use Rattle.register_expressions.specs.code_scope.Visible.{offset_of}
use Rattle.register_expressions.specs.Code.{addi, exch, base_of}
use Rattle.expr_uncompute.specs.Code.{onward_cell}
use Rattle.register_expressions.specs.Number.{Bases, spot_address}
use Rattle.register_expressions.proofs.Goes.{Goes, goes_to, goes_addi, goes_addi_word, goes_exch}
use Rattle.register_expressions.proofs.Reading.{moved}
use Rattle.register_expressions.proofs.Scratch.{Scratch, keeping, mem}

-- the address of a storage slot's base
abbrev pub stand : Bases → Spot → ℕ
stand c (Field i) = c.object
stand c (Frame i) = c.frame

-- from one address to another, over what wraps
far : (o i j : ℕ) → o + i < 2 ^ 32 → o + j < 2 ^ 32 → sum_of (o + i) (difference_of j i) ≡ o + j
far o i j h k = omega arith

module _ (b : Bases) where
  -- the bases after a base went to a storage slot, and it or the other one to a second
  abbrev pub onto : (x y : Spot) → Bases
  onto (Field i) (Field j) = moved b (Field j)
  onto (Frame i) (Frame j) = moved b (Frame j)
  onto (Field i) (Frame j) = record { object = spot_address b (Field i); frame = spot_address b (Frame j) }
  onto (Frame i) (Field j) = record { object = spot_address b (Field j); frame = spot_address b (Frame i) }

  pub stands_there : (x : Spot) → stand (moved b x) x ≡ spot_address b x
  stands_there (Field i) = refl
  stands_there (Frame i) = refl

  pub stands_on : (x y : Spot) → stand (onto x y) y ≡ spot_address b y
  stands_on (Field i) (Field j) = refl
  stands_on (Field i) (Frame j) = refl
  stands_on (Frame i) (Field j) = refl
  stands_on (Frame i) (Frame j) = refl

  module _ (f : ℕ → ℕ) (s : Scratch) (zs : List ℕ) where
    pub there_goes : (x : Spot) → spot_address b x < 2 ^ 32
        → Goes (addi (base_of x) (offset_of x) ∷ []) 1 (mem b f s zs) (mem (moved b x) f s zs)
    there_goes (Field i) h = goes_addi _ (λ z. mem (record b { object = z }) f s zs) b.object (HEADER_WORDS + i) h refl
        (omega arith) (λ z. refl) (λ z. refl)
    there_goes (Frame i) h = goes_addi _ (λ z. mem (record b { frame = z }) f s zs) b.frame i h refl (omega arith)
        (λ z. refl) (λ z. refl)

    pub on_goes : (x y : Spot) → spot_address b x < 2 ^ 32 → spot_address b y < 2 ^ 32
        → Goes (onward_cell x y ∷ []) 1 (mem (moved b x) f s zs) (mem (onto x y) f s zs)
    on_goes (Field i) (Field j) h k =
        let put : ℕ → Memory = λ z. mem (record b { object = z }) f s zs in
        goes_to refl refl (ap put (far b.object (HEADER_WORDS + i) (HEADER_WORDS + j) h k))
        (goes_addi_word _ put (b.object + (HEADER_WORDS + i))
        (difference_of (HEADER_WORDS + j) (HEADER_WORDS + i)) h (omega arith) refl (omega arith) (λ z. refl)
        (λ z. refl))
    on_goes (Frame i) (Frame j) h k =
        let put : ℕ → Memory = λ z. mem (record b { frame = z }) f s zs in
        goes_to refl refl (ap put (far b.frame i j h k)) (goes_addi_word _ put (b.frame + i) (difference_of j i) h
        (omega arith) refl (omega arith) (λ z. refl) (λ z. refl))
    on_goes (Field i) (Frame j) h k = goes_addi _ (λ z. mem (record { object = spot_address b (Field i); frame = z }) f s
        zs) b.frame j k refl (omega arith) (λ z. refl) (λ z. refl)
    on_goes (Frame i) (Field j) h k = goes_addi _ (λ z. mem (record { object = z; frame = spot_address b (Frame i) }) f s
        zs) b.object (HEADER_WORDS + j) k refl (omega arith) (λ z. refl) (λ z. refl)

module _ (f : ℕ → ℕ) where
  -- a register that is exchanged with the word at a base, by what the register holds
  pub record Exchanges (r : ℕ) (put : ℕ → Scratch) : Type 0 where
    pub by_object : (c : Bases) (z : ℕ) (ws : List ℕ) → c.object < length ws → Goes (exch r OBJECT ∷ []) 1
        (mem c f (put z) ws) (mem c f (put (slice_index ws c.object)) (slice_set ws c.object z))
    pub by_frame : (c : Bases) (z : ℕ) (ws : List ℕ) → c.frame < length ws → Goes (exch r FRAME ∷ []) 1
        (mem c f (put z) ws) (mem c f (put (slice_index ws c.frame)) (slice_set ws c.frame z))

  pub exchanged : {r : ℕ} {put : ℕ → Scratch} → Exchanges r put → (c : Bases) (x : Spot) (a : ℕ) → stand c x ≡ a
      → (z : ℕ) (ws : List ℕ) → a < length ws → Goes (exch r (base_of x) ∷ []) 1 (mem c f (put z) ws)
      (mem c f (put (slice_index ws a)) (slice_set ws a z))
  exchanged {r = r} {put = put} e c x a q z ws h = subst (λ a. a < length ws → Goes (exch r (base_of x) ∷ []) 1
      (mem c f (put z) ws) (mem c f (put (slice_index ws a)) (slice_set ws a z))) q (there x) h
    where
      there : (x : Spot) → stand c x < length ws → Goes (exch r (base_of x) ∷ []) 1 (mem c f (put z) ws)
          (mem c f (put (slice_index ws (stand c x))) (slice_set ws (stand c x) z))
      there (Field i) h = e.by_object c z ws h
      there (Frame i) h = e.by_frame c z ws h

  pub amount_out : Exchanges AMOUNT (λ z. keeping z 0 0)
  amount_out = record {
    by_object = λ c z ws h. goes_exch _ (λ z ws. mem c f (keeping z 0 0) ws) c.object z ws h refl (omega arith)
        (λ z ws. refl) (λ z ws. refl);
    by_frame = λ c z ws h. goes_exch _ (λ z ws. mem c f (keeping z 0 0) ws) c.frame z ws h refl (omega arith)
        (λ z ws. refl) (λ z ws. refl);
  }

  pub content_out : (v : ℕ) → Exchanges CONTENT (λ z. record (keeping v 0 0) { content = z })
  content_out v = record {
    by_object = λ c z ws h. goes_exch _ (λ z ws. mem c f (record (keeping v 0 0) { content = z }) ws) c.object z ws h
        refl (omega arith) (λ z ws. refl) (λ z ws. refl);
    by_frame = λ c z ws h. goes_exch _ (λ z ws. mem c f (record (keeping v 0 0) { content = z }) ws) c.frame z ws h
        refl (omega arith) (λ z ws. refl) (λ z ws. refl);
  }
