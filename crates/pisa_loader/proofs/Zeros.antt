-- The zeros after the first cells of a run.
use Rattle.std.proofs.Common.{◌≡◌, ◌∙◌, sym, ap, ℕ, ◌+◌, ◌-◌, ◌*◌, ◌^◌, List, ◌++◌, length, replicate, append_assoc}
use Rattle.std.proofs.lemmas.List.{replicate-append-replicate}
use Rattle.pisa_machine.specs.rpp_words.declared.input.FieldWord.{FieldWord}
use Rattle.pisa_machine.specs.rpp_words.declared.input.Limits.{Limits}
use Rattle.pisa_machine.specs.rpp_words.declared.input.TheConstants.{FIXED_CELLS, FRAME_WORDS}
use Rattle.pisa_machine.specs.pisa_isa.Loaded.{loaded, heap_base, fixed_cells, empty_heads, with_words}

-- zeros after zeros
more_zeros : (front : List ℕ) (a b : ℕ) → (front ++ replicate a 0) ++ replicate b 0 ≡ front ++ replicate (a + b) 0
more_zeros front a b = append_assoc front (replicate a 0) (replicate b 0)
    ∙ ap (λ (ws : List ℕ). front ++ ws) (replicate-append-replicate a b 0)

four_zeros : (front : List ℕ) (a b c d : ℕ) →
    (((front ++ replicate a 0) ++ replicate b 0) ++ replicate c 0) ++ replicate d 0
    ≡ front ++ replicate (a + b + c + d) 0
four_zeros front a b c d =
    ap (λ (ws : List ℕ). (ws ++ replicate c 0) ++ replicate d 0) (more_zeros front a b)
    ∙ ap (λ (ws : List ℕ). ws ++ replicate d 0) (more_zeros front (a + b) c)
    ∙ more_zeros front (a + b + c) d

-- all cells of a run, with more after them
pub all_cells : (statics : List ℕ) (limits : Limits) (input : List FieldWord) (cells : List ℕ) (zeros more : ℕ)
    → cells ≡ fixed_cells limits.heap limits.deep (heap_base limits.heap (length statics))
    (empty_heads limits.heap (heap_base limits.heap (length statics))) ++ with_words input statics
    → zeros ≡ heap_base limits.heap (length statics) - FIXED_CELLS - length statics + 2 ^ limits.heap
    + FRAME_WORDS * limits.deep + more
    → cells ++ replicate zeros 0 ≡ loaded statics limits input ++ replicate more 0
all_cells statics limits input cells zeros more is count =
    let base : ℕ = heap_base limits.heap (length statics) in
    let front : List ℕ = fixed_cells limits.heap limits.deep base (empty_heads limits.heap base)
    ++ with_words input statics in
    ap (λ (ws : List ℕ). ws ++ replicate zeros 0) is
    ∙ ap (λ n. front ++ replicate n 0) count
    ∙ sym (four_zeros front (base - FIXED_CELLS - length statics) (2 ^ limits.heap) (FRAME_WORDS * limits.deep) more)
