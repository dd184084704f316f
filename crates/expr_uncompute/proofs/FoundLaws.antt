-- Lvalues and values found, for any code that uses them: what is in the registers then, and what
-- clears it again.
use Rattle.std.proofs.Common.{◌≡◌, ℕ, ◌+◌, Bool, true, false, List, ◌++◌, length, refl, sym, ap, ◌∙◌, subst, arith}
use Rattle.std.specs.Prelude.{Ok, Err}
use Rattle.register_expressions.specs.rpp_tree.Tree.{Expression, Lvalue}
use Rattle.register_expressions.specs.pisa_isa.Machine.{Memory}
use Rattle.register_expressions.specs.code_conventions.declared.registers.TheConstants.{OTHER_PLACE, PLACE, FRAME}
use Rattle.register_expressions.specs.paired_code.declared.part.Symbol.{Symbol}
use Rattle.register_expressions.specs.paired_code.Machine.{Image, memory_reg}
use Rattle.register_expressions.specs.refine_form.declared.spot.Spot.{Spot}
use Rattle.register_expressions.specs.Code.{words, around}
use Rattle.expr_uncompute.specs.Code.{place_words, place_cells, apart_cells, found_value_cells}
use Rattle.register_expressions.specs.Number.{number, lvalue_read, index_of, place_address, shares, update_shares}
use Rattle.expr_uncompute.specs.Steps.{place_steps, apart_steps}
use Rattle.register_expressions.specs.Laws.{bases_of, Ready}
use Rattle.expr_uncompute.specs.Promises.{SeesIn, CanEvaluate, IsTrap}
use Rattle.expr_uncompute.specs.Found.{found_memory, found_value_steps}
use Rattle.register_expressions.proofs.Goes.{Goes, Traps, goes_to, goes_seq, traps_around, traps_then, traps_first}
use Rattle.register_expressions.proofs.Numbers.{Agree, sees_same}
use Rattle.register_expressions.proofs.Scratch.{keeping, mem}
use Rattle.expr_uncompute.proofs.Whole.{as_mem}
use Rattle.expr_uncompute.proofs.PlaceLaws.{FitPlace, placed, place_points, place_goes, place_traps}
use Rattle.expr_uncompute.proofs.Written.{filled, both_placed, placed_below, placed_length}
use Rattle.expr_uncompute.proofs.KeptApart.{index_seen, shares_same, apart_goes, apart_traps}
use Rattle.expr_uncompute.proofs.Updates.{held_goes, both_found, placed_is}
use Rattle.expr_uncompute.proofs.Statements.{fit_from, run_traps}

module _ (spot : List ℕ → Spot) (free : ℕ) (m : Memory) where
  pub shown_as : (n : ℕ) → Ready free n m → (v a a' : ℕ) (cells : List ℕ)
      → mem (bases_of m) (memory_reg m) (keeping v a a') cells ≡ found_memory v a a' cells m
  shown_as n h v a a' cells = sym (ap (found_memory v a a' cells) (as_mem free n m h))

  -- the address of a place
  pub place_found : (target : Lvalue) (a : ℕ) → Ready free (place_words target) m
      → SeesIn spot free m (lvalue_read target)
      → place_address spot (bases_of m) m.cells target ≡ Ok a
      → Goes (place_cells spot free target 0 PLACE) (place_steps target) m
      (found_memory 0 a 0 (placed spot free (bases_of m) target 0 m.cells) m)
  place_found target a h s n =
      let fit : FitPlace spot free (bases_of m) target 0 m.cells = record {
        all = h.words;
        sees = s;
        fits = let l = h.inside in omega arith;
        small = h.small;
        empty = λ k lo hi. h.empty k (omega arith) (omega arith);
      } in
      goes_to refl (sym (as_mem free (place_words target) m h)) (shown_as (place_words target) h 0 a 0 _)
      (place_goes spot free (bases_of m) PLACE (memory_reg m) 0 0 0 0 a 0 a
      (place_points spot free (bases_of m) (memory_reg m) 0 0 a) 0 m.cells target fit n)

  -- or its fault, whatever is to be done with it
  pub place_fails : (target : Lvalue) (c : ℕ) (check mid : List Symbol) → Ready free (place_words target) m
      → SeesIn spot free m (lvalue_read target) → place_address spot (bases_of m) m.cells target ≡ Err c
      → (im : Image) (d : Bool) → IsTrap im (around (place_cells spot free target 0 PLACE ++ check) mid) d m c
      (place_steps target)
  place_fails target c check mid h s n im d =
      let fit : FitPlace spot free (bases_of m) target 0 m.cells = record {
        all = h.words;
        sees = s;
        fits = let l = h.inside in omega arith;
        small = h.small;
        empty = λ k lo hi. h.empty k (omega arith) (omega arith);
      } in
      run_traps spot free m (place_words target) h im d _ (place_steps target) c
      (traps_around mid (traps_first check (place_traps spot free (bases_of m) PLACE (memory_reg m) 0 0 0 target 0 c
      m.cells fit n)))

  -- a place and a value, and the check of arrays
  pub value_held : (target : Lvalue) (e : Expression) (a v : ℕ)
      → CanEvaluate spot free (place_words target + words e) (lvalue_read target) e m
      → place_address spot (bases_of m) m.cells target ≡ Ok a → number spot (bases_of m) m.cells e ≡ Ok v
      → update_shares spot (bases_of m) m.cells target e ≡ false
      → Goes (found_value_cells spot free target e) (found_value_steps target e) m
      (found_memory v a 0 (filled spot free (bases_of m) target e m.cells) m)
  value_held target e a v h na nv apart =
      goes_to refl (sym (as_mem free (place_words target + words e) m h.ready))
      (shown_as (place_words target + words e) h.ready v a 0 _)
      (held_goes spot free (bases_of m) (memory_reg m) target e m.cells a v
      (fit_from spot free m target (words e) h.ready h.first) h.second na nv apart)

  -- two places
  pub places_found : (target other : Lvalue) (a a' : ℕ) → CanEvaluate spot free (place_words target + place_words other)
      (lvalue_read target) (lvalue_read other) m → place_address spot (bases_of m) m.cells target ≡ Ok a
      → place_address spot (bases_of m) m.cells other ≡ Ok a'
      → Goes (place_cells spot free target 0 PLACE ++ place_cells spot free other (place_words target) OTHER_PLACE)
      (place_steps target + place_steps other) m (found_memory 0 a a'
      (both_placed spot free (bases_of m) target other m.cells) m)
  places_found target other a a' h na na' =
      goes_to refl (sym (as_mem free (place_words target + place_words other) m h.ready))
      (shown_as (place_words target + place_words other) h.ready 0 a a' _)
      (both_found spot free (bases_of m) (memory_reg m) target other m.cells a a'
      (fit_from spot free m target (place_words other) h.ready h.first) h.second na na')

  -- ---- and the check of arrays

  -- a place whose array is none of those of which two expressions read elements
  pub place_held : (target : Lvalue) (e e' : Expression) (a : ℕ) → Ready free (place_words target) m
      → SeesIn spot free m (lvalue_read target) → SeesIn spot free m e → SeesIn spot free m e'
      → place_address spot (bases_of m) m.cells target ≡ Ok a → shares spot (bases_of m) m.cells target e e' ≡ false
      → Goes (place_cells spot free target 0 PLACE ++ apart_cells spot target e e')
      (place_steps target + apart_steps target e e') m (found_memory 0 a 0
      (placed spot free (bases_of m) target 0 m.cells)
      m)
  place_held target e e' a h s t t' n apart =
      let ys : List ℕ = placed spot free (bases_of m) target 0 m.cells in
      let below : Agree (memory_reg m FRAME + free) m.cells ys = placed_below spot free (bases_of m) target m.cells in
      let count : length ys ≡ length m.cells = placed_length spot free (bases_of m) target m.cells in
      let fits = h.inside in
      let small = h.small in
      goes_seq (place_found target a h s n)
      (goes_to refl (shown_as (place_words target) h 0 a 0 ys) (shown_as (place_words target) h 0 a 0 ys)
      (apart_goes spot (bases_of m) (memory_reg m FRAME + free) (memory_reg m) 0 a 0 ys
      (omega arith) (omega arith) target e e'
      (sees_same spot (bases_of m) (memory_reg m FRAME + free) m.cells ys below (lvalue_read target) s)
      (sees_same spot (bases_of m) (memory_reg m FRAME + free) m.cells ys below e t)
      (sees_same spot (bases_of m) (memory_reg m FRAME + free) m.cells ys below e' t')
      (shares_same spot (bases_of m) (memory_reg m FRAME + free) m.cells ys below target e e' s t t' ∙ apart)))

  -- or it is one of them, whatever is to be done with the place
  pub place_shares : (target : Lvalue) (e e' : Expression) (a : ℕ) (mid : List Symbol)
      → Ready free (place_words target) m → SeesIn spot free m (lvalue_read target) → SeesIn spot free m e
      → SeesIn spot free m e' → place_address spot (bases_of m) m.cells target ≡ Ok a
      → shares spot (bases_of m) m.cells target e e' ≡ true
      → (im : Image) (d : Bool) → IsTrap im (around (place_cells spot free target 0 PLACE
      ++ apart_cells spot target e e') mid) d m 16 (place_steps target + apart_steps target e e')
  place_shares target e e' a mid h s t t' n shared im d =
      let ys : List ℕ = placed spot free (bases_of m) target 0 m.cells in
      let below : Agree (memory_reg m FRAME + free) m.cells ys = placed_below spot free (bases_of m) target m.cells in
      let count : length ys ≡ length m.cells = placed_length spot free (bases_of m) target m.cells in
      let fits = h.inside in
      let small = h.small in
      let traps : Traps (apart_cells spot target e e') (apart_steps target e e') 16
      (mem (bases_of m) (memory_reg m) (keeping 0 a 0) ys) =
      apart_traps spot (bases_of m) (memory_reg m FRAME + free) (memory_reg m) 0 a 0 ys
      (omega arith) (omega arith) target e e'
      (sees_same spot (bases_of m) (memory_reg m FRAME + free) m.cells ys below (lvalue_read target) s)
      (sees_same spot (bases_of m) (memory_reg m FRAME + free) m.cells ys below e t)
      (sees_same spot (bases_of m) (memory_reg m FRAME + free) m.cells ys below e' t')
      (shares_same spot (bases_of m) (memory_reg m FRAME + free) m.cells ys below target e e' s t t' ∙ shared) in
      (traps_around mid (traps_then (place_found target a h s n)
      (subst (λ z. Traps (apart_cells spot target e e') (apart_steps target e e') 16 z)
      (shown_as (place_words target) h 0 a 0 ys) traps))).runs im d

  -- two places, of which the second changes
  pub places_held : (target other : Lvalue) (a a' : ℕ) → CanEvaluate spot free (place_words target + place_words other)
      (lvalue_read target) (lvalue_read other) m → place_address spot (bases_of m) m.cells target ≡ Ok a
      → place_address spot (bases_of m) m.cells other ≡ Ok a'
      → shares spot (bases_of m) m.cells other (index_of target) (index_of other) ≡ false
      → Goes ((place_cells spot free target 0 PLACE ++ place_cells spot free other (place_words target) OTHER_PLACE)
      ++ apart_cells spot other (index_of target) (index_of other))
      (place_steps target + place_steps other + apart_steps other (index_of target) (index_of other)) m
      (found_memory 0 a a' (both_placed spot free (bases_of m) target other m.cells) m)
  places_held target other a a' h na na' apart =
      let ys : List ℕ = both_placed spot free (bases_of m) target other m.cells in
      let k = placed_is spot free (bases_of m) (memory_reg m) target other m.cells
      (fit_from spot free m target (place_words other) h.ready h.first) h.second in
      let count = k.count in
      let fits = h.ready.inside in
      let small = h.ready.small in
      let i = index_seen spot (bases_of m) (memory_reg m FRAME + free) target m.cells h.first in
      let j = index_seen spot (bases_of m) (memory_reg m FRAME + free) other m.cells h.second in
      goes_seq (places_found target other a a' h na na')
      (goes_to refl (shown_as (place_words target + place_words other) h.ready 0 a a' ys)
      (shown_as (place_words target + place_words other) h.ready 0 a a' ys)
      (apart_goes spot (bases_of m) (memory_reg m FRAME + free) (memory_reg m) 0 a a' ys (omega arith) (omega arith)
      other
      (index_of target) (index_of other) (sees_same spot (bases_of m) (memory_reg m FRAME + free) m.cells ys k.below
      (lvalue_read other) h.second) (sees_same spot (bases_of m) (memory_reg m FRAME + free) m.cells ys k.below
      (index_of target) i) (sees_same spot (bases_of m) (memory_reg m FRAME + free) m.cells ys k.below (index_of other)
      j)
      (shares_same spot (bases_of m) (memory_reg m FRAME + free) m.cells ys k.below other (index_of target)
      (index_of other) h.second i j ∙ apart)))

  pub places_share : (target other : Lvalue) (a a' : ℕ) (mid : List Symbol)
      → CanEvaluate spot free (place_words target + place_words other) (lvalue_read target) (lvalue_read other) m
      → place_address spot (bases_of m) m.cells target ≡ Ok a → place_address spot (bases_of m) m.cells other ≡ Ok a'
      → shares spot (bases_of m) m.cells other (index_of target) (index_of other) ≡ true
      → (im : Image) (d : Bool) → IsTrap im (around ((place_cells spot free target 0 PLACE
      ++ place_cells spot free other (place_words target) OTHER_PLACE)
      ++ apart_cells spot other (index_of target) (index_of other)) mid) d m 16
      (place_steps target + place_steps other + apart_steps other (index_of target) (index_of other))
  places_share target other a a' mid h na na' shared im d =
      let ys : List ℕ = both_placed spot free (bases_of m) target other m.cells in
      let k = placed_is spot free (bases_of m) (memory_reg m) target other m.cells
      (fit_from spot free m target (place_words other) h.ready h.first) h.second in
      let count = k.count in
      let fits = h.ready.inside in
      let small = h.ready.small in
      let i = index_seen spot (bases_of m) (memory_reg m FRAME + free) target m.cells h.first in
      let j = index_seen spot (bases_of m) (memory_reg m FRAME + free) other m.cells h.second in
      let traps : Traps (apart_cells spot other (index_of target) (index_of other))
      (apart_steps other (index_of target) (index_of other)) 16 (mem (bases_of m) (memory_reg m) (keeping 0 a a') ys) =
      apart_traps spot (bases_of m) (memory_reg m FRAME + free) (memory_reg m) 0 a a' ys (omega arith) (omega arith)
      other
      (index_of target) (index_of other) (sees_same spot (bases_of m) (memory_reg m FRAME + free) m.cells ys k.below
      (lvalue_read other) h.second) (sees_same spot (bases_of m) (memory_reg m FRAME + free) m.cells ys k.below
      (index_of target)
      i) (sees_same spot (bases_of m) (memory_reg m FRAME + free) m.cells ys k.below (index_of other) j)
      (shares_same spot (bases_of m) (memory_reg m FRAME + free) m.cells ys k.below other (index_of target)
      (index_of other) h.second i j ∙ shared) in
      (traps_around mid (traps_then (places_found target other a a' h na na')
      (subst (λ z. Traps (apart_cells spot other (index_of target) (index_of other))
      (apart_steps other (index_of target) (index_of other)) 16 z)
      (shown_as (place_words target + place_words other) h.ready 0 a a' ys) traps))).runs im d
