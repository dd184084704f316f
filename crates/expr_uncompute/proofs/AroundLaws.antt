-- The laws of fragments that find places and values around a middle.
use Rattle.std.proofs.Common.{◌≡◌, ℕ, ◌+◌, Bool, List, ◌∙◌}
use Rattle.std.specs.Prelude.{Ok}
use Rattle.register_expressions.specs.rpp_tree.Tree.{Expression, Null, Lvalue}
use Rattle.register_expressions.specs.pisa_isa.Machine.{Memory}
use Rattle.register_expressions.specs.paired_code.declared.part.Symbol.{Symbol}
use Rattle.register_expressions.specs.paired_code.Machine.{Image, memory_reg}
use Rattle.register_expressions.specs.refine_form.declared.spot.Spot.{Spot}
use Rattle.register_expressions.specs.Code.{words, around}
use Rattle.expr_uncompute.specs.Code.{place_words, found_place_cells, found_value_cells, found_places_cells}
use Rattle.register_expressions.specs.Number.{number, lvalue_read, index_of, place_address}
use Rattle.register_expressions.specs.Laws.{bases_of, Ready}
use Rattle.expr_uncompute.specs.Laws.{UpdateStays}
use Rattle.expr_uncompute.specs.Promises.{CanEvaluate}
use Rattle.expr_uncompute.specs.Found.{found_memory, Filled, Changes, Encloses, PlaceAroundLaw, ValueAroundLaw, PlacesStay}
use Rattle.expr_uncompute.specs.Found.{PlacesAroundLaw, found_place_steps, found_value_steps, found_places_steps}
use Rattle.register_expressions.proofs.Goes.{Goes}
use Rattle.expr_uncompute.proofs.Enclosing.{leaves_around, traps_in_middle}
use Rattle.expr_uncompute.proofs.Stored.{same_number}
use Rattle.expr_uncompute.proofs.Kept.{place_fills, place_changes, value_fills, value_changes, places_fill}
use Rattle.expr_uncompute.proofs.Kept.{places_change}
use Rattle.expr_uncompute.proofs.KeptApart.{index_seen}
use Rattle.expr_uncompute.proofs.PlaceLaws.{placed}
use Rattle.expr_uncompute.proofs.Written.{filled, both_placed}
use Rattle.expr_uncompute.proofs.Statements.{fit_from, place_kept, run_traps}
use Rattle.expr_uncompute.proofs.Updates.{found_traps_place, found_traps_value, found_traps_sharing, both_traps_first}
use Rattle.expr_uncompute.proofs.Updates.{both_traps_second}
use Rattle.expr_uncompute.proofs.FoundLaws.{place_held, place_fails, place_shares, value_held, places_held}
use Rattle.expr_uncompute.proofs.FoundLaws.{places_share}
use Rattle.register_expressions.specs.code_conventions.declared.registers.TheConstants.{FRAME}

-- the memory after a change is ready too
ready_again : (free n : ℕ) (m : Memory) (cells' : List ℕ) → Ready free n m
    → Changes (memory_reg m FRAME + free) m.cells cells'
    → Ready free n (record m { cells = cells' })
ready_again free n m cells' h c = record {
  count = h.count;
  clear = h.clear;
  small = rw (c.count) h.small;
  words = c.words;
  inside = rw (c.count) h.inside;
  empty = λ a lo hi. c.above a lo ∙ h.empty a lo hi;
}

-- a fragment that finds the same in both memories, around a middle
encloses : (w mid : List Symbol) (k low n v a a' : ℕ) (m : Memory) (fill : List ℕ → List ℕ) (Kept : List ℕ → Type 0)
    → Goes w k m (found_memory v a a' (fill m.cells) m) → Filled low n m.cells (fill m.cells)
    → ((cells' : List ℕ) → Changes low m.cells cells' → Kept cells'
    → Goes w k (record m { cells = cells' }) (found_memory v a a' (fill cells') m) × Filled low n cells' (fill cells')
    × Changes low (fill m.cells) (fill cells'))
    → (im : Image) (d : Bool) → Encloses im d m low n k v a a' Kept mid (around w mid)
encloses w mid k low n v a a' m fill Kept g f again im d = record {
  leads = λ cells' least most c s on.
      let t = again cells' c s in
      leaves_around im w mid k least most m (found_memory v a a' (fill m.cells) m) (found_memory v a a' (fill cells') m)
      (record m { cells = cells' }) g t.0 d (on (fill m.cells) (fill cells') f t.1 t.2);
  traps = λ code most on. traps_in_middle im w mid k code most m (found_memory v a a' (fill m.cells) m) g d
      (on (fill m.cells) f);
}

module _ (spot : List ℕ → Spot) (free : ℕ) where
  -- ---- a place

  module _ (target : Lvalue) (mid : List Symbol) where
    place_again : (m : Memory) (a : ℕ) → CanEvaluate spot free (place_words target) (lvalue_read target) (Null 0) m
        → place_address spot (bases_of m) m.cells target ≡ Ok a
        → (cells' : List ℕ) → Changes (memory_reg m FRAME + free) m.cells cells'
        → UpdateStays spot (bases_of m) (memory_reg m FRAME + free) target (Null 0) m.cells cells'
        → Goes (found_place_cells spot free target) (found_place_steps target) (record m { cells = cells' })
        (found_memory 0 a 0 (placed spot free (bases_of m) target 0 cells') m)
        × Filled (memory_reg m FRAME + free) (place_words target) cells' (placed spot free (bases_of m) target 0 cells')
        × Changes (memory_reg m FRAME + free) (placed spot free (bases_of m) target 0 m.cells)
        (placed spot free (bases_of m) target 0 cells')
    place_again m a r n cells' c s =
        let h = ready_again free (place_words target) m cells' r.ready c in (
          place_held spot free (record m { cells = cells' }) target (index_of target) (Null 0) a h s.place_sees
              (index_seen spot (bases_of m) (memory_reg m FRAME + free) target cells' s.place_sees) tt
              (place_kept spot free m target m.cells cells' a s.place_same n) s.apart,
          place_fills spot free (bases_of m) target cells' c.words s.place_sees,
          place_changes spot free (bases_of m) target m.cells cells' r.first s.place_sees s.place_same c,
        )

    pub place_around : PlaceAroundLaw spot free target mid (around (found_place_cells spot free target) mid)
    place_around = record {
      encloses = λ im d m r a n apart.
          encloses (found_place_cells spot free target) mid (found_place_steps target) (memory_reg m FRAME + free)
          (place_words target) 0 a 0 m (placed spot free (bases_of m) target 0)
          (UpdateStays spot (bases_of m) (memory_reg m FRAME + free) target (Null 0) m.cells)
          (place_held spot free m target (index_of target) (Null 0) a r.ready r.first
          (index_seen spot (bases_of m) (memory_reg m FRAME + free) target m.cells r.first) tt n apart)
          (place_fills spot free (bases_of m) target m.cells r.ready.words r.first)
          (place_again m a r n) im d;
      place_faults = λ im d m r c n. place_fails spot free m target c _ mid r.ready r.first n im d;
      sharing_faults = λ im d m r a n shared. place_shares spot free m target (index_of target) (Null 0) a mid r.ready
          r.first (index_seen spot (bases_of m) (memory_reg m FRAME + free) target m.cells r.first) tt n shared im d;
    }

  -- ---- a place and a value

  module _ (target : Lvalue) (value : Expression) (mid : List Symbol) where
    value_again : (m : Memory) (a v : ℕ) → CanEvaluate spot free (place_words target + words value) (lvalue_read target)
        value m
        → place_address spot (bases_of m) m.cells target ≡ Ok a → number spot (bases_of m) m.cells value ≡ Ok v
        → (cells' : List ℕ) → Changes (memory_reg m FRAME + free) m.cells cells'
        → UpdateStays spot (bases_of m) (memory_reg m FRAME + free) target value m.cells cells'
        → Goes (found_value_cells spot free target value) (found_value_steps target value) (record m { cells = cells' })
        (found_memory v a 0 (filled spot free (bases_of m) target value cells') m)
        × Filled (memory_reg m FRAME + free) (place_words target + words value) cells'
        (filled spot free (bases_of m) target value cells')
        × Changes (memory_reg m FRAME + free) (filled spot free (bases_of m) target value m.cells)
        (filled spot free (bases_of m) target value cells')
    value_again m a v r na nv cells' c s =
        let h = ready_again free (place_words target + words value) m cells' r.ready c in
        let fit = fit_from spot free m target (words value) r.ready r.first in
        let fit' = fit_from spot free (record m { cells = cells' }) target (words value) h s.place_sees in (
          value_held spot free (record m { cells = cells' }) target value a v
              (record { ready = h; first = s.place_sees; second = s.value_sees })
              (place_kept spot free m target m.cells cells' a s.place_same na)
              (same_number spot free (bases_of m) value m.cells cells' s.value_same ∙ nv) s.apart,
          value_fills spot free (bases_of m) target value cells' fit' s.value_sees,
          value_changes spot free (bases_of m) target value m.cells cells' fit fit' r.second s.value_sees s.place_same
              s.value_same c,
        )

    pub value_around : ValueAroundLaw spot free target value mid (around (found_value_cells spot free target value) mid)
    value_around = record {
      encloses = λ im d m r a v na nv apart.
          encloses (found_value_cells spot free target value) mid (found_value_steps target value)
          (memory_reg m FRAME + free)
          (place_words target + words value) v a 0 m (filled spot free (bases_of m) target value)
          (UpdateStays spot (bases_of m) (memory_reg m FRAME + free) target value m.cells)
          (value_held spot free m target value a v r na nv apart)
          (value_fills spot free (bases_of m) target value m.cells
          (fit_from spot free m target (words value) r.ready r.first) r.second)
          (value_again m a v r na nv) im d;
      place_faults = λ im d m r c n. run_traps spot free m (place_words target + words value) r.ready im d _ _ c
          (found_traps_place spot free (bases_of m) (memory_reg m) target value _ mid m.cells c
          (fit_from spot free m target (words value) r.ready r.first) n);
      value_faults = λ im d m r a c na n. run_traps spot free m (place_words target + words value) r.ready im d _ _ c
          (found_traps_value spot free (bases_of m) (memory_reg m) target value _ mid m.cells a c
          (fit_from spot free m target (words value) r.ready r.first) r.second na n);
      sharing_faults = λ im d m r a v na nv shared. run_traps spot free m (place_words target + words value) r.ready im
          d _ _ 16 (found_traps_sharing spot free (bases_of m) (memory_reg m) target value mid m.cells a v
          (fit_from spot free m target (words value) r.ready r.first) r.second na nv shared);
    }

  -- ---- two places

  module _ (source target : Lvalue) (mid : List Symbol) where
    places_again : (m : Memory) (a a' : ℕ) → CanEvaluate spot free (place_words source + place_words target)
        (lvalue_read source)
        (lvalue_read target) m → place_address spot (bases_of m) m.cells source ≡ Ok a
        → place_address spot (bases_of m) m.cells target ≡ Ok a'
        → (cells' : List ℕ) → Changes (memory_reg m FRAME + free) m.cells cells'
        → PlacesStay spot (bases_of m) (memory_reg m FRAME + free) source target m.cells cells'
        → Goes (found_places_cells spot free source target) (found_places_steps source target)
        (record m { cells = cells' }) (found_memory 0 a a' (both_placed spot free (bases_of m) source target cells') m)
        × Filled (memory_reg m FRAME + free) (place_words source + place_words target) cells'
        (both_placed spot free (bases_of m) source target cells')
        × Changes (memory_reg m FRAME + free) (both_placed spot free (bases_of m) source target m.cells)
        (both_placed spot free (bases_of m) source target cells')
    places_again m a a' r na na' cells' c s =
        let h = ready_again free (place_words source + place_words target) m cells' r.ready c in
        let fit = fit_from spot free m source (place_words target) r.ready r.first in
        let fit' = fit_from spot free (record m { cells = cells' }) source (place_words target) h s.source_sees in (
          places_held spot free (record m { cells = cells' }) source target a a'
              (record { ready = h; first = s.source_sees; second = s.target_sees })
              (place_kept spot free m source m.cells cells' a s.source_same na)
              (place_kept spot free m target m.cells cells' a' s.target_same na') s.apart,
          places_fill spot free (bases_of m) source target cells' fit' s.target_sees,
          places_change spot free (bases_of m) source target m.cells cells' fit fit' s.source_same r.second
              s.target_sees s.target_same c,
        )

    pub places_around : PlacesAroundLaw spot free source target mid
        (around (found_places_cells spot free source target) mid)
    places_around = record {
      encloses = λ im d m r a a' na na' apart.
          encloses (found_places_cells spot free source target) mid (found_places_steps source target)
          (memory_reg m FRAME + free)
          (place_words source + place_words target) 0 a a' m (both_placed spot free (bases_of m) source target)
          (PlacesStay spot (bases_of m) (memory_reg m FRAME + free) source target m.cells)
          (places_held spot free m source target a a' r na na' apart)
          (places_fill spot free (bases_of m) source target m.cells
          (fit_from spot free m source (place_words target) r.ready r.first) r.second)
          (places_again m a a' r na na') im d;
      source_faults = λ im d m r c n. run_traps spot free m (place_words source + place_words target) r.ready im d _ _ c
          (both_traps_first spot free (bases_of m) (memory_reg m) source target _ mid m.cells c
          (fit_from spot free m source (place_words target) r.ready r.first) n);
      target_faults = λ im d m r a c na n. run_traps spot free m (place_words source + place_words target) r.ready im d
          _ _ c (both_traps_second spot free (bases_of m) (memory_reg m) source target _ mid m.cells a c
          (fit_from spot free m source (place_words target) r.ready r.first) r.second na n);
      sharing_faults = λ im d m r a a' na na' shared. places_share spot free m source target a a' mid r na na' shared im
          d;
    }
