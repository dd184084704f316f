-- If the layout of a store has the main object's fields.
use Rattle.std.proofs.Common.{◌≡◌, ◌∙◌, sym, ap, ℕ, ◌+◌, ◌-◌, ◌*◌, ◌^◌, ◌<◌, ◌≤◌, arith, List, ◌++◌, length}
use Rattle.std.proofs.Common.{length-append, get_or, drop, map, replicate, Some}
use Rattle.std.specs.Prelude.{slice_index}
use Rattle.std.specs.Option.{unwrap_or}
use Rattle.std.proofs.lemmas.List.{get_or_append_left, get_or-append-add, get_or-map, length-map}
use Rattle.bennett_wrap.specs.rpp_words.declared.input.Limits.{Limits}
use Rattle.bennett_wrap.specs.rpp_words.declared.input.TheConstants.{FIXED_CELLS, FRAME_WORDS}
use Rattle.meaning_sound.specs.rpp_tree.Tree.{Source}
use Rattle.bennett_wrap.specs.pisa_isa.Loaded.{statics_at, heap_base, fixed_cells}
use Rattle.bennett_wrap.proofs.pisa_isa_laws.Loaded.{length-fixed_cells}
use Rattle.bennett_wrap.specs.code_conventions.Header.{header}
use Rattle.meaning_sound.specs.buddy_book.Place.{Log, Placing, place}
use Rattle.bennett_wrap.specs.code_conventions.declared.memory.TheConstants.{HEADER_WORDS}
use Rattle.meaning_sound.specs.roopl_semantics.Store.{Word, Store, Object, main_name, object_at}
use Rattle.meaning_sound.specs.roopl_semantics.Layout.{layout, no_placing, word_of_value, object_words, first_address, heap_words}
use Rattle.refine_wrap.specs.Programs.{field_cell}

behind_header : (a b : ℕ) (xs : List ℕ) (k : ℕ) → get_or (header a b ++ xs) (HEADER_WORDS + k) 0 ≡ get_or xs k 0
behind_header a b xs k = get_or-append-add (header a b) xs k 0

inside : (fixed main rest gap heap stack : List ℕ) (j : ℕ) → length fixed ≡ FIXED_CELLS → j < length main
    → get_or (fixed ++ (main ++ rest) ++ gap ++ heap ++ stack) (FIXED_CELLS + j) 0 ≡ get_or main j 0
inside fixed main rest gap heap stack j e h =
    let within : FIXED_CELLS + j < length (fixed ++ (main ++ rest)) =
    omega (arith, length-append fixed (main ++ rest), length-append main rest) in
    let within2 : FIXED_CELLS + j < length (fixed ++ (main ++ rest) ++ gap) =
    omega (arith, length-append (fixed ++ (main ++ rest)) gap) in
    let within3 : FIXED_CELLS + j < length (fixed ++ (main ++ rest) ++ gap ++ heap) =
    omega (arith, length-append (fixed ++ (main ++ rest) ++ gap) heap) in
    get_or_append_left (fixed ++ (main ++ rest) ++ gap ++ heap) stack 0 (FIXED_CELLS + j) within3
    ∙ get_or_append_left (fixed ++ (main ++ rest) ++ gap) heap 0 (FIXED_CELLS + j) within2
    ∙ get_or_append_left (fixed ++ (main ++ rest)) gap 0 (FIXED_CELLS + j) within
    ∙ ap (λ n. get_or (fixed ++ (main ++ rest)) (n + j) 0) (sym e)
    ∙ get_or-append-add fixed (main ++ rest) j 0
    ∙ get_or_append_left main rest 0 j h

pub field_at : (program : Source) (limits : Limits) (statics : List ℕ) (store : Store) (log : Log) (at : Placing)
    (k w : ℕ)
    → place limits.heap log ≡ Some at → length at.book ≤ 20
    → k < length (object_at store main_name).cells → get_or (object_at store main_name).cells k (Word 0) ≡ Word w
    → slice_index (layout program limits statics store log) (field_cell k) ≡ w
field_at program limits statics store log at k w placed low h is =
    let placing : Placing = unwrap_or (place limits.heap log) no_placing in
    let base : ℕ = heap_base limits.heap (length statics) in
    let object : Object = object_at store main_name in
    let words : List ℕ = map (word_of_value base placing.blocks) object.cells in
    let main : List ℕ = object_words program base placing.blocks object in
    let few : length placing.book ≡ length at.book = ap (λ o. length (unwrap_or o no_placing).book) placed in
    let heads : length (map (first_address base) placing.book) ≤ 31 =
    omega (arith, length-map placing.book (first_address base)) in
    let long : length words ≡ length object.cells = length-map object.cells (word_of_value base placing.blocks) in
    let within : HEADER_WORDS + k < length main = omega arith in
    let there : field_cell k ≡ FIXED_CELLS + (HEADER_WORDS + k) = omega arith in
    ap (slice_index (layout program limits statics store log)) there
    ∙ inside (fixed_cells limits.heap limits.deep base (map (first_address base) placing.book)) main
    (drop (length main) statics) (replicate (base - statics_at - length statics) 0)
    (heap_words program (2 ^ limits.heap) base store placing) (replicate (FRAME_WORDS * limits.deep) 0)
    (HEADER_WORDS + k)
    (length-fixed_cells limits.heap limits.deep base (map (first_address base) placing.book) heads) within
    ∙ behind_header _ _ words k
    ∙ get_or-map (word_of_value base placing.blocks) object.cells k (Word 0) 0 h
    ∙ ap (word_of_value base placing.blocks) is
