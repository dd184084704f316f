-- Worked memories: what represents a store, and what the heap traversal counts.
use Rattle.std.specs.Prelude.{◌≡◌, ℕ, ◌-◌, ◌*◌, List, [], ◌∷◌, ◌++◌, length, take, drop}
use Rattle.std.proofs.Common.{refl}
use Rattle.buddy_book.specs.rpp_words.declared.input.Limits.{Limits}
use Rattle.inverse_rules.specs.rpp_tree.Tree.{Source}
use Rattle.roopl_semantics.specs.Run.{Run, Done}
use Rattle.roopl_semantics.specs.Store.{State}
use Rattle.roopl_semantics.specs.Source.{source, starting}
use Rattle.code_conventions.specs.pisa_isa.Loaded.{loaded}
use Rattle.roopl_semantics.specs.Layout.{main_statics, tables, layout}
use Rattle.roopl_semantics.specs.Walk.{counted_live}
use Rattle.roopl_semantics.proofs.Testing.{word_for}
use Rattle.roopl_semantics.proofs.IntRows.{adds-text}
use Rattle.roopl_semantics.proofs.ObjectRows.{one_object-text, ring-text}

abbrev limits : ℕ → ℕ → Limits
limits heap deep = record { heap = heap; deep = deep }

-- static cells with these code addresses
abbrev statics : Source → List (List ℕ) → List ℕ
statics program places = main_statics program ++ tables 1 places

abbrev laid : Source → Limits → List ℕ → Run State → List ℕ
laid program limits statics (Done st cost) = layout program limits statics st.store st.log
laid program limits statics _ = []

-- the memory after a run
abbrev memory : Source → ℕ → ℕ → List (List ℕ) → List ℕ
memory program heap deep places = laid program (limits heap deep) (statics program places)
    (source program (limits heap deep) [] 1000)

-- the cells of a memory after the fixed ones, without the stack
abbrev body : Source → ℕ → ℕ → List (List ℕ) → List ℕ
body program heap deep places = let cells = memory program heap deep places in
    drop 40 (take (length cells - 512 * deep) cells)

adds-statics : statics adds-text ((7 ∷ []) ∷ []) ≡ 43 ∷ 1 ∷ 0 ∷ 1 ∷ 7 ∷ []
adds-statics = refl

adds-length : length (memory adds-text 1 1 ((7 ∷ []) ∷ [])) ≡ 560
adds-length = refl

adds-fixed : take 12 (memory adds-text 1 1 ((7 ∷ []) ∷ [])) ≡ 0 ∷ 1 ∷ 46 ∷ 48 ∷ 560 ∷ 0 ∷ 0 ∷ 0 ∷ 0 ∷ 46 ∷ 0 ∷ 0 ∷ []
adds-fixed = refl

adds-body : body adds-text 1 1 ((7 ∷ []) ∷ []) ≡ 43 ∷ 1 ∷ 5 ∷ 1 ∷ 7 ∷ 0 ∷ 0 ∷ 0 ∷ []
adds-body = refl

-- the starting store is laid out as the loaded memory
adds-loaded : layout adds-text (limits 1 1) (statics adds-text ((7 ∷ []) ∷ []))
    (starting adds-text (word_for 0 9 ∷ [])).store [] ≡ loaded (statics adds-text ((7 ∷ []) ∷ [])) (limits 1 1)
    (word_for 0 9 ∷ [])
adds-loaded = refl

ring-length : length (memory ring-text 3 2 ((5 ∷ []) ∷ (7 ∷ 9 ∷ []) ∷ [])) ≡ 1088
ring-length = refl

ring-counted : counted_live ring-text (memory ring-text 3 2 ((5 ∷ []) ∷ (7 ∷ 9 ∷ []) ∷ [])) ≡ 2
ring-counted = refl

two_objects-counted : counted_live one_object-text (memory one_object-text 1 1 ((5 ∷ []) ∷ (7 ∷ []) ∷ [])) ≡ 1
two_objects-counted = refl

adds-counted : counted_live adds-text (memory adds-text 1 1 ((7 ∷ []) ∷ [])) ≡ 0
adds-counted = refl
