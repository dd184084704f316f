-- A heap has space for no more objects than it has words.
use Rattle.std.proofs.Common.{◌≡◌, ◌∙◌, sym, ap, ℕ, ◌+◌, ◌^◌, ◌≤◌, true, List, [], ◌∷◌, map, length, Some, arith}
use Rattle.std.proofs.lemmas.List.{length-map, length-append}
use Rattle.std.specs.Option.{option_map}
use Rattle.refine_frame.specs.buddy_book.Place.{Log, block_of, count_taken}
use Rattle.refine_frame.specs.buddy_book.Shown.{TakenBlocks, order_in, without_taken, size_of, taken_weight}
use Rattle.refine_frame.proofs.buddy_book_laws.Requests.{order_in-without_other}
use Rattle.refine_frame.proofs.buddy_book_laws.Table.{taken_weight-without}
use Rattle.refine_frame.proofs.buddy_book_laws.Orders.{pow_pos}
use Rattle.static_layout.specs.roopl_semantics.Store.{Store, main_name, object_at}
use Rattle.static_layout.specs.roopl_semantics.Execution.{Setting, order_of_cells}
use Rattle.refine_frame.specs.meaning_sound.Sound.{head_of, head_named, is_live, cell_kinds, Descending, entry_name, IsPlaced}
use Rattle.refine_frame.proofs.meaning_sound_laws.Stores.{live_object}
use Rattle.refine_frame.proofs.meaning_sound_laws.Regions.{BlocksDescend, EntriesAre, NotAt, block_apart, blocks_descend, entries_are}

record HasOrder (taken : TakenBlocks) (block : ℕ) : Type 0 where
  pub order : ℕ
  pub is : order_in taken block ≡ Some order

-- the blocks of the entries are taken, and different
abbrev AreTaken : TakenBlocks → List (ℕ × ℕ) → Type 0
AreTaken taken [] = Unit {0}
AreTaken taken ((n, b) ∷ rest) = HasOrder taken b × NotAt b rest × AreTaken taken rest

still_taken : (taken : TakenBlocks) (block : ℕ) (rest : List (ℕ × ℕ)) → NotAt block rest → AreTaken taken rest
    → AreTaken (without_taken block taken) rest
still_taken taken block [] h k = tt
still_taken taken block ((n, b) ∷ rest) h k = (
  record {
    order = k.0.order;
    is = order_in-without_other block b taken h.0
        ∙ k.0.is;
  },
  k.1,
  still_taken taken block rest h.1 k.2,
)

few_entries : (taken : TakenBlocks) (rest : List (ℕ × ℕ)) → AreTaken taken rest
    → length rest ≤ taken_weight size_of taken
few_entries taken [] h = omega arith
few_entries taken ((n, b) ∷ rest) h =
    let w = taken_weight-without size_of b h.0.order taken h.0.is in
    let p = pow_pos h.0.order in
    let r = few_entries (without_taken b taken) rest (still_taken taken b rest h.1 h.2) in
    omega arith

module _ (setting : Setting) (store : Store) (log : Log) (p : IsPlaced setting store log) where
  live_head : (n : ℕ) → is_live store n ≡ true → head_named store n ≡ Some (object_at store n).head
  live_head n live = ap (option_map head_of) (live_object store n live)

  are_taken : (bound : ℕ) (rest : List (ℕ × ℕ)) → BlocksDescend bound rest → EntriesAre store p.at.blocks rest
      → AreTaken p.taken rest
  are_taken bound [] d e = tt
  are_taken bound ((n, b) ∷ rest) d e =
      let high = d.1 in (
        record {
          order = order_of_cells (length (cell_kinds setting.program (object_at store n).head));
          is = ap (order_in p.taken) (sym e.1) ∙ p.orders n (object_at store n).head (live_head n e.0)
              (λ z. omega arith);
        },
        by (block_apart setting store log p n n rest e.0 d.1 (omega arith) d.2 e.2),
        are_taken n rest d.2 e.2,
      )
    where
      by : NotAt (block_of p.at.blocks n) rest → NotAt b rest
      by h = Rattle.std.proofs.Common.subst (λ z. NotAt z rest) e.1 h

  pub few_objects : Descending (2 + count_taken log) store → length store ≤ 1 + 2 ^ setting.limits.heap
  few_objects fresh =
      let bound = 2 + count_taken log in
      let few = few_entries p.taken p.at.blocks (are_taken bound p.at.blocks
      (blocks_descend setting store log bound p fresh) (entries_are setting store log bound p fresh)) in
      let total = p.kept.balanced size_of (λ block size. omega arith) in
      let names : length store ≡ length p.at.blocks + 1 = sym (length-map store entry_name) ∙ ap length p.names
      ∙ length-append (map entry_name p.at.blocks) (main_name ∷ [])
      ∙ ap (λ k. k + 1) (length-map p.at.blocks entry_name) in
      omega arith
