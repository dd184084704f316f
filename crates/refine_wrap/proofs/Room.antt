-- The loaded memory has space, and the layout of a store keeps the number of its cells.
use Rattle.std.proofs.Common.{◌≡◌, ◌∙◌, sym, ap, subst, refl, ℕ, ◌+◌, ◌-◌, ◌*◌, ◌/◌, ◌^◌, ◌<◌, ◌≤◌, arith, List, ◌++◌}
use Rattle.std.proofs.Common.{length, drop, suc, get_or, Some}
use Rattle.std.specs.Prelude.{slice_get}
use Rattle.std.specs.List.{All}
use Rattle.std.proofs.Math.Nat.{mul_comm, div-add-mod, pow-le-pow_right}
use Rattle.std.proofs.lemmas.Option.{slice_get_read}
use Rattle.bennett_wrap.specs.rpp_words.Words.{IsWord}
use Rattle.bennett_wrap.specs.rpp_words.declared.input.FieldWord.{FieldWord}
use Rattle.bennett_wrap.specs.rpp_words.declared.input.Limits.{Limits}
use Rattle.bennett_wrap.specs.rpp_words.declared.input.TheConstants.{FIXED_CELLS, FRAME_WORDS, MOST_DEEP, MOST_HEAP}
use Rattle.meaning_sound.specs.rpp_tree.Tree.{Source}
use Rattle.bennett_wrap.specs.pisa_isa.declared.cell.Cell.{Cell}
use Rattle.bennett_wrap.specs.pisa_isa.declared.image.TheConstants.{MOST_STATICS}
use Rattle.bennett_wrap.specs.pisa_isa.Image.{Segments, IsImage}
use Rattle.bennett_wrap.specs.pisa_isa.Loaded.{loaded, heap_base}
use Rattle.bennett_wrap.proofs.pisa_isa_laws.Loaded.{heap_base-ge, length-loaded}
use Rattle.bennett_wrap.specs.pisa_isa.declared.fixed.TheConstants.{END_CELL}
use Rattle.meaning_sound.specs.buddy_book.Place.{Log}
use Rattle.meaning_sound.specs.roopl_semantics.Store.{Store}
use Rattle.bennett_wrap.specs.rpp_words.Limits.{IsLimits}
use Rattle.meaning_sound.specs.roopl_semantics.Source.{IsValid}
use Rattle.meaning_sound.specs.roopl_semantics.Layout.{layout}
use Rattle.meaning_sound.specs.roopl_semantics.StandsFor.{StandsFor, Follows, run_of}
use Rattle.bennett_wrap.specs.Wrapped.{HasWrapSpace, Wrapped, WrapFinishesWith, values_at, steps_wrapped}
use Rattle.refine_wrap.specs.Programs.{IsStatic, wrapped_run}
use Rattle.refine_wrap.proofs.Bounds.{WrapsProgram}

-- the cell after four others, END_CELL, of a list that has five
fifth : (xs : List ℕ) (e : ℕ) → length xs ≡ suc (suc (suc (suc (suc (length (drop 5 xs)))))) → e ≡ get_or xs END_CELL e
    → slice_get xs END_CELL ≡ Some e
fifth xs e five is = slice_get_read xs (length xs) END_CELL e refl (omega arith) is

base_le : (x k : ℕ) → (x + k - 1) / k * k ≤ x + k
base_le x k = omega (arith, mul_comm ((x + k - 1) / k) k, div-add-mod (x + k - 1) k)

loaded_fifth : (statics : List ℕ) (limits : Limits) (input : List FieldWord)
    → slice_get (loaded statics limits input) END_CELL
    ≡ Some (heap_base limits.heap (length statics) + 2 ^ limits.heap + FRAME_WORDS * limits.deep)
loaded_fifth statics limits input = fifth (loaded statics limits input) _ refl refl

layout_fifth : (program : Source) (limits : Limits) (statics : List ℕ) (store : Store) (log : Log)
    → slice_get (layout program limits statics store log) END_CELL
    ≡ Some (heap_base limits.heap (length statics) + 2 ^ limits.heap + FRAME_WORDS * limits.deep)
layout_fifth program limits statics store log = fifth (layout program limits statics store log) _ refl refl

room_of : (s p h d m n : ℕ) → s ≤ MOST_STATICS → p ≤ 2 ^ MOST_HEAP → h ≤ FIXED_CELLS + s + p → d ≤ MOST_DEEP → m ≤ 64
    → n ≡ h + p + FRAME_WORDS * d → n + m < 2 ^ 32
room_of s p h d m n a b c e f g = omega arith

pub has_room : (image : Segments) (cells : List ℕ) (limits : Limits) (input : List FieldWord) → IsImage image
    → length cells ≤ 64 → All (IsStatic image) cells → IsLimits limits → All IsWord (loaded image.statics limits input)
    → HasWrapSpace (loaded image.statics limits input) cells
has_room image cells limits input i few statics l words =
    let low = l.heap_from in
    let high = l.heap_to in
    let deep = l.deep_to in
    let many = length-loaded image.statics limits input (omega arith) (omega arith) in
    let small = i.statics_in_limit in
    let power : 2 ^ limits.heap ≤ 2 ^ MOST_HEAP = pow-le-pow_right {n = 2} (omega arith) {i = limits.heap}
    {j = MOST_HEAP} high in
    let from = heap_base-ge limits.heap (length image.statics) in
    record {
      words = words;
      counted = loaded_fifth image.statics limits input ∙ ap (λ x. Some x) (sym many);
      among = λ k d h. let c = statics k d h in let upper = c.1 in omega arith;
      room = room_of (length image.statics) (2 ^ limits.heap) (heap_base limits.heap (length image.statics)) limits.deep
          (length cells) _ small power (base_le (FIXED_CELLS + length image.statics) (2 ^ limits.heap)) deep few many;
    }

pub wraps_program : (program : Source) (image : Segments) (cells : List ℕ) (wrapped : List Cell) (limits : Limits)
    (input : List FieldWord)
    → IsImage image → StandsFor program image → Wrapped image.code cells wrapped → length cells ≤ 64
    → All (IsStatic image) cells
    → IsLimits limits → IsValid program input → All IsWord (loaded image.statics limits input)
    → WrapsProgram program image cells wrapped limits input
wraps_program program image cells wrapped limits input i stands wraps few statics l v words =
    let follows : Follows program image limits input = stands.follows limits input l v in
    let room = has_room image cells limits input i few statics l words in
    let a : List ℕ = loaded image.statics limits input in
    let low = l.heap_from in
    let high = l.heap_to in
    let many = length-loaded image.statics limits input (omega arith) (omega arith) in
    record {
      adds = λ m enough fin le.
          let final = follows.finished m fin in
          let end = final.end in
          let ends = wraps.finishes a m enough room (record {
            narrow = follows.meets_ends_once m;
            finished = fin;
            registers = final.registers;
            kept = ap (λ x. slice_get x END_CELL) final.cells
                ∙ layout_fifth program limits image.statics end.store end.log
                ∙ ap (λ x. Some x) (sym many);
          }) le in
          record {
            end = end;
            gives = final.gives;
            finishes = subst (λ (b : List ℕ). WrapFinishesWith (wrapped_run image cells wrapped limits input enough)
                (steps_wrapped (run_of image limits input m).spent cells) (a ++ values_at b cells)) final.cells ends;
          };
      faults = λ m enough w trap le. record {
        gives = follows.trapped m w trap;
        traps = wraps.traps a m enough w room (follows.meets_ends_once m) trap le;
      };
      goes_on = λ m why. wraps.goes_on a m room (follows.meets_ends_once m) why;
    }
