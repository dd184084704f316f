-- A base goes to the place of a variable, or to a word of the frame above, and back.
use Rattle.std.proofs.Common.{◌≡◌, ℕ, ◌+◌, ◌^◌, ◌<◌, Bool, true, false, List, [], ◌∷◌, length, refl, ap, arith}
use Rattle.std.specs.Prelude.{slice_index, slice_set}
use Rattle.refine_form.specs.rpp_words.declared.input.TheConstants.{FRAME_WORDS}
use Rattle.refine_form.specs.code_conventions.declared.memory.TheConstants.{HEADER_WORDS}
use Rattle.refine_form.specs.rpp_words.Words.{sum_of, difference_of, negated}
use Rattle.refine_form.specs.pisa_isa.Machine.{Memory}
use Rattle.refine_form.specs.code_conventions.declared.registers.TheConstants.{CONTENT, FRAME, MOVED, OBJECT}
use Rattle.refine_form.specs.paired_code.Machine.{Image}
use Rattle.refine_form.specs.paired_code.Pieces.{Done, Will}
use Rattle.refine_form.specs.paired_code.Rows.{line}
use Rattle.refine_form.specs.code_conventions.Cells.{exch, addi}
use Rattle.refine_form.specs.declared.spot.Spot.{Spot}
use Rattle.refine_form.specs.declared.spot.Spot.TheVariants.{Field, Frame}
use Rattle.refine_form.proofs.Rows.{here, next, will_row}
use Rattle.method_calls.specs.CallCode.{base_of, reach_row, above_cells}
use Rattle.method_calls.specs.Facts.{address}
use Rattle.method_calls.proofs.Exchanges.{exchanges}
use Rattle.refine_form.proofs.Memories.{mk}

pub sum_is : (x y z : ℕ) → x + y ≡ z → z < 2 ^ 32 → sum_of x y ≡ z
sum_is x y z e h = omega arith

pub difference_is : (x y z : ℕ) → x ≡ z + y → x < 2 ^ 32 → difference_of x y ≡ z
difference_is x y z e h = omega arith

pub less_is : (x i z : ℕ) → x ≡ z + i → x < 2 ^ 32 → sum_of x (negated i) ≡ z
less_is x i z e h = omega arith

-- ---- a storage slot

-- the two bases, if that of a storage slot is at it
abbrev pub object_at : ℕ → ℕ → Spot → ℕ
object_at o f (Field i) = address o f (Field i)
object_at o f (Frame j) = o

abbrev pub frame_at : ℕ → ℕ → Spot → ℕ
frame_at o f (Field i) = f
frame_at o f (Frame j) = address o f (Frame j)

module _ (o f : ℕ) (sp : Spot) where
  abbrev pub at_spot : (content word flag : ℕ) → List ℕ → Memory
  at_spot b c g cs = mk 0 (object_at o f sp) (frame_at o f sp) 0 b c g 0 cs

module _ (im : Image) (o f b c g : ℕ) (cs : List ℕ) where
  pub will_reach : (sp : Spot) → address o f sp < 2 ^ 32
      → Will im (line (reach_row sp)) false (mk 0 o f 0 b c g 0 cs) (λ out. out ≡ Done (at_spot o f sp b c g cs) 1)
  will_reach (Field i) h =
      will_row im false (addi OBJECT (HEADER_WORDS + i) ∷ []) 1 _ _ (next refl (omega arith)
      (ap (λ v. Done (mk 0 v f 0 b c g 0 cs) 1) (sum_is o (HEADER_WORDS + i) (o + (HEADER_WORDS + i)) refl h)) here)
  will_reach (Frame j) h =
      will_row im false (addi FRAME j ∷ []) 1 _ _ (next refl (omega arith)
      (ap (λ v. Done (mk 0 o v 0 b c g 0 cs) 1) (sum_is f j (f + j) refl h)) here)

  pub will_leave : (sp : Spot) → address o f sp < 2 ^ 32
      → Will im (line (reach_row sp)) true (at_spot o f sp b c g cs) (λ out. out ≡ Done (mk 0 o f 0 b c g 0 cs) 1)
  will_leave (Field i) h =
      will_row im true (addi OBJECT (HEADER_WORDS + i) ∷ []) 1 _ _ (next refl (omega arith)
      (ap (λ v. Done (mk 0 v f 0 b c g 0 cs) 1) (less_is (o + (HEADER_WORDS + i)) (HEADER_WORDS + i) o refl h)) here)
  will_leave (Frame j) h =
      will_row im true (addi FRAME j ∷ []) 1 _ _ (next refl (omega arith)
      (ap (λ v. Done (mk 0 o v 0 b c g 0 cs) 1) (less_is (f + j) j f refl h)) here)

  -- MOVED changes places with the word of the storage slot
  pub swaps_moved : (d : Bool) (sp : Spot) → address o f sp < length cs
      → Will im (line (exch MOVED (base_of sp) ∷ [])) d (at_spot o f sp b c g cs) (λ out. out ≡ Done
      (at_spot o f sp b (slice_index cs (address o f sp)) g (slice_set cs (address o f sp) c)) 1)
  swaps_moved false (Field i) h = will_row im false (exch MOVED OBJECT ∷ []) 1 _ _ (next refl (omega arith)
      (exchanges false MOVED OBJECT (at_spot o f (Field i) b c g cs) h) here)
  swaps_moved false (Frame j) h = will_row im false (exch MOVED FRAME ∷ []) 1 _ _ (next refl (omega arith)
      (exchanges false MOVED FRAME (at_spot o f (Frame j) b c g cs) h) here)
  swaps_moved true (Field i) h = will_row im true (exch MOVED OBJECT ∷ []) 1 _ _ (next refl (omega arith)
      (exchanges true MOVED OBJECT (at_spot o f (Field i) b c g cs) h) here)
  swaps_moved true (Frame j) h = will_row im true (exch MOVED FRAME ∷ []) 1 _ _ (next refl (omega arith)
      (exchanges true MOVED FRAME (at_spot o f (Frame j) b c g cs) h) here)

  -- and so does CONTENT
  pub swaps_content : (d : Bool) (sp : Spot) → address o f sp < length cs
      → Will im (line (exch CONTENT (base_of sp) ∷ [])) d (at_spot o f sp b c g cs) (λ out. out ≡ Done
      (at_spot o f sp (slice_index cs (address o f sp)) c g (slice_set cs (address o f sp) b)) 1)
  swaps_content false (Field i) h = will_row im false (exch CONTENT OBJECT ∷ []) 1 _ _ (next refl (omega arith)
      (exchanges false CONTENT OBJECT (at_spot o f (Field i) b c g cs) h) here)
  swaps_content false (Frame j) h = will_row im false (exch CONTENT FRAME ∷ []) 1 _ _ (next refl (omega arith)
      (exchanges false CONTENT FRAME (at_spot o f (Frame j) b c g cs) h) here)
  swaps_content true (Field i) h = will_row im true (exch CONTENT OBJECT ∷ []) 1 _ _ (next refl (omega arith)
      (exchanges true CONTENT OBJECT (at_spot o f (Field i) b c g cs) h) here)
  swaps_content true (Frame j) h = will_row im true (exch CONTENT FRAME ∷ []) 1 _ _ (next refl (omega arith)
      (exchanges true CONTENT FRAME (at_spot o f (Frame j) b c g cs) h) here)

-- ---- a word of the frame above

module _ (im : Image) (o f c : ℕ) (cs : List ℕ) (word : ℕ) (h : f + (FRAME_WORDS + word) < 2 ^ 32) where
  pub will_raise : Will im (line (above_cells word)) false (mk 0 o f 0 0 c 0 0 cs)
      (λ out. out ≡ Done (mk 0 o (f + (FRAME_WORDS + word)) 0 0 c 0 0 cs) 1)
  will_raise = will_row im false (above_cells word) 1 _ _ (next refl (omega (arith, h))
      (ap (λ v. Done (mk 0 o v 0 0 c 0 0 cs) 1) (sum_is f (FRAME_WORDS + word) (f + (FRAME_WORDS + word)) refl h)) here)

  pub will_lower : Will im (line (above_cells word)) true (mk 0 o (f + (FRAME_WORDS + word)) 0 0 c 0 0 cs)
      (λ out. out ≡ Done (mk 0 o f 0 0 c 0 0 cs) 1)
  will_lower = will_row im true (above_cells word) 1 _ _ (next refl (omega (arith, h))
      (ap (λ v. Done (mk 0 o v 0 0 c 0 0 cs) 1) (less_is (f + (FRAME_WORDS + word)) (FRAME_WORDS + word) f refl h))
      here)

-- ---- a word of the frame

module _ (im : Image) (o f p : ℕ) (cs : List ℕ) (j : ℕ) (h : f + j < 2 ^ 32) where
  pub will_find_word : Will im (line (reach_row (Frame j))) false (mk 0 o f 0 0 0 0 p cs)
      (λ out. out ≡ Done (mk 0 o (f + j) 0 0 0 0 p cs) 1)
  will_find_word = will_row im false (reach_row (Frame j)) 1 _ _ (next refl (omega (arith, h))
      (ap (λ v. Done (mk 0 o v 0 0 0 0 p cs) 1) (sum_is f j (f + j) refl h)) here)

  pub will_leave_word : Will im (line (reach_row (Frame j))) true (mk 0 o (f + j) 0 0 0 0 p cs)
      (λ out. out ≡ Done (mk 0 o f 0 0 0 0 p cs) 1)
  will_leave_word = will_row im true (reach_row (Frame j)) 1 _ _ (next refl (omega (arith, h))
      (ap (λ v. Done (mk 0 o v 0 0 0 0 p cs) 1) (less_is (f + j) j f refl h)) here)
