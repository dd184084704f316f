-- What steps keep: the images and the number of cells, and that all registers and cells are words.
use Rattle.std.proofs.Common.{◌≡◌, ◌∙◌, sym, ap, ap₂, subst, refl, ℕ, zero, suc, ◌<◌, ◌^◌, arith, List, [], ◌∷◌, length}
use Rattle.std.proofs.Common.{map, replicate, set, slice_get, Option, Some, None, All}
use Rattle.std.proofs.lemmas.List.Elements.{All-head, All-tail, All-nil, All-cons, All-set, All-map, All-replicate}
use Rattle.std.proofs.lemmas.List.Elements.{All-weaker}
use Rattle.std.proofs.lemmas.Option.{same_Some}
use lib.ListN.{length-replicate}
use Rattle.pisa_isa.specs.rpp_words.Words.{IsWord}
use Rattle.pisa_isa.specs.Image.{Segments, IsImage}
use Rattle.pisa_isa.specs.Machine.{IsState, stop, next}
use Rattle.pisa_isa.proofs.Keeps.{next-IsState}
use Rattle.pisa_cluster.specs.declared.processor.Processor.{Processor}
use Rattle.pisa_cluster.specs.declared.processor.Kept.{Kept}
use Rattle.pisa_cluster.specs.Replay.{Joint, processor_at, processor_state, in_state, touches, step_of, cstep, replay}
use Rattle.pisa_cluster.specs.Replay.{AllGo}
use Rattle.pisa_cluster.specs.Replay.{makers, started_processor, joint_begun, start_of_joint}
use Rattle.pisa_cluster.proofs.Locality.{put_by, next-cells, length-written}

-- images and the number of cells
set-images : (ps : List Processor) (i : ℕ) (p q : Processor) → slice_get ps i ≡ Some p → q.image ≡ p.image
    → map (λ (x : Processor). x.image) (set ps i q) ≡ map (λ (x : Processor). x.image) ps
set-images [] i p q there same = refl
set-images (x ∷ ps) zero p q there same = ap (λ (image : Segments). image ∷ map (λ (x : Processor). x.image) ps)
    (same ∙ ap (λ (x : Processor). x.image) (sym (same_Some x p there)))
set-images (x ∷ ps) (suc i) p q there same = ap (λ images. x.image ∷ images) (set-images ps i p q there same)

step_of-start : (s : Joint) (i : ℕ) (o : Option Processor) → slice_get s.processors i ≡ o
    → start_of_joint (step_of s i o) ≡ start_of_joint s
step_of-start s i None there = refl
step_of-start s i (Some p) there =
    ap₂ (λ images n. joint_begun images n) (set-images s.processors i p
    (in_state p (next p.image.code (processor_state p s.cells)))
    there refl)
    (ap length (next-cells p s.cells) ∙ length-written (touches p) (put_by p) s.cells)

pub cstep-start : (s : Joint) (who : ℕ) → start_of_joint (cstep s who) ≡ start_of_joint s
cstep-start s zero = refl
cstep-start s (suc i) = step_of-start s i (slice_get s.processors i) refl

pub replay-start : (steps : List ℕ) (s : Joint) → start_of_joint (replay s steps) ≡ start_of_joint s
replay-start [] s = refl
replay-start (who ∷ rest) s = replay-start rest (cstep s who) ∙ cstep-start s who

images_started : (images : List Segments) → map (λ (p : Processor). p.image) (map started_processor images) ≡ images
images_started [] = refl
images_started (image ∷ images) = ap (λ rest. image ∷ rest) (images_started images)

pub start_of-begun : (images : List Segments) (n : ℕ) → start_of_joint (joint_begun images n) ≡ joint_begun images n
start_of-begun images n = ap₂ (λ list k. joint_begun list k) (images_started images) (length-replicate n 0)

-- every image is one
abbrev pub HasImages : Joint → Type 0
HasImages s = All (λ (p : Processor). IsImage p.image) s.processors

from_images : (ps : List Processor) → All IsImage (map (λ (p : Processor). p.image) ps)
    → All (λ (p : Processor). IsImage p.image) ps
from_images [] h = All-nil (λ (p : Processor). IsImage p.image)
from_images (p ∷ ps) h =
    All-cons (λ (x : Processor). IsImage x.image) p ps (All-head IsImage p.image (map (λ (x : Processor). x.image) ps)
    h)
    (from_images ps (All-tail IsImage p.image (map (λ (x : Processor). x.image) ps) h))

to_images : (ps : List Processor) → All (λ (p : Processor). IsImage p.image) ps
    → All IsImage (map (λ (p : Processor). p.image) ps)
to_images ps h = All-map IsImage (λ (p : Processor). p.image) ps h

-- a state with the same start has the same images
pub images_same : (s t : Joint) → start_of_joint s ≡ start_of_joint t → HasImages t → HasImages s
images_same s t same h =
    from_images s.processors (subst (All IsImage) (sym (images_started (map (λ (p : Processor). p.image) t.processors))
    ∙ ap (λ (x : Joint). map (λ (p : Processor). p.image) x.processors) (sym same)
    ∙ images_started (map (λ (p : Processor). p.image) s.processors)) (to_images t.processors h))

-- words
pub record HasWords (p : Processor) : Type 0 where
  pub is_image : IsImage p.image
  pub br_word : p.core.br < 2 ^ 32
  pub count : length p.core.regs ≡ 32
  pub words : All IsWord p.core.regs

pub record AreWords (s : Joint) : Type 0 where
  pub processors : All HasWords s.processors
  pub cells : All IsWord s.cells

pub state_seen : (p : Processor) (cells : List ℕ) → HasWords p → All IsWord cells → IsState (processor_state p cells)
state_seen p cells h words = record { br_word = h.br_word; count = h.count; words = h.words; cell_words = words }

pub all-there : {X : Type 0} (P : X → Type 0) (xs : List X) (i : ℕ) (x : X) → slice_get xs i ≡ Some x → All P xs → P x
all-there P [] i x there all = absurd (cc)
all-there P (y ∷ xs) zero x there all = subst P (same_Some y x there) (All-head P y xs all)
all-there P (y ∷ xs) (suc i) x there all = all-there P xs i x there (All-tail P y xs all)

pub word_there : (s : Joint) (who : ℕ) (p : Processor) → processor_at s who ≡ Some p → AreWords s → HasWords p
word_there s zero p there h = absurd (cc)
word_there s (suc i) p there h = all-there HasWords s.processors i p there h.processors

step_of-words : (s : Joint) (i : ℕ) (p : Processor) → slice_get s.processors i ≡ Some p → AreWords s
    → stop p.image.code (processor_state p s.cells) ≡ None → AreWords (step_of s i (Some p))
step_of-words s i p there h goes =
    let mine = all-there HasWords s.processors i p there h.processors in
    let m = next-IsState p.image.code (processor_state p s.cells) mine.is_image.is_code
    (state_seen p s.cells mine h.cells) goes in
    record {
      processors = All-set HasWords s.processors i (in_state p (next p.image.code (processor_state p s.cells)))
          (record { is_image = mine.is_image; br_word = m.br_word; count = m.count; words = m.words }) h.processors;
      cells = m.cell_words;
    }

cstep-words : (s : Joint) (who : ℕ) (p : Processor) → processor_at s who ≡ Some p → AreWords s
    → stop p.image.code (processor_state p s.cells) ≡ None → AreWords (cstep s who)
cstep-words s zero p there h goes = h
cstep-words s (suc i) p there h goes = subst (λ o. AreWords (step_of s i o)) (sym there)
    (step_of-words s i p there h goes)

pub replay-words : (steps : List Kept) (s : Joint) → AllGo s steps → AreWords s → AreWords (replay s (makers steps))
replay-words [] s follows h = h
replay-words (step ∷ rest) s follows h = replay-words rest (cstep s step.who) follows.1
    (cstep-words s step.who follows.0.processor follows.0.there h follows.0.goes)

zero_words : (n : ℕ) → All IsWord (replicate n 0)
zero_words n = All-replicate IsWord n 0 (omega arith)

started_words : (image : Segments) → IsImage image → HasWords (started_processor image)
started_words image h = record {
  is_image = h;
  br_word = omega arith;
  count = length-replicate {A = ℕ} 32 0;
  words = zero_words 32;
}

pub begun-words : (images : List Segments) (n : ℕ) → All IsImage images → AreWords (joint_begun images n)
begun-words images n h = record {
  processors = All-map HasWords started_processor images
      (All-weaker IsImage (λ image. HasWords (started_processor image)) started_words images h);
  cells = zero_words n;
}

pub start-words : (s : Joint) → HasImages s → AreWords (start_of_joint s)
start-words s h = begun-words (map (λ (p : Processor). p.image) s.processors) (length s.cells)
    (to_images s.processors h)
