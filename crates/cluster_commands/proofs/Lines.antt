-- The lines of processors and cells, one after the other.
use Rattle.std.proofs.Common.{◌≡◌, ◌∙◌, sym, ap, ℕ, zero, suc, List, [], ◌∷◌, ◌++◌, drop, slice_get, option_map, Some}
use Rattle.std.proofs.Common.{append_assoc}
use Rattle.std.proofs.lemmas.Option.{same_Some}
use Rattle.pisa_cluster.specs.pisa_isa.declared.machine.Core.{Core}
use Rattle.pisa_cluster.specs.declared.processor.Processor.{Processor}
use Rattle.cluster_commands.specs.ClusterShown.{processor_line, processor_lines, filled_line, filled_lines}

pub front_processor : (k n : ℕ) (ps : List Processor) (core : Core)
    → option_map (λ (p : Processor). p.core) (slice_get ps n) ≡ Some core
    → processor_lines k (drop n ps) ≡ processor_line k core ++ processor_lines (suc k) (drop (suc n) ps)
front_processor k n [] core h = absurd (cc)
front_processor k zero (p ∷ ps) core h = ap (λ x. processor_line k x ++ processor_lines (suc k) ps)
    (same_Some p.core core h)
front_processor k (suc n) (p ∷ ps) core h = front_processor k n ps core h

pub front_cell : (k n : ℕ) (words : List ℕ) (word : ℕ) → slice_get words n ≡ Some word
    → filled_lines k (drop n words) ≡ filled_line k word ++ filled_lines (suc k) (drop (suc n) words)
front_cell k n [] word h = absurd (cc)
front_cell k zero (x ∷ words) word h = ap (λ y. filled_line k y ++ filled_lines (suc k) words) (same_Some x word h)
front_cell k (suc n) (x ∷ words) word h = front_cell k n words word h

-- a line after what is there, before the rest
pub line_on : (text new line rest all whole : List ℕ) → new ≡ text ++ line → all ≡ line ++ rest → text ++ all ≡ whole
    → new ++ rest ≡ whole
line_on text new line rest all whole new_is all_is so_far = ap (λ t. t ++ rest) new_is ∙ append_assoc text line rest
    ∙ ap (λ t. text ++ t) (sym all_is) ∙ so_far
