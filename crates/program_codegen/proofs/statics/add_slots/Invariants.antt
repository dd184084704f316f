use Rattle.std.proofs.Common.{◌≡◌, ◌++◌, ◌+◌, ℕ, List, map, take}
use Rattle.std.specs.Prelude.{slice_index}
use Rattle.refine_program.specs.rpp_tree.Views.{source_of}
use Rattle.refine_program.specs.class_rules.Classes.{class_slots}
use Rattle.refine_program.specs.paired_code.Link.{static_word}
use Rattle.refine_program.specs.Methods.{routine_of}
use Rattle.program_codegen.proofs.statics.add_slots.Given as goal

-- the slots so far
abbrev pub invariant-loop-slot : goal.invariant-loop-slot
invariant-loop-slot l =
    (places : List ℕ) → map (static_word places) l.words.items
    ≡ map (static_word places) l.initial.words.items
    ++ map (λ x. slice_index places (1 + routine_of (source_of l.checked) x.1))
    (take l.slot (class_slots (source_of l.checked) l.class))
