use Rattle.std.proofs.Common.{◌≡◌, ◌++◌, ℕ, List, map}
use Rattle.refine_program.specs.rpp_tree.Views.{source_of}
use Rattle.refine_program.specs.class_rules.First.{each_below}
use Rattle.refine_program.specs.roopl_semantics.Layout.{tables}
use Rattle.refine_program.specs.paired_code.Link.{static_word}
use Rattle.refine_program.specs.Methods.{slot_places}
use Rattle.program_codegen.proofs.statics.add_tables.Given as goal

-- the tables so far
abbrev pub invariant-loop-class : goal.invariant-loop-class
invariant-loop-class l =
    (places : List ℕ) → map (static_word places) l.words.items
    ≡ map (static_word places) l.initial.words.items ++ tables 1
    (each_below (slot_places (source_of l.checked) 1 places) l.class)
