-- What a fragment is: its cells and its marks; and how the calls put them together.
use Rattle.std.specs.Prelude.{ℕ, ◌+◌, ◌-◌, ◌≤◌, List, [], ◌∷◌, ◌++◌, length, take, drop}
use Rattle.paired_code.specs.declared.part.Symbol.{Symbol}
use Rattle.code_conventions.specs.pisa_isa.declared.notes.TheConstants.{LAST_PLACE}
use Rattle.code_conventions.specs.pisa_isa.declared.notes.Mark.{Mark}
use Rattle.paired_code.specs.Layout.{branch_cells, loop_cells}
use Rattle.paired_code.specs.Fit.{AllSymbolsFit}

pub record Code : Type 0 where
  pub cells : List Symbol
  pub marks : List Mark

-- each mark is a range of so many cells, with a place that a source can have
abbrev pub AllWithin : ℕ → List Mark → Type 0
AllWithin n [] = Unit {0}
AllWithin n (k ∷ ks) = (k.first ≤ k.end) × ((k.end ≤ n) × (k.at ≤ LAST_PLACE)) × AllWithin n ks

-- what each fragment keeps: cells each of which an image may hold, and marks on them
pub record KeptCode (cells : List Symbol) (marks : List Mark) : Type 0 where
  pub fit : AllSymbolsFit cells
  pub within : AllWithin (length cells) marks

abbrev pub moved_on : ℕ → Mark → Mark
moved_on n k = record { first = n + k.first; end = n + k.end; at = k.at }

abbrev pub shift : ℕ → List Mark → List Mark
shift n [] = []
shift n (k ∷ ks) = moved_on n k ∷ shift n ks

abbrev pub unmarked : List Symbol → Code
unmarked p = record { cells = p; marks = [] }

abbrev pub seq_code : Code → Code → Code
seq_code a b = record {
  cells = a.cells ++ b.cells;
  marks = a.marks ++ shift (length a.cells) b.marks;
}

abbrev pub branch_code : ℕ → Code → Code → Code
branch_code r p q = record {
  cells = branch_cells r p.cells q.cells;
  marks = shift 2 q.marks ++ shift (5 + length q.cells) p.marks;
}

abbrev pub loop_code : ℕ → Code → Code → Code
loop_code r head tail = record {
  cells = loop_cells r head.cells tail.cells;
  marks = shift 3 tail.marks ++ shift (5 + length tail.cells) head.marks;
}

abbrev pub marked_code : ℕ → Code → Code
marked_code at p = record {
  cells = p.cells;
  marks = p.marks ++ record { first = 0; end = length p.cells; at = at } ∷ [];
}

-- only the cells, of each
abbrev pub bodies : List Code → List (List Symbol)
bodies [] = []
bodies (c ∷ cs) = c.cells ∷ bodies cs

-- a place of the source, and the cells that it made
pub record Marked : Type 0 where
  pub at : ℕ
  pub cells : List Symbol

abbrev pub marked_parts : List Symbol → List Mark → List Marked
marked_parts cells [] = []
marked_parts cells (k ∷ ks) =
    record { at = k.at; cells = take (k.end - k.first) (drop k.first cells) }
    ∷ marked_parts cells ks

abbrev pub parts : Code → List Marked
parts c = marked_parts c.cells c.marks

-- ---- the marks of an image that is linked of them

-- those of the routines, of which the first has its top at t: each body begins three cells after
-- its routine's top
abbrev pub routine_marks : ℕ → List Code → List Mark
routine_marks t [] = []
routine_marks t (b ∷ bs) = shift (t + 1 + 1 + 1) b.marks
    ++ routine_marks (t + 1 + 1 + 1 + length b.cells + 1) bs

-- main begins at cell 1, and the routines after FINISH
abbrev pub link_marks : Code → List Code → List Mark
link_marks main routines = shift 1 main.marks ++ routine_marks (1 + length main.cells + 1) routines

-- how many marks fragments have together
abbrev pub marks_size : List Code → ℕ
marks_size [] = 0
marks_size (b ∷ bs) = length b.marks + marks_size bs

-- the marks of each fragment are ranges of its cells
abbrev pub EachWithin : List Code → Type 0
EachWithin [] = Unit {0}
EachWithin (b ∷ bs) = AllWithin (length b.cells) b.marks × EachWithin bs
