-- What an expression reads the same in two states, in the form that code of expressions asks for.
use Rattle.refine_calls.specs.rpp_tree.Tree.{Expression, Number, Null, Variable, Element, Binary, Lvalue, Whole, Item, Source}
use Rattle.refine_calls.specs.roopl_semantics.Store.{State}
use Rattle.meaning_inverse.proofs.Steady.{SameReads, SamePlace, value_same, place_same}
use Rattle.expr_uncompute.specs.Means.{SameValues, SameCells}

pub values_of_reads : (program : Source) (st end : State) (e : Expression) → SameReads program st end e
    → SameValues program st end e
values_of_reads program st end (Number at word) h = tt
values_of_reads program st end (Null at) h = tt
values_of_reads program st end (Variable name) h = h
values_of_reads program st end (Element name index) h =
    (value_same program st end (Element name index) h, values_of_reads program st end index h.0)
values_of_reads program st end (Binary at op left right) h = (
  value_same program st end (Binary at op left right) h,
  values_of_reads program st end left h.0,
  values_of_reads program st end right h.1,
)

pub cells_of_place : (program : Source) (st end : State) (t : Lvalue) → SamePlace program st end t
    → SameCells program st end t
cells_of_place program st end (Whole name) h = h
cells_of_place program st end (Item name index) h = (
  place_same program st end (Item name index) h,
  values_of_reads program st end index h.0,
)
