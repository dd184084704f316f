-- The laws of blocks, and the induction over fuel, in the worlds of plain data.
use Rattle.std.specs.Prelude.{ℕ, List, [], ◌++◌}
use Rattle.refine_frame.specs.rpp_tree.Tree.{Statement, Statements, End, Then}
use Rattle.paired_code.specs.declared.part.Symbol.{Symbol}
use Rattle.refine_form.specs.Form.{Scope, Owes, StmtLaw, BlockLaw, AllMethods}
use Rattle.refine_form.specs.Worlds.{Place, world_of}

-- no code is the code of the empty block
abbrev pub NothingIsABlock : Type 0
NothingIsABlock = (place : Place) (s : Scope) → BlockLaw (world_of place) s End []

-- the code of a statement and then that of a block is the code of the two
abbrev pub BlocksAreRows : Type 0
BlocksAreRows =
    (place : Place) (s : Scope) (first : Statement) (rest : Statements) (p q : List Symbol)
    → StmtLaw (world_of place) s first p → BlockLaw (world_of place) s rest q
    → BlockLaw (world_of place) s (Then first rest) (p ++ q)

-- if each routine's body has the law of its method, nothing more is assumed about the routines, for
-- any fuel
abbrev pub NothingIsOwed : Type 0
NothingIsOwed = (place : Place) → AllMethods (world_of place) → (n : ℕ) → Owes (world_of place) n
