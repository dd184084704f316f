-- The laws in the form of their statements.
use Rattle.refine_form.specs.Worlds.{world_of}
use Rattle.refine_form.specs.Laws.{NothingIsABlock, BlocksAreRows, NothingIsOwed}
use Rattle.refine_form.proofs.Blocks.{end_law, then_law, all_owe}

pub nothing_is_a_block : NothingIsABlock
nothing_is_a_block place s = end_law (world_of place) s

pub blocks_are_rows : BlocksAreRows
blocks_are_rows place s first rest p q hp hq = then_law (world_of place) s first rest p q hp hq

pub nothing_is_owed : NothingIsOwed
nothing_is_owed place laws n = all_owe (world_of place) laws n
