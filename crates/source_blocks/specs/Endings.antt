-- What a block ends in.
use Rattle.std.specs.Prelude.{◌≡◌, List, []}
use Rattle.source_steps.specs.rpp_tree.Views.{expression_of}
use Rattle.source_steps.specs.roopl_semantics.Store.{Value}
use Rattle.source_steps.specs.roopl_semantics.Value.{Cell}
use Rattle.source_steps.specs.meaning_machine.Machine.{Open, Chosen, Calling, Caller as From}
use Rattle.source_blocks.specs.declared.frames.Part.TheVariants as runs
use Rattle.source_blocks.specs.declared.ending.Ending.{Ending}
use Rattle.source_blocks.specs.declared.ending.Ending.TheVariants as ending
use Rattle.source_blocks.specs.Opens.{part_of, HasPart}

-- the innermost open statement is a call
pub record IsInCall (around : List Open) : Type 0 where
  pub caller : From
  pub receiver : List Cell
  pub args : List Cell
  pub held : List Value
  pub part : HasPart around (Calling caller receiver args held)

-- what a block ends in is the part of the innermost open statement that runs
abbrev pub IsEnding : Ending → List Open → Type 0
IsEnding ending.Over around = around ≡ []
IsEnding (ending.Chosen side test after) around =
    HasPart around (Chosen side (expression_of test.now) (expression_of after.now))
IsEnding (ending.First turns) around = HasPart around (part_of (runs.First turns))
IsEnding (ending.Again turns) around = HasPart around (part_of (runs.Again turns))
IsEnding (ending.Holding local) around = HasPart around (part_of (runs.Holding local))
IsEnding ending.Calling around = IsInCall around
