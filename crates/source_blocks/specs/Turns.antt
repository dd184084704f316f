-- A loop that goes on in the other part of its iteration.
use Rattle.std.specs.Prelude.{◌≡◌, ◌++◌, Bool, if◌then◌else◌, List, [], ◌∷◌}
use Rattle.source_steps.specs.rpp_tree.Tree.{Statements, End}
use Rattle.source_steps.specs.meaning_machine.Machine.{Config, OpenPart, First, Again, Open, turned_to}
use Rattle.source_blocks.specs.declared.frames.Frame.{Frame}
use Rattle.source_blocks.specs.Opens.{open_of, part_of, IsOpen}

-- the part of a loop's iteration in which it goes on: the second, or the first
abbrev pub loop_part : Bool → OpenPart → OpenPart
loop_part second (First entry first again exit) =
    if second then Again entry first again exit else First entry first again exit
loop_part second (Again entry first again exit) =
    if second then Again entry first again exit else First entry first again exit
loop_part second part = part

-- its block, or nothing if the loop runs there already
abbrev pub loop_block : Bool → OpenPart → Statements
loop_block second (First entry first again exit) = if second then again else End
loop_block second (Again entry first again exit) = if second then End else first
loop_block second part = End

-- the innermost open statement goes on in a part of its iteration, if one is open
abbrev pub gone_over : Bool → Config → List Open → Config
gone_over second x [] = x
gone_over second x (o ∷ around) =
    turned_to x o around (loop_part second o.part) (loop_block second o.part)

-- the last of these open statements goes on in a part of its iteration, which has this block
pub record Changed (second : Bool) (old new : List Frame) (body : Statements) : Type 0 where
  pub front : List Frame
  pub first : Frame
  pub last : Frame
  pub was : old ≡ front ++ first ∷ []
  pub is : new ≡ front ++ last ∷ []
  pub turned : open_of last
      ≡ record (open_of first) { part = loop_part second (part_of first.part) }
  pub task : body ≡ loop_block second (part_of first.part)
  pub opens : IsOpen first → IsOpen last
