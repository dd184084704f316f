-- The reversed machine: what was past is still to come, inverted.
use Rattle.std.specs.Prelude.{◌≡◌, ℕ, map}
use Rattle.meaning_points.specs.rpp_tree.Tree.{Statements, End, Then}
use Rattle.meaning_points.specs.inverse_rules.Inverse.{inverse_statement, inverse}
use Rattle.meaning_points.specs.roopl_semantics.Run.{Done}
use Rattle.meaning_points.specs.roopl_semantics.Execution.{Setting}
use Rattle.meaning_machine.specs.Machine.{Config, Open, OpenPart, Chosen, First, Again, Holding}
use Rattle.meaning_machine.specs.Machine.{Calling, next}

-- each statement undone, in the same order
abbrev pub each_undone : Statements → Statements
each_undone End = End
each_undone (Then s rest) = Then (inverse_statement s) (each_undone rest)

abbrev pub turned_part : OpenPart → OpenPart
turned_part (Chosen side test after) = Chosen side after test
turned_part (First entry first again exit) = First exit (inverse first) (inverse again) entry
turned_part (Again entry first again exit) = Again exit (inverse first) (inverse again) entry
turned_part (Holding name value end_value) = Holding name end_value value
turned_part (Calling caller receiver args held) = Calling caller receiver args held

abbrev pub turned_open : Open → Open
turned_open o = record {
  past = each_undone o.rest;
  here = inverse_statement o.here;
  rest = each_undone o.past;
  part = turned_part o.part;
}

abbrev pub turn : Config → Config
turn x = record {
  past = each_undone x.rest;
  rest = each_undone x.past;
  params = x.params;
  state = x.state;
  around = map turned_open x.around;
}

-- a block whose statements past are these, the last one first, before the rest
abbrev pub unwound : Statements → Statements → Statements
unwound End rest = rest
unwound (Then s past) rest = unwound past (Then s rest)

-- a step of the reversed machine leads back
pub record StepsBack (setting : Setting) (x y : Config) : Type 0 where
  pub cost : ℕ
  pub steps : next setting (turn y) ≡ Done (turn x) cost
