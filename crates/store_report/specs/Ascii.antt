-- Names that can be printed byte by byte.
use Rattle.std.specs.Prelude.{ℕ, All}
use Rattle.std.specs.Str.{IsAscii}
use Rattle.meaning_reached.specs.rpp_tree.declared.tree.Var.{Var}
use Rattle.meaning_reached.specs.rpp_tree.Tree.{Source}
use Rattle.refine_frame.specs.class_rules.Members.{class_at}
use Rattle.refine_frame.specs.class_rules.Table.{Table, fields_in}

abbrev pub HasAsciiName : Var → Type 0
HasAsciiName var = IsAscii var.name.text

-- all names that are printed are ASCII
pub record AreAscii (program : Source) (table : Table) : Type 0 where
  pub fields : (class : ℕ) → All HasAsciiName (fields_in table class)
  pub classes : (class : ℕ) → IsAscii (class_at program class).name.text
