-- The positions of a program's run: its trace points, and then its end.
use Rattle.std.specs.Prelude.{ℕ, List}
use Rattle.roopl_semantics.specs.rpp_words.declared.input.FieldWord.{FieldWord}
use Rattle.roopl_semantics.specs.rpp_words.declared.input.Limits.{Limits}
use Rattle.roopl_semantics.specs.rpp_tree.Tree.{Source}
use Rattle.roopl_semantics.specs.Run.{Run}
use Rattle.roopl_semantics.specs.Store.{State}
use Rattle.roopl_semantics.specs.Execution.{exec}
use Rattle.roopl_semantics.specs.Source.{main_body, starting}
use Rattle.meaning_points.specs.Points.{Point, points}

-- the trace points of a run, and how it ends
pub record Trail : Type 0 where
  pub points : List Point
  pub end : Run State

-- the run of a program, at most n statements deep and long
abbrev pub trail : Source → Limits → List FieldWord → ℕ → Trail
trail program limits input n = record {
  points = points (record { program = program; limits = limits }) n 0 (main_body program)
      (starting program input);
  end = exec (record { program = program; limits = limits }) n (main_body program)
      (starting program input);
}
